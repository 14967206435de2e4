-- Digits and the number that they stand for; numbers up to a value, in one to three digits, and in k digits from low to high.
-- Assumes nothing.
use Prim.Native.Nat.{ℕ, zero, suc, ◌+◌, ◌-◌, ◌*◌, ◌/◌, ◌≤◌, ◌<◌, max}
use native.Mathlib.Nat.{zero-add, sub-zero, mul-le-mul_right, lt_of_mul-lt-mul_right, div-mul-le_self, lt-div-mul-add}
use native.Mathlib.Omega.{arith}
use mathlib.Core.Path.{◌≡◌, refl, ap, ◌∙◌, subst}
use mathlib.Core.Bool.{Bool, true, false, ◌&&◌, ◌||◌, or-true}
use mathlib.Core.List.{List, [], ◌∷◌}
use lib.ListN.{length}
use lib.Dec.{eqb, leb, ltb}
use borrow.Author.Tests.{leb-true, ltb-true, eqb-true, eqb-false, le-leb, lt-ltb, le-ltb, eq-eqb}
use Rattle.symbols.specs.Languages.{is_digit, all_digits, number_from, Numeral}
use Rattle.symbols.specs.Takes.{Takes}
use Rattle.symbols.specs.Readers.{Counting, may_take, Digits, digits}
use Rattle.symbols.specs.Counts.{NoDigit, Number, up_to, Three, three, Field, ten_to, field}
use Rattle.symbols.proofs.Cuts.{and_both}
use Rattle.symbols.proofs.Counted.{takes_digits}
use Rattle.symbols.proofs.Turning.{takes_same}

-- ---- the bytes of digits

both_true : (a b : Bool) → a ≡ true → b ≡ true → (a && b) ≡ true
both_true true b e f = f
both_true false b e f = e

digit_range : (b : ℕ) → is_digit b ≡ true → (48 ≤ b) × (b ≤ 57)
digit_range b e = (leb-true 48 b (and_both (leb 48 b) (leb b 57) e).0, leb-true b 57 (and_both (leb 48 b) (leb b 57) e).1)

digit_at : (d : ℕ) → d ≤ 9 → is_digit (48 + d) ≡ true
digit_at d h = both_true (leb 48 (48 + d)) (leb (48 + d) 57) (le-leb 48 (48 + d) (omega arith)) (le-leb (48 + d) 57 (omega arith))

-- ---- what digits come to behind v: between all zeros and all nines

pub number_least : (v : ℕ) (xs : List ℕ) → v * ten_to (length xs) ≤ number_from v xs
unfolding number_from ten_to
number_least v [] = omega arith
number_least v (b ∷ xs) = step (b - 48) (ten_to (length xs)) (number_from (v * 10 + (b - 48)) xs) (number_least (v * 10 + (b - 48)) xs)
  where
    step : (d T m : ℕ) → (v * 10 + d) * T ≤ m → v * (T * 10) ≤ m
    step d T m h = omega arith

pub number_most : (v : ℕ) (xs : List ℕ) → all_digits xs ≡ true → number_from v xs < v * ten_to (length xs) + ten_to (length xs)
unfolding number_from ten_to all_digits
number_most v [] e = omega arith
number_most v (b ∷ xs) e =
    step (b - 48) (ten_to (length xs)) (number_from (v * 10 + (b - 48)) xs) (omega (arith, digit_range b (and_both (is_digit b) (all_digits xs) e).0))
    (number_most (v * 10 + (b - 48)) xs (and_both (is_digit b) (all_digits xs) e).1)
  where
    step : (d T m : ℕ) → d ≤ 9 → m < (v * 10 + d) * T + T → m < v * (T * 10) + T * 10
    step d T m l h = let k : d * T ≤ 9 * T = mul-le-mul_right T l in omega arith

pub number_grows : (v : ℕ) (xs : List ℕ) → v ≤ number_from v xs
unfolding number_from
number_grows v [] = omega arith
number_grows v (b ∷ xs) = omega (arith, number_grows (v * 10 + (b - 48)) xs)

pub ten_some : (m : ℕ) → 0 < ten_to m
unfolding ten_to
ten_some zero = omega arith
ten_some (suc m) = omega (arith, ten_some m)

-- ---- m digits behind v that come to x

pub record Filled (m v x : ℕ) : Type 0 where
  pub xs : List ℕ
  pub long : length xs ≡ m
  pub all : all_digits xs ≡ true
  pub comes : number_from v xs ≡ x

-- d is the next digit behind v on the way to x, where each one of it is worth T
record Next (v x T d : ℕ) : Type 0 where
  digit : d ≤ 9
  from : (v * 10 + d) * T ≤ x
  below : x < (v * 10 + d) * T + T

next : (v x T : ℕ) → 0 < T → v * (T * 10) ≤ x → x < v * (T * 10) + T * 10 → Next v x T ((x - v * (T * 10)) / T)
next v x T t h l = go ((x - v * (T * 10)) / T) (div-mul-le_self (x - v * (T * 10)) T) (lt-div-mul-add t)
  where
    go : (d : ℕ) → d * T ≤ x - v * (T * 10) → x - v * (T * 10) < d * T + T → Next v x T d
    go d a b = let z : d < 10 = lt_of_mul-lt-mul_right T (omega arith) in record { digit = omega arith; from = omega arith; below = omega arith }

pub filled : (m v x : ℕ) → v * ten_to m ≤ x → x < v * ten_to m + ten_to m → Filled m v x
unfolding ten_to number_from all_digits
filled zero v x h l = record { xs = []; long = refl; all = refl; comes = omega arith }
filled (suc m) v x h l = go ((x - v * (ten_to m * 10)) / ten_to m) (next v x (ten_to m) (ten_some m) h l) (λ u a b. filled m u x a b)
  where
    go : (d : ℕ) → Next v x (ten_to m) d → ((u : ℕ) → u * ten_to m ≤ x → x < u * ten_to m + ten_to m → Filled m u x) → Filled (suc m) v x
    go d n again =
        let r : Filled m (v * 10 + d) x = again (v * 10 + d) n.from n.below in
        let e : v * 10 + ((48 + d) - 48) ≡ v * 10 + d = omega arith in
        record {
          xs = (48 + d) ∷ r.xs;
          long = ap suc r.long;
          all = both_true (is_digit (48 + d)) (all_digits r.xs) (digit_at d n.digit) r.all;
          comes = ap (λ (u : ℕ). number_from u r.xs) e ∙ r.comes;
        }

-- ---- what is counted, is a number

pub digits_numeral : (g : Counting) (n v w : ℕ) (xs : List ℕ) → Digits g n v w xs
    → (all_digits xs ≡ true) × (w ≡ number_from v xs) × (g.enough (n + length xs) w ≡ true)
unfolding Digits all_digits number_from
digits_numeral g n v w [] d = (refl, d.1, rw d.1 (ap (λ (m : ℕ). g.enough m v) (omega arith) ∙ d.0))
digits_numeral g n v w (b ∷ xs) d = go (digits_numeral g (n + 1) (v * 10 + (b - 48)) w xs d.1)
  where
    go : (all_digits xs ≡ true) × (w ≡ number_from (v * 10 + (b - 48)) xs) × (g.enough (n + 1 + length xs) w ≡ true)
        → (all_digits (b ∷ xs) ≡ true) × (w ≡ number_from v (b ∷ xs)) × (g.enough (n + length (b ∷ xs)) w ≡ true)
    go r =
        let i : is_digit b ≡ true = (and_both (is_digit b) (g.may n v (b - 48)) d.0).0 in
        (both_true (is_digit b) (all_digits xs) i r.0, r.1, ap (λ (m : ℕ). g.enough m w) (omega arith) ∙ r.2)

-- ---- a counting and the numbers that it is meant for

-- some digits behind n with the value v that come to such a number
pub record Ending (Meant : ℕ → ℕ → Type 0) (n v : ℕ) : Type 0 where
  pub xs : List ℕ
  pub all : all_digits xs ≡ true
  pub comes : Meant (n + length xs) (number_from v xs)

-- The counting g is meant for the numbers v in n digits with `Meant n v`, and passes states with `Reached n v`: a digit on the way to such
-- a number may be taken, and the number may end; a state that is reached leads to such a number, and is one where it may end.
pub record Serves (g : Counting) (P : ℕ → Type 0) (Reached Meant : ℕ → ℕ → Type 0) : Type 0 where
  pub may : (n v b : ℕ) (xs : List ℕ) → is_digit b ≡ true → all_digits xs ≡ true
      → Meant (n + 1 + length xs) (number_from (v * 10 + (b - 48)) xs) → g.may n v (b - 48) ≡ true
  pub enough : (n v : ℕ) → Meant n v → g.enough n v ≡ true
  pub on : (n v b : ℕ) → Reached n v → may_take g n v b ≡ true → Reached (n + 1) (v * 10 + (b - 48))
  pub ended : (n v : ℕ) → Reached n v → Ending Meant n v
  pub whole : (n v : ℕ) → Reached n v → g.enough n v ≡ true → Meant n v
  pub stops : (n v b : ℕ) → Reached n v → g.enough n v ≡ true → P b → may_take g n v b ≡ false

pub record InDigits (Meant : ℕ → ℕ → Type 0) (v : ℕ) (bs : List ℕ) : Type 0 where
  pub numeral : Numeral v bs
  pub meant : Meant (length bs) v

module _ (g : Counting) (P : ℕ → Type 0) (Reached Meant : ℕ → ℕ → Type 0) (c : Serves g P Reached Meant) where
  pub numeral_digits : (n v : ℕ) (xs : List ℕ) → all_digits xs ≡ true → Meant (n + length xs) (number_from v xs) → Digits g n v (number_from v xs) xs
  unfolding Digits all_digits number_from
  numeral_digits n v [] e o = (c.enough n v (subst (λ (m : ℕ). Meant m v) (omega arith) o), refl)
  numeral_digits n v (b ∷ xs) e o =
      let i : is_digit b ≡ true = (and_both (is_digit b) (all_digits xs) e).0 in
      let f : all_digits xs ≡ true = (and_both (is_digit b) (all_digits xs) e).1 in
      let k : Meant (n + 1 + length xs) (number_from (v * 10 + (b - 48)) xs) =
      subst (λ (m : ℕ). Meant m (number_from (v * 10 + (b - 48)) xs)) (omega arith) o in
      (both_true (is_digit b) (g.may n v (b - 48)) i (c.may n v b xs i f k), numeral_digits (n + 1) (v * 10 + (b - 48)) xs f k)

  reached_end : (n v w : ℕ) (xs : List ℕ) → Reached n v → Digits g n v w xs → Reached (n + length xs) w
  unfolding Digits
  reached_end n v w [] i d = rw d.1 (subst (λ (m : ℕ). Reached m v) (omega arith) i)
  reached_end n v w (b ∷ xs) i d =
      subst (λ (m : ℕ). Reached m w) (omega arith) (reached_end (n + 1) (v * 10 + (b - 48)) w xs (c.on n v b i d.0) d.1)

  to_meant : Reached 0 0 → (v : ℕ) (bs : List ℕ) → Digits g 0 0 v bs → InDigits Meant v bs
  to_meant i v bs d =
      let r : (all_digits bs ≡ true) × (v ≡ number_from 0 bs) × (g.enough (0 + length bs) v ≡ true) = digits_numeral g 0 0 v bs d in
      record {
        numeral = record { digits = r.0; number = r.1 };
        meant = rw zero-add at (c.whole (0 + length bs) v (reached_end 0 0 v bs i d) r.2);
      }

  from_meant : (v : ℕ) (bs : List ℕ) → InDigits Meant v bs → Digits g 0 0 v bs
  from_meant v bs k =
      let e : v ≡ number_from 0 bs = k.numeral.number in
      let o : Meant (0 + length bs) (number_from 0 bs) = rw (zero-add, ← e) k.meant in
      rw e (numeral_digits 0 0 bs k.numeral.digits o)

  pub takes_meant : Reached 0 0 → Takes ℕ (digits g 0 0) (InDigits Meant) P
  takes_meant i = takes_same (takes_digits g P Reached c.on ends c.stops 0 0 i) (to_meant i) from_meant
    where
      ends : (n v : ℕ) → Reached n v → (w : ℕ) × (xs : List ℕ) × Digits g n v w xs
      ends n v r =
          let k : Ending Meant n v = c.ended n v r in
          (number_from v k.xs, k.xs, numeral_digits n v k.xs k.all k.comes)

-- a byte that is no digit is not taken
no_digit : (g : Counting) (n v b : ℕ) → is_digit b ≡ false → may_take g n v b ≡ false
no_digit g n v b e = ap (λ (x : Bool). x && g.may n v (b - 48)) e

-- ---- one digit or more, the value at most high

module _ (high : ℕ) where
  abbrev UpTo : ℕ → ℕ → Type 0
  UpTo n v = (1 ≤ n) × (v ≤ high)

  abbrev BelowIt : ℕ → ℕ → Type 0
  BelowIt n v = (v ≤ high) × (n ≡ 0 → v ≡ 0)

  -- without a digit a zero ends it
  number_ended : (n v : ℕ) → BelowIt n v → Ending UpTo n v
  unfolding number_from all_digits
  number_ended zero v i = record { xs = 48 ∷ []; all = refl; comes = omega (arith, i.1 refl) }
  number_ended (suc n) v i = record { xs = []; all = refl; comes = omega arith }

  number_serves : Serves (up_to high) NoDigit BelowIt UpTo
  number_serves = record {
    may = λ n v b xs i f m. le-leb (v * 10 + (b - 48)) high (omega (arith, number_grows (v * 10 + (b - 48)) xs));
    enough = λ n v m. lt-ltb 0 n m.0;
    on = λ n v b i e. (leb-true _ _ (and_both (is_digit b) _ e).1, λ z. absurd (omega arith));
    ended = number_ended;
    whole = λ n v i e. (ltb-true 0 n e, i.0);
    stops = λ n v b i e p. no_digit (up_to high) n v b p;
  }

  pub takes_number : Takes ℕ (digits (up_to high) 0 0) (Number high) NoDigit
  takes_number = takes_same (takes_meant (up_to high) NoDigit BelowIt UpTo number_serves (omega arith, λ z. refl))
      (λ v bs c. record { numeral = c.numeral; some = c.meant.0; high_enough = c.meant.1 })
      (λ v bs c. record { numeral = c.numeral; meant = (c.some, c.high_enough) })

-- ---- one to three digits, the value at least low

one_of : (a b : Bool) → (a || b) ≡ true → b ≡ false → a ≡ true
one_of true b e f = refl
one_of false b e f = absurd (let z : ◌≡◌ {A = ℕ} 0 1 = cc in omega arith)

module _ (low : ℕ) (small : low ≤ 1) where
  abbrev InThree : ℕ → ℕ → Type 0
  InThree n v = (1 ≤ n) × (n ≤ 3) × (low ≤ v)

  abbrev Begun : ℕ → ℕ → Type 0
  Begun n v = (n ≤ 3) × (n ≡ 3 → low ≤ v)

  -- with fewer than three digits a one ends it
  three_ended : (n v : ℕ) → Begun n v → Ending InThree n v
  unfolding number_from all_digits
  three_ended n v i = go (eqb n 3) refl
    where
      go : (x : Bool) → eqb n 3 ≡ x → Ending InThree n v
      go true e = let z : n ≡ 3 = eqb-true n 3 e in record { xs = []; all = refl; comes = omega (arith, i.1 z) }
      go false e = record { xs = 49 ∷ []; all = refl; comes = omega (arith, eqb-false n 3 e) }

  three_on : (n v b : ℕ) → may_take (three low) n v b ≡ true → Begun (n + 1) (v * 10 + (b - 48))
  three_on n v b e =
      (omega (arith, ltb-true n 3 f.0), λ z. leb-true low (v * 10 + (b - 48)) (one_of _ (ltb n 2) f.1 (le-ltb n 2 (omega arith))))
    where
      f : (ltb n 3 ≡ true) × ((leb low (v * 10 + (b - 48)) || ltb n 2) ≡ true)
      f = and_both _ _ (and_both (is_digit b) _ e).1

  three_may : (n v d : ℕ) (xs : List ℕ) → InThree (n + 1 + length xs) (number_from (v * 10 + d) xs) → (three low).may n v d ≡ true
  unfolding number_from
  three_may n v d xs m = both_true (ltb n 3) _ (lt-ltb n 3 (omega arith)) (low_or_more xs m)
    where
      low_or_more : (xs : List ℕ) → InThree (n + 1 + length xs) (number_from (v * 10 + d) xs) → (leb low (v * 10 + d) || ltb n 2) ≡ true
      low_or_more [] m = rw (le-leb low (v * 10 + d) m.2)
      low_or_more (b ∷ xs) m = rw (lt-ltb n 2 (omega arith)) (or-true (leb low (v * 10 + d)))

  three_serves : Serves (three low) NoDigit Begun InThree
  three_serves = record {
    may = λ n v b xs i f m. three_may n v (b - 48) xs m;
    enough = λ n v m. both_true (ltb 0 n) (leb low v) (lt-ltb 0 n m.0) (le-leb low v m.2);
    on = λ n v b i e. three_on n v b e;
    ended = three_ended;
    whole = λ n v i e. (ltb-true 0 n (and_both _ _ e).0, i.0, leb-true _ _ (and_both (ltb 0 n) _ e).1);
    stops = λ n v b i e p. no_digit (three low) n v b p;
  }

  pub takes_three : Takes ℕ (digits (three low) 0 0) (Three low) NoDigit
  takes_three = takes_same (takes_meant (three low) NoDigit Begun InThree three_serves (omega arith, λ z. absurd (omega arith)))
      (λ v bs c. record { numeral = c.numeral; some = c.meant.0; few = c.meant.1; least = c.meant.2 })
      (λ v bs c. record { numeral = c.numeral; meant = (c.some, c.few, c.least) })

-- ---- k digits, the value from low to high

module _ (k low high : ℕ) (some : low ≤ high) (fits : high < ten_to k) where
  abbrev InField : ℕ → ℕ → Type 0
  InField n v = (n ≡ k) × (low ≤ v) × (v ≤ high)

  -- some number from low to high begins with v
  record Opens (n v : ℕ) : Type 0 where
    short : n ≤ k
    from : v * ten_to (k - n) ≤ high
    below : low < v * ten_to (k - n) + ten_to (k - n)

  field_ended : (n v : ℕ) → Opens n v → Ending InField n v
  field_ended n v i = ending (filled (k - n) v (max low (v * ten_to (k - n))) (omega arith) (omega (arith, ten_some (k - n))))
    where
      ending : Filled (k - n) v (max low (v * ten_to (k - n))) → Ending InField n v
      ending f = record { xs = f.xs; all = f.all; comes = omega arith }

  field_on : (n v b : ℕ) → may_take (field k low high) n v b ≡ true → Opens (n + 1) (v * 10 + (b - 48))
  field_on n v b e = record {
    short = omega (arith, ltb-true n k f.0);
    from = leb-true _ high g.0;
    below = omega (arith, leb-true low _ g.1, ten_some (k - (n + 1)));
  }
    where
      u : ℕ
      u = (v * 10 + (b - 48)) * ten_to (k - (n + 1))

      f : (ltb n k ≡ true) × ((leb u high && leb low (u + ten_to (k - (n + 1)) - 1)) ≡ true)
      f = and_both _ _ (and_both (is_digit b) _ e).1

      g : (leb u high ≡ true) × (leb low (u + ten_to (k - (n + 1)) - 1) ≡ true)
      g = and_both _ _ f.1

  field_may : (n v d : ℕ) (xs : List ℕ) → all_digits xs ≡ true → InField (n + 1 + length xs) (number_from (v * 10 + d) xs)
      → (field k low high).may n v d ≡ true
  field_may n v d xs e m =
      let l : length xs ≡ k - (n + 1) = omega arith in
      let a : (v * 10 + d) * ten_to (k - (n + 1)) ≤ number_from (v * 10 + d) xs = rw l at (number_least (v * 10 + d) xs) in
      let b : number_from (v * 10 + d) xs < (v * 10 + d) * ten_to (k - (n + 1)) + ten_to (k - (n + 1)) = rw l at (number_most (v * 10 + d) xs e) in
      both_true (ltb n k) _ (lt-ltb n k (omega arith)) (both_true (leb _ high) _ (le-leb _ high (omega arith)) (le-leb low _ (omega arith)))

  field_whole : (n v : ℕ) → (field k low high).enough n v ≡ true → InField n v
  field_whole n v e = (eqb-true n k f.0, leb-true low v g.0, leb-true v high g.1)
    where
      f : (eqb n k ≡ true) × ((leb low v && leb v high) ≡ true)
      f = and_both _ _ e

      g : (leb low v ≡ true) × (leb v high ≡ true)
      g = and_both _ _ f.1

  field_stops : (n v b : ℕ) → (field k low high).enough n v ≡ true → may_take (field k low high) n v b ≡ false
  field_stops n v b e = go (may_take (field k low high) n v b) refl
    where
      go : (x : Bool) → may_take (field k low high) n v b ≡ x → may_take (field k low high) n v b ≡ false
      go true f = absurd (omega (arith, (field_on n v b f).short, (field_whole n v e).0))
      go false f = f

  field_serves : Serves (field k low high) (λ (b : ℕ). Unit {0}) Opens InField
  field_serves = record {
    may = λ n v b xs i f m. field_may n v (b - 48) xs f m;
    enough = λ n v m. both_true (eqb n k) _ (eq-eqb n k m.0) (both_true (leb low v) _ (le-leb low v m.1) (le-leb v high m.2));
    on = λ n v b i e. field_on n v b e;
    ended = field_ended;
    whole = λ n v i e. field_whole n v e;
    stops = λ n v b i e p. field_stops n v b e;
  }

  pub takes_field : Takes ℕ (digits (field k low high) 0 0) (Field k low high) (λ (b : ℕ). Unit {0})
  takes_field = takes_same (takes_meant (field k low high) (λ (b : ℕ). Unit {0}) Opens InField field_serves start)
      (λ v bs c. record { numeral = c.numeral; wide = c.meant.0; least = c.meant.1; greatest = c.meant.2 })
      (λ v bs c. record { numeral = c.numeral; meant = (c.wide, c.least, c.greatest) })
    where
      start : Opens 0 0
      start = record { short = omega arith; from = omega arith; below = rw (sub-zero k) (omega arith) }
