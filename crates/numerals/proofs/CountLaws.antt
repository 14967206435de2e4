-- Which digit may come of a number up to a highest, of one to three digits and of a field, and what is then kept.
-- Assumes nothing.
use Rattle.std.specs.Prelude.{Result, IfOk}
use Prim.Native.Nat.{ℕ, zero, suc, ◌+◌, ◌-◌, ◌*◌, ◌^◌, ◌≤◌, ◌<◌}
use native.Mathlib.Nat.{mul-le-mul}
use native.Mathlib.Numerals.{add-one, unary_clauses}
use native.Mathlib.Omega.{arith}
use mathlib.Core.Path.{◌≡◌, refl, sym, ap, ◌∙◌}
use mathlib.Core.Bool.{Bool, true, false, ◌&&◌, ◌||◌, or-true, or-false}
use mathlib.Core.List.{List, []}
use lib.ListN.{get_or}
use lib.Dec.{eqb, leb, ltb}
use borrow.Author.Tests.{leb-true, ltb-true, eqb-true, le-leb, lt-leb, lt-ltb, le-ltb}
use Rattle.symbols.specs.Takes.{took}
use Rattle.symbols.specs.Counts.{up_to, three, field, ten_to}
use Rattle.symbols.proofs.Cuts.{and_both}
use Rattle.recur.specs.declared.Symbol.{Symbol}
use Rattle.recur.specs.Shown.{shown}
use Rattle.numerals.proofs.TestLaws.{test_is}
use Rattle.numerals.proofs.DigitLaws.{Taken}

-- ---- powers of ten

pub ten_is : (n : ℕ) → 10 ^ n ≡ ten_to n
unfolding ten_to
ten_is zero = refl
ten_is (suc n) = let h : 10 ^ n ≡ ten_to n = ten_is n in simp unary_clauses (omega arith)

pub ten_more : (n : ℕ) → ten_to (n + 1) ≡ ten_to n * 10
unfolding ten_to
ten_more n = ap (λ (m : ℕ). ten_to m) (add-one n)

pub ten_some : (n : ℕ) → 1 ≤ ten_to n
unfolding ten_to
ten_some zero = omega arith
ten_some (suc n) = let h : 1 ≤ ten_to n = ten_some n in omega arith

pub ten_few : (n : ℕ) → n ≤ 3 → ten_to n ≤ 1000
unfolding ten_to
ten_few zero h = omega arith
ten_few (suc zero) h = omega arith
ten_few (suc (suc zero)) h = omega arith
ten_few (suc (suc (suc zero))) h = omega arith
ten_few (suc (suc (suc (suc n)))) h = absurd (omega arith)

-- ---- up to a highest

pub number_high : {high n v : ℕ} {t : List ℕ} {i : ℕ} → Taken (up_to high) n v t i → v * 10 + (get_or t i 0 - 48) ≤ high
number_high {high} {n} {v} {t} {i} k = leb-true (v * 10 + (get_or t i 0 - 48)) high k.may

-- ---- one to three

pub three_full : (low n v d : ℕ) → 3 ≤ n → false ≡ (three low).may n v d
three_full low n v d h = sym (rw (le-ltb n 3 h))

pub three_early : (low n v d : ℕ) → n < 2 → true ≡ (three low).may n v d
three_early low n v d h = sym (rw (lt-ltb n 3 (omega arith), lt-ltb n 2 h) (or-true (leb low (v * 10 + d))))

-- the third digit, where the number may not be 0
pub three_third : (low n v d : ℕ) (w : Bool) → n < 3 → 2 ≤ n → (w ≡ true → low ≤ v * 10 + d) → (w ≡ false → v * 10 + d < low) → w ≡ (three low).may n v d
three_third low n v d w h k to not-to =
    test_is w low (v * 10 + d) to not-to ∙ sym (rw (lt-ltb n 3 h, le-ltb n 2 k) (or-false (leb low (v * 10 + d))))

-- at most three digits stand from one place to another, and the value is below ten to their number
pub record Few (at i v : ℕ) : Type 0 where
  pub count : i - at ≤ 3
  pub below : v < ten_to (i - at)

pub few_first : (at : ℕ) → Few at at 0
few_first at = record { count = omega arith; below = ten_some (at - at) }

pub few_small : {at i v : ℕ} → Few at i v → v ≤ 999
few_small {at} {i} {v} f = let h : ten_to (i - at) ≤ 1000 = ten_few (i - at) f.count in omega (arith, f.below)

pub few_more : (low : ℕ) {at i v : ℕ} {t : List ℕ} → at ≤ i → Few at i v → Taken (three low) (i - at) v t i → Few at (i + 1) (v * 10 + (get_or t i 0 - 48))
few_more low {at} {i} {v} {t} l f k =
    let n = i - at in
    let b : get_or t i 0 ≤ 57 = k.digit.most in
    let h : n < 3 = ltb-true n 3 (and_both (ltb n 3) (leb low (v * 10 + (get_or t i 0 - 48)) || ltb n 2) k.may).0 in
    let s : v < ten_to n = f.below in
    let m : ten_to (i + 1 - at) ≡ ten_to n * 10 = ap (λ (x : ℕ). ten_to x) (let z : i + 1 - at ≡ n + 1 = omega arith in z) ∙ ten_more n in
    record { count = omega arith; below = omega arith }

-- what is shown isn't above what is read
pub shown_small : {r : Result (Symbol ℕ) ℕ} (w : Bool) (i v : ℕ) → r ≡ shown (took w i [] v) → v ≤ 999 → IfOk r (λ s. s.value ≤ 999)
shown_small true i v e h = rw e h
shown_small false i v e h = rw e tt

-- ---- a field

pub field_full : (k low high n v d : ℕ) → k ≤ n → false ≡ (field k low high).may n v d
field_full k low high n v d h = sym (rw (le-ltb n k h))

pub field_high : (k low high n v d x u : ℕ) → n < k → x ≡ v * 10 + d → u ≡ ten_to (k - (n + 1)) → high < x * u → false ≡ (field k low high).may n v d
field_high k low high n v d x u h e f l = sym (rw (← e, ← f, lt-ltb n k h, lt-leb (x * u) high l))

-- the least is not too high, so the greatest of the numbers that begin so is asked
pub field_low : (k low high n v d x u : ℕ) (w : Bool) → n < k → x ≡ v * 10 + d → u ≡ ten_to (k - (n + 1)) → x * u ≤ high
    → (w ≡ true → low ≤ x * u + u - 1) → (w ≡ false → x * u + u - 1 < low) → w ≡ (field k low high).may n v d
field_low k low high n v d x u w h e f l to not-to =
    test_is w low (x * u + u - 1) to not-to ∙ sym (rw (← e, ← f, lt-ltb n k h, le-leb (x * u) high l))

-- at most k digits stand from one place to another; with k of them the number is in its range
pub record InField (k low high at i v : ℕ) : Type 0 where
  pub count : i - at ≤ k
  pub small : v ≤ 9999
  pub range : i - at ≡ k → (low ≤ v) × (v ≤ high)

pub field_first : {k low high at : ℕ} → 1 ≤ k → InField k low high at at 0
field_first h = record { count = omega arith; small = omega arith; range = λ f. absurd (omega arith) }

-- where the least of the numbers that begin so isn't too high, what is read isn't either
unit_some : (x u high : ℕ) → 1 ≤ u → x * u ≤ high → x ≤ high
unit_some x u high h l = let m : x * 1 ≤ x * u = mul-le-mul (let z : x ≤ x = omega arith in z) h in omega arith

pub field_more : (k low high : ℕ) {at i v : ℕ} {t : List ℕ} → high ≤ 9999 → at ≤ i → Taken (field k low high) (i - at) v t i
    → InField k low high at (i + 1) (v * 10 + (get_or t i 0 - 48))
unfolding ten_to
field_more k low high {at} {i} {v} {t} h l s =
    let n = i - at in
    let x = v * 10 + (get_or t i 0 - 48) in
    let u = ten_to (k - (n + 1)) in
    let p = and_both (ltb n k) (leb (x * u) high && leb low (x * u + u - 1)) s.may in
    let q = and_both (leb (x * u) high) (leb low (x * u + u - 1)) p.1 in
    let few : n < k = ltb-true n k p.0 in
    let most : x * u ≤ high = leb-true (x * u) high q.0 in
    let least : low ≤ x * u + u - 1 = leb-true low (x * u + u - 1) q.1 in
    let small : x ≤ high = unit_some x u high (ten_some (k - (n + 1))) most in record {
      count = omega arith;
      small = omega arith;
      range = λ e. (let one : u ≡ 1 = ap (λ (m : ℕ). ten_to m) (let z : k - (n + 1) ≡ 0 = omega arith in z) in omega (arith, rw one at least), small);
    }

-- the answer is whole where all digits are read: the range is then kept
pub field_whole : {k low high at i v : ℕ} → InField k low high at i v → eqb (i - at) k ≡ (eqb (i - at) k && (leb low v && leb v high))
field_whole {k} {low} {high} {at} {i} {v} f = go (eqb (i - at) k) refl
  where
    go : (x : Bool) → eqb (i - at) k ≡ x → x ≡ (x && (leb low v && leb v high))
    go false e = refl
    go true e = let r : (low ≤ v) × (v ≤ high) = f.range (eqb-true (i - at) k e) in rw (le-leb low v r.0, le-leb v high r.1)
