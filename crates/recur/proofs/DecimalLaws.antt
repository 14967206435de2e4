-- Decimals: a number written in digits is a numeral of that number, with as many digits as it needs, or as many as are asked for.
-- Assumes nothing.
use Prim.Native.Nat.{ℕ, zero, suc, ◌+◌, ◌-◌, ◌*◌, ◌/◌, ◌%◌, ◌≤◌, ◌<◌}
use native.Mathlib.Omega.{arith}
use mathlib.Core.Path.{◌≡◌, refl}
use mathlib.Core.Logic.{⊎_elim}
use mathlib.Core.Bool.{true}
use mathlib.Core.List.{List, [], ◌∷◌, ◌++◌}
use lib.ListN.{length, length-append}
use borrow.Author.Tests.{le-leb, lt-ltb, le-ltb}
use Rattle.rule.proofs.FillLaws.{both}
use Rattle.rule.proofs.Order.{below_or}
use Rattle.symbols.specs.Languages.{is_digit, all_digits, number_from, Numeral}
use Rattle.symbols.specs.Counts.{Number, Three, Field, ten_to}
use Rattle.recur.specs.Writing.{decimal_within, decimal, padded}

-- one digit behind others
digits_append : (xs : List ℕ) (b : ℕ) → is_digit b ≡ true → all_digits xs ≡ true → all_digits (xs ++ b ∷ []) ≡ true
unfolding all_digits
digits_append [] b h e = rw h
digits_append (x ∷ xs) b h e = let d = both (is_digit x) (all_digits xs) e in rw d.0 (digits_append xs b h d.1)

number_append : (v : ℕ) (xs : List ℕ) (b : ℕ) → number_from v (xs ++ b ∷ []) ≡ number_from v xs * 10 + (b - 48)
unfolding number_from
number_append v [] b = refl
number_append v (x ∷ xs) b = number_append (v * 10 + (x - 48)) xs b

-- so a numeral with one digit more is one
digit_more : (v d : ℕ) (bs : List ℕ) → d < 10 → Numeral v bs → Numeral (v * 10 + d) (bs ++ (48 + d) ∷ [])
digit_more v d bs h m = record {
  digits = digits_append bs (48 + d) (rw (le-leb 48 (48 + d) (omega arith), le-leb (48 + d) 57 (omega arith))) m.digits;
  number = let e : v ≡ number_from 0 bs = m.number in let z : 48 + d - 48 ≡ d = omega arith in rw (number_append 0 bs (48 + d), z, e);
}

no_digits : Numeral 0 []
unfolding all_digits number_from
no_digits = record { digits = refl; number = refl }

one_digit : (n : ℕ) → n < 10 → Numeral n ((48 + n) ∷ [])
one_digit n h = let e : 0 * 10 + n ≡ n = omega arith in rw e at (digit_more 0 n [] h no_digits)

last_digit : (n : ℕ) (bs : List ℕ) → Numeral (n / 10) bs → Numeral n (bs ++ (48 + n % 10) ∷ [])
last_digit n bs m = let e : n / 10 * 10 + n % 10 ≡ n = omega arith in rw e at (digit_more (n / 10) (n % 10) bs (omega arith) m)

-- a number of one digit, and one of more
pub within_low : (k n : ℕ) → n < 10 → decimal_within (suc k) n ≡ (48 + n) ∷ []
unfolding decimal_within
within_low k n h = rw (lt-ltb n 10 h, decimal_within)

pub within_high : (k n : ℕ) → 10 ≤ n → decimal_within (suc k) n ≡ decimal_within k (n / 10) ++ (48 + n % 10) ∷ []
unfolding decimal_within
within_high k n h = rw (le-ltb n 10 h, decimal_within)

-- a number in as many digits as it needs, of k at most
within_numeral : (k n : ℕ) → n < ten_to k → Numeral n (decimal_within k n)
unfolding decimal_within ten_to
within_numeral zero n h = let e : 0 ≡ n = omega arith in rw (← e) no_digits
within_numeral (suc k) n h =
    ⊎_elim (λ (l : n < 10). rw (within_low k n l) (one_digit n l))
    (λ (l : 10 ≤ n). rw (within_high k n l) (last_digit n (decimal_within k (n / 10)) (within_numeral k (n / 10) (omega arith)))) (below_or n 10)

within_some : (k n : ℕ) → 1 ≤ length (decimal_within (suc k) n)
within_some k n =
    ⊎_elim (λ (l : n < 10). rw (within_low k n l) (omega arith)) (λ (l : 10 ≤ n). rw (within_high k n l, length-append) (omega arith)) (below_or n 10)

within_few : (k j n : ℕ) → n < ten_to (suc j) → length (decimal_within k n) ≤ suc j
unfolding decimal_within ten_to
within_few zero j n h = omega arith
within_few (suc k) zero n h = rw (within_low k n (omega arith)) (omega arith)
within_few (suc k) (suc j) n h =
    ⊎_elim (λ (l : n < 10). rw (within_low k n l) (omega arith))
    (λ (l : 10 ≤ n). rw (within_high k n l, length-append) (omega (arith, within_few k j (n / 10) (omega arith)))) (below_or n 10)

-- a number in k digits
pub padded_numeral : (k n : ℕ) → n < ten_to k → Numeral n (padded k n)
unfolding padded ten_to
padded_numeral zero n h = let e : 0 ≡ n = omega arith in rw (← e) no_digits
padded_numeral (suc k) n h = last_digit n (padded k (n / 10)) (padded_numeral k (n / 10) (omega arith))

pub padded_length : (k n : ℕ) → length (padded k n) ≡ k
unfolding padded
padded_length zero n = refl
padded_length (suc k) n = simp (length-append, padded_length k (n / 10)) (omega arith)

-- what is written is what the grammar asks for
pub decimal_numeral : (n : ℕ) → n < ten_to 20 → Numeral n (decimal n)
decimal_numeral n h = within_numeral 20 n h

pub decimal_some : (n : ℕ) → 1 ≤ length (decimal n)
decimal_some n = within_some 19 n

pub decimal_few : (k n : ℕ) → 1 ≤ k → n < ten_to k → length (decimal n) ≤ k
decimal_few zero n l h = absurd (omega arith)
decimal_few (suc k) n l h = within_few 20 k n h

pub decimal_number : (high n : ℕ) → n < ten_to 20 → n ≤ high → Number high n (decimal n)
decimal_number high n h l = record { numeral = decimal_numeral n h; some = decimal_some n; high_enough = l }

pub decimal_three : (low n : ℕ) → n < 1000 → low ≤ n → Three low n (decimal n)
unfolding ten_to
decimal_three low n h l = record { numeral = decimal_numeral n (omega arith); some = decimal_some n; few = decimal_few 3 n (omega arith) h; least = l }

pub padded_field : (k low high n : ℕ) → n < ten_to k → low ≤ n → n ≤ high → Field k low high n (padded k n)
padded_field k low high n h l g = record { numeral = padded_numeral k n h; wide = padded_length k n; least = l; greatest = g }
