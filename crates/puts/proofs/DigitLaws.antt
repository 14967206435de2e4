-- Numbers in digits, by their last digits.
-- Assumes nothing.
use Prim.Native.Nat.{ℕ, zero, suc, ◌+◌, ◌*◌, ◌/◌, ◌%◌, ◌≤◌, ◌<◌}
use mathlib.Core.Path.{◌≡◌, refl, sym, ap, ◌∙◌}
use mathlib.Core.Logic.{⊎_elim}
use mathlib.Core.Bool.{true, false}
use lib.Signed.{lt_z}
use mathlib.Core.List.{List, [], ◌∷◌, ◌++◌}
use native.Mathlib.Omega.{arith}
use borrow.Author.Tests.{ltb-true, lt-ltb, le-ltb}
use Rattle.std.specs.Prelude.{ℤ, pos, negsuc, unsigned_abs}
use Rattle.rule.proofs.Order.{below_or}
use Rattle.symbols.specs.Counts.{ten_to}
use Rattle.calendar.specs.Calendar.{date_of}
use Rattle.recur.specs.Writing.{decimal_within, decimal, padded, signed_text, date_text, clock_text, moment_text}

-- a number of one digit, and one of more
low : (k n : ℕ) → n < 10 → decimal_within (suc k) n ≡ (48 + n) ∷ []
unfolding decimal_within
low k n h = rw (lt-ltb n 10 h, decimal_within)

high : (k n : ℕ) → 10 ≤ n → decimal_within (suc k) n ≡ decimal_within k (n / 10) ++ (48 + n % 10) ∷ []
unfolding decimal_within
high k n h = rw (le-ltb n 10 h, decimal_within)

-- digits more than a number has change nothing
enough : (k n : ℕ) → n < ten_to (suc k) → decimal_within (suc k) n ≡ decimal_within (suc (suc k)) n
unfolding ten_to
enough zero n h = low zero n (omega arith) ∙ sym (low (suc zero) n (omega arith))
enough (suc k) n h =
    ⊎_elim
    (λ (l : n < 10). low (suc k) n l ∙ sym (low (suc (suc k)) n l))
    (λ (l : 10 ≤ n).
    high (suc k) n l
    ∙ ap (λ (xs : List ℕ). xs ++ (48 + n % 10) ∷ []) (enough k (n / 10) (omega arith))
    ∙ sym (high (suc (suc k)) n l))
    (below_or n 10)

pub one_digit : (n b : ℕ) → n < 10 → b ≡ 48 + n → b ∷ [] ≡ decimal n
one_digit n b h e = ap (λ (x : ℕ). x ∷ []) e ∙ sym (low 19 n h)

pub last_digit : (n q b : ℕ) → 10 ≤ n → n ≤ 4294967295 → q ≡ n / 10 → b ≡ 48 + n % 10 → decimal q ++ (b ∷ []) ≡ decimal n
unfolding ten_to
last_digit n q b h f e g = rw (e, g) (ap (λ (xs : List ℕ). xs ++ (48 + n % 10) ∷ []) (sym (enough 18 (n / 10) (omega arith))) ∙ sym (high 19 n h))

-- two digits, and four
pub two_digits : (n a b : ℕ) → a ≡ 48 + n / 10 % 10 → b ≡ 48 + n % 10 → a ∷ (b ∷ []) ≡ padded 2 n
unfolding padded
two_digits n a b e f = rw (e, f)

pub four_digits : (n p q : ℕ) → p ≡ n / 100 → q ≡ n → padded 2 p ++ padded 2 q ≡ padded 4 n
unfolding padded
four_digits n p q e f =
    let x : n / 10 / 10 ≡ n / 100 = omega arith in
    rw (e, f, x)

-- a value's sign, and its digits behind it
abbrev pub sign_text : ℤ → List ℕ
sign_text (pos n) = []
sign_text (negsuc n) = 45 ∷ []

pub sign_and_digits : (v : ℤ) (n : ℕ) → n ≡ unsigned_abs v → sign_text v ++ decimal n ≡ signed_text v
unfolding signed_text
sign_and_digits (pos k) n e = ap decimal e
sign_and_digits (negsuc k) n e = ap (λ (x : ℕ). 45 ∷ decimal x) e

pub signed_below : (v : ℤ) → lt_z v (pos 0) ≡ true → 45 ∷ [] ≡ sign_text v
signed_below (pos n) h = let l : n < 0 = ltb-true n 0 h in absurd (omega arith)
signed_below (negsuc n) h = refl

pub unsigned_from : (v : ℤ) → lt_z v (pos 0) ≡ false → [] ≡ sign_text v
unsigned_from (pos n) h = refl
unsigned_from (negsuc n) h = absurd (let z : ◌≡◌ {A = ℕ} 0 1 = cc in omega arith)

-- a moment: the date, T, the time of the day, Z
pub moment_parts : (t s : ℕ) → s ≡ t + 719162 * 86400 → date_text (date_of (s / 86400)) ++ (84 ∷ (clock_text s ++ (90 ∷ []))) ≡ moment_text t
unfolding moment_text
moment_parts t s e = rw e
