-- The lengths of months, by the month's number.
-- Assumes nothing.
use Rattle.std.specs.Prelude.{if◌then◌else◌}
use Prim.Native.Nat.{ℕ, zero, suc, ◌≤◌, ◌<◌}
use native.Mathlib.Omega.{arith}
use mathlib.Core.Path.{◌≡◌, refl, ap, ◌∙◌}
use mathlib.Core.Logic.{◌⊎◌, inl, inr}
use mathlib.Core.Bool.{Bool, true, false, ◌||◌}
use lib.Dec.{eqb}
use borrow.Author.Tests.{ne_eqb}
use Rattle.calendar.specs.Calendar.{month_length}
use Rattle.calendar.proofs.Table.{same_below}

pub length_at : {long b : Bool} {m n : ℕ} → long ≡ b → m ≡ n → month_length long m ≡ month_length b n
length_at {long} {b} {m} {n} e f = ap (λ (x : Bool). month_length x m) e ∙ ap (λ (x : ℕ). month_length b x) f

-- the months of thirty days, and as a test
abbrev pub Thirty : ℕ → Type 0
Thirty m = (m ≡ 4) ⊎ ((m ≡ 6) ⊎ ((m ≡ 9) ⊎ (m ≡ 11)))

abbrev is_thirty : ℕ → Bool
is_thirty m = eqb m 4 || (eqb m 6 || (eqb m 9 || eqb m 11))

pub thirty : (long : Bool) (m : ℕ) → Thirty m → month_length long m ≡ 30
unfolding month_length
thirty long m (inl e) = ap (month_length long) e
thirty long m (inr (inl e)) = ap (month_length long) e
thirty long m (inr (inr (inl e))) = ap (month_length long) e
thirty long m (inr (inr (inr e))) = ap (month_length long) e

abbrev february : Bool → ℕ
february long = if long then 29 else 28

by_number : (long : Bool) (m : ℕ) → m < 12 → month_length long (suc m) ≡ (if eqb (suc m) 2 then february long else (if is_thirty (suc m) then 30 else 31))
unfolding month_length
by_number true m h =
    same_below (λ (m : ℕ). month_length true (suc m)) (λ (m : ℕ). if eqb (suc m) 2 then 29 else (if is_thirty (suc m) then 30 else 31)) 0 12 refl m h
by_number false m h =
    same_below (λ (m : ℕ). month_length false (suc m)) (λ (m : ℕ). if eqb (suc m) 2 then 28 else (if is_thirty (suc m) then 30 else 31)) 0 12 refl m h

-- any other month has thirty-one
pub thirty_one : (long : Bool) (m : ℕ) → 1 ≤ m → m ≤ 12 → (m ≡ 2 → ⊥) → (Thirty m → ⊥) → month_length long m ≡ 31
thirty_one long zero l h e f = absurd (omega arith)
thirty_one long (suc m) l h e f =
    by_number long m h
    ∙ rw (
      ne_eqb (suc m) 2 e,
      ne_eqb (suc m) 4 (λ x. f (inl x)),
      ne_eqb (suc m) 6 (λ x. f (inr (inl x))),
      ne_eqb (suc m) 9 (λ x. f (inr (inr (inl x)))),
      ne_eqb (suc m) 11 (λ x. f (inr (inr (inr x)))),
    )
