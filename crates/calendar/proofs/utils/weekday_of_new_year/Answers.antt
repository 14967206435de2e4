-- `calendar::utils::weekday_of_new_year` meets its contract: all but a few days of the years past make whole weeks.
-- Assumes nothing.
use Prim.Native.Nat.{ℕ, ◌+◌, ◌-◌, ◌*◌, ◌/◌, ◌%◌}
use mathlib.Core.Path.{◌≡◌}
use native.Mathlib.Omega.{arith}
use native.Mathlib.Nat.{div-div-eq-div-mul}
use Rattle.calendar.specs.Calendar.{new_year}
use Rattle.calendar.proofs.utils.weekday_of_new_year.Goals as goal

-- the fourth years among z, by its whole hundreds and its last years
fourth_years : (z : ℕ) → z / 4 ≡ 25 * (z / 100) + z % 100 / 4
fourth_years z = omega arith

-- over numbers alone: omega gets no quotient
over_weeks : (z h f r q a b : ℕ) → z ≡ 100 * h + r → a ≡ r + q → b ≡ 5 * h + f → (a + b) % 7 ≡ (365 * z + (25 * h + q) - h + f) % 7
over_weeks z h f r q a b p d e = omega arith

-- Over whole weeks z years have a days by their last years, less than a hundred, and b by their hundreds.
days_over : (z a b : ℕ) → a ≡ z % 100 + z % 100 / 4 → b ≡ 5 * (z / 100) + z / 100 / 4 → (a + b) % 7 ≡ (365 * z + z / 4 - z / 100 + z / 400) % 7
days_over z a b d e =
    rw (fourth_years z, ← div-div-eq-div-mul z 100 4)
    (over_weeks z (z / 100) (z / 100 / 4) (z % 100) (z % 100 / 4) a b (omega arith) d e)

pub returns : goal.returns
unfolding new_year
returns c = rw (← c.saturating_sub-past.ensures) (days_over c.saturating_sub-past.result _ _ (omega arith) (omega arith))
