-- Week 1 and the week year of a day are what document 01 says.
-- Assumes nothing.
use Rattle.std.specs.Prelude.{if◌then◌else◌}
use Prim.Native.Nat.{ℕ, ◌+◌, ◌-◌, min, max, ◌≤◌, ◌<◌}
use mathlib.Core.Path.{◌≡◌, refl, subst, subst⁻¹}
use mathlib.Core.Logic.{◌⊎◌, inl, inr, ⊎_elim}
use mathlib.Core.Bool.{Bool, true, false}
use lib.Dec.{ltb, leb}
use native.Mathlib.Omega.{arith}
use borrow.Author.Tests.{ltb-true, ltb-false, leb-true, leb-false}
use Rattle.calendar.specs.Calendar.{new_year, weekday}
use Rattle.calendar.proofs.Years.{years_grow, years_rise}
use Rattle.rule.specs.Days.{week_of, week1, week_year}
use Rattle.rule.specs.Moves.{Least}
use Rattle.rule.specs.Meaning.{WeekOneIs, WeekYearIs}

split : (b : Bool) → (b ≡ true) ⊎ (b ≡ false)
split true = inl refl
split false = inr refl

-- week 1, over the first day of the year and the first day after it
unfoldable first_week : ℕ → ℕ → ℕ
first_week w j = if leb (j + 4) (week_of w j + 7) then week_of w j else week_of w j + 7

first_is : (w j e : ℕ) → w ≤ 6 → 7 ≤ j → j + 365 ≤ e → Least (λ b. (weekday b ≡ w) × (4 ≤ min (b + 7) e - max b j)) (first_week w j)
unfolding first_week
first_is w j e hw hj he =
    ⊎_elim
    (λ (a : leb (j + 4) (week_of w j + 7) ≡ true). rw (a, first_week) (yes_is (leb-true (j + 4) (week_of w j + 7) a)))
    (λ (a : leb (j + 4) (week_of w j + 7) ≡ false). rw (a, first_week) (no_is (leb-false (j + 4) (week_of w j + 7) a)))
    (split (leb (j + 4) (week_of w j + 7)))
  where
    yes_is : j + 4 ≤ week_of w j + 7 → Least (λ b. (weekday b ≡ w) × (4 ≤ min (b + 7) e - max b j)) (week_of w j)
    yes_is l = record { holds = (omega arith, omega arith); least = λ b p. omega arith }

    no_is : week_of w j + 7 < j + 4 → Least (λ b. (weekday b ≡ w) × (4 ≤ min (b + 7) e - max b j)) (week_of w j + 7)
    no_is l = record { holds = (omega arith, omega arith); least = λ b p. omega arith }

second_year : new_year 2 ≡ 365
unfolding new_year
second_year = refl

late_enough : (x : ℕ) → 2 ≤ x → 7 ≤ new_year x
late_enough x h = omega (arith, second_year, years_rise 2 x (omega arith) h)

pub week_one_is : WeekOneIs
unfolding first_week week1
week_one_is w y hw hy = first_is w (new_year y) (new_year (y + 1)) hw (late_enough y hy) (years_grow y (omega arith))

-- week 1 begins at most three days from 1 January
near : (w j : ℕ) → w ≤ 6 → 7 ≤ j → (j ≤ first_week w j + 3) × (first_week w j ≤ j + 3)
unfolding first_week
near w j hw hj =
    ⊎_elim
    (λ (a : leb (j + 4) (week_of w j + 7) ≡ true). rw (a, first_week) (let l : j + 4 ≤ week_of w j + 7 = leb-true (j + 4) (week_of w j + 7) a in (omega arith, omega arith)))
    (λ (a : leb (j + 4) (week_of w j + 7) ≡ false). rw (a, first_week) (let l : week_of w j + 7 < j + 4 = leb-false (j + 4) (week_of w j + 7) a in (omega arith, omega arith)))
    (split (leb (j + 4) (week_of w j + 7)))

-- over any first weeks f that near their years' first days g
module _ (f g : ℕ → ℕ) (y d : ℕ) (hy : 1 ≤ y) (from : g y ≤ d) (to : d < g (y + 1)) (close : (x : ℕ) → y ≤ x + 1 → (g x ≤ f x + 3) × (f x ≤ g x + 3)) (long : (x : ℕ) → y ≤ x + 1 → g x + 365 ≤ g (x + 1)) where
  own : (b c : Bool) → ltb d (f y) ≡ b → leb (f (y + 1)) d ≡ c → let z : ℕ = if b then y - 1 else if c then y + 1 else y in (f z ≤ d) × (d < f (z + 1))
  own true c p q =
      let e : y - 1 + 1 ≡ y = omega arith in
      let a : f (y - 1) ≤ g (y - 1) + 3 = (close (y - 1) (omega arith)).1 in
      let l : g (y - 1) + 365 ≤ g y = subst (λ (x : ℕ). g (y - 1) + 365 ≤ g x) e (long (y - 1) (omega arith)) in
      (omega arith, subst⁻¹ (λ (x : ℕ). d < f x) e (ltb-true d (f y) p))
  own false true p q =
      let a : g (y + 1 + 1) ≤ f (y + 1 + 1) + 3 = (close (y + 1 + 1) (omega arith)).0 in
      let l : g (y + 1) + 365 ≤ g (y + 1 + 1) = long (y + 1) (omega arith) in
      (leb-true (f (y + 1)) d q, omega arith)
  own false false p q = (ltb-false d (f y) p, leb-false (f (y + 1)) d q)

pub week_year_is : WeekYearIs
unfolding first_week week1 week_year
week_year_is w y d hw hy a b =
    own (λ x. first_week w (new_year x)) new_year y d (omega arith) a b
    (λ x h. near w (new_year x) hw (late_enough x (omega arith))) (λ x h. years_grow x (omega arith))
    (ltb d (week1 w y)) (leb (week1 w (y + 1)) d) refl refl
