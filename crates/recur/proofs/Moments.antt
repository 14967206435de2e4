-- The readers of times, dates and moments keep to the grammar.
-- Assumes nothing.
use Prim.Native.Nat.{ℕ, zero, suc, ◌≤◌, ◌<◌}
use native.Mathlib.Omega.{arith}
use mathlib.Core.Path.{refl}
use mathlib.Core.Bool.{Bool, true, false}
use mathlib.Core.List.{List}
use lib.Dec.{eqb, leb}
use borrow.Author.Tests.{leb-true, eq-eqb}
use Rattle.calendar.specs.Calendar.{leap, month_length}
use Rattle.calendar.proofs.Table.{same_below}
use Rattle.calendar.proofs.Months.{at_most_31}
use Rattle.symbols.specs.Languages.{Both, both, Followed}
use Rattle.symbols.specs.Takes.{Took, Takes}
use Rattle.symbols.specs.Readers.{followed}
use Rattle.symbols.specs.Counts.{Field, ten_to}
use Rattle.symbols.proofs.Behind.{takes_followed}
use Rattle.symbols.proofs.Single.{takes_byte}
use Rattle.symbols.proofs.Turning.{takes_turned}
use Rattle.symbols.proofs.Numerals.{takes_field}
use Rattle.recur.specs.Grammar.{first_year, Letter, Clock, Time, Calendar, Date, Moment}
use Rattle.recur.specs.Reading.{letter_at, field_at, time_at, date_at, moment_at}
use Rattle.recur.proofs.Heads.{Filled, filled_byte, filled_followed, filled_turned}
use Rattle.recur.proofs.Instances.{Any}

-- ---- three fields and a letter; the third's highest may hang on the first two

-- a field and what stands behind it
module _ (k low high : ℕ) (some : low ≤ high) (fits : high < ten_to k) (B : Type 0) (then : ℕ → ℕ → List ℕ → Took B) (none : B)
    (M : ℕ → B → List ℕ → Type 0) (x : (v : ℕ) → low ≤ v → v ≤ high → Takes B (then v) (M v) Any) (f : (v : ℕ) → Filled (M v)) where
  takes_field_and : Takes (Both ℕ B) (followed (field_at k low high) then none) (Followed ℕ B (Field k low high) M) Any
  takes_field_and =
      takes_followed _ _ _ _ _ _ _ Any Any (takes_field k low high some fits) (λ v xs d. x v d.least d.greatest) f (λ v b c zs d. tt)

module _ (k a b c d e : ℕ) (top : ℕ → ℕ → ℕ) (letter : ℕ) (some : (a ≤ b) × (c ≤ d)) (fits : (b < ten_to k) × (d < ten_to 2))
    (third : (u v : ℕ) → c ≤ v → v ≤ d → (e ≤ top u v) × (top u v < ten_to 2)) where
  abbrev Fields : Both ℕ (Both ℕ (Both ℕ ℕ)) → List ℕ → Type 0
  Fields =
      Followed ℕ (Both ℕ (Both ℕ ℕ)) (Field k a b) (λ (u : ℕ).
      Followed ℕ (Both ℕ ℕ) (Field 2 c d) (λ (v : ℕ). Followed ℕ ℕ (Field 2 e (top u v)) (λ (w : ℕ). Letter letter)))

  abbrev fields_at : ℕ → List ℕ → Took (Both ℕ (Both ℕ (Both ℕ ℕ)))
  fields_at =
      followed (field_at k a b) (λ (u : ℕ).
      followed (field_at 2 c d) (λ (v : ℕ). followed (field_at 2 e (top u v)) (λ (w : ℕ). letter_at letter) 0) (both 0 0)) (both 0 (both 0 0))

  filled_last : (u v : ℕ) → Filled (Followed ℕ ℕ (Field 2 e (top u v)) (λ (w : ℕ). Letter letter))
  filled_last u v = filled_followed _ _ _ _ (λ w. filled_byte (eqb letter))

  takes_fields : Takes (Both ℕ (Both ℕ (Both ℕ ℕ))) fields_at Fields Any
  takes_fields =
      takes_field_and k a b some.0 fits.0 _ _ _ _
      (λ u h i. takes_field_and 2 c d some.1 fits.1 _ _ _ _
      (λ v l m. takes_field_and 2 e (top u v) (third u v l m).0 (third u v l m).1 _ _ _ _
      (λ w n o. takes_byte (eqb letter) letter (eq-eqb letter letter refl)) (λ w. filled_byte (eqb letter))) (filled_last u))
      (λ u. filled_followed _ _ _ _ (filled_last u))

-- ---- times and dates

-- no month is without days
pub some_days : (long : Bool) (m : ℕ) → 1 ≤ m → m ≤ 12 → 1 ≤ month_length long m
unfolding month_length
some_days long zero l g = absurd (omega arith)
some_days true (suc m) l g = leb-true _ _ (same_below (λ (m : ℕ). leb 1 (month_length true (suc m))) (λ (m : ℕ). true) true 12 refl m g)
some_days false (suc m) l g = leb-true _ _ (same_below (λ (m : ℕ). leb 1 (month_length false (suc m))) (λ (m : ℕ). true) true 12 refl m g)

pub takes_time : Takes Clock time_at Time Any
unfolding time_at ten_to
takes_time = takes_fields 2 0 23 0 59 0 (λ (h : ℕ) (m : ℕ). 59) 90 (omega arith) (omega arith) (λ h m l g. omega arith)

filled_time : Filled Time
filled_time = filled_followed _ _ _ _ (λ h. filled_followed _ _ _ _ (λ m. filled_followed _ _ _ _ (λ s. filled_byte (eqb 90))))

pub takes_date : Takes Calendar date_at Date Any
unfolding date_at ten_to
takes_date =
    takes_fields 4 first_year 9999 1 12 1 (λ (y : ℕ) (m : ℕ). month_length (leap y) m) 84 (omega arith) (omega arith)
    (λ y m l g. (some_days (leap y) m l g, omega (arith, at_most_31 (leap y) m g)))

-- ---- moments

pub takes_moment : Takes ℕ moment_at Moment Any
unfolding moment_at
takes_moment = takes_turned _ _ _ _ _ _ (takes_followed _ _ _ _ _ _ _ Any Any takes_date (λ c xs d. takes_time) (λ c. filled_time) (λ c k b zs d. tt))

pub filled_moment : Filled Moment
filled_moment = filled_turned _ _ _ _ (filled_followed _ _ _ _ (λ c. filled_time))
