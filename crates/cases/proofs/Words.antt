-- The definitions in words, held to one instance each.
-- Assumes nothing.
use Rattle.std.specs.Prelude.{Some, None, Ok}
use Prim.Native.Nat.{ℕ, ◌≤◌, ◌<◌}
use native.Mathlib.Omega.{arith}
use mathlib.Core.Path.{◌≡◌, refl}
use mathlib.Core.Bool.{false}
use mathlib.Core.List.{[], ◌∷◌}
use lib.IntN.{pos, negsuc}
use Rattle.calendar.specs.Calendar.{leap, new_year, days_before_month}
use Rattle.machine.specs.Given.{Move.NoTick, Move.Range}
use Rattle.rule.specs.declared.rrule.Rule.{Rule}
use Rattle.rule.specs.Refusals.{Verdict}
use Rattle.rule.specs.Raw.{Raw, raw, raw_lists}
use Rattle.rule.specs.Filling.{given, fill, checked, Yields}
use Rattle.rule.specs.Periods.{period, in_range}
use Rattle.rule.specs.Days.{day_passes}
use Rattle.rule.specs.Candidates.{Candidate, Chosen.from_end, candidates}
use Rattle.rule.specs.Satisfies.{NotAfter, Satisfies}
use Rattle.rule.specs.Moves.{Lands, Moves, Moves.range, Moves.no_tick, day_in}

-- DAILY;BYHOUR=0,12;BYSETPOS=-1;UNTIL=2024-01-01 12:00 from 2024-01-01
unfoldable daily_until_noon : Rule
unfolding given fill
daily_until_noon = fill (given (raw 3 1 None (Some 1704110400) 0 1704067200 (raw_lists [] [] [] [] [] [] (pos 0 ∷ pos 12 ∷ []) [] [] (negsuc 0 ∷ []))))

-- noon of 1 January satisfies it: candidate number 1 of 2, chosen by -1
noon_satisfies : Satisfies daily_until_noon 1704110400
unfolding daily_until_noon candidates leap new_year days_before_month
noon_satisfies = record {
  instant = let h : 1704110400 ≤ 253402300799 = omega arith in h;
  k = 0;
  kept = record {
    j = 1;
    below = let h : 1 < 2 = omega arith in h;
    is_s = refl;
    choice = from_end 1 (let h : 1 ≤ 1 = omega arith in h) refl refl;
  };
  from_start = let h : 1704067200 ≤ 1704110400 = omega arith in h;
  to_until = let h : 1704110400 ≤ 1704110400 = omega arith in h;
}

-- what satisfies is an instant, not before the start and not after UNTIL
is_instant : (r : Rule) (t : ℕ) → Satisfies r t → t ≤ 253402300799
is_instant r t s = s.instant

from_its_start : (r : Rule) (t : ℕ) → Satisfies r t → r.start ≤ t
from_its_start r t s = s.from_start

to_its_until : (u t : ℕ) → NotAfter (Some u) t → t ≤ u
to_its_until u t h = h

-- the first second after a period is no candidate of it
no_candidate_at_end : (r : Rule) (k : ℕ) → Candidate r k (period r k).ends → ⊥
no_candidate_at_end r k c = let h : (period r k).ends < (period r k).ends = c.before_end in absurd (omega arith)

-- a record that is yielded comes of an accepted check
yields_accepted : (w : Raw) (r : Rule) → Yields w r → checked w ≡ Ok r
yields_accepted w r y = y

-- from a day that doesn't pass a move lands on a later date; where it may land there is no NoTick
lands_later : (r : Rule) (k k' : ℕ) → day_passes r (day_in r k) ≡ false → Lands r k k' → day_in r k < day_in r k'
lands_later r k k' e l = l.date e

no_tick_none : (r : Rule) (k k' : ℕ) → Moves r k NoTick → Lands r k k' → ⊥
no_tick_none r k k' (no_tick h none) l = none k' l

-- DAILY from 253402214400: period 1 begins after 9999
unfoldable daily_at_the_end : Rule
unfolding given fill
daily_at_the_end = fill (given (raw 3 1 None None 0 253402214400 (raw_lists [] [] [] [] [] [] [] [] [] [])))

ends_by_range : Moves daily_at_the_end 0 Range
unfolding daily_at_the_end in_range leap new_year days_before_month
ends_by_range = range 1 refl refl
