-- Answers that a wrong version of one definition gives otherwise. Modules are checked by name, so such a version is refused here first, by an
-- answer that differs.
-- Assumes nothing.
use Rattle.std.specs.Prelude.{Some, Err}
use mathlib.Core.Path.{◌≡◌, refl}
use mathlib.Core.Bool.{false}
use mathlib.Core.List.{[], ◌∷◌, ◌++◌}
use lib.IntN.{pos}
use Rattle.calendar.specs.Calendar.{leap, new_year, days_before_month}
use Rattle.machine.specs.Run.{counted, at_candidate, move_on}
use Rattle.machine.specs.Compute.{walk, after, runs}
use Rattle.rule.specs.declared.rrule.Refusal.{Refusal}
use Rattle.rule.specs.Instants.{second}
use Rattle.rule.specs.Lists.{set_of}
use Rattle.rule.specs.Raw.{Raw}
use Rattle.rule.specs.Refusals.{verdict}
use Rattle.rule.specs.Filling.{given, fill}
use Rattle.rule.specs.Records.{yielded, breaks_no_row}
use Rattle.rule.specs.Candidates.{candidates}
use Rattle.rule.specs.Charts.{COUNT, UNTIL, BYMONTH, BYYEARDAY, BYDAY, BYHOUR, rule_of, play, play_of, last_week}

-- the last week of a year is counted in the weeks of its own year, whole answer and all
pub last_week_is : play_of last_week ≡ last_week.played
unfolding play last_week leap new_year days_before_month counted at_candidate move_on walk after runs
last_week_is = refl

-- YEARLY;BYDAY=MO,2TU from 2024-01-01
mixed : Raw
unfolding rule_of
mixed = rule_of 0 1704067200 (BYDAY (pos 0 ∷ pos 2 ∷ []) (pos 0 ∷ pos 1 ∷ []))

mixed_is_refused : verdict mixed ≡ Err Refusal.MixedDays
unfolding verdict mixed
mixed_is_refused = refl

-- the record that it would give is filled in, and still no check yields it
mixed_is_no_record : yielded (fill (given mixed)) ≡ false
unfolding yielded mixed
mixed_is_no_record = refl

-- WEEKLY;BYDAY=2TU
nth_in_a_week : verdict (rule_of 2 1704067200 (BYDAY (pos 2 ∷ []) (pos 1 ∷ []))) ≡ Err Refusal.NthMisplaced
unfolding verdict rule_of
nth_in_a_week = refl

-- YEARLY;BYMONTH=3 from 2024-01-01 has March alone
month_as_given : (fill (given (rule_of 0 1704067200 (BYMONTH (pos 3 ∷ []))))).bymonth ≡ set_of 12 (Some 2 ∷ [])
unfolding fill given rule_of
month_as_given = refl

-- HOURLY from 2024-01-01 keeps BYHOUR empty
no_hour_for_hourly : (fill (given (rule_of 4 1704067200 []))).byhour ≡ set_of 24 []
unfolding fill given rule_of
no_hour_for_hourly = refl

-- DAILY;BYHOUR=24,8 is out of range, and doesn't rise either
out_before_order : verdict (rule_of 3 1704067200 (BYHOUR (pos 24 ∷ pos 8 ∷ []))) ≡ Err Refusal.EntryOut
unfolding verdict rule_of
out_before_order = refl

-- DAILY;COUNT=0;UNTIL=2024-01-01 has a zero, and both ends
zero_before_both : verdict (rule_of 3 1704067200 (COUNT 0 ++ UNTIL 1704067200)) ≡ Err Refusal.Nought
unfolding verdict rule_of
zero_before_both = refl

-- the record of DAILY;COUNT=2;UNTIL=2024-01-01 breaks a row
both_is_no_record : breaks_no_row (fill (given (rule_of 3 1704067200 (COUNT 2 ++ UNTIL 1704067200)))) ≡ false
unfolding breaks_no_row fill given rule_of
both_is_no_record = refl

-- MONTHLY;BYYEARDAY=1
year_day_in_a_month : verdict (rule_of 1 1704067200 (BYYEARDAY (pos 1 ∷ []))) ≡ Err Refusal.ListMisplaced
unfolding verdict rule_of
year_day_in_a_month = refl

-- SECONDLY from 2024-01-01: the first second of the day is the candidate of its own period
first_of_the_day : candidates (fill (given (rule_of 6 1704067200 []))) 0 ≡ second 1704067200 ∷ []
unfolding candidates fill given rule_of leap new_year days_before_month
first_of_the_day = refl
