-- What is claimed of the day test and the day sets; proofs/ has a proof of each claim, under the same name in small letters.
-- Assumes nothing.
use Rattle.std.specs.Prelude.{ℕ, ◌+◌, ◌-◌, ◌≤◌, ◌<◌, ◌≡◌, map}
use Rattle.calendar.specs.Calendar.{year_length, new_year}
use Rattle.rule.specs.declared.rrule.Rule.{Rule}
use Rattle.rule.specs.Days.{day_passes}
use Rattle.days.specs.Filters.{rule_lists, place_passes}
use Rattle.clocks.specs.Blocks.{passing}
use Rattle.days.specs.DaySets.{day_set}
use Rattle.years.specs.Info.{asked_of, rule_info}

-- The day test by tables and masks is document 01's, for every day of a year and for the seven days after it.
abbrev pub DayTestIs : Type 0
DayTestIs = (r : Rule) (y i : ℕ) → r.wkst ≤ 6 → 3 ≤ y → y ≤ 9999 → i < year_length y + 7
    → place_passes (asked_of r) (rule_info r y) (rule_lists r) i ≡ day_passes r (new_year y + i)

-- A day set holds the days of its stretch that pass, as places in the year.
abbrev pub DaySetIs : Type 0
DaySetIs = (r : Rule) (y from to : ℕ) → r.wkst ≤ 6 → 3 ≤ y → y ≤ 9999 → from ≤ to → to ≤ year_length y + 7
    → map (λ i. new_year y + i) (day_set (asked_of r) (rule_info r y) (rule_lists r) from to)
    ≡ passing (day_passes r) (to - from) (new_year y + from)
