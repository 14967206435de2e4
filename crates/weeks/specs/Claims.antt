-- What is claimed of a year and its mask; proofs/ has a proof of each claim, under the same name in small letters.
-- Assumes nothing.
use Rattle.std.specs.Prelude.{ℕ, ◌+◌, ◌≤◌, ◌<◌, ◌≡◌, Bool, false, List, length, get_or}
use Rattle.calendar.specs.Calendar.{leap, year_length, new_year, year_of}
use Rattle.calendar.specs.Claims.{InYear}
use Rattle.rule.specs.declared.rrule.Rule.{Rule}
use Rattle.rule.specs.Days.{week_passes}
use Rattle.weeks.specs.Weeks.{year_info, week_passes_in, week_mask}

-- Up to 9999 a year is what its number says.
abbrev pub YearIs : Type 0
YearIs = (y : ℕ) → y ≤ 9999 → year_info y ≡ record { number = y; long = leap y; nextlong = leap (y + 1); first = new_year y }

-- Each entry of the mask of the year y says whether its day passes in its own year z, which is y or the next.
abbrev pub MaskIs : Type 0
MaskIs = (w : ℕ) (s : List Bool) (y i z : ℕ) → w ≤ 6 → 3 ≤ y → y ≤ 9999 → i < year_length y + 7 → InYear z (new_year y + i)
    → get_or (week_mask w s y) i false ≡ week_passes_in w s z (new_year y + i)

-- With a rule's list and week start, it says whether its day passes the rule's BYWEEKNO.
abbrev pub MaskOfRule : Type 0
MaskOfRule = (r : Rule) (y i : ℕ) → r.wkst ≤ 6 → 3 ≤ y → y ≤ 9999 → i < year_length y + 7
    → get_or (week_mask r.wkst r.byweekno y) i false ≡ week_passes r (year_of (new_year y + i)) (new_year y + i)

-- A mask has 373 entries, and those past the seventh day after the year are not set.
abbrev pub MaskSize : Type 0
MaskSize = (w : ℕ) (s : List Bool) (y : ℕ) → length (week_mask w s y) ≡ 373

abbrev pub MaskEnds : Type 0
MaskEnds = (w : ℕ) (s : List Bool) (y i : ℕ) → year_length y + 7 ≤ i → get_or (week_mask w s y) i false ≡ false
