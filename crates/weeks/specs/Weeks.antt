-- A year as the day sets need it, and which of its days pass BYWEEKNO.
-- Assumes nothing.
use Rattle.std.specs.Prelude.{ℕ, ◌+◌, ◌-◌, ◌≤◌, ◌<◌, ◌≡◌, Bool, false, ◌&&◌, ◌||◌, List, length, get_or, eqb, ltb, leb, if◌then◌else◌}
use Rattle.calendar.specs.Calendar.{leap, year_length, new_year}
use Rattle.rule.specs.Lists.{is_in, flags}
use Rattle.rule.specs.Days.{week1, week_year, week_number, weeks_in, number_passes}
use Rattle.weeks.specs.declared.yearinfo.Year.{Year}
use Rattle.weeks.specs.declared.yearinfo.Weeks.{Weeks}

-- The year y: its number, whether it and the next are leap years, and its first day. After 9999 there is none.
abbrev pub no_year : Year
no_year = record { number = 0; long = false; nextlong = false; first = 0 }

unfoldable pub year_info : ℕ → Year
unfolding leap new_year
year_info y = if leb y 9999 then record { number = y; long = leap y; nextlong = leap (y + 1); first = new_year y } else no_year

-- Whether the day d of the year y passes the list s, where weeks begin on the weekday w: week_passes of crate rule, of the list alone.
unfoldable pub week_passes_in : ℕ → List Bool → ℕ → ℕ → Bool
unfolding is_in week_year week_number weeks_in
week_passes_in w s y d = let own : ℕ = week_year w y d in number_passes s (week_number w own d) (weeks_in w own)

-- The years that have a mask: from 3 on, as the weeks of the year 1 begin before the first day; and a week start is at most 6.
abbrev pub has_mask : ℕ → ℕ → Bool
has_mask w y = leb 3 y && (leb y 9999 && leb w 6)

-- The mask has an entry for each day of the year y and for the seven days after it: whether it passes. Those seven lie in the next year, but
-- y serves for them too: they come before week 1 of the year after that, so their week year is y or y + 1, as week 1 of y + 1 says.
unfoldable pub mask_at : ℕ → List Bool → ℕ → ℕ → Bool
unfolding week_passes_in
mask_at w s y i = has_mask w y && (ltb i (year_length y + 7) && week_passes_in w s y (new_year y + i))

unfoldable pub week_mask : ℕ → List Bool → ℕ → List Bool
unfolding mask_at flags
week_mask w s y = flags (mask_at w s y) 373 0

-- The weeks that reach into the mask of the year y, from the last week of the year before on: how many of their days lie before 1 January (4 to
-- 10, as week 1 may begin by then), and how many weeks the year before, the year and the next year have.
unfoldable pub weeks_around : ℕ → ℕ → Weeks
unfolding week1 weeks_in
weeks_around w y = record { skipped = new_year y + 7 - week1 w y; last = weeks_in w (y - 1); own = weeks_in w y; next = weeks_in w (y + 1) }

-- the bounds of these counts
pub record Counted (x : Weeks) : Type 0 where
  pub skipped_low : 4 ≤ x.skipped
  pub skipped_high : x.skipped ≤ 10
  pub last_low : 52 ≤ x.last
  pub last_high : x.last ≤ 53
  pub own_low : 52 ≤ x.own
  pub own_high : x.own ≤ 53
  pub next_low : 52 ≤ x.next
  pub next_high : x.next ≤ 53

-- whether week j of them passes: week 0 is the last of the year before
unfoldable pub passes_around : List Bool → Weeks → ℕ → Bool
unfolding is_in
passes_around s x j =
    if eqb j 0 then number_passes s x.last x.last else if leb j x.own then number_passes s j x.own else number_passes s (j - x.own) x.next

-- the slots of week v of n: that of v, and that of v - n - 1
unfoldable pub slots_pass : List Bool → ℕ → ℕ → Bool
slots_pass s v n = get_or s (52 + v) false || get_or s (52 + v - n) false

-- a mask before and after the places from one up to another are marked
pub record Marked (from to : ℕ) (was is : List Bool) : Type 0 where
  pub same : length is ≡ length was
  pub at : (k : ℕ) → k < length was → get_or is k false ≡ (get_or was k false || (leb from k && ltb k to))
