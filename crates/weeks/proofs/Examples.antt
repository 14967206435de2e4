-- Masks of single numbers, with weeks from Monday: the days where this calculation is easily done wrong.
-- Assumes nothing.
use mathlib.Core.Path.{◌≡◌, refl}
use mathlib.Core.Bool.{Bool, true, false}
use mathlib.Core.List.{List, [], ◌∷◌}
use Prim.Native.Nat.{ℕ}
use lib.ListN.{take, drop}
use lib.IntN.{ℤ, pos, negsuc}
use Rattle.calendar.specs.Calendar.{leap, new_year}
use Rattle.rule.specs.Lists.{weeknos, slot_of, is_in, flags, some_at, set_of}
use Rattle.rule.specs.Days.{week1, week_year, week_number, weeks_in}
use Rattle.weeks.specs.Weeks.{week_passes_in, mask_at, week_mask}

-- n entries of the mask of the year y from entry i on, for BYWEEKNO=v
unfoldable pub entries : ℤ → ℕ → ℕ → ℕ → List Bool
unfolding week_mask mask_at week_passes_in flags slot_of is_in some_at set_of week_year week_number weeks_in week1 leap new_year
entries v y i n = take n (drop i (week_mask 0 (set_of 106 (slot_of weeknos v ∷ [])) y))

-- 2022-01-01 and 02 are the end of week 52 of 2021, its last week; 03 begins week 1.
pub last_week_of_2021 : entries (pos 52) 2022 0 3 ≡ true ∷ true ∷ false ∷ []
unfolding entries
last_week_of_2021 = refl

pub not_week_53 : entries (pos 53) 2022 0 3 ≡ false ∷ false ∷ false ∷ []
unfolding entries
not_week_53 = refl

pub last_from_the_end : entries (negsuc 0) 2022 0 3 ≡ true ∷ true ∷ false ∷ []
unfolding entries
last_from_the_end = refl

-- 2021-01-01 to 03 are the end of week 53 of 2020.
pub week_53_of_2020 : entries (pos 53) 2021 0 4 ≡ true ∷ true ∷ true ∷ false ∷ []
unfolding entries
week_53_of_2020 = refl

-- 2024-12-30 and 31 are in week 1 of 2025, which has 52 weeks: they pass for 1 and for -52, and so do the five days after the year.
pub week_1_of_2025 : entries (pos 1) 2024 363 10 ≡ false ∷ true ∷ true ∷ true ∷ true ∷ true ∷ true ∷ true ∷ false ∷ false ∷ []
unfolding entries
week_1_of_2025 = refl

pub first_from_the_end : entries (negsuc 51) 2024 363 10 ≡ false ∷ true ∷ true ∷ true ∷ true ∷ true ∷ true ∷ true ∷ false ∷ false ∷ []
unfolding entries
first_from_the_end = refl

-- 2025-12-29 to 31 are in week 1 of 2026, which has 53 weeks: they pass for -53, and not for -52.
pub of_53_weeks : entries (negsuc 52) 2025 361 4 ≡ false ∷ true ∷ true ∷ true ∷ []
unfolding entries
of_53_weeks = refl

pub not_of_52_weeks : entries (negsuc 51) 2025 361 4 ≡ false ∷ false ∷ false ∷ false ∷ []
unfolding entries
not_of_52_weeks = refl
