-- The marks of one weekday's days in a mask.
-- Assumes nothing.
use Rattle.std.specs.Prelude.{ℕ, ◌+◌, ◌*◌, ◌≤◌, ◌<◌, ◌≡◌, Bool, false, List, length, get_or, if◌then◌else◌}
use Rattle.calendar.specs.Calendar.{weekday}

-- The weekday w has no entry in the rows of the set from one up to another.
unfoldable pub NoEntry : List Bool → ℕ → ℕ → ℕ → Type 0
NoEntry s w from to = (row : ℕ) → from ≤ row → row < to → get_or s (row * 7 + w) false ≡ false

-- The rows that a day can pass, from one up to another: all where it counts in its year, else those of n from -5 to 5.
abbrev pub rows_of : Bool → ℕ × ℕ
rows_of inyear = if inyear then (0, 107) else (48, 59)

-- In the mask of a year with this first day, the places below n on the weekday w have what f says; every other place has what it had.
pub record Marked (f : ℕ → Bool) (first w n : ℕ) (was is : List Bool) : Type 0 where
  pub size : length is ≡ 373
  pub marks : (k : ℕ) → k < n → weekday (first + k) ≡ w → get_or is k false ≡ f k
  pub stays : (k : ℕ) → (k < n → weekday (first + k) ≡ w → ⊥) → get_or is k false ≡ get_or was k false
