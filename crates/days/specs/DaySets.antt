-- Day sets: the passing days of a stretch of a year's tables, in order.
-- Assumes nothing.
use Rattle.std.specs.Prelude.{ℕ, ◌+◌, ◌-◌, ◌≤◌, ◌<◌, min, ◌≡◌, Bool, true, false, ◌||◌, List, get_or, if◌then◌else◌}
use Rattle.clocks.specs.Blocks.{passing}
use Rattle.years.specs.declared.lists.Asked.{Asked}
use Rattle.years.specs.declared.iterinfo.IterInfo.{IterInfo}
use Rattle.days.specs.Filters.{DayLists, yearday_at, weekday_at, place_passes}

-- the passing places from `from` up to `to`, or up to the tables' end
unfoldable pub day_set : Asked → IterInfo → DayLists → (from to : ℕ) → List ℕ
unfolding passing place_passes
day_set a info l from to = passing (place_passes a info l) (min to 373 - from) from

-- One of four flags is set.
abbrev pub some_of_four : List Bool → ℕ → Bool
some_of_four flags i = get_or flags i false || (get_or flags (i + 1) false || (get_or flags (i + 2) false || get_or flags (i + 3) false))

-- BYDAY has an entry with n = 0.
abbrev pub has_every : List Bool → Bool
has_every s = get_or s 371 false || (get_or s 372 false || (get_or s 373 false || (get_or s 374 false || (get_or s 375 false || (get_or s 376 false || get_or s 377 false)))))

-- the places that a mask marks, and those that pass BYYEARDAY or BYDAY, from `from` up to `end`
unfoldable pub marked_days : (marks : List Bool) → (from end : ℕ) → List ℕ
unfolding passing
marked_days marks from end = passing (λ i. get_or marks i false) (end - from) from

unfoldable pub year_days : Bool → Bool → (byyearday : List Bool) → (from end : ℕ) → List ℕ
unfolding passing yearday_at
year_days long nextlong byyearday from end = passing (yearday_at long nextlong byyearday) (end - from) from

unfoldable pub weekday_days : Bool → ℕ → (byday nths : List Bool) → (from end : ℕ) → List ℕ
unfolding passing weekday_at
weekday_days nth first byday nths from end = passing (weekday_at nth first byday nths) (end - from) from

-- The day set by the first of BYYEARDAY, BYWEEKNO and BYDAY that is asked.
unfoldable pub sole_days : Asked → IterInfo → DayLists → (from end : ℕ) → List ℕ
unfolding year_days marked_days weekday_days
sole_days a info l from end =
    if a.yearday then year_days info.year.long info.year.nextlong l.byyearday from end
    else if a.weekno then marked_days info.weeks from end
    else weekday_days a.nth info.year.first l.byday info.nths from end

-- r is the first place from `from` on that is marked, or `to`.
pub record FirstMarked (marks : List Bool) (from to r : ℕ) : Type 0 where
  pub low : from ≤ r
  pub high : r ≤ to
  pub blank : (i : ℕ) → from ≤ i → i < r → get_or marks i false ≡ false
  pub marked : r < to → get_or marks r false ≡ true
