-- The period by its cases, and how many days it can have.
-- Assumes nothing.
use Prim.Native.Nat.{ℕ, ◌-◌, ◌≤◌, ◌<◌, min}
use mathlib.Core.Path.{◌≡◌, refl}
use mathlib.Core.Bool.{Bool, true, false}
use mathlib.Core.List.{List}
use native.Mathlib.Omega.{arith}
use lib.Dec.{ltb}
use lib.ListN.{length}
use Rattle.std.proofs.lemmas.Bool.{and_right}
use borrow.Author.Tests.{le-leb, lt-leb, lt-ltb}
use Rattle.years.specs.declared.lists.Asked.{Asked}
use Rattle.years.specs.declared.iterinfo.IterInfo.{IterInfo}
use Rattle.clocks.proofs.Blocks.{passing_short}
use Rattle.days.specs.Filters.{DayLists, place_passes}
use Rattle.days.specs.DaySets.{day_set}
use Rattle.walks.specs.declared.rrule_iter.Frame.{Frame}
use Rattle.plans.specs.declared.plan.Shape.{Shape}
use Rattle.opening.specs.Opening.{frame_of, kept_count, chosen_over, no_period, is_open, period_by, chosen_by}

-- no stretch has more than 373 passing days
pub few_days : (a : Asked) (info : IterInfo) (l : DayLists) (from to : ℕ) → length (day_set a info l from to) ≤ 373
unfolding day_set
few_days a info l from to = omega (arith, passing_short (place_passes a info l) (min to 373 - from) from)

module _ (s : Shape) (first count tick : ℕ) (clock bysetpos : List Bool) where
  abbrev frame : Frame
  frame = frame_of s.freq s.counts tick first count clock

  -- none is kept
  abbrev Closed : Type 0
  Closed =
      (period_by s first count tick clock bysetpos ≡ no_period s.freq s.counts first)
      × ((slots : List ℕ) → chosen_by s first count tick clock bysetpos slots ≡ slots)

  closed : is_open count frame ≡ false → Closed
  unfolding period_by chosen_by
  closed e = (rw e, λ slots. rw e)

  pub no_day_lem : count ≡ 0 → Closed
  unfolding is_open
  no_day_lem e = closed (rw e)

  pub too_many : 86400 < frame.times → Closed
  unfolding is_open
  too_many h = closed (rw (lt-leb frame.times 86400 h) (and_right (ltb 0 count) false refl))

  -- or some may be
  pub some_days : 0 < count → frame.times ≤ 86400
      → (period_by s first count tick clock bysetpos ≡ record { frame = frame; kept = kept_count s.positioned bysetpos count frame.times })
      × ((slots : List ℕ) → chosen_by s first count tick clock bysetpos slots ≡ chosen_over s.positioned bysetpos count frame.times slots)
  unfolding period_by chosen_by is_open
  some_days h l =
      let e : is_open count frame ≡ true = rw (lt-ltb 0 count h, le-leb frame.times 86400 l) in
      (rw e, λ slots. rw e)
