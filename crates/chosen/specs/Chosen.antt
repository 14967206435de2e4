-- The walk over the candidates that positions choose, where it may be.
-- Assumes nothing.
use Rattle.std.specs.Prelude.{ℕ, ◌&&◌, List, leb, if◌then◌else◌}
use Rattle.machine.specs.declared.State.{State}
use Rattle.machine.specs.Compute as compute
use Rattle.walks.specs.declared.rrule_iter.Held.{Held}
use Rattle.walks.specs.declared.rrule_iter.Bounds.{Bounds}
use Rattle.walks.specs.declared.rrule_iter.Frame.{Frame}
use Rattle.walks.specs.Walks.{now_of, second_chosen, walk_from}
use Rattle.crossing.specs.Crossing.{is_walkable}

-- The walk over the places of kept candidates, n of them. Where a walk may not be, or more places are told than there are, it comes through at
-- once, and nothing changes.
abbrev pub places_walk : Frame → Bounds → Held → ℕ → (places days lists buffer : List ℕ) → compute.Walked ℕ
places_walk f b h n places days lists buffer =
    if leb n 732 && is_walkable f b h buffer then walk_from b (second_chosen f days lists places) n h buffer else compute.through (now_of State.Running h buffer)
