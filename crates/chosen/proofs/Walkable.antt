-- Where a walk over places may be, and what it then is.
-- Assumes nothing.
use Prim.Native.Nat.{ℕ, ◌≤◌}
use mathlib.Core.Path.{◌≡◌}
use mathlib.Core.Bool.{Bool, true, false, ◌&&◌}
use mathlib.Core.List.{List}
use lib.ListN.{length}
use lib.Dec.{leb}
use borrow.Author.Tests.{le-leb}
use Rattle.walks.specs.declared.rrule_iter.Why.{Why}
use Rattle.walks.specs.declared.rrule_iter.Held.{Held}
use Rattle.walks.specs.declared.rrule_iter.Bounds.{Bounds}
use Rattle.walks.specs.declared.rrule_iter.Frame.{Frame}
use Rattle.walks.specs.Walks.{walked_by, is_framed, second_chosen, walk_from}
use Rattle.walks.proofs.WalkLaws.{stops}
use Rattle.passing.specs.Passing.{is_ready}
use Rattle.crossing.specs.Crossing.{is_walkable}
use Rattle.chosen.specs.Chosen.{places_walk}

module _ (f : Frame) (b : Bounds) (h : Held) (buffer : List ℕ) where
  -- a walk that may be goes from the place on
  pub places_walked : (n : ℕ) (places days lists : List ℕ) → n ≤ 732 → is_walkable f b h buffer ≡ true
      → places_walk f b h n places days lists buffer ≡ walk_from b (second_chosen f days lists places) n h buffer
  places_walked n places days lists k e = rw (le-leb _ _ k, e)

  -- and any other comes through at once
  pub places_left : (n : ℕ) (places days lists : List ℕ) (x y : Bool) → x ≡ is_framed f → y ≡ is_ready b h (length buffer)
      → (leb n 732 && (x && y)) ≡ false → stops Why.Through h buffer ≡ places_walk f b h n places days lists buffer
  unfolding walked_by
  places_left n places days lists x y p q e =
      let z : (leb n 732 && is_walkable f b h buffer) ≡ false = rw (← p, ← q) e in
      rw z
