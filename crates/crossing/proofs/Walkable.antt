-- Where a walk may be: the tests in words, and what the walk then is.
-- Assumes nothing.
use Prim.Native.Nat.{ℕ, ◌*◌}
use mathlib.Core.Path.{◌≡◌}
use mathlib.Core.Bool.{Bool, true, false, ◌&&◌}
use mathlib.Core.List.{List}
use lib.ListN.{length}
use lib.Dec.{leb}
use borrow.Author.Tests.{leb-true, le-leb, ltb-true, lt-ltb}
use Rattle.rule.proofs.FillLaws.{both}
use Rattle.walks.specs.declared.rrule_iter.Why.{Why}
use Rattle.walks.specs.declared.rrule_iter.Held.{Held}
use Rattle.walks.specs.declared.rrule_iter.Bounds.{Bounds}
use Rattle.walks.specs.declared.rrule_iter.Frame.{Frame}
use Rattle.walks.specs.Walks.{walked_by, is_framed, Framed, second_at, walk_from}
use Rattle.walks.proofs.WalkLaws.{stops}
use Rattle.walks.proofs.Walkable.{Small, framed_told, is_framed_lem}
use Rattle.passing.specs.Passing.{is_ready, Ready}
use Rattle.crossing.specs.Crossing.{is_walkable, days_walk}

-- a call that passes the test
pub ready_told : (b : Bounds) (h : Held) (buffer : List ℕ) → is_ready b h (length buffer) ≡ true → Ready b h buffer
unfolding is_ready
ready_told b h buffer e =
    let p = both (leb 62135596800 b.start) _ e in
    let q = both (leb h.handed (length buffer)) _ p.1 in
    record { start = leb-true _ _ p.0; handed = leb-true _ _ q.0; number = ltb-true _ _ q.1 }

pub is_ready_lem : (b : Bounds) (h : Held) (buffer : List ℕ) → Ready b h buffer → is_ready b h (length buffer) ≡ true
unfolding is_ready
is_ready_lem b h buffer w = rw (le-leb _ _ w.start, le-leb _ _ w.handed, lt-ltb _ _ w.number)

module _ (f : Frame) (b : Bounds) (h : Held) (buffer : List ℕ) where
  pub is_walkable_lem : Framed f → Ready b h buffer → is_walkable f b h buffer ≡ true
  is_walkable_lem v w = rw (is_framed_lem f v, is_ready_lem b h buffer w)

  pub walkable_told : is_walkable f b h buffer ≡ true → Small f × Ready b h buffer
  walkable_told e = let p = both (is_framed f) _ e in (framed_told f p.0, ready_told b h buffer p.1)

  -- the test as the code puts it together
  pub walkable_by : (x y t : Bool) → x ≡ is_framed f → y ≡ is_ready b h (length buffer) → (x && y) ≡ t → is_walkable f b h buffer ≡ t
  walkable_by x y t p q e = rw (← p, ← q) e

  -- a walk that may be goes from the place on
  pub days_walked : (days lists : List ℕ) → is_walkable f b h buffer ≡ true
      → days_walk f b h days lists buffer ≡ walk_from b (second_at f days lists) (f.days * f.times) h buffer
  days_walked days lists e = rw e

  -- and any other comes through at once
  pub days_left : (days lists : List ℕ) → is_walkable f b h buffer ≡ false → stops Why.Through h buffer ≡ days_walk f b h days lists buffer
  unfolding walked_by
  days_left days lists e = rw e
