-- What is left of a walk: from a candidate on, behind one that is passed, and where none is left.
-- Assumes nothing.
use Prim.Native.Nat.{ℕ, suc, ◌+◌, ◌-◌, ◌≤◌, ◌<◌}
use mathlib.Core.Path.{◌≡◌, sym, ap, ◌∙◌}
use mathlib.Core.Bool.{false}
use mathlib.Core.List.{List, ◌∷◌}
use lib.ListN.{length}
use native.Mathlib.Omega.{arith}
use Rattle.machine.specs.declared.State.{State}
use Rattle.machine.specs.Given.{above}
use Rattle.machine.specs.Cursors.{pass}
use Rattle.machine.specs.Compute.{Walked, walk}
use Rattle.machine.proofs.RunLaws.{walk_pass}
use Rattle.walks.specs.declared.rrule_iter.Why.{Why}
use Rattle.walks.specs.declared.rrule_iter.Held.{Held}
use Rattle.walks.specs.declared.rrule_iter.Bounds.{Bounds}
use Rattle.walks.specs.Walks.{bound_of, given_by, now_of, walked_by, tabled, walk_from}

pub tabled_step : (f : ℕ → ℕ) (n i : ℕ) → i < n → tabled f i (n - i) ≡ f i ∷ tabled f (i + 1) (n - (i + 1))
unfolding tabled
tabled_step f n i h =
    let s : n - i ≡ suc (n - (i + 1)) = omega arith in
    rw s

-- what a call holds when a candidate is passed
abbrev pub passed : Held → Held
passed h = record { cursor = pass h.cursor; moves = h.moves; handed = h.handed }

-- a walk that stops so
abbrev pub stops : Why → Held → List ℕ → Walked ℕ
stops why h buffer = walked_by (record { why = why; held = h }) buffer

module _ (b : Bounds) (f : ℕ → ℕ) (n : ℕ) (h : Held) (buffer : List ℕ) where
  pub rest_over : n ≤ h.cursor.place → walk_from b f n h buffer ≡ stops Why.Through h buffer
  unfolding walk_from tabled walk walked_by
  rest_over o =
      let s : n - h.cursor.place ≡ 0 = omega arith in
      rw s

  -- the candidate is the second x
  module _ (l : h.cursor.place < n) (x : ℕ) (e : x ≡ f h.cursor.place) where
    pub rest_first : walk_from b f n h buffer
        ≡ walk (given_by b) (x ∷ tabled f (h.cursor.place + 1) (n - (h.cursor.place + 1))) (now_of State.Running h buffer)
    unfolding walk_from
    rest_first =
        rw (tabled_step f n h.cursor.place l)
        (ap (λ (y : ℕ). walk (given_by b) (y ∷ tabled f (h.cursor.place + 1) (n - (h.cursor.place + 1))) (now_of State.Running h buffer)) (sym e))

    -- a slot is free, and it is before the start
    pub rest_pass : (h.handed ≡ length buffer → ⊥) → above (bound_of b.until) x ≡ false → x < b.start
        → walk_from b f n h buffer ≡ walk_from b f n (passed h) buffer
    unfolding walk_from given_by
    rest_pass free u s =
        rest_first ∙ walk_pass (given_by b) x _ h.cursor.k h.cursor.place h.cursor.number h.moves h.handed buffer free u s
