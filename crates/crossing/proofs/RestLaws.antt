-- What is left of a walk, one candidate at a time: a law for each branch of the loops.
-- Assumes nothing.
use Prim.Native.Nat.{ℕ, ◌+◌, ◌-◌, ◌≤◌, ◌<◌}
use mathlib.Core.Path.{◌≡◌, refl, ◌∙◌}
use mathlib.Core.Bool.{true, false}
use mathlib.Core.List.{List}
use lib.ListN.{length, set}
use Rattle.machine.specs.Given.{above, reaches}
use Rattle.machine.specs.Cursors.{pass, hand_out}
use Rattle.machine.proofs.RunLaws.{walk_full, walk_until, walk_count, walk_hand}
use Rattle.rule.specs.Run.{count_of}
use Rattle.walks.specs.declared.rrule_iter.Why.{Why}
use Rattle.walks.specs.declared.rrule_iter.Held.{Held}
use Rattle.walks.specs.declared.rrule_iter.Bounds.{Bounds}
use Rattle.walks.specs.Walks.{bound_of, given_by, walked_by, walk_from}
use Rattle.walks.proofs.WalkLaws.{stops, rest_first}

-- what a call holds when a candidate is handed out
abbrev pub handed_out : Held → Held
handed_out h = record { cursor = hand_out (pass h.cursor); moves = h.moves; handed = h.handed + 1 }

module _ (b : Bounds) (f : ℕ → ℕ) (n : ℕ) (h : Held) (buffer : List ℕ) (l : h.cursor.place < n) where
  pub rest_full : h.handed ≡ length buffer → walk_from b f n h buffer ≡ stops Why.Full h buffer
  unfolding walked_by
  rest_full o = rest_first b f n h buffer l _ refl ∙ walk_full (given_by b) _ _ _ _ _ _ _ _ o

  -- the candidate is the second x, and a slot is free
  module _ (x : ℕ) (e : x ≡ f h.cursor.place) (free : h.handed ≡ length buffer → ⊥) where
    pub rest_until : above (bound_of b.until) x ≡ true → walk_from b f n h buffer ≡ stops Why.Until h buffer
    unfolding walked_by given_by
    rest_until u =
        rest_first b f n h buffer l x e
        ∙ walk_until (given_by b) x _ h.cursor.k h.cursor.place h.cursor.number h.moves h.handed buffer free u

    module _ (u : above (bound_of b.until) x ≡ false) (s : b.start ≤ x) where
      pub rest_count : reaches (count_of b.count) (h.cursor.number + 1) ≡ true
          → walk_from b f n h buffer ≡ stops Why.Count (handed_out h) (set buffer h.handed (x - 62135596800))
      unfolding walked_by given_by
      rest_count r =
          rest_first b f n h buffer l x e
          ∙ walk_count (given_by b) x _ h.cursor.k h.cursor.place h.cursor.number h.moves h.handed buffer free u s r

      pub rest_hand : reaches (count_of b.count) (h.cursor.number + 1) ≡ false
          → walk_from b f n h buffer ≡ walk_from b f n (handed_out h) (set buffer h.handed (x - 62135596800))
      unfolding walk_from given_by
      rest_hand r =
          rest_first b f n h buffer l x e
          ∙ walk_hand (given_by b) x _ h.cursor.k h.cursor.place h.cursor.number h.moves h.handed buffer free u s r
