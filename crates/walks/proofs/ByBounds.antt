-- A walk reads four things of what its run is given: the start, UNTIL, COUNT and what is written.
-- Assumes nothing.
use Prim.Native.Nat.{ℕ, ◌+◌}
use mathlib.Core.Path.{◌≡◌, refl, sym, ap, ◌∙◌}
use mathlib.Core.Bool.{Bool, true, false}
use mathlib.Core.List.{List, [], ◌∷◌}
use lib.ListN.{set}
use lib.Dec.{ltb}
use Rattle.machine.specs.declared.Cause.{Cause}
use Rattle.machine.specs.declared.State.{State}
use Rattle.machine.specs.declared.Stop.{Stop}
use Rattle.machine.specs.declared.Cursor.{Cursor}
use Rattle.machine.specs.Given.{Bound, Given, above, reaches}
use Rattle.machine.specs.Cursors.{end_by, pass, hand_out}
use Rattle.machine.specs.Run.{Deed, Deed.leaves, Deed.hands, Deed.moves, counted, at_candidate, Now, does, full}
use Rattle.machine.specs.Compute.{Walked, Walked.stopped, outcome, proceed, walk}
use Rattle.rule.specs.Instants.{instant}
use Rattle.rule.specs.Run.{count_of}
use Rattle.walks.specs.declared.rrule_iter.Bounds.{Bounds}
use Rattle.walks.specs.Walks.{bound_of, given_by}

-- what a candidate does to a cursor, by the bounds alone
unfoldable deed : (until : Bound) (start : ℕ) (count : Bound) → ℕ → Cursor → Deed
deed until start count x c = elim (above until x) [
  | true ↦ leaves (end_by Cause.Until c)
  | false ↦ elim (ltb x start) [
    | true ↦ leaves (pass c)
    | false ↦ hands x (elim (reaches count (c.number + 1)) [
      | true ↦ end_by Cause.Count (hand_out (pass c))
      | false ↦ hand_out (pass c)
    ])
  ]
]

by_deed : (g : Given ℕ) (x : ℕ) (c : Cursor) → at_candidate g x c ≡ deed g.until g.start g.count x c
unfolding at_candidate counted deed
by_deed g x c = refl

-- an ended cursor stops either walk; a running one goes on alike
proceeds : (f g : Now ℕ → Walked ℕ) → ((s : Now ℕ) → f s ≡ g s) → (state : State) (s : Now ℕ) → proceed f state s ≡ proceed g state s
proceeds f g e (State.Ended cause) s = refl
proceeds f g e State.Running s = e s

-- two runs that are given the same of these walk alike
module _ (g g' : Given ℕ) (st : g.start ≡ g'.start) (u : g.until ≡ g'.until) (k : g.count ≡ g'.count) (w : g.shown ≡ g'.shown) where
  candidate_alike : (x : ℕ) (c : Cursor) → at_candidate g x c ≡ at_candidate g' x c
  candidate_alike x c = by_deed g x c ∙ rw (u, st, k) (sym (by_deed g' x c))

  does_alike : (s : Now ℕ) (d : Deed) → does g s d ≡ does g' s d
  does_alike s (leaves c) = refl
  does_alike s (hands x c) =
      ap (λ (shown : ℕ → ℕ). record { cursor = c; made = s.made; handed = s.handed + 1; buffer = set s.buffer s.handed (shown x) }) w
  does_alike s (moves c) = refl

  pub walk_alike : (xs : List ℕ) (s : Now ℕ) → walk g xs s ≡ walk g' xs s
  unfolding walk
  walk_alike [] s = refl
  walk_alike (x ∷ xs) s = step (full s) (walk_alike xs)
    where
      step : (t : Bool) → ((s : Now ℕ) → walk g xs s ≡ walk g' xs s)
          → ◌≡◌ {A = Walked ℕ} (elim t [
            | true ↦ stopped (outcome Stop.More s)
            | false ↦ proceed (walk g xs) (does g s (at_candidate g x s.cursor)).cursor.state (does g s (at_candidate g x s.cursor))
          ]) (elim t [
            | true ↦ stopped (outcome Stop.More s)
            | false ↦ proceed (walk g' xs) (does g' s (at_candidate g' x s.cursor)).cursor.state (does g' s (at_candidate g' x s.cursor))
          ])
      step true r = refl
      step false r =
          ap (λ (t : Now ℕ). proceed (walk g xs) t.cursor.state t)
          (ap (λ (d : Deed). does g s d) (candidate_alike x s.cursor) ∙ does_alike s (at_candidate g' x s.cursor))
          ∙ proceeds (walk g xs) (walk g' xs) r (does g' s (at_candidate g' x s.cursor)).cursor.state (does g' s (at_candidate g' x s.cursor))

-- a walk by the bounds alone
pub walk_by_bounds : (g : Given ℕ) (b : Bounds) → g.start ≡ b.start → g.until ≡ bound_of b.until → g.count ≡ count_of b.count
    → g.shown ≡ instant → (xs : List ℕ) (s : Now ℕ) → walk g xs s ≡ walk (given_by b) xs s
unfolding given_by
walk_by_bounds g b st u k w = walk_alike g (given_by b) st u k w
