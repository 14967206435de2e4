-- The computing run, one step at a time, over the numbers that code keeps: a law for each branch of its loops.
-- Assumes nothing.
use Prim.Native.Nat.{ℕ, zero, suc, ◌+◌, ◌≤◌, ◌<◌}
use mathlib.Core.Path.{◌≡◌, refl, ap, ◌∙◌}
use mathlib.Core.Bool.{Bool, true, false}
use mathlib.Core.List.{List, ◌∷◌}
use lib.ListN.{length, set}
use borrow.Author.Tests.{eq-eqb, ne_eqb, lt-ltb, le-ltb}
use Rattle.machine.specs.declared.Cause.{Cause}
use Rattle.machine.specs.declared.State.{State}
use Rattle.machine.specs.declared.Fault.{Fault}
use Rattle.machine.specs.declared.Stop.{Stop}
use Rattle.machine.specs.declared.Cursor.{Cursor}
use Rattle.machine.specs.Given.{above, reaches, Move.To, Move.NoTick, Move.Range, Given}
use Rattle.machine.specs.Cursors.{remaining, well_formed}
use Rattle.machine.specs.Run.{counted, at_candidate, move_on, Call, Now, Outcome}
use Rattle.machine.specs.Compute.{outcome, Walked.stopped, Walked.through, walk, after, move_then, runs, run}
use Rattle.machine.specs.Calls.{refuse, call}

-- what a call holds, by its numbers: k, place and number of the cursor, then the moves made and the count handed out in this call
abbrev pub now : {A : Type 0} → State → ℕ → ℕ → ℕ → ℕ → ℕ → List A → Now A
now state k place number made handed buffer = record {
  cursor = record { state = state; k = k; place = place; number = number };
  made = made;
  handed = handed;
  buffer = buffer;
}

abbrev pub running : {A : Type 0} → ℕ → ℕ → ℕ → ℕ → ℕ → List A → Now A
running = now State.Running

-- a call, and where its run begins
module _ {A : Type 0} (good : Bool) (g : Given A) (c : Cursor) (x : Call A) where
  pub call_record : good ≡ false → call good g c x ≡ refuse Fault.Record c x
  unfolding call
  call_record e = rw e

  module _ (e : good ≡ true) where
    pub call_cursor : well_formed g c ≡ false → call good g c x ≡ refuse Fault.Cursor c x
    unfolding call
    call_cursor f = rw (e, f, call)

    pub call_run : well_formed g c ≡ true → call good g c x ≡ run g c x
    unfolding call
    call_run f = rw (e, f, call)

module _ {A : Type 0} (g : Given A) (k place number m : ℕ) (buffer : List A) where
  pub run_ended : (cause : Cause)
      → run g (now (State.Ended cause) k place number 0 0 buffer).cursor (record { buffer = buffer; budget = m })
      ≡ outcome Stop.Ended (now (State.Ended cause) k place number 0 0 buffer)
  unfolding run
  run_ended cause = refl

  pub run_running : run g (running k place number 0 0 buffer).cursor (record { buffer = buffer; budget = m })
      ≡ runs g m (running k place number 0 0 buffer)
  unfolding run
  run_running = refl

-- the walk over the candidates of a period
module _ {A : Type 0} (g : Given A) (x : ℕ) (xs : List ℕ) (k place number made handed : ℕ) (buffer : List A) where
  pub walk_full : handed ≡ length buffer
      → walk g (x ∷ xs) (running k place number made handed buffer) ≡ stopped (outcome Stop.More (running k place number made handed buffer))
  unfolding walk
  walk_full f = rw (eq-eqb _ _ f, walk)

  module _ (f : handed ≡ length buffer → ⊥) where
    pub walk_until : above g.until x ≡ true
        → walk g (x ∷ xs) (running k place number made handed buffer)
        ≡ stopped (outcome Stop.Ended (now (State.Ended Cause.Until) k place number made handed buffer))
    unfolding walk at_candidate
    walk_until u = rw (ne_eqb _ _ f, walk, u, at_candidate)

    module _ (u : above g.until x ≡ false) where
      pub walk_pass : x < g.start
          → walk g (x ∷ xs) (running k place number made handed buffer) ≡ walk g xs (running k (place + 1) number made handed buffer)
      unfolding walk at_candidate
      walk_pass b = rw (ne_eqb _ _ f, walk, u, lt-ltb _ _ b, at_candidate)

      module _ (b : g.start ≤ x) where
        pub walk_count : reaches g.count (number + 1) ≡ true
            → walk g (x ∷ xs) (running k place number made handed buffer)
            ≡ stopped
            (outcome Stop.Ended (now (State.Ended Cause.Count) k (place + 1) (number + 1) made (handed + 1) (set buffer handed (g.shown x))))
        unfolding walk at_candidate counted
        walk_count r = rw (ne_eqb _ _ f, walk, u, le-ltb _ _ b, at_candidate, r, counted)

        pub walk_hand : reaches g.count (number + 1) ≡ false
            → walk g (x ∷ xs) (running k place number made handed buffer)
            ≡ walk g xs (running k (place + 1) (number + 1) made (handed + 1) (set buffer handed (g.shown x)))
        unfolding walk at_candidate counted
        walk_hand r = rw (ne_eqb _ _ f, walk, u, le-ltb _ _ b, at_candidate, r, counted)

-- a run whose walk has stopped
pub runs_stopped : {A : Type 0} (g : Given A) (left : ℕ) (s : Now A) (o : Outcome A) → walk g (remaining g s.cursor) s ≡ stopped o → runs g left s ≡ o
unfolding runs after
runs_stopped g zero s o e = ap (after (outcome Stop.Limited)) e
runs_stopped g (suc left) s o e = ap (after (move_then g (runs g left))) e

-- a run whose walk came through
module _ {A : Type 0} (g : Given A) (s : Now A) (k place number made handed : ℕ) (buffer : List A)
    (e : walk g (remaining g s.cursor) s ≡ through (running k place number made handed buffer)) where
  pub runs_more : handed ≡ length buffer → (left : ℕ) → runs g left s ≡ outcome Stop.More (running k place number made handed buffer)
  unfolding runs after
  runs_more f zero = ap (after (outcome Stop.Limited)) e ∙ rw (eq-eqb _ _ f, after)
  runs_more f (suc left) = ap (after (move_then g (runs g left))) e ∙ rw (eq-eqb _ _ f, after)

  module _ (f : handed ≡ length buffer → ⊥) where
    pub runs_limited : runs g zero s ≡ outcome Stop.Limited (running k place number made handed buffer)
    unfolding runs after
    runs_limited = ap (after (outcome Stop.Limited)) e ∙ rw (ne_eqb _ _ f, after)

    module _ (left : ℕ) where
      came : runs g (suc left) s ≡ move_then g (runs g left) (running k place number made handed buffer)
      unfolding runs after
      came = ap (after (move_then g (runs g left))) e ∙ rw (ne_eqb _ _ f, after)

      pub runs_to : (k' : ℕ) → g.move k ≡ To k' → runs g (suc left) s ≡ runs g left (running k' 0 number (made + 1) handed buffer)
      unfolding move_on
      runs_to k' q = came ∙ rw (q, move_on)

      pub runs_no_tick : g.move k ≡ NoTick
          → runs g (suc left) s ≡ outcome Stop.Ended (now (State.Ended Cause.NoTick) k place number made handed buffer)
      unfolding move_on
      runs_no_tick q = came ∙ rw (q, move_on)

      pub runs_range : g.move k ≡ Range
          → runs g (suc left) s ≡ outcome Stop.Ended (now (State.Ended Cause.Range) k place number made handed buffer)
      unfolding move_on
      runs_range q = came ∙ rw (q, move_on)
