-- The turns end with one outcome alone, and the run computes it.
-- Assumes nothing.
use Prim.Native.Nat.{ℕ, zero, suc, ◌+◌}
use mathlib.Core.Path.{◌≡◌, refl, sym, subst, ◌∙◌}
use mathlib.Core.Logic.{⊎_elim}
use mathlib.Core.Bool.{true, false}
use mathlib.Core.List.{List, [], ◌∷◌}
use lib.Seq.{drop-drop}
use native.Mathlib.Omega.{arith}
use borrow.Author.Tests.{eq-eqb, ne_eqb}
use Rattle.machine.specs.declared.State.{State}
use Rattle.machine.specs.declared.Stop.{Stop}
use Rattle.machine.specs.declared.Cursor.{Cursor}
use Rattle.machine.specs.Given.{Given}
use Rattle.machine.specs.Cursors.{remaining}
use Rattle.machine.specs.Run.{Deed.hands, at_candidate, move_on, Call, Now, opened, does, full, Outcome, Ends, Ends.stop, Ends.again}
use Rattle.machine.specs.Compute.{outcome, proceed, walk, after, resume, move_then, runs, run}
use Rattle.machine.proofs.Laws.{split}
use Rattle.machine.proofs.Cases.{candidate_tests, counted_cases, move_tests, turn_ended, turn_full, turn_candidate, turn_limited, turn_move}

pub one_answer : {A : Type 0} (g : Given A) (m : ℕ) {s : Now A} {a b : Outcome A} → Ends g m s a → Ends g m s b → a ≡ b
one_answer g m (stop p) (stop q) = cc
one_answer g m (stop p) (again q e) = absurd (let z : ◌≡◌ {A = ℕ} 0 1 = cc in omega arith)
one_answer g m (again p d) (stop q) = absurd (let z : ◌≡◌ {A = ℕ} 0 1 = cc in omega arith)
one_answer {A} g m {a = a} (again {t = t} p d) (again {t = u} q e) =
    let same : t ≡ u = cc in
    one_answer g m {a = a} (subst (λ (x : Now A). Ends g m x a) same d) e

-- a candidate's deed makes no move, and leaves the period; where the cursor runs on, it has passed it
record Same {A : Type 0} (s t : Now A) : Type 0 where
  made : t.made ≡ s.made
  k : t.cursor.k ≡ s.cursor.k
  place : t.cursor.state ≡ State.Running → t.cursor.place ≡ s.cursor.place + 1

candidate_same : {A : Type 0} (g : Given A) (x : ℕ) (s : Now A) → Same s (does g s (at_candidate g x s.cursor))
unfolding at_candidate
candidate_same g x s =
    candidate_tests (Same s (does g s (at_candidate g x s.cursor))) g x
    (λ a. rw (a, at_candidate) (record { made = refl; k = refl; place = λ r. absurd (let z : ◌≡◌ {A = ℕ} 0 1 = cc in omega arith) }))
    (λ a b. rw (a, b, at_candidate) (record { made = refl; k = refl; place = λ r. refl }))
    (λ a b.
    rw (a, b, at_candidate)
    (counted_cases (λ (d : Cursor). Same s (does g s (hands x d))) g _
    (λ d. record { made = refl; k = refl; place = λ r. absurd (let z : ◌≡◌ {A = ℕ} 0 1 = cc in omega arith) })
    (λ d. record { made = refl; k = refl; place = λ r. refl })))

moved_once : {A : Type 0} (g : Given A) (s : Now A)
    → (does g s (move_on g s.cursor)).cursor.state ≡ State.Running → (does g s (move_on g s.cursor)).made ≡ s.made + 1
unfolding move_on
moved_once g s =
    move_tests ((does g s (move_on g s.cursor)).cursor.state ≡ State.Running → (does g s (move_on g s.cursor)).made ≡ s.made + 1) g s.cursor
    (λ k e. rw (e, move_on) (λ r. refl))
    (λ e. rw (e, move_on) (λ r. absurd (let z : ◌≡◌ {A = ℕ} 0 1 = cc in omega arith)))
    (λ e. rw (e, move_on) (λ r. absurd (let z : ◌≡◌ {A = ℕ} 0 1 = cc in omega arith)))

module _ {A : Type 0} (g : Given A) (m : ℕ) where
  resume_ends : (f : Now A → Outcome A) (y : State) (s : Now A) → s.cursor.state ≡ y
      → (s.cursor.state ≡ State.Running → Ends g m s (f s)) → Ends g m s (resume f y s)
  resume_ends f (State.Ended cause) s e h = stop (turn_ended g m s cause e)
  resume_ends f State.Running s e h = h e

  -- where none remains
  abbrev Finishes : (Now A → Outcome A) → ℕ → Type 0
  Finishes f made = (t : Now A) → t.cursor.state ≡ State.Running → full t ≡ false → remaining g t.cursor ≡ [] → t.made ≡ made → Ends g m t (f t)

  walk_ends : (f : Now A → Outcome A) (xs : List ℕ) (s : Now A) → Finishes f s.made
      → s.cursor.state ≡ State.Running → remaining g s.cursor ≡ xs → Ends g m s (after f (walk g xs s))
  unfolding walk after
  walk_ends f [] s h r e =
      ⊎_elim
      (λ (b : full s ≡ true). rw (b, after) (stop (turn_full g m s r b)))
      (λ (b : full s ≡ false). rw (b, after) (h s r b e refl))
      (split (full s))
  walk_ends f (x ∷ xs) s h r e =
      ⊎_elim
      (λ (b : full s ≡ true). rw (b, walk) (stop (turn_full g m s r b)))
      (λ (b : full s ≡ false). rw (b, walk) (again (turn_candidate g m s r b x xs e) (on t.cursor.state refl (walk_ends f xs t))))
      (split (full s))
    where
      t : Now A
      t = does g s (at_candidate g x s.cursor)

      on : (y : State) → t.cursor.state ≡ y
          → (Finishes f t.made → t.cursor.state ≡ State.Running → remaining g t.cursor ≡ xs → Ends g m t (after f (walk g xs t)))
          → Ends g m t (after f (proceed (walk g xs) y t))
      on (State.Ended cause) q ih = stop (turn_ended g m t cause q)
      on State.Running q ih =
          let same : Same s t = candidate_same g x s in
          ih (subst (λ (i : ℕ). Finishes f i) (sym same.made) h) q
          (rw (same.k, same.place q) (sym (drop-drop 1 s.cursor.place (g.kept s.cursor.k)) ∙ rw e))

  runs_ends : (left : ℕ) (s : Now A) → s.made + left ≡ m → s.cursor.state ≡ State.Running → Ends g m s (runs g left s)
  unfolding runs
  runs_ends zero s h r = walk_ends (outcome Stop.Limited) _ s (λ t q f e i. stop (turn_limited g m t q f e (eq-eqb t.made m (omega arith)))) r refl
  runs_ends (suc left) s h r =
      walk_ends (move_then g (runs g left)) _ s
      (λ t q f e i. again (turn_move g m t q f e (ne_eqb t.made m (λ z. omega arith)))
      (resume_ends (runs g left) _ _ refl (λ w. runs_ends left _ (let v = moved_once g t w in omega arith) w)))
      r refl

pub run_ends : {A : Type 0} (g : Given A) (c : Cursor) (x : Call A) → Ends g x.budget (opened c x) (run g c x)
unfolding run
run_ends g c x = resume_ends g x.budget (runs g x.budget) c.state (opened c x) refl (runs_ends g x.budget _ (opened c x) (omega arith))
