-- The test of a cursor, and what a call refuses.
-- Assumes nothing.
use Prim.Native.Nat.{ℕ}
use mathlib.Core.Path.{◌≡◌, refl, subst}
use mathlib.Core.Logic.{⊎_elim, ◌↔◌}
use mathlib.Core.Bool.{Bool, true, false, ◌&&◌}
use native.Mathlib.Omega.{arith}
use borrow.Author.Tests.{leb-true, le-leb, ltb-true, lt-ltb}
use Rattle.machine.specs.declared.State.{State}
use Rattle.machine.specs.declared.Fault.{Fault}
use Rattle.machine.specs.declared.Stop.{Stop}
use Rattle.machine.specs.declared.Cursor.{Cursor}
use Rattle.machine.specs.Faults.{refused_answer}
use Rattle.machine.specs.Given.{Bound, Bound.absent, Bound.present, Below, below, Given}
use Rattle.machine.specs.Cursors.{WellFormed, formed_in, well_formed}
use Rattle.machine.specs.Run.{Call}
use Rattle.machine.specs.Compute.{run}
use Rattle.machine.specs.Calls.{call, beside, answered}
use Rattle.machine.specs.Promises.{Reason}
use Rattle.machine.specs.Claims.{Tests, RecordRefused, CursorRefused, RefusedAsGiven, Accepted}
use Rattle.machine.proofs.Laws.{split}
use Rattle.machine.proofs.Kept.{call_kept}

both : (a b : Bool) → (a && b) ≡ true → (a ≡ true) × (b ≡ true)
both true b e = (refl, e)
both false b e = absurd (let z : ◌≡◌ {A = ℕ} 0 1 = cc in omega arith)

below_test : (b : Bound) (n : ℕ) → (below b n ≡ true) ↔ Below b n
below_test absent n = ((λ e. tt), (λ h. refl))
below_test (present c) n = (ltb-true n c, lt-ltb n c)

pub tests : {A : Type 0} (g : Given A) → Tests g
unfolding well_formed
tests g c = on c.state refl
  where
    on : (y : State) → c.state ≡ y → (formed_in y g c ≡ true) ↔ WellFormed g c
    on (State.Ended cause) e = ((λ q r. absurd (let z : ◌≡◌ {A = ℕ} 0 1 = cc in omega arith)), (λ f. refl))
    on State.Running e = (
      (λ q r.
          let a = both _ _ q in
          let b = both _ _ a.1 in
          let d = both _ _ b.1 in
          let f = both _ _ d.1 in
          record {
            interval = leb-true _ _ a.0;
            in_range = b.0;
            place = leb-true _ _ d.0;
            below = (below_test g.count c.number).0 f.0;
            number = leb-true _ _ f.1;
          }),
      (λ f. let p = f e in
          rw (le-leb _ _ p.interval, p.in_range, le-leb _ _ p.place, (below_test g.count c.number).1 p.below, le-leb _ _ p.number)),
    )

-- a call, by its tests
call_tests : {A : Type 0} (Q : Type 0) (good : Bool) (g : Given A) (c : Cursor)
    → (good ≡ false → Q)
    → (good ≡ true → well_formed g c ≡ false → (WellFormed g c → ⊥) → Q)
    → (good ≡ true → well_formed g c ≡ true → WellFormed g c → Q)
    → Q
call_tests Q good g c bad ill well =
    ⊎_elim
    (λ (b : good ≡ true). ⊎_elim
    (λ (e : well_formed g c ≡ true). well b e ((tests g c).0 e))
    (λ (e : well_formed g c ≡ false). ill b e (λ f. let h = (tests g c).1 f in let z : ◌≡◌ {A = ℕ} 0 1 = cc in omega arith))
    (split (well_formed g c)))
    bad
    (split good)

run_not_refused : {A : Type 0} (g : Given A) (c : Cursor) (x : Call A) (fault : Fault) → (run g c x).stop ≡ Stop.Refused fault → ⊥
run_not_refused g c x fault e = subst (Reason g x.budget (run g c x).now) e (call_kept g c x).reason

module _ {A : Type 0} (g : Given A) where
  pub record_refused : RecordRefused g
  unfolding call
  record_refused good c x =
      call_tests (((call good g c x).stop ≡ Stop.Refused Fault.Record) ↔ (good ≡ false)) good g c
      (λ b. ((λ e. b), (λ e. rw (b, call))))
      (λ b w f.
      rw (b, w, call) ((λ e. absurd (let z : ◌≡◌ {A = ℕ} 0 1 = cc in omega arith)), (λ e. absurd (let z : ◌≡◌ {A = ℕ} 0 1 = cc in omega arith))))
      (λ b w f.
      rw (b, w, call) ((λ e. absurd (run_not_refused g c x Fault.Record e)), (λ e. absurd (let z : ◌≡◌ {A = ℕ} 0 1 = cc in omega arith))))

  pub cursor_refused : CursorRefused g
  unfolding call
  cursor_refused good c x =
      call_tests (((call good g c x).stop ≡ Stop.Refused Fault.Cursor) ↔ ((good ≡ true) × (WellFormed g c → ⊥))) good g c
      (λ b.
      rw (b, call)
      ((λ e. absurd (let z : ◌≡◌ {A = ℕ} 0 1 = cc in omega arith)), (λ e. absurd (let q = e.0 in let z : ◌≡◌ {A = ℕ} 0 1 = cc in omega arith))))
      (λ b w f. ((λ e. (b, f)), (λ e. rw (b, w, call))))
      (λ b w f. rw (b, w, call) ((λ e. absurd (run_not_refused g c x Fault.Cursor e)), (λ e. absurd (e.1 f))))

  pub refused_as_given : RefusedAsGiven g
  unfolding call
  refused_as_given good c x fault =
      call_tests ((call good g c x).stop ≡ Stop.Refused fault → answered (call good g c x) ≡ beside (refused_answer fault c) x.buffer) good g c
      (λ b. rw (b, call) (λ e. let f : Fault.Record ≡ fault = cc in rw f))
      (λ b w f. rw (b, w, call) (λ e. let f : Fault.Cursor ≡ fault = cc in rw f))
      (λ b w f. rw (b, w, call) (λ e. absurd (run_not_refused g c x fault e)))

  pub accepted : Accepted g
  unfolding call
  accepted good c x e f =
      call_tests (call good g c x ≡ run g c x) good g c
      (λ b. absurd (let z : ◌≡◌ {A = ℕ} 0 1 = cc in omega arith))
      (λ b w n. absurd (n f))
      (λ b w h. rw (b, w, call))
