-- Where a run begins: what it refuses, an ended cursor, and a running one.
-- Assumes nothing.
use Prim.Native.Nat.{ℕ}
use mathlib.Core.Path.{◌≡◌, refl, sym, ap, ◌∙◌}
use mathlib.Core.Bool.{true, false}
use mathlib.Core.List.{List}
use lib.Dec.{leb}
use Rattle.std.proofs.lemmas.Bool.{and_right}
use Rattle.machine.specs.declared.Cause.{Cause}
use Rattle.machine.specs.declared.State.{State}
use Rattle.machine.specs.declared.Fault.{Fault}
use Rattle.machine.specs.declared.Stop.{Stop}
use Rattle.machine.specs.declared.Cursor.{Cursor}
use Rattle.machine.specs.declared.Answer.{Answer}
use Rattle.machine.specs.Cursors.{poised, formed_in, well_formed}
use Rattle.machine.specs.Run.{Call, Now, opened}
use Rattle.machine.specs.Compute.{resume, runs, run}
use Rattle.machine.specs.Calls.{beside, answered}
use Rattle.machine.specs.Faults.{refused_answer}
use Rattle.machine.proofs.RunLaws.{call_record, call_cursor, call_run}
use Rattle.rule.specs.declared.rrule.Rule.{Rule}
use Rattle.rule.specs.Periods.{in_range}
use Rattle.rule.specs.Records.{yielded}
use Rattle.rule.specs.Run.{periods, run_of}
use Rattle.walks.specs.Walks.{now_of}
use Rattle.settling.specs.Settling.{answer_of, held_of}

module _ (r : Rule) (c : Cursor) (buffer : List ℕ) (m : ℕ) (a : Answer) where
  abbrev x : Call ℕ
  x = record { buffer = buffer; budget = m }

  pub record_refused : yielded r ≡ false → a ≡ refused_answer Fault.Record c → beside a buffer ≡ run_of r c buffer m
  unfolding run_of
  record_refused e f = ap (λ (y : Answer). beside y buffer) f ∙ sym (ap answered (call_record (yielded r) (periods r) c x e))

  module _ (good : yielded r ≡ true) where
    pub ended_returns : (cause : Cause) → c.state ≡ State.Ended cause → a ≡ answer_of Stop.Ended c.state (held_of c) → beside a buffer ≡ run_of r c buffer m
    unfolding run_of run well_formed
    ended_returns cause e f =
        ap (λ (y : Answer). beside y buffer) f
        ∙ sym (ap answered (call_run (yielded r) (periods r) c x good (ap (λ (s : State). formed_in s (periods r) c) e)
        ∙ ap (λ (s : State). resume (runs (periods r) m) s (opened c x)) e))

    module _ (running : c.state ≡ State.Running) where
      pub cursor_refused : poised (periods r) c ≡ false → a ≡ refused_answer Fault.Cursor c → beside a buffer ≡ run_of r c buffer m
      unfolding run_of well_formed
      cursor_refused e f =
          ap (λ (y : Answer). beside y buffer) f
          ∙ sym (ap answered (call_cursor (yielded r) (periods r) c x good (ap (λ (s : State). formed_in s (periods r) c) running ∙ e)))

      held_now : opened c x ≡ now_of State.Running (held_of c) buffer
      held_now = λ i. record { cursor = record { state = running i; k = c.k; place = c.place; number = c.number }; made = 0; handed = 0; buffer = buffer }

      pub runs_on : poised (periods r) c ≡ true → (b : List ℕ) → beside a b ≡ answered (runs (periods r) m (now_of State.Running (held_of c) buffer))
          → beside a b ≡ run_of r c buffer m
      unfolding run_of run well_formed
      runs_on e b f =
          f ∙ sym (ap answered (call_run (yielded r) (periods r) c x good (ap (λ (s : State). formed_in s (periods r) c) running ∙ e)
          ∙ ap (λ (s : State). resume (runs (periods r) m) s (opened c x)) running
          ∙ ap (λ (s : Now ℕ). runs (periods r) m s) held_now))

      -- a period out of range is no place for a running cursor
      pub out_of_range : in_range r c.k ≡ false → poised (periods r) c ≡ false
      unfolding periods
      out_of_range e = rw e (and_right (leb 1 r.interval) false refl)
