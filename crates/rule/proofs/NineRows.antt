-- The twelve rows are the nine and three more: what comes of a table in two parts.
-- Assumes nothing.
use Rattle.std.specs.Prelude.{Ok, Err}
use Prim.Native.Nat.{ℕ}
use mathlib.Core.Path.{◌≡◌, refl, ap, sym, ◌∙◌}
use mathlib.Core.Bool.{Bool, true, false, ◌&&◌}
use mathlib.Core.List.{List, [], ◌∷◌, ◌++◌}
use native.Mathlib.Omega.{arith}
use Rattle.machine.specs.Calls.{call, answered}
use Rattle.rule.specs.declared.rrule.Refusal.{Refusal}
use Rattle.rule.specs.Refusals.{Verdict}
use Rattle.rule.specs.declared.rrule.Rule.{Rule}
use Rattle.rule.specs.Raw.{Raw}
use Rattle.rule.specs.Refusals.{refusals, applies, first_of, verdict}
use Rattle.rule.specs.Filling.{given, fill, answers, checked}
use Rattle.rule.specs.Records.{as_raw, accepts, same_sets, yielded}
use Rattle.rule.specs.Run.{periods, run_of}
use Rattle.rule.specs.NineRows.{nine_rows, new_rows, verdict_by_nine, checked_by_nine, yielded_by_nine, run_by_nine, EarlierRowsFirst, StillAccepted, Untouched}
use Rattle.rule.specs.NineRows.{CheckStays, RunStays, NoLongerGood}
use Rattle.rule.proofs.Demand.{answered_verdict}
use Rattle.rule.proofs.RefusalLaws.{later}

-- a verdict, or another where it is none
or_else : Verdict → Verdict → Verdict
or_else (Err n) v = Err n
or_else (Ok tt) v = v

-- the first of two tables, one after the other
first_of_two : (p : Refusal → Bool) (ms ns : List Refusal) → first_of p (ms ++ ns) ≡ or_else (first_of p ms) (first_of p ns)
unfolding first_of or_else
first_of_two p [] ns = refl
first_of_two p (m ∷ ms) ns = go (p m) (first_of_two p ms ns)
  where
    go : (t : Bool) → first_of p (ms ++ ns) ≡ or_else (first_of p ms) (first_of p ns)
        → elim t [ true ↦ Err m | false ↦ first_of p (ms ++ ns) ]
        ≡ or_else (elim t [ true ↦ Err m | false ↦ first_of p ms ]) (first_of p ns)
    go true e = refl
    go false e = e

two_parts : nine_rows ++ new_rows ≡ refusals
two_parts = refl

by_parts : (w : Raw) → verdict w ≡ or_else (verdict_by_nine w) (first_of (λ n. applies n w) new_rows)
unfolding verdict verdict_by_nine
by_parts w = first_of_two (λ n. applies n w) nine_rows new_rows

-- where the nine have a refusal it stays, and where the three have none the verdict stays
refused_first : (v u : Verdict) (n : Refusal) → v ≡ Err n → or_else v u ≡ v
unfolding or_else
refused_first (Err m) u n e = refl
refused_first (Ok tt) u n e = absurd (let z : ◌≡◌ {A = ℕ} 0 1 = cc in omega arith)

none_added : (v u : Verdict) → u ≡ Ok tt → or_else v u ≡ v
unfolding or_else
none_added (Err m) u e = refl
none_added (Ok tt) u e = e

accepted_first : (v u : Verdict) → or_else v u ≡ Ok tt → v ≡ Ok tt
unfolding or_else
accepted_first (Err m) u e = e
accepted_first (Ok tt) u e = refl

-- one verdict, one answer
same_answer : (w : Raw) → verdict w ≡ verdict_by_nine w → checked w ≡ checked_by_nine w
unfolding checked checked_by_nine
same_answer w e = ap (λ (v : Verdict). answers v (fill (given w))) e

pub earlier_rows_first : EarlierRowsFirst
unfolding or_else
earlier_rows_first w = (
  λ n e. same_answer w (by_parts w ∙ refused_first (verdict_by_nine w) (first_of (λ m. applies m w) new_rows) n e),
  λ e. by_parts w ∙ ap (λ (v : Verdict). or_else v (first_of (λ m. applies m w) new_rows)) e,
)

pub still_accepted : StillAccepted
unfolding checked
still_accepted w r e =
    let a : verdict w ≡ Ok tt = answered_verdict (verdict w) (fill (given w)) r e in
    let b : verdict_by_nine w ≡ Ok tt = accepted_first (verdict_by_nine w) _ (sym (by_parts w) ∙ a) in
    sym (same_answer w (a ∙ sym b))

none_new : (w : Raw) → Untouched w → first_of (λ n. applies n w) new_rows ≡ Ok tt
unfolding first_of
none_new w u =
    later p Refusal.Nought (Refusal.CountAndUntil ∷ Refusal.ListMisplaced ∷ []) u.nought
    ∙ later p Refusal.CountAndUntil (Refusal.ListMisplaced ∷ []) u.both
    ∙ later p Refusal.ListMisplaced [] u.misplaced
  where
    p : Refusal → Bool
    p n = applies n w

verdict_stays : (w : Raw) → Untouched w → verdict w ≡ verdict_by_nine w
verdict_stays w u = by_parts w ∙ none_added (verdict_by_nine w) (first_of (λ n. applies n w) new_rows) (none_new w u)

pub check_stays : CheckStays
check_stays w u = same_answer w (verdict_stays w u)

record_stays : (r : Rule) → Untouched (as_raw r) → yielded r ≡ yielded_by_nine r
unfolding yielded yielded_by_nine
record_stays r u = ap (λ (v : Verdict). accepts v && same_sets (fill (given (as_raw r))) r) (verdict_stays (as_raw r) u)

pub run_stays : RunStays
unfolding run_of run_by_nine
run_stays r u c buffer m =
    ap (λ (b : Bool). answered (call b (periods r) c (record { buffer = buffer; budget = m }))) (record_stays r u)

pub no_longer_good : NoLongerGood
no_longer_good r a b u = let e : true ≡ false = sym a ∙ sym (record_stays r u) ∙ b in let z : ◌≡◌ {A = ℕ} 0 1 = cc in omega arith
