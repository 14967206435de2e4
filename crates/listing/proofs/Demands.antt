-- Demands 1 and 3 of the code: corollaries of `run`'s promise.
-- Assumes nothing.
use Rattle.std.specs.Prelude.{Some}
use Prim.Native.Nat.{ℕ, ◌+◌, ◌≤◌}
use mathlib.Core.Path.{◌≡◌, refl, sym, ap, ◌∙◌, subst}
use mathlib.Core.Logic.{◌↔◌}
use mathlib.Core.Bool.{true, false}
use mathlib.Core.List.{List, [], ◌∷◌, map}
use lib.ListN.{length, take, drop}
use Rattle.machine.specs.declared.Fault.{Fault}
use Rattle.machine.specs.declared.Stop.{Stop}
use Rattle.machine.specs.declared.Cursor.{Cursor}
use Rattle.machine.specs.Rising.{◌∈◌}
use Rattle.machine.specs.Cursors.{WellFormed}
use Rattle.machine.specs.Run.{Call}
use Rattle.machine.specs.Calls.{Answered, beside, answered, Told, tells, join, chain, Each}
use Rattle.machine.specs.Promises.{Reason, KeepsTo}
use Rattle.machine.specs.Faults.{refused_answer}
use Rattle.machine.proofs.Refusals.{record_refused, cursor_refused, refused_as_given}
use Rattle.rule.specs.declared.rrule.Rule.{Rule}
use Rattle.rule.specs.Meaning.{RisesFrom}
use Rattle.rule.specs.Records.{yielded}
use Rattle.rule.specs.Run.{periods, fresh_of, run_of}
use Rattle.rule.specs.Demand as rule
use Rattle.rule.proofs.Demand as rule-proofs
use contract.Lifetimes.{Lfts}
use denote.Triple.Clauses.{AtExit}
use borrow.Fn.Kinds.{Dens, res_t, ended_of}
use Rattle.listing.proofs.rrule_iter.run.Kinds as run-kinds
use Rattle.listing.proofs.rrule_iter.run.Reads as run
use Rattle.listing.specs.Demands.{Made, Promised, Chain, handed_out, left_by, DemandOne, Stopped, Kept, AllKept, DemandThree, DemandThreeBefore}
use Rattle.listing.specs.Demands.{NeverByInterval}

abbrev given : Made → Call ℕ
given x = record { buffer = x.buffer; budget = x.budget }

-- a call as it is promised is a call of the machine
module _ (r : Rule) (c : Cursor) (x : Made) (p : Promised r c x) where
  is_call : answered (rule.call_of r c (given x)) ≡ beside x.answer x.after
  unfolding run_of
  is_call = sym p

  stop_is : (rule.call_of r c (given x)).stop ≡ x.answer.stop
  stop_is = ap (λ (a : Answered ℕ). a.answer.stop) is_call

  cursor_is : (rule.call_of r c (given x)).now.cursor ≡ x.answer.cursor
  cursor_is = ap (λ (a : Answered ℕ). a.answer.cursor) is_call

  moves_are : (rule.call_of r c (given x)).now.made ≡ x.answer.moves
  moves_are = ap (λ (a : Answered ℕ). a.answer.moves) is_call

  handed_is : (rule.call_of r c (given x)).now.handed ≡ x.answer.handed
  handed_is = ap (λ (a : Answered ℕ). a.answer.handed) is_call

  after_is : (rule.call_of r c (given x)).now.buffer ≡ x.after
  after_is = ap (λ (a : Answered ℕ). a.buffer) is_call

  tells_is : tells (rule.call_of r c (given x)) ≡ record { listed = take x.answer.handed x.after; moves = x.answer.moves; cursor = x.answer.cursor }
  tells_is = ap (λ (a : Answered ℕ). record { listed = take a.answer.handed a.buffer; moves = a.answer.moves; cursor = a.answer.cursor }) is_call

pub demand_one : DemandOne
demand_one r c x p = (
  subst (λ (s : Stop). (s ≡ Stop.Refused Fault.Record) ↔ (yielded r ≡ false)) (stop_is r c x p) (record_refused (periods r) (yielded r) c (given x)),
  subst (λ (s : Stop). (s ≡ Stop.Refused Fault.Cursor) ↔ ((yielded r ≡ true) × (WellFormed (periods r) c → ⊥))) (stop_is r c x p)
      (cursor_refused (periods r) (yielded r) c (given x)),
  (λ fault e.
      let q : beside x.answer x.after ≡ beside (refused_answer fault c) x.buffer =
      sym (is_call r c x p) ∙ refused_as_given (periods r) (yielded r) c (given x) fault (stop_is r c x p ∙ e) in
      (ap (λ (a : Answered ℕ). a.answer) q, ap (λ (a : Answered ℕ). a.buffer) q)),
)

-- the moves that calls made, all together
moves_of : List Made → ℕ
moves_of [] = 0
moves_of (x ∷ xs) = x.answer.moves + moves_of xs

-- what one of them told
abbrev told : Made → Told ℕ
told x = record { listed = take x.answer.handed x.after; moves = x.answer.moves; cursor = x.answer.cursor }

-- calls as promised tell what the machine's calls tell
tell : (r : Rule) (c : Cursor) (xs : List Made) → Chain r c xs
    → chain (rule.call_of r) c (map given xs) ≡ record { listed = handed_out xs; moves = moves_of xs; cursor = left_by c xs }
unfolding chain handed_out left_by moves_of
tell r c [] p = refl
tell r c (x ∷ xs) p =
    ap (λ (t : Told ℕ). join t (chain (rule.call_of r) (rule.call_of r c (given x)).now.cursor (map given xs))) (tells_is r c x p.0)
    ∙ ap (λ (d : Cursor). join (told x) (chain (rule.call_of r) d (map given xs))) (cursor_is r c x p.0)
    ∙ ap (λ (t : Told ℕ). join (told x) t) (tell r x.answer.cursor xs p.1)

-- what the machine's calls keep to, the promised ones keep to
stopped : (r : Rule) (c : Cursor) (x : Made) (p : Promised r c x) (s : Stop) → Reason (periods r) x.budget (rule.call_of r c (given x)).now s → Stopped x s
stopped r c x p Stop.Ended q = (q.0, ap (λ (d : Cursor). d.state) (sym (cursor_is r c x p)) ∙ q.1)
stopped r c x p Stop.More q = sym (handed_is r c x p) ∙ q.1 ∙ ap length (after_is r c x p)
stopped r c x p Stop.Limited q = sym (moves_are r c x p) ∙ q.3
stopped r c x p (Stop.Refused fault) q = q

keeps : (r : Rule) (c : Cursor) (x : Made) (p : Promised r c x) → KeepsTo (periods r) c (given x) (rule.call_of r c (given x)) → Kept x
keeps r c x p q = record {
  stopped = subst (Stopped x) (stop_is r c x p) (stopped r c x p (rule.call_of r c (given x)).stop q.reason);
  budget = subst (λ (n : ℕ). n ≤ x.budget) (moves_are r c x p) q.budget;
  room = subst (λ (n : ℕ). n ≤ length x.buffer) (handed_is r c x p) q.fits;
  rest = sym (ap (λ (n : ℕ). drop n x.after) (handed_is r c x p)) ∙ sym (ap (drop (rule.call_of r c (given x)).now.handed) (after_is r c x p))
      ∙ q.rest ∙ ap (λ (n : ℕ). drop n x.buffer) (handed_is r c x p);
}

all_keep : (r : Rule) (c : Cursor) (xs : List Made) → Chain r c xs → Each (rule.call_of r) (KeepsTo (periods r)) c (map given xs) → AllKept xs
all_keep r c [] p q = tt
all_keep r c (x ∷ xs) p q = (
  keeps r c x p.0 q.0,
  all_keep r x.answer.cursor xs p.1
      (subst (λ (d : Cursor). Each (rule.call_of r) (KeepsTo (periods r)) d (map given xs)) (cursor_is r c x p.0) q.1),
)

pub demand_three : DemandThree
demand_three w r ok xs p =
    let l = rule-proofs.demand_three w r ok (map given xs) in
    let t = tell r (fresh_of r) xs p in
    let listed : (rule.told_by r (map given xs)).listed ≡ handed_out xs = ap (λ (x : Told ℕ). x.listed) t in
    let state : (rule.told_by r (map given xs)).cursor.state ≡ (left_by (fresh_of r) xs).state = ap (λ (x : Told ℕ). x.cursor.state) t in
    record {
      each = all_keep r (fresh_of r) xs p l.each;
      rises = subst (RisesFrom 0) listed l.rises;
      only = λ t h. l.only t (subst (λ (ys : List ℕ). t ∈ ys) (sym listed) h);
      all = λ t u h s le. subst (λ (ys : List ℕ). t ∈ ys) listed (l.all t u (subst (λ (ys : List ℕ). u ∈ ys) (sym listed) h) s le);
      by_count = λ e. subst (λ (ys : List ℕ). r.count ≡ Some (length ys)) listed (l.by_count (state ∙ e));
      none_left = λ cause e n t s. subst (λ (ys : List ℕ). t ∈ ys) listed (l.none_left cause (state ∙ e) n t s);
    }

pub demand_three_before : DemandThreeBefore
demand_three_before w r ok one xs p = demand_three w r ok xs p

pub never_by_interval : NeverByInterval
never_by_interval r good xs p e =
    rule-proofs.never_by_interval r good (map given xs) (ap (λ (x : Told ℕ). x.cursor.state) (tell r (fresh_of r) xs p) ∙ e)

-- what is promised of a call is what the source of `run` states
pub as_promised : (κs : Lfts 2) (a : Dens κs run-kinds.ps) (x : (res_t run-kinds.r κs).Denot) (e : AtExit (ended_of 2 run-kinds.ps run-kinds.r) κs)
    → run.Post κs a x e → Promised a.0.now a.1.0 (record { buffer = a.1.1.0.now; budget = a.1.1.1.0; answer = x; after = e.1.1.0.now })
as_promised κs a x e p = p
