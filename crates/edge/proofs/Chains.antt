-- What runs from C keep to, and what they list one after the other: the machine's calls, as C is shown them.
-- Assumes nothing.
use Rattle.std.specs.Prelude.{if◌then◌else◌, Option, Some, None, Ok, Err}
use Prim.Native.Nat.{ℕ, ◌≤◌, ◌<◌}
use mathlib.Core.Path.{◌≡◌, refl, sym, ap, ◌∙◌, subst}
use mathlib.Core.Logic.{◌⊎◌, inl, inr, ⊎_elim}
use mathlib.Core.Bool.{Bool, true, false}
use mathlib.Core.List.{List, [], ◌∷◌}
use native.Mathlib.Omega.{arith}
use lib.Dec.{eqb}
use lib.ListN.{length}
use borrow.Author.Tests.{eq-eqb}
use Rattle.machine.specs.declared.Cause.{Cause}
use Rattle.machine.specs.declared.State.{State}
use Rattle.machine.specs.declared.Fault.{Fault}
use Rattle.machine.specs.declared.Stop.{Stop}
use Rattle.machine.specs.declared.Cursor.{Cursor}
use Rattle.machine.specs.Rising.{◌∈◌}
use Rattle.machine.specs.Given.{Given, AtMost}
use Rattle.machine.specs.Cursors.{well_formed, WellFormed}
use Rattle.machine.specs.Run.{Call, opened, Outcome}
use Rattle.machine.specs.Compute.{outcome, run}
use Rattle.machine.specs.Calls.{refuse, call, answered, chain, Each}
use Rattle.machine.specs.Promises.{Reason, KeepsTo}
use Rattle.machine.proofs.Theorems.{ended_returns, run_keeps, accepted, chain_lists}
use Rattle.rule.specs.declared.rrule.Rule.{Rule}
use Rattle.rule.specs.Raw.{Raw}
use Rattle.rule.specs.Refusals.{Verdict, verdict}
use Rattle.rule.specs.Filling.{given, fill, answers, Checked, checked}
use Rattle.rule.specs.Records.{yielded, Sized}
use Rattle.rule.specs.Meaning.{RisesFrom}
use Rattle.rule.specs.Run.{count_of, periods, fresh_of, run_of}
use Rattle.rule.specs.Demand.{call_of, told_by}
use Rattle.rule.proofs.FillKeeps.{fill_sized}
use Rattle.rule.proofs.GoodRecords.{given_sized, good_records}
use Rattle.rule.proofs.Demand.{never_by_interval, demand_three}
use Rattle.rule.proofs.Cursors.{lawful}
use Rattle.edge.specs.Layout.{record_length, cursor_length, encode_record, decode_record, cause_number}
use Rattle.edge.specs.Layout.{state_number, state_of, encode_cursor, decode_cursor}
use Rattle.edge.specs.Edge.{Said, said, said_of, check_says, fresh_says, Shown, shown, stop_number, refused_shows, answer_shows, shows, unreadable, run_from, run_says}
use Rattle.edge.specs.Chains.{StoppedFor, RunKept, RunKeeps, EndedStays, ToldC, after_run, runs_tell, NoneRefused, ListsC, FreshOfChecked, ChainListed, ChainOverBytes}
use Rattle.edge.proofs.ReadBack.{record_read_back, state_back, cursor_read_back}
use Rattle.edge.proofs.Said.{refusal_range, run_of_written}

cause_given : (cause : Cause) → 0 < cause_number cause
cause_given Cause.Count = omega arith
cause_given Cause.Interval = omega arith
cause_given Cause.Until = omega arith
cause_given Cause.NoTick = omega arith
cause_given Cause.Range = omega arith

-- a run that keeps to its reason isn't refused, so its answer is shown
module _ (g : Given ℕ) (c : Cursor) (x : Call ℕ) (o : Outcome ℕ) (k : KeepsTo g c x o) where
  abbrev s : Shown
  s = answer_shows (answered o).answer o.now.buffer

  answer_shown : (bytes : List ℕ) → shows (answered o) bytes ≡ s
  answer_shown bytes = go o.stop refl k.reason
    where
      go : (t : Stop) → o.stop ≡ t → Reason g x.budget o.now t → shows (answered o) bytes ≡ s
      go Stop.More e q = rw e
      go Stop.Limited e q = rw e
      go Stop.Ended e q = rw e
      go (Stop.Refused fault) e q = absurd q

  stopped_for : (t : Stop) → o.stop ≡ t → Reason g x.budget o.now t → StoppedFor x s
  stopped_for Stop.More e q = inl (ap stop_number e, q.1 ∙ k.same_length, ap state_number q.0)
  stopped_for Stop.Limited e q = inr (inl (ap stop_number e, q.3, ap state_number q.0))
  stopped_for Stop.Ended e q = inr (inr (ap stop_number e, subst (λ (y : State). 0 < state_number y) (sym q.1) (cause_given q.0)))
  stopped_for (Stop.Refused fault) e q = absurd q

  kept : RunKept x s
  kept = record { stopped = stopped_for o.stop refl k.reason; budget = k.budget; room = k.fits; rest = k.rest }

-- a call is refused, or the record is good and it is a run
call_cases : (P : Outcome ℕ → Type 0) (good : Bool) (g : Given ℕ) (c : Cursor) (x : Call ℕ) → ((fault : Fault) → P (refuse fault c x))
    → (good ≡ true → P (run g c x)) → P (call good g c x)
unfolding call
call_cases P false g c x a b = a Fault.Record
call_cases P true g c x a b = go (well_formed g c)
  where
    go : (t : Bool) → P (elim t [ false ↦ refuse Fault.Cursor c x | true ↦ run g c x ])
    go false = a Fault.Cursor
    go true = b refl

-- a run over any bytes: refused with a number below 100, or the run of a good record, from the cursor that the bytes hold
run_cases : (rulebytes cursorbytes : List ℕ) (x : Call ℕ) (P : Shown → Type 0) → ((n : ℕ) → n < 100 → P (refused_shows n cursorbytes x.buffer))
    → ((r : Rule) (c : Cursor) → decode_record rulebytes ≡ Some r → yielded r ≡ true → P (shows (answered (run (periods r) c x)) cursorbytes))
    → P (run_says rulebytes cursorbytes x.buffer x.budget)
unfolding run_says run_of
run_cases rulebytes cursorbytes x P a b = go (decode_record rulebytes) (decode_cursor cursorbytes) refl
  where
    unread : (good : Bool) → unreadable good < 100
    unread true = omega arith
    unread false = omega arith

    faulty : (c : Cursor) (fault : Fault) → P (shows (answered (refuse fault c x)) cursorbytes)
    faulty c Fault.Record = a 20 (omega arith)
    faulty c Fault.Cursor = a 21 (omega arith)

    go : (d : Option Rule) (e : Option Cursor) → decode_record rulebytes ≡ d → P (run_from d e cursorbytes x.buffer x.budget)
    go None e p = a 20 (omega arith)
    go (Some r) None p = a (unreadable (yielded r)) (unread (yielded r))
    go (Some r) (Some c) p = call_cases (λ o. P (shows (answered o) cursorbytes)) (yielded r) (periods r) c x (faulty c) (b r c p)

pub run_keeps_to : RunKeeps
run_keeps_to rulebytes cursorbytes x =
    run_cases rulebytes cursorbytes x (λ s. 100 ≤ s.stop → RunKept x s) (λ n h l. absurd (omega arith))
    (λ r c p good l.
    let k = run_keeps (periods r) c x in
    subst (RunKept x) (sym (answer_shown (periods r) c x (run (periods r) c x) k cursorbytes)) (kept (periods r) c x (run (periods r) c x) k))

-- a stop with 102 is an end
ended_state : (g : Given ℕ) (c : Cursor) (x : Call ℕ) (o : Outcome ℕ) → KeepsTo g c x o → stop_number o.stop ≡ 102
    → (cause : Cause) × (o.now.cursor.state ≡ State.Ended cause)
ended_state g c x o k e = go o.stop e k.reason
  where
    go : (t : Stop) → stop_number t ≡ 102 → Reason g x.budget o.now t → (cause : Cause) × (o.now.cursor.state ≡ State.Ended cause)
    go Stop.More e q = absurd (omega arith)
    go Stop.Limited e q = absurd (omega arith)
    go Stop.Ended e q = q
    go (Stop.Refused fault) e q = absurd q

-- a run from a cursor that has ended
from_ended : (rulebytes : List ℕ) (r : Rule) (c : Cursor) (y : Call ℕ) (cause : Cause) → decode_record rulebytes ≡ Some r → yielded r ≡ true
    → c.state ≡ State.Ended cause
    → run_says rulebytes (encode_cursor c) y.buffer y.budget ≡ shown 102 (encode_cursor c) y.buffer 0 0 (state_number c.state)
unfolding run_says run_of
from_ended rulebytes r c y cause p good e =
    let formed : WellFormed (periods r) c =
    λ running. absurd (let f : State.Running ≡ State.Ended cause = sym running ∙ e in let z : ◌≡◌ {A = ℕ} 0 1 = cc in omega arith) in
    let q : call_of r c y ≡ outcome Stop.Ended (opened c y) = accepted (periods r) (yielded r) c y good formed ∙ ended_returns (periods r) c y cause e in
    (λ i. run_from (p i) (cursor_read_back c i) (encode_cursor c) y.buffer y.budget) ∙ ap (λ (o : Outcome ℕ). shows (answered o) (encode_cursor c)) q

pub ended_stays : EndedStays
ended_stays rulebytes cursorbytes x y =
    run_cases rulebytes cursorbytes x
    (λ s. s.stop ≡ 102 → run_says rulebytes s.cursor y.buffer y.budget ≡ shown 102 s.cursor y.buffer 0 0 s.cause)
    (λ n h l. absurd (omega arith))
    (λ r c p good.
    let k = run_keeps (periods r) c x in
    let o = run (periods r) c x in
    subst (λ (s : Shown). s.stop ≡ 102 → run_says rulebytes s.cursor y.buffer y.budget ≡ shown 102 s.cursor y.buffer 0 0 s.cause)
    (sym (answer_shown (periods r) c x o k cursorbytes))
    (λ e. let d = ended_state (periods r) c x o k e in from_ended rulebytes r o.now.cursor y d.0 p good d.1))

-- calls one after the other, over the bytes that are written of record and cursor
module _ (r : Rule) (sized : Sized r) where
  abbrev Keep : Cursor → List (Call ℕ) → Type 0
  Keep = Each (call_of r) (KeepsTo (periods r))

  abbrev shown_of : Cursor → Call ℕ → Shown
  shown_of c x = answer_shows (answered (call_of r c x)).answer (call_of r c x).now.buffer

  one_run : (c : Cursor) (x : Call ℕ) → KeepsTo (periods r) c x (call_of r c x)
      → run_says (encode_record r) (encode_cursor c) x.buffer x.budget ≡ shown_of c x
  unfolding run_of
  one_run c x k = run_of_written r c x.buffer x.budget sized ∙ answer_shown (periods r) c x (call_of r c x) k (encode_cursor c)

  stop_high : (c : Cursor) (x : Call ℕ) → StoppedFor x (shown_of c x) → 100 ≤ (shown_of c x).stop
  stop_high c x p =
      ⊎_elim (λ (a : ((shown_of c x).stop ≡ 100) × ((shown_of c x).handed ≡ length x.buffer) × ((shown_of c x).cause ≡ 0)). omega (arith, a.0))
      (λ b. ⊎_elim (λ (a : ((shown_of c x).stop ≡ 101) × ((shown_of c x).moves ≡ x.budget) × ((shown_of c x).cause ≡ 0)). omega (arith, a.0))
      (λ (a : ((shown_of c x).stop ≡ 102) × (0 < (shown_of c x).cause)). omega (arith, a.0)) b) p

  none_refused : (c : Cursor) (xs : List (Call ℕ)) → Keep c xs → NoneRefused (encode_record r) (encode_cursor c) xs
  none_refused c [] k = tt
  none_refused c (x ∷ xs) k =
      subst (λ (s : Shown). (100 ≤ s.stop) × NoneRefused (encode_record r) s.cursor xs) (sym (one_run c x k.0))
      (stop_high c x (kept (periods r) c x (call_of r c x) k.0).stopped, none_refused (call_of r c x).now.cursor xs k.1)

  told : (c : Cursor) (xs : List (Call ℕ)) → Keep c xs → runs_tell (encode_record r) (encode_cursor c) (state_number c.state) xs
      ≡ record { listed = (chain (call_of r) c xs).listed; cause = state_number (chain (call_of r) c xs).cursor.state }
  unfolding runs_tell chain
  told c [] k = refl
  told c (x ∷ xs) k =
      ap (λ (s : Shown). after_run s (runs_tell (encode_record r) s.cursor s.cause xs)) (one_run c x k.0)
      ∙ ap (λ (t : ToldC). after_run (shown_of c x) t) (told (call_of r c x).now.cursor xs k.1)

-- which cause was shown before plays no part where there is a run
before_runs : (rulebytes cursorbytes : List ℕ) (n : ℕ) (xs : List (Call ℕ))
    → ((runs_tell rulebytes cursorbytes 0 xs).listed ≡ (runs_tell rulebytes cursorbytes n xs).listed)
    × (((runs_tell rulebytes cursorbytes 0 xs).cause ≡ 0) ⊎ ((runs_tell rulebytes cursorbytes 0 xs).cause ≡ (runs_tell rulebytes cursorbytes n xs).cause))
unfolding runs_tell
before_runs rulebytes cursorbytes n [] = (refl, inl refl)
before_runs rulebytes cursorbytes n (x ∷ xs) = (refl, inr refl)

-- the state behind a cause's number
state_of_cause : (y : State) (cause : Cause) → state_number y ≡ cause_number cause → y ≡ State.Ended cause
state_of_cause y cause e = sym (state_back y) ∙ ap state_of e ∙ state_back (State.Ended cause)

other_state : (y : State) → 1 < state_number y → (cause : Cause) × (y ≡ State.Ended cause) × (cause ≡ Cause.Count → ⊥)
other_state State.Running h = absurd (omega arith)
other_state (State.Ended Cause.Count) h = absurd (omega arith)
other_state (State.Ended Cause.Interval) h = (Cause.Interval, refl, λ e. let z : ◌≡◌ {A = ℕ} 2 1 = ap cause_number e in omega arith)
other_state (State.Ended Cause.Until) h = (Cause.Until, refl, λ e. let z : ◌≡◌ {A = ℕ} 3 1 = ap cause_number e in omega arith)
other_state (State.Ended Cause.NoTick) h = (Cause.NoTick, refl, λ e. let z : ◌≡◌ {A = ℕ} 4 1 = ap cause_number e in omega arith)
other_state (State.Ended Cause.Range) h = (Cause.Range, refl, λ e. let z : ◌≡◌ {A = ℕ} 5 1 = ap cause_number e in omega arith)

-- an accepted check has left the record
check_left : (v : Checked) (bytes : List ℕ) → (said_of v bytes).number ≡ 0 → (r : Rule) × (v ≡ Ok r) × ((said_of v bytes).bytes ≡ encode_record r)
check_left (Err n) bytes e = absurd (omega (arith, (refusal_range n).0))
check_left (Ok r) bytes e = (r, refl, go (eqb (length bytes) record_length) e)
  where
    go : (t : Bool) → (if t then said 0 (encode_record r) else said 20 bytes).number ≡ 0
        → (if t then said 0 (encode_record r) else said 20 bytes).bytes ≡ encode_record r
    go true e = refl
    go false e = absurd (omega arith)

answers_sized : (v : Verdict) (q r : Rule) → answers v q ≡ Ok r → Sized q → Sized r
unfolding answers
answers_sized (Ok tt) q r e z = subst Sized (let y : q ≡ r = cc in y) z
answers_sized (Err n) q r e z = absurd (let y : ◌≡◌ {A = ℕ} 0 1 = cc in omega arith)

checked_sized : (w : Raw) (r : Rule) → checked w ≡ Ok r → Sized r
unfolding checked
checked_sized w r e = answers_sized (verdict w) (fill (given w)) r e (fill_sized (given w) (given_sized w))

checked_good : (w : Raw) (r : Rule) → checked w ≡ Ok r → yielded r ≡ true
checked_good w r e = (good_records r).1 (w, e)

module _ (w : Raw) (r : Rule) (ok : checked w ≡ Ok r) (calls : List (Call ℕ)) where
  abbrev e : List ℕ
  e = encode_record r

  abbrev f : List ℕ
  f = encode_cursor (fresh_of r)

  each : Each (call_of r) (KeepsTo (periods r)) (fresh_of r) calls
  unfolding fresh_of
  each = (chain_lists (periods r) (lawful r (checked_good w r ok)) (yielded r) (checked_good w r ok) calls).0

  abbrev n : ℕ
  n = state_number (fresh_of r).state

  all_told : runs_tell e f n calls ≡ record { listed = (told_by r calls).listed; cause = state_number (told_by r calls).cursor.state }
  all_told = told r (checked_sized w r ok) (fresh_of r) calls each

  listed_is : (runs_tell e f 0 calls).listed ≡ (told_by r calls).listed
  listed_is = (before_runs e f n calls).0 ∙ ap (λ (t : ToldC). t.listed) all_told

  cause_is : ((runs_tell e f 0 calls).cause ≡ 0) ⊎ ((runs_tell e f 0 calls).cause ≡ state_number (told_by r calls).cursor.state)
  cause_is =
      ⊎_elim (λ (z : (runs_tell e f 0 calls).cause ≡ 0). inl z)
      (λ (z : (runs_tell e f 0 calls).cause ≡ (runs_tell e f n calls).cause). inr (z ∙ ap (λ (t : ToldC). t.cause) all_told)) (before_runs e f n calls).1

  -- a cause above 0 is the number of the state that the machine's calls leave
  state_is : 0 < (runs_tell e f 0 calls).cause → (runs_tell e f 0 calls).cause ≡ state_number (told_by r calls).cursor.state
  state_is h =
      ⊎_elim (λ (z : (runs_tell e f 0 calls).cause ≡ 0). absurd (omega arith))
      (λ (z : (runs_tell e f 0 calls).cause ≡ state_number (told_by r calls).cursor.state). z) cause_is

  lists : ListsC r (runs_tell e f 0 calls)
  lists =
      let l = demand_three w r ok calls in
      record {
        rises = subst (RisesFrom 0) (sym listed_is) l.rises;
        only = λ u h. l.only u (subst (λ (ys : List ℕ). u ∈ ys) listed_is h);
        all = λ u v h s le. subst (λ (ys : List ℕ). u ∈ ys) (sym listed_is) (l.all u v (subst (λ (ys : List ℕ). v ∈ ys) listed_is h) s le);
        counted = subst (λ (ys : List ℕ). AtMost (count_of r.count) (length ys)) (sym listed_is) l.counted;
        by_count = λ h. subst (λ (ys : List ℕ). r.count ≡ Some (length ys)) (sym listed_is)
            (l.by_count (state_of_cause (told_by r calls).cursor.state Cause.Count (sym (state_is (omega arith)) ∙ h)));
        none_left = λ h u s.
            let o = other_state (told_by r calls).cursor.state (subst (λ (k : ℕ). 1 < k) (state_is (omega arith)) h) in
            subst (λ (ys : List ℕ). u ∈ ys) (sym listed_is) (l.none_left o.0 o.1 o.2 u s);
      }

  chain_listed : ChainListed w e f calls
  chain_listed = record {
    rule = r;
    yields = ok;
    taken = none_refused r (checked_sized w r ok) (fresh_of r) calls each;
    lists = lists;
    never = λ h. never_by_interval r (checked_good w r ok) calls
        (state_of_cause (told_by r calls).cursor.state Cause.Interval (sym (state_is (omega arith)) ∙ h));
  }

left : (w : Raw) (bytes : List ℕ) → (check_says w bytes).number ≡ 0 → (r : Rule) × (checked w ≡ Ok r) × ((check_says w bytes).bytes ≡ encode_record r)
unfolding check_says
left w bytes e = check_left (checked w) bytes e

fresh_made : (w : Raw) (bytes cursor : List ℕ) (e : (check_says w bytes).number ≡ 0) → length cursor ≡ cursor_length
    → fresh_says (check_says w bytes).bytes cursor ≡ said 0 (encode_cursor (fresh_of (left w bytes e).0))
unfolding check_says fresh_says
fresh_made w bytes cursor e l =
    let c = left w bytes e in
    rw (c.2, record_read_back c.0 (checked_sized w c.0 c.1), checked_good w c.0 c.1, eq-eqb (length cursor) cursor_length l)

pub fresh_of_checked : FreshOfChecked
fresh_of_checked w bytes cursor e l = let c = left w bytes e in (c.0, c.1, fresh_made w bytes cursor e l)

pub chain_over_bytes : ChainOverBytes
unfolding check_says
chain_over_bytes w bytes cursor e l calls =
    let c = left w bytes e in
    subst (λ (b : List ℕ). ChainListed w (check_says w bytes).bytes b calls) (sym (ap (λ (s : Said). s.bytes) (fresh_made w bytes cursor e l)))
    (subst (λ (b : List ℕ). ChainListed w b (encode_cursor (fresh_of c.0)) calls) (sym c.2) (chain_listed w c.0 c.1 calls))
