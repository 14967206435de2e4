-- What 20 refuses, and that a good record's fresh cursor is running; good cursors stay good, their number fits, and the run has one answer in both
-- its forms.
-- Assumes nothing.
use Rattle.std.specs.Prelude.{if◌then◌else◌, Some}
use Prim.Native.Nat.{ℕ, zero, suc, ◌+◌, ◌-◌, ◌*◌, ◌≤◌}
use mathlib.Core.Path.{◌≡◌, refl, sym, ◌∙◌, ap}
use mathlib.Core.Logic.{⊎_elim}
use mathlib.Core.Bool.{Bool, true, false, or-true}
use mathlib.Core.List.{List, [], ◌∷◌}
use native.Mathlib.Omega.{arith}
use lib.ListN.{length, get_or}
use lib.Dec.{eqb}
use borrow.Author.Tests.{eqb-false, ne_eqb}
use Rattle.machine.specs.declared.Cause.{Cause}
use Rattle.machine.specs.declared.State.{State}
use Rattle.machine.specs.declared.Cursor.{Cursor}
use Rattle.machine.specs.Rising.{Rises}
use Rattle.machine.specs.Given.{Move, Move.To, Move.Range}
use Rattle.machine.specs.Cursors.{WellFormed}
use Rattle.machine.specs.Calls.{chain}
use Rattle.machine.specs.Claims.{Lawful}
use Rattle.machine.proofs.Theorems.{answers, ended_returns, accepted, fresh_well_formed, stays_well_formed}
use Rattle.machine.proofs.Theorems as machine
use Rattle.rule.specs.declared.rrule.Refusal.{Refusal}
use Rattle.rule.specs.declared.rrule.Rule.{Rule}
use Rattle.rule.specs.Instants.{second, range_end}
use Rattle.rule.specs.Refusals.{count_nought}
use Rattle.rule.specs.Records.{as_raw, yielded}
use Rattle.rule.specs.Periods.{period, in_range}
use Rattle.rule.specs.Candidates.{kept}
use Rattle.rule.specs.Run.{periods, fresh_of}
use Rattle.rule.specs.Demand.{told_by, RowsRefused, ZeroRefused, BothRefused, FreshRuns, CountNotAtOnce, IntervalStays}
use Rattle.rule.specs.Demand.{FreshIsGood, CursorsStayGood, NumberFits, MovesAreSteps, TwoForms}
use Rattle.rule.proofs.Moved.{moves_by_one}
use Rattle.rule.proofs.SoundPeriods.{ends, kept_rise, sound}
use Rattle.rule.proofs.CheckLaws.{count_above}
use Rattle.rule.proofs.Demand.{passes, good_start, good_wkst, good_interval, good_records_list}
use Rattle.rule.proofs.FreshLaws.{fresh_by, reached_at_once}
use Rattle.rule.proofs.RefusalLaws.{none_given}

pub lawful : (r : Rule) → yielded r ≡ true → Lawful (periods r)
unfolding periods
lawful r good one = sound r one (good_wkst r good) (good_start r good)

-- a row of the table against a record is enough for 20
pub rows_refused : RowsRefused
rows_refused r n h = either (yielded r) refl
  where
    either : (b : Bool) → yielded r ≡ b → yielded r ≡ false
    either false e = e
    either true e =
        let f : true ≡ false = sym h ∙ (none_given (as_raw r)).0 (passes r e) n in
        absurd (let z : ◌≡◌ {A = ℕ} 0 1 = cc in omega arith)

pub zero_refused : ZeroRefused
unfolding as_raw
zero_refused r z =
    rows_refused r Refusal.Nought
    (⊎_elim (λ (e : r.interval ≡ 0). rw e) (λ (e : r.count ≡ Some 0). rw e (or-true (eqb r.interval 0))) z)

pub both_refused : BothRefused
unfolding as_raw
both_refused r n t e f = rows_refused r Refusal.CountAndUntil (rw (e, f))

-- so a good record's fresh cursor is running, and an end by Count comes after an instant at least
good_count : (r : Rule) → yielded r ≡ true → count_nought r.count ≡ false
unfolding as_raw
good_count r good = count_above (as_raw r) (passes r good)

pub fresh_runs : FreshRuns
fresh_runs r good =
    sym (fresh_by r false false (reached_at_once r.count ∙ good_count r good)
    (ne_eqb r.interval 0 (λ (e : r.interval ≡ 0). omega (arith, good_interval r good))))

not_nought : (n : ℕ) → count_nought (Some n) ≡ false → 1 ≤ n
not_nought n h = let e : n ≡ 0 → ⊥ = eqb-false n 0 h in omega arith

pub count_not_at_once : CountNotAtOnce
count_not_at_once r good calls e =
    not_nought (length (told_by r calls).listed) (ap count_nought (sym ((good_records_list r good calls).by_count e)) ∙ good_count r good)

ended_formed : (r : Rule) (c : Cursor) (cause : Cause) → c.state ≡ State.Ended cause → WellFormed (periods r) c
ended_formed r c cause e h =
    let f : State.Ended cause ≡ State.Running = sym e ∙ h in
    absurd (let z : ◌≡◌ {A = ℕ} 0 1 = cc in omega arith)

pub interval_stays : IntervalStays
interval_stays r good c e =
    let formed = ended_formed r c Cause.Interval e in
    (formed, λ x. accepted (periods r) (yielded r) c x good formed ∙ ended_returns (periods r) c x Cause.Interval e)

pub fresh_is_good : FreshIsGood
unfolding fresh_of
fresh_is_good r good = fresh_well_formed (periods r) (lawful r good)

pub cursors_stay_good : CursorsStayGood
unfolding chain
cursors_stay_good r good c w x =
    rw (accepted (periods r) (yielded r) c x good w) (stays_well_formed (periods r) (lawful r good) c (x ∷ []) w)

-- the next candidate of a period, or its end, is not above the end
low_high : (low high : ℕ) (xs : List ℕ) → Rises low xs high → low ≤ high
low_high low high [] h = h
low_high low high (x ∷ xs) h = let q : suc x ≤ high = low_high (suc x) high xs h.1 in omega arith

at_most_end : (low high : ℕ) (xs : List ℕ) (p : ℕ) → Rises low xs high → get_or xs p high ≤ high
at_most_end low high [] p h = omega arith
at_most_end low high (x ∷ xs) zero h = let q : suc x ≤ high = low_high (suc x) high xs h.1 in omega arith
at_most_end low high (x ∷ xs) (suc p) h = at_most_end (suc x) high xs p h.1

pub number_fits : NumberFits
unfolding periods
number_fits r good c w e =
    let p = w e in
    let one : 1 ≤ r.interval = p.interval in
    let i : in_range r c.k ≡ true = p.in_range in
    let a : get_or (kept r c.k) c.place (period r c.k).ends ≤ (period r c.k).ends
    = at_most_end _ _ (kept r c.k) c.place (kept_rise r one (good_wkst r good) (good_start r good) c.k i) in
    let b : (period r c.k).ends ≤ range_end * 86400 = ends r one (good_wkst r good) (good_start r good) c.k i in
    let n : c.number ≤ get_or (kept r c.k) c.place (period r c.k).ends - second r.start = p.number in
    omega arith

-- down to DAILY every move is to the next period
abbrev Step : ℕ → Move → Type 0
Step k v = (k' : ℕ) → v ≡ To k' → k' ≡ k + 1

one_step : (k : ℕ) (b : Bool) → Step k (if b then To (k + 1) else Range)
one_step k true k' e = let f : k + 1 ≡ k' = cc in sym f
one_step k false k' e = absurd (let z : ◌≡◌ {A = ℕ} 0 1 = cc in omega arith)

pub moves_are_steps : MovesAreSteps
unfolding periods
moves_are_steps r coarse c calls =
    machine.moves_are_steps (periods r) (λ k k' e. one_step k (in_range r (k + 1)) k' (sym (moves_by_one r k coarse) ∙ e)) c calls

pub two_forms : TwoForms
two_forms r c x o = answers (periods r) c x o
