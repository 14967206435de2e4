-- Demand 3: what any chain of calls from a fresh cursor lists, of every rule that an accepted check takes.
-- Assumes nothing.
use Rattle.std.specs.Prelude.{ℕ, ◌+◌, ◌≤◌, ◌<◌, ◌≡◌, ◌⊎◌, ◌↔◌, true, false, List, length, Some, Ok}
use Rattle.machine.specs.declared.Cause.{Cause}
use Rattle.machine.specs.declared.State.{State}
use Rattle.machine.specs.declared.Stop.{Stop}
use Rattle.machine.specs.declared.Cursor.{Cursor}
use Rattle.machine.specs.Rising.{◌∈◌}
use Rattle.machine.specs.Given.{AtMost}
use Rattle.machine.specs.Cursors.{next, WellFormed}
use Rattle.machine.specs.Run.{Call, opened, Outcome, Ends}
use Rattle.machine.specs.Compute.{outcome, run}
use Rattle.machine.specs.Calls.{call, Told, chain, Each}
use Rattle.machine.specs.Promises.{KeepsTo}
use Rattle.rule.specs.declared.rrule.Refusal.{Refusal}
use Rattle.rule.specs.declared.rrule.Rule.{Rule}
use Rattle.rule.specs.Instants.{second}
use Rattle.rule.specs.Raw.{Raw}
use Rattle.rule.specs.Filling.{checked}
use Rattle.rule.specs.Refusals.{applies}
use Rattle.rule.specs.Records.{as_raw, yielded}
use Rattle.rule.specs.Satisfies.{Satisfies}
use Rattle.rule.specs.Moves.{fine}
use Rattle.rule.specs.Run.{count_of, periods, start_in, fresh_of}
use Rattle.rule.specs.Meaning.{RisesFrom}

-- one call of a record, and what a chain of calls from the fresh cursor tells: the instants handed out, the moves made, the cursor left
abbrev pub call_of : Rule → Cursor → Call ℕ → Outcome ℕ
call_of r c x = call (yielded r) (periods r) c x

abbrev pub told_by : Rule → List (Call ℕ) → Told ℕ
told_by r calls = chain (call_of r) (fresh_of r) calls

-- t is handed out by these calls
abbrev pub Handed : Rule → List (Call ℕ) → ℕ → Type 0
Handed r calls t = t ∈ (told_by r calls).listed

abbrev pub EndedBy : Rule → List (Call ℕ) → Cause → Type 0
EndedBy r calls cause = (told_by r calls).cursor.state ≡ State.Ended cause

pub record Lists (r : Rule) (calls : List (Call ℕ)) : Type 0 where
  -- No call is refused. Each stops with its reason: More has filled its buffer, Limited has made every move allowed; each keeps within its budget,
  -- leaves the slots past those handed out alone, and its moves show in k (machine, KeepsTo).
  pub each : Each (call_of r) (KeepsTo (periods r)) (fresh_of r) calls
  -- the instants strictly rise
  pub rises : RisesFrom 0 (told_by r calls).listed
  -- they satisfy the rule, and are all the satisfying ones up to the last: none up to one that is handed out is missing
  pub only : (t : ℕ) → Handed r calls t → Satisfies r t
  pub all : (t u : ℕ) → Handed r calls u → Satisfies r t → t ≤ u → Handed r calls t
  -- also where nothing was handed out: they are exactly what satisfies before the next candidate of the cursor left
  pub exactly : (t : ℕ) → Handed r calls t ↔ (Satisfies r t × (second t < next (periods r) (told_by r calls).cursor))
  -- the number is how many were handed out, and never above COUNT
  pub number : (told_by r calls).cursor.number ≡ length (told_by r calls).listed
  pub counted : AtMost (count_of r.count) (length (told_by r calls).listed)
  -- an end by COUNT means exactly that many; any other end that none remains
  pub by_count : EndedBy r calls Cause.Count → r.count ≡ Some (length (told_by r calls).listed)
  pub none_left : (cause : Cause) → EndedBy r calls cause → (cause ≡ Cause.Count → ⊥) → (t : ℕ) → Satisfies r t → Handed r calls t

abbrev pub DemandThree : Type 0
DemandThree = (w : Raw) (r : Rule) → checked w ≡ Ok r → (calls : List (Call ℕ)) → Lists r calls

-- the same of every record that is not refused by 20
abbrev pub GoodRecordsList : Type 0
GoodRecordsList = (r : Rule) → yielded r ≡ true → (calls : List (Call ℕ)) → Lists r calls

-- Every such rule has INTERVAL 1 or more. So demand 3 holds as it was said before request 2026-01, too, when the check took INTERVAL 0.
abbrev pub IntervalFollows : Type 0
IntervalFollows = (w : Raw) (r : Rule) → checked w ≡ Ok r → 1 ≤ w.interval

abbrev pub DemandThreeBefore : Type 0
DemandThreeBefore = (w : Raw) (r : Rule) → checked w ≡ Ok r → 1 ≤ w.interval → (calls : List (Call ℕ)) → Lists r calls

-- A record that a row of the table applies to is refused by 20, whatever the cursor (machine, RecordRefused). So it is where INTERVAL or COUNT is 0,
-- and where COUNT and UNTIL are both present.
abbrev pub RowsRefused : Type 0
RowsRefused = (r : Rule) (n : Refusal) → applies n (as_raw r) ≡ true → yielded r ≡ false

abbrev pub ZeroRefused : Type 0
ZeroRefused = (r : Rule) → (r.interval ≡ 0) ⊎ (r.count ≡ Some 0) → yielded r ≡ false

abbrev pub BothRefused : Type 0
BothRefused = (r : Rule) (n t : ℕ) → r.count ≡ Some n → r.until ≡ Some t → yielded r ≡ false

-- The fresh cursor of a record that 20 doesn't refuse is running. So no calls from it end by Interval, and where they end by Count, they have handed
-- out an instant.
abbrev pub FreshRuns : Type 0
FreshRuns = (r : Rule) → yielded r ≡ true → fresh_of r ≡ start_in State.Running

abbrev pub NeverByInterval : Type 0
NeverByInterval = (r : Rule) → yielded r ≡ true → (calls : List (Call ℕ)) → EndedBy r calls Cause.Interval → ⊥

abbrev pub CountNotAtOnce : Type 0
CountNotAtOnce = (r : Rule) → yielded r ≡ true → (calls : List (Call ℕ)) → EndedBy r calls Cause.Count → 1 ≤ length (told_by r calls).listed

-- An ended cursor that names Interval is well formed all the same, and comes back as it was given.
abbrev pub IntervalStays : Type 0
IntervalStays = (r : Rule) → yielded r ≡ true → (c : Cursor) → c.state ≡ State.Ended Cause.Interval
    → WellFormed (periods r) c × ((x : Call ℕ) → call_of r c x ≡ outcome Stop.Ended (opened c x))

-- Good cursors: a fresh cursor is well formed, and so is each that a call from a well-formed one returns, for the same record.
abbrev pub FreshIsGood : Type 0
FreshIsGood = (r : Rule) → yielded r ≡ true → WellFormed (periods r) (fresh_of r)

abbrev pub CursorsStayGood : Type 0
CursorsStayGood =
    (r : Rule) → yielded r ≡ true → (c : Cursor) → WellFormed (periods r) c → (x : Call ℕ) → WellFormed (periods r) (call_of r c x).now.cursor

-- The number handed out never passes the seconds of the range, so it fits its type.
abbrev pub NumberFits : Type 0
NumberFits = (r : Rule) → yielded r ≡ true → (c : Cursor) → WellFormed (periods r) c → c.state ≡ State.Running → c.number ≤ 253402300800

-- Down to DAILY k grows by exactly the moves.
abbrev pub MovesAreSteps : Type 0
MovesAreSteps = (r : Rule) → fine r ≡ false → (c : Cursor) (calls : List (Call ℕ)) → (chain (run (periods r)) c calls).cursor.k ≡ c.k + (chain (run (periods r)) c calls).moves

-- The two forms of the run, document 01's sentences and the computing form, give one and the same answer.
abbrev pub TwoForms : Type 0
TwoForms = (r : Rule) (c : Cursor) (x : Call ℕ) (o : Outcome ℕ) → Ends (periods r) x.budget (opened c x) o ↔ (o ≡ run (periods r) c x)
