-- One run: the machine, given the rule's own periods.
-- Assumes nothing.
use Rattle.std.specs.Prelude.{ℕ, List, Option, Some, None}
use Rattle.machine.specs.declared.State.{State}
use Rattle.machine.specs.declared.Cursor.{Cursor}
use Rattle.machine.specs.Given.{Bound, Bound.absent, Bound.present, Given}
use Rattle.machine.specs.Cursors.{fresh, well_formed}
use Rattle.machine.specs.Compute.{run}
use Rattle.machine.specs.Calls.{call, Answered, answered}
use Rattle.rule.specs.declared.rrule.Rule.{Rule}
use Rattle.rule.specs.Instants.{second, instant}
use Rattle.rule.specs.Records.{yielded}
use Rattle.rule.specs.Periods.{period, in_range}
use Rattle.rule.specs.Candidates.{kept}
use Rattle.rule.specs.Moves.{move}

abbrev pub count_of : Option ℕ → Bound
count_of None = absent
count_of (Some n) = present n

-- UNTIL is an instant; inside it is a second
abbrev pub until_of : Option ℕ → Bound
until_of None = absent
until_of (Some t) = present (second t)

-- What a run is given of its rule. What it writes of a second is the instant.
unfoldable pub periods : Rule → Given ℕ
unfolding kept in_range period move
periods r = record {
  kept = kept r;
  in_range = in_range r;
  begins = λ k. (period r k).begins;
  ends = λ k. (period r k).ends;
  move = move r;
  start = second r.start;
  until = until_of r.until;
  count = count_of r.count;
  interval = r.interval;
  shown = instant;
}

-- a cursor whose k, place and number are zero
abbrev pub start_in : State → Cursor
start_in state = record { state = state; k = 0; place = 0; number = 0 }

-- A fresh cursor, made of any record.
unfoldable pub fresh_of : Rule → Cursor
unfolding fresh periods
fresh_of r = fresh (periods r)

-- The run of a record, from a cursor, with a buffer and a budget of moves: the answer, and the whole buffer.
unfoldable pub run_of : Rule → Cursor → List ℕ → ℕ → Answered ℕ
unfolding call run well_formed yielded periods
run_of r c buffer m = answered (call (yielded r) (periods r) c (record { buffer = buffer; budget = m }))
