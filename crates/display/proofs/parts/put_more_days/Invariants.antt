-- What is left to put completes the entries.
-- Assumes nothing.
use Rattle.puts.proofs.PutLaws.{Left}
use Rattle.display.proofs.DayLaws.{days_behind}
use Rattle.display.proofs.parts.put_more_days.Given as goal

abbrev pub invariant-loop-nth : goal.invariant-loop-nth
invariant-loop-nth l = Left l.text (days_behind l.nth-iterator.a.rest.now l.nth-iterator.b.rest.now) l.initial.text (days_behind l.ns l.ws)
