-- What is left to put completes the entries.
-- Assumes nothing.
use lib.ListN.{drop}
use Rattle.recur.specs.Writing.{signed_text}
use Rattle.recur.specs.Pieces.{entries_behind}
use Rattle.puts.proofs.PutLaws.{Left}
use Rattle.display.proofs.parts.put_more.Given as goal

abbrev pub invariant-loop-entry : goal.invariant-loop-entry
invariant-loop-entry l =
    Left l.text (entries_behind signed_text (drop l.entry-index l.entries)) l.initial.text (entries_behind signed_text l.entries)
