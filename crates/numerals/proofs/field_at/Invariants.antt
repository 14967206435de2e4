-- `numerals::field_at` meets its contract: what is read from the first place on is what is still to be read, with what is read.
-- Assumes nothing.
use Prim.Native.Nat.{◌-◌}
use lib.ListN.{length}
use Rattle.symbols.specs.Counts.{field}
use Rattle.numerals.proofs.DigitLaws.{Reads}
use Rattle.numerals.proofs.CountLaws.{InField}
use Rattle.numerals.proofs.field_at.Given as goal

abbrev pub invariant-loop-value : goal.invariant-loop-value
invariant-loop-value l = Reads (field l.wide l.low l.high) l.text l.at l.place l.value × InField l.wide l.low l.high l.at l.place l.value

abbrev pub decreases-loop-value : goal.decreases-loop-value
decreases-loop-value l = length l.text - l.place
