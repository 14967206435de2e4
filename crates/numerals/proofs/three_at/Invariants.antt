-- `numerals::three_at` meets its contract: what is read from the first place on is what is still to be read, with what is read.
-- Assumes nothing.
use Prim.Native.Nat.{◌-◌}
use lib.ListN.{length}
use Rattle.symbols.specs.Counts.{three}
use Rattle.numerals.proofs.DigitLaws.{Reads}
use Rattle.numerals.proofs.CountLaws.{Few}
use Rattle.numerals.proofs.three_at.Given as goal

abbrev pub invariant-loop-value : goal.invariant-loop-value
invariant-loop-value l = Reads (three l.low) l.text l.at l.place l.value × Few l.at l.place l.value

abbrev pub decreases-loop-value : goal.decreases-loop-value
decreases-loop-value l = length l.text - l.place
