-- `numerals::number_at` meets its contract: what is read from the first place on is what is still to be read, with what is read.
-- Assumes nothing.
use Prim.Native.Nat.{◌-◌, ◌≤◌}
use lib.ListN.{length}
use Rattle.symbols.specs.Counts.{up_to}
use Rattle.numerals.proofs.DigitLaws.{Reads}
use Rattle.numerals.proofs.number_at.Given as goal

abbrev pub invariant-loop-value : goal.invariant-loop-value
invariant-loop-value l = Reads (up_to l.high) l.text l.at l.place l.value × (l.value ≤ l.high)

abbrev pub decreases-loop-value : goal.decreases-loop-value
decreases-loop-value l = length l.text - l.place
