-- `listing::rrule_iter::run_on` meets its contract. Each place of the loop has a name; what is known there is one record.
-- Assumes nothing.
use Rattle.std.specs.Prelude.{if◌then◌else◌}
use Prim.Native.Nat.{◌+◌, ◌-◌, ◌*◌}
use Rattle.stretches.specs.Stretches.{days_in}
use Rattle.units.specs.Years.{is_in_year}
use Rattle.listing.proofs.Turns.{At}
use Rattle.listing.proofs.rrule_iter.run_on.Given as goal

abbrev pub invariant-loop-info : goal.invariant-loop-info
invariant-loop-info l =
    At l.rule l.m l.cursor l.initial.buffer l.buffer l.counter l.held l.tried l.opened l.info

abbrev pub decreases-loop-info : goal.decreases-loop-info
decreases-loop-info l =
    2 * (l.m - l.held.moves) + (if is_in_year l.info.year (days_in l.freq l.counter.number).from then 0 else 1)
