-- `parser::rule_content_line::scan` meets its contract: what the scan of the text comes to is what it comes to from here on.
-- Assumes nothing.
use Prim.Native.Nat.{◌≤◌}
use mathlib.Core.Path.{◌≡◌}
use lib.ListN.{length}
use Rattle.recur.specs.Places.{nowhere}
use Rattle.parser.specs.Scans.{scan_from}
use Rattle.parser.proofs.rule_content_line.scan.Given as goal

abbrev pub invariant-loop-name : goal.invariant-loop-name
invariant-loop-name l =
    (length l.places ≡ 14) × (l.at ≤ length l.text) × (scan_from 13 (nowhere 14) 0 l.text ≡ scan_from l.left l.places l.at l.text)

abbrev pub decreases-loop-name : goal.decreases-loop-name
decreases-loop-name l = l.left
