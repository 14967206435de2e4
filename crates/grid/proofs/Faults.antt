-- 20 and 21 as literals, 0 where a run isn't refused.
-- Assumes nothing.
use mathlib.Core.Path.{◌≡◌, refl}
use mathlib.Core.List.{[]}
use Rattle.machine.specs.declared.State.{State}
use Rattle.rule.specs.Filling.{given, fill}
use Rattle.rule.specs.Charts.{rule_of}
use Rattle.grid.specs.Grid.{fault_of}

-- DAILY from 2024-01-01, before filling in: no accepted check yields it
record_20 : fault_of (given (rule_of 3 1704067200 [])) State.Running 0 0 0 ≡ 20
unfolding fault_of given rule_of
record_20 = refl

-- the same with a period after 9999, so that the cursor isn't well formed either
record_before_cursor : fault_of (given (rule_of 3 1704067200 [])) State.Running 18446744073709551615 0 0 ≡ 20
unfolding fault_of given rule_of
record_before_cursor = refl

-- filled in, with a place above the one kept candidate
cursor_21 : fault_of (fill (given (rule_of 3 1704067200 []))) State.Running 0 2 0 ≡ 21
unfolding fault_of given fill rule_of
cursor_21 = refl

-- with a good cursor
neither : fault_of (fill (given (rule_of 3 1704067200 []))) State.Running 0 1 0 ≡ 0
unfolding fault_of given fill rule_of
neither = refl
