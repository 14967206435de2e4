-- `validator::entries::mark_list` meets its contract: the set that the whole list marks is what the rest of the list marks.
-- Assumes nothing.
use Rattle.std.proofs.Common.{◌≡◌, ◌≤◌, length, drop}
use Rattle.rule.specs.Entries.{marks}
use Rattle.rule.specs.Raw.{entries}
use Rattle.validator.proofs.entries.mark_list.Given as goal

abbrev pub invariant-loop-value : goal.invariant-loop-value
invariant-loop-value l =
    (l.value-index ≤ length l.list) × (length l.flags ≡ length l.initial.flags)
    × (marks l.initial.flags (entries l.range l.list) ≡ marks l.flags (entries l.range (drop l.value-index l.list)))
