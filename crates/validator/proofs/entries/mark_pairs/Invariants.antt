-- `validator::entries::mark_pairs` meets its contract: the set that all pairs mark is what the rest of them marks.
-- Assumes nothing.
use Rattle.std.proofs.Common.{◌≡◌, length}
use Rattle.rule.specs.Entries.{marks}
use Rattle.rule.specs.Raw.{pairs}
use Rattle.validator.proofs.entries.mark_pairs.Given as goal

abbrev pub invariant-loop-n : goal.invariant-loop-n
invariant-loop-n l =
    (length l.flags ≡ length l.initial.flags)
    × (marks l.initial.flags (pairs l.ns l.ws) ≡ marks l.flags (pairs l.n-iterator.a.rest.now l.n-iterator.b.rest.now))
