-- `plans::plan::second_in` meets its contract.
-- Assumes nothing.
use Rattle.std.proofs.Common.{rules}
use borrow.Author.Tests.{lt-ltb, le-ltb}
use Rattle.plans.specs.Plans.{second_in}
use Rattle.plans.proofs.plan.second_in.Goals as goal

pub returns-then-instant-gt-LAST_INSTANT : goal.returns-then-instant-gt-LAST_INSTANT
unfolding second_in
returns-then-instant-gt-LAST_INSTANT c = rw (lt-ltb 253402300799 c.args.instant (search rules))

pub returns : goal.returns
unfolding second_in
returns c = rw (le-ltb 253402300799 c.args.instant (search rules))
