-- `periods::counter_date::counter_at` meets its contract: k and INTERVAL may be anything, since their product is cut short.
-- Assumes nothing.
use mathlib.Core.Path.{◌≡◌, ◌∙◌}
use Prim.Native.Nat.{◌+◌}
use native.Mathlib.Omega.{arith}
use Rattle.rule.specs.declared.rrule.Rule.{Rule}
use Rattle.periods.specs.Counters.{rule_from}
use Rattle.periods.proofs.Capped.{number_below, capped, reaches_range, reaches}
use Rattle.periods.proofs.counter_date.counter_at.Goals as goal
use Rattle.periods.proofs.counter_date.counter_at.Goals.{After-limit_of}

pub returns-then-start-gt-LAST_INSTANT : goal.returns-then-start-gt-LAST_INSTANT
unfolding rule_from
returns-then-start-gt-LAST_INSTANT c =
    let a = c.args in
    reaches_range (rule_from a.freq a.interval a.wkst a.start) a.k (omega arith)

pub overflow_add-first : goal.overflow_add-first
overflow_add-first c =
    let a = c.args in
    let n = number_below a.freq a.wkst (a.start + 62135596800) (omega arith) in
    omega arith

-- the rule that is asked, and the counter that is made
abbrev asked : After-limit_of → Rule
asked c = let a = c.args in rule_from a.freq a.interval a.wkst a.start

made : (c : After-limit_of) → c.cut_at-counter.result ≡ capped (asked c) c.args.k
unfolding rule_from
made c =
    let added_is = rw c.step_of.ensures at c.added.ensures in
    c.cut_at-counter.ensures ∙ rw (added_is, c.number_of-first.ensures)

pub returns : goal.returns
unfolding rule_from
returns c =
    let here = (goal.at.returns c).After-limit_of in
    c.in_range.ensures ∙ rw (c.limit_of.ensures, made here) (reaches (asked here) c.args.k (omega arith))
