-- `parser::rule_content_line::read` meets its contract.
-- Assumes nothing.
use mathlib.Core.Path.{sym, ◌∙◌}
use native.Mathlib.Omega.{arith}
use Rattle.std.proofs.lemmas.Result.{err_from_is_err_and}
use Rattle.recur.specs.Shown.{slots_of}
use Rattle.recur.proofs.Decided.{too_long}
use Rattle.parser.proofs.ReadLaws.{read_halted, read_refused, all_standing, read_rule}
use Rattle.parser.proofs.FillLaws.{left_refused, left_rule}
use Rattle.parser.proofs.rule_content_line.read.Goals as goal

pub returns-then-text-gt-LONGEST : goal.returns-then-text-gt-LONGEST
returns-then-text-gt-LONGEST c = left_refused _ _ _ (too_long _ (omega arith))

pub returns-in_err-parts : goal.returns-in_err-parts
returns-in_err-parts c =
    let stopped = left_refused _ _ (slots_of c.args.slots.now) (read_halted _ _ (omega arith) c.in_err-parts.ensures) in
    let p = err_from_is_err_and c.from_residual.result c.from_residual.ensures.1 in
    rw (p.1, p.2) stopped

pub returns-then-not-is_good : goal.returns-then-not-is_good
returns-then-not-is_good c = left_refused _ _ _ (read_refused _ _ c.in_ok-parts.ensures (omega arith) (sym c.is_good.ensures ∙ c.if-not-is_good.true))

pub filled-requires : goal.filled-requires
filled-requires c = all_standing _ _ c.in_ok-parts.ensures

pub returns : goal.returns
returns c =
    left_rule _ _ _ _ _ (read_rule _ _ c.in_ok-parts.ensures (sym c.is_good.ensures ∙ c.if-not-is_good.false) (omega arith)) c.filled.ensures
