-- `parser::rule_content_line::is_good` meets its contract.
-- Assumes nothing.
use mathlib.Core.Path.{refl}
use Rattle.parser.proofs.rule_content_line.is_good.Goals as goal

pub returns : goal.returns
returns c = refl
