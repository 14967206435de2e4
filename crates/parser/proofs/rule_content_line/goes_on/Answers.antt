-- `parser::rule_content_line::goes_on` meets its contract.
-- Assumes nothing.
use Rattle.parser.proofs.rule_content_line.goes_on.Goals as goal

pub returns : goal.returns
returns c = rw c.is_at.ensures
