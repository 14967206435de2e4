-- `numerals::is_digit_at` meets its contract.
-- Assumes nothing.
use native.Mathlib.Omega.{arith}
use mathlib.Core.Path.{sym, ◌∙◌}
use lib.ListN.{length}
use borrow.Author.Tests.{le-ltb}
use Rattle.symbols.specs.Languages.{is_digit}
use Rattle.numerals.proofs.ByteLaws.{passes_at, passes_none}
use Rattle.numerals.proofs.is_digit_at.Goals as goal

pub returns-then-place-text : goal.returns-then-place-text
returns-then-place-text c = c.is_ascii_digit.ensures.value ∙ sym (passes_at is_digit c.args.text.now c.args.place (omega arith))

pub returns-else-place-text : goal.returns-else-place-text
returns-else-place-text c = le-ltb c.args.place (length c.args.text.now) (omega arith) ∙ sym (passes_none is_digit c.args.text.now c.args.place (omega arith))
