-- `parser::rule_content_line::until_in` meets its contract: the value that stands at the place, or what holds without one.
-- Assumes nothing.
use mathlib.Core.Path.{refl, sym, ap, ◌∙◌}
use native.Mathlib.Omega.{arith}
use Rattle.recur.specs.Grammar.{Value, as_until}
use Rattle.parser.proofs.ValueLaws.{none_at, is_read, value_shown}
use Rattle.parser.proofs.rule_content_line.until_in.Goals as goal

pub returns-then-place-eq0 : goal.returns-then-place-eq0
returns-then-place-eq0 c = sym (ap (λ (v : Value). as_until v) (none_at _ _ _ c.if-place-eq0.true))

pub unwrap-requires : goal.unwrap-requires
unwrap-requires c = is_read c.requires (omega arith) _ refl c.moment_at.ensures

pub returns : goal.returns
returns c =
    sym (ap (λ (v : Value). as_until v)
    (value_shown c.requires (omega arith) _ refl _ (sym c.unwrap.ensures ∙ c.moment_at.ensures)))
