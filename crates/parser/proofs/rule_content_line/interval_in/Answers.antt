-- `parser::rule_content_line::interval_in` meets its contract: the value that stands at the place, or what holds without one.
-- Assumes nothing.
use mathlib.Core.Path.{refl, sym, ap, ◌∙◌}
use native.Mathlib.Omega.{arith}
use Rattle.recur.specs.Grammar.{Value, number_or}
use Rattle.symbols.proofs.Numerals.{takes_number}
use Rattle.parser.proofs.ValueLaws.{none_at, is_read, spelled, value_shown}
use Rattle.parser.proofs.rule_content_line.interval_in.Goals as goal

pub returns-then-place-eq0 : goal.returns-then-place-eq0
returns-then-place-eq0 c = sym (ap (λ (v : Value). number_or 1 v) (none_at _ _ _ c.if-place-eq0.true))

pub unwrap-requires : goal.unwrap-requires
unwrap-requires c = is_read c.requires (omega arith) _ refl c.number_at.ensures

pub overflow_cast-result : goal.overflow_cast-result
overflow_cast-result c =
    omega (
      arith,
      (spelled (takes_number 65535) _ _ _ (sym c.unwrap.ensures ∙ c.number_at.ensures)).1.high_enough,
    )

pub returns : goal.returns
returns c =
    sym (ap (λ (v : Value). number_or 1 v)
    (value_shown c.requires (omega arith) _ refl _ (sym c.unwrap.ensures ∙ c.number_at.ensures)))
