-- `parser::rule_content_line::fill_byday` meets its contract: a value that has a place stands there, and its days are those that are filled in.
-- Assumes nothing.
use Prim.Native.Nat.{◌<◌}
use mathlib.Core.Path.{refl}
use native.Mathlib.Omega.{arith}
use Rattle.recur.specs.Grammar.{day_entries}
use Rattle.parser.proofs.ValueLaws.{none_at, value_there}
use Rattle.parser.proofs.rule_content_line.fill_byday.Goals as goal

pub returns-then-place-eq0 : goal.returns-then-place-eq0
returns-then-place-eq0 c = rw (none_at _ _ _ c.if-place-eq0.true) (refl, refl, refl)

pub fill_days-requires : goal.fill_days-requires
fill_days-requires c =
    (c.requires.within, c.requires.is_whole (omega arith))

pub returns : goal.returns
returns c =
    let a = c.args in
    let h : 0 < a.place = omega arith in
    rw (value_there day_entries a.place a.text.now h) c.fill_days.ensures
