-- `moments::lettered_at` meets its contract.
-- Assumes nothing.
use native.Mathlib.Omega.{arith}
use mathlib.Core.Path.{sym, ◌∙◌}
use Rattle.std.proofs.Common.{rules}
use Rattle.symbols.specs.Counts.{ten_to}
use Rattle.moments.proofs.FieldLaws.{WholeField, no_number, no_letter, with_letter}
use Rattle.moments.proofs.lettered_at.Goals as goal
use Rattle.moments.proofs.lettered_at.Goals.{In_ok-number}

pub returns-in_err-number : goal.returns-in_err-number
returns-in_err-number c =
    let stopped = no_number _ _ c.args.letter _ _ _ c.in_err-number.ensures in
    search (rules, stopped)

-- the number is whole
number : (c : In_ok-number) → (let a = c.args in WholeField 2 a.low a.high a.text.now a.at c.in_ok-number.number)
unfolding ten_to
number c = record { is = c.in_ok-number.ensures; some = omega arith; fits = omega arith; within = omega arith }

pub returns-then-not-is_at : goal.returns-then-not-is_at
returns-then-not-is_at c = no_letter _ _ _ _ _ _ (number (goal.at.returns-then-not-is_at c).In_ok-number) (sym c.is_at.ensures ∙ c.if-not-is_at.true)

pub returns : goal.returns
returns c = with_letter _ _ _ _ _ _ (number (goal.at.returns c).In_ok-number) (sym c.is_at.ensures ∙ c.if-not-is_at.false)
