-- `numerals::signed_at` meets its contract.
-- Assumes nothing.
use native.Mathlib.Omega.{arith}
use mathlib.Core.Path.{refl, sym, ◌∙◌}
use Rattle.recur.specs.Grammar.{plus, minus}
use Rattle.numerals.proofs.ByteLaws.{Stands, stands}
use Rattle.numerals.proofs.SignLaws.{with_sign_lem, without_sign}
use Rattle.numerals.proofs.signed_at.Goals as goal
use Rattle.numerals.proofs.signed_at.Goals.{Then-is_at, Then-is_at-2}

-- the signs that are found
a_minus : (c : Then-is_at) → (let a = c.args in Stands minus a.text.now a.at)
a_minus c = stands minus _ _ (sym c.is_at.ensures ∙ c.if-is_at.true)

a_plus : (c : Then-is_at-2) → (let a = c.args in Stands plus a.text.now a.at)
a_plus c = stands plus _ _ (sym c.is_at-2.ensures ∙ c.if-is_at-2.true)

pub three_at-requires : goal.three_at-requires
three_at-requires c = omega (arith, (a_minus c).inside)

pub returns-then-is_at : goal.returns-then-is_at
returns-then-is_at c = with_sign_lem _ _ _ minus _ c.as_entry.ensures c.three_at.ensures.value (a_minus (goal.at.returns-then-is_at c).Then-is_at) refl refl

pub three_at-requires-then-is_at-2 : goal.three_at-requires-then-is_at-2
three_at-requires-then-is_at-2 c = omega (arith, (a_plus c).inside)

pub returns-then-is_at-2 : goal.returns-then-is_at-2
returns-then-is_at-2 c =
    let here = goal.at.returns-then-is_at-2 c in
    with_sign_lem _ _ _ plus _ c.as_entry-then-is_at-2.ensures c.three_at-then-is_at-2.ensures.value (a_plus here.Then-is_at-2) refl refl

pub returns : goal.returns
returns c =
    let e = c in
    without_sign _ _ _ _ c.as_entry-2.ensures c.three_at-2.ensures.value
    (sym e.is_at.ensures ∙ e.if-is_at.false) (sym e.is_at-2.ensures ∙ e.if-is_at-2.false) refl
