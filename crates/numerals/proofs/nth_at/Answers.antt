-- `numerals::nth_at` meets its contract.
-- Assumes nothing.
use mathlib.Core.Path.{◌≡◌, sym, ◌∙◌}
use mathlib.Core.Bool.{◌||◌}
use lib.ListN.{drop}
use Rattle.symbols.specs.Languages.{is_digit}
use Rattle.symbols.specs.Readers.{head_is}
use Rattle.recur.specs.Grammar.{plus, minus}
use Rattle.numerals.specs.Bytes.{passes}
use Rattle.numerals.proofs.TestLaws.{one_of_three}
use Rattle.numerals.proofs.SignLaws.{nth_there, nth_missing}
use Rattle.numerals.proofs.nth_at.Goals as goal
use Rattle.numerals.proofs.nth_at.Goals.{After-is_at-2}

-- the three tests together
tests : (c : After-is_at-2) → (let a = c.args in
    (passes is_digit (drop a.at a.text.now) || (head_is plus (drop a.at a.text.now) || head_is minus (drop a.at a.text.now)))
    ≡ (c.is_digit_at.result || (c.is_at.result || c.is_at-2.result)))
tests c = sym (one_of_three c.is_digit_at.ensures c.is_at.ensures c.is_at-2.ensures)

pub returns-then-is_digit_at-is_at : goal.returns-then-is_digit_at-is_at
returns-then-is_digit_at-is_at c =
    let here = goal.at.returns-then-is_digit_at-is_at c in
    c.signed_at.ensures ∙ nth_there _ _ (tests here.After-is_at-2 ∙ c.if-is_digit_at-is_at.true)

pub returns : goal.returns
returns c = nth_missing _ _ (tests (goal.at.returns c).After-is_at-2 ∙ c.if-is_digit_at-is_at.false)
