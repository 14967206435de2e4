-- `spelling::offered` meets its contract.
-- Assumes nothing.
use native.Mathlib.Omega.{arith}
use mathlib.Core.Path.{sym, ap, ◌∙◌}
use mathlib.Core.Bool.{Bool, ◌||◌}
use lib.Dec.{ltb}
use Rattle.spelling.proofs.OfferLaws.{passed_by, is_found, goes_further, goes_no_further}
use Rattle.spelling.proofs.offered.Goals as goal

pub returns-then-is_some-place : goal.returns-then-is_some-place
returns-then-is_some-place c =
    record { is = passed_by _ _ _ _ _ (sym (ap (λ (x : Bool). x || ltb 0 c.args.place) c.is_some.ensures) ∙ c.if-is_some-place.true); within = omega arith }

pub returns-then-count-word : goal.returns-then-count-word
returns-then-count-word c =
    let e = sym (ap (λ (x : Bool). x || ltb 0 c.args.place) c.is_some.ensures) ∙ c.if-is_some-place.false in
    record { is = is_found _ _ _ _ _ _ e c.in_common-count.ensures.is c.if-count-word.true; within = omega arith }

pub returns-then-best-count : goal.returns-then-best-count
returns-then-best-count c =
    let e = sym (ap (λ (x : Bool). x || ltb 0 c.args.place) c.is_some.ensures) ∙ c.if-is_some-place.false in
    record { is = goes_further _ _ _ _ _ _ e c.in_common-count.ensures.is c.if-count-word.false (omega arith); within = omega arith }

pub returns : goal.returns
returns c =
    let e = sym (ap (λ (x : Bool). x || ltb 0 c.args.place) c.is_some.ensures) ∙ c.if-is_some-place.false in
    record { is = goes_no_further _ _ c.in_common-count.result _ _ _ e c.in_common-count.ensures.is c.if-count-word.false (omega arith); within = omega arith }
