-- One answer: of each public function, two answers that its promise allows are one. `Post` is the promise as the source states it.
-- Assumes nothing.
use Rattle.calendar.proofs.AsksNothing.{AsksNothing, nothing_asked}
use Rattle.calendar.proofs.Determines.{Determines, one_answer}
use Rattle.validator.proofs.validate_rrule.verdict_of.Kinds as verdict-kinds
use Rattle.validator.proofs.validate_rrule.verdict_of.Reads as verdict
use Rattle.validator.proofs.validate_rrule.blank_rule.Kinds as blank-kinds
use Rattle.validator.proofs.validate_rrule.blank_rule.Reads as blank
use Rattle.validator.proofs.validate_rrule.given_rule.Kinds as given-rule-kinds
use Rattle.validator.proofs.validate_rrule.given_rule.Reads as given-rule
use Rattle.validator.proofs.validate_rrule.check.Kinds as check-kinds
use Rattle.validator.proofs.validate_rrule.check.Reads as check

pub verdict_has_one : Determines 2 verdict-kinds.ps verdict-kinds.r verdict.Post
verdict_has_one κs a x y e f = one_answer

pub blank_has_one : Determines 0 blank-kinds.ps blank-kinds.r blank.Post
blank_has_one κs a x y e f = one_answer

pub given_rule_has_one : Determines 2 given-rule-kinds.ps given-rule-kinds.r given-rule.Post
given_rule_has_one κs a x y e f = one_answer

pub check_has_one : Determines 2 check-kinds.ps check-kinds.r check.Post
check_has_one κs a x y e f = one_answer

-- and they ask nothing of their callers
pub verdict_asks_nothing : AsksNothing 2 verdict-kinds.ps verdict.requires
verdict_asks_nothing κs a = nothing_asked

pub blank_asks_nothing : AsksNothing 0 blank-kinds.ps blank.requires
blank_asks_nothing κs a = nothing_asked

pub given_rule_asks_nothing : AsksNothing 2 given-rule-kinds.ps given-rule.requires
given_rule_asks_nothing κs a = nothing_asked

pub check_asks_nothing : AsksNothing 2 check-kinds.ps check.requires
check_asks_nothing κs a = nothing_asked
