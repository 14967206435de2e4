-- `validator::validate_rrule::check` meets its contract.
-- Assumes nothing.
use Rattle.std.proofs.Common.{rules, ◌≡◌, refl, sym, ◌∙◌, Err}
use Rattle.rule.specs.Raw.{raw_of}
use Rattle.rule.specs.Filling.{given_as, given}
use Rattle.rule.proofs.CheckLaws.{start_in_range, refused, accepted}
use Rattle.validator.proofs.validate_rrule.check.Goals as goal

pub returns-in_err-verdict_of : goal.returns-in_err-verdict_of
returns-in_err-verdict_of c =
    let e : c.from_residual.result ≡ Err c.in_err-verdict_of.field-0.0 = search rules in
    e ∙ refused (raw_of c.args.given.now c.args.start) _ _ c.verdict_of.ensures c.in_err-verdict_of.was

pub filled-requires : goal.filled-requires
unfolding given given_as
filled-requires c = rw c.given_rule.ensures (start_in_range (raw_of c.args.given.now c.args.start) (sym c.verdict_of.ensures ∙ c.in_ok-verdict_of.was))

pub returns : goal.returns
unfolding given
returns c =
    accepted (raw_of c.args.given.now c.args.start) _ _ _ _ c.verdict_of.ensures c.in_ok-verdict_of.was refl c.given_rule.ensures c.filled.ensures
