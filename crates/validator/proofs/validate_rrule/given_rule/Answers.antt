-- `validator::validate_rrule::given_rule` meets its contract.
-- Assumes nothing.
use Rattle.std.proofs.Common.{◌∙◌, ap}
use Rattle.rule.specs.declared.rrule.Frequency.{Frequency}
use Rattle.rule.specs.Raw.{lists_of}
use Rattle.rule.specs.Filling.{given_as, given}
use Rattle.rule.proofs.RuleLaws.{given_by_parts}
use Rattle.validator.proofs.validate_rrule.given_rule.Goals as goal

pub returns : goal.returns
unfolding given
returns c =
    let g = c.args.raw.now in
    given_by_parts _ _ _ _ _ _ (lists_of g.lists) c.marked.ensures c.marked-2.ensures c.marked-3.ensures c.marked-4.ensures c.marked_pairs.ensures
    c.marked-5.ensures c.marked-6.ensures c.marked-7.ensures c.marked-8.ensures
    ∙ ap (λ (f : Frequency). given_as f g.interval g.count g.until g.wkst c.args.start (lists_of g.lists)) c.frequency_of.ensures
