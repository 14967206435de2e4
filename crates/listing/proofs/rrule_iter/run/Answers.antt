-- `listing::rrule_iter::run` meets its contract.
-- Assumes nothing.
use Rattle.std.specs.Prelude.{Err}
use mathlib.Core.Path.{◌≡◌, sym, ap, ◌∙◌}
use mathlib.Core.Bool.{true}
use Rattle.machine.specs.declared.Cause.{Cause}
use Rattle.machine.specs.declared.Stop.{Stop}
use Rattle.walks.specs.declared.rrule_iter.Held.{Held}
use Rattle.settling.specs.Settling.{answer_of}
use Rattle.rule.specs.Records.{yielded}
use Rattle.rule.proofs.Demand.{good_interval}
use Rattle.periods.specs.Counters.{reached_at}
use Rattle.periods.proofs.Reach.{reached_by_fields, reached_counter, reached_range, no_other_cause}
use Rattle.opened.proofs.Plans.{plan_is}
use Rattle.opened.proofs.Yielded.{good}
use Rattle.listing.proofs.Entering.{record_refused, ended_returns, cursor_refused, out_of_range}
use Rattle.listing.proofs.rrule_iter.run.Goals as goal
use Rattle.listing.proofs.rrule_iter.run.Goals.{After-counter_at, Else-not-is_record}

-- the record is good
is_good : (c : Else-not-is_record) → yielded c.args.rule.now ≡ true
is_good c = sym c.is_record.ensures ∙ c.if-not-is_record.false

told_reached : (c : After-counter_at) → c.counter_at.result ≡ reached_at c.args.rule.now c.args.cursor.k
told_reached c = c.counter_at.ensures ∙ sym (reached_by_fields c.args.rule.now c.args.cursor.k)

-- ---- the calls' conditions, and the answers

pub returns-then-not-is_record : goal.returns-then-not-is_record
returns-then-not-is_record c =
    let a = c.args in
    record_refused a.rule.now a.cursor a.buffer.now a.m c.refused.result (sym c.is_record.ensures ∙ c.if-not-is_record.true)
    c.refused.ensures

pub returns-in-Ended : goal.returns-in-Ended
returns-in-Ended c =
    let a = c.args in
    ended_returns a.rule.now a.cursor a.buffer.now a.m c.answer.result (is_good (goal.at.returns-in-Ended c).Else-not-is_record) _ c.in-Ended.is
    (c.answer.ensures ∙ ap (λ (h : Held). answer_of Stop.Ended a.cursor.state h) c.held_at.ensures)

pub run_on-requires : goal.run_on-requires
run_on-requires c =
    let a = c.args in
    let g = is_good (goal.at.run_on-requires c).Else-not-is_record in
    let reached = told_reached (goal.at.run_on-requires c).After-counter_at in
    let to = reached_counter a.rule.now a.cursor.k c.in-Ok.counter (sym c.in-Ok.is ∙ reached) in (
      g,
      c.plan_of.ensures ∙ plan_is a.rule.now (good a.rule.now g),
      to.0,
      to.1,
      c.in-Running.is,
      good_interval a.rule.now g,
    )

pub returns-in-Ok : goal.returns-in-Ok
returns-in-Ok c = c.run_on.ensures

pub returns-in-Err : goal.returns-in-Err
returns-in-Err c =
    let a = c.args in
    let g = is_good (goal.at.returns-in-Err c).Else-not-is_record in
    let reached = sym c.in-Err.is ∙ told_reached (goal.at.returns-in-Err c).After-counter_at in
    let range = no_other_cause a.rule.now a.cursor.k _ reached in
    let out = reached_range a.rule.now a.cursor.k (good a.rule.now g).start (ap (λ (x : Cause). Err x) (sym range) ∙ reached) in
    cursor_refused a.rule.now a.cursor a.buffer.now a.m c.refused-in-Err.result g c.in-Running.is
    (out_of_range a.rule.now a.cursor a.buffer.now a.m c.refused-in-Err.result g c.in-Running.is out) c.refused-in-Err.ensures
