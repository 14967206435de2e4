-- `panel::yomaveludge_check` meets its contract: each way out is a case of what is said.
-- Assumes nothing.
use Rattle.std.proofs.Common.{◌∙◌}
use Rattle.rule.specs.Raw.{raw_lists}
use Rattle.edge.proofs.EdgeLaws.{check_refused, check_length, check_accepted}
use Rattle.cursor_layout.proofs.LengthLaws.{put_done, put_refused}
use Rattle.record_layout.proofs.OptionLaws.{option_is}
use Rattle.panel.proofs.yomaveludge_check.Goals as goal

pub returns-in-Err : goal.returns-in-Err
returns-in-Err c =
    let a = c.args in
    check_refused a.freq a.interval _ _ _ _ a.wkst a.start
    (raw_lists a.bymonth.now a.bymonthday.now a.byyearday.now a.byweekno.now a.bydayn.now a.bydayw.now
    a.byhour.now a.byminute.now a.bysecond.now a.bysetpos.now)
    c.check.result a.rulebytes.now (c.then_some.ensures ∙ option_is _ _) (c.then_some-2.ensures ∙ option_is _ _) c.check.ensures
    _ _ c.in-Err.is c.refusal_number.ensures

pub returns-then-put_record : goal.returns-then-put_record
returns-then-put_record c =
    let a = c.args in
    let done = put_done 2564 _ a.rulebytes.now _ _ c.put_record.ensures c.if-put_record.true in
    check_accepted a.freq a.interval _ _ _ _ a.wkst a.start
    (raw_lists a.bymonth.now a.bymonthday.now a.byyearday.now a.byweekno.now a.bydayn.now a.bydayw.now
    a.byhour.now a.byminute.now a.bysecond.now a.bysetpos.now)
    c.check.result a.rulebytes.now (c.then_some.ensures ∙ option_is _ _) (c.then_some-2.ensures ∙ option_is _ _) c.check.ensures
    _ _ c.in-Ok.is done.0 done.1

pub returns-else-put_record : goal.returns-else-put_record
returns-else-put_record c =
    let a = c.args in
    let done = put_refused 2564 _ a.rulebytes.now _ _ c.put_record.ensures c.if-put_record.false in
    check_length a.freq a.interval _ _ _ _ a.wkst a.start
    (raw_lists a.bymonth.now a.bymonthday.now a.byyearday.now a.byweekno.now a.bydayn.now a.bydayw.now
    a.byhour.now a.byminute.now a.bysecond.now a.bysetpos.now)
    c.check.result a.rulebytes.now (c.then_some.ensures ∙ option_is _ _) (c.then_some-2.ensures ∙ option_is _ _) c.check.ensures
    _ _ c.in-Ok.is done.0 done.1
