-- `records::is_record` meets its contract.
-- Assumes nothing.
use Rattle.std.proofs.Common.{rules}
use Rattle.rule.specs.Records.{Sized}
use Rattle.rule.proofs.RecordsComputed.{record_by_parts}
use Rattle.records.proofs.is_record.Goals as goal

pub returns : goal.returns
returns c =
    let r = c.args.rule.now in
    let sized : Sized r = record {
      bymonth = search rules;
      bymonthday = search rules;
      byyearday = search rules;
      byweekno = search rules;
      byday = search rules;
      byhour = search rules;
      byminute = search rules;
      bysecond = search rules;
      bysetpos = search rules;
    } in
    record_by_parts r sized c.frequency_number-number.ensures c.is_until_out-until.ensures c.has_every-every.ensures
    c.has_nth-nth.ensures c.is_empty-months.ensures c.is_empty-monthdays.ensures c.is_empty-yeardays.ensures
    c.is_empty-weeknos.ensures c.is_empty-hours.ensures c.is_empty-minutes.ensures c.is_empty-seconds.ensures c.is_empty-positions.ensures
    c.has_nought-nought.ensures c.count_and_until-both.ensures c.is_misplaced-misplaced.ensures
