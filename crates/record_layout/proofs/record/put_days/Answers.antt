-- `record_layout::record::put_days` meets its contract.
-- Assumes nothing.
use Rattle.std.proofs.Common.{rules, ◌≡◌, length}
use Rattle.edge.proofs.LayoutLaws.{days_put, length_days}
use Rattle.record_layout.proofs.record.put_days.Goals as goal

pub returns : goal.returns
returns c =
    let r = c.args.rule.now in
    let months : length r.bymonth ≡ 12 = search rules in
    let monthdays : length r.bymonthday ≡ 62 = search rules in
    let yeardays : length r.byyearday ≡ 732 = search rules in
    let weeks : length r.byweekno ≡ 106 = search rules in
    let weekdays : length r.byday ≡ 749 = search rules in (
      days_put r _ _ _ _ _ _ months monthdays yeardays weeks
          c.put_flags.ensures c.put_flags-2.ensures c.put_flags-3.ensures c.put_flags-4.ensures c.put_flags-5.ensures,
      length_days r months monthdays yeardays weeks weekdays,
    )
