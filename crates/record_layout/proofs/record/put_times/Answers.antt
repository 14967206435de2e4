-- `record_layout::record::put_times` meets its contract.
-- Assumes nothing.
use Rattle.std.proofs.Common.{rules, ◌≡◌, length}
use Rattle.edge.proofs.LayoutLaws.{times_put, length_times}
use Rattle.record_layout.proofs.record.put_times.Goals as goal

pub returns : goal.returns
returns c =
    let r = c.args.rule.now in
    let hours : length r.byhour ≡ 24 = search rules in
    let minutes : length r.byminute ≡ 60 = search rules in
    let seconds : length r.bysecond ≡ 60 = search rules in
    let positions : length r.bysetpos ≡ 732 = search rules in (
      times_put r _ _ _ _ _ hours minutes seconds
          c.put_flags.ensures c.put_flags-2.ensures c.put_flags-3.ensures c.put_flags-4.ensures,
      length_times r hours minutes seconds positions,
    )
