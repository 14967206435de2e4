-- `panel::yomaveludge_fresh` meets its contract: each way out is a case of what is said.
-- Assumes nothing.
use Rattle.std.proofs.Common.{rules, tests}
use Rattle.edge.proofs.EdgeLaws.{no_record, fresh_no_record, fresh_bad_record, fresh_length, fresh_made}
use Rattle.cursor_layout.proofs.LengthLaws.{put_done, put_refused}
use Rattle.record_layout.proofs.RecordIs.{record_is}
use Rattle.panel.proofs.yomaveludge_fresh.Goals as goal

pub returns-then-not-is_record_bytes : goal.returns-then-not-is_record_bytes
returns-then-not-is_record_bytes c = fresh_no_record c.args.rulebytes.now c.args.cursorbytes.now (no_record c.args.rulebytes.now (search (rules, tests)))

pub returns-then-not-is_record : goal.returns-then-not-is_record
returns-then-not-is_record c =
    let a = c.args in
    let held = record_is a.rulebytes.now c.record_in-rule.result (search (rules, tests)) c.record_in-rule.ensures in
    fresh_bad_record a.rulebytes.now a.cursorbytes.now c.record_in-rule.result held (search (rules, tests))

pub returns-then-put_cursor : goal.returns-then-put_cursor
returns-then-put_cursor c =
    let a = c.args in
    let held = record_is a.rulebytes.now c.record_in-rule.result (search (rules, tests)) c.record_in-rule.ensures in
    let done = put_done 22 _ a.cursorbytes.now _ _ c.put_cursor.ensures c.if-put_cursor.true in
    fresh_made a.rulebytes.now a.cursorbytes.now c.record_in-rule.result held _ _ (search (rules, tests)) done.0 c.fresh.ensures done.1

pub returns-else-put_cursor : goal.returns-else-put_cursor
returns-else-put_cursor c =
    let a = c.args in
    let held = record_is a.rulebytes.now c.record_in-rule.result (search (rules, tests)) c.record_in-rule.ensures in
    let done = put_refused 22 _ a.cursorbytes.now _ _ c.put_cursor.ensures c.if-put_cursor.false in
    fresh_length a.rulebytes.now a.cursorbytes.now c.record_in-rule.result held _ (search (rules, tests)) done.0 done.1
