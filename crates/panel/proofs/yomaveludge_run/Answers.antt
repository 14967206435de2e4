-- `panel::yomaveludge_run` meets its contract: each way out is a case of what is shown.
-- Assumes nothing.
use Rattle.std.proofs.Common.{rules, tests, sym, ◌∙◌}
use Rattle.edge.proofs.EdgeLaws.{held_size, no_record, run_no_record, run_no_cursor, run_refused, run_answers}
use Rattle.cursor_layout.proofs.LengthLaws.{put_at}
use Rattle.record_layout.proofs.RecordIs.{record_is}
use Rattle.panel.proofs.yomaveludge_run.Goals as goal

pub returns-then-not-is_record_bytes : goal.returns-then-not-is_record_bytes
returns-then-not-is_record_bytes c =
    let a = c.args in
    run_no_record a.rulebytes.now a.cursorbytes.now a.buffer.now a.moves (no_record a.rulebytes.now (search (rules, tests)))

pub returns-in_default : goal.returns-in_default
returns-in_default c =
    let a = c.args in
    let held = record_is a.rulebytes.now c.record_in-rule.result (search (rules, tests)) c.record_in-rule.ensures in
    run_no_cursor a.rulebytes.now a.cursorbytes.now a.buffer.now a.moves _ held
    _ (sym c.decode_cursor.ensures ∙ c.in_default.is) c.unreadable_number.ensures

pub returns-then-is_refused : goal.returns-then-is_refused
returns-then-is_refused c =
    let a = c.args in
    let held = record_is a.rulebytes.now c.record_in-rule.result (search (rules, tests)) c.record_in-rule.ensures in
    run_refused a.rulebytes.now a.cursorbytes.now a.buffer.now a.moves _ held
    _ (sym c.decode_cursor.ensures ∙ c.in-Some.is) _ _ c.run-answer.ensures
    _ c.stop_number-number.ensures (sym c.is_refused.ensures ∙ c.if-is_refused.true)

pub returns : goal.returns
returns c =
    let a = c.args in
    let held = record_is a.rulebytes.now c.record_in-rule.result (search (rules, tests)) c.record_in-rule.ensures in
    run_answers a.rulebytes.now a.cursorbytes.now a.buffer.now a.moves _ held
    _ (sym c.decode_cursor.ensures ∙ c.in-Some.is) _ _ c.run-answer.ensures
    _ _ _ c.stop_number-number.ensures (sym c.is_refused.ensures ∙ c.if-is_refused.false)
    (put_at 22 _ _ _ _ c.put_cursor.ensures (held_size _ _ (sym c.decode_cursor.ensures ∙ c.in-Some.is))) c.state_number.ensures
