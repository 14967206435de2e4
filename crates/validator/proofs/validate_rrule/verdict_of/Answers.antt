-- `validator::validate_rrule::verdict_of` meets its contract: row by row, the code has the definition's test.
-- Assumes nothing.
use Rattle.std.proofs.Common.{refl, ◌∙◌}
use Rattle.rule.specs.Raw.{RawLists, Raw, lists_of, raw_of}
use Rattle.rule.proofs.CheckLaws.{no_row, row, all_rows, mixed_by, misplaced_by, list_misplaced_by}
use Rattle.validator.proofs.RowLaws.{row_behind}
use Rattle.validator.proofs.validate_rrule.verdict_of.Goals as goal

-- the rows from the first to the last, each by its test
pub returns : goal.returns
returns c =
    let g = c.args.given.now in
    let l : RawLists = lists_of g.lists in
    let w : Raw = raw_of g c.args.start in
    let r1 = row (no_row w) c.row.ensures refl in
    let r2 = row_behind r1 c.and.ensures c.row-2.ensures refl in
    let r3 = row_behind r2 c.and-2.ensures c.row-3.ensures refl in
    let r4 = row_behind r3 c.and-3.ensures c.row-4.ensures c.is_until_out-until.ensures in
    let r5 = row_behind r4 c.and-4.ensures c.row-5.ensures c.entry_out-entry.ensures in
    let r6 = row_behind r5 c.and-5.ensures c.row-6.ensures c.not_rising-order.ensures in
    let r7 = row_behind r6 c.and-6.ensures c.row-7.ensures (mixed_by l c.has_every.ensures c.has_nth-nth.ensures) in
    let r8 = row_behind r7 c.and-7.ensures c.row-8.ensures (rw c.is_empty.ensures (misplaced_by g.freq l c.has_nth-nth.ensures)) in
    let r9 = row_behind r8 c.and-8.ensures c.row-9.ensures c.positions_alone-alone.ensures in
    let r10 = row_behind r9 c.and-9.ensures c.row-10.ensures c.has_nought-nought.ensures in
    let r11 = row_behind r10 c.and-10.ensures c.row-11.ensures c.count_and_until-both.ensures in
    let r12 = row_behind r11 c.and-11.ensures c.row-12.ensures
    (list_misplaced_by g.freq l (c.is_misplaced-stray.ensures ∙ rw (c.is_empty-2.ensures, c.is_empty-3.ensures, c.is_empty-4.ensures))) in
    all_rows r12
