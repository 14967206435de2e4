-- `days::filters::is_filtered_by_year_day` meets its contract.
-- Assumes nothing.
use native.Mathlib.Omega.{arith}
use Rattle.nths.proofs.Rows.{year_day_lem}
use Rattle.days.proofs.FilterLaws.{year_day_read}
use Rattle.days.proofs.filters.is_filtered_by_year_day.Goals as goal

pub overflow_add-result : goal.overflow_add-result
overflow_add-result c =
    let s = c in
    let r = year_day_lem s.args.info.now.year.long s.args.info.now.year.nextlong s.args.place s.requires in
    let e = c.year_day-day.ensures in
    omega arith

pub bounds-rule-day : goal.bounds-rule-day
bounds-rule-day c =
    let s = c in
    let r = year_day_lem s.args.info.now.year.long s.args.info.now.year.nextlong s.args.place s.requires in
    let e = c.year_day-day.ensures in
    omega arith

pub overflow_sub-result : goal.overflow_sub-result
overflow_sub-result c =
    let s = c in
    let r = year_day_lem s.args.info.now.year.long s.args.info.now.year.nextlong s.args.place s.requires in
    let e = c.year_day_from_end-left.ensures in
    omega arith

pub returns : goal.returns
returns c =
    let d = c in
    let s = d in
    let a = s.args in
    year_day_read a.asked a.info.now.year.long a.info.now.year.nextlong a.rule.now.byyearday a.place d.year_day-day.result c.year_day_from_end-left.result
    d.if-not-asked.false s.requires d.year_day-day.ensures c.year_day_from_end-left.ensures
