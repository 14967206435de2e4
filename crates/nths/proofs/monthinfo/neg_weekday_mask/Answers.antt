-- `nths::monthinfo::neg_weekday_mask` meets its contract.
-- Assumes nothing.
use Rattle.std.proofs.Common.{rules}
use Prim.Native.Nat.{◌<◌}
use mathlib.Core.Path.{◌≡◌}
use lib.ListN.{get_or}
use mathlib.Core.Bool.{false}
use native.Mathlib.Omega.{arith}
use Rattle.calendar.specs.Calendar.{MonthDay, from_end}
use Rattle.calendar.proofs.Months.{table_at}
use Rattle.nths.specs.Masks.{day_at, left_at}
use Rattle.nths.proofs.Rows.{days_high}
use Rattle.nths.proofs.monthinfo.neg_weekday_mask.Goals as goal

pub mask_by-requires : goal.mask_by-requires
mask_by-requires c = λ i h.
    let long = c.args.year.long in
    let n : c.args.inyear ≡ false = search rules in
    let l : i < 373 = omega (arith, h, days_high long) in
    let d : get_or c.month_day_table-monthdays.result i 0 ≡ day_at c.args.inyear c.args.year i =
    rw (n, c.month_day_table-monthdays.ensures) (table_at (λ (p : MonthDay). p.day) long i l) in
    let e : get_or c.month_day_from_end_table-fromends.result i 0 ≡ left_at c.args.inyear c.args.year i =
    rw (n, c.month_day_from_end_table-fromends.ensures) (table_at from_end long i l) in
    (search rules, λ told p. search (rules, d, e))
