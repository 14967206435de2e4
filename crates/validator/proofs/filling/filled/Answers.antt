-- `validator::filling::filled` meets its contract.
-- Assumes nothing.
use Rattle.std.proofs.Common.{refl}
use Rattle.calendar.proofs.Dates.{date_is}
use Rattle.rule.proofs.RuleLaws.{fill_by_parts}
use Rattle.validator.proofs.filling.filled.Goals as goal

pub overflow_sub-month : goal.overflow_sub-month
overflow_sub-month c = rw c.date_from_ordinal-date.ensures (date_is _).month_low

pub returns : goal.returns
returns c =
    fill_by_parts c.args.rule.now _ _ _ _ refl c.frequency_number-number.ensures c.date_from_ordinal-date.ensures c.no_days-free.ensures
    c.take.ensures c.take-2.ensures c.take-3.ensures c.take-4.ensures c.take-5.ensures c.take-6.ensures
