-- `weeks::yearinfo::year_info` meets its contract.
-- Assumes nothing.
use Rattle.std.proofs.Common.{rules}
use borrow.Author.Tests.{le-leb, lt-leb}
use Rattle.weeks.specs.Weeks.{year_info}
use Rattle.weeks.proofs.yearinfo.year_info.Goals as goal

pub returns-then-number-gt9999 : goal.returns-then-number-gt9999
unfolding year_info
returns-then-number-gt9999 c = rw (lt-leb c.args.number 9999 (search rules))

pub returns : goal.returns
unfolding year_info
returns c =
    let a = c.args in
    rw (le-leb a.number 9999 (search rules), c.is_leap_year.ensures, c.is_leap_year-2.ensures, c.days_before_year.ensures)
