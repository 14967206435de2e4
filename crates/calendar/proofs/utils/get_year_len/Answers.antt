-- `calendar::utils::get_year_len` meets its contract.
-- Assumes nothing.
use mathlib.Core.Path.{sym, ap, ◌∙◌}
use mathlib.Core.Bool.{Bool}
use Rattle.calendar.specs.Calendar.{days_of}
use Rattle.calendar.proofs.utils.get_year_len.Goals as goal

pub returns-then-is_leap_year : goal.returns-then-is_leap_year
returns-then-is_leap_year c = ap (λ (long : Bool). days_of long) (sym c.if-is_leap_year.true ∙ c.is_leap_year.ensures)

pub returns-else-is_leap_year : goal.returns-else-is_leap_year
returns-else-is_leap_year c = ap (λ (long : Bool). days_of long) (sym c.if-is_leap_year.false ∙ c.is_leap_year.ensures)
