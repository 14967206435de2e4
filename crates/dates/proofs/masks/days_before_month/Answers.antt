-- `dates::masks::days_before_month` meets its contract: its two tables are what the calendar says, by one computed test each.
-- Assumes nothing.
use mathlib.Core.Path.{◌≡◌, ap, ◌∙◌}
use mathlib.Core.Bool.{Bool, true, false}
use Prim.Native.Nat.{ℕ, ◌+◌, ◌-◌, ◌≤◌, min}
use native.Mathlib.Omega.{arith}
use native.Mathlib.Decide.{dec_le}
use lib.ListN.{take}
use lib.Seq.{take_all}
use Rattle.calendar.specs.Calendar.{month_lengths, total, days_before_month}
use Rattle.calendar.proofs.Table.{tab_at}
use Rattle.dates.proofs.masks.days_before_month.Goals as goal

-- A month's place in the tables of months is its number less 1, and behind December it is 12.
at_place : (long : Bool) (m : ℕ) → days_before_month long (min (m - 1) 12 + 1) ≡ days_before_month long m
unfolding days_before_month
at_place long m = ap total (capped (dec_le (m - 1) 12))
  where
    capped : Dec (m - 1 ≤ 12) → take (min (m - 1) 12 + 1 - 1) (month_lengths long) ≡ take (m - 1) (month_lengths long)
    capped (yes h) = let e : min (m - 1) 12 + 1 - 1 ≡ m - 1 = omega arith in rw e
    capped (no h) =
        let e : min (m - 1) 12 + 1 - 1 ≡ 12 = omega arith in
        rw (e, take_all (m - 1) (month_lengths long) (omega arith)) (take_all 12 (month_lengths long) (omega arith))

pub returns-then-long : goal.returns-then-long
unfolding days_before_month
returns-then-long c =
    rw (c.if-long.true, c.month_place-place.ensures)
    (tab_at (λ (n : ℕ). days_before_month true (n + 1)) 0 13 (min (c.args.month - 1) 12) (omega arith)
    ∙ at_place true c.args.month)

pub returns-else-long : goal.returns-else-long
unfolding days_before_month
returns-else-long c =
    rw (c.if-long.false, c.month_place-place.ensures)
    (tab_at (λ (n : ℕ). days_before_month false (n + 1)) 0 13 (min (c.args.month - 1) 12) (omega arith)
    ∙ at_place false c.args.month)
