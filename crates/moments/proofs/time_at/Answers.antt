-- `moments::time_at` meets its contract.
-- Assumes nothing.
use Prim.Native.Nat.{ℕ, ◌+◌, ◌*◌, ◌≤◌}
use native.Mathlib.Omega.{arith}
use mathlib.Core.Path.{refl}
use Rattle.std.proofs.Common.{rules}
use Rattle.symbols.specs.Counts.{ten_to}
use Rattle.recur.specs.Reading.{time_at}
use Rattle.moments.proofs.FieldLaws.{WholeField, in_range_lem, ends_within, number_in_range, no_first, no_second, no_third, all_three}
use Rattle.moments.proofs.time_at.Goals as goal
use Rattle.moments.proofs.time_at.Goals.{In_ok-hour, In_ok-minute, In_ok-second}

abbrev highest : ℕ → ℕ → ℕ
highest h m = 59

abbrev second_of : ℕ → ℕ → ℕ → ℕ
second_of h m s = h * 3600 + m * 60 + s

pub returns-in_err-hour : goal.returns-in_err-hour
unfolding time_at
returns-in_err-hour c =
    let stopped = no_first 2 0 23 0 59 0 highest 90 second_of _ _ _ c.in_err-hour.ensures in
    search (rules, stopped)

-- the hour is whole
hour : (c : In_ok-hour) → WholeField 2 0 23 c.args.text.now c.args.at c.in_ok-hour.hour
unfolding ten_to
hour c = record { is = c.in_ok-hour.ensures; some = omega arith; fits = omega arith; within = c.requires }

pub field_at-requires-2 : goal.field_at-requires-2
field_at-requires-2 c = omega (arith, ends_within (hour c))

pub returns-in_err-minute : goal.returns-in_err-minute
unfolding time_at
returns-in_err-minute c =
    let stopped = no_second 2 0 23 0 59 0 highest 90 second_of _ _ _ (hour (goal.at.returns-in_err-minute c).In_ok-hour) _ c.in_err-minute.ensures in
    search (rules, stopped)

-- the minute is whole
minute : (c : In_ok-minute) → WholeField 2 0 23 c.args.text.now c.args.at c.in_ok-hour.hour → WholeField 2 0 59 c.args.text.now c.in_ok-hour.hour.place c.in_ok-minute.minute
unfolding ten_to
minute c h = record { is = c.in_ok-minute.ensures; some = omega arith; fits = omega arith; within = ends_within h }

pub lettered_at-requires : goal.lettered_at-requires
lettered_at-requires c =
    let here = goal.at.lettered_at-requires c in
    omega (arith, ends_within (minute here.In_ok-minute (hour here.In_ok-hour)))

pub returns-in_err-second : goal.returns-in_err-second
unfolding time_at
returns-in_err-second c =
    let here = goal.at.returns-in_err-second c in
    let h = hour here.In_ok-hour in
    let stopped = no_third 2 0 23 0 59 0 highest 90 second_of _ _ _ h _ (minute here.In_ok-minute h) _ _ refl refl _ c.in_err-second.ensures in
    search (rules, stopped)

-- all three are whole
hours : (c : In_ok-hour) → c.in_ok-hour.hour.value ≤ 23
hours c = (in_range_lem (hour c)).1

minutes : (c : In_ok-minute) → WholeField 2 0 23 c.args.text.now c.args.at c.in_ok-hour.hour → c.in_ok-minute.minute.value ≤ 59
minutes c h = (in_range_lem (minute c h)).1

seconds : (c : In_ok-second) → c.in_ok-second.second.value ≤ 59
unfolding ten_to
seconds c = (number_in_range 0 59 _ _ _ _ c.in_ok-second.ensures (omega arith) (omega arith)).1

pub overflow_mul-result : goal.overflow_mul-result
overflow_mul-result c = omega (arith, hours (goal.at.overflow_mul-result c).In_ok-hour)

pub overflow_mul-result-2 : goal.overflow_mul-result-2
overflow_mul-result-2 c =
    let here = goal.at.overflow_mul-result-2 c in
    omega (arith, minutes here.In_ok-minute (hour here.In_ok-hour))

pub overflow_add-result : goal.overflow_add-result
overflow_add-result c =
    let here = goal.at.overflow_add-result c in
    omega (arith, hours here.In_ok-hour, minutes here.In_ok-minute (hour here.In_ok-hour))

pub overflow_add-result-2 : goal.overflow_add-result-2
overflow_add-result-2 c =
    let here = goal.at.overflow_add-result-2 c in
    omega (arith, hours here.In_ok-hour, minutes here.In_ok-minute (hour here.In_ok-hour), seconds here.In_ok-second)

pub returns : goal.returns
unfolding time_at
returns c =
    let here = goal.at.returns c in
    let h = hour here.In_ok-hour in
    all_three 2 0 23 0 59 0 highest 90 second_of _ _ _ h _ (minute here.In_ok-minute h) _ _ refl refl _ c.in_ok-second.ensures _ (omega arith)
