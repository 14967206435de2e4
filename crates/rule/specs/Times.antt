-- Which times pass: hour, minute and second are each in their list, where that is non-empty.
-- Assumes nothing.
use Rattle.std.specs.Prelude.{ℕ, Bool, true, ◌&&◌, ◌||◌, pos}
use Rattle.rule.specs.declared.rrule.Frequency.{Frequency}
use Rattle.rule.specs.declared.rrule.Rule.{Rule}
use Rattle.rule.specs.Instants.{hour_of, minute_of, second_of}
use Rattle.rule.specs.Lists.{hours, minutes, seconds, is_in, is_empty}

unfoldable pub hour_passes : Rule → ℕ → Bool
unfolding is_empty is_in
hour_passes r h = is_empty r.byhour || is_in hours r.byhour (pos h)

unfoldable pub minute_passes : Rule → ℕ → Bool
unfolding is_empty is_in
minute_passes r m = is_empty r.byminute || is_in minutes r.byminute (pos m)

unfoldable pub second_passes : Rule → ℕ → Bool
unfolding is_empty is_in
second_passes r s = is_empty r.bysecond || is_in seconds r.bysecond (pos s)

-- the time of the second s
unfoldable pub time_passes : Rule → ℕ → Bool
unfolding hour_passes minute_passes second_passes
time_passes r s = hour_passes r (hour_of s) && minute_passes r (minute_of s) && second_passes r (second_of s)

-- the same as far as a period of the frequency fixes them
unfoldable pub tick_passes : Rule → Frequency → ℕ → Bool
unfolding hour_passes minute_passes second_passes time_passes
tick_passes r Frequency.Yearly s = true
tick_passes r Frequency.Monthly s = true
tick_passes r Frequency.Weekly s = true
tick_passes r Frequency.Daily s = true
tick_passes r Frequency.Hourly s = hour_passes r (hour_of s)
tick_passes r Frequency.Minutely s = hour_passes r (hour_of s) && minute_passes r (minute_of s)
tick_passes r Frequency.Secondly s = time_passes r s
