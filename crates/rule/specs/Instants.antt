-- Time. An instant counts UTC seconds since 1970-01-01T00:00:00Z, without leap seconds, from 0 to 253402300799 (9999-12-31T23:59:59Z).
-- Inside, a second counts from 0001-01-01T00:00:00; these two definitions are the edge.
-- Assumes nothing.
use Rattle.std.specs.Prelude.{ℕ, ◌+◌, ◌-◌, ◌*◌, ◌/◌, ◌%◌}

-- the day 1970-01-01
abbrev pub epoch : ℕ
epoch = 719162

abbrev pub second : ℕ → ℕ
second t = t + 719162 * 86400

abbrev pub instant : ℕ → ℕ
instant s = s - 719162 * 86400

abbrev pub last_instant : ℕ
last_instant = 253402300799

-- the first day after 9999
abbrev pub range_end : ℕ
range_end = 3652059

-- the day of a second, and its hour, minute and second
abbrev pub day_of : ℕ → ℕ
day_of s = s / 86400

abbrev pub hour_of : ℕ → ℕ
hour_of s = s % 86400 / 3600

abbrev pub minute_of : ℕ → ℕ
minute_of s = s % 3600 / 60

abbrev pub second_of : ℕ → ℕ
second_of s = s % 60
