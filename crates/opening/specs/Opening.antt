-- A period opened: its candidates by number, and how many are kept.
-- Assumes nothing.
use Rattle.std.specs.Prelude.{ℕ, ◌-◌, ◌*◌, ◌/◌, Bool, ◌&&◌, List, length, replicate, leb, ltb, if◌then◌else◌}
use Rattle.rule.specs.declared.rrule.Frequency.{Frequency}
use Rattle.rule.specs.Moves.{ticks}
use Rattle.years.specs.declared.iterinfo.IterInfo.{IterInfo}
use Rattle.days.specs.Filters.{DayLists}
use Rattle.days.specs.DaySets.{day_set}
use Rattle.stretches.specs.declared.counter_date.Days.{Days}
use Rattle.times.specs.declared.iterinfo.Counts.{Counts}
use Rattle.times.specs.TimeSets.{open_of, times_len}
use Rattle.positions.specs.Places.{kept_places, over}
use Rattle.walks.specs.declared.rrule_iter.Frame.{Frame}
use Rattle.walks.specs.Walks.{second_at, second_chosen}
use Rattle.plans.specs.declared.plan.Shape.{Shape}
use Rattle.opening.specs.declared.period.Period.{Period}
use Rattle.opening.specs.declared.period.OpenPeriod.{OpenPeriod}

-- the second of its day at which a period with this tick begins; of any number, 0 where a day has no such tick
abbrev pub tick_begins : Frequency → ℕ → ℕ
tick_begins freq tick = tick * (86400 / ticks freq)

unfoldable pub tick_second : Frequency → ℕ → ℕ
tick_second freq tick = if ltb tick (ticks freq) then tick_begins freq tick else 0

-- the frame of a period with so many passing days in the year that begins on the day `first`
unfoldable pub frame_of : Frequency → Counts → (tick first days : ℕ) → List Bool → Frame
unfolding open_of tick_second
frame_of freq counts tick first days clock = record {
  freq = freq;
  begins = tick_second freq tick;
  counts = open_of freq (tick_second freq tick) clock counts;
  first = first;
  days = days;
  times = times_len (open_of freq (tick_second freq tick) clock counts);
}

-- how many of its candidates are kept
unfoldable pub kept_count : Bool → List Bool → (days times : ℕ) → ℕ
unfolding kept_places
kept_count positioned bysetpos days times = if positioned then length (kept_places bysetpos (days * times)) else days * times

-- what then stands in the slots for their places
unfoldable pub chosen_over : Bool → List Bool → (days times : ℕ) → List ℕ → List ℕ
unfolding kept_places over
chosen_over positioned bysetpos days times slots = if positioned then over (kept_places bysetpos (days * times)) slots else slots

-- kept number i, with positions or without
unfoldable pub second_kept : Bool → Frame → (days lists places : List ℕ) → ℕ → ℕ
unfolding second_at second_chosen
second_kept positioned f days lists places i = if positioned then second_chosen f days lists places i else second_at f days lists i

-- the passing days of a stretch, as places in a year
abbrev pub days_by : Shape → IterInfo → DayLists → Days → List ℕ
days_by s info l span = day_set s.asked info l (span.from - info.year.first) (span.to - info.year.first)

-- The period with so many passing days in the year that begins on the day `first`. Where no day passes none is kept, nor where a day had more
-- times than seconds.
unfoldable pub no_period : Frequency → Counts → (first : ℕ) → Period
no_period freq counts first = record { frame = record { freq = freq; begins = 0; counts = counts; first = first; days = 0; times = 0 }; kept = 0 }

-- what is open before the first period
unfoldable pub none_open : Shape → OpenPeriod
unfolding no_period
none_open s = record { period = no_period s.freq s.counts 0; days = replicate 373 0; places = replicate 732 0 }

unfoldable pub is_open : ℕ → Frame → Bool
is_open count f = ltb 0 count && leb f.times 86400

unfoldable pub period_by : Shape → (first count tick : ℕ) → (clock bysetpos : List Bool) → Period
unfolding frame_of kept_count is_open no_period
period_by s first count tick clock bysetpos =
    if is_open count (frame_of s.freq s.counts tick first count clock)
    then record {
      frame = frame_of s.freq s.counts tick first count clock;
      kept = kept_count s.positioned bysetpos count (frame_of s.freq s.counts tick first count clock).times;
    }
    else no_period s.freq s.counts first

-- what then stands in the slots for the places of its kept candidates
unfoldable pub chosen_by : Shape → (first count tick : ℕ) → (clock bysetpos : List Bool) → List ℕ → List ℕ
unfolding frame_of chosen_over is_open
chosen_by s first count tick clock bysetpos slots =
    if is_open count (frame_of s.freq s.counts tick first count clock)
    then chosen_over s.positioned bysetpos count (frame_of s.freq s.counts tick first count clock).times slots
    else slots
