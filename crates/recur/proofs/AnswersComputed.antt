-- Each text of specs/Texts has its answer, computed.
-- Assumes nothing.
use Rattle.std.specs.Prelude.{Ok, Err}
use mathlib.Core.Path.{◌≡◌, refl}
use mathlib.Core.List.{map}
use Rattle.calendar.specs.Calendar.{leap, new_year, year_from, year_of, month_length, total, days_before_month, first_of, day_of_date}
use Rattle.calendar.specs.Calendar.{month_day_from, month_day_of, year_day, date_of}
use Rattle.symbols.specs.Readers.{digits, byte, common, offer, choose, word, followed, perhaps, joined}
use Rattle.symbols.specs.Counts.{ten_to}
use Rattle.recur.specs.Grammar.{none_used, value_in, rule_by, rule_of}
use Rattle.recur.specs.Reading.{entry_at, day_at, entries_at, days_at, time_at, date_at, moment_at, part_at, parts_at, read_of}
use Rattle.recur.specs.Writing.{decimal_within, padded, signed_text, day_text, moment_text, joined_by, value_text, part_text, paired, parts_of, text_of}
use Rattle.recur.specs.Texts.{places, samples}

-- to open these opens the readers of symbols, and the calendar
unfoldable symbols_open : Unit {0}
unfolding digits byte common offer choose word followed perhaps joined ten_to
symbols_open = tt

unfoldable calendar_open : Unit {0}
unfolding leap new_year year_from year_of month_length total days_before_month first_of day_of_date month_day_from month_day_of year_day date_of
calendar_open = tt

pub refused_there : map (λ c. read_of c.text) places ≡ map (λ c. Err c.place) places
unfolding symbols_open calendar_open none_used value_in entry_at day_at entries_at days_at time_at date_at moment_at part_at parts_at read_of places
refused_there = refl

pub read_so : map (λ c. read_of c.text) samples ≡ map (λ c. Ok c.reads) samples
unfolding symbols_open calendar_open none_used value_in rule_by rule_of entry_at day_at entries_at days_at time_at date_at moment_at part_at parts_at read_of samples
read_so = refl

pub written_so : map (λ c. text_of c.reads) samples ≡ map (λ c. c.writes) samples
unfolding calendar_open decimal_within padded signed_text day_text moment_text joined_by value_text part_text paired parts_of text_of samples
written_so = refl
