-- UNTIL as it is written: sixteen bytes that are a moment of the instant.
-- Assumes nothing.
use Prim.Native.Nat.{ℕ, ◌+◌, ◌*◌, ◌/◌, ◌%◌, ◌≤◌, ◌<◌}
use native.Mathlib.Omega.{arith}
use mathlib.Core.Path.{◌≡◌, refl}
use mathlib.Core.Logic.{⊎_elim}
use mathlib.Core.List.{[], ◌∷◌, ◌++◌, append_assoc}
use lib.ListN.{length, length-append}
use borrow.Author.Tests.{eq-eqb}
use Rattle.calendar.specs.Calendar.{leap, new_year, year_of, month_length, date_of}
use Rattle.calendar.proofs.Years.{years_rise, year_of_is}
use Rattle.calendar.proofs.Months.{at_most_31}
use Rattle.calendar.proofs.Dates.{date_is, day_of_its_date}
use Rattle.rule.specs.Instants.{second, last_instant, day_of, hour_of, minute_of, second_of}
use Rattle.rule.proofs.Order.{below_or}
use Rattle.symbols.specs.Languages.{both}
use Rattle.symbols.specs.Counts.{Field, ten_to}
use Rattle.recur.specs.Grammar.{first_year, Letter, Clock, Calendar, clock_seconds, Time, Date, moment_of, Moment}
use Rattle.recur.specs.Writing.{padded, moment_text}
use Rattle.recur.proofs.WrittenSymbols.{follows}
use Rattle.recur.proofs.DecimalLaws.{padded_field}

-- a day of the range lies in the years 1970 to 9999
year_low : (d : ℕ) → 719162 ≤ d → 1970 ≤ (date_of d).year
unfolding date_of new_year
year_low d h =
    ⊎_elim (λ (l : year_of d < 1970). absurd (omega (arith, years_rise (year_of d + 1) 1970 (omega arith) (omega arith), (year_of_is d).to)))
    (λ (l : 1970 ≤ year_of d). l) (below_or (year_of d) 1970)

year_high : (d : ℕ) → d < 3652059 → (date_of d).year ≤ 9999
unfolding date_of new_year
year_high d h =
    ⊎_elim (λ (l : 9999 < year_of d). absurd (omega (arith, years_rise 10000 (year_of d) (omega arith) (omega arith), (year_of_is d).from)))
    (λ (l : year_of d ≤ 9999). l) (below_or 9999 (year_of d))

-- two digits of each, and a letter
letter : (c : ℕ) → Letter c c (c ∷ [])
letter c = record { passes = eq-eqb c c refl; alone = refl }

two_digits : (low high n : ℕ) → low ≤ n → n ≤ high → high < 100 → Field 2 low high n (padded 2 n)
unfolding ten_to
two_digits low high n l h k = padded_field 2 low high n (omega arith) l h

-- a second's hour, minute and second with the letter Z, and a day's date with the letter T, as they are read
abbrev clock_of : ℕ → Clock
clock_of s = both (hour_of s) (both (minute_of s) (both (second_of s) 90))

time_written : (s : ℕ) → Time (clock_of s) (padded 2 (hour_of s) ++ (padded 2 (minute_of s) ++ (padded 2 (second_of s) ++ (90 ∷ []))))
time_written s =
    follows (padded 2 (hour_of s)) _ (two_digits 0 23 (hour_of s) (omega arith) (omega arith) (omega arith))
    (follows (padded 2 (minute_of s)) _ (two_digits 0 59 (minute_of s) (omega arith) (omega arith) (omega arith))
    (follows (padded 2 (second_of s)) _ (two_digits 0 59 (second_of s) (omega arith) (omega arith) (omega arith)) (letter 90)))

abbrev date_read : ℕ → Calendar
date_read d = both (date_of d).year (both (date_of d).month (both (date_of d).day 84))

date_written : (d : ℕ) → 719162 ≤ d → d < 3652059
    → Date (date_read d) (padded 4 (date_of d).year ++ (padded 2 (date_of d).month ++ (padded 2 (date_of d).day ++ (84 ∷ []))))
unfolding ten_to
date_written d l h =
    let i = date_is d in
    let y : (date_of d).year ≤ 9999 = year_high d h in
    let m : month_length (leap (date_of d).year) (date_of d).month ≤ 31 = at_most_31 (leap (date_of d).year) (date_of d).month i.month_high in
    follows (padded 4 (date_of d).year) _ (padded_field 4 first_year 9999 (date_of d).year (omega arith) (omega (arith, year_low d l)) y)
    (follows (padded 2 (date_of d).month) _ (two_digits 1 12 (date_of d).month i.month_low i.month_high (omega arith))
    (follows (padded 2 (date_of d).day) _
    (two_digits 1 (month_length (leap (date_of d).year) (date_of d).month) (date_of d).day i.day_low (omega arith) (omega arith))
    (letter 84)))

-- hours, minutes and seconds make the second of the day
day_second : (s : ℕ) → s / 86400 * 86400 + clock_seconds (clock_of s) ≡ s
day_second s =
    let a : s % 3600 / 60 * 60 + s % 60 ≡ s % 3600 = omega arith in
    let b : s % 86400 / 3600 * 3600 + s % 3600 ≡ s % 86400 = omega arith in
    let c : s / 86400 * 86400 + s % 86400 ≡ s = omega arith in
    omega arith

-- the sixteen bytes
moment_is : (t : ℕ) → t ≡ moment_of (both (date_read (day_of (second t))) (clock_of (second t)))
moment_is t = rw (day_of_its_date (day_of (second t)), day_second (second t)) (omega arith)

pub moment_written : (t : ℕ) → t ≤ last_instant → Moment t (moment_text t)
unfolding moment_text
moment_written t h =
    let d : ℕ = day_of (second t) in
    record {
      from = both (date_read (day_of (second t))) (clock_of (second t));
      spelled = record {
        xs = padded 4 (date_of d).year ++ (padded 2 (date_of d).month ++ (padded 2 (date_of d).day ++ (84 ∷ [])));
        ys = padded 2 (hour_of (second t)) ++ (padded 2 (minute_of (second t)) ++ (padded 2 (second_of (second t)) ++ (90 ∷ [])));
        left = date_written (day_of (second t)) (omega arith) (omega arith);
        right = time_written (second t);
        whole = simp append_assoc;
      };
      turned = moment_is t;
    }

pub moment_length : (t : ℕ) → length (moment_text t) ≡ 16
unfolding moment_text
moment_length t = simp length-append
