-- The periods before request 2026-02, whose week period 0 begins on the start's own day, and what of them stays. Nothing but the claims below
-- leans on them.
-- Assumes nothing.
use Rattle.std.specs.Prelude.{ℕ, zero, suc, ◌+◌, ◌-◌, ◌*◌, ◌/◌, min, ◌≤◌, ◌<◌, ◌≡◌, ◌↔◌, true, List, length, get_or}
use Rattle.calendar.specs.declared.utils.Date.{Date}
use Rattle.calendar.specs.Calendar.{year_of, date_of}
use Rattle.rule.specs.declared.rrule.Frequency.{Frequency}
use Rattle.rule.specs.declared.rrule.Rule.{Rule}
use Rattle.rule.specs.Instants.{second, last_instant, range_end, day_of}
use Rattle.rule.specs.Lists.{is_empty}
use Rattle.rule.specs.Days.{week_of}
use Rattle.rule.specs.Periods.{Period, of_days, year, month, unit, period}
use Rattle.rule.specs.Candidates.{candidates_of, Chosen}
use Rattle.rule.specs.Satisfies.{NotAfter, Satisfies}

-- Week period 0 begins on the start's own day d and ends with the start's calendar week, which begins on the day w.
abbrev pub week_from_start : ℕ → ℕ → ℕ → Period
week_from_start d w zero = of_days d (min (w + 7) range_end)
week_from_start d w (suc n) = of_days (w + 7 * suc n) (min (w + 7 * suc n + 7) range_end)

unfoldable pub period_after_from_start : Frequency → ℕ → ℕ → ℕ → Period
unfolding date_of year_of month
period_after_from_start Frequency.Yearly wkst s n = year (year_of (day_of s) + n)
period_after_from_start Frequency.Monthly wkst s n = let date : Date = date_of (day_of s) in month (12 * date.year + (date.month - 1) + n)
period_after_from_start Frequency.Weekly wkst s n = week_from_start (day_of s) (week_of wkst (day_of s)) n
period_after_from_start Frequency.Daily wkst s n = unit 86400 (s / 86400 + n)
period_after_from_start Frequency.Hourly wkst s n = unit 3600 (s / 3600 + n)
period_after_from_start Frequency.Minutely wkst s n = unit 60 (s / 60 + n)
period_after_from_start Frequency.Secondly wkst s n = unit 1 (s + n)

unfoldable pub period_from_start : Rule → ℕ → Period
unfolding period_after_from_start
period_from_start r k = period_after_from_start r.freq r.wkst (second r.start) (k * r.interval)

-- candidates, kept candidates and satisfying instants, in the words of specs/Candidates and specs/Satisfies
unfoldable pub candidates_from_start : Rule → ℕ → List ℕ
unfolding candidates_of period_from_start
candidates_from_start r k = candidates_of r (period_from_start r k)

pub record KeptFromStart (r : Rule) (k s : ℕ) : Type 0 where
  pub j : ℕ
  pub below : j < length (candidates_from_start r k)
  pub is_s : get_or (candidates_from_start r k) j 0 ≡ s
  pub choice : Chosen r.bysetpos (length (candidates_from_start r k)) j

pub record SatisfiesFromStart (r : Rule) (t : ℕ) : Type 0 where
  pub instant : t ≤ last_instant
  pub k : ℕ
  pub kept : KeptFromStart r k (second t)
  pub from_start : r.start ≤ t
  pub to_until : NotAfter r.until t

-- A rule without BYSETPOS has the same satisfying instants.
abbrev pub InstantsStay : Type 0
InstantsStay = (r : Rule) → is_empty r.bysetpos ≡ true → (t : ℕ) → Satisfies r t ↔ SatisfiesFromStart r t

-- A rule that isn't WEEKLY has the same periods; so has one whose start's day is the first of its week.
abbrev pub PeriodsStay : Type 0
PeriodsStay = (r : Rule)
    → (r.freq ≡ Frequency.Weekly → week_of r.wkst (day_of (second r.start)) ≡ day_of (second r.start))
    → (k : ℕ) → period r k ≡ period_from_start r k

-- Of every rule all periods but the start's own are the same, and that one ends as it did.
abbrev pub LaterPeriodsStay : Type 0
LaterPeriodsStay = (r : Rule) (k : ℕ) → 1 ≤ k * r.interval → period r k ≡ period_from_start r k

abbrev pub EndsStay : Type 0
EndsStay = (r : Rule) (k : ℕ) → (period r k).ends ≡ (period_from_start r k).ends
