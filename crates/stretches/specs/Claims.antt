-- What is claimed of the days of a period; proofs/ has a proof of each claim, under the same name in small letters.
-- Assumes nothing.
use Rattle.std.specs.Prelude.{ℕ, ◌+◌, ◌/◌, ◌≡◌, true}
use Rattle.rule.specs.declared.rrule.Rule.{Rule}
use Rattle.rule.specs.Instants.{day_of}
use Rattle.rule.specs.Periods.{period, in_range}
use Rattle.periods.specs.Counters.{counter_at}
use Rattle.stretches.specs.Stretches.{days_at, days_in}

-- The days of a period go from the one on which it begins up to the first that it has no second of.
abbrev pub FirstDayIs : Type 0
FirstDayIs = (r : Rule) (k : ℕ) → day_of (period r k).begins ≡ (days_at r.freq (counter_at r k).number).from

abbrev pub LastDayIs : Type 0
LastDayIs = (r : Rule) (k : ℕ) → ((period r k).ends + 86399) / 86400 ≡ (days_at r.freq (counter_at r k).number).to

-- The same of the days that are told of a period in range.
abbrev pub DaysOfPeriod : Type 0
DaysOfPeriod = (r : Rule) (k : ℕ) → in_range r k ≡ true
    → days_in r.freq (counter_at r k).number
    ≡ record { from = day_of (period r k).begins; to = ((period r k).ends + 86399) / 86400 }
