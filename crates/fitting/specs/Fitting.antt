-- Whether a running cursor fits its period: the parts of the test whether it is well formed.
-- Assumes nothing.
use Rattle.std.specs.Prelude.{ℕ, ◌+◌, ◌-◌, ◌*◌, ◌/◌, Bool, ◌&&◌, ◌||◌, List, get_or, leb, ltb, if◌then◌else◌}
use Rattle.machine.specs.declared.Cursor.{Cursor}
use Rattle.machine.specs.Given.{below}
use Rattle.rule.specs.declared.rrule.Frequency.{Frequency}
use Rattle.rule.specs.Moves.{ticks}
use Rattle.rule.specs.Run.{count_of}
use Rattle.stretches.specs.declared.counter_date.Days.{Days}
use Rattle.walks.specs.declared.rrule_iter.Bounds.{Bounds}
use Rattle.walks.specs.Walks.{candidate_at}
use Rattle.plans.specs.declared.plan.Shape.{Shape}
use Rattle.opening.specs.declared.period.Period.{Period}

-- the first second after a period with this tick, whose days end before the day `to`
abbrev pub period_end : Frequency → (to tick : ℕ) → ℕ
period_end freq to tick = (to - 1) * 86400 + (tick + 1) * (86400 / ticks freq)

-- the same of any numbers: 0 where they are far out of range
unfoldable pub end_in : Frequency → (to tick : ℕ) → ℕ
end_in freq to tick = if leb 4194304 to || leb 86400 tick then 0 else period_end freq to tick

-- the candidate that is kept number i, with positions or without
abbrev pub candidate_of : Bool → (places : List ℕ) → ℕ → ℕ
candidate_of positioned places i = if positioned then get_or places i 0 else i

-- kept number i, or the first second after the period where there is none such
unfoldable pub next_of : Bool → Period → (end i : ℕ) → (days lists places : List ℕ) → ℕ
unfolding candidate_at
next_of positioned p end i days lists places =
    if ltb i p.kept then candidate_at p.frame days lists (candidate_of positioned places i) else end

-- A cursor's place is at most the kept candidates, and its number is below COUNT where given and never above the seconds from the start to
-- the next kept candidate, or to the first second after the period if none remains.
unfoldable pub fits_period : Bool → Bounds → Period → (end : ℕ) → Cursor → (days lists places : List ℕ) → Bool
unfolding next_of
fits_period positioned b p end c days lists places =
    leb c.place p.kept
    && (below (count_of b.count) c.number
    && leb c.number (next_of positioned p end c.place days lists places - b.start))

unfoldable pub is_fit : Shape → Days → (tick : ℕ) → Bounds → Period → Cursor → (days lists places : List ℕ) → Bool
unfolding fits_period end_in
is_fit s span tick b p c days lists places =
    fits_period s.positioned b p (end_in s.freq span.to tick) c days lists places
