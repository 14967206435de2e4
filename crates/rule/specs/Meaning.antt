-- What follows from the meaning: claims about days, candidates, periods and moves. proofs/ has a proof of each, under the same name in small letters.
-- Assumes nothing.
use Rattle.std.specs.Prelude.{ℕ, zero, suc, ◌+◌, ◌-◌, ◌*◌, ◌%◌, min, max, ◌≤◌, ◌<◌, ◌≡◌, ◌⊎◌, ◌↔◌, true, false, List, [], ◌∷◌, eqb, if◌then◌else◌}
use Rattle.calendar.specs.Calendar.{new_year, weekday}
use Rattle.machine.specs.Rising.{◌∈◌}
use Rattle.machine.specs.Given.{Move, Move.To, Move.NoTick, Move.Range}
use Rattle.rule.specs.declared.rrule.Frequency.{Frequency}
use Rattle.rule.specs.declared.rrule.Rule.{Rule}
use Rattle.rule.specs.Instants.{second, last_instant, range_end, day_of}
use Rattle.rule.specs.Days.{week1, week_year, nth_of, nth_from_end}
use Rattle.rule.specs.Periods.{Period, period_after, period, in_range}
use Rattle.rule.specs.Candidates.{Candidate, candidates, Kept, kept}
use Rattle.rule.specs.Moves.{tick_in, fine, Least, Moves, move}

-- strictly rising, from low on
abbrev pub RisesFrom : ℕ → List ℕ → Type 0
RisesFrom low [] = Unit {0}
RisesFrom low (x ∷ xs) = (low ≤ x) × RisesFrom (suc x) xs

-- the list rises strictly, and holds s exactly where P s; so it is the only such list
abbrev pub Exactly : (ℕ → Type 0) → List ℕ → Type 0
Exactly P xs = RisesFrom 0 xs × ((s : ℕ) → (s ∈ xs) ↔ P s)

abbrev pub OneList : Type 1
OneList = (P : ℕ → Type 0) (xs ys : List ℕ) → Exactly P xs → Exactly P ys → xs ≡ ys

-- The candidates of a period are the seconds that lie in it and whose day and time pass, rising; of every record, a bad one too.
abbrev pub CandidatesAre : Type 0
CandidatesAre = (r : Rule) (k : ℕ) → Exactly (Candidate r k) (candidates r k)

-- The kept candidates are those that some position chooses, or all where BYSETPOS is empty: in order, each once.
abbrev pub KeptAre : Type 0
KeptAre = (r : Rule) (k : ℕ) → Exactly (Kept r k) (kept r k)

-- Week 1 of the year y is the first week, from the weekday w on, with four or more days in the year.
abbrev pub days_in_year : ℕ → ℕ → ℕ
days_in_year y b = min (b + 7) (new_year (y + 1)) - max b (new_year y)

abbrev pub WeekOneIs : Type 0
WeekOneIs = (w y : ℕ) → w ≤ 6 → 2 ≤ y → Least (λ b. (weekday b ≡ w) × (4 ≤ days_in_year y b)) (week1 w y)

-- A day's own week year is the one that it lies in: from its week 1 up to week 1 of the next.
abbrev pub WeekYearIs : Type 0
WeekYearIs = (w y d : ℕ) → w ≤ 6 → 3 ≤ y → new_year y ≤ d → d < new_year (y + 1) → (week1 w (week_year w y d) ≤ d) × (d < week1 w (week_year w y d + 1))

-- how many of the n days from the day a on have the weekday w
unfoldable pub weekdays_from : ℕ → ℕ → ℕ → ℕ
weekdays_from a w zero = 0
weekdays_from a w (suc n) = (if eqb (weekday (a + n)) w then 1 else 0) + weekdays_from a w n

-- The day at place p of a span that begins on the day a is the nth with its weekday: so many of the span's days up to it have it.
abbrev pub NthIs : Type 0
NthIs = (a p : ℕ) → 1 ≤ p → nth_of p ≡ weekdays_from a (weekday (a + p - 1)) p

-- From the end of a span of n days: so many of the days from it on have its weekday.
abbrev pub NthFromEndIs : Type 0
NthFromEndIs = (a p n : ℕ) → 1 ≤ p → p ≤ n → nth_from_end p n ≡ weekdays_from (a + p - 1) (weekday (a + p - 1)) (n + 1 - p)

-- Period j lies wholly before period k where j is below k.
abbrev pub PeriodsInOrder : Type 0
PeriodsInOrder = (r : Rule) → 1 ≤ r.interval → (j k : ℕ) → j < k → (period r j).ends ≤ (period r k).begins

-- Period 0 holds the start, where that is in range.
abbrev pub StartInPeriod : Type 0
StartInPeriod = (r : Rule) → r.wkst ≤ 6 → r.start ≤ last_instant → ((period r 0).begins ≤ second r.start) × (second r.start < (period r 0).ends)

-- A week is whole: it begins at midnight of the week start's weekday, and has seven days where the end of 9999 doesn't cut it.
abbrev pub WholeWeek : Type 0
WholeWeek = (r : Rule) → r.freq ≡ Frequency.Weekly → r.wkst ≤ 6 → (k : ℕ)
    → ((period r k).begins % 86400 ≡ 0)
    × (weekday (day_of (period r k).begins) ≡ r.wkst)
    × ((period r k).begins + 7 * 86400 ≤ range_end * 86400 → (period r k).ends ≡ (period r k).begins + 7 * 86400)

-- There are no gaps: with INTERVAL 1 period k ends where k + 1 begins, as far as the range goes.
abbrev pub PeriodsMeet : Type 0
PeriodsMeet = (r : Rule) → r.interval ≡ 1 → (k : ℕ) → in_range r (k + 1) ≡ true → (period r k).ends ≡ (period r (k + 1)).begins

-- The second s lies in a period.
abbrev pub Within : Period → ℕ → Type 0
Within p s = (p.begins ≤ s) × (s < p.ends)

-- Every second in range from the start on lies in the period some n units after the start's; where n is k times INTERVAL that is period k.
abbrev pub PeriodHolds : Type 0
PeriodHolds =
    (r : Rule) → r.wkst ≤ 6 → (s : ℕ) → second r.start ≤ s → s < range_end * 86400
    → (n : ℕ) × Within (period_after r.freq r.wkst (second r.start) n) s

-- No second lies in two periods.
abbrev pub OnePeriod : Type 0
OnePeriod = (r : Rule) → 1 ≤ r.interval → (s j k : ℕ) → Within (period r j) s → Within (period r k) s → j ≡ k

-- Down to DAILY a move is to k + 1.
abbrev pub MovesByOne : Type 0
MovesByOne = (r : Rule) (k : ℕ) → fine r ≡ false → move r k ≡ (if in_range r (k + 1) then To (k + 1) else Range)

-- NoTick exactly when no tick of the cycle passes, whatever k is and however far the calendar runs.
abbrev pub NoTickIs : Type 0
NoTickIs = (r : Rule) → 1 ≤ r.interval → (k : ℕ) → (move r k ≡ NoTick) ↔ ((fine r ≡ true) × ((j : ℕ) → tick_in r j ≡ false))

-- The computed move is the move in words, and there is one alone.
abbrev pub MoveIs : Type 0
MoveIs = (r : Rule) → 1 ≤ r.interval → (k : ℕ) → Moves r k (move r k)

abbrev pub OneMove : Type 0
OneMove = (r : Rule) (k : ℕ) (a b : Move) → Moves r k a → Moves r k b → a ≡ b

-- What a move passes over has no candidate, and after an end none is left in range.
abbrev pub NothingSkipped : Type 0
NothingSkipped = (r : Rule) → 1 ≤ r.interval → (k k' : ℕ) → move r k ≡ To k' → (j : ℕ) → k < j → j < k' → candidates r j ≡ []

abbrev pub NothingLeft : Type 0
NothingLeft = (r : Rule) → 1 ≤ r.interval → (k : ℕ) → (move r k ≡ NoTick) ⊎ (move r k ≡ Range) → (j s : ℕ) → k < j → s ∈ candidates r j → range_end * 86400 ≤ s
