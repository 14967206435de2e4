-- What is claimed of a period that is opened: its kept candidates are the rule's own. proofs/Opened has the proof.
-- Assumes nothing.
use Rattle.std.specs.Prelude.{ℕ, ◌-◌, ◌*◌, ◌≤◌, ◌<◌, ◌≡◌, Bool, true, false, not, List, length, ltb}
use Rattle.std.proofs.lemmas.List.Edits.{sets}
use Rattle.calendar.specs.Calendar.{new_year}
use Rattle.machine.specs.declared.Cursor.{Cursor}
use Rattle.machine.specs.Cursors.{poised}
use Rattle.rule.specs.declared.rrule.Rule.{Rule}
use Rattle.rule.specs.Lists.{is_empty}
use Rattle.rule.specs.Days.{day_passes}
use Rattle.rule.specs.Periods.{in_range}
use Rattle.rule.specs.Candidates.{kept}
use Rattle.rule.specs.Moves.{day_in, fine, ticks}
use Rattle.rule.specs.Records.{yielded}
use Rattle.rule.specs.Run.{periods}
use Rattle.stretches.specs.declared.counter_date.Days.{Days}
use Rattle.periods.specs.Counters.{counter_at}
use Rattle.stretches.specs.Stretches.{days_in}
use Rattle.clocks.specs.Clocks.{clock_in, sets_in}
use Rattle.days.specs.Filters.{rule_lists}
use Rattle.days.specs.DaySets.{day_set}
use Rattle.years.specs.Info.{asked_of, rule_info}
use Rattle.walks.specs.Walks.{Framed, Timely, tabled}
use Rattle.opening.specs.declared.period.Period.{Period}
use Rattle.fitting.specs.Fitting.{is_fit}
use Rattle.units.specs.Years.{is_in_year}
use Rattle.opening.specs.Opening.{second_kept, period_by, chosen_by}
use Rattle.plans.specs.Plans.{bounds_of, shape_of}

-- the days of period k
abbrev pub span_of : Rule → ℕ → Days
span_of r k = days_in r.freq (counter_at r k).number

-- those of them that pass, as places in the year y
abbrev pub day_set_of : Rule → (k y : ℕ) → List ℕ
day_set_of r k y =
    day_set (asked_of r) (rule_info r y) (rule_lists r) ((span_of r k).from - new_year y) ((span_of r k).to - new_year y)

abbrev pub is_positioned : Rule → Bool
is_positioned r = not (is_empty r.bysetpos)

-- period k in that year
abbrev pub period_in : Rule → (k y : ℕ) → Period
period_in r k y = period_by (shape_of r) (new_year y) (length (day_set_of r k y)) (counter_at r k).tick (clock_in r) r.bysetpos

-- what stands in the slots for days and for places then
abbrev pub days_over : Rule → (k y : ℕ) → List ℕ → List ℕ
days_over r k y slots = sets slots 0 (day_set_of r k y)

abbrev pub places_over : Rule → (k y : ℕ) → List ℕ → List ℕ
places_over r k y slots = chosen_by (shape_of r) (new_year y) (length (day_set_of r k y)) (counter_at r k).tick (clock_in r) r.bysetpos slots

-- what a walk asks of a period: its frame's numbers are small, its times lie in a day, and as many are kept as it says
pub record Sound (positioned : Bool) (p : Period) (lists : List ℕ) : Type 0 where
  pub framed : Framed p.frame
  pub timely : Timely p.frame lists
  pub kept_all : positioned ≡ false → p.kept ≡ p.frame.days * p.frame.times
  pub kept_high : positioned ≡ true → p.kept ≤ 732

-- Period k, opened in the year y, with 373 slots for days and 732 for places.
pub record Opened (r : Rule) (k y : ℕ) (days places : List ℕ) : Type 0 where
  -- the kept candidates, by number
  pub kept_are_tabled : kept r k
      ≡ tabled (second_kept (is_positioned r) (period_in r k y).frame (days_over r k y days) (sets_in r).lists (places_over r k y places)) 0 (period_in r k y).kept
  pub kept_length : length (kept r k) ≡ (period_in r k y).kept
  pub sound : Sound (is_positioned r) (period_in r k y) (sets_in r).lists
  pub tick_below : (counter_at r k).tick < ticks r.freq
  -- the slots are as many as before
  pub days_length : length (days_over r k y days) ≡ 373
  pub places_length : length (places_over r k y places) ≡ 732
  -- below DAILY a period has one day, which passes where there are days
  pub day_passes_lem : fine r ≡ true → day_passes r (day_in r k) ≡ ltb 0 (period_in r k y).frame.days
  -- a cursor that stands there fits exactly where it is well formed
  pub fit_is : 1 ≤ r.interval → (c : Cursor) → c.k ≡ k
      → is_fit (shape_of r) (span_of r k) (counter_at r k).tick (bounds_of r) (period_in r k y) c (days_over r k y days) (sets_in r).lists (places_over r k y places)
      ≡ poised (periods r) c

abbrev pub OpenedIs : Type 0
OpenedIs = (r : Rule) → yielded r ≡ true → (k : ℕ) → in_range r k ≡ true → (y : ℕ) → is_in_year (rule_info r y).year (span_of r k).from ≡ true
    → (days places : List ℕ) → length days ≡ 373 → length places ≡ 732 → Opened r k y days places
