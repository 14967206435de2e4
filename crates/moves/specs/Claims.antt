-- What is claimed of a move over counters; proofs/ has a proof of each claim, under the same name in small letters.
-- Assumes nothing.
use Rattle.std.specs.Prelude.{ℕ, ◌+◌, ◌≤◌, ◌<◌, ◌≡◌, Bool, true, false, List, get_or, ◌⊎◌, Ok, Err}
use Rattle.machine.specs.declared.Cause.{Cause}
use Rattle.machine.specs.Given.{Move, Move.To, Move.NoTick, Move.Range}
use Rattle.rule.specs.declared.rrule.Rule.{Rule}
use Rattle.rule.specs.Instants.{last_instant}
use Rattle.rule.specs.Days.{day_passes}
use Rattle.rule.specs.Times.{hour_passes, minute_passes, second_passes}
use Rattle.rule.specs.Periods.{in_range}
use Rattle.rule.specs.Moves.{day_in, move}
use Rattle.periods.specs.declared.counter_date.Counter.{Counter}
use Rattle.periods.specs.Counters.{counter_at}
use Rattle.moves.specs.Increments.{stands, incremented, reached_by}

-- the flags of the hours, minutes and seconds that pass, in a row of 144: minutes from 24 on, seconds from 84 on
pub record Flags (r : Rule) (clock : List Bool) : Type 0 where
  pub hours_are : (h : ℕ) → h < 24 → get_or clock h false ≡ hour_passes r h
  pub minutes_are : (m : ℕ) → m < 60 → get_or clock (24 + m) false ≡ minute_passes r m
  pub seconds_are : (s : ℕ) → s < 60 → get_or clock (84 + s) false ≡ second_passes r s

-- The counter of a period in range is one that a move starts from.
abbrev pub CounterStands : Type 0
CounterStands =
    (r : Rule) → 1 ≤ r.interval → r.start ≤ last_instant → (k : ℕ) → in_range r k ≡ true → stands r.freq r.interval (counter_at r k) ≡ true

-- From there the move over counters is the rule's own move, with the counter of the period that it goes to.
abbrev pub IncrementIsMove : Type 0
IncrementIsMove =
    (r : Rule) → 1 ≤ r.interval → r.start ≤ last_instant → (k : ℕ) → in_range r k ≡ true
    → (clock : List Bool) → Flags r clock
    → incremented r.freq r.interval (counter_at r k) (day_passes r (day_in r k)) clock ≡ reached_by r (move r k)

-- What was reached tells the move: a counter is that of the period which the move goes to, and its k is that period.
abbrev pub ReachedTo : Type 0
ReachedTo = (r : Rule) (v : Move) (c : Counter) → reached_by r v ≡ Ok c → (v ≡ To c.k) × (c ≡ counter_at r c.k)

abbrev pub ReachedNoTick : Type 0
ReachedNoTick = (r : Rule) (v : Move) → reached_by r v ≡ Err Cause.NoTick → v ≡ NoTick

abbrev pub ReachedRange : Type 0
ReachedRange = (r : Rule) (v : Move) → reached_by r v ≡ Err Cause.Range → v ≡ Range

-- A cause is told for no other move.
abbrev pub ReachedCause : Type 0
ReachedCause =
    (r : Rule) (v : Move) (cause : Cause) → reached_by r v ≡ Err cause
    → ((cause ≡ Cause.NoTick) × (v ≡ NoTick)) ⊎ ((cause ≡ Cause.Range) × (v ≡ Range))
