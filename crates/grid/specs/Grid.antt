-- How a case of the grid is held: the whole answer of a rule's calls, or the number of its refusal.
-- Assumes nothing.
use Rattle.std.specs.Prelude.{ℕ, ◌≡◌, List, [], map, Ok, Err}
use Rattle.calendar.specs.Calendar.{leap, new_year, days_before_month}
use Rattle.machine.specs.declared.State.{State}
use Rattle.machine.specs.declared.Stop.{Stop}
use Rattle.machine.specs.declared.Cursor.{Cursor}
use Rattle.machine.specs.Faults.{fault_number}
use Rattle.machine.specs.Run.{counted, at_candidate, move_on}
use Rattle.machine.specs.Compute.{walk, after, runs}
use Rattle.rule.specs.Refusals.{Verdict}
use Rattle.rule.specs.Filling.{Checked}
use Rattle.rule.specs.declared.rrule.Rule.{Rule}
use Rattle.rule.specs.Raw.{Raw}
use Rattle.rule.specs.Refusals.{refusal_number, verdict}
use Rattle.rule.specs.Filling.{checked}
use Rattle.rule.specs.Run.{run_of}
use Rattle.rule.specs.Charts.{Part, rule_of, Chart, Played, calls_of, play, Case, play_of}

-- a case from a fresh cursor
unfoldable pub holding : Case → Played
unfolding play rule_of leap new_year days_before_month counted at_candidate move_on walk after runs
holding c = play_of c

abbrev pub Holds : Case → Type 0
Holds c = holding c ≡ c.played

-- a case from this cursor
abbrev pub called_from : Cursor → Checked → List Chart → Played
called_from from (Err n) calls = record { verdict = Err n; answers = [] }
called_from from (Ok r) calls = record { verdict = Ok tt; answers = calls_of r from calls }

unfoldable pub holding_from : Cursor → Case → Played
unfolding checked calls_of rule_of leap new_year days_before_month counted at_candidate move_on walk after runs
holding_from from c = called_from from (checked c.raw) c.calls

abbrev pub HoldsFrom : State → (k place number : ℕ) → Case → Type 0
HoldsFrom state k place number c = holding_from (record { state = state; k = k; place = place; number = number }) c ≡ c.played

-- the number of the check's refusal, 0 where it accepts
abbrev pub number_in : Verdict → ℕ
number_in (Err n) = refusal_number n
number_in (Ok tt) = 0

pub record Judged : Type 0 where
  pub raw : Raw
  pub number : ℕ

abbrev pub gives : (number freq start : ℕ) → List Part → Judged
gives number freq start ps = record { raw = rule_of freq start ps; number = number }

unfoldable pub numbers : List Judged → List ℕ
unfolding verdict rule_of
numbers js = map (λ (j : Judged). number_in (verdict j.raw)) js

-- the number of a run's refusal, 0 where it isn't refused
abbrev pub number_at : Stop → ℕ
number_at (Stop.Refused fault) = fault_number fault
number_at Stop.Ended = 0
number_at Stop.More = 0
number_at Stop.Limited = 0

-- of a call with no room and no budget
unfoldable pub fault_of : Rule → State → (k place number : ℕ) → ℕ
unfolding run_of leap new_year days_before_month runs after walk
fault_of r state k place number = number_at (run_of r (record { state = state; k = k; place = place; number = number }) [] 0).answer.stop
