-- The starred charts hold of the definitions together, and so do further cases.
-- Assumes nothing.
use mathlib.Core.Path.{◌≡◌, refl}
use mathlib.Core.List.{map}
use Rattle.calendar.specs.Calendar.{leap, new_year, days_before_month}
use Rattle.machine.specs.Run.{counted, at_candidate, move_on}
use Rattle.machine.specs.Compute.{walk, after, runs}
use Rattle.rule.specs.Charts.{Case, play, play_of, last_week}
use Rattle.starred.specs.Starred.{starred, further}

pub starred_charts : map play_of starred ≡ map (λ (c : Case). c.played) starred
unfolding play starred leap new_year days_before_month counted at_candidate move_on walk after runs
starred_charts = refl

pub further_cases : map play_of further ≡ map (λ (c : Case). c.played) further
unfolding play further last_week leap new_year days_before_month counted at_candidate move_on walk after runs
further_cases = refl
