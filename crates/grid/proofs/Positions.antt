-- The places of kept candidates at the ends of the positions, by computing them.
-- Assumes nothing.
use mathlib.Core.Path.{refl}
use Rattle.rule.specs.Lists.{set_of, is_in, flags, some_at, slot_of}
use Rattle.rule.specs.Days.{either_end}
use Rattle.rule.specs.Candidates.{chosen}
use Rattle.positions.specs.Places.{up_from, kept_places}
use Rattle.positions.specs.Cases.{CasesHold, far_cases}

pub far_cases_hold : CasesHold far_cases
unfolding kept_places chosen up_from either_end is_in slot_of set_of flags some_at
far_cases_hold = refl
