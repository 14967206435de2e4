-- A list in blocks: one list for each number that passes, all of one length. Number j of it stands in block j / t, at j % t.
-- Assumes nothing.
use Rattle.std.specs.Prelude.{ℕ, ◌+◌, ◌-◌, ◌/◌, Bool, List, [], ◌∷◌, ◌++◌}
use Rattle.rule.specs.declared.rrule.Rule.{Rule}
use Rattle.rule.specs.Instants.{day_of}
use Rattle.rule.specs.Days.{day_passes}
use Rattle.rule.specs.Periods.{Period}
use Rattle.rule.specs.Candidates.{gather, only}

-- a list for each number, in a row
unfoldable pub blocks : (ℕ → List ℕ) → List ℕ → List ℕ
blocks f [] = []
blocks f (x ∷ xs) = f x ++ blocks f xs

-- the numbers that pass a test, of n from i on, rising
unfoldable pub passing : (ℕ → Bool) → ℕ → ℕ → List ℕ
unfolding gather
passing p n i = gather (λ j. only (p j) (j ∷ [])) n i

-- the days of a period that pass, rising
unfoldable pub passing_days : Rule → Period → List ℕ
unfolding passing day_passes
passing_days r p = passing (day_passes r) ((p.ends + 86399) / 86400 - day_of p.begins) (day_of p.begins)
