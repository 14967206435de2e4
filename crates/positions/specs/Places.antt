-- The places of the candidates that BYSETPOS keeps, and how they stand in a buffer.
-- Assumes nothing.
use Rattle.std.specs.Prelude.{ℕ, zero, suc, ◌+◌, ◌-◌, Bool, List, [], ◌∷◌}
use Rattle.rule.specs.Candidates.{chosen}

-- n numbers from i on: i, i + 1, ..
unfoldable pub up_from : ℕ → ℕ → List ℕ
up_from zero i = []
up_from (suc n) i = i ∷ up_from n (i + 1)

-- Of n candidates, with places from 0 on, the places that the positions s choose.
unfoldable pub kept_places : List Bool → ℕ → List ℕ
unfolding chosen up_from
kept_places s n = chosen s n 0 (up_from n 0)

-- those of them from one place on, up to another
unfoldable pub kept_within : List Bool → ℕ → ℕ → ℕ → List ℕ
unfolding chosen up_from
kept_within s n from to = chosen s n from (up_from (to - from) from)

-- A list written over a buffer, from its first slot on: the slots behind are left, and what has no slot is lost (Claims, OverIs).
unfoldable pub over : List ℕ → List ℕ → List ℕ
over [] slots = slots
over (x ∷ xs) [] = []
over (x ∷ xs) (b ∷ slots) = x ∷ over xs slots
