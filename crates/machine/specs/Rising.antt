-- Members of a list, and lists that rise.
-- Assumes nothing.
use Rattle.std.specs.Prelude.{ℕ, suc, ◌≤◌, ◌≡◌, ◌⊎◌, List, [], ◌∷◌}

infix 50 ◌∈◌
-- s is one of the list
abbrev pub ◌∈◌ : ℕ → List ℕ → Type 0
s ∈ [] = ⊥
s ∈ (x ∷ xs) = (s ≡ x) ⊎ (s ∈ xs)

-- the list rises strictly, from low on and below high
abbrev pub Rises : ℕ → List ℕ → ℕ → Type 0
Rises low [] high = low ≤ high
Rises low (x ∷ xs) high = (low ≤ x) × Rises (suc x) xs high
