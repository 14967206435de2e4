-- The byte at a place of a text, and an entry of a list from its size and its sign.
-- Assumes nothing.
use Rattle.std.specs.Prelude.{ℕ, ◌≤◌, ◌<◌, Bool, false, List, [], ◌∷◌, length, get_or, ℤ, pos, if◌then◌else◌, Result, Ok, Err}
use Rattle.recur.specs.declared.Symbol.{Symbol}
use Rattle.recur.specs.Grammar.{below}

-- there is a first byte, and it passes a test
unfoldable pub passes : (ℕ → Bool) → List ℕ → Bool
passes test [] = false
passes test (b ∷ t) = test b

-- a digit stands at a place
pub record DigitAt (t : List ℕ) (i : ℕ) : Type 0 where
  pub inside : i < length t
  pub least : 48 ≤ get_or t i 0
  pub most : get_or t i 0 ≤ 57

-- an entry from its size, with a minus or without
unfoldable pub entry_of : Bool → Result (Symbol ℕ) ℕ → Result (Symbol ℤ) ℕ
entry_of negative (Ok k) = Ok (record { place = k.place; value = if negative then below k.value else pos k.value })
entry_of negative (Err place) = Err place
