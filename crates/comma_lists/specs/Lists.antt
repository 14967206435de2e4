-- Lists, by the reader of their entries.
-- Assumes nothing.
use Rattle.std.specs.Prelude.{ℕ, ◌≤◌, ◌≡◌, List, length, drop, ℤ}
use Rattle.symbols.specs.Takes.{Took}
use Rattle.symbols.specs.Readers.{turned, joined}
use Rattle.recur.specs.Grammar.{comma, stays, nth_of}
use Rattle.recur.specs.Reading.{day_at}

-- a reader that began at a place of a text and stopped at another
pub record Within {A : Type 0} (t : List ℕ) (at : ℕ) (k : Took A) : Type 0 where
  pub rest : k.rest ≡ drop k.place t
  pub from : at ≤ k.place
  pub to : k.place ≤ length t

-- entries joined by commas, n more at most behind the first
unfoldable pub list_of : {A : Type 0} → (ℕ → List ℕ → Took A) → ℕ → ℕ → List ℕ → Took (List A)
list_of take n = joined (λ (u : Unit {0}). take) stays comma n tt

-- a day's number alone
abbrev pub nth_of_day : ℕ → List ℕ → Took ℤ
nth_of_day = turned nth_of day_at
