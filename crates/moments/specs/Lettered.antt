-- What a date and a time end with: two digits and a letter.
-- Assumes nothing.
use Rattle.std.specs.Prelude.{ℕ, List}
use Rattle.symbols.specs.Languages.{Both}
use Rattle.symbols.specs.Takes.{Took}
use Rattle.symbols.specs.Readers.{followed, turned}
use Rattle.recur.specs.Reading.{letter_at, field_at}

-- a number from low to high with a letter behind it: the number
abbrev pub lettered_at : ℕ → ℕ → ℕ → ℕ → List ℕ → Took ℕ
lettered_at low high letter = turned (λ (v : Both ℕ ℕ). v.first) (followed (field_at 2 low high) (λ (n : ℕ). letter_at letter) 0)
