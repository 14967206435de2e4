-- What the functions promise one another: the best match with a word more, and with several.
-- Assumes nothing.
use Rattle.std.specs.Prelude.{ℕ, ◌+◌, ◌≤◌, ◌≡◌, Bool, List, length, drop, ltb, None}
use Rattle.symbols.specs.declared.Best.{Best}
use Rattle.symbols.specs.Languages.{pick}
use Rattle.symbols.specs.Readers.{common, best, has_word, better, choose}

-- a word more, unless it is used up: its value then has a place above 0
unfoldable pub offer_word : ℕ → ℕ → List ℕ → List ℕ → Best → Best
offer_word i place w t k = pick (has_word k) k (pick (ltb 0 place) k (better (common w t) (length w) i k))

-- how many bytes of a word begin the text from a place on, and that they lie within the text
pub record InCommon (w text : List ℕ) (at r : ℕ) : Type 0 where
  pub is : r ≡ common w (drop at text)
  pub within : at + r ≤ length text

-- the best match with a word more, and that it lies within the text
pub record Offered (k : Best) (i place : ℕ) (w text : List ℕ) (at : ℕ) (r : Best) : Type 0 where
  pub is : r ≡ offer_word i place w (drop at text) k
  pub within : at + r.count ≤ length text

-- the same with all words of a table
pub record Chosen (words : List (List ℕ)) (seen : List Bool) (text : List ℕ) (at : ℕ) (r : Best) : Type 0 where
  pub is : r ≡ choose words seen (length words) 0 (best None 0) (drop at text)
  pub within : at + r.count ≤ length text
