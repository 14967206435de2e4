-- What every function that puts bytes into a text promises, and what it asks.
-- Assumes nothing.
use Rattle.std.specs.Prelude.{ℕ, ◌+◌, ◌≤◌, ◌≡◌, List, length}
use Rattle.std.proofs.lemmas.List.Edits.{sets}
use Rattle.puts.specs.declared.bytes.Text.{Text}

-- The bytes stand in the text from its place on, as far as it reaches; the next place is behind them, whether they fit or not.
pub record Puts (text : Text) (bytes : List ℕ) (left : Text) : Type 0 where
  pub stands : left.bytes.now ≡ sets text.bytes.now text.place bytes
  pub behind : left.place ≡ text.place + length bytes
  pub same_buffer : left.bytes.ghost_name ≡ text.bytes.ghost_name

-- The place behind the bytes is one that is counted to.
pub record Room (place : ℕ) (bytes : List ℕ) : Type 0 where
  pub fits : place + length bytes ≤ 65535
