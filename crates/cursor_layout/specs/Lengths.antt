-- Bytes of any length: only those of the length that is asked for are read or written.
-- Assumes nothing.
use Rattle.std.specs.Prelude.{ℕ, Bool, true, false, List, [], eqb, length, if◌then◌else◌}

-- what is read: bytes of another length count as none
unfoldable pub of_length : ℕ → List ℕ → List ℕ
of_length n bytes = if eqb (length bytes) n then bytes else []

-- whether something is written to bytes, and what then stands there
pub record Put : Type 0 where
  pub written : Bool
  pub bytes : List ℕ

abbrev pub put : Bool → List ℕ → Put
put written bytes = record { written = written; bytes = bytes }

-- n bytes are written to n bytes; any others are left as they were
unfoldable pub put_to : ℕ → (encoded bytes : List ℕ) → Put
put_to n encoded bytes = if eqb (length bytes) n then put true encoded else put false bytes
