-- What is read at the places that the scan finds: the value of each kind at its place, and the rule of fourteen of them.
-- Assumes nothing.
use Rattle.std.specs.Prelude.{ℕ, zero, suc, ◌≤◌, ◌<◌, ◌≡◌, true, List, length, get_or, drop}
use Rattle.rule.specs.Raw.{RawLists, Raw}
use Rattle.recur.specs.Grammar.{Value, absent, Kind, kind_of, rule_by}
use Rattle.recur.specs.Reading.{value_at}

-- a value of a kind that stands at a place; none stands at 0
unfoldable pub value_by : Kind → ℕ → List ℕ → Value
value_by k zero t = absent
value_by k (suc p) t = (value_at k (suc p) (drop (suc p) t)).value

-- the place is within the text, and a value that stands there is whole
pub record Standing (k : Kind) (place : ℕ) (t : List ℕ) : Type 0 where
  pub within : place ≤ length t
  pub is_whole : 0 < place → (value_at k place (drop place t)).whole ≡ true

-- so are all fourteen
pub record AllStanding (places : List ℕ) (t : List ℕ) : Type 0 where
  pub each : (i : ℕ) → i < 14 → Standing (kind_of i) (get_or places i 0) t

-- the rule of the values at the places
unfoldable pub rule_at : List ℕ → List ℕ → Raw
unfolding rule_by
rule_at places t = rule_by (λ i. value_by (kind_of i) (get_or places i 0) t)

abbrev pub lists_at : List ℕ → List ℕ → RawLists
lists_at places t = (rule_at places t).lists
