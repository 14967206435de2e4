-- How the scan goes, step by step: a name and its place, then the value behind it, then a semicolon and the next part.
-- Assumes nothing.
use Rattle.std.specs.Prelude.{if◌then◌else◌}
use Prim.Native.Nat.{ℕ, zero, suc, ◌+◌}
use mathlib.Core.Path.{◌≡◌, refl, ap}
use mathlib.Core.Bool.{Bool, true, false}
use mathlib.Core.List.{List}
use lib.ListN.{set}
use Rattle.symbols.specs.Languages.{both}
use Rattle.symbols.specs.Takes.{Took, took}
use Rattle.symbols.specs.Readers.{word, with_first, followed, behind, goes_on}
use Rattle.recur.specs.Grammar.{names, absent, Part, kind_of, semicolon}
use Rattle.recur.specs.Reading.{value_at, part_at}
use Rattle.recur.specs.Places.{used_by, placed, places_at}

-- ---- one part

-- the value is read behind the name
abbrev pub behind_name : Took ℕ → Took Part
behind_name k = with_first k.value (value_at (kind_of k.value) k.place k.rest)

-- without a whole name there is no value
abbrev pub name_alone : Took ℕ → Took Part
name_alone k = took false k.place k.rest (both k.value absent)

module _ (seen : List Bool) (at : ℕ) (t : List ℕ) where
  abbrev part_by : Bool → Took Part
  part_by true = behind_name (word names seen at t)
  part_by false = name_alone (word names seen at t)

  -- where the name is whole, the part comes to what its value does
  pub part_whole : (word names seen at t).whole ≡ true → part_at seen at t ≡ behind_name (word names seen at t)
  unfolding part_at followed
  part_whole e = ap part_by e

  -- where it isn't, the part stops where the name does, and isn't whole
  pub part_stopped : (word names seen at t).whole ≡ false → part_at seen at t ≡ name_alone (word names seen at t)
  unfolding part_at followed
  part_stopped e = ap part_by e

-- ---- where the values stand

-- a whole name has its place from then on, and no other changes anything
pub placed_whole : (places : List ℕ) (k : Took ℕ) → k.whole ≡ true → placed places k ≡ set places k.value k.place
placed_whole places k e = ap (λ (x : Bool). if x then set places k.value k.place else places) e

pub placed_stopped : (places : List ℕ) (k : Took ℕ) → k.whole ≡ false → placed places k ≡ places
placed_stopped places k e = ap (λ (x : Bool). if x then set places k.value k.place else places) e

module _ (n : ℕ) (places : List ℕ) (at : ℕ) (t : List ℕ) where
  abbrev places_by : Bool → List ℕ
  places_by true =
      places_at n (placed places (word names (used_by places) at t)) ((part_at (used_by places) at t).place + 1) (behind (part_at (used_by places) at t).rest)
  places_by false = placed places (word names (used_by places) at t)

  -- the places go on behind a semicolon that follows a whole part, and end elsewhere
  pub places_on : goes_on semicolon (part_at (used_by places) at t) ≡ true
      → places_at (suc n) places at t
      ≡ places_at n (placed places (word names (used_by places) at t)) ((part_at (used_by places) at t).place + 1) (behind (part_at (used_by places) at t).rest)
  unfolding places_at
  places_on e = ap places_by e

  pub places_off : goes_on semicolon (part_at (used_by places) at t) ≡ false → places_at (suc n) places at t ≡ placed places (word names (used_by places) at t)
  unfolding places_at
  places_off e = ap places_by e

  pub places_last : places_at zero places at t ≡ placed places (word names (used_by places) at t)
  unfolding places_at
  places_last = refl
