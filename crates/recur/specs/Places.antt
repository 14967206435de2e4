-- How the code reads a text: first where the value of each part stands, then the values there. A name that is open has the place 0, where no value stands.
-- Nothing but contracts leans on this.
-- Assumes nothing.
use Rattle.std.specs.Prelude.{ℕ, zero, suc, ◌+◌, ◌<◌, ◌≡◌, Bool, true, false, List, [], ◌∷◌, map, get_or, set, drop, ltb, if◌then◌else◌}
use Rattle.symbols.specs.Takes.{Took}
use Rattle.symbols.specs.Readers.{word, behind, goes_on}
use Rattle.recur.specs.Grammar.{names, none_used, Value, absent, kind_of, semicolon, value_in}
use Rattle.recur.specs.Reading.{value_at, part_at, parts_at}

abbrev pub used_by : List ℕ → List Bool
used_by places = map (ltb 0) places

unfoldable pub nowhere : ℕ → List ℕ
nowhere zero = []
nowhere (suc n) = 0 ∷ nowhere n

-- the value of a part stands behind its name
abbrev pub placed : List ℕ → Took ℕ → List ℕ
placed places k = if k.whole then set places k.value k.place else places

-- the places of the parts from a place on, n more at most behind the first
unfoldable pub places_at : ℕ → List ℕ → ℕ → List ℕ → List ℕ
unfolding part_at
places_at zero places at t = placed places (word names (used_by places) at t)
places_at (suc n) places at t =
    elim (goes_on semicolon (part_at (used_by places) at t)) [
      | true ↦ places_at n (placed places (word names (used_by places) at t))
          ((part_at (used_by places) at t).place + 1) (behind (part_at (used_by places) at t).rest)
      | false ↦ placed places (word names (used_by places) at t)
    ]

-- the value that stands at a place of a text
unfoldable pub value_from : ℕ → ℕ → List ℕ → Value
value_from i zero t = absent
value_from i (suc p) t = (value_at (kind_of i) (suc p) (drop (suc p) t)).value

-- Of whole parts, the value of each name is the one that stands at its place.
abbrev pub ValuesByPlaces : Type 0
ValuesByPlaces =
    (t : List ℕ) → (parts_at 13 (none_used 14) 0 t).whole ≡ true
    → (i : ℕ) → i < 14 → value_in i (parts_at 13 (none_used 14) 0 t).value ≡ value_from i (get_or (places_at 13 (nowhere 14) 0 t) i 0) t
