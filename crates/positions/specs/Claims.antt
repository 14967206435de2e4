-- What is claimed of the places; proofs/ has a proof of each claim, under the same name in small letters.
-- Assumes nothing.
use Rattle.std.specs.Prelude.{ℕ, ◌≤◌, ◌<◌, ◌≡◌, Bool, true, false, List, ◌++◌, map, length, get_or, drop}
use Rattle.machine.specs.Rising.{Rises}
use Rattle.rule.specs.declared.rrule.Rule.{Rule}
use Rattle.rule.specs.Lists.{is_empty}
use Rattle.rule.specs.Candidates.{candidates, Chosen, kept}
use Rattle.rule.specs.Meaning.{Exactly}
use Rattle.positions.specs.Places.{kept_places, over}

-- In words: the places are those below n that some position chooses, rising, each once.
abbrev pub PlacesAre : Type 0
PlacesAre = (s : List Bool) (n : ℕ) → is_empty s ≡ false → Exactly (λ j. (j < n) × Chosen s n j) (kept_places s n)

-- They rise strictly, from 0 on and below n.
abbrev pub PlacesRise : Type 0
PlacesRise = (s : List Bool) (n : ℕ) → Rises 0 (kept_places s n) n

-- The same by number: each is below n, and a later one is higher.
abbrev pub PlacesBelow : Type 0
PlacesBelow = (s : List Bool) (n i : ℕ) → i < length (kept_places s n) → get_or (kept_places s n) i 0 < n

abbrev pub PlacesInOrder : Type 0
PlacesInOrder =
    (s : List Bool) (n h i : ℕ) → h < i → i < length (kept_places s n) → get_or (kept_places s n) h 0 < get_or (kept_places s n) i 0

-- There are at most as many as BYSETPOS has slots.
abbrev pub PlacesFit : Type 0
PlacesFit = (s : List Bool) (n : ℕ) → length (kept_places s n) ≤ 732

-- the places of the kept candidates of period k
abbrev pub places_of : Rule → ℕ → List ℕ
places_of r k = kept_places r.bysetpos (length (candidates r k))

-- With positions, the kept candidates of a period are the candidates at these places: as many, and number i is the candidate at place number i.
abbrev pub KeptByPlaces : Type 0
KeptByPlaces = (r : Rule) (k : ℕ) → is_empty r.bysetpos ≡ false → kept r k ≡ map (λ j. get_or (candidates r k) j 0) (places_of r k)

abbrev pub KeptCount : Type 0
KeptCount = (r : Rule) (k : ℕ) → is_empty r.bysetpos ≡ false → length (kept r k) ≡ length (places_of r k)

abbrev pub KeptNumber : Type 0
KeptNumber =
    (r : Rule) (k i : ℕ) → is_empty r.bysetpos ≡ false → i < length (places_of r k)
    → get_or (kept r k) i 0 ≡ get_or (candidates r k) (get_or (places_of r k) i 0) 0

-- Without positions all are kept.
abbrev pub KeptWithoutPositions : Type 0
KeptWithoutPositions = (r : Rule) (k : ℕ) → is_empty r.bysetpos ≡ true → kept r k ≡ candidates r k

-- A list written over a buffer that has room for it stands first, and the buffer's own slots behind it are left.
abbrev pub OverIs : Type 0
OverIs = (xs slots : List ℕ) → length xs ≤ length slots → over xs slots ≡ xs ++ drop (length xs) slots

-- Read back from 732 slots: each place, and with it each kept candidate.
abbrev pub PlacesStand : Type 0
PlacesStand =
    (s : List Bool) (n : ℕ) (slots : List ℕ) (i : ℕ) → length slots ≡ 732 → i < length (kept_places s n)
    → get_or (over (kept_places s n) slots) i 0 ≡ get_or (kept_places s n) i 0

abbrev pub KeptFromSlots : Type 0
KeptFromSlots =
    (r : Rule) (k : ℕ) (slots : List ℕ) (i : ℕ) → is_empty r.bysetpos ≡ false → length slots ≡ 732 → i < length (places_of r k)
    → get_or (kept r k) i 0 ≡ get_or (candidates r k) (get_or (over (places_of r k) slots) i 0) 0
