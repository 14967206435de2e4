-- The kept candidates, by their places.
-- Assumes nothing.
use Prim.Native.Nat.{ℕ, zero, suc, ◌+◌, ◌<◌}
use mathlib.Core.Path.{◌≡◌, refl, ap, sym, ◌∙◌}
use mathlib.Core.Bool.{Bool, true, false}
use mathlib.Core.List.{List, [], ◌∷◌, ◌++◌, map}
use native.Mathlib.Omega.{arith}
use lib.ListN.{length, get_or, length-map}
use Rattle.rule.specs.Candidates.{only, chooses, chosen, candidates, keeps, kept}
use Rattle.positions.specs.Places.{up_from, kept_places}
use Rattle.positions.specs.Claims.{places_of, KeptByPlaces, KeptCount, KeptNumber, KeptWithoutPositions, PlacesStand, KeptFromSlots}
use Rattle.positions.proofs.Buffers.{over_reads}
use Rattle.positions.proofs.PlaceLaws.{places_fit}

-- what is chosen by number is chosen whatever it is
module _ (s : List Bool) (n : ℕ) (f : ℕ → ℕ) where
  only_map : (b : Bool) (x : ℕ) (xs ys : List ℕ) → ys ≡ map f xs → only b (f x ∷ []) ++ ys ≡ map f (only b (x ∷ []) ++ xs)
  only_map true x xs ys e = ap (λ (zs : List ℕ). f x ∷ zs) e
  only_map false x xs ys e = e

  chosen_map : (j : ℕ) (xs : List ℕ) → chosen s n j (map f xs) ≡ map f (chosen s n j xs)
  unfolding chosen
  chosen_map j [] = refl
  chosen_map j (x ∷ xs) = only_map (chooses s n j) x (chosen s n (j + 1) xs) (chosen s n (j + 1) (map f xs)) (chosen_map (j + 1) xs)

-- a list is its members at the numbers from 0 on
later : (x : ℕ) (xs : List ℕ) (n i : ℕ) → map (λ j. get_or (x ∷ xs) j 0) (up_from n (suc i)) ≡ map (λ j. get_or xs j 0) (up_from n i)
unfolding up_from
later x xs zero i = refl
later x xs (suc n) i =
    let z : suc i + 1 ≡ suc (i + 1) = omega arith in
    ap (λ (ys : List ℕ). get_or xs i 0 ∷ ys) (ap (λ (k : ℕ). map (λ j. get_or (x ∷ xs) j 0) (up_from n k)) z ∙ later x xs n (i + 1))

all_by_number : (xs : List ℕ) → map (λ j. get_or xs j 0) (up_from (length xs) 0) ≡ xs
unfolding up_from
all_by_number [] = refl
all_by_number (x ∷ xs) = ap (λ (ys : List ℕ). x ∷ ys) (later x xs (length xs) 0 ∙ all_by_number xs)

chosen_by_place : (s : List Bool) (xs : List ℕ) → chosen s (length xs) 0 xs ≡ map (λ j. get_or xs j 0) (kept_places s (length xs))
unfolding kept_places
chosen_by_place s xs =
    ap (λ (ys : List ℕ). chosen s (length xs) 0 ys) (sym (all_by_number xs)) ∙ chosen_map s (length xs) (λ j. get_or xs j 0) 0 (up_from (length xs) 0)

pub kept_by_places : KeptByPlaces
unfolding kept keeps
kept_by_places r k e = rw e (chosen_by_place r.bysetpos (candidates r k))

pub kept_without_positions : KeptWithoutPositions
unfolding kept keeps
kept_without_positions r k e = rw e

pub kept_count_lem : KeptCount
kept_count_lem r k e = ap length (kept_by_places r k e) ∙ length-map (places_of r k) (λ j. get_or (candidates r k) j 0)

-- number i of a list that was changed throughout
number_map : (f : ℕ → ℕ) (xs : List ℕ) (i : ℕ) → i < length xs → get_or (map f xs) i 0 ≡ f (get_or xs i 0)
number_map f [] i h = absurd (omega arith)
number_map f (x ∷ xs) zero h = refl
number_map f (x ∷ xs) (suc i) h = number_map f xs i (omega arith)

pub kept_number_lem : KeptNumber
kept_number_lem r k i e h =
    ap (λ (xs : List ℕ). get_or xs i 0) (kept_by_places r k e) ∙ number_map (λ j. get_or (candidates r k) j 0) (places_of r k) i h

pub places_stand : PlacesStand
places_stand s n slots i e h = over_reads (kept_places s n) slots i (omega (arith, places_fit s n)) h

pub kept_from_slots : KeptFromSlots
kept_from_slots r k slots i e l h =
    kept_number_lem r k i e h
    ∙ ap (λ (j : ℕ). get_or (candidates r k) j 0) (sym (places_stand r.bysetpos (length (candidates r k)) slots i l h))
