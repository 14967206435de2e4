-- A list in a buffer's first slots.
-- Assumes nothing.
use Prim.Native.Nat.{ℕ, zero, suc, ◌+◌, ◌≤◌, ◌<◌}
use mathlib.Core.Path.{◌≡◌, refl, ap, ◌∙◌}
use mathlib.Core.List.{List, [], ◌∷◌, ◌++◌}
use native.Mathlib.Omega.{arith}
use lib.ListN.{length, get_or, set}
use lib.Seq.{sets}
use Rattle.positions.specs.Places.{over}
use Rattle.positions.specs.Claims.{OverIs}

-- writing over a buffer leaves its length
pub length_over : (xs slots : List ℕ) → length (over xs slots) ≡ length slots
unfolding over
length_over [] slots = refl
length_over (x ∷ xs) [] = refl
length_over (x ∷ xs) (b ∷ slots) = ap suc (length_over xs slots)

-- slot by slot, it is a store at each slot in turn
sets_none : (i : ℕ) (xs : List ℕ) → sets [] i xs ≡ []
sets_none i [] = refl
sets_none i (x ∷ xs) = sets_none (suc i) xs

sets_later : (b : ℕ) (slots : List ℕ) (i : ℕ) (xs : List ℕ) → sets (b ∷ slots) (suc i) xs ≡ b ∷ sets slots i xs
sets_later b slots i [] = refl
sets_later b slots i (x ∷ xs) = sets_later b (set slots i x) (suc i) xs

pub sets_over : (xs slots : List ℕ) → sets slots 0 xs ≡ over xs slots
unfolding over
sets_over [] slots = refl
sets_over (x ∷ xs) [] = sets_none 1 xs
sets_over (x ∷ xs) (b ∷ slots) = sets_later x slots 0 xs ∙ ap (λ (ys : List ℕ). x ∷ ys) (sets_over xs slots)

-- a list in two parts: the second is stored behind the first
pub sets_append : (slots : List ℕ) (i : ℕ) (xs ys : List ℕ) → sets slots i (xs ++ ys) ≡ sets (sets slots i xs) (i + length xs) ys
sets_append slots i [] ys = let z : i ≡ i + 0 = omega arith in ap (λ (k : ℕ). sets slots k ys) z
sets_append slots i (x ∷ xs) ys =
    let z : suc i + length xs ≡ i + suc (length xs) = omega arith in
    sets_append (set slots i x) (suc i) xs ys ∙ ap (λ (k : ℕ). sets (sets (set slots i x) (suc i) xs) k ys) z

-- the list stands first, and the buffer's own slots behind it
pub over_is : OverIs
unfolding over
over_is [] slots h = refl
over_is (x ∷ xs) [] h = absurd (omega arith)
over_is (x ∷ xs) (b ∷ slots) h = ap (λ (ys : List ℕ). x ∷ ys) (over_is xs slots (omega arith))

-- what was written is read back
pub over_reads : (xs slots : List ℕ) (i : ℕ) → length xs ≤ length slots → i < length xs → get_or (over xs slots) i 0 ≡ get_or xs i 0
unfolding over
over_reads [] slots i l h = absurd (omega arith)
over_reads (x ∷ xs) [] i l h = absurd (omega arith)
over_reads (x ∷ xs) (b ∷ slots) zero l h = refl
over_reads (x ∷ xs) (b ∷ slots) (suc i) l h = over_reads xs slots i (omega arith) (omega arith)
