-- Members of a list, and tests, in the forms that claims and proofs use.
-- Assumes nothing.
use Prim.Native.Nat.{ℕ}
use mathlib.Core.Path.{◌≡◌, refl, sym, subst}
use mathlib.Core.Logic.{inl, inr, ⊎_elim}
use mathlib.Core.Bool.{Bool, true, false}
use mathlib.Core.List.Memᴰ
use mathlib.Core.List.{List, [], ◌∷◌, Memᴰ}
use lib.Dec.{T}
use Rattle.machine.specs.Rising.{◌∈◌}

pub yes : (b : Bool) → T b → b ≡ true
yes true t = refl
yes false t = absurd t

pub holds : {b : Bool} → b ≡ true → T b
holds e = subst (λ (x : Bool). T x) (sym e) tt

pub in_list : (s : ℕ) (xs : List ℕ) → Memᴰ s xs → s ∈ xs
in_list s [] m = absurd (Memᴰ.not-nil m)
in_list s (x ∷ xs) m = ⊎_elim (λ (e : s ≡ x). inl e) (λ (n : Memᴰ s xs). inr (in_list s xs n)) (Memᴰ.cases_cons m)

pub member : (s : ℕ) (xs : List ℕ) → s ∈ xs → Memᴰ s xs
member s [] m = absurd m
member s (x ∷ xs) m = ⊎_elim (λ (e : s ≡ x). Memᴰ.head e) (λ (n : s ∈ xs). Memᴰ.tail (member s xs n)) m
