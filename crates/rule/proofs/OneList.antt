-- A strictly rising list is known by its members.
-- Assumes nothing.
use Prim.Native.Nat.{ℕ, suc, ◌≤◌}
use mathlib.Core.Path.{◌≡◌, refl}
use mathlib.Core.Logic.{inl, inr, ⊎_elim}
use mathlib.Core.List.{List, [], ◌∷◌}
use native.Mathlib.Omega.{arith}
use Rattle.machine.specs.Rising.{◌∈◌}
use Rattle.rule.specs.Meaning.{RisesFrom, OneList}

above : (low : ℕ) (xs : List ℕ) → RisesFrom low xs → (s : ℕ) → s ∈ xs → low ≤ s
above low [] p s i = absurd i
above low (x ∷ xs) p s i = ⊎_elim (λ (e : s ≡ x). omega arith) (λ (j : s ∈ xs). let q : suc x ≤ s = above (suc x) xs p.1 s j in omega arith) i

same_members : (a b : ℕ) (xs ys : List ℕ) → RisesFrom a xs → RisesFrom b ys → ((s : ℕ) → s ∈ xs → s ∈ ys) → ((s : ℕ) → s ∈ ys → s ∈ xs) → xs ≡ ys
same_members a b [] [] p q f g = refl
same_members a b [] (y ∷ ys) p q f g = absurd (g y (inl refl))
same_members a b (x ∷ xs) [] p q f g = absurd (f x (inl refl))
same_members a b (x ∷ xs) (y ∷ ys) p q f g =
    let l : y ≤ x = ⊎_elim (λ (e : x ≡ y). let h : y ≤ x = omega arith in h) (λ (j : x ∈ ys). let h : suc y ≤ x = above (suc y) ys q.1 x j in let k : y ≤ x = omega arith in k) (f x (inl refl)) in
    let m : x ≤ y = ⊎_elim (λ (e : y ≡ x). let h : x ≤ y = omega arith in h) (λ (j : y ∈ xs). let h : suc x ≤ y = above (suc x) xs p.1 y j in let k : x ≤ y = omega arith in k) (g y (inl refl)) in
    let e : x ≡ y = omega arith in
    cons e (same_members (suc x) (suc y) xs ys p.1 q.1 (rest x xs y ys e p.1 f) (rest y ys x xs (omega arith) q.1 g))
  where
    cons : {u v : ℕ} {us vs : List ℕ} → u ≡ v → us ≡ vs → u ∷ us ≡ v ∷ vs
    cons c d = cc

    rest : (u : ℕ) (us : List ℕ) (v : ℕ) (vs : List ℕ) → u ≡ v → RisesFrom (suc u) us → ((s : ℕ) → s ∈ (u ∷ us) → s ∈ (v ∷ vs)) → (s : ℕ) → s ∈ us → s ∈ vs
    rest u us v vs c r h s i =
        ⊎_elim (λ (d : s ≡ v). absurd (let k : suc u ≤ s = above (suc u) us r s i in omega arith)) (λ (j : s ∈ vs). j) (h s (inr i))

pub one_list : OneList
one_list P xs ys p q = same_members 0 0 xs ys p.0 q.0 (λ s i. (q.1 s).1 ((p.1 s).0 i)) (λ s i. (p.1 s).1 ((q.1 s).0 i))
