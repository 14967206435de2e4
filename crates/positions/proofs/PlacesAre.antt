-- The places, as a list, are the places in words.
-- Assumes nothing.
use Prim.Native.Nat.{ℕ, zero, suc, ◌+◌, ◌-◌, ◌≤◌, ◌<◌}
use mathlib.Core.Path.{◌≡◌, refl, ap, sym, ◌∙◌}
use mathlib.Core.Logic.{◌≢◌, ◌⊎◌, inl, inr, ⊎_elim}
use mathlib.Core.Bool.{Bool, true, false, ◌||◌}
use mathlib.Core.List.{List, [], ◌∷◌, ◌++◌}
use native.Mathlib.Omega.{arith}
use lib.IntN.{pos, neg_ℤ}
use lib.Dec.{eqb}
use borrow.Author.Tests.{eqb-true, eqb-false}
use Rattle.machine.specs.Rising.{◌∈◌, Rises}
use Rattle.rule.specs.Lists.{positions, is_in, is_empty}
use Rattle.rule.specs.Days.{either_end}
use Rattle.rule.specs.Candidates.{only, chooses, chosen, Chosen, Chosen.all, Chosen.forward, Chosen.from_end}
use Rattle.rule.specs.Meaning.{RisesFrom}
use Rattle.positions.specs.Places.{up_from, kept_places}
use Rattle.positions.specs.Claims.{PlacesAre}
use Rattle.positions.proofs.PlaceLaws.{among, places_rise}

-- the choice of a place, computed and in words
or_cases : (a b : Bool) → (a || b) ≡ true → (a ≡ true) ⊎ (b ≡ true)
or_cases true b e = inl refl
or_cases false b e = inr e

or_left : (a b : Bool) → a ≡ true → (a || b) ≡ true
or_left a b e = ap (λ (x : Bool). x || b) e

or_right : (a b : Bool) → b ≡ true → (a || b) ≡ true
or_right true b e = refl
or_right false b e = e

in_words : (s : List Bool) (n j : ℕ) → j < n → chooses s n j ≡ true → Chosen s n j
unfolding either_end
in_words s n j h t =
    ⊎_elim
    (λ (e : is_in positions s (pos (j + 1)) ≡ true). forward (j + 1) refl e)
    (λ (e : is_in positions s (neg_ℤ (pos (n + 1 - (j + 1)))) ≡ true). from_end (n + 1 - (j + 1)) (omega arith) (omega arith) e)
    (or_cases (is_in positions s (pos (j + 1))) (is_in positions s (neg_ℤ (pos (n + 1 - (j + 1))))) t)

computed : (s : List Bool) (n j : ℕ) → is_empty s ≡ false → Chosen s n j → chooses s n j ≡ true
unfolding either_end
computed s n j e (all p) = absurd (let z : ◌≡◌ {A = ℕ} 0 1 = cc in omega arith)
computed s n j e (forward p q i) =
    or_left (is_in positions s (pos (j + 1))) (is_in positions s (neg_ℤ (pos (n + 1 - (j + 1))))) (ap (λ (x : ℕ). is_in positions s (pos x)) q ∙ i)
computed s n j e (from_end p l q i) =
    let z : n + 1 - (j + 1) ≡ p = omega arith in
    or_right (is_in positions s (pos (j + 1))) (is_in positions s (neg_ℤ (pos (n + 1 - (j + 1))))) (ap (λ (x : ℕ). is_in positions s (neg_ℤ (pos x))) z ∙ i)

-- the members of a stretch of c places from j on
record Placed (s : List Bool) (n c j x : ℕ) : Type 0 where
  from : j ≤ x
  to : x < j + c
  choice : chooses s n x ≡ true

module _ (s : List Bool) (n : ℕ) where
  from_on : (b : Bool) (x j : ℕ) (ys : List ℕ) → x ∈ (only b (j ∷ []) ++ ys) → ((b ≡ true) × (x ≡ j)) ⊎ (x ∈ ys)
  from_on true x j ys m = ⊎_elim (λ (e : x ≡ j). inl (refl, e)) (λ (k : x ∈ ys). inr k) m
  from_on false x j ys m = inr m

  members : (c j x : ℕ) → x ∈ among s n c j → Placed s n c j x
  unfolding among chosen up_from
  members zero j x m = absurd m
  members (suc c) j x m =
      ⊎_elim
      (λ (p : (chooses s n j ≡ true) × (x ≡ j)).
      record { from = omega (arith, p.1); to = omega (arith, p.1); choice = ap (λ (k : ℕ). chooses s n k) p.1 ∙ p.0 })
      (λ (k : x ∈ among s n c (j + 1)). let q = members c (j + 1) x k in record { from = omega (arith, q.from); to = omega (arith, q.to); choice = q.choice })
      (from_on (chooses s n j) x j (among s n c (j + 1)) m)

  head_on : (b : Bool) (x j : ℕ) (ys : List ℕ) → b ≡ true → x ≡ j → x ∈ (only b (j ∷ []) ++ ys)
  head_on true x j ys t e = inl e
  head_on false x j ys t e = absurd (let z : ◌≡◌ {A = ℕ} 0 1 = cc in omega arith)

  tail_on : (b : Bool) (x j : ℕ) (ys : List ℕ) → x ∈ ys → x ∈ (only b (j ∷ []) ++ ys)
  tail_on true x j ys m = inr m
  tail_on false x j ys m = m

  every_member : (c j x : ℕ) → Placed s n c j x → x ∈ among s n c j
  unfolding among chosen up_from
  every_member zero j x p = absurd (omega (arith, p.from, p.to))
  every_member (suc c) j x p = go (eqb x j) refl (λ l. every_member c (j + 1) x (record { from = l; to = omega (arith, p.to); choice = p.choice }))
    where
      go : (b : Bool) → eqb x j ≡ b → (j + 1 ≤ x → x ∈ among s n c (j + 1)) → x ∈ (only (chooses s n j) (j ∷ []) ++ among s n c (j + 1))
      go true e f =
          let z : x ≡ j = eqb-true x j e in
          head_on (chooses s n j) x j (among s n c (j + 1)) (ap (λ (k : ℕ). chooses s n k) (sym z) ∙ p.choice) z
      go false e f = let z : x ≢ j = eqb-false x j e in tail_on (chooses s n j) x j (among s n c (j + 1)) (f (omega (arith, p.from)))

rises_from_lem : (lo hi : ℕ) (xs : List ℕ) → Rises lo xs hi → RisesFrom lo xs
rises_from_lem lo hi [] p = tt
rises_from_lem lo hi (x ∷ xs) p = (p.0, rises_from_lem (suc x) hi xs p.1)

pub places_are : PlacesAre
unfolding kept_places among
places_are s n e = (
  rises_from_lem 0 n (kept_places s n) (places_rise s n),
  λ j. (
    λ m. let p = members s n n 0 j m in let h : j < n = omega (arith, p.to) in (h, in_words s n j h p.choice),
    λ q. every_member s n n 0 j (record { from = omega arith; to = omega (arith, q.0); choice = computed s n j e q.1 }),
  ),
)
