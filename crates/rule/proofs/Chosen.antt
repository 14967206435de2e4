-- The kept candidates, as a list, are the kept candidates in words.
-- Assumes nothing.
use Prim.Native.Nat.{ℕ, zero, suc, ◌+◌, ◌-◌, ◌≤◌, ◌<◌}
use mathlib.Core.Path.{◌≡◌, refl, sym, subst}
use mathlib.Core.Logic.{◌⊎◌, inl, inr, ⊎_elim}
use mathlib.Core.Bool.{Bool, true, false, ◌||◌}
use mathlib.Core.List.Memᴰ
use mathlib.Core.List.{List, [], ◌∷◌, ◌++◌, Memᴰ}
use lib.ListN.{length, get_or}
use lib.Dec.{T}
use native.Mathlib.Omega.{arith}
use lib.IntN.{pos, neg_ℤ}
use Rattle.machine.specs.Rising.{◌∈◌}
use Rattle.rule.specs.Lists.{positions, is_in, is_empty}
use Rattle.rule.specs.Days.{either_end}
use Rattle.rule.specs.Candidates.{only, candidates, Chosen, Chosen.all, Chosen.forward, Chosen.from_end, chooses, chosen, keeps, kept, Kept}
use Rattle.rule.specs.Meaning.{RisesFrom, KeptAre}
use Rattle.rule.proofs.Members.{yes, holds, in_list, member}
use Rattle.rule.proofs.Listed.{candidates_are}

-- member number i of n, where the choice c lets it through
pub record Nth (c : ℕ → Bool) (y : ℕ) (xs : List ℕ) : Type 0 where
  pub i : ℕ
  pub below : i < length xs
  pub is_y : get_or xs i 0 ≡ y
  pub choice : T (c i)

later : (c : ℕ → Bool) (y x : ℕ) (xs : List ℕ) → Nth (λ i. c (suc i)) y xs → Nth c y (x ∷ xs)
later c y x xs p = record { i = suc p.i; below = let l : p.i < length xs = p.below in omega arith; is_y = p.is_y; choice = p.choice }

rises_down : (lo hi : ℕ) (xs : List ℕ) → lo ≤ hi → RisesFrom hi xs → RisesFrom lo xs
rises_down lo hi [] h p = tt
rises_down lo hi (x ∷ xs) h p = (omega arith, p.1)

module _ (s : List Bool) (n : ℕ) where
  -- what follows one candidate, let through or not
  rises_on : (b : Bool) (lo x : ℕ) (ys : List ℕ) → lo ≤ x → RisesFrom (suc x) ys → RisesFrom lo (only b (x ∷ []) ++ ys)
  rises_on true lo x ys h p = (h, p)
  rises_on false lo x ys h p = rises_down lo (suc x) ys (omega arith) p

  chosen_rises : (lo j : ℕ) (xs : List ℕ) → RisesFrom lo xs → RisesFrom lo (chosen s n j xs)
  unfolding chosen
  chosen_rises lo j [] p = tt
  chosen_rises lo j (x ∷ xs) p = rises_on (chooses s n j) lo x (chosen s n (j + 1) xs) p.0 (chosen_rises (suc x) (j + 1) xs p.1)

  from_on : (b : Bool) (y x : ℕ) (ys : List ℕ) → Memᴰ y (only b (x ∷ []) ++ ys) → (T b × (y ≡ x)) ⊎ Memᴰ y ys
  from_on true y x ys m = ⊎_elim (λ (e : y ≡ x). inl (tt, e)) (λ (k : Memᴰ y ys). inr k) (Memᴰ.cases_cons m)
  from_on false y x ys m = inr m

  abbrev Choice : ℕ → ℕ → Bool
  Choice j i = chooses s n (j + i)

  shift : (j y : ℕ) (xs : List ℕ) → Nth (Choice (j + 1)) y xs → Nth (λ i. Choice j (suc i)) y xs
  shift j y xs p = record { i = p.i; below = p.below; is_y = p.is_y; choice = let e : j + 1 + p.i ≡ j + suc p.i = omega arith in subst (λ (z : ℕ). T (chooses s n z)) e p.choice }

  shift_back : (j y : ℕ) (xs : List ℕ) → Nth (λ i. Choice j (suc i)) y xs → Nth (Choice (j + 1)) y xs
  shift_back j y xs p = record { i = p.i; below = p.below; is_y = p.is_y; choice = let e : j + suc p.i ≡ j + 1 + p.i = omega arith in subst (λ (z : ℕ). T (chooses s n z)) e p.choice }

  chosen_sound : (j y : ℕ) (xs : List ℕ) → Memᴰ y (chosen s n j xs) → Nth (Choice j) y xs
  unfolding chosen
  chosen_sound j y [] m = absurd (Memᴰ.not-nil m)
  chosen_sound j y (x ∷ xs) m =
      ⊎_elim
      (λ (p : T (chooses s n j) × (y ≡ x)). record { i = 0; below = omega arith; is_y = sym p.1; choice = let e : j ≡ j + 0 = omega arith in subst (λ (z : ℕ). T (chooses s n z)) e p.0 })
      (λ (k : Memᴰ y (chosen s n (j + 1) xs)). later (Choice j) y x xs (shift j y xs (chosen_sound (j + 1) y xs k)))
      (from_on (chooses s n j) y x (chosen s n (j + 1) xs) m)

  head_on : (b : Bool) (y x : ℕ) (ys : List ℕ) → T b → y ≡ x → Memᴰ y (only b (x ∷ []) ++ ys)
  head_on true y x ys t e = Memᴰ.head e
  head_on false y x ys t e = absurd t

  tail_on : (b : Bool) (y x : ℕ) (ys : List ℕ) → Memᴰ y ys → Memᴰ y (only b (x ∷ []) ++ ys)
  tail_on true y x ys m = Memᴰ.tail m
  tail_on false y x ys m = m

  chosen_whole : (j y : ℕ) (xs : List ℕ) (i : ℕ) → i < length xs → get_or xs i 0 ≡ y → T (Choice j i) → Memᴰ y (chosen s n j xs)
  unfolding chosen
  chosen_whole j y [] i h e c = absurd (omega arith)
  chosen_whole j y (x ∷ xs) zero h e c = head_on (chooses s n j) y x _ (let z : j + 0 ≡ j = omega arith in subst (λ (k : ℕ). T (chooses s n k)) z c) (sym e)
  chosen_whole j y (x ∷ xs) (suc i) h e c =
      tail_on (chooses s n j) y x _ (chosen_whole (j + 1) y xs i (omega arith) e (let z : j + suc i ≡ j + 1 + i = omega arith in subst (λ (k : ℕ). T (chooses s n k)) z c))

-- every member has its number, and every number its member
pub every : (y : ℕ) (xs : List ℕ) → Memᴰ y xs → Nth (λ i. true) y xs
every y [] m = absurd (Memᴰ.not-nil m)
every y (x ∷ xs) m =
    ⊎_elim (λ (e : y ≡ x). record { i = 0; below = omega arith; is_y = sym e; choice = tt })
    (λ (k : Memᴰ y xs). later (λ i. true) y x xs (every y xs k)) (Memᴰ.cases_cons m)

pub there : (y : ℕ) (xs : List ℕ) (i : ℕ) → i < length xs → get_or xs i 0 ≡ y → Memᴰ y xs
there y [] i h e = absurd (omega arith)
there y (x ∷ xs) zero h e = Memᴰ.head (sym e)
there y (x ∷ xs) (suc i) h e = Memᴰ.tail (there y xs i (omega arith) e)

-- the choice of a position, computed and in words
or_cases : (a b : Bool) → T (a || b) → T a ⊎ T b
or_cases true b t = inl tt
or_cases false b t = inr t

or_left : (a b : Bool) → T a → T (a || b)
or_left true b t = tt
or_left false b t = absurd t

or_right : (a b : Bool) → T b → T (a || b)
or_right true b t = tt
or_right false b t = t

in_words : (s : List Bool) (n j : ℕ) → j < n → T (chooses s n j) → Chosen s n j
unfolding either_end
in_words s n j h t =
    ⊎_elim
    (λ (p : T (is_in positions s (pos (j + 1)))). forward (j + 1) refl (yes _ p))
    (λ (p : T (is_in positions s (neg_ℤ (pos (n + 1 - (j + 1)))))). from_end (n + 1 - (j + 1)) (omega arith) (omega arith) (yes _ p))
    (or_cases (is_in positions s (pos (j + 1))) (is_in positions s (neg_ℤ (pos (n + 1 - (j + 1))))) t)

computed : (s : List Bool) (n j : ℕ) → is_empty s ≡ false → j < n → Chosen s n j → T (chooses s n j)
unfolding either_end
computed s n j e h (all p) = absurd (let z : ◌≡◌ {A = ℕ} 0 1 = cc in omega arith)
computed s n j e h (forward p q i) = or_left (is_in positions s (pos (j + 1))) (is_in positions s (neg_ℤ (pos (n + 1 - (j + 1))))) (subst (λ (x : ℕ). T (is_in positions s (pos x))) (sym q) (holds i))
computed s n j e h (from_end p l q i) =
    let z : p ≡ n + 1 - (j + 1) = omega arith in
    or_right (is_in positions s (pos (j + 1))) (is_in positions s (neg_ℤ (pos (n + 1 - (j + 1))))) (subst (λ (x : ℕ). T (is_in positions s (neg_ℤ (pos x)))) z (holds i))

pub kept_are : KeptAre
unfolding kept keeps
kept_are r k = go (is_empty r.bysetpos) refl
  where
    go : (b : Bool) → is_empty r.bysetpos ≡ b → RisesFrom 0 (kept r k) × ((s : ℕ) → (s ∈ kept r k → Kept r k s) × (Kept r k s → s ∈ kept r k))
    go true e = rw e (
      (candidates_are r k).0,
      λ s. (
        λ m. let p : Nth (λ i. true) s (candidates r k) = every s (candidates r k) (member s _ m) in record { j = p.i; below = p.below; is_s = p.is_y; choice = all e },
        λ q. in_list s _ (there s (candidates r k) q.j q.below q.is_s),
      ),
    )
    go false e = rw e (
      chosen_rises r.bysetpos (length (candidates r k)) 0 0 (candidates r k) (candidates_are r k).0,
      λ s. (
        λ m. let p : Nth (Choice r.bysetpos (length (candidates r k)) 0) s (candidates r k) = chosen_sound r.bysetpos (length (candidates r k)) 0 s (candidates r k) (member s _ m) in
            let z : 0 + p.i ≡ p.i = omega arith in
            record {
              j = p.i;
              below = p.below;
              is_s = p.is_y;
              choice = in_words r.bysetpos _ p.i p.below (subst (λ (x : ℕ). T (chooses r.bysetpos (length (candidates r k)) x)) z p.choice);
            },
        λ q. let z : q.j ≡ 0 + q.j = omega arith in
            in_list s _
            (chosen_whole r.bysetpos (length (candidates r k)) 0 s (candidates r k) q.j q.below q.is_s
            (subst (λ (x : ℕ). T (chooses r.bysetpos (length (candidates r k)) x)) z (computed r.bysetpos _ q.j e q.below q.choice))),
      ),
    )
