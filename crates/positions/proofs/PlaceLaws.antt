-- Stretches of places: one after the other, each kept in part.
-- Assumes nothing.
use Prim.Native.Nat.{ℕ, zero, suc, ◌+◌, ◌-◌, max, ◌≤◌, ◌<◌}
use mathlib.Core.Path.{◌≡◌, refl, ap, sym, subst, ◌∙◌}
use mathlib.Core.Bool.{Bool, true, false}
use mathlib.Core.List.{List, [], ◌∷◌, ◌++◌, append_assoc}
use native.Mathlib.Omega.{arith}
use native.Mathlib.Numerals.{add-one}
use lib.ListN.{length, get_or, length-append, set}
use lib.Seq.{sets}
use lib.Dec.{leb}
use borrow.Author.Tests.{leb-true, leb-false}
use Rattle.machine.specs.Rising.{Rises}
use Rattle.rule.specs.Candidates.{only, chooses, chosen}
use Rattle.positions.specs.Places.{up_from, kept_places, kept_within, over}
use Rattle.positions.specs.Claims.{PlacesRise, PlacesBelow, PlacesInOrder, PlacesFit}
use Rattle.positions.proofs.Buffers.{sets_over, sets_append}
use Rattle.positions.proofs.PositionLaws.{none_reaches}

module _ (s : List Bool) (n : ℕ) where
  -- of c places from j on
  unfoldable pub among : ℕ → ℕ → List ℕ
  unfolding chosen up_from
  among c j = chosen s n j (up_from c j)

  among_append : (c d j : ℕ) → among (c + d) j ≡ among c j ++ among d (j + c)
  unfolding among chosen up_from
  among_append zero d j = let e : j ≡ j + 0 = omega arith in let z : 0 + d ≡ d = omega arith in ap (λ (k : ℕ). among k j) z ∙ ap (λ (k : ℕ). among d k) e
  among_append (suc c) d j =
      let z : suc c + d ≡ suc (c + d) = omega arith in
      let e : j + 1 + c ≡ j + suc c = omega arith in
      ap (λ (k : ℕ). among k j) z
      ∙ ap (λ (xs : List ℕ). only (chooses s n j) (j ∷ []) ++ xs) (among_append c d (j + 1) ∙ ap (λ (k : ℕ). among c (j + 1) ++ among d k) e)
      ∙ sym (append_assoc (only (chooses s n j) (j ∷ [])) (among c (j + 1)) (among d (j + suc c)))

  only_short : (b : Bool) (x : ℕ) (xs : List ℕ) → length (only b (x ∷ []) ++ xs) ≤ suc (length xs)
  only_short true x xs = omega arith
  only_short false x xs = omega arith

  among_short : (c j : ℕ) → length (among c j) ≤ c
  unfolding among chosen up_from
  among_short zero j = omega arith
  among_short (suc c) j = omega (arith, only_short (chooses s n j) j (among c (j + 1)), among_short c (j + 1))

  among_none : (c j : ℕ) → 366 ≤ j → c ≤ n - 366 - j → among c j ≡ []
  unfolding among chosen up_from
  among_none zero j l h = refl
  among_none (suc c) j l h = rw (none_reaches s n j l (omega arith)) (among_none c (j + 1) (omega arith) (omega arith))

  -- the whole is one stretch, and a stretch is two
  pub one_stretch : kept_places s n ≡ kept_within s n 0 n
  unfolding kept_places kept_within among
  one_stretch = let z : n ≡ n - 0 = omega arith in ap (λ (k : ℕ). among k 0) z

  pub two_stretches : (a b c : ℕ) → a ≤ b → b ≤ c → kept_within s n a c ≡ kept_within s n a b ++ kept_within s n b c
  unfolding kept_within among
  two_stretches a b c p q =
      let z : c - a ≡ (b - a) + (c - b) = omega arith in
      let e : a + (b - a) ≡ b = omega arith in
      ap (λ (k : ℕ). among k a) z ∙ among_append (b - a) (c - b) a ∙ ap (λ (k : ℕ). among (b - a) a ++ among (c - b) k) e

  -- a place more, taken or left
  next : (j to : ℕ) → j < to → kept_within s n j to ≡ only (chooses s n j) (j ∷ []) ++ kept_within s n (j + 1) to
  unfolding kept_within among chosen up_from
  next j to h = let z : to - j ≡ suc (to - (j + 1)) = omega arith in ap (λ (k : ℕ). among k j) z

  pub taken : (j to : ℕ) → j < to → chooses s n j ≡ true → kept_within s n j to ≡ j ∷ kept_within s n (j + 1) to
  taken j to h e = next j to h ∙ ap (λ (b : Bool). only b (j ∷ []) ++ kept_within s n (j + 1) to) e

  pub left : (j to : ℕ) → j < to → chooses s n j ≡ false → kept_within s n j to ≡ kept_within s n (j + 1) to
  left j to h e = next j to h ∙ ap (λ (b : Bool). only b (j ∷ []) ++ kept_within s n (j + 1) to) e

  -- what a stretch writes, from slot w on, when its first place is taken: that place, and what the rest writes from the next slot on
  pub taken_sets : (j to w : ℕ) (slots : List ℕ) → j < to → chooses s n j ≡ true
      → sets slots w (kept_within s n j to) ≡ sets (set slots w j) (w + 1) (kept_within s n (j + 1) to)
  taken_sets j to w slots h e =
      ap (λ (xs : List ℕ). sets slots w xs) (taken j to h e) ∙ ap (λ (k : ℕ). sets (set slots w j) k (kept_within s n (j + 1) to)) (sym (add-one w))

  pub none_within : (j to : ℕ) → to ≤ j → kept_within s n j to ≡ []
  unfolding kept_within among chosen up_from
  none_within j to h = let z : to - j ≡ 0 = omega arith in ap (λ (k : ℕ). among k j) z

  -- a stretch keeps no more places than it has
  pub length_within : (j to : ℕ) → length (kept_within s n j to) ≤ to - j
  unfolding kept_within among
  length_within j to = among_short (to - j) j

  -- no position reaches the stretch in the middle
  none_between : (to : ℕ) → to ≤ max 366 (n - 366) → kept_within s n 366 to ≡ []
  unfolding kept_within among
  none_between to h = among_none (to - 366) 366 (omega arith) (omega arith)

  -- so that of 366 or more places, the first 366 and the last up to 366 behind them are enough
  pub first_and_last : 366 ≤ n → kept_places s n ≡ kept_within s n 0 366 ++ kept_within s n (max 366 (n - 366)) n
  first_and_last h =
      let m : ℕ = max 366 (n - 366) in
      let l : 366 ≤ m = omega arith in
      let k : m ≤ n = omega arith in
      one_stretch
      ∙ two_stretches 0 366 n (omega arith) h
      ∙ ap (λ (xs : List ℕ). kept_within s n 0 366 ++ xs)
      (two_stretches 366 m n l k ∙ ap (λ (xs : List ℕ). xs ++ kept_within s n m n) (none_between m (omega arith)))

  -- what the code writes for one stretch, and for the two
  pub one_written : (slots last : List ℕ) (r : ℕ) → r ≡ 0 + length (kept_within s n 0 n) → last ≡ sets slots 0 (kept_within s n 0 n)
      → (r ≡ length (kept_places s n)) × (last ≡ over (kept_places s n) slots)
  one_written slots last r e f =
      let z : 0 + length (kept_within s n 0 n) ≡ length (kept_places s n) = omega (arith, ap length one_stretch) in
      (e ∙ z, f ∙ sets_over (kept_within s n 0 n) slots ∙ ap (λ (xs : List ℕ). over xs slots) (sym one_stretch))

  pub two_written : (slots middle last : List ℕ) (count start r : ℕ) → 366 ≤ n → start ≡ max 366 (n - 366)
      → count ≡ 0 + length (kept_within s n 0 366) → middle ≡ sets slots 0 (kept_within s n 0 366)
      → r ≡ count + length (kept_within s n start n) → last ≡ sets middle count (kept_within s n start n)
      → (r ≡ length (kept_places s n)) × (last ≡ over (kept_places s n) slots)
  two_written slots middle last count start r h e c m d l =
      let xs : List ℕ = kept_within s n 0 366 in
      let ys : List ℕ = kept_within s n start n in
      let w : xs ++ ys ≡ kept_places s n = ap (λ (j : ℕ). xs ++ kept_within s n j n) e ∙ sym (first_and_last h) in (
        omega (arith, c, d, length-append xs ys, ap length w),
        l
            ∙ ap (λ (b : List ℕ). sets b count ys) m
            ∙ ap (λ (k : ℕ). sets (sets slots 0 xs) k ys) c
            ∙ sym (sets_append slots 0 xs ys)
            ∙ sets_over (xs ++ ys) slots
            ∙ ap (λ (zs : List ℕ). over zs slots) w,
      )

  -- 366 at each end
  places_short : length (kept_places s n) ≤ 732
  places_short = go (leb 366 n) refl
    where
      go : (b : Bool) → leb 366 n ≡ b → length (kept_places s n) ≤ 732
      go true e =
          let m : ℕ = max 366 (n - 366) in
          let h : 366 ≤ n = leb-true _ _ e in
          let l = ap length (first_and_last h) ∙ length-append (kept_within s n 0 366) (kept_within s n m n) in
          omega (arith, l, length_within 0 366, length_within m n)
      go false e = let h : n < 366 = leb-false _ _ e in omega (arith, ap length one_stretch, length_within 0 n)

  -- they rise, and lie in the stretch
  only_rises : (b : Bool) (j hi : ℕ) (xs : List ℕ) → Rises (suc j) xs hi → Rises j (only b (j ∷ []) ++ xs) hi
  only_rises true j hi xs p = (omega arith, p)
  only_rises false j hi [] p = omega arith
  only_rises false j hi (x ∷ xs) p = (omega arith, p.1)

  among_rises : (c j hi : ℕ) → j + c ≡ hi → Rises j (among c j) hi
  unfolding among chosen up_from
  among_rises zero j hi e = omega arith
  among_rises (suc c) j hi e =
      only_rises (chooses s n j) j hi (among c (j + 1)) (subst (λ (k : ℕ). Rises k (among c (j + 1)) hi) (add-one j) (among_rises c (j + 1) hi (omega arith)))

pub places_fit : PlacesFit
places_fit = places_short

pub places_rise : PlacesRise
unfolding kept_places among
places_rise s n = among_rises s n n 0 n (omega arith)

-- a list that rises, by number
rises_up : (lo hi : ℕ) (xs : List ℕ) → Rises lo xs hi → lo ≤ hi
rises_up lo hi [] p = p
rises_up lo hi (x ∷ xs) p = let h : suc x ≤ hi = rises_up (suc x) hi xs p.1 in omega arith

rises_below : (lo hi : ℕ) (xs : List ℕ) (i : ℕ) → Rises lo xs hi → i < length xs → get_or xs i 0 < hi
rises_below lo hi [] i p h = absurd (omega arith)
rises_below lo hi (x ∷ xs) zero p h = rises_up (suc x) hi xs p.1
rises_below lo hi (x ∷ xs) (suc i) p h = rises_below (suc x) hi xs i p.1 (omega arith)

rises_above : (lo hi : ℕ) (xs : List ℕ) (i : ℕ) → Rises lo xs hi → i < length xs → lo ≤ get_or xs i 0
rises_above lo hi [] i p h = absurd (omega arith)
rises_above lo hi (x ∷ xs) zero p h = p.0
rises_above lo hi (x ∷ xs) (suc i) p h = let l : suc x ≤ get_or xs i 0 = rises_above (suc x) hi xs i p.1 (omega arith) in omega arith

rises_in_order : (lo hi : ℕ) (xs : List ℕ) (h i : ℕ) → Rises lo xs hi → h < i → i < length xs → get_or xs h 0 < get_or xs i 0
rises_in_order lo hi [] h i p l k = absurd (omega arith)
rises_in_order lo hi (x ∷ xs) h zero p l k = absurd (omega arith)
rises_in_order lo hi (x ∷ xs) zero (suc i) p l k = rises_above (suc x) hi xs i p.1 (omega arith)
rises_in_order lo hi (x ∷ xs) (suc h) (suc i) p l k = rises_in_order (suc x) hi xs h i p.1 (omega arith) (omega arith)

pub places_below : PlacesBelow
places_below s n i h = rises_below 0 n (kept_places s n) i (places_rise s n) h

pub places_in_order : PlacesInOrder
places_in_order s n h i l k = rises_in_order 0 n (kept_places s n) h i (places_rise s n) l k
