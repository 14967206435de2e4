-- The tests of a list by the library's words: some entry, entries that rise, and pairs that rise. Then what an entry and a pair leave in a set.
-- Assumes nothing.
use Rattle.std.proofs.Common.{◌≡◌, refl, sym, ap, ◌∙◌, Bool, true, false, ◌||◌, ◌&&◌, ℕ, zero, suc, ◌+◌, ◌<◌, List, [], ◌∷◌, length, get_or, drop, ℤ, arith, Option, Some, None, is_some, not, cond, Less, Equal, Greater}
use Rattle.std.specs.List.{list_any, list_all, zip, IsAllAdjacentAnswer}
use mathlib.Core.Logic.{◌⊎◌, inl, inr}
use mir.Syntax.{w16}
use mir.Val.{SFits, to_z, of_z}
use mir.ValLaws.{to_z-of_z}
use Rattle.std.specs.Int.Signed.{lt_z}
use Rattle.std.specs.Ordering.{int_cmp, is_some_and, is_lt, partial_ordering_then}
use Rattle.rule.specs.Raw.{pairs}
use Rattle.rule.specs.Entries.{marks}
use Rattle.rule.specs.Lists.{is_empty, pair_slot, mark}
use Rattle.rule.specs.Filling.{takes}
use Rattle.rule.proofs.EntryLaws.{pair_done, pair_short}
use Rattle.rule.specs.Refusals.{is_outside, some, rises, rises_from, pair_below, pairs_rise, pairs_rise_from}

pub some_is : (p : ℤ → Bool) (xs : List ℤ) → list_any p xs ≡ some p xs
unfolding some
some_is p [] = refl
some_is p (x ∷ xs) = ap (λ (b : Bool). p x || b) (some_is p xs)

-- a list that rises from a on, if each entry is below the next, and that doesn't, if one is not
rises_all : (a : ℤ) (xs : List ℤ) → ((k : ℕ) (d : ℤ) → suc k < length (a ∷ xs) → true ≡ lt_z (get_or (a ∷ xs) k d) (get_or (a ∷ xs) (suc k) d)) → rises_from a xs ≡ true
unfolding rises_from
rises_all a [] h = refl
rises_all a (x ∷ xs) h = rw (sym (h 0 a (omega arith)), rises_from) (rises_all x xs (λ k d l. h (suc k) d (omega arith)))

rises_broken : (a : ℤ) (xs : List ℤ) (k : ℕ) → suc k < length (a ∷ xs) → ((d : ℤ) → false ≡ lt_z (get_or (a ∷ xs) k d) (get_or (a ∷ xs) (suc k) d)) → rises_from a xs ≡ false
unfolding rises_from
rises_broken a [] k l h = absurd (omega arith)
rises_broken a (x ∷ xs) zero l h = rw (sym (h a), rises_from)
rises_broken a (x ∷ xs) (suc k) l h = go (lt_z a x) (rises_broken x xs k (omega arith) h)
  where
    go : (b : Bool) → rises_from x xs ≡ false → elim b [ true ↦ rises_from x xs | false ↦ false ] ≡ false
    go true e = e
    go false e = refl

after : (xs : List ℤ) (k : ℕ) (d : ℤ) → lt_z (get_or xs k d) (get_or xs (k + 1) d) ≡ lt_z (get_or xs k d) (get_or xs (suc k) d)
after xs k d = ap (λ (n : ℕ). lt_z (get_or xs k d) (get_or xs n d)) (let e : k + 1 ≡ suc k = omega arith in e)

pub rises_by : (xs : List ℤ) (r : Bool) → IsAllAdjacentAnswer (λ x y b. b ≡ lt_z x y) xs r → r ≡ rises xs
unfolding rises
rises_by [] true h = refl
rises_by [] false h = let l : h.0 + 1 < 0 = h.1 in absurd (omega arith)
rises_by (x ∷ xs) true h = sym (rises_all x xs (λ k d l. h k d (omega arith) ∙ after (x ∷ xs) k d))
rises_by (x ∷ xs) false h = sym (rises_broken x xs h.0 (let l : h.0 + 1 < length (x ∷ xs) = h.1 in omega arith) (λ d. h.2 d ∙ after (x ∷ xs) h.0 d))

abbrev pub below_next : (ℤ × ℤ) × (ℤ × ℤ) → Bool
below_next p = pair_below p.0.0 p.0.1 p.1.0 p.1.1

pairs_from : (n w : ℤ) (ns ws : List ℤ) → list_all below_next (zip ((n, w) ∷ zip ns ws) (zip ns ws)) ≡ pairs_rise_from n w ns ws
unfolding pairs_rise_from
pairs_from n w [] ws = refl
pairs_from n w (m ∷ ns) [] = refl
pairs_from n w (m ∷ ns) (v ∷ ws) = go (pair_below n w m v) (pairs_from m v ns ws)
  where
    go : (b : Bool) → list_all below_next (zip ((m, v) ∷ zip ns ws) (zip ns ws)) ≡ pairs_rise_from m v ns ws
        → (b && list_all below_next (zip ((m, v) ∷ zip ns ws) (zip ns ws))) ≡ elim b [ true ↦ pairs_rise_from m v ns ws | false ↦ false ]
    go true e = e
    go false e = refl

pub pairs_by : (ns ws : List ℤ) → list_all below_next (zip (zip ns ws) (drop 1 (zip ns ws))) ≡ pairs_rise ns ws
unfolding pairs_rise
pairs_by [] ws = refl
pairs_by (n ∷ ns) [] = refl
pairs_by (n ∷ ns) (w ∷ ws) = pairs_from n w ns ws

pub pair_less : {n w m v n' w' m' v' : ℤ} → n' ≡ n → w' ≡ w → m' ≡ m → v' ≡ v
    → is_some_and is_lt (partial_ordering_then (Some (int_cmp n' m')) (Some (int_cmp w' v'))) ≡ pair_below n w m v
pair_less {n} {w} {m} {v} en ew em ev = rw (en, ew, em, ev) (go (lt_z n m) (lt_z m n) (lt_z w v) (lt_z v w))
  where
    go : (a b d e : Bool)
        → is_some_and is_lt (partial_ordering_then (Some (cond a Less (cond b Greater Equal))) (Some (cond d Less (cond e Greater Equal)))) ≡ (a || (not b && d))
    go true b d e = refl
    go false true d e = refl
    go false false true e = refl
    go false false false true = refl
    go false false false false = refl

pub outside_is : (o : Option ℕ) (b : Bool) → is_some o ≡ not b → b ≡ is_outside o
outside_is None true e = refl
outside_is None false e = e
outside_is (Some i) true e = e
outside_is (Some i) false e = refl

-- an empty set takes a slot where it is to
pub take_so : (b : Bool) (s : List Bool) (e : Option ℕ) → (b && is_empty s) ≡ true → takes b s e ≡ mark s e
unfolding takes
take_so b s e h = rw h

pub take_not : (b : Bool) (s : List Bool) (e : Option ℕ) → (b && is_empty s) ≡ false → takes b s e ≡ s
unfolding takes
take_not b s e h = rw h

-- the value that a function is handed of a 16-bit number
pub same_value : (v : ℤ) → SFits w16 v → to_z w16 (of_z w16 v) ≡ v
same_value v f = to_z-of_z w16 v f

-- a set marked with the pairs that are left: one more, and none
pub pairs_next : (s t : List Bool) {ns ws ns' ws' : List ℤ} {n w : ℤ} → ns ≡ n ∷ ns' → ws ≡ w ∷ ws' → t ≡ mark s (pair_slot n w)
    → marks s (pairs ns ws) ≡ marks t (pairs ns' ws')
unfolding marks pairs
pairs_next s t e f g = rw (e, f, g)

pub pairs_over : {I : Type 0} {P Q : I → Type 0} (s : List Bool) (ns ws : List ℤ)
    → ((x : I) × ((length ns ≡ 0) × P x)) ⊎ ((x : I) × ((length ws ≡ 0) × Q x)) → marks s (pairs ns ws) ≡ s
pairs_over s ns ws (inl h) = pair_done s ns ws 0 (let e : length ns ≡ 0 = h.1.0 in omega arith)
pairs_over s ns ws (inr h) = pair_short s ns ws 0 (let e : length ws ≡ 0 = h.1.0 in omega arith)
