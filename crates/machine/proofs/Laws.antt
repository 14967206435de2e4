-- Laws of lists.
-- Assumes nothing.
use Prim.Native.Nat.{ℕ, zero, suc, ◌+◌, ◌≤◌, ◌<◌}
use mathlib.Core.Path.{◌≡◌, refl, sym, ◌∙◌}
use mathlib.Core.Logic.{◌⊎◌, inl, inr, ⊎_elim}
use mathlib.Core.Bool.{Bool, true, false}
use mathlib.Core.List.{List, [], ◌∷◌, ◌++◌}
use lib.ListN.{length, get_or, take, drop}
use lib.Seq.{drop-nil}
use native.Mathlib.Omega.{arith}
use Rattle.machine.specs.Rising.{◌∈◌, Rises}

pub split : (b : Bool) → (b ≡ true) ⊎ (b ≡ false)
split true = inl refl
split false = inr refl

-- lists that rise
pub rises_le : (a b : ℕ) (xs : List ℕ) → Rises a xs b → a ≤ b
rises_le a b [] h = h
rises_le a b (x ∷ xs) h = let p = rises_le (suc x) b xs h.1 in omega arith

pub rises_lower : (a b c : ℕ) (xs : List ℕ) → a ≤ b → Rises b xs c → Rises a xs c
rises_lower a b c [] p h = omega arith
rises_lower a b c (x ∷ xs) p h = (omega arith, h.1)

pub rises_append : (a b c : ℕ) (xs ys : List ℕ) → Rises a xs b → Rises b ys c → Rises a (xs ++ ys) c
rises_append a b c [] ys g h = rises_lower a b c ys g h
rises_append a b c (x ∷ xs) ys g h = (g.0, rises_append (suc x) b c xs ys g.1 h)

pub rises_in : (a b t : ℕ) (xs : List ℕ) → Rises a xs b → t ∈ xs → (a ≤ t) × (t < b)
rises_in a b t [] h i = absurd i
rises_in a b t (x ∷ xs) h (inl e) = let p = rises_le (suc x) b xs h.1 in (omega arith, omega arith)
rises_in a b t (x ∷ xs) h (inr i) = let p = rises_in (suc x) b t xs h.1 i in (omega arith, omega arith)

pub rises_length : (a b : ℕ) (xs : List ℕ) → Rises a xs b → a + length xs ≤ b
rises_length a b [] h = omega arith
rises_length a b (x ∷ xs) h = let p = rises_length (suc x) b xs h.1 in omega arith

-- members of two lists
pub in_left : (t : ℕ) (xs ys : List ℕ) → t ∈ xs → t ∈ (xs ++ ys)
in_left t [] ys i = absurd i
in_left t (x ∷ xs) ys (inl e) = inl e
in_left t (x ∷ xs) ys (inr i) = inr (in_left t xs ys i)

pub in_right : (t : ℕ) (xs ys : List ℕ) → t ∈ ys → t ∈ (xs ++ ys)
in_right t [] ys i = i
in_right t (x ∷ xs) ys i = inr (in_right t xs ys i)

pub in_append : (t : ℕ) (xs ys : List ℕ) → t ∈ (xs ++ ys) → (t ∈ xs) ⊎ (t ∈ ys)
in_append t [] ys i = inr i
in_append t (x ∷ xs) ys (inl e) = inl (inl e)
in_append t (x ∷ xs) ys (inr i) = ⊎_elim (λ (a : t ∈ xs). inl (inr a)) (λ (a : t ∈ ys). inr a) (in_append t xs ys i)

-- element p of a list, or its bound where there is none
pub at_low : (a b p : ℕ) (xs : List ℕ) → Rises a xs b → a ≤ get_or xs p b
at_low a b p [] h = h
at_low a b zero (x ∷ xs) h = h.0
at_low a b (suc p) (x ∷ xs) h = let q = at_low (suc x) b p xs h.1 in omega arith

pub at_high : (a b p : ℕ) (xs : List ℕ) → Rises a xs b → get_or xs p b ≤ b
at_high a b p [] h = omega arith
at_high a b zero (x ∷ xs) h = let q = rises_le (suc x) b xs h.1 in omega arith
at_high a b (suc p) (x ∷ xs) h = at_high (suc x) b p xs h.1

pub at_none : (b p : ℕ) (l : List ℕ) → drop p l ≡ [] → get_or l p b ≡ b
at_none b p [] e = refl
at_none b zero (x ∷ xs) e = absurd (let z : ◌≡◌ {A = ℕ} 0 1 = cc in omega arith)
at_none b (suc p) (x ∷ xs) e = at_none b p xs e

-- nothing of a rising list lies below its first
pub none_below : (a b t : ℕ) (xs : List ℕ) → Rises a xs b → t ∈ xs → get_or xs 0 b ≤ t
none_below a b t [] h i = absurd i
none_below a b t (x ∷ xs) h i = let q = (rises_in x b t (x ∷ xs) (omega arith, h.1) i).0 in q

-- element p is there, it is below element q, the one after it, and nothing lies between the two
pub record There (b p q x : ℕ) (l : List ℕ) : Type 0 where
  pub here : get_or l p b ≡ x
  pub member : x ∈ l
  pub later : x < get_or l q b
  pub room : q ≤ length l
  pub gap : (t : ℕ) → t ∈ l → x ≤ t → t < get_or l q b → t ≡ x

pub there : (a b p x : ℕ) (l xs : List ℕ) → Rises a l b → drop p l ≡ x ∷ xs → There b p (suc p) x l
there a b p x [] xs h e = absurd (let y : ◌≡◌ {A = List ℕ} [] (x ∷ xs) = sym (drop-nil p) ∙ e in let z : ◌≡◌ {A = ℕ} 0 1 = cc in omega arith)
there a b zero x (y ∷ ys) xs h e =
    let s : y ≡ x = cc in
    let q = at_low (suc y) b 0 ys h.1 in
    record {
      here = s;
      member = inl (sym s);
      later = omega arith;
      room = omega arith;
      gap = λ t i u v. ⊎_elim (λ (z : t ≡ y). omega arith) (λ (z : t ∈ ys). let w = none_below (suc y) b t ys h.1 z in absurd (omega arith)) i;
    }
there a b (suc p) x (y ∷ ys) xs h e =
    let r = there (suc y) b p x ys xs h.1 e in
    let q = rises_in (suc y) b x ys h.1 r.member in
    record {
      here = r.here;
      member = inr r.member;
      later = r.later;
      room = omega arith;
      gap = λ t i u v. ⊎_elim (λ (z : t ≡ y). absurd (omega arith)) (λ (z : t ∈ ys). r.gap t z u v) i;
    }

-- a rising list of members of another, which skips none below its own, is a first part of it
pub first_part : (a b c d : ℕ) (xs ys : List ℕ) → Rises a xs b → Rises c ys d
    → ((t : ℕ) → t ∈ xs → t ∈ ys)
    → ((t u : ℕ) → t ∈ ys → t ≤ u → u ∈ xs → t ∈ xs)
    → take (length xs) ys ≡ xs
first_part a b c d [] ys h k f n = refl
first_part a b c d (x ∷ xs) [] h k f n = absurd (f x (inl refl))
first_part a b c d (x ∷ xs) (y ∷ ys) h k f n =
    let later : (t : ℕ) → t ∈ xs → x < t = λ t i. (rises_in (suc x) b t xs h.1 i).0 in
    let after : (t : ℕ) → t ∈ ys → y < t = λ t i. (rises_in (suc y) d t ys k.1 i).0 in
    let le : y ≤ x = ⊎_elim (λ (e : x ≡ y). omega arith) (λ (i : x ∈ ys). omega (arith, after x i)) (f x (inl refl)) in
    let e : y ≡ x = ⊎_elim (λ (e : y ≡ x). e) (λ (i : y ∈ xs). absurd (omega (arith, later y i))) (n y x (inl refl) le (inl refl)) in
    let rest : take (length xs) ys ≡ xs = first_part (suc x) b (suc y) d xs ys h.1 k.1
    (λ t i. ⊎_elim (λ (q : t ≡ y). absurd (omega (arith, later t i))) (λ (j : t ∈ ys). j) (f t (inr i)))
    (λ t u i l j. ⊎_elim (λ (q : t ≡ x). absurd (omega (arith, after t i))) (λ (v : t ∈ xs). v) (n t u (inr i) l (inr j))) in
    cc
