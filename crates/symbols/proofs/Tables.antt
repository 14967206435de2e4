-- A word of a table, whichever words are used up: one computed test that no word begins another, and one that all are in capitals.
-- Assumes nothing.
use Prim.Native.Nat.{ℕ, zero, suc, ◌<◌}
use native.Mathlib.Omega.{arith}
use mathlib.Core.Path.{◌≡◌, refl, sym, ap, ◌∙◌, subst}
use mathlib.Core.Bool.{Bool, true, false, not, ◌&&◌}
use mathlib.Core.List.{List, [], ◌∷◌, ◌++◌, map, append-nil}
use lib.ListN.{length}
use lib.Dec.{eqb}
use borrow.Author.Tests.{eqb-true, eq-eqb, not-true}
use Rattle.symbols.specs.Languages.{upper, is_used, word_at, Spelled}
use Rattle.symbols.specs.Takes.{Takes}
use Rattle.symbols.specs.Readers.{word}
use Rattle.symbols.proofs.Cuts.{and_both, cons_same, tail_same, not_empty}
use Rattle.symbols.proofs.Words.{map-append, takes_word}

-- ---- no word begins another

-- the first is the beginning of the second, or the second itself
unfoldable pub starts : List ℕ → List ℕ → Bool
starts [] w = true
starts (x ∷ a) [] = false
starts (x ∷ a) (y ∷ b) = eqb x y && starts a b

unfoldable pub apart_from : List ℕ → List (List ℕ) → Bool
unfolding starts
apart_from w [] = true
apart_from w (v ∷ vs) = not (starts w v) && (not (starts v w) && apart_from w vs)

unfoldable pub apart_all : List (List ℕ) → Bool
unfolding apart_from
apart_all [] = true
apart_all (w ∷ ws) = apart_from w ws && apart_all ws

starts_append : (a b : List ℕ) → starts a (a ++ b) ≡ true
unfolding starts
starts_append [] b = refl
starts_append (x ∷ a) b = rw (eq-eqb x x refl) (starts_append a b)

no_start : (w v : List ℕ) → not (starts w v) ≡ true → starts w v ≡ true → ⊥
no_start w v e f = let z : starts w v ≡ false = not-true _ e in let y : ◌≡◌ {A = ℕ} 0 1 = cc in omega arith

-- the parts of a word's test against the rest of the table
parts : (w v : List ℕ) (vs : List (List ℕ)) → apart_from w (v ∷ vs) ≡ true
    → (not (starts w v) ≡ true) × (not (starts v w) ≡ true) × (apart_from w vs ≡ true)
unfolding apart_from
parts w v vs e = ((and_both _ _ e).0, f.0, f.1)
  where
    f : (not (starts v w) ≡ true) × (apart_from w vs ≡ true)
    f = and_both _ _ (and_both (not (starts w v)) _ e).1

from_at : (w : List ℕ) (vs : List (List ℕ)) → apart_from w vs ≡ true → (b : ℕ) → b < length vs
    → (starts w (word_at vs b) ≡ true → ⊥) × (starts (word_at vs b) w ≡ true → ⊥)
from_at w [] e b h = absurd (omega arith)
from_at w (v ∷ vs) e zero h = (no_start w v (parts w v vs e).0, no_start v w (parts w v vs e).1)
from_at w (v ∷ vs) e (suc b) h = from_at w vs (parts w v vs e).2 b (omega arith)

one_word : (words : List (List ℕ)) → apart_all words ≡ true → (a b : ℕ) → a < length words → b < length words
    → starts (word_at words a) (word_at words b) ≡ true → a ≡ b
unfolding apart_all
one_word [] e a b h k s = absurd (omega arith)
one_word (w ∷ ws) e zero zero h k s = refl
one_word (w ∷ ws) e zero (suc b) h k s = absurd ((from_at w ws (and_both _ _ e).0 b (omega arith)).0 s)
one_word (w ∷ ws) e (suc a) zero h k s = absurd ((from_at w ws (and_both _ _ e).0 a (omega arith)).1 s)
one_word (w ∷ ws) e (suc a) (suc b) h k s = ap suc (one_word ws (and_both (apart_from w ws) _ e).1 a b (omega arith) (omega arith) s)

-- ---- words in capitals

unfoldable pub in_capitals : List ℕ → Bool
in_capitals [] = true
in_capitals (b ∷ w) = eqb (upper b) b && in_capitals w

unfoldable pub capital_all : List (List ℕ) → Bool
unfolding in_capitals
capital_all [] = true
capital_all (w ∷ ws) = in_capitals w && capital_all ws

own_capitals : (w : List ℕ) → in_capitals w ≡ true → map upper w ≡ w
unfolding in_capitals
own_capitals [] e = refl
own_capitals (b ∷ w) e = cons_same (eqb-true (upper b) b (and_both _ _ e).0) (own_capitals w (and_both (eqb (upper b) b) _ e).1)

all_capitals : (words : List (List ℕ)) → capital_all words ≡ true → (a : ℕ) → a < length words → map upper (word_at words a) ≡ word_at words a
unfolding capital_all
all_capitals [] e a h = absurd (omega arith)
all_capitals (w ∷ ws) e zero h = own_capitals w (and_both _ _ e).0
all_capitals (w ∷ ws) e (suc a) h = all_capitals ws (and_both (in_capitals w) _ e).1 a (omega arith)

-- ---- spelled words

begins_other : (words : List (List ℕ)) → apart_all words ≡ true → (seen used : List Bool) (a b : ℕ) (xs ys : List ℕ)
    → Spelled words seen a xs → Spelled words used b (xs ++ ys) → a ≡ b
begins_other words e seen used a b xs ys d f =
    one_word words e a b d.there f.there
    (subst (λ (w : List ℕ). starts (word_at words a) w ≡ true)
    (ap (λ (z : List ℕ). z ++ map upper ys) (sym d.same) ∙ sym (map-append xs ys) ∙ f.same) (starts_append (word_at words a) (map upper ys)))

-- no bytes spell two words
pub spelled_alone : (words : List (List ℕ)) → apart_all words ≡ true → (seen used : List Bool) (a b : ℕ) (xs : List ℕ)
    → Spelled words seen a xs → Spelled words used b xs → a ≡ b
spelled_alone words e seen used a b xs d f =
    begins_other words e seen used a b xs [] d (subst (λ (z : List ℕ). Spelled words used b z) (sym (append-nil xs)) f)

longer : (a : List ℕ) (c : ℕ) (ys : List ℕ) → a ≡ a ++ c ∷ ys → ⊥
longer [] c ys e = not_empty (sym e)
longer (x ∷ a) c ys e = longer a c ys (tail_same e)

-- what spells a word begins no other
pub spelled_free : (words : List (List ℕ)) → apart_all words ≡ true → (seen used : List Bool) (a b c : ℕ) (xs ys : List ℕ)
    → Spelled words seen a xs → Spelled words used b (xs ++ c ∷ ys) → ⊥
spelled_free words e seen used a b c xs ys d f =
    let i : a ≡ b = begins_other words e seen used a b xs (c ∷ ys) d f in
    longer (map upper xs) (upper c) (map upper ys)
    (d.same ∙ ap (λ (k : ℕ). word_at words k) i ∙ sym f.same ∙ map-append xs (c ∷ ys))

-- A word of the table that is open is read, or its longest beginning, where one is open.
pub takes_table : (words : List (List ℕ)) → apart_all words ≡ true → capital_all words ≡ true → (seen : List Bool) (o : ℕ) → o < length words
    → is_used seen o ≡ false → Takes ℕ (word words seen) (Spelled words seen) (λ (b : ℕ). Unit {0})
takes_table words e f seen o h u =
    takes_word words seen (all_capitals words f) (spelled_free words e seen seen) (spelled_alone words e seen seen) o h u
