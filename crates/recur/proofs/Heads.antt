-- What words begin with, and that none is empty: a symbol behind another must be told from what the first could still take.
-- Assumes nothing.
use Prim.Native.Nat.{ℕ, zero, suc, ◌-◌, ◌≤◌, ◌<◌}
use native.Mathlib.Omega.{arith}
use mathlib.Core.Path.{◌≡◌, refl, sym, ap, ◌∙◌, subst}
use mathlib.Core.Bool.{Bool, true, false, ◌&&◌}
use mathlib.Core.List.{List, [], ◌∷◌, ◌++◌}
use lib.ListN.{length}
use lib.Dec.{leb}
use borrow.Author.Tests.{leb-true, le-leb, lt-leb, ne_eqb}
use Rattle.symbols.specs.Languages.{is_digit, all_digits, Numeral, Byte, pick, upper, word_at, Spelled, Followed, Perhaps, Perhaps.missing, Perhaps.there, Turned}
use Rattle.symbols.specs.Languages.{Joined, Joined.one, Joined.more}
use Rattle.symbols.specs.Counts.{Three}
use Rattle.symbols.proofs.Cuts.{and_both, head_same, not_empty}
use Rattle.recur.specs.Grammar.{is_sign}
use Rattle.recur.specs.Reading.{is_numbered}

-- no word is empty
abbrev pub Filled : {A : Type 0} → (A → List ℕ → Type 0) → Type 0
Filled {A} L = (a : A) → L a [] → ⊥

-- a word that isn't empty begins with a byte of R
abbrev pub Heads : {A : Type 0} → (A → List ℕ → Type 0) → (ℕ → Type 0) → Type 0
Heads {A} L R = (a : A) (c : ℕ) (zs : List ℕ) → L a (c ∷ zs) → R c

-- ---- ways of putting symbols together

second_empty : (xs ys : List ℕ) → [] ≡ xs ++ ys → ys ≡ []
second_empty [] ys e = sym e
second_empty (x ∷ xs) ys e = absurd (not_empty (sym e))

module _ (A B : Type 0) (L : A → List ℕ → Type 0) (M : A → B → List ℕ → Type 0) where
  pub filled_followed : ((a : A) → Filled (M a)) → Filled (Followed A B L M)
  filled_followed f v d = f v.first v.second (rw (second_empty d.xs d.ys d.whole) at d.right)

  pub heads_followed : (R : ℕ → Type 0) → Heads L R → ((a : A) → Heads (M a) R) → Heads (Followed A B L M) R
  heads_followed R f g v c zs d = go d.xs d.left d.whole
    where
      go : (xs : List ℕ) → L v.first xs → c ∷ zs ≡ xs ++ d.ys → R c
      go [] l e = g v.first v.second c zs (rw (← e) at d.right)
      go (x ∷ xs) l e = subst R (sym (head_same e)) (f v.first x xs l)

pub heads_perhaps : {A : Type 0} {none : A} {L : A → List ℕ → Type 0} (R : ℕ → Type 0) → Heads L R → Heads (Perhaps A none L) R
heads_perhaps R f a c zs (missing e) = absurd (not_empty e)
heads_perhaps R f a c zs (there l) = f a c zs l

module _ (A B : Type 0) (f : A → B) (L : A → List ℕ → Type 0) where
  pub filled_turned : Filled L → Filled (Turned A B f L)
  filled_turned h b d = h d.from d.spelled

  pub heads_turned : (R : ℕ → Type 0) → Heads L R → Heads (Turned A B f L) R
  heads_turned R h b c zs d = h d.from c zs d.spelled

module _ (S A : Type 0) (next : S → A → S) (L : S → A → List ℕ → Type 0) (c : ℕ) (f : (s : S) → Filled (L s)) where
  empty_joined : (n : ℕ) (s : S) (bs : List A) (zs : List ℕ) → Joined S A next L c n s bs zs → zs ≡ [] → ⊥
  empty_joined n s [] zs j e = elim j [ ]
  empty_joined n s (a ∷ []) zs (one l) e = f s a (rw e at l)
  empty_joined (suc n) s (a ∷ bs) zs (more xs ys l j d) e = not_empty (second_empty xs (c ∷ ys) (sym e ∙ d))

  pub filled_joined : (n : ℕ) (s : S) → Filled (Joined S A next L c n s)
  filled_joined n s bs j = empty_joined n s bs [] j refl

-- ---- one byte

module _ (test : ℕ → Bool) where
  pub filled_byte : Filled (Byte test)
  filled_byte a d = not_empty (sym d.alone)

  pub heads_byte : Heads (Byte test) (λ (c : ℕ). test c ≡ true)
  heads_byte a c zs d = ap test (head_same d.alone) ∙ d.passes

-- ---- numbers

pub filled_three : (low : ℕ) → Filled (Three low)
filled_three low v d = omega (arith, d.some)

-- a number begins with a digit, which is no sign: so a sign before it is told by its first byte
first_digit : (v c : ℕ) (zs : List ℕ) → Numeral v (c ∷ zs) → is_digit c ≡ true
unfolding all_digits
first_digit v c zs d = (and_both (is_digit c) (all_digits zs) d.digits).0

pub heads_three : (low : ℕ) → Heads (Three low) (λ (c : ℕ). is_digit c ≡ true)
heads_three low v c zs d = first_digit v c zs d.numeral

pub digit_no_sign : (c : ℕ) → is_digit c ≡ true → is_sign c ≡ false
digit_no_sign c e =
    let h : 48 ≤ c = leb-true 48 c (and_both (leb 48 c) (leb c 57) e).0 in
    rw (ne_eqb c 43 (λ z. omega arith), ne_eqb c 45 (λ z. omega arith))

-- ---- words of a table

-- Each word begins with a byte above the digits and signs: so a number before it is told by its first byte.
abbrev begun : List ℕ → Bool
begun [] = false
begun (b ∷ w) = leb 58 b

unfoldable pub all_begun : List (List ℕ) → Bool
all_begun [] = true
all_begun (w ∷ ws) = begun w && all_begun ws

begun_at : (words : List (List ℕ)) → all_begun words ≡ true → (a : ℕ) → a < length words → begun (word_at words a) ≡ true
unfolding all_begun
begun_at [] e a h = absurd (omega arith)
begun_at (w ∷ ws) e zero h = (and_both (begun w) (all_begun ws) e).0
begun_at (w ∷ ws) e (suc a) h = begun_at ws (and_both (begun w) (all_begun ws) e).1 a (omega arith)

-- capitals lie below small letters
not_below : (c : ℕ) → 58 ≤ upper c → 58 ≤ c
not_below c = go (leb 97 c && leb c 122)
  where
    go : (b : Bool) → 58 ≤ pick b (c - 32) c → 58 ≤ c
    go true h = omega arith
    go false h = h

module _ (words : List (List ℕ)) (e : all_begun words ≡ true) (seen : List Bool) where
  pub filled_word : Filled (Spelled words seen)
  filled_word a d = let f : false ≡ true = ap begun d.same ∙ begun_at words e a d.there in let z : ◌≡◌ {A = ℕ} 0 1 = cc in omega arith

  pub heads_word : Heads (Spelled words seen) (λ (c : ℕ). 58 ≤ c)
  heads_word a c zs d = not_below c (leb-true 58 (upper c) (ap begun d.same ∙ begun_at words e a d.there))

pub above_no_number : (c : ℕ) → 58 ≤ c → is_numbered c ≡ false
above_no_number c h = rw (le-leb 48 c (omega arith), lt-leb c 57 (omega arith), ne_eqb c 43 (λ z. omega arith), ne_eqb c 45 (λ z. omega arith))
