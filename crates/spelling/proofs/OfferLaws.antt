-- A word more that is offered, and several; and what the best match comes to.
-- Assumes nothing.
use Rattle.std.specs.Prelude.{Some, None}
use Prim.Native.Nat.{ℕ, zero, suc, ◌+◌, ◌-◌, ◌≤◌, ◌<◌}
use native.Mathlib.Omega.{arith}
use mathlib.Core.Path.{◌≡◌, refl, sym, ap, ◌∙◌}
use mathlib.Core.Bool.{Bool, true, false, ◌||◌}
use mathlib.Core.List.{List, [], ◌∷◌, map}
use lib.ListN.{length, get_or, length-map}
use lib.Dec.{ltb}
use borrow.Author.Tests.{eq-eqb, ne_eqb, lt-ltb, le-ltb}
use Rattle.std.proofs.lemmas.List.{get_or-map}
use Rattle.symbols.specs.declared.Best.{Best}
use Rattle.symbols.specs.Languages.{pick, is_used, word_at}
use Rattle.symbols.specs.Readers.{common, best, has_word, better, offer, choose}
use Rattle.recur.specs.Places.{used_by}
use Rattle.spelling.specs.Offers.{offer_word}

-- ---- one word

-- a word is found, or the word offered is used up
pub passed_by : (i place : ℕ) (w t : List ℕ) (k : Best) → (has_word k || ltb 0 place) ≡ true → k ≡ offer_word i place w t k
unfolding offer_word
passed_by i place w t k e = go (has_word k) (ltb 0 place) e
  where
    go : (x y : Bool) → (x || y) ≡ true → k ≡ pick x k (pick y k (better (common w t) (length w) i k))
    go true y e = refl
    go false true e = refl
    go false false e = absurd (let z : ◌≡◌ {A = ℕ} 0 1 = cc in omega arith)

-- none is found yet, and the word is open
asked : (i place : ℕ) (w t : List ℕ) (k : Best) → (has_word k || ltb 0 place) ≡ false
    → offer_word i place w t k ≡ better (common w t) (length w) i k
unfolding offer_word
asked i place w t k e = go (has_word k) (ltb 0 place) e
  where
    go : (x y : Bool) → (x || y) ≡ false → pick x k (pick y k (better (common w t) (length w) i k)) ≡ better (common w t) (length w) i k
    go false false e = refl
    go true y e = absurd (let z : ◌≡◌ {A = ℕ} 0 1 = cc in omega arith)
    go false true e = absurd (let z : ◌≡◌ {A = ℕ} 0 1 = cc in omega arith)

-- the word is open, and n bytes of it begin the text
compared : (i place n : ℕ) (w t : List ℕ) (k : Best) → (has_word k || ltb 0 place) ≡ false → n ≡ common w t
    → offer_word i place w t k ≡ better n (length w) i k
compared i place n w t k e f = asked i place w t k e ∙ ap (λ (m : ℕ). better m (length w) i k) (sym f)

pub is_found : (i place n : ℕ) (w t : List ℕ) (k : Best) → (has_word k || ltb 0 place) ≡ false → n ≡ common w t → n ≡ length w
    → best (Some i) n ≡ offer_word i place w t k
is_found i place n w t k e f g =
    sym (compared i place n w t k e f ∙ ap (λ (x : Bool). pick x (best (Some i) n) (pick (ltb k.count n) (best None n) k)) (eq-eqb n (length w) g))

unfound : (i place n : ℕ) (w t : List ℕ) (k : Best) (more : Bool) → (has_word k || ltb 0 place) ≡ false → n ≡ common w t → (n ≡ length w → ⊥)
    → ltb k.count n ≡ more → offer_word i place w t k ≡ pick more (best None n) k
unfound i place n w t k more e f g l =
    compared i place n w t k e f
    ∙ ap (λ (x : Bool). pick x (best (Some i) n) (pick (ltb k.count n) (best None n) k)) (ne_eqb n (length w) g)
    ∙ ap (λ (x : Bool). pick x (best None n) k) l

pub goes_further : (i place n : ℕ) (w t : List ℕ) (k : Best) → (has_word k || ltb 0 place) ≡ false → n ≡ common w t → (n ≡ length w → ⊥)
    → k.count < n → best None n ≡ offer_word i place w t k
goes_further i place n w t k e f g l = sym (unfound i place n w t k true e f g (lt-ltb k.count n l))

pub goes_no_further : (i place n : ℕ) (w t : List ℕ) (k : Best) → (has_word k || ltb 0 place) ≡ false → n ≡ common w t → (n ≡ length w → ⊥)
    → n ≤ k.count → k ≡ offer_word i place w t k
goes_no_further i place n w t k e f g l = sym (unfound i place n w t k false e f g (le-ltb k.count n l))

-- ---- the words of a table

-- what the words from the i-th on come to behind the match k
unfoldable pub chosen_from : List (List ℕ) → List Bool → List ℕ → ℕ → Best → Best
unfolding choose
chosen_from words seen t i k = choose words seen (length words - i) i k t

pub all_words : (words : List (List ℕ)) (seen : List Bool) (t : List ℕ) → chosen_from words seen t 0 (best None 0) ≡ choose words seen (length words) 0 (best None 0) t
unfolding chosen_from
all_words words seen t = ap (λ (n : ℕ). choose words seen n 0 (best None 0) t) (let e : length words - 0 ≡ length words = omega arith in e)

pub no_word_left : (words : List (List ℕ)) (seen : List Bool) (t : List ℕ) (i : ℕ) (k : Best) → length words ≤ i → chosen_from words seen t i k ≡ k
unfolding chosen_from
no_word_left words seen t i k h = ap (λ (n : ℕ). choose words seen n i k t) (let e : length words - i ≡ 0 = omega arith in e)

-- once a word is found no other is asked
pub found_stays : (words : List (List ℕ)) (seen : List Bool) (t : List ℕ) (i : ℕ) (k : Best) → has_word k ≡ true → chosen_from words seen t i k ≡ k
unfolding chosen_from choose offer
found_stays words seen t i k e = go (length words - i) i
  where
    go : (n j : ℕ) → choose words seen n j k t ≡ k
    go zero j = refl
    go (suc n) j =
        ap (λ (x : Bool). choose words seen n (j + 1) (pick x k (pick (is_used seen j) k
        (better (common (word_at words j) t) (length (word_at words j)) j k))) t) e
        ∙ go n (j + 1)

-- a name is used up where its value has a place
used_by_lem : (places : List ℕ) (i : ℕ) → i < length places → is_used (used_by places) i ≡ ltb 0 (get_or places i 0)
used_by_lem [] i h = absurd (omega arith)
used_by_lem (p ∷ places) zero h = refl
used_by_lem (p ∷ places) (suc i) h = used_by_lem places i (omega arith)

-- the i-th word is offered
pub word_more : (words : List (List ℕ)) (places t : List ℕ) (i : ℕ) (k r : Best) → i < length words → length places ≡ length words
    → r ≡ offer_word i (get_or places i 0) (word_at words i) t k
    → chosen_from words (used_by places) t i k ≡ chosen_from words (used_by places) t (i + 1) r
unfolding chosen_from offer_word offer
word_more words places t i k r h l e =
    ap (λ (n : ℕ). choose words (used_by places) n i k t) (let n : length words - i ≡ suc (length words - (i + 1)) = omega arith in n)
    ∙ ap (λ (x : Best). choose words (used_by places) (length words - (i + 1)) (i + 1) x t)
    (ap (λ (u : Bool). pick (has_word k) k (pick u k (better (common (word_at words i) t) (length (word_at words i)) i k)))
    (used_by_lem places i (omega arith)) ∙ sym e)

-- the same of a table that is lent
pub lent_more : {A : Type 0} (f : A → List ℕ) (xs : List A) (d : A) (places t : List ℕ) (i : ℕ) (k r : Best) → i < length xs → length places ≡ length xs
    → r ≡ offer_word i (get_or places i 0) (f (get_or xs i d)) t k
    → chosen_from (map f xs) (used_by places) t i k ≡ chosen_from (map f xs) (used_by places) t (i + 1) r
lent_more f xs d places t i k r h l e =
    let n : length (map f xs) ≡ length xs = length-map xs f in
    word_more (map f xs) places t i k r (omega arith) (omega arith)
    (e ∙ ap (λ (w : List ℕ). offer_word i (get_or places i 0) w t k) (sym (get_or-map f xs i d [] h)))
