-- How a grammar over bytes is put together. A symbol with values in A has a language `A → List ℕ → Type 0`: which bytes spell which value.
-- Assumes nothing.
use Rattle.std.specs.Prelude.{ℕ, suc, ◌+◌, ◌-◌, ◌*◌, ◌≤◌, ◌≡◌, Bool, true, false, ◌&&◌, List, [], ◌∷◌, ◌++◌, map, length, get_or, leb}

-- ---- digits

abbrev pub is_digit : ℕ → Bool
is_digit b = leb 48 b && leb b 57

unfoldable pub all_digits : List ℕ → Bool
all_digits [] = true
all_digits (b ∷ bs) = is_digit b && all_digits bs

-- the number that digits stand for, behind those of v
unfoldable pub number_from : ℕ → List ℕ → ℕ
number_from v [] = v
number_from v (b ∷ bs) = number_from (v * 10 + (b - 48)) bs

-- bytes that are digits, and their number
pub record Numeral (v : ℕ) (bs : List ℕ) : Type 0 where
  pub digits : all_digits bs ≡ true
  pub number : v ≡ number_from 0 bs

-- ---- one byte that passes a test

pub record Byte (test : ℕ → Bool) (b : ℕ) (bs : List ℕ) : Type 0 where
  pub passes : test b ≡ true
  pub alone : bs ≡ b ∷ []

-- ---- a word of a table

abbrev pub pick : {A : Type 0} → Bool → A → A → A
pick true x y = x
pick false x y = y

-- a letter's capital; every other byte is its own
abbrev pub upper : ℕ → ℕ
upper b = pick (leb 97 b && leb b 122) (b - 32) b

-- Which words are open is told by flags: a word whose flag is set is used up, and past the flags there is none.
abbrev pub is_used : List Bool → ℕ → Bool
is_used seen i = get_or seen i true

abbrev pub word_at : List (List ℕ) → ℕ → List ℕ
word_at words i = get_or words i []

-- the bytes spell the word number a, which is open, in either letter case
pub record Spelled (words : List (List ℕ)) (seen : List Bool) (a : ℕ) (bs : List ℕ) : Type 0 where
  pub there : suc a ≤ length words
  pub unused : is_used seen a ≡ false
  pub same : map upper bs ≡ word_at words a

-- ---- one symbol behind another

pub record Both (A B : Type 0) : Type 0 where
  pub first : A
  pub second : B

abbrev pub both : {A B : Type 0} → A → B → Both A B
both a b = record { first = a; second = b }

-- which symbol the second is may hang on the first's value
pub record Followed (A B : Type 0) (L : A → List ℕ → Type 0) (M : A → B → List ℕ → Type 0) (v : Both A B) (zs : List ℕ) : Type 0 where
  pub xs : List ℕ
  pub ys : List ℕ
  pub left : L v.first xs
  pub right : M v.first v.second ys
  pub whole : zs ≡ xs ++ ys

-- ---- a symbol that may be missing, and one whose value is turned into another

pub data Perhaps (A : Type 0) (none : A) (L : A → List ℕ → Type 0) : A → List ℕ → Type 0 where
  missing : {bs : List ℕ} → bs ≡ [] → Perhaps A none L none bs
  there : {a : A} {bs : List ℕ} → L a bs → Perhaps A none L a bs

pub record Turned (A B : Type 0) (f : A → B) (L : A → List ℕ → Type 0) (b : B) (bs : List ℕ) : Type 0 where
  pub from : A
  pub spelled : L from bs
  pub turned : b ≡ f from

-- ---- symbols joined by a byte

-- Symbols joined by the byte c, n of them at most behind the first. Which symbols may stand there hangs on those before: a state goes along.
pub data Joined (S A : Type 0) (next : S → A → S) (L : S → A → List ℕ → Type 0) (c : ℕ) : ℕ → S → List A → List ℕ → Type 0 where
  one : {n : ℕ} {s : S} {a : A} {zs : List ℕ} → L s a zs → Joined S A next L c n s (a ∷ []) zs
  more : {n : ℕ} {s : S} {a : A} {bs : List A} {zs : List ℕ} (xs ys : List ℕ)
      → L s a xs → Joined S A next L c n (next s a) bs ys → zs ≡ xs ++ c ∷ ys → Joined S A next L c (suc n) s (a ∷ bs) zs
