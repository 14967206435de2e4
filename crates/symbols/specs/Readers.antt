-- Readers of the symbols of Languages, each of which goes as far as some word goes.
-- Assumes nothing.
use Rattle.std.specs.Prelude.{ℕ, zero, suc, ◌+◌, ◌-◌, ◌*◌, ◌≡◌, Bool, true, false, ◌&&◌, List, [], ◌∷◌, length, drop, eqb, ltb, Option, Some, None, is_some, unwrap_or}
use Rattle.symbols.specs.declared.Best.{Best}
use Rattle.symbols.specs.Languages.{is_digit, pick, upper, is_used, word_at, Both, both}
use Rattle.symbols.specs.Takes.{Took, took}

-- ---- digits

-- A number in digits, of which n with the value v are read: which digit may come next, and whether it may end here.
pub record Counting : Type 0 where
  pub may : ℕ → ℕ → ℕ → Bool
  pub enough : ℕ → ℕ → Bool

abbrev pub may_take : Counting → ℕ → ℕ → ℕ → Bool
may_take g n v b = is_digit b && g.may n v (b - 48)

-- the digits xs, behind n with the value v, give w
unfoldable pub Digits : Counting → ℕ → ℕ → ℕ → List ℕ → Type 0
Digits g n v w [] = (g.enough n v ≡ true) × (w ≡ v)
Digits g n v w (b ∷ xs) = (may_take g n v b ≡ true) × Digits g (n + 1) (v * 10 + (b - 48)) w xs

unfoldable pub digits : Counting → ℕ → ℕ → ℕ → List ℕ → Took ℕ
digits g n v at [] = took (g.enough n v) at [] v
digits g n v at (b ∷ t) = elim (may_take g n v b) [
  | true ↦ digits g (n + 1) (v * 10 + (b - 48)) (at + 1) t
  | false ↦ took (g.enough n v) at (b ∷ t) v
]

-- ---- one byte that passes a test

unfoldable pub byte : (ℕ → Bool) → ℕ → List ℕ → Took ℕ
byte test at [] = took false at [] 0
byte test at (b ∷ t) = elim (test b) [ true ↦ took true (at + 1) t b | false ↦ took false at (b ∷ t) 0 ]

-- ---- a word of a table

-- how many bytes of a word begin the text
unfoldable pub common : List ℕ → List ℕ → ℕ
common [] t = 0
common (c ∷ w) [] = 0
common (c ∷ w) (b ∷ t) = elim (eqb (upper b) c) [ true ↦ suc (common w t) | false ↦ 0 ]

-- the best match so far
abbrev pub best : Option ℕ → ℕ → Best
best which count = record { which = which; count = count }

abbrev pub has_word : Best → Bool
has_word k = is_some k.which

-- the word's number, which is 0 where none is found
abbrev pub number_of : Best → ℕ
number_of k = unwrap_or k.which 0

abbrev pub better : ℕ → ℕ → ℕ → Best → Best
better n size i k = pick (eqb n size) (best (Some i) n) (pick (ltb k.count n) (best None n) k)

unfoldable pub offer : List (List ℕ) → List Bool → ℕ → Best → List ℕ → Best
unfolding common
offer words seen i k t = pick (has_word k) k (pick (is_used seen i) k (better (common (word_at words i) t) (length (word_at words i)) i k))

unfoldable pub choose : List (List ℕ) → List Bool → ℕ → ℕ → Best → List ℕ → Best
unfolding offer
choose words seen zero i k t = k
choose words seen (suc n) i k t = choose words seen n (i + 1) (offer words seen i k t) t

abbrev pub chosen : Best → ℕ → List ℕ → Took ℕ
chosen k at t = took (has_word k) (at + k.count) (drop k.count t) (number_of k)

unfoldable pub word : List (List ℕ) → List Bool → ℕ → List ℕ → Took ℕ
unfolding choose
word words seen at t = chosen (choose words seen (length words) 0 (best None 0) t) at t

-- ---- one symbol behind another

abbrev pub with_first : {A B : Type 0} → A → Took B → Took (Both A B)
with_first a k = took k.whole k.place k.rest (both a k.value)

-- the second is read only where the first is whole; `none` stands for its value elsewhere
unfoldable pub followed : {A B : Type 0} → (ℕ → List ℕ → Took A) → (A → ℕ → List ℕ → Took B) → B → ℕ → List ℕ → Took (Both A B)
followed take then none at t =
    elim (take at t).whole [
      | true ↦ with_first (take at t).value (then (take at t).value (take at t).place (take at t).rest)
      | false ↦ took false (take at t).place (take at t).rest (both (take at t).value none)
    ]

-- ---- a symbol that may be missing, and one whose value is turned into another

-- the symbol is there where the first byte passes the test
unfoldable pub perhaps : {A : Type 0} → (ℕ → Bool) → A → (ℕ → List ℕ → Took A) → ℕ → List ℕ → Took A
perhaps starts none take at [] = took true at [] none
perhaps starts none take at (b ∷ t) = elim (starts b) [ true ↦ take at (b ∷ t) | false ↦ took true at (b ∷ t) none ]

abbrev pub turned_into : {A B : Type 0} → (A → B) → Took A → Took B
turned_into f k = took k.whole k.place k.rest (f k.value)

abbrev pub turned : {A B : Type 0} → (A → B) → (ℕ → List ℕ → Took A) → ℕ → List ℕ → Took B
turned f take at t = turned_into f (take at t)

-- ---- symbols joined by a byte

-- the first byte is c
abbrev pub head_is : ℕ → List ℕ → Bool
head_is c [] = false
head_is c (b ∷ r) = eqb b c

abbrev pub behind : List ℕ → List ℕ
behind [] = []
behind (b ∷ r) = r

abbrev pub single : {A : Type 0} → Took A → Took (List A)
single k = took k.whole k.place k.rest (k.value ∷ [])

abbrev pub after : {A : Type 0} → A → Took (List A) → Took (List A)
after a k = took k.whole k.place k.rest (a ∷ k.value)

abbrev pub goes_on : {A : Type 0} → ℕ → Took A → Bool
goes_on c k = k.whole && head_is c k.rest

unfoldable pub joined : {S A : Type 0} → (S → ℕ → List ℕ → Took A) → (S → A → S) → ℕ → ℕ → S → ℕ → List ℕ → Took (List A)
joined take next c zero s at t = single (take s at t)
joined take next c (suc n) s at t =
    elim (goes_on c (take s at t)) [
      | true ↦ after (take s at t).value (joined take next c n (next s (take s at t).value) ((take s at t).place + 1) (behind (take s at t).rest))
      | false ↦ single (take s at t)
    ]
