-- A reader of one symbol, and what it keeps to.
-- Assumes nothing.
use Rattle.std.specs.Prelude.{ℕ, ◌+◌, ◌≤◌, ◌≡◌, Bool, true, List, [], ◌∷◌, ◌++◌, length}

-- What a reader comes to: whether the symbol is whole, the place where it stopped, the bytes from there on, and the symbol's value.
pub record Took (A : Type 0) : Type 0 where
  pub whole : Bool
  pub place : ℕ
  pub rest : List ℕ
  pub value : A

abbrev pub took : {A : Type 0} → Bool → ℕ → List ℕ → A → Took A
took whole place rest value = record { whole = whole; place = place; rest = rest; value = value }

-- nothing, or a byte that may follow
abbrev pub Stop : (ℕ → Type 0) → List ℕ → Type 0
Stop P [] = Unit {0}
Stop P (b ∷ r) = P b

-- What was used is cut off the text; where the symbol is whole it spells the value; and in any case it begins some symbol.
pub record Outcome (A : Type 0) (L : A → List ℕ → Type 0) (at : ℕ) (t : List ℕ) (k : Took A) : Type 0 where
  pub used : List ℕ
  pub cut : t ≡ used ++ k.rest
  pub stands : k.place ≡ at + length used
  pub good : k.whole ≡ true → L k.value used
  pub some : A
  pub more : List ℕ
  pub begins : L some (used ++ more)

-- A reader keeps to a language L, behind whose words a byte of P may follow: its outcome is right; a whole word is read whole; and what
-- begins a word is used, whatever stands behind it.
pub record Takes (A : Type 0) (take : ℕ → List ℕ → Took A) (L : A → List ℕ → Type 0) (P : ℕ → Type 0) : Type 0 where
  pub outcome : (at : ℕ) (t : List ℕ) → Outcome A L at t (take at t)
  pub full : (at : ℕ) (a : A) (xs r : List ℕ) → L a xs → Stop P r → take at (xs ++ r) ≡ took true (at + length xs) r a
  pub far : (at : ℕ) (a : A) (p ys r : List ℕ) → L a (p ++ ys) → at + length p ≤ (take at (p ++ r)).place
