-- A number with a sign before it.
-- Assumes nothing.
use Rattle.std.specs.Prelude.{if◌then◌else◌, Result}
use Prim.Native.Nat.{ℕ, ◌+◌}
use native.Mathlib.Omega.{arith}
use mathlib.Core.Path.{◌≡◌, refl, sym, ap, ◌∙◌}
use mathlib.Core.Bool.{Bool, true, false, ◌||◌}
use mathlib.Core.List.{List, [], ◌∷◌}
use lib.ListN.{drop}
use lib.Dec.{eqb}
use lib.IntN.{ℤ, pos}
use Rattle.symbols.specs.Languages.{is_digit, Both, both}
use Rattle.symbols.specs.Takes.{Took, took}
use Rattle.symbols.specs.Readers.{digits, byte, with_first, followed, perhaps, turned_into, head_is}
use Rattle.symbols.specs.Counts.{three}
use Rattle.recur.specs.declared.Symbol.{Symbol}
use Rattle.recur.specs.Grammar.{below, plus, minus, is_sign, with_sign}
use Rattle.recur.specs.Reading.{sign_at, signed_at, is_numbered, nth_at}
use Rattle.recur.specs.Shown.{shown}
use Rattle.numerals.specs.Bytes.{passes, entry_of}
use Rattle.numerals.proofs.ByteLaws.{next_byte, Stands}

-- ---- readers that are put together

-- the second symbol is read behind a first that is whole
behind : {A B : Type 0} (take : ℕ → List ℕ → Took A) (second : A → ℕ → List ℕ → Took B) (none : B) (at p : ℕ) (xs r : List ℕ) (a : A)
    → take at xs ≡ took true p r a → followed take second none at xs ≡ with_first a (second a p r)
unfolding followed
behind {A} {B} take second none at p xs r a e = ap put e
  where
    put : Took A → Took (Both A B)
    put k = elim k.whole [
      | true ↦ with_first k.value (second k.value k.place k.rest)
      | false ↦ took false k.place k.rest (both k.value none)
    ]

there : {A : Type 0} (starts : ℕ → Bool) (none : A) (take : ℕ → List ℕ → Took A) (at : ℕ) (xs : List ℕ) → passes starts xs ≡ true
    → perhaps starts none take at xs ≡ take at xs
unfolding passes perhaps
there starts none take at [] e = absurd (let z : ◌≡◌ {A = ℕ} 0 1 = cc in omega arith)
there starts none take at (b ∷ r) e = rw (e, perhaps)

missing : {A : Type 0} (starts : ℕ → Bool) (none : A) (take : ℕ → List ℕ → Took A) (at : ℕ) (xs : List ℕ) → passes starts xs ≡ false
    → perhaps starts none take at xs ≡ took true at xs none
unfolding passes perhaps
missing starts none take at [] e = refl
missing starts none take at (b ∷ r) e = rw (e, perhaps)

one_byte : (test : ℕ → Bool) (at b : ℕ) (r : List ℕ) → test b ≡ true → byte test at (b ∷ r) ≡ took true (at + 1) r b
unfolding byte
one_byte test at b r e = rw (e, byte)

-- ---- signs

-- a size that is whole is an entry, with or without a minus
pub sized : (negative : Bool) (k : Took ℕ) → entry_of negative (shown k) ≡ shown (turned_into (λ v. if negative then below v else pos v) k)
unfolding entry_of
sized negative k = go k.whole
  where
    go : (w : Bool) → ◌≡◌ {A = Result (Symbol ℤ) ℕ}
        (entry_of negative (shown (took w k.place k.rest k.value)))
        (shown (took w k.place k.rest (if negative then below k.value else pos k.value)))
    go true = refl
    go false = refl

-- behind a sign, or plus where there is none
signed_by : (low at p s : ℕ) (xs r : List ℕ) → sign_at at xs ≡ took true p r s
    → entry_of (eqb s minus) (shown (digits (three low) 0 0 p r)) ≡ shown (signed_at low at xs)
signed_by low at p s xs r e =
    sized (eqb s minus) (digits (three low) 0 0 p r)
    ∙ sym (ap (λ (k : Took (Both ℕ ℕ)). shown (turned_into with_sign k)) (behind sign_at (λ (s : ℕ). digits (three low) 0 0) 0 at p xs r s e))

-- the byte s stands there and is a sign
pub with_sign_lem : {r : Result (Symbol ℤ) ℕ} {k : Result (Symbol ℕ) ℕ} (negative : Bool) (low at s : ℕ) (t : List ℕ) → r ≡ entry_of negative k
    → k ≡ shown (digits (three low) 0 0 (at + 1) (drop (at + 1) t)) → Stands s t at → is_sign s ≡ true → negative ≡ eqb s minus
    → r ≡ shown (signed_at low at (drop at t))
unfolding passes
with_sign_lem negative low at s t read number h e f =
    let r = drop (at + 1) t in
    read ∙ ap (λ (k : Result (Symbol ℕ) ℕ). entry_of negative k) number ∙ ap (λ (x : Bool). entry_of x (shown (digits (three low) 0 0 (at + 1) r))) f
    ∙ signed_by low at (at + 1) s (s ∷ r) r (there is_sign plus (byte is_sign) at (s ∷ r) e ∙ one_byte is_sign at s r e)
    ∙ sym (ap (λ (x : List ℕ). shown (signed_at low at x)) (next_byte t at h.inside ∙ ap (λ (b : ℕ). b ∷ r) h.same))

pub without_sign : {r : Result (Symbol ℤ) ℕ} {k : Result (Symbol ℕ) ℕ} (negative : Bool) (low at : ℕ) (xs : List ℕ) → r ≡ entry_of negative k
    → k ≡ shown (digits (three low) 0 0 at xs) → head_is minus xs ≡ false → head_is plus xs ≡ false → negative ≡ false
    → r ≡ shown (signed_at low at xs)
unfolding passes
without_sign negative low at xs read number e f g =
    read ∙ ap (λ (k : Result (Symbol ℕ) ℕ). entry_of negative k) number ∙ ap (λ (x : Bool). entry_of x (shown (digits (three low) 0 0 at xs))) g
    ∙ signed_by low at at plus xs xs (missing is_sign plus (byte is_sign) at xs (neither xs e f))
  where
    neither : (xs : List ℕ) → head_is minus xs ≡ false → head_is plus xs ≡ false → passes is_sign xs ≡ false
    neither [] e f = refl
    neither (b ∷ r) e f = ap (λ (x : Bool). x || eqb b minus) f ∙ e

-- ---- a number before a weekday

numbered : (xs : List ℕ) → (passes is_digit xs || (head_is plus xs || head_is minus xs)) ≡ passes is_numbered xs
unfolding passes
numbered [] = refl
numbered (b ∷ r) = refl

pub nth_there : (at : ℕ) (xs : List ℕ) → (passes is_digit xs || (head_is plus xs || head_is minus xs)) ≡ true
    → shown (signed_at 1 at xs) ≡ shown (nth_at at xs)
nth_there at xs e = sym (ap shown (there is_numbered (pos 0) (signed_at 1) at xs (sym (numbered xs) ∙ e)))

pub nth_missing : (at : ℕ) (xs : List ℕ) → (passes is_digit xs || (head_is plus xs || head_is minus xs)) ≡ false
    → shown (took true at xs (pos 0)) ≡ shown (nth_at at xs)
nth_missing at xs e = sym (ap shown (missing is_numbered (pos 0) (signed_at 1) at xs (sym (numbered xs) ∙ e)))
