-- The byte at a place of a text.
-- Assumes nothing.
use Prim.Native.Nat.{ℕ, ◌+◌, ◌≤◌, ◌<◌}
use native.Mathlib.Omega.{arith}
use native.Mathlib.Numerals.{add-one}
use mathlib.Core.Path.{◌≡◌, refl, sym, ap, ◌∙◌}
use mathlib.Core.Bool.{Bool, true, false}
use mathlib.Core.List.{List, [], ◌∷◌}
use lib.ListN.{length, get_or, drop, drop_of_length-le}
use lib.Seq.{drop-cons}
use lib.Dec.{eqb, leb, ltb}
use borrow.Author.Tests.{leb-true, ltb-true, ltb-false, eqb-true, le-leb}
use Rattle.symbols.specs.Languages.{is_digit}
use Rattle.symbols.specs.Readers.{head_is}
use Rattle.symbols.proofs.Cuts.{and_both}
use Rattle.numerals.specs.Bytes.{passes, DigitAt}

pub next_byte : (t : List ℕ) (i : ℕ) → i < length t → drop i t ≡ get_or t i 0 ∷ drop (i + 1) t
next_byte t i h = drop-cons t i 0 h ∙ ap (λ (n : ℕ). get_or t i 0 ∷ drop n t) (sym (add-one i))

pub passes_at : (p : ℕ → Bool) (t : List ℕ) (i : ℕ) → i < length t → passes p (drop i t) ≡ p (get_or t i 0)
unfolding passes
passes_at p t i h = ap (λ (x : List ℕ). passes p x) (next_byte t i h)

pub passes_none : (p : ℕ → Bool) (t : List ℕ) (i : ℕ) → length t ≤ i → passes p (drop i t) ≡ false
unfolding passes
passes_none p t i h = ap (λ (x : List ℕ). passes p x) (drop_of_length-le t h)

-- what passes stands within the text
pub record Passed (p : ℕ → Bool) (t : List ℕ) (i : ℕ) : Type 0 where
  pub inside : i < length t
  pub good : p (get_or t i 0) ≡ true

pub passed : (p : ℕ → Bool) (t : List ℕ) (i : ℕ) → passes p (drop i t) ≡ true → Passed p t i
passed p t i e = go (ltb i (length t)) refl
  where
    go : (x : Bool) → ltb i (length t) ≡ x → Passed p t i
    go true f = record { inside = ltb-true i (length t) f; good = sym (passes_at p t i (ltb-true i (length t) f)) ∙ e }
    go false f =
        let n : passes p (drop i t) ≡ false = passes_none p t i (ltb-false i (length t) f) in
        absurd (let z : ◌≡◌ {A = ℕ} 0 1 = cc in omega arith)

pub head_is_lem : (c : ℕ) (xs : List ℕ) → head_is c xs ≡ passes (λ b. eqb b c) xs
unfolding passes
head_is_lem c [] = refl
head_is_lem c (b ∷ xs) = refl

-- a byte that stands at a place
pub record Stands (c : ℕ) (t : List ℕ) (i : ℕ) : Type 0 where
  pub inside : i < length t
  pub same : get_or t i 0 ≡ c

pub stands : (c : ℕ) (t : List ℕ) (i : ℕ) → head_is c (drop i t) ≡ true → Stands c t i
stands c t i e =
    let p : Passed (λ b. eqb b c) t i = passed (λ b. eqb b c) t i (sym (head_is_lem c (drop i t)) ∙ e) in
    record { inside = p.inside; same = eqb-true (get_or t i 0) c p.good }

pub digit_from : (t : List ℕ) (i : ℕ) → i < length t → is_digit (get_or t i 0) ≡ true → DigitAt t i
digit_from t i h e =
    let b = get_or t i 0 in
    let range = and_both (leb 48 b) (leb b 57) e in
    record { inside = h; least = leb-true 48 b range.0; most = leb-true b 57 range.1 }

pub digit_there : (t : List ℕ) (i : ℕ) → passes is_digit (drop i t) ≡ true → DigitAt t i
digit_there t i e = digit_from t i (passed is_digit t i e).inside (passed is_digit t i e).good

pub is_digit_lem : {t : List ℕ} {i : ℕ} → DigitAt t i → is_digit (get_or t i 0) ≡ true
is_digit_lem {t} {i} d = rw (le-leb 48 (get_or t i 0) d.least, le-leb (get_or t i 0) 57 d.most)
