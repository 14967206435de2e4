-- How many bytes of a word begin a text: as many pairs of their bytes as are alike.
-- Assumes nothing.
use Prim.Native.Nat.{ℕ, suc, ◌+◌, ◌≤◌}
use native.Mathlib.Omega.{arith}
use mathlib.Core.Path.{◌≡◌, refl, ap, ◌∙◌}
use mathlib.Core.Bool.{Bool, true, false, cond}
use mathlib.Core.List.{List, [], ◌∷◌}
use lib.ListN.{length}
use lib.Dec.{eqb}
use Rattle.std.specs.List.{zip, prefix_len}
use Rattle.std.specs.Char.{to_ascii_uppercase}
use Rattle.symbols.specs.Languages.{upper}
use Rattle.symbols.specs.Readers.{common}
use Rattle.spelling.proofs.LetterLaws.{capital_is}

-- a letter of the word, and the text's byte beside it
abbrev pub alike : ℕ × ℕ → Bool
alike p = eqb (to_ascii_uppercase p.1) p.0

pub as_common : (w t : List ℕ) → prefix_len alike (zip w t) ≡ common w t
unfolding common
as_common [] t = refl
as_common (c ∷ w) [] = refl
as_common (c ∷ w) (b ∷ t) =
    ap (λ (x : ℕ). cond (eqb x c) (1 + prefix_len alike (zip w t)) 0) (capital_is b) ∙ go (eqb (upper b) c) (as_common w t)
  where
    go : (x : Bool) → prefix_len alike (zip w t) ≡ common w t
        → cond x (1 + prefix_len alike (zip w t)) 0 ≡ elim x as (λ (y : Bool). ℕ) [ true ↦ suc (common w t) | false ↦ 0 ]
    go true e = omega arith
    go false e = refl

pub common_within : (w t : List ℕ) → common w t ≤ length t
unfolding common
common_within [] t = omega arith
common_within (c ∷ w) [] = omega arith
common_within (c ∷ w) (b ∷ t) = go (eqb (upper b) c) (common_within w t)
  where
    go : (x : Bool) → common w t ≤ length t → (elim x as (λ (y : Bool). ℕ) [ true ↦ suc (common w t) | false ↦ 0 ]) ≤ length (b ∷ t)
    go true h = omega arith
    go false h = omega arith
