-- Which names are open: as many as parts may still come, and each part uses up one.
-- Assumes nothing.
use Prim.Native.Nat.{ℕ, zero, suc, ◌<◌}
use native.Mathlib.Omega.{arith}
use mathlib.Core.Path.{◌≡◌, refl, ap, ◌∙◌}
use mathlib.Core.Bool.{Bool, true, false}
use mathlib.Core.List.{List, [], ◌∷◌}
use lib.ListN.{length, set, length-set}
use Rattle.symbols.specs.Languages.{is_used}
use Rattle.recur.specs.Grammar.{none_used}

-- how many words are open
unfoldable pub open_in : List Bool → ℕ
open_in [] = 0
open_in (true ∷ s) = open_in s
open_in (false ∷ s) = suc (open_in s)

-- an open word
pub record Open (s : List Bool) : Type 0 where
  pub which : ℕ
  pub there : which < length s
  pub unused : is_used s which ≡ false

pub some_open : (s : List Bool) → 0 < open_in s → Open s
unfolding open_in
some_open [] h = absurd (omega arith)
some_open (true ∷ s) h = let o : Open s = some_open s h in record { which = suc o.which; there = omega arith; unused = o.unused }
some_open (false ∷ s) h = record { which = 0; there = omega arith; unused = refl }

-- to use an open word up leaves one open word less
pub one_less : (s : List Bool) (a : ℕ) → is_used s a ≡ false → open_in s ≡ suc (open_in (set s a true))
unfolding open_in
one_less [] a e = absurd (let z : ◌≡◌ {A = ℕ} 0 1 = cc in omega arith)
one_less (true ∷ s) zero e = absurd (let z : ◌≡◌ {A = ℕ} 0 1 = cc in omega arith)
one_less (false ∷ s) zero e = refl
one_less (true ∷ s) (suc a) e = one_less s a e
one_less (false ∷ s) (suc a) e = ap suc (one_less s a e)

-- Fourteen names, of which n more than one are open: n parts may come behind the next.
pub record Left (n : ℕ) (s : List Bool) : Type 0 where
  pub names : length s ≡ 14
  pub count : open_in s ≡ suc n

pub left_all : Left 13 (none_used 14)
unfolding open_in none_used
left_all = record { names = refl; count = refl }

pub left_less : (n : ℕ) (s : List Bool) (a : ℕ) → is_used s a ≡ false → Left (suc n) s → Left n (set s a true)
left_less n s a e l = record { names = length-set s a true ∙ l.names; count = omega (arith, one_less s a e) }

-- so some name is open wherever a part is asked for
pub left_open : (n : ℕ) (s : List Bool) → Left n s → Open s
left_open n s l = some_open s (omega arith)
