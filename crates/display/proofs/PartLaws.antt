-- The parts of a text, as they are put.
-- Assumes nothing.
use Rattle.std.specs.Prelude.{Option, Some, None}
use Prim.Native.Nat.{ℕ, ◌+◌, ◌-◌, ◌<◌, ◌≤◌}
use mathlib.Core.Path.{◌≡◌, refl, sym, ap, subst, ◌∙◌}
use mathlib.Core.Bool.{Bool, true, false}
use mathlib.Core.List.{List, [], ◌∷◌, ◌++◌}
use native.Mathlib.Omega.{arith}
use native.Mathlib.Numerals.{add-one}
use lib.ListN.{length, get_or, take, drop, drop_of_length-le}
use lib.Seq.{drop-cons}
use Rattle.std.proofs.Math.Seq.{take-length}
use lib.IntN.{ℤ, pos}
use lib.Dec.{eqb}
use borrow.Author.Tests.{eq-eqb, ne_eqb}
use Rattle.rule.specs.Instants.{last_instant}
use Rattle.symbols.specs.Languages.{both, word_at}
use Rattle.recur.specs.Grammar.{names, frequencies, weekday_names, number, Part, kind_of}
use Rattle.recur.specs.Writing.{decimal, signed_text, moment_text, number_text, part_text, unless, count_part, until_part, list_part}
use Rattle.recur.specs.Claims.{UntilInRange}
use Rattle.recur.specs.Pieces.{parts_behind, entries_behind}
use Rattle.recur.proofs.WrittenPieces.{behind_one, number_part, behind_list}
use Rattle.display.specs.Parts.{list_bytes}

-- a part with one value
one_part : (i n : ℕ) → 59 ∷ (word_at names i ++ number_text (kind_of i) n) ≡ parts_behind (both i (number n) ∷ [])
one_part i n = sym (behind_one (both i (number n)) ∙ ap (λ (l : List ℕ). 59 ∷ l) (number_part i n))

no_part : [] ≡ parts_behind []
unfolding parts_behind
no_part = refl

-- FREQ
pub freq_part_lem : (n : ℕ) → word_at names 0 ++ word_at frequencies n ≡ part_text (both 0 (number n))
freq_part_lem n = sym (number_part 0 n)

module _ (p : Part) where
  pub here : {b : Bool} → b ≡ false → parts_behind (p ∷ []) ≡ parts_behind (unless b p)
  here e = ap (λ (b : Bool). parts_behind (unless b p)) (sym e)

  pub gone : {b : Bool} → b ≡ true → [] ≡ parts_behind (unless b p)
  gone e = no_part ∙ ap (λ (b : Bool). parts_behind (unless b p)) (sym e)

-- INTERVAL
pub interval_here : (n : ℕ) → (n ≡ 1 → ⊥) → 59 ∷ (word_at names 1 ++ decimal n) ≡ parts_behind (unless (eqb n 1) (both 1 (number n)))
interval_here n h = one_part 1 n ∙ here (both 1 (number n)) (ne_eqb n 1 h)

pub interval_gone : (n : ℕ) → n ≡ 1 → [] ≡ parts_behind (unless (eqb n 1) (both 1 (number n)))
interval_gone n h = gone (both 1 (number n)) (eq-eqb n 1 h)

-- COUNT
pub count_here : (k : Option ℕ) (n : ℕ) → k ≡ Some n → 59 ∷ (word_at names 2 ++ decimal n) ≡ parts_behind (count_part k)
count_here k n e = one_part 2 n ∙ ap (λ (x : Option ℕ). parts_behind (count_part x)) (sym e)

pub count_gone : (k : Option ℕ) → k ≡ None → [] ≡ parts_behind (count_part k)
count_gone k e = no_part ∙ ap (λ (x : Option ℕ). parts_behind (count_part x)) (sym e)

-- UNTIL
pub until_here : (u : Option ℕ) (t : ℕ) → u ≡ Some t → 59 ∷ (word_at names 3 ++ moment_text t) ≡ parts_behind (until_part u)
until_here u t e = one_part 3 t ∙ ap (λ (x : Option ℕ). parts_behind (until_part x)) (sym e)

pub until_gone : (u : Option ℕ) → u ≡ None → [] ≡ parts_behind (until_part u)
until_gone u e = no_part ∙ ap (λ (x : Option ℕ). parts_behind (until_part x)) (sym e)

pub until_low : (u : Option ℕ) (t : ℕ) → u ≡ Some t → UntilInRange u → t ≤ last_instant
until_low u t e h = subst (λ (x : Option ℕ). UntilInRange x) e h

-- WKST
pub wkst_here : (w : ℕ) → (w ≡ 0 → ⊥) → 59 ∷ (word_at names 4 ++ word_at weekday_names w) ≡ parts_behind (unless (eqb w 0) (both 4 (number w)))
wkst_here w h = one_part 4 w ∙ here (both 4 (number w)) (ne_eqb w 0 h)

pub wkst_gone : (w : ℕ) → w ≡ 0 → [] ≡ parts_behind (unless (eqb w 0) (both 4 (number w)))
wkst_gone w h = gone (both 4 (number w)) (eq-eqb w 0 h)

-- a list's part, by its name
pub list_part_lem : (i : ℕ) (l : List ℤ) → list_bytes (59 ∷ word_at names i) l ≡ parts_behind (list_part i l)
list_part_lem i [] = no_part
list_part_lem i (v ∷ vs) = sym (behind_list i v vs)

-- a list behind its first entry
abbrev pub rest_of : List ℤ → List ℤ
rest_of l = take (length l - 1) (drop 1 l)

pub rest_is : (v : ℤ) (vs : List ℤ) → rest_of (v ∷ vs) ≡ vs
rest_is v vs = let z : length (v ∷ vs) - 1 ≡ length vs = omega arith in ap (λ (k : ℕ). take k vs) z ∙ take-length vs

pub list_here : (name : List ℕ) (l : List ℤ) (v : ℤ) → 1 ≤ length l → v ≡ get_or l 0 (pos 0)
    → name ++ (signed_text v ++ entries_behind signed_text (rest_of l)) ≡ list_bytes name l
list_here name [] v h e = absurd (omega arith)
list_here name (w ∷ vs) v h e = rw (e, rest_is w vs)

-- an entry more; and no more
pub entry_next : (l : List ℤ) (i : ℕ) (v : ℤ) → i < length l → v ≡ get_or l i (pos 0)
    → 44 ∷ (signed_text v ++ entries_behind signed_text (drop (i + 1) l)) ≡ entries_behind signed_text (drop i l)
unfolding entries_behind
entry_next l i v h e = rw (e, add-one, drop-cons l i (pos 0) h)

pub entry_none : (l : List ℤ) (i : ℕ) → length l ≤ i → entries_behind signed_text (drop i l) ≡ []
unfolding entries_behind
entry_none l i h = rw (drop_of_length-le l h)
