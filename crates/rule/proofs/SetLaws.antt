-- Sets: one marked entry by entry is the set of the entries; and what one entry leaves in an empty set.
-- Assumes nothing.
use Rattle.std.specs.Prelude.{Option, Some, None}
use mathlib.Core.Path.{◌≡◌, refl, ap, sym, ◌∙◌}
use mathlib.Core.Bool.{Bool, true, false, ◌||◌, or_assoc, or-false, or-true, and-false}
use mathlib.Core.List.{List, [], ◌∷◌}
use Prim.Native.Nat.{ℕ, zero, suc, ◌+◌, ◌<◌}
use native.Mathlib.Omega.{arith}
use native.Mathlib.Nat.{add-zero, zero-add, le_of_suc-le-suc, not-suc-le-zero}
use native.Mathlib.Decide.{ℕ_discrete}
use lib.Dec.{eqb}
use lib.ListN.{length, get_or, set, replicate, length-replicate, get_or-replicate}
use lib.Seq.{ext_get_or, get_or-set_same, get_or-set_other}
use borrow.Author.Tests.{eq-eqb, ne_eqb}
use Rattle.rule.specs.Lists.{flags, is, some_at, set_of, is_empty, mark}
use Rattle.rule.specs.Entries.{marks}
use Rattle.rule.specs.Filling.{takes}
use Rattle.rule.proofs.EntryLaws.{length_mark}

length_flags : (f : ℕ → Bool) (n i : ℕ) → length (flags f n i) ≡ n
unfolding flags
length_flags f zero i = refl
length_flags f (suc n) i = ap suc (length_flags f n (i + 1))

flags_from : (f : ℕ → Bool) (n i k : ℕ) → k < n → get_or (flags f n i) k false ≡ f (i + k)
unfolding flags
flags_from f zero i k h = absurd (not-suc-le-zero h)
flags_from f (suc n) i zero h = ap f (sym (add-zero i))
flags_from f (suc n) i (suc k) h = flags_from f n (i + 1) k (le_of_suc-le-suc h) ∙ ap f (let e : i + 1 + k ≡ i + suc k = omega arith in e)

pub flags_at_lem : (f : ℕ → Bool) (n k : ℕ) → k < n → get_or (flags f n 0) k false ≡ f k
flags_at_lem f n k h = flags_from f n 0 k h ∙ ap f (zero-add k)

-- a flag after one mark, and after all
mark_at : (s : List Bool) (e : Option ℕ) (k : ℕ) → k < length s → get_or (mark s e) k false ≡ (get_or s k false || is k e)
mark_at s (Some j) k h = go (ℕ_discrete k j)
  where
    go : Dec (k ≡ j) → get_or (set s j true) k false ≡ (get_or s k false || eqb k j)
    go (yes e) =
        rw (eq-eqb k j e)
        (ap (λ (i : ℕ). get_or (set s i true) k false) (sym e) ∙ get_or-set_same s k true false h ∙ sym (or-true (get_or s k false)))
    go (no n) = rw (ne_eqb k j n) (get_or-set_other s j k true false n ∙ sym (or-false (get_or s k false)))
mark_at s None k h = sym (or-false (get_or s k false))

length_marks : (s : List Bool) (es : List (Option ℕ)) → length (marks s es) ≡ length s
unfolding marks
length_marks s [] = refl
length_marks s (e ∷ es) = length_marks (mark s e) es ∙ length_mark s e

marks_at : (s : List Bool) (es : List (Option ℕ)) (k : ℕ) → k < length s → get_or (marks s es) k false ≡ (get_or s k false || some_at k es)
unfolding marks some_at
marks_at s [] k h = sym (or-false (get_or s k false))
marks_at s (e ∷ es) k h =
    marks_at (mark s e) es k (let l : length (mark s e) ≡ length s = length_mark s e in omega arith)
    ∙ ap (λ (b : Bool). b || some_at k es) (mark_at s e k h)
    ∙ or_assoc (get_or s k false) (is k e) (some_at k es)

pub marks_are : (n : ℕ) (es : List (Option ℕ)) → marks (replicate n false) es ≡ set_of n es
unfolding set_of
marks_are n es =
    ext_get_or false (marks (replicate n false) es) (flags (λ (i : ℕ). some_at i es) n 0)
    (length_marks (replicate n false) es ∙ length-replicate n false ∙ sym (length_flags (λ (i : ℕ). some_at i es) n 0))
    (λ i h. at i (let l : length (marks (replicate n false) es) ≡ n = length_marks (replicate n false) es ∙ length-replicate n false in omega arith))
  where
    at : (i : ℕ) → i < n → get_or (marks (replicate n false) es) i false ≡ get_or (flags (λ (i : ℕ). some_at i es) n 0) i false
    at i h =
        marks_at (replicate n false) es i (let l : length (replicate n false) ≡ n = length-replicate n false in omega arith)
        ∙ ap (λ (b : Bool). b || some_at i es) (get_or-replicate n i false false h)
        ∙ sym (flags_at_lem (λ (i : ℕ). some_at i es) n i h)

-- an empty set takes an entry
pub take_no : (b : Bool) (s : List Bool) (e : Option ℕ) → b ≡ false → takes b s e ≡ s
unfolding takes
take_no b s e p = rw p

pub take_full : (b : Bool) (s : List Bool) (e : Option ℕ) → is_empty s ≡ false → takes b s e ≡ s
unfolding takes
take_full b s e p = rw (p, and-false b)

pub take_yes : (b : Bool) (s : List Bool) (e : Option ℕ) → b ≡ true → is_empty s ≡ true → takes b s e ≡ mark s e
unfolding takes
take_yes b s e p q = rw (p, q)
