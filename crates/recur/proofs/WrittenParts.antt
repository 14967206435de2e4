-- The parts of a text by their values: a value for each name in turn, absent where the part is left out. They are joined as the grammar has it,
-- have the length that their values allow, and say the values again.
-- Assumes nothing.
use Rattle.std.specs.Prelude.{if◌then◌else◌}
use Prim.Native.Nat.{ℕ, zero, suc, ◌+◌, ◌≤◌, ◌<◌}
use native.Mathlib.Omega.{arith}
use native.Mathlib.Nat.{zero-add}
use mathlib.Core.Path.{◌≡◌, refl, ap, sym, ◌∙◌, fun_ext}
use mathlib.Core.Bool.{Bool, true, false}
use mathlib.Core.List.{List, [], ◌∷◌, ◌++◌, append-nil}
use lib.ListN.{length, get_or, length-append}
use lib.Seq.{get_or-set_other}
use borrow.Author.Tests.{eq-eqb, ne_eqb}
use Rattle.symbols.specs.Languages.{is_used, word_at, both, Joined, one, more}
use Rattle.recur.specs.Grammar.{names, Value, absent, number, numbers, days, Part, Kind, kind_of, ValueText, PartText, with_used, value_in, rule_by, rule_of}
use Rattle.recur.specs.Grammar.{is_there}
use Rattle.recur.specs.Writing.{value_text, part_text}
use Rattle.recur.specs.Pieces.{parts_behind}
use Rattle.recur.proofs.WrittenSymbols.{Short, follows, name_written}

-- the part of the name i, if there is a value; and the parts of values, the first of which is that of the name i
abbrev pub part_for : ℕ → Value → List Part
part_for i v = if is_there v then both i v ∷ [] else []

unfoldable pub parts_from : ℕ → List Value → List Part
parts_from i [] = []
parts_from i (v ∷ vs) = part_for i v ++ parts_from (suc i) vs

-- ---- the values again

-- a part of another name is passed over, and the part of the name has the value
is_absent : (v : Value) → is_there v ≡ false → v ≡ absent
is_absent absent e = refl
is_absent (number n) e = absurd (let z : ◌≡◌ {A = ℕ} 0 1 = cc in omega arith)
is_absent (numbers vs) e = absurd (let z : ◌≡◌ {A = ℕ} 0 1 = cc in omega arith)
is_absent (days ds) e = absurd (let z : ◌≡◌ {A = ℕ} 0 1 = cc in omega arith)

skipped : (k j : ℕ) (v : Value) (ps : List Part) → (j ≡ k → ⊥) → value_in k (part_for j v ++ ps) ≡ value_in k ps
unfolding value_in
skipped k j v ps h = go (is_there v)
  where
    go : (t : Bool) → value_in k ((if t then both j v ∷ [] else []) ++ ps) ≡ value_in k ps
    go true = rw (ne_eqb j k h)
    go false = refl

met : (k : ℕ) (v : Value) (ps : List Part) → value_in k ps ≡ absent → value_in k (part_for k v ++ ps) ≡ v
unfolding value_in
met k v ps e = go (is_there v) refl
  where
    go : (t : Bool) → is_there v ≡ t → value_in k ((if t then both k v ∷ [] else []) ++ ps) ≡ v
    go true h = rw (eq-eqb k k refl)
    go false h = e ∙ sym (is_absent v h)

-- the value behind each name
value_before : (vs : List Value) (k j : ℕ) → k < j → value_in k (parts_from j vs) ≡ absent
unfolding value_in parts_from
value_before [] k j h = refl
value_before (v ∷ vs) k j h = skipped k j v (parts_from (suc j) vs) (λ (e : j ≡ k). omega arith) ∙ value_before vs k (suc j) (omega arith)

value_from_lem : (vs : List Value) (j i : ℕ) → value_in (j + i) (parts_from j vs) ≡ get_or vs i absent
unfolding value_in parts_from
value_from_lem [] j i = refl
value_from_lem (v ∷ vs) j zero =
    let e : j + 0 ≡ j = omega arith in rw e (met j v (parts_from (suc j) vs) (value_before vs j (suc j) (omega arith)))
value_from_lem (v ∷ vs) j (suc i) =
    let e : j + suc i ≡ suc j + i = omega arith in
    rw e (skipped (suc j + i) j v (parts_from (suc j) vs) (λ (h : j ≡ suc j + i). omega arith) ∙ value_from_lem vs (suc j) i)

-- so the rule of the parts is that of the values
pub rule_by_lem : (vs : List Value) → rule_of (parts_from 0 vs) ≡ rule_by (λ (i : ℕ). get_or vs i absent)
unfolding rule_of
rule_by_lem vs =
    ap rule_by (fun_ext (λ (i : ℕ). ap (λ (k : ℕ). value_in k (parts_from 0 vs)) (sym (zero-add i)) ∙ value_from_lem vs 0 i))

-- ---- the text

-- how many bytes a value of the name i has at most: a list has its slots, each at its widest and with a comma
abbrev widths : List ℕ
widths = 8 ∷ 5 ∷ 10 ∷ 16 ∷ 2 ∷ 36 ∷ 248 ∷ 3660 ∷ 424 ∷ 4494 ∷ 72 ∷ 180 ∷ 180 ∷ 3660 ∷ []

abbrev pub width_of : ℕ → ℕ
width_of i = get_or widths i 0

-- a value, if there is one, has a text of its kind in m bytes at most; each of several values has, by its name
abbrev pub Fits : Kind → ℕ → Value → Type 0
Fits k m v = is_there v ≡ true → Short Value (ValueText k) (value_text k) m v

pub data AllFit : ℕ → List Value → Type 0 where
  none : {i : ℕ} → AllFit i []
  also : {i : ℕ} {v : Value} {vs : List Value} → Fits (kind_of i) (width_of i) v → AllFit (suc i) vs → AllFit i (v ∷ vs)

-- parts joined by semicolons, n of them at most behind the first
abbrev pub JoinedParts : ℕ → List Bool → List Part → List ℕ → Type 0
JoinedParts = Joined (List Bool) Part with_used PartText 59

-- names from i on are not used up
abbrev pub Free : ℕ → List Bool → Type 0
Free i seen = (j : ℕ) → i ≤ j → j < 14 → is_used seen j ≡ false

-- a part whose name is not used up, and the names that are left behind it
pub part_written : (seen : List Bool) (i : ℕ) (v : Value) → i < 14 → Free i seen → ValueText (kind_of i) v (value_text (kind_of i) v)
    → PartText seen (both i v) (part_text (both i v))
unfolding part_text
part_written seen i v h f s = follows (word_at names i) (value_text (kind_of i) v) (name_written seen i h (f i (omega arith) h)) s

pub free_next : (seen : List Bool) (i : ℕ) (v : Value) → Free i seen → Free (suc i) (with_used seen (both i v))
free_next seen i v f j l h = get_or-set_other seen i j true true (λ (e : j ≡ i). omega arith) ∙ f j (omega arith) h

-- behind a part p stand the parts of the values, whose names are all later than p's
pub parts_joined : (vs : List Value) (i : ℕ) (p : Part) (seen : List Bool) (n : ℕ) → PartText seen p (part_text p) → Free i (with_used seen p)
    → AllFit i vs → i + length vs ≤ 14 → length vs ≤ n
    → JoinedParts n seen (p ∷ parts_from i vs) (part_text p ++ parts_behind (parts_from i vs))
unfolding parts_from parts_behind
parts_joined [] i p seen n t f none h l = rw append-nil (one t)
parts_joined (v ∷ vs) i p seen zero t f (also s a) h l = absurd (omega arith)
parts_joined (v ∷ vs) i p seen (suc n) t f (also s a) h l =
    go (is_there v) refl (λ q g. parts_joined vs (suc i) (both i v) (with_used seen p) n q g a (omega arith) (omega arith))
    (parts_joined vs (suc i) p seen (suc n) t (λ j k m. f j (omega arith) m) a (omega arith) (omega arith))
  where
    go : (b : Bool) → is_there v ≡ b
        → (PartText (with_used seen p) (both i v) (part_text (both i v)) → Free (suc i) (with_used (with_used seen p) (both i v))
        → JoinedParts n (with_used seen p) (both i v ∷ parts_from (suc i) vs) (part_text (both i v) ++ parts_behind (parts_from (suc i) vs)))
        → JoinedParts (suc n) seen (p ∷ parts_from (suc i) vs) (part_text p ++ parts_behind (parts_from (suc i) vs))
        → JoinedParts (suc n) seen (p ∷ ((if b then both i v ∷ [] else []) ++ parts_from (suc i) vs))
        (part_text p ++ parts_behind ((if b then both i v ∷ [] else []) ++ parts_from (suc i) vs))
    go true e with_it without =
        more (part_text p) (part_text (both i v) ++ parts_behind (parts_from (suc i) vs)) t
        (with_it (part_written (with_used seen p) i v (omega arith) f (s e).spelled) (free_next (with_used seen p) i v f)) refl
    go false e with_it without = without

-- the most bytes of n parts from the name i on, each with its semicolon
unfoldable pub room_from : ℕ → ℕ → ℕ
room_from i zero = 0
room_from i (suc n) = suc (length (word_at names i) + width_of i) + room_from (suc i) n

pub parts_fit : (vs : List Value) (i : ℕ) → AllFit i vs → length (parts_behind (parts_from i vs)) ≤ room_from i (length vs)
unfolding parts_from parts_behind room_from part_text
parts_fit [] i none = omega arith
parts_fit (v ∷ vs) i (also s a) = go (is_there v) refl (parts_fit vs (suc i) a)
  where
    go : (b : Bool) → is_there v ≡ b → length (parts_behind (parts_from (suc i) vs)) ≤ room_from (suc i) (length vs)
        → length (parts_behind ((if b then both i v ∷ [] else []) ++ parts_from (suc i) vs)) ≤ suc (length (word_at names i) + width_of i) + room_from (suc i) (length vs)
    go true e h = let l : length (value_text (kind_of i) v) ≤ width_of i = (s e).short in simp length-append (omega arith)
    go false e h = omega arith
