-- Entries of a list: moved up, they keep their order, their slots and their zero; and how the tests of a list go on from one entry to the next.
-- Assumes nothing.
use Rattle.std.specs.Prelude.{if◌then◌else◌, Option, Some, None}
use mathlib.Core.Path.{◌≡◌, refl, ap, ◌∙◌}
use mathlib.Core.Bool.{Bool, true, false, not, ◌&&◌, ◌||◌, and-true}
use mathlib.Core.List.{List, [], ◌∷◌}
use Prim.Native.Nat.{ℕ, zero, suc, ◌+◌, ◌-◌, ◌≤◌, ◌<◌}
use native.Mathlib.Omega.{arith}
use native.Mathlib.Numerals.{add-one}
use lib.Dec.{leb, ltb, eqb}
use lib.ListN.{length, get_or, drop, drop_of_length-le, length-set}
use lib.Seq.{drop-cons}
use lib.IntN.{ℤ, pos, negsuc, ◌+ℤ◌}
use lib.Signed.{mag, lt_z}
use borrow.Author.Tests.{leb-true, lt-ltb, le-ltb, ne_eqb}
use Rattle.rule.specs.declared.rrule.Range.{Range}
use Rattle.rule.specs.Lists.{within, zeros, slot_of, is_empty, mark}
use Rattle.rule.specs.Entries.{shift, Moved, slot_at, marks}
use Rattle.rule.specs.Raw.{entries, pairs}
use Rattle.rule.specs.Refusals.{rises_from, pairs_rise_from}

pub moved_up : (v : ℤ) → mag v < 32768 → v +ℤ pos 32768 ≡ pos (shift v)
moved_up (pos n) h = ap pos (omega arith)
moved_up (negsuc n) h = let k : suc n ≤ 32768 = omega arith in simp (le-ltb 32768 (suc n) k) (ap pos (omega arith))

pub shift_high : (v : ℤ) → mag v < 32768 → shift v < 65536
shift_high (pos n) h = omega arith
shift_high (negsuc n) h = omega arith

pub at_most_one : (g : Range) → zeros g ≤ 1
at_most_one g = go g.zeroin
  where
    go : (b : Bool) → (if b then 1 else 0) ≤ 1
    go true = omega arith
    go false = omega arith

slot_shift : (g : Range) (v : ℤ) → mag v < 32768 → slot_at g (shift v) ≡ slot_of g v
unfolding slot_at slot_of
slot_shift g (pos zero) h = refl
slot_shift g (pos (suc n)) h =
    let k : 32768 + suc n - 32768 ≡ suc n = omega arith in
    let j : suc n - 1 ≡ n = omega arith in
    rw (le-ltb (32768 + suc n) 32768 (omega arith), ne_eqb (32768 + suc n) 32768 (λ (e : 32768 + suc n ≡ 32768). omega arith), k, j)
slot_shift g (negsuc n) h =
    let k : 32768 - (32768 - suc n) ≡ suc n = omega arith in
    rw (lt-ltb (32768 - suc n) 32768 (omega arith), k)

pub slot_moved : (g : Range) (v : ℤ) (u : ℕ) → Moved v u → slot_at g u ≡ slot_of g v
slot_moved g v u m = ap (slot_at g) m.up ∙ slot_shift g v m.fits

pub rises_on : (a : ℤ) (l : List ℤ) (i : ℕ) → i < length l → lt_z a (get_or l i (pos 0)) ≡ true
    → rises_from a (drop i l) ≡ rises_from (get_or l i (pos 0)) (drop (i + 1) l)
unfolding rises_from
rises_on a l i h e = rw (add-one, drop-cons l i (pos 0) h, e, rises_from)

short : (n w : ℤ) (ns : List ℤ) → pairs_rise_from n w ns [] ≡ true
unfolding pairs_rise_from
short n w [] = refl
short n w (m ∷ ns) = refl

-- a set marked with what is left of a list
pub mark_next : (s : List Bool) (g : Range) (l : List ℤ) (i : ℕ) → i < length l
    → marks s (entries g (drop i l)) ≡ marks (mark s (slot_of g (get_or l i (pos 0)))) (entries g (drop (i + 1) l))
unfolding marks
mark_next s g l i h = rw (add-one, drop-cons l i (pos 0) h)

pub mark_done : (s : List Bool) (g : Range) (l : List ℤ) (i : ℕ) → length l ≤ i → marks s (entries g (drop i l)) ≡ s
unfolding marks
mark_done s g l i h = rw (drop_of_length-le l h)

pub pair_done : (s : List Bool) (ns ws : List ℤ) (i : ℕ) → length ns ≤ i → marks s (pairs (drop i ns) (drop i ws)) ≡ s
unfolding marks pairs
pair_done s ns ws i h = rw (drop_of_length-le ns h)

no_pair : (s : List Bool) (ns : List ℤ) → marks s (pairs ns []) ≡ s
unfolding marks pairs
no_pair s [] = refl
no_pair s (n ∷ ns) = refl

pub pair_short : (s : List Bool) (ns ws : List ℤ) (i : ℕ) → length ws ≤ i → marks s (pairs (drop i ns) (drop i ws)) ≡ s
pair_short s ns ws i h = rw (drop_of_length-le ws h) (no_pair s (drop i ns))

-- emptiness, flag by flag
pub empty_next : (found : Bool) (s : List Bool) (i : ℕ) → i < length s
    → not found && is_empty (drop i s) ≡ not (found || get_or s i false) && is_empty (drop (i + 1) s)
unfolding is_empty
empty_next found s i h = rw (add-one, drop-cons s i false h) (go found (get_or s i false))
  where
    go : (f b : Bool) → not f && is_empty (b ∷ drop (suc i) s) ≡ not (f || b) && is_empty (drop (suc i) s)
    go true b = refl
    go false true = refl
    go false false = refl

pub empty_done : (found : Bool) (s : List Bool) (i : ℕ) → length s ≤ i → not found && is_empty (drop i s) ≡ not found
unfolding is_empty
empty_done found s i h = rw (drop_of_length-le s h) (and-true (not found))

pub length_mark : (s : List Bool) (e : Option ℕ) → length (mark s e) ≡ length s
length_mark s (Some i) = length-set s i true
length_mark s None = refl

-- the slots of BYDAY's halves
pub slot_high : (g : Range) (u i : ℕ) → g.negatives ≤ 366 → g.positives ≤ 366 → slot_at g u ≡ Some i → i < 1000
unfolding slot_at
slot_high g u i h k e = go (ltb u 32768) (leb (32768 - u) g.negatives) (eqb u 32768) g.zeroin (leb (u - 32768) g.positives) refl refl refl refl refl e
  where
    go : (a b c d f : Bool) → ltb u 32768 ≡ a → leb (32768 - u) g.negatives ≡ b → eqb u 32768 ≡ c → g.zeroin ≡ d → leb (u - 32768) g.positives ≡ f
        → (if a then within b (g.negatives - (32768 - u)) else if c then within d g.negatives else within f (g.negatives + zeros g + (u - 32768 - 1))) ≡ Some i → i < 1000
    go true true c d f p q r s t x = let y : g.negatives - (32768 - u) ≡ i = cc in omega arith
    go true false c d f p q r s t x = absurd (let z : ◌≡◌ {A = ℕ} 0 1 = cc in omega arith)
    go false b true true f p q r s t x = let y : g.negatives ≡ i = cc in omega arith
    go false b true false f p q r s t x = absurd (let z : ◌≡◌ {A = ℕ} 0 1 = cc in omega arith)
    go false b false d true p q r s t x = let y : g.negatives + zeros g + (u - 32768 - 1) ≡ i = cc in omega (arith, at_most_one g, leb-true (u - 32768) g.positives t)
    go false b false d false p q r s t x = absurd (let z : ◌≡◌ {A = ℕ} 0 1 = cc in omega arith)
