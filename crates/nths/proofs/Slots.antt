-- Where a value stands in a set: the slots that the code reads.
-- Assumes nothing.
use Rattle.std.specs.Prelude.{Some}
use Prim.Native.Nat.{ℕ, zero, suc, ◌+◌, ◌-◌, ◌*◌, ◌/◌, ◌≤◌, ◌<◌}
use mathlib.Core.Path.{◌≡◌, refl, ap, ◌∙◌}
use mathlib.Core.Bool.{Bool, false, ◌||◌}
use mathlib.Core.List.{List}
use lib.ListN.{get_or}
use lib.IntN.{pos, negsuc}
use native.Mathlib.Omega.{arith}
use borrow.Author.Tests.{le-leb}
use Rattle.rule.specs.declared.rrule.Range.{Range}
use Rattle.rule.specs.Lists.{zeros, slot_of, months, nths, weekdays, pair_slot, is_in, is_pair_in}
use Rattle.rule.specs.Days.{either_end, nth_passes}

-- the slot of a value of a range, forward and from the end
pub slot_forward : (g : Range) (v : ℕ) → v < g.positives → slot_of g (pos (suc v)) ≡ Some (g.negatives + zeros g + v)
unfolding slot_of
slot_forward g v h = rw (le-leb (suc v) g.positives (omega arith))

pub slot_back : (g : Range) (v : ℕ) → v < g.negatives → slot_of g (negsuc v) ≡ Some (g.negatives - suc v)
unfolding slot_of
slot_back g v h = rw (le-leb (suc v) g.negatives (omega arith))

pub in_forward : (g : Range) (s : List Bool) (v : ℕ) → v < g.positives → is_in g s (pos (suc v)) ≡ get_or s (g.negatives + zeros g + v) false
unfolding is_in
in_forward g s v h = rw (slot_forward g v h)

pub in_back : (g : Range) (s : List Bool) (v : ℕ) → v < g.negatives → is_in g s (negsuc v) ≡ get_or s (g.negatives - suc v) false
unfolding is_in
in_back g s v h = rw (slot_back g v h)

-- a month, from 1 on
pub month_slot : (s : List Bool) (m : ℕ) → 1 ≤ m → m ≤ 12 → is_in months s (pos m) ≡ get_or s (m - 1) false
month_slot s zero l h = absurd (omega arith)
month_slot s (suc m) l h = in_forward months s m (omega arith) ∙ ap (λ (i : ℕ). get_or s i false) (omega arith)

-- a place from 1 on, of so many, in a range as wide: forward or from the end
pub end_slots : (g : Range) (s : List Bool) (p n : ℕ) → zeros g ≡ 0 → 1 ≤ p → p ≤ n → n ≤ g.positives → n ≤ g.negatives
    → either_end g s p n ≡ (get_or s (g.negatives + p - 1) false || get_or s (g.negatives - (n + 1 - p)) false)
unfolding either_end
end_slots g s zero n z l h a b = absurd (omega arith)
end_slots g s (suc p) n z l h a b =
    let e : n + 1 - suc p ≡ suc (n - suc p) = omega arith in
    let f : g.negatives + zeros g + p ≡ g.negatives + suc p - 1 = omega arith in
    rw (e, in_forward g s p (omega arith), in_back g s (n - suc p) (omega arith), f)

-- BYDAY's slots: a weekday; the pairs (n, weekday) with n forward, from the end, and 0
weekday_slot : (w : ℕ) → w < 7 → slot_of weekdays (pos w) ≡ Some w
unfolding slot_of
weekday_slot zero h = refl
weekday_slot (suc w) h = slot_forward weekdays w (omega arith) ∙ ap Some (omega arith)

pair_forward : (s : List Bool) (a w : ℕ) → a < 53 → w < 7 → is_pair_in s (pos (suc a)) (pos w) ≡ get_or s ((54 + a) * 7 + w) false
unfolding is_pair_in pair_slot
pair_forward s a w h k = rw (slot_forward nths a h, weekday_slot w k)

pair_back : (s : List Bool) (b w : ℕ) → b < 53 → w < 7 → is_pair_in s (negsuc b) (pos w) ≡ get_or s ((53 - suc b) * 7 + w) false
unfolding is_pair_in pair_slot
pair_back s b w h k = rw (slot_back nths b h, weekday_slot w k)

pub every_slot : (s : List Bool) (w : ℕ) → w < 7 → is_pair_in s (pos 0) (pos w) ≡ get_or s (371 + w) false
unfolding is_pair_in pair_slot slot_of
every_slot s w k = rw (weekday_slot w k)

pub nth_slots : (s : List Bool) (w p l : ℕ) → w < 7 → 1 ≤ p → p ≤ 366 → 1 ≤ l → l ≤ 366
    → nth_passes s w p (p + l - 1) ≡ (get_or s (((p - 1) / 7 + 54) * 7 + w) false || get_or s ((52 - (l - 1) / 7) * 7 + w) false)
unfolding nth_passes
nth_slots s w p l hw a b c d =
    let e : (p - 1) / 7 + 1 ≡ suc ((p - 1) / 7) = omega arith in
    let f : (p + l - 1 - p) / 7 + 1 ≡ suc ((l - 1) / 7) = omega arith in
    let g : (54 + (p - 1) / 7) * 7 + w ≡ ((p - 1) / 7 + 54) * 7 + w = omega arith in
    let h : (53 - suc ((l - 1) / 7)) * 7 + w ≡ (52 - (l - 1) / 7) * 7 + w = omega arith in
    rw (e, f, pair_forward s ((p - 1) / 7) w (omega arith) hw, pair_back s ((l - 1) / 7) w (omega arith) hw, g, h)
