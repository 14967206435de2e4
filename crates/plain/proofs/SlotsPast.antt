-- A number that a list has no value for is not in it: 0, and one past the list's range.
-- Assumes nothing.
use Prim.Native.Nat.{ℕ, zero, suc, ◌<◌, ◌≤◌}
use mathlib.Core.Path.{◌≡◌, refl}
use mathlib.Core.Bool.{Bool, false}
use mathlib.Core.List.{List}
use lib.IntN.{pos, neg_ℤ}
use native.Mathlib.Omega.{arith}
use borrow.Author.Tests.{lt-leb}
use Rattle.rule.specs.declared.rrule.Range.{Range}
use Rattle.rule.specs.Lists.{slot_of, is_in}

pub none_at_nought : (g : Range) (s : List Bool) (v : ℕ) → g.zeroin ≡ false → v ≡ 0 → (is_in g s (pos v) ≡ false) × (is_in g s (neg_ℤ (pos v)) ≡ false)
unfolding is_in slot_of
none_at_nought g s v z e = rw (e, z) (refl, refl)

pub none_above : (g : Range) (s : List Bool) (v : ℕ) → g.positives < v → is_in g s (pos v) ≡ false
unfolding is_in slot_of
none_above g s zero h = absurd (omega arith)
none_above g s (suc v) h = rw (lt-leb (suc v) g.positives h)

pub none_below : (g : Range) (s : List Bool) (v : ℕ) → g.negatives < v → is_in g s (neg_ℤ (pos v)) ≡ false
unfolding is_in slot_of
none_below g s zero h = absurd (omega arith)
none_below g s (suc v) h = rw (lt-leb (suc v) g.negatives h)

-- and so is one outside of the list's range
pub none_outside : (g : Range) (s : List Bool) (v : ℕ) → g.zeroin ≡ false → (1 ≤ v → v ≤ g.positives → ⊥) → is_in g s (pos v) ≡ false
none_outside g s zero z h = (none_at_nought g s 0 z refl).0
none_outside g s (suc v) z h = none_above g s (suc v) (omega arith)

pub none_below_outside : (g : Range) (s : List Bool) (v : ℕ) → g.zeroin ≡ false → (1 ≤ v → v ≤ g.negatives → ⊥) → is_in g s (neg_ℤ (pos v)) ≡ false
none_below_outside g s zero z h = (none_at_nought g s 0 z refl).1
none_below_outside g s (suc v) z h = none_below g s (suc v) (omega arith)
