-- A position and its slot in BYSETPOS.
-- Assumes nothing.
use Prim.Native.Nat.{ℕ, zero, suc, ◌+◌, ◌-◌, ◌≤◌, ◌<◌}
use mathlib.Core.Path.{◌≡◌, ap, ◌∙◌}
use mathlib.Core.Bool.{Bool, false, ◌||◌}
use mathlib.Core.List.{List}
use native.Mathlib.Omega.{arith}
use lib.ListN.{get_or}
use lib.IntN.{pos, neg_ℤ}
use borrow.Author.Tests.{le-leb, lt-leb}
use Rattle.rule.specs.Lists.{positions, slot_of, is_in}
use Rattle.rule.specs.Days.{either_end}
use Rattle.rule.specs.Candidates.{chooses}

-- forward, position p of 1..366 has slot 365 + p; from the end it has slot 366 - p
pub forward_at : (s : List Bool) (p i : ℕ) → 1 ≤ p → p ≤ 366 → i ≡ 365 + p → get_or s i false ≡ is_in positions s (pos p)
unfolding is_in slot_of
forward_at s zero i l h e = absurd (omega arith)
forward_at s (suc v) i l h e = rw (le-leb (suc v) 366 h) (ap (λ (k : ℕ). get_or s k false) (omega arith))

pub forward_out : (s : List Bool) (p : ℕ) → 366 < p → is_in positions s (pos p) ≡ false
unfolding is_in slot_of
forward_out s zero h = absurd (omega arith)
forward_out s (suc v) h = rw (lt-leb (suc v) 366 h)

pub from_end_at : (s : List Bool) (p i : ℕ) → 1 ≤ p → p ≤ 366 → i ≡ 366 - p → get_or s i false ≡ is_in positions s (neg_ℤ (pos p))
unfolding is_in slot_of
from_end_at s zero i l h e = absurd (omega arith)
from_end_at s (suc v) i l h e = rw (le-leb (suc v) 366 h) (ap (λ (k : ℕ). get_or s k false) e)

pub from_end_out : (s : List Bool) (p : ℕ) → 366 < p → is_in positions s (neg_ℤ (pos p)) ≡ false
unfolding is_in slot_of
from_end_out s zero h = absurd (omega arith)
from_end_out s (suc v) h = rw (lt-leb (suc v) 366 h)

-- a place is chosen forward, or from the end
pub chooses_is : (s : List Bool) (n j : ℕ) {a b : Bool} → a ≡ is_in positions s (pos (j + 1)) → b ≡ is_in positions s (neg_ℤ (pos (n - j)))
    → (a || b) ≡ chooses s n j
unfolding either_end
chooses_is s n j {a} {b} x y =
    let z : n - j ≡ n + 1 - (j + 1) = omega arith in
    let v : b ≡ is_in positions s (neg_ℤ (pos (n + 1 - (j + 1)))) = y ∙ ap (λ (k : ℕ). is_in positions s (neg_ℤ (pos k))) z in
    cc

-- no position reaches a place that is 366 or more from both ends
pub none_reaches : (s : List Bool) (n j : ℕ) → 366 ≤ j → j + 366 < n → chooses s n j ≡ false
unfolding either_end
none_reaches s n j l h = rw (forward_out s (j + 1) (omega arith), from_end_out s (n + 1 - (j + 1)) (omega arith))
