-- The nth weekday of a span, by a division, is a count of the span's days.
-- Assumes nothing.
use Rattle.std.specs.Prelude.{if◌then◌else◌}
use Prim.Native.Nat.{ℕ, zero, suc, ◌+◌, ◌-◌, ◌/◌, ◌%◌, ◌<◌}
use mathlib.Core.Path.{◌≡◌, refl, sym, ◌∙◌}
use mathlib.Core.Bool.{Bool, true, false}
use native.Mathlib.Omega.{arith}
use lib.Dec.{eqb}
use borrow.Author.Tests.{eqb-true, eqb-false}
use Rattle.rule.specs.Meaning.{weekdays_from, NthIs, NthFromEndIs}

-- over numbers alone: one day more
step_hit : (a t n : ℕ) → t < 7 → (a + n) % 7 ≡ (a + t) % 7 → 1 + (n + 6 - t) / 7 ≡ (suc n + 6 - t) / 7
step_hit a t n h e = omega arith

step_miss : (a t n : ℕ) → t < 7 → ((a + n) % 7 ≡ (a + t) % 7 → ⊥) → 0 + (n + 6 - t) / 7 ≡ (suc n + 6 - t) / 7
step_miss a t n h e = omega arith

-- of n days from a on, those with the weekday w of the day a + t
count_is : (a t w n : ℕ) → t < 7 → (a + t) % 7 ≡ w → weekdays_from a w n ≡ (n + 6 - t) / 7
unfolding weekdays_from
count_is a t w zero h e = omega arith
count_is a t w (suc n) h e = go (eqb ((a + n) % 7) w) refl (count_is a t w n h e)
  where
    go : (b : Bool) → eqb ((a + n) % 7) w ≡ b → weekdays_from a w n ≡ (n + 6 - t) / 7 → (if b then 1 else 0) + weekdays_from a w n ≡ (suc n + 6 - t) / 7
    go true p ih = rw ih (step_hit a t n h (eqb-true _ _ p ∙ sym e))
    go false p ih = rw ih (step_miss a t n h (λ q. eqb-false _ _ p (q ∙ e)))

pub nth_is : NthIs
nth_is a p h =
    let t : ℕ = (p - 1) % 7 in
    let u : t < 7 = omega arith in
    let e : (a + t) % 7 ≡ (a + p - 1) % 7 = omega arith in
    sym (count_is a t ((a + p - 1) % 7) p u e ∙ omega arith)

pub nth_from_end_is : NthFromEndIs
nth_from_end_is a p n h k =
    let e : (a + p - 1 + 0) % 7 ≡ (a + p - 1) % 7 = omega arith in
    sym (count_is (a + p - 1) 0 ((a + p - 1) % 7) (n + 1 - p) (omega arith) e ∙ omega arith)
