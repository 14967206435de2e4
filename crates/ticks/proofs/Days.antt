-- Numbers of ticks, cut into days and the tick.
-- Assumes nothing.
use Prim.Native.Nat.{ℕ, ◌+◌, ◌*◌, ◌%◌, ◌≤◌, ◌<◌}
use mathlib.Core.Path.{◌≡◌, sym, ap, ◌∙◌}
use native.Mathlib.Nat.{add-mul, add-mod, mod-add-mod, mod-eq_of_lt, mul-add-mod_self_right}
use native.Mathlib.Omega.{arith}
use Rattle.rule.specs.declared.rrule.Frequency.{Frequency}
use Rattle.rule.specs.Moves.{ticks}
use Rattle.ticks.specs.Ticks.{tick_on}

-- the tick is cut off in one way
pub tick_is : (perday number tick sum : ℕ) → tick < perday → number * perday + tick ≡ sum → tick ≡ sum % perday
tick_is perday number tick sum h e = sym (mul-add-mod_self_right number perday tick ∙ mod-eq_of_lt h) ∙ ap (λ (x : ℕ). x % perday) e

-- the tick of the next period is a hop further, whatever whole days the step has
pub tick_on_lem : (perday step tick n : ℕ) → (tick_on perday step tick n + step % perday) % perday ≡ tick_on perday step tick (n + 1)
tick_on_lem perday step tick n =
    let s : tick + n * step + step ≡ tick + (n + 1) * step = omega arith in
    sym (add-mod (tick + n * step) step perday) ∙ ap (λ (x : ℕ). x % perday) s

-- m periods on, and n on from there, is m + n on
pub tick_on_on : (perday step tick m n : ℕ) → tick_on perday step (tick_on perday step tick m) n ≡ tick_on perday step tick (m + n)
tick_on_on perday step tick m n =
    let s : tick + m * step + n * step ≡ tick + (m + n) * step = omega (arith, add-mul m n step) in
    mod-add-mod (tick + m * step) perday (n * step) ∙ ap (λ (x : ℕ). x % perday) s

-- ---- a day has some ticks, and no more than seconds
pub some_ticks : (f : Frequency) → 0 < ticks f
some_ticks Frequency.Yearly = omega arith
some_ticks Frequency.Monthly = omega arith
some_ticks Frequency.Weekly = omega arith
some_ticks Frequency.Daily = omega arith
some_ticks Frequency.Hourly = omega arith
some_ticks Frequency.Minutely = omega arith
some_ticks Frequency.Secondly = omega arith

pub ticks_fit : (f : Frequency) → ticks f ≤ 86400
ticks_fit Frequency.Yearly = omega arith
ticks_fit Frequency.Monthly = omega arith
ticks_fit Frequency.Weekly = omega arith
ticks_fit Frequency.Daily = omega arith
ticks_fit Frequency.Hourly = omega arith
ticks_fit Frequency.Minutely = omega arith
ticks_fit Frequency.Secondly = omega arith
