-- A fresh cursor, by cases.
-- Assumes nothing.
use Rattle.std.specs.Prelude.{Option, Some, None}
use Prim.Native.Nat.{ℕ, zero, suc}
use mathlib.Core.Path.{◌≡◌, refl, ap, sym, ◌∙◌}
use mathlib.Core.Bool.{Bool, true, false}
use native.Mathlib.Omega.{arith}
use lib.Dec.{eqb}
use borrow.Author.Tests.{ne_eqb}
use Rattle.machine.specs.declared.Cause.{Cause}
use Rattle.machine.specs.declared.State.{State}
use Rattle.machine.specs.Given.{reaches}
use Rattle.rule.specs.declared.rrule.Rule.{Rule}
use Rattle.rule.specs.Refusals.{count_nought}
use Rattle.rule.specs.Run.{count_of, start_in, fresh_of}

-- the state by the two tests
abbrev pub state_by : Bool → Bool → State
state_by count interval = elim count [ true ↦ State.Ended Cause.Count | false ↦ elim interval [ true ↦ State.Ended Cause.Interval | false ↦ State.Running ] ]

pub fresh_by : (r : Rule) (b c : Bool) → reaches (count_of r.count) 0 ≡ b → eqb r.interval 0 ≡ c → start_in (state_by b c) ≡ fresh_of r
unfolding fresh_of
fresh_by r b c p q =
    ap (λ (x : Bool). start_in (state_by x c)) (sym p) ∙ ap (λ (y : Bool). start_in (state_by (reaches (count_of r.count) 0) y)) (sym q)

-- COUNT is reached at once where it is 0
zero_is : (n : ℕ) → eqb 0 n ≡ eqb n 0
zero_is zero = refl
zero_is (suc n) = ne_eqb 0 (suc n) (λ (e : 0 ≡ suc n). omega arith) ∙ sym (ne_eqb (suc n) 0 (λ (e : suc n ≡ 0). omega arith))

pub reached_at_once : (c : Option ℕ) → reaches (count_of c) 0 ≡ count_nought c
reached_at_once None = refl
reached_at_once (Some n) = zero_is n
