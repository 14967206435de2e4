-- What is told of a period: its counter where the start is in range and it begins in it.
-- Assumes nothing.
use Rattle.std.specs.Prelude.{if◌then◌else◌, Ok, Err}
use Prim.Native.Nat.{ℕ}
use mathlib.Core.Path.{◌≡◌, refl}
use mathlib.Core.Bool.{Bool, true, false, ◌&&◌}
use native.Mathlib.Omega.{arith}
use lib.Dec.{leb}
use borrow.Author.Tests.{le-leb}
use Rattle.machine.specs.declared.Cause.{Cause}
use Rattle.rule.specs.Instants.{last_instant}
use Rattle.rule.specs.Periods.{in_range}
use Rattle.periods.specs.declared.counter_date.Counter.{Counter}
use Rattle.periods.specs.Claims.{ReachedByFields, ReachedCounter, ReachedRange, NeverNoTick, NoOtherCause}
use Rattle.periods.specs.Counters.{counter_at, rule_from, reached_at}

pub reached_by_fields : ReachedByFields
unfolding reached_at rule_from
reached_by_fields r k = refl

-- the three answers, by the test of the range
counter_told : (a b : Bool) (c d : Counter) → Ok c ≡ (if a && b then Ok d else Err Cause.Range) → (c ≡ d) × (b ≡ true)
counter_told true true c d e = ((cc), refl)
counter_told true false c d e = absurd (let z : ◌≡◌ {A = ℕ} 0 1 = cc in omega arith)
counter_told false b c d e = absurd (let z : ◌≡◌ {A = ℕ} 0 1 = cc in omega arith)

range_told : (b : Bool) (d : Counter) → Err Cause.Range ≡ (if b then Ok d else Err Cause.Range) → b ≡ false
range_told true d e = absurd (let z : ◌≡◌ {A = ℕ} 0 1 = cc in omega arith)
range_told false d e = refl

cause_told : (b : Bool) (d : Counter) (cause : Cause) → Err cause ≡ (if b then Ok d else Err Cause.Range) → cause ≡ Cause.Range
cause_told true d cause e = absurd (let z : ◌≡◌ {A = ℕ} 0 1 = cc in omega arith)
cause_told false d cause e = cc

pub reached_counter : ReachedCounter
unfolding reached_at
reached_counter r k c e = counter_told (leb r.start last_instant) (in_range r k) c (counter_at r k) e

pub reached_range : ReachedRange
unfolding reached_at
reached_range r k h e = range_told (in_range r k) (counter_at r k) (rw (le-leb r.start last_instant h) at e)

pub no_other_cause : NoOtherCause
unfolding reached_at
no_other_cause r k cause e = cause_told (leb r.start last_instant && in_range r k) (counter_at r k) cause e

pub never_no_tick : NeverNoTick
never_no_tick r k e = let z : Cause.NoTick ≡ Cause.Range = no_other_cause r k Cause.NoTick e in cc
