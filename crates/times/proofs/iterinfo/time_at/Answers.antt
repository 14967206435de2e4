-- `times::iterinfo::time_at` meets its contract.
-- Assumes nothing.
use Rattle.std.proofs.Common.{rules}
use mathlib.Core.Bool.{Bool}
use Prim.Native.Nat.{ℕ, ◌+◌, ◌-◌, ◌*◌, ◌/◌, ◌%◌}
use mathlib.Core.Path.{◌≡◌, ◌∙◌}
use mathlib.Core.List.{List}
use native.Mathlib.Nat.{div-mul-le_self, mod-eq-sub-div-mul}
use native.Mathlib.Omega.{arith}
use Rattle.rule.specs.declared.rrule.Frequency.{Frequency}
use Rattle.rule.specs.Filling.{is_below}
use Rattle.times.specs.declared.iterinfo.Counts.{Counts}
use Rattle.times.specs.TimeSets.{value_at, time_at}
use Rattle.times.proofs.Parts.{value_is}
use Rattle.times.proofs.iterinfo.time_at.Goals as goal

-- the time from its parts, as the code works them out
put_together : (freq : Frequency) (begins : ℕ) (counts : Counts) (lists : List ℕ) (t : ℕ) (hourly minutely secondly : Bool) (past place hour minute second : ℕ)
    → hourly ≡ is_below freq Frequency.Hourly
    → minutely ≡ is_below freq Frequency.Minutely
    → secondly ≡ is_below freq Frequency.Secondly
    → past ≡ t / counts.seconds
    → place ≡ past / counts.minutes
    → hour ≡ value_at hourly lists 0 24 place (begins / 3600)
    → minute ≡ value_at minutely lists 24 60 (past - place * counts.minutes) (begins / 60 % 60)
    → second ≡ value_at secondly lists 84 60 (t - past * counts.seconds) (begins % 60)
    → hour * 3600 + (minute * 60 + second) ≡ time_at freq begins counts lists t
unfolding time_at
put_together freq begins counts lists t hourly minutely secondly past place hour minute second x y z p q h m s =
    rw (h, m, s, q, p, x, y, z, mod-eq-sub-div-mul t counts.seconds, mod-eq-sub-div-mul (t / counts.seconds) counts.minutes)

pub overflow_mul-minuteplace : goal.overflow_mul-minuteplace
overflow_mul-minuteplace c =
    let q = c in
    rw q.quotient-place.ensures
    (omega (arith, div-mul-le_self q.quotient-past.result q.args.counts.minutes))

pub overflow_sub-minuteplace : goal.overflow_sub-minuteplace
overflow_sub-minuteplace c = rw c.quotient-place.ensures (div-mul-le_self _ _)

pub overflow_mul-secondplace : goal.overflow_mul-secondplace
overflow_mul-secondplace c =
    let q = c in
    let a = q.args in
    rw q.quotient-past.ensures (omega (arith, div-mul-le_self a.t a.counts.seconds))

pub overflow_sub-secondplace : goal.overflow_sub-secondplace
overflow_sub-secondplace c = rw c.quotient-past.ensures (div-mul-le_self _ _)

pub returns : goal.returns
returns c =
    let q = c in
    let a = q.args in
    put_together a.freq a.begins a.counts a.lists.now a.t c.lt-anyhour.result c.lt-anyminute.result c.lt-anysecond.result _ _ _ _ _
    (search rules) (search rules) (search rules)
    q.quotient-past.ensures
    q.quotient-place.ensures
    (c.value_at-hour.ensures ∙ value_is c.lt-anyhour.result a.lists.now 0 24 _ _)
    (c.value_at-minute.ensures ∙ value_is c.lt-anyminute.result a.lists.now 24 60 _ _)
    (c.value_at-second.ensures ∙ value_is c.lt-anysecond.result a.lists.now 84 60 _ _)
