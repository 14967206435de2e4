-- `passing::rrule_iter::pass_days` meets its contract. The loop's invariant: the days that are left lead where all of them lead.
-- Assumes nothing.
use Prim.Native.Nat.{ℕ, ◌+◌}
use mathlib.Core.Path.{◌≡◌, sym, ap, ◌∙◌}
use mathlib.Core.Bool.{true}
use native.Mathlib.Omega.{arith}
use Rattle.walks.specs.declared.rrule_iter.Held.{Held}
use Rattle.walks.specs.Walks.{is_framed}
use Rattle.passing.specs.Passing.{is_passed, last_of, held_at, passed_days}
use Rattle.walks.proofs.SecondLaws.{next_day_lem}
use Rattle.passing.proofs.PassLaws.{day_on_fits, full_passes_none, unframed_passes_none, none_passed, days_passed}
use Rattle.passing.proofs.PassLaws.{Leads, leads_on, leads_off, leads_over}
use Rattle.walks.proofs.Walkable.{Small, framed_told}
use Rattle.passing.proofs.rrule_iter.pass_days.Goals as goal
use Rattle.passing.proofs.rrule_iter.pass_days.Goals.{After-is_passed, At-loop-day, Else-not-is_framed}

-- behind the guard no sum wraps
framing : (c : Else-not-is_framed) → is_framed c.args.frame ≡ true
framing c = sym c.is_framed.ensures ∙ c.if-not-is_framed.false

small : (c : Else-not-is_framed) → Small c.args.frame
small c = framed_told _ (framing c)

-- whether the day in hand is passed
passes : (c : After-is_passed) →
    let l = c in
    let a = l.args in
    is_passed a.bounds (last_of a.frame a.days.now l.loop-day.day) ≡ c.is_passed.result
passes c =
    let l = c in
    let a = l.args in
    sym (c.is_passed.ensures ∙ ap (λ (m : ℕ). is_passed a.bounds (m + 86399)) c.midnight_of-midnight.ensures.is)

-- where the loop has come to is where the days lead
passed_so : (c : At-loop-day) →
    let a = c.args in
    Leads a.bounds a.frame a.days.now a.frame.days c.loop-day.day c.loop-day.at.cursor.place ≡ c.loop-day.at.cursor.place
    → c.loop-day.at ≡ passed_days a.full a.frame a.bounds a.held a.days.now
passed_so c e =
    let q = c in
    let a = q.args in
    c.loop-day.invariant.0
    ∙ ap (λ (p : ℕ). held_at a.held p) (sym (c.loop-day.invariant.2 ∙ e))
    ∙ sym (days_passed a.full a.frame a.bounds a.held a.days.now _ q.quotient-first_day.ensures
    q.if-full.false (framing q.before.before.before.before.before) c.if-first_day-frame.false)

pub returns-then-full : goal.returns-then-full
returns-then-full c = full_passes_none c.args.full _ _ _ _ c.if-full.true

pub returns-then-not-is_framed : goal.returns-then-not-is_framed
returns-then-not-is_framed c =
    unframed_passes_none _ _ _ _ _ c.if-full.false (sym c.is_framed.ensures ∙ c.if-not-is_framed.true)

pub returns-then-first_day-frame : goal.returns-then-first_day-frame
returns-then-first_day-frame c =
    let q = c in
    let a = q.args in
    sym (none_passed a.full a.frame a.bounds a.held a.days.now _ q.quotient-first_day.ensures
    q.if-full.false (framing (goal.at.returns-then-first_day-frame c).Else-not-is_framed) c.if-first_day-frame.true)

pub overflow_cast-frame : goal.overflow_cast-frame
overflow_cast-frame c = omega (arith, (small (goal.at.overflow_cast-frame c).Else-not-is_framed).first)

pub overflow_add-place : goal.overflow_add-place
overflow_add-place c =
    let i = c in
    let l = i in
    let p = small (goal.at.overflow_add-place c).Else-not-is_framed in
    day_on_fits _ _ _ _ p.days p.times i.loop-day-test.true l.loop-day.invariant.1

pub loop-day-preserved : goal.loop-day-preserved
loop-day-preserved c =
    let here = goal.at.loop-day-preserved c in
    let e = c in
    let l = e in
    let a = l.args in (
      ap (λ (h : Held). held_at h (l.loop-day.at.cursor.place + a.frame.times)) l.loop-day.invariant.0,
      rw (next_day_lem l.loop-day.day a.frame.times, l.loop-day.invariant.1),
      l.loop-day.invariant.2 ∙ leads_on _ _ _ _ _ _ e.loop-day-test.true (passes here.After-is_passed ∙ e.if-not-is_passed.false),
    )

pub returns-after-loop-day : goal.returns-after-loop-day
returns-after-loop-day c =
    let l = c in
    passed_so (goal.at.returns-after-loop-day c).At-loop-day (leads_over _ _ _ _ _ _ c.loop-day-test.false)

pub returns-then-not-is_passed : goal.returns-then-not-is_passed
returns-then-not-is_passed c =
    let here = goal.at.returns-then-not-is_passed c in
    let l = c in
    passed_so here.At-loop-day (leads_off _ _ _ _ _ _ c.loop-day-test.true (passes here.After-is_passed ∙ c.if-not-is_passed.true))
