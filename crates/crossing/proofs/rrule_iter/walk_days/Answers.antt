-- `crossing::rrule_iter::walk_days` meets its contract. Each loop's invariant: what is left of the walk gives what the whole gives.
-- Assumes nothing.
use Rattle.std.proofs.Common.{rules}
use Prim.Native.Nat.{◌+◌, ◌*◌, ◌<◌, ◌^◌}
use mathlib.Core.Path.{◌≡◌, refl, sym, ap, ◌∙◌}
use mathlib.Core.Bool.{true, false}
use lib.ListN.{length, length-set}
use native.Mathlib.Omega.{arith}
use Rattle.machine.specs.Given.{above}
use Rattle.walks.specs.declared.rrule_iter.Why.{Why}
use Rattle.walks.specs.Walks.{bound_of, second_at, walk_from}
use Rattle.walks.proofs.SecondLaws.{time_left, days_and_left, within_days, past_days, no_times, in_a_year, second_there}
use Rattle.walks.proofs.WalkLaws.{stops, rest_over, rest_pass}
use Rattle.walks.proofs.Walkable.{Small}
use Rattle.passing.specs.Passing.{Ready}
use Rattle.crossing.specs.Crossing.{is_walkable, days_walk}
use Rattle.crossing.proofs.RestLaws.{rest_full, rest_until, rest_count, rest_hand}
use Rattle.crossing.proofs.Walkable.{walkable_by, walkable_told, days_walked, days_left}
use Rattle.crossing.proofs.rrule_iter.walk_days.Goals as goal
use Rattle.crossing.proofs.rrule_iter.walk_days.Goals.{After-second_on-second, At-loop-time, Else-is_late, Else-not-is_framed-is_ready, Else-slot-buffer, In-loop-time}

-- behind the guard a walk may be
walkable : (c : Else-not-is_framed-is_ready) →
    let a = c.args in
    is_walkable a.candidates.now.frame a.bounds a.held a.buffer.now ≡ true
walkable c =
    let a = c.args in
    walkable_by a.candidates.now.frame a.bounds a.held a.buffer.now _ _ true
    c.is_framed.ensures c.is_ready.ensures (c.if-not-is_framed-is_ready.false)

small : (c : Else-not-is_framed-is_ready) → Small c.args.candidates.now.frame
small c =
    let a = c.args in
    (walkable_told a.candidates.now.frame a.bounds a.held a.buffer.now (walkable c)).0

ready : (c : Else-not-is_framed-is_ready) →
    let a = c.args in
    Ready a.bounds a.held a.buffer.now
ready c = (walkable_told _ _ _ _ (walkable c)).1

-- and the walk goes from the place on
begun : (c : Else-not-is_framed-is_ready) →
    let a = c.args in
    days_walk a.candidates.now.frame a.bounds a.held a.candidates.now.days.now a.candidates.now.lists.now a.buffer.now
    ≡ walk_from a.bounds (second_at a.candidates.now.frame a.candidates.now.days.now a.candidates.now.lists.now) (a.candidates.now.frame.days * a.candidates.now.frame.times) a.held a.buffer.now
begun c = days_walked _ _ _ _ _ _ (walkable c)

-- the same at a turn of the inner loop
still_walkable : (c : At-loop-time) → is_walkable c.args.candidates.now.frame c.args.bounds c.args.held c.args.buffer.now ≡ true
still_walkable c =
    let a = c.args in
    walkable_by a.candidates.now.frame a.bounds a.held a.buffer.now _ _ true
    c.is_framed.ensures c.is_ready.ensures (c.if-not-is_framed-is_ready.false)

-- the whole walk is what is left of it at a turn of the inner loop
whole : (c : At-loop-time) →
    let a = c.args in
    days_walk a.candidates.now.frame a.bounds a.held a.candidates.now.days.now a.candidates.now.lists.now a.buffer.now
    ≡ walk_from a.bounds (second_at a.candidates.now.frame a.candidates.now.days.now a.candidates.now.lists.now) (a.candidates.now.frame.days * a.candidates.now.frame.times) c.loop-time.at c.loop-time.buffer
whole c = days_walked _ _ _ _ _ _ (still_walkable c) ∙ c.days.invariant.4 ∙ c.loop-time.invariant.4

-- the place, by day and time; a candidate is there
there : (c : In-loop-time) →
    let a = c.args in
    c.loop-time.at.cursor.place ≡ c.days.day * a.candidates.now.frame.times + c.loop-time.time
there c = omega (arith, c.loop-time.invariant.2, c.days.invariant.2)

within : (c : In-loop-time) →
    let a = c.args in
    c.loop-time.at.cursor.place < a.candidates.now.frame.days * a.candidates.now.frame.times
within c =
    rw (there c) (within_days _ _ _ _ c.days-test.true c.loop-time-test.true)

-- a slot is free
free : (c : Else-slot-buffer) →
    c.loop-time.at.handed ≡ length c.loop-time.buffer → ⊥
free c e = omega (arith, e, c.if-slot-buffer.false)

-- the candidate in hand, as the second that the code has
in_hand : (c : After-second_on-second) →
    let a = c.args in
    c.second_on-second.result ≡ second_at a.candidates.now.frame a.candidates.now.days.now a.candidates.now.lists.now c.loop-time.at.cursor.place
in_hand c =
    c.second_on-second.ensures ∙ second_there _ _ _ _ _ _ (there c.before.before.before) c.loop-time-test.true

-- it is not above UNTIL
on_time : (c : Else-is_late) →
    let a = c.args in
    above (bound_of a.bounds.until) c.second_on-second.result ≡ false
on_time c = sym c.is_late.ensures ∙ c.if-is_late.false

-- the buffer is short enough that neither count can wrap
room : (c : At-loop-time) → length c.loop-time.buffer * 8 < 2 ^ 63
room c =
    rw (c.loop-time.invariant.3.3 ∙ c.days.invariant.3.3) c.well_formed.1.1.1.0.1

number_small : (c : At-loop-time) → c.loop-time.at.cursor.number + 1 < 2 ^ 64
number_small c =
    let p = (walkable_told _ _ _ _ (still_walkable c)).1.number in
    omega (arith, room c, p, c.loop-time.invariant.3, c.days.invariant.3)

pub returns-then-not-is_framed-is_ready-clause-walked : goal.returns-then-not-is_framed-is_ready-clause-walked
returns-then-not-is_framed-is_ready-clause-walked c =
    let a = c.args in
    days_left _ _ _ _ _ _
    (walkable_by a.candidates.now.frame a.bounds a.held a.buffer.now _ _ false
    c.is_framed.ensures c.is_ready.ensures (c.if-not-is_framed-is_ready.true))

pub returns-then-frame-eq0-clause-walked : goal.returns-then-frame-eq0-clause-walked
returns-then-frame-eq0-clause-walked c =
    let here = goal.at.returns-then-frame-eq0-clause-walked c in
    let a = c.args in
    sym (begun here.Else-not-is_framed-is_ready ∙ rest_over _ _ _ _ _ (no_times _ _ a.held.cursor.place c.if-frame-eq0.true))

pub days-init : goal.days-init
days-init c =
    let a = c.args in (
      refl,
      rw c.quotient-first_day.ensures (time_left a.candidates.now.frame.times a.held.cursor.place c.if-frame-eq0.false),
      days_and_left a.candidates.now.frame.times a.held.cursor.place c.quotient-first_day.result c.quotient-first_day.ensures,
      (search rules, search rules, (ready (goal.at.days-init c).Else-not-is_framed-is_ready).handed, refl, refl),
      refl,
    )

pub overflow_cast-frame : goal.overflow_cast-frame
overflow_cast-frame c =
    omega (arith, (small (goal.at.overflow_cast-frame c).Else-not-is_framed-is_ready).first)

pub overflow_add-place : goal.overflow_add-place
overflow_add-place c =
    let p = small (goal.at.overflow_add-place c).Else-not-is_framed-is_ready in
    let h : c.loop-time.at.cursor.place < 2 ^ 31 = in_a_year _ _ _ p.days p.times (within (goal.at.overflow_add-place c).In-loop-time) in
    record { fits = omega (arith, h) }

pub loop-time-preserved-then-second-bounds : goal.loop-time-preserved-then-second-bounds
loop-time-preserved-then-second-bounds c =
    let here = goal.at.loop-time-preserved-then-second-bounds c in
    let a = c.args in
    let s : c.second_on-second.result < a.bounds.start = omega (arith, c.if-second-bounds.true) in (
      c.loop-time.invariant.0,
      omega arith,
      omega arith,
      (omega arith, omega arith, omega arith, c.loop-time.invariant.3.3, c.loop-time.invariant.3.4),
      c.loop-time.invariant.4
          ∙ rest_pass _ _ _ _ _ (within here.In-loop-time) _ (in_hand here.After-second_on-second) (free here.Else-slot-buffer)
          (on_time here.Else-is_late) s,
    )

pub overflow_sub-buffer : goal.overflow_sub-buffer
overflow_sub-buffer c =
    omega (arith, c.if-second-bounds.false, (ready (goal.at.overflow_sub-buffer c).Else-not-is_framed-is_ready).start)

pub overflow_add-number : goal.overflow_add-number
overflow_add-number c = record { fits = omega (arith, number_small (goal.at.overflow_add-number c).At-loop-time) }

pub loop-time-preserved : goal.loop-time-preserved
loop-time-preserved c =
    let here = goal.at.loop-time-preserved c in (
      c.loop-time.invariant.0,
      omega arith,
      omega arith,
      (omega arith, omega arith, simp length-set (omega arith), simp length-set c.loop-time.invariant.3.3, c.loop-time.invariant.3.4),
      c.loop-time.invariant.4
          ∙ rest_hand _ _ _ _ _ (within here.In-loop-time) _ (in_hand here.After-second_on-second) (free here.Else-slot-buffer)
          (on_time here.Else-is_late) c.if-second-bounds.false
          (sym c.is_reached.ensures ∙ c.if-is_reached.false),
    )

pub returns-after-days-clause-walked : goal.returns-after-days-clause-walked
returns-after-days-clause-walked c =
    sym
    (begun (goal.at.returns-after-days-clause-walked c).Else-not-is_framed-is_ready
    ∙ c.days.invariant.4
    ∙ rest_over _ _ _ _ _ (rw c.days.invariant.2 (past_days _ _ _ _ c.days-test.false))
    ∙ ap (λ (w : Why). stops w c.days.at c.days.buffer) (sym c.days.invariant.0))

pub returns-then-slot-buffer-clause-walked : goal.returns-then-slot-buffer-clause-walked
returns-then-slot-buffer-clause-walked c =
    let here = goal.at.returns-then-slot-buffer-clause-walked c in
    sym (whole here.At-loop-time ∙ rest_full _ _ _ _ _ (within here.In-loop-time) (omega (arith, c.if-slot-buffer.true)))

pub returns-then-is_late-clause-walked : goal.returns-then-is_late-clause-walked
returns-then-is_late-clause-walked c =
    let here = goal.at.returns-then-is_late-clause-walked c in
    sym
    (whole here.At-loop-time
    ∙ rest_until _ _ _ _ _ (within here.In-loop-time) _ (in_hand here.After-second_on-second) (free here.Else-slot-buffer)
    (sym c.is_late.ensures ∙ c.if-is_late.true))

pub returns-then-is_reached-clause-walked : goal.returns-then-is_reached-clause-walked
returns-then-is_reached-clause-walked c =
    let here = goal.at.returns-then-is_reached-clause-walked c in
    sym
    (whole here.At-loop-time
    ∙ rest_count _ _ _ _ _ (within here.In-loop-time) _ (in_hand here.After-second_on-second) (free here.Else-slot-buffer)
    (on_time here.Else-is_late) c.if-second-bounds.false
    (sym c.is_reached.ensures ∙ c.if-is_reached.true))
