-- `chosen::rrule_iter::walk_places` meets its contract. The loop's invariant: what is left of the walk gives what the whole gives.
-- Assumes nothing.
use Rattle.std.proofs.Common.{rules}
use Prim.Native.Nat.{◌+◌, ◌*◌, ◌≤◌, ◌<◌, ◌^◌}
use mathlib.Core.Path.{◌≡◌, refl, sym, ap, ◌∙◌}
use mathlib.Core.Bool.{true, false}
use lib.ListN.{length, length-set}
use lib.Dec.{leb}
use native.Mathlib.Omega.{arith}
use borrow.Author.Tests.{leb-true}
use Rattle.machine.specs.Given.{above}
use Rattle.rule.proofs.FillLaws.{both}
use Rattle.walks.specs.declared.rrule_iter.Why.{Why}
use Rattle.walks.specs.Walks.{bound_of, is_framed, second_chosen, walk_from}
use Rattle.walks.proofs.SecondLaws.{second_chosen_lem}
use Rattle.walks.proofs.WalkLaws.{stops, rest_over, rest_pass}
use Rattle.walks.proofs.Walkable.{year_kept}
use Rattle.passing.specs.Passing.{Ready}
use Rattle.crossing.specs.Crossing.{is_walkable}
use Rattle.crossing.proofs.RestLaws.{rest_full, rest_until, rest_count, rest_hand}
use Rattle.crossing.proofs.Walkable.{walkable_by, walkable_told}
use Rattle.chosen.specs.Chosen.{places_walk}
use Rattle.chosen.proofs.Walkable.{places_walked, places_left}
use Rattle.chosen.proofs.rrule_iter.walk_places.Goals as goal
use Rattle.chosen.proofs.rrule_iter.walk_places.Goals.{After-second_at-second, At-loop-i, Else-is_late, Else-not-kept-is_framed, Else-slot-buffer}

-- behind the guard a walk may be, and no more places are told than there are
few : (c : Else-not-kept-is_framed) → c.args.kept ≤ 732
few c = leb-true _ _ (both (leb c.args.kept 732) _ c.if-not-kept-is_framed.false).0

walkable : (c : Else-not-kept-is_framed) →
    let a = c.args in
    is_walkable a.candidates.now.frame a.bounds a.held a.buffer.now ≡ true
walkable c =
    let a = c.args in
    walkable_by a.candidates.now.frame a.bounds a.held a.buffer.now _ _ true c.is_framed.ensures c.is_ready.ensures
    (both (leb a.kept 732) _ c.if-not-kept-is_framed.false).1

framed : (c : After-second_at-second) → is_framed c.args.candidates.now.frame ≡ true
framed c =
    let a = c.args in
    (both (is_framed a.candidates.now.frame) _
    (walkable_by a.candidates.now.frame a.bounds a.held a.buffer.now _ _ true c.is_framed.ensures c.is_ready.ensures
    (both (leb a.kept 732) _ c.if-not-kept-is_framed.false).1)).0

ready : (c : Else-not-kept-is_framed) →
    let a = c.args in
    Ready a.bounds a.held a.buffer.now
ready c = (walkable_told _ _ _ _ (walkable c)).1

-- the same at a turn of the loop
few_kept : (c : At-loop-i) → c.args.kept ≤ 732
few_kept c = leb-true _ _ (both (leb c.args.kept 732) _ c.if-not-kept-is_framed.false).0

still_walkable : (c : At-loop-i) →
    let a = c.args in
    is_walkable a.candidates.now.frame a.bounds a.held a.buffer.now ≡ true
still_walkable c =
    let a = c.args in
    walkable_by a.candidates.now.frame a.bounds a.held a.buffer.now _ _ true c.is_framed.ensures c.is_ready.ensures
    (both (leb a.kept 732) _ c.if-not-kept-is_framed.false).1

-- the whole walk is what is left of it at a turn of the loop
whole : (c : At-loop-i) →
    let a = c.args in
    places_walk a.candidates.now.frame a.bounds a.held a.kept a.places.now a.candidates.now.days.now a.candidates.now.lists.now a.buffer.now
    ≡ walk_from a.bounds (second_chosen a.candidates.now.frame a.candidates.now.days.now a.candidates.now.lists.now a.places.now) a.kept c.loop-i.at c.loop-i.buffer
whole c = places_walked _ _ _ _ _ _ _ _ (few_kept c) (still_walkable c) ∙ c.loop-i.invariant.6

-- a slot is free
free : (c : Else-slot-buffer) →
    c.loop-i.at.handed ≡ length c.loop-i.buffer → ⊥
free c e = omega (arith, e, c.if-slot-buffer.false)

-- the candidate in hand, as the second that the code has
in_hand : (c : After-second_at-second) →
    let a = c.args in
    c.second_at-second.result ≡ second_chosen a.candidates.now.frame a.candidates.now.days.now a.candidates.now.lists.now a.places.now c.loop-i.at.cursor.place
in_hand c =
    let a = c.args in
    second_chosen_lem _ _ _ _ _ c.loop-i.i _ c.loop-i.invariant.1
    (c.second_at-second.ensures ∙ year_kept a.candidates.now.frame a.candidates.now.days.now a.candidates.now.lists.now _ (framed c))

-- it is not above UNTIL
on_time : (c : Else-is_late) →
    above (bound_of c.args.bounds.until) c.second_at-second.result ≡ false
on_time c = sym c.is_late.ensures ∙ c.if-is_late.false

-- the buffer is short enough that neither count can wrap
room : (c : At-loop-i) → length c.loop-i.buffer * 8 < 2 ^ 63
room c = rw c.loop-i.invariant.5 c.well_formed.1.1.1.1.1.0.1

number_small : (c : At-loop-i) → c.loop-i.at.cursor.number + 1 < 2 ^ 64
number_small c =
    let r : length c.loop-i.buffer * 8 < 2 ^ 63 = room c in
    let p : c.args.held.cursor.number < 2 ^ 63 = (walkable_told _ _ _ _ (still_walkable c)).1.number in
    omega (arith, c.loop-i.invariant.2, c.loop-i.invariant.3, c.loop-i.invariant.4)

pub returns-then-not-kept-is_framed-clause-walked : goal.returns-then-not-kept-is_framed-clause-walked
returns-then-not-kept-is_framed-clause-walked c =
    let a = c.args in
    places_left a.candidates.now.frame a.bounds a.held a.buffer.now a.kept a.places.now a.candidates.now.days.now a.candidates.now.lists.now _ _
    c.is_framed.ensures c.is_ready.ensures c.if-not-kept-is_framed.true

pub loop-i-init : goal.loop-i-init
loop-i-init c =
    (refl, refl, search rules, search rules, (ready (goal.at.loop-i-init c).Else-not-kept-is_framed).handed, refl, refl, refl)

pub loop-i-preserved-then-second-bounds : goal.loop-i-preserved-then-second-bounds
loop-i-preserved-then-second-bounds c =
    let here = goal.at.loop-i-preserved-then-second-bounds c in (
      c.loop-i.invariant.0,
      omega arith,
      omega arith,
      omega arith,
      omega arith,
      omega arith,
      c.loop-i.invariant.6
          ∙ rest_pass _ _ _ _ _ (omega arith) _ (in_hand here.After-second_at-second) (free here.Else-slot-buffer) (on_time here.Else-is_late) c.if-second-bounds.true,
      c.loop-i.invariant.7,
    )

pub overflow_sub-buffer : goal.overflow_sub-buffer
overflow_sub-buffer c =
    omega (arith, c.if-second-bounds.false, (ready (goal.at.overflow_sub-buffer c).Else-not-kept-is_framed).start)

pub overflow_add-number : goal.overflow_add-number
overflow_add-number c = record { fits = omega (arith, number_small (goal.at.overflow_add-number c).At-loop-i) }

pub loop-i-preserved : goal.loop-i-preserved
loop-i-preserved c =
    let here = goal.at.loop-i-preserved c in (
      c.loop-i.invariant.0,
      omega arith,
      omega arith,
      omega arith,
      simp length-set (omega arith),
      simp length-set (omega arith),
      c.loop-i.invariant.6
          ∙ rest_hand _ _ _ _ _ (omega arith) _ (in_hand here.After-second_at-second) (free here.Else-slot-buffer) (on_time here.Else-is_late) c.if-second-bounds.false
          (sym c.is_reached.ensures ∙ c.if-is_reached.false),
      c.loop-i.invariant.7,
    )

pub returns-after-loop-i-clause-walked : goal.returns-after-loop-i-clause-walked
returns-after-loop-i-clause-walked c =
    let here = goal.at.returns-after-loop-i-clause-walked c in
    sym (whole here.At-loop-i ∙ rest_over _ _ _ _ _ (omega arith) ∙ ap (λ (w : Why). stops w c.loop-i.at c.loop-i.buffer) (sym c.loop-i.invariant.0))

pub returns-then-slot-buffer-clause-walked : goal.returns-then-slot-buffer-clause-walked
returns-then-slot-buffer-clause-walked c =
    let here = goal.at.returns-then-slot-buffer-clause-walked c in
    sym (whole here.At-loop-i ∙ rest_full _ _ _ _ _ (omega arith) c.if-slot-buffer.true)

pub returns-then-is_late-clause-walked : goal.returns-then-is_late-clause-walked
returns-then-is_late-clause-walked c =
    let here = goal.at.returns-then-is_late-clause-walked c in
    sym (whole here.At-loop-i ∙ rest_until _ _ _ _ _ (omega arith) _ (in_hand here.After-second_at-second) (free here.Else-slot-buffer) (sym c.is_late.ensures ∙ c.if-is_late.true))

pub returns-then-is_reached-clause-walked : goal.returns-then-is_reached-clause-walked
returns-then-is_reached-clause-walked c =
    let here = goal.at.returns-then-is_reached-clause-walked c in
    sym
    (whole here.At-loop-i
    ∙ rest_count _ _ _ _ _ (omega arith) _ (in_hand here.After-second_at-second) (free here.Else-slot-buffer) (on_time here.Else-is_late) c.if-second-bounds.false
    (sym c.is_reached.ensures ∙ c.if-is_reached.true))
