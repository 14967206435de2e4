-- `listing::rrule_iter::run_on` meets its contract. Each place of the loop has a name; what is known there is one record.
-- Assumes nothing.
use Prim.Native.Nat.{ℕ, ◌-◌, ◌*◌}
use mathlib.Core.Path.{◌≡◌, sym, ap, ◌∙◌}
use mathlib.Core.Bool.{Bool, true}
use Rattle.stretches.specs.declared.counter_date.Days.{Days}
use Rattle.stretches.specs.Stretches.{days_in}
use Rattle.years.specs.declared.iterinfo.IterInfo.{IterInfo}
use Rattle.opening.specs.declared.period.OpenPeriod.{OpenPeriod}
use Rattle.opening.specs.Opening.{none_open}
use lib.ListN.{length}
use Rattle.plans.specs.declared.plan.Plan.{Plan}
use Rattle.units.specs.Years.{is_in_year}
use Rattle.listing.proofs.Turns.{Going, Turn, Opens, Walks, span_is, info_made, info_covers, sound, ready, refused_right, goes}
use Rattle.listing.proofs.Turns.{room_is, stops_right, moves_left, ends_right, moves_one, leads_on}
use Rattle.listing.proofs.Turns.{begins_at, rebuilt, nearer_by_year, nearer_by_move}
use Rattle.listing.proofs.rrule_iter.run_on.Goals as goal
use Rattle.listing.proofs.rrule_iter.run_on.Goals.{After-is_taken, After-walk_period-walked}

-- whether a year covers the period of this number
abbrev is_covered : Plan → IterInfo → ℕ → Bool
is_covered plan info number = is_in_year info.year (days_in plan.shape.freq number).from

-- ---- what is known once the cursor is tried: the turn, what it opens, and its walk

turn : After-is_taken → Turn
turn c = record {
  r = c.args.rule.now;
  h = c.requires.0;
  one = c.requires.5;
  plan = c.args.plan.now;
  p = c.requires.1;
  m = c.args.m;
  c = c.args.cursor;
  running = c.requires.4;
  b₀ = c.args.buffer.now;
  buffer = c.loop-info.buffer;
  counter = c.loop-info.counter;
  held = c.loop-info.held;
  tried = c.loop-info.tried;
  opened = c.loop-info.opened;
  info = c.loop-info.info;
  a = c.loop-info.invariant;
  span = c.days_of-span.result;
  s = c.days_of-span.ensures;
  covered = sym c.covers.ensures ∙ c.if-not-covers.false;
}

opens : (c : After-is_taken) → Opens (turn c)
unfolding turn
opens c = record {
  opened = c.open_period.new.opened;
  period_told = c.open_period.ensures.period;
  days_told = c.open_period.ensures.days;
  places_told = c.open_period.ensures.places;
}

-- the cursor is taken, so the run goes on
going : (c : After-is_taken) → c.is_taken.result ≡ true →
    let t = turn c in
    Going t.r t.m t.c t.b₀ t.buffer t.counter.k t.held
unfolding turn opens
going c e = goes (turn c) (opens c) c.is_taken.result c.is_taken.ensures e

-- what the walk tells
before_walk : After-walk_period-walked → After-is_taken
before_walk c = c.before.before.before.before

walks : (c : After-walk_period-walked) → Walks (turn (before_walk c)) (opens (before_walk c))
unfolding turn opens before_walk
walks c = record {
  going = going (before_walk c) c.if-not-is_taken.false;
  w = c.walk_period-walked.result;
  buffer = c.walk_period-walked.new.buffer;
  told = c.walk_period-walked.ensures;
}

-- ---- the calls' conditions, the loop, and the answers

pub loop-info-init : goal.loop-info-init
unfolding none_open
loop-info-init c =
    let a = c.args in
    let span = span_is a.rule.now a.plan.now c.requires.1 a.cursor.k a.begun c.days_of-first.result c.requires.2 c.days_of-first.ensures in
    begins_at a.rule.now a.m a.cursor c.held_at-held.result a.buffer.now a.begun _ c.rebuild-info.result _
    c.requires.3 c.held_at-held.ensures c.requires.2
    (ap (λ (o : OpenPeriod). length o.days) c.none_open-opened.ensures) (ap (λ (o : OpenPeriod). length o.places) c.none_open-opened.ensures)
    (info_made a.rule.now a.plan.now c.requires.1 c.requires.0 a.cursor.k c.requires.3 c.days_of-first.result span c.rebuild-info.result
    c.year_at.result c.year_at.ensures c.rebuild-info.ensures)
    c.well_formed.1.1.1.1.1.0.1

pub loop-info-smaller-then-not-covers : goal.loop-info-smaller-then-not-covers
loop-info-smaller-then-not-covers c =
    let a = c.args in
    let l = c.loop-info in
    let info = c.rebuild-info-then-not-covers in
    let span = span_is a.rule.now a.plan.now c.requires.1 l.counter.k l.counter c.days_of-span.result l.invariant.counted c.days_of-span.ensures in
    nearer_by_year (2 * (a.m - l.held.moves)) _ _
    (ap (λ (x : Days). is_in_year l.info.year x.from) (sym c.days_of-span.ensures) ∙ sym c.covers.ensures ∙ c.if-not-covers.true)
    (ap (λ (x : Days). is_in_year info.result.year x.from) (sym c.days_of-span.ensures)
    ∙ info_covers a.rule.now a.plan.now c.requires.1 c.requires.0 l.counter.k l.invariant.ranged c.days_of-span.result span info.result
    c.year_at-then-not-covers.result c.year_at-then-not-covers.ensures info.ensures)

pub loop-info-preserved-then-not-covers : goal.loop-info-preserved-then-not-covers
loop-info-preserved-then-not-covers c =
    let a = c.args in
    let l = c.loop-info in
    let info = c.rebuild-info-then-not-covers in
    let span = span_is a.rule.now a.plan.now c.requires.1 l.counter.k l.counter c.days_of-span.result l.invariant.counted c.days_of-span.ensures in
    rebuilt a.rule.now a.m a.cursor _ _ _ _ _ _ l.info info.result _ l.invariant
    (info_made a.rule.now a.plan.now c.requires.1 c.requires.0 l.counter.k l.invariant.ranged c.days_of-span.result span info.result
    c.year_at-then-not-covers.result c.year_at-then-not-covers.ensures info.ensures)

pub shape_of-buffer-then-not-is_taken : goal.shape_of-buffer-then-not-is_taken
shape_of-buffer-then-not-is_taken c = c.loop-info.invariant.room

pub returns-then-not-is_taken : goal.returns-then-not-is_taken
unfolding turn opens
returns-then-not-is_taken c =
    let d = (goal.at.returns-then-not-is_taken c).After-is_taken in
    refused_right (turn d) (opens d) c.is_taken.result c.is_taken.ensures c.refused.result c.refused.ensures
    c.if-not-is_taken.true

pub walk_period-walked-requires : goal.walk_period-walked-requires
unfolding turn opens going
walk_period-walked-requires c =
    let d = (goal.at.walk_period-walked-requires c).After-is_taken in
    let t = turn d in
    (sound t (opens d), ready t (opens d) (going d c.if-not-is_taken.false) c.well_formed.1.1.1.1.0.1)

pub shape_of-buffer-in-Some : goal.shape_of-buffer-in-Some
unfolding turn opens before_walk walks
shape_of-buffer-in-Some c =
    let w = (goal.at.shape_of-buffer-in-Some c).After-walk_period-walked in
    room_is (turn (before_walk w)) (opens (before_walk w)) (walks w)

pub returns-in-Some : goal.returns-in-Some
unfolding turn opens before_walk walks
returns-in-Some c =
    let w = (goal.at.returns-in-Some c).After-walk_period-walked in
    stops_right (turn (before_walk w)) (opens (before_walk w)) (walks w) c.in-Some.answer (sym c.in-Some.is ∙ c.settle.ensures)

pub loop-info-smaller : goal.loop-info-smaller
unfolding turn opens before_walk walks
loop-info-smaller c =
    let w = (goal.at.loop-info-smaller c).After-walk_period-walked in
    let t = turn (before_walk w) in
    let q = sym c.in_default.is ∙ c.settle.ensures in
    nearer_by_move t.m t.held.moves c.moved_to-held.result.moves (is_covered t.plan t.info t.counter.number)
    (is_covered t.plan t.info c.in-Ok.next.number) (moves_left t (opens (before_walk w)) (walks w) q)
    (moves_one t (opens (before_walk w)) (walks w) q c.increment.result c.increment.ensures c.in-Ok.next
    c.in-Ok.is c.moved_to-held.result c.moved_to-held.ensures)

pub loop-info-preserved : goal.loop-info-preserved
unfolding turn opens before_walk walks
loop-info-preserved c =
    let w = (goal.at.loop-info-preserved c).After-walk_period-walked in
    leads_on (turn (before_walk w)) (opens (before_walk w)) (walks w) (sym c.in_default.is ∙ c.settle.ensures) c.increment.result c.increment.ensures c.in-Ok.next
    c.in-Ok.is c.moved_to-held.result c.moved_to-held.ensures

pub shape_of-buffer-in-Err : goal.shape_of-buffer-in-Err
unfolding turn opens before_walk walks
shape_of-buffer-in-Err c =
    let w = (goal.at.shape_of-buffer-in-Err c).After-walk_period-walked in
    room_is (turn (before_walk w)) (opens (before_walk w)) (walks w)

pub returns-in-Err : goal.returns-in-Err
unfolding turn opens before_walk walks
returns-in-Err c =
    let w = (goal.at.returns-in-Err c).After-walk_period-walked in
    ends_right (turn (before_walk w)) (opens (before_walk w)) (walks w) (sym c.in_default.is ∙ c.settle.ensures) c.increment.result c.increment.ensures c.in-Err.cause
    c.ended.result c.in-Err.is c.ended.ensures
