-- `opening::period::open_period` meets its contract.
-- Assumes nothing.
use Prim.Native.Nat.{ℕ, ◌≤◌, ◌<◌}
use mathlib.Core.Path.{◌≡◌, sym, ap, subst, ◌∙◌}
use mathlib.Core.List.{List}
use native.Mathlib.Omega.{arith}
use lib.ListN.{length}
use lib.Seq.{sets}
use Rattle.days.specs.Filters.{rule_lists}
use Rattle.days.specs.DaySets.{day_set}
use Rattle.walks.specs.declared.rrule_iter.Frame.{Frame}
use Rattle.opening.specs.Opening.{frame_of, kept_count, chosen_over, days_by}
use Rattle.opening.proofs.PeriodLaws.{few_days, no_day_lem, too_many, some_days}
use Rattle.opening.proofs.period.open_period.Goals as goal
use Rattle.opening.proofs.period.open_period.Goals.{After-frame_of-frame, After-period_days-count}

-- ---- the passing days, and the frame of so many

abbrev days : After-period_days-count → List ℕ
days c = let a = c.args in days_by a.plan.now.shape a.info.now (rule_lists a.rule.now) a.span

abbrev frame : After-frame_of-frame → Frame
frame c =
    let a = c.args in
    frame_of a.plan.now.shape.freq a.plan.now.shape.counts a.tick a.info.now.year.first
    (length (days_by a.plan.now.shape a.info.now (rule_lists a.rule.now) a.span)) a.plan.now.clock

-- ---- what is told, call by call

told_days : (c : After-period_days-count) →
    let a = c.args in
    day_set a.plan.now.shape.asked a.info.now (rule_lists a.rule.now) c.saturating_sub-from.result c.saturating_sub-to.result ≡ days c
told_days c = rw (c.saturating_sub-from.ensures, c.saturating_sub-to.ensures)

told_count : (c : After-period_days-count) → c.period_days-count.result ≡ length (days c)
told_count c = c.period_days-count.ensures.count ∙ ap (λ (l : List ℕ). length l) (told_days c)

told_places : (c : After-period_days-count) → c.period_days-count.new.days ≡ sets c.args.opened.now.days 0 (days c)
told_places c = c.period_days-count.ensures.places ∙ ap (sets c.args.opened.now.days 0) (told_days c)

told_frame : (c : After-frame_of-frame) →
    let a = c.args in
    c.period_days-count.result ≡ length (days_by a.plan.now.shape a.info.now (rule_lists a.rule.now) a.span) → c.frame_of-frame.result ≡ frame c
told_frame c e = rw (c.frame_of-frame.ensures, e)

-- ---- the calls' conditions, and the answers

pub returns-then-count-eq0 : goal.returns-then-count-eq0
returns-then-count-eq0 c =
    let d = (goal.at.returns-then-count-eq0 c).After-period_days-count in
    let a = c.args in
    let none : length (days d) ≡ 0 = sym (told_count d) ∙ c.if-count-eq0.true in
    let closed = no_day_lem a.plan.now.shape a.info.now.year.first (length (days d)) a.tick a.plan.now.clock a.rule.now.bysetpos none in record {
      period = c.none_kept-opened.ensures ∙ sym closed.0;
      days = told_places d;
      places = sym (closed.1 a.opened.now.places);
    }

pub returns-then-frame-gt86400 : goal.returns-then-frame-gt86400
returns-then-frame-gt86400 c =
    let d = (goal.at.returns-then-frame-gt86400 c).After-period_days-count in
    let f = (goal.at.returns-then-frame-gt86400 c).After-frame_of-frame in
    let a = c.args in
    let many : 86400 < (frame f).times = subst (λ (x : Frame). 86400 < x.times) (told_frame f (told_count d)) c.if-frame-gt86400.true in
    let closed = too_many a.plan.now.shape a.info.now.year.first (length (days d)) a.tick a.plan.now.clock a.rule.now.bysetpos many in record {
      period = c.none_kept-opened-then-frame-gt86400.ensures ∙ sym closed.0;
      days = told_places d;
      places = sym (closed.1 a.opened.now.places);
    }

pub kept_of-kept-requires : goal.kept_of-kept-requires
unfolding frame_of
kept_of-kept-requires c =
    let d = (goal.at.kept_of-kept-requires c).After-period_days-count in
    let f = (goal.at.kept_of-kept-requires c).After-frame_of-frame in
    let a = c.args in (
      subst (λ (x : Frame). x.days ≤ 373) (sym (told_frame f (told_count d))) (few_days a.plan.now.shape.asked a.info.now (rule_lists a.rule.now) _ _),
      omega (arith, c.if-frame-gt86400.false),
    )

pub returns : goal.returns
unfolding frame_of
returns c =
    let d = (goal.at.returns c).After-period_days-count in
    let f = (goal.at.returns c).After-frame_of-frame in
    let a = c.args in
    let told = told_frame f (told_count d) in
    let some : 0 < length (days d) = subst (λ (n : ℕ). 0 < n) (told_count d) (omega (arith, c.if-count-eq0.false)) in
    let few : (frame f).times ≤ 86400 = subst (λ (x : Frame). x.times ≤ 86400) told (omega (arith, c.if-frame-gt86400.false)) in
    let kept = some_days a.plan.now.shape a.info.now.year.first (length (days d)) a.tick a.plan.now.clock a.rule.now.bysetpos some few in record {
      period = ap (λ (n : ℕ). record { frame = c.frame_of-frame.result; kept = n }) c.kept_of-kept.ensures.count
          ∙ ap (λ (x : Frame). record { frame = x; kept = kept_count a.plan.now.shape.positioned a.rule.now.bysetpos x.days x.times }) told
          ∙ sym kept.0;
      days = told_places d;
      places = c.kept_of-kept.ensures.chosen
          ∙ ap (λ (x : Frame). chosen_over a.plan.now.shape.positioned a.rule.now.bysetpos x.days x.times a.opened.now.places) told
          ∙ sym (kept.1 a.opened.now.places);
    }
