-- One turn of the run's loop: what is opened is the rule's own period, and what is walked are its kept candidates.
-- Assumes nothing.
use Rattle.std.specs.Prelude.{if◌then◌else◌, Option, Some, None, Result, Ok, Err}
use Prim.Native.Nat.{ℕ, ◌+◌, ◌-◌, ◌*◌, ◌^◌, ◌≤◌, ◌<◌}
use mathlib.Core.Logic.{◌⊎◌, inl, inr}
use mathlib.Core.Path.{◌≡◌, refl, sym, ap, ◌∙◌, subst}
use mathlib.Core.Bool.{Bool, true, false, ◌||◌}
use mathlib.Core.List.{List}
use lib.ListN.{length, get_or, drop}
use lib.Seq.{sets}
use lib.Dec.{ltb, leb}
use native.Mathlib.Omega.{arith}
use native.Mathlib.Decide.{ℕ_discrete}
use Rattle.std.proofs.lemmas.Bool.{true≢false, and_parts}
use borrow.Author.Tests.{leb-true, lt-leb, ltb-true}
use Rattle.calendar.specs.Calendar.{new_year, year_of}
use Rattle.machine.specs.declared.Cause.{Cause}
use Rattle.machine.specs.declared.State.{State}
use Rattle.machine.specs.declared.Fault.{Fault}
use Rattle.machine.specs.declared.Stop.{Stop}
use Rattle.machine.specs.declared.Answer.{Answer}
use Rattle.machine.specs.Calls.{beside, answered}
use Rattle.machine.specs.declared.Cursor.{Cursor}
use Rattle.machine.specs.Given.{Bound, Bound.absent, Bound.present, Below, below, Move, Move.To, Move.NoTick, Move.Range, Given}
use Rattle.machine.specs.Cursors.{remaining, poised, Poised}
use Rattle.machine.specs.Faults.{refused_answer}
use Rattle.machine.specs.Run.{Now}
use Rattle.machine.specs.Compute as compute
use Rattle.rule.specs.declared.rrule.Rule.{Rule}
use Rattle.rule.specs.Periods.{in_range}
use Rattle.rule.specs.Candidates.{kept}
use Rattle.rule.specs.declared.rrule.Frequency.{Frequency}
use Rattle.rule.specs.Filling.{is_below}
use Rattle.rule.specs.Days.{day_passes}
use Rattle.rule.specs.Moves as moves-day
use Rattle.rule.specs.Moves.{fine, ticks, target, bounded, move}
use Rattle.rule.specs.Records.{yielded, Sized}
use Rattle.rule.specs.Run.{until_of, periods, run_of}
use Rattle.rule.proofs.Cursors.{number_fits}
use Rattle.weeks.specs.declared.yearinfo.Year.{Year}
use Rattle.clocks.specs.Clocks.{clock_in, sets_in}
use Rattle.clocks.proofs.Tied.{clock_hours, clock_minutes, clock_seconds_lem}
use Rattle.years.specs.declared.iterinfo.IterInfo.{IterInfo}
use Rattle.days.specs.Filters.{rule_lists}
use Rattle.days.specs.DaySets.{day_set}
use Rattle.years.specs.Info.{asked_of, info_of, rule_info}
use Rattle.periods.specs.declared.counter_date.Counter.{Counter}
use Rattle.stretches.specs.declared.counter_date.Days.{Days}
use Rattle.periods.specs.Counters.{counter_at, step_of}
use Rattle.stretches.specs.Stretches.{days_in}
use Rattle.moves.specs.Increments.{skipped, landing, arrive, stands, incremented, reached_by}
use Rattle.moves.specs.Claims.{Flags}
use Rattle.moves.proofs.Ties.{increment_is_move, k_is, reached_to, reached_cause}
use Rattle.moves.proofs.Steps.{skipped_none}
use Rattle.walks.specs.declared.rrule_iter.Why.{Why}
use Rattle.walks.specs.declared.rrule_iter.Held.{Held}
use Rattle.walks.specs.declared.rrule_iter.Bounds.{Bounds}
use Rattle.walks.specs.declared.rrule_iter.Walked.{Walked}
use Rattle.walks.specs.Walks.{bound_of, given_by, now_of, walked_by, tabled}
use Rattle.passing.specs.Passing.{Ready}
use Rattle.walks.proofs.ByBounds.{walk_by_bounds}
use Rattle.plans.specs.declared.plan.Plan.{Plan}
use Rattle.plans.specs.declared.plan.Shape.{Shape}
use Rattle.opening.specs.declared.period.Period.{Period}
use Rattle.opening.specs.declared.period.OpenPeriod.{OpenPeriod}
use Rattle.plans.specs.Plans.{until_second, bounds_of, shape_of, plan_from, plan_of}
use Rattle.units.specs.Years.{is_in_year, day_in, year_at}
use Rattle.opening.specs.Opening.{second_kept, days_by, period_by, chosen_by}
use Rattle.opened.specs.Opened.{span_of, day_set_of, is_positioned, period_in, days_over, places_over, Sound, Opened}
use Rattle.fitting.specs.Fitting.{is_fit}
use Rattle.opened.proofs.Opened.{opened}
use Rattle.opened.proofs.Yielded.{good}
use Rattle.opened.proofs.Spans.{covers_is, info_year, span_from_low, span_from_high, own_year}
use Rattle.settling.specs.Settling.{answer_of, held_of, moved_to, settled}
use Rattle.listing.proofs.Entering.{cursor_refused, runs_on}
use Rattle.listing.proofs.WalkLaws.{left_at, Stays, walk_stays, drop_tabled, settle_stops, Onward, settle_moves, then_moves, then_no_tick, then_range}

-- What holds at a turn once the cursor c is tried: what is held, and that the rest of the run is the whole of it.
pub record Going (r : Rule) (m : ℕ) (c : Cursor) (b₀ buffer : List ℕ) (k : ℕ) (held : Held) : Type 0 where
  pub formed : poised (periods r) c ≡ true
  pub place : held.cursor.place ≤ length (kept r k)
  pub handed : held.handed ≤ length buffer
  pub number : held.cursor.number ≤ 253402300800 + held.handed
  pub moves : held.moves ≤ m
  pub run : compute.runs (periods r) m (now_of State.Running (held_of c) b₀) ≡ compute.runs (periods r) (m - held.moves) (now_of State.Running held buffer)

-- What holds at each turn: the counter, the year and the slots; before the cursor is tried, that nothing is done yet.
pub record At (r : Rule) (m : ℕ) (c : Cursor) (b₀ buffer : List ℕ) (counter : Counter) (held : Held) (tried : Bool) (opened : OpenPeriod) (info : IterInfo)
    : Type 0 where
  pub counted : counter ≡ counter_at r counter.k
  pub ranged : in_range r counter.k ≡ true
  pub k_is : held.cursor.k ≡ counter.k
  pub y : ℕ
  pub year : info ≡ rule_info r y
  pub days_room : length opened.days ≡ 373
  pub places_room : length opened.places ≡ 732
  pub room : length buffer ≡ length b₀
  pub m_fits : m < 2 ^ 32
  pub fresh : tried ≡ false → (held ≡ held_of c) × (buffer ≡ b₀)
  pub going : tried ≡ true → Going r m c b₀ buffer counter.k held

-- the bounds of the plan are those that the rule's run is given
until_is : (u : Option ℕ) → until_of u ≡ bound_of (until_second u)
until_is None = refl
until_is (Some t) = refl

-- down to DAILY a move doesn't ask the day
coarse_alike : (f : Frequency) (interval : ℕ) (c : Counter) (clock : List Bool) → is_below Frequency.Daily f ≡ false → (x y : Bool)
    → incremented f interval c x clock ≡ incremented f interval c y clock
unfolding incremented
coarse_alike f interval c clock e x y =
    ap (λ (n : ℕ). if stands f interval c then arrive f (step_of f interval) c (landing f (step_of f interval) c clock (n + 1)) else Err Cause.Range)
    (alike f e)
  where
    alike : (f : Frequency) → is_below Frequency.Daily f ≡ false
        → skipped (ticks f) (step_of f interval) c.tick x ≡ skipped (ticks f) (step_of f interval) c.tick y
    alike Frequency.Yearly e = skipped_none _ _ x ∙ sym (skipped_none _ _ y)
    alike Frequency.Monthly e = skipped_none _ _ x ∙ sym (skipped_none _ _ y)
    alike Frequency.Weekly e = skipped_none _ _ x ∙ sym (skipped_none _ _ y)
    alike Frequency.Daily e = skipped_none _ _ x ∙ sym (skipped_none _ _ y)
    alike Frequency.Hourly e = absurd (true≢false e)
    alike Frequency.Minutely e = absurd (true≢false e)
    alike Frequency.Secondly e = absurd (true≢false e)

-- a move leads to a period in range
bounded_ranged : (r : Rule) (v : Move) (k' : ℕ) → bounded r v ≡ To k' → in_range r k' ≡ true
unfolding bounded
bounded_ranged r (To j) k' e = by_range (in_range r j) refl e
  where
    by_range : (b : Bool) → in_range r j ≡ b → (if b then To j else Range) ≡ To k' → in_range r k' ≡ true
    by_range true x e = ap (in_range r) (let z : j ≡ k' = cc in sym z) ∙ x
    by_range false x e = absurd (let z : ◌≡◌ {A = ℕ} 0 1 = cc in omega arith)
bounded_ranged r NoTick k' e = absurd (let z : ◌≡◌ {A = ℕ} 0 1 = cc in omega arith)
bounded_ranged r Range k' e = absurd (let z : ◌≡◌ {A = ℕ} 0 1 = cc in omega arith)

move_ranged : (r : Rule) (k k' : ℕ) → move r k ≡ To k' → in_range r k' ≡ true
unfolding move
move_ranged r k k' e = bounded_ranged r (target r k) k' e

-- the clock's flags are the rule's
clock_flags : (r : Rule) → Sized r → Flags r (clock_in r)
clock_flags r z = record {
  hours_are = λ i l. ap (λ (j : ℕ). get_or (clock_in r) j false) (omega arith) ∙ clock_hours r z i l;
  minutes_are = clock_minutes r z;
  seconds_are = clock_seconds_lem r z;
}

-- what a walk has left is what it holds
stays_held : (w : Walked) (buffer' : List ℕ) {j number made handed : ℕ} {buffer : List ℕ} → Stays j number made handed buffer (left_at (walked_by w buffer'))
    → Stays j number made handed buffer (now_of State.Running w.held buffer')
unfolding walked_by
stays_held w buffer' = go w.why
  where
    same : (state : State) {j number made handed : ℕ} {buffer : List ℕ} → Stays j number made handed buffer (now_of state w.held buffer')
        → Stays j number made handed buffer (now_of State.Running w.held buffer')
    same state s = record {
      k_same = s.k_same;
      made_same = s.made_same;
      room_same = s.room_same;
      handed_low = s.handed_low;
      handed_high = s.handed_high;
      number_is = s.number_is;
    }

    go : (why : Why) {j number made handed : ℕ} {buffer : List ℕ}
        → Stays j number made handed buffer (left_at (walked_by (record { why = why; held = w.held }) buffer'))
        → Stays j number made handed buffer (now_of State.Running w.held buffer')
    go Why.Full s = same State.Running s
    go Why.Until s = same (State.Ended Cause.Until) s
    go Why.Count s = same (State.Ended Cause.Count) s
    go Why.Through s = same State.Running s

-- the test of a running cursor says what it says in words
poised_is : (g : Given ℕ) (c : Cursor) → poised g c ≡ true → Poised g c
poised_is g c e =
    let a = and_parts (leb 1 g.interval) _ e in
    let b = and_parts (g.in_range c.k) _ a.1 in
    let d = and_parts (leb c.place (length (g.kept c.k))) _ b.1 in
    let f = and_parts (below g.count c.number) _ d.1 in
    record {
      interval = leb-true _ _ a.0;
      in_range = b.0;
      place = leb-true _ _ d.0;
      below = is_below_lem g.count c.number f.0;
      number = leb-true _ _ f.1;
    }
  where
    is_below_lem : (b : Bound) (n : ℕ) → below b n ≡ true → Below b n
    is_below_lem absent n e = tt
    is_below_lem (present x) n e = ltb-true n x e

-- ---- periods from equal parts

same_period : (s s' : Shape) (first first' count count' tick tick' : ℕ) (clock clock' bysetpos : List Bool)
    → s ≡ s' → first ≡ first' → count ≡ count' → tick ≡ tick' → clock ≡ clock'
    → period_by s first count tick clock bysetpos ≡ period_by s' first' count' tick' clock' bysetpos
same_period s s' first first' count count' tick tick' clock clock' bysetpos a b c d e = rw (a, b, c, d, e)

same_places : (s s' : Shape) (first first' count count' tick tick' : ℕ) (clock clock' bysetpos : List Bool) (slots : List ℕ)
    → s ≡ s' → first ≡ first' → count ≡ count' → tick ≡ tick' → clock ≡ clock'
    → chosen_by s first count tick clock bysetpos slots ≡ chosen_by s' first' count' tick' clock' bysetpos slots
same_places s s' first first' count count' tick tick' clock clock' bysetpos slots a b c d e = rw (a, b, c, d, e)

same_days : (s s' : Shape) (info info' : IterInfo) (r : Rule) (span span' : Days) → s ≡ s' → info ≡ info' → span ≡ span'
    → days_by s info (rule_lists r) span ≡ days_by s' info' (rule_lists r) span'
same_days s s' info info' r span span' a b c = rw (a, b, c)

same_fit : (s s' : Shape) (span span' : Days) (tick tick' : ℕ) (b b' : Bounds) (p p' : Period) (c : Cursor) (ds ds' ls ls' ps ps' : List ℕ)
    → s ≡ s' → span ≡ span' → tick ≡ tick' → b ≡ b' → p ≡ p' → ds ≡ ds' → ls ≡ ls' → ps ≡ ps'
    → is_fit s span tick b p c ds ls ps ≡ is_fit s' span' tick' b' p' c ds' ls' ps'
same_fit s s' span span' tick tick' b b' p p' c ds ds' ls ls' ps ps' e f g h i j k l = rw (e, f, g, h, i, j, k, l)

same_tabled : (t t' : Bool) (p p' : Period) (ds ds' ls ls' ps ps' : List ℕ) (i : ℕ) → t ≡ t' → p ≡ p' → ds ≡ ds' → ls ≡ ls' → ps ≡ ps'
    → tabled (second_kept t p.frame ds ls ps) i (p.kept - i) ≡ tabled (second_kept t' p'.frame ds' ls' ps') i (p'.kept - i)
same_tabled t t' p p' ds ds' ls ls' ps ps' i a b c d e = rw (a, b, c, d, e)

same_move : (f f' : Frequency) (i i' : ℕ) (c c' : Counter) (x : Bool) (clock clock' : List Bool) → f ≡ f' → i ≡ i' → c ≡ c' → clock ≡ clock'
    → incremented f i c x clock ≡ incremented f' i' c' x clock'
same_move f f' i i' c c' x clock clock' a b d e = rw (a, b, d, e)

-- ---- what a plan tells
module _ (r : Rule) (plan : Plan) (p : plan ≡ plan_of r) where
  shape_is : plan.shape ≡ shape_of r
  unfolding plan_of plan_from shape_of
  shape_is = ap (λ (x : Plan). x.shape) p

  freq_is : plan.shape.freq ≡ r.freq
  unfolding shape_of
  freq_is = ap (λ (x : Shape). x.freq) shape_is

  positioned_is : plan.shape.positioned ≡ is_positioned r
  unfolding shape_of
  positioned_is = ap (λ (x : Shape). x.positioned) shape_is

  interval_is : plan.interval ≡ r.interval
  unfolding plan_of plan_from
  interval_is = ap (λ (x : Plan). x.interval) p

  clock_is : plan.clock ≡ clock_in r
  unfolding plan_of plan_from
  clock_is = ap (λ (x : Plan). x.clock) p

  lists_are : plan.lists ≡ (sets_in r).lists
  unfolding plan_of plan_from
  lists_are = ap (λ (x : Plan). x.lists) p

  bounds_are : plan.bounds ≡ bounds_of r
  unfolding plan_of plan_from bounds_of
  bounds_are = ap (λ (x : Plan). x.bounds) p

  -- the days of a counter's period
  pub span_is : (k : ℕ) (counter : Counter) (span : Days) → counter ≡ counter_at r k
      → span ≡ days_in plan.shape.freq counter.number → span ≡ span_of r k
  span_is k counter span c s =
      s ∙ ap (λ (f : Frequency). days_in f counter.number) freq_is ∙ ap (λ (x : Counter). days_in r.freq x.number) c

  -- the year that is opened for them
  module _ (h : yielded r ≡ true) (k : ℕ) (inside : in_range r k ≡ true) (span : Days) (s : span ≡ span_of r k) (info : IterInfo)
      (n : ℕ) (e : n ≡ year_at span.from)
      (made : info ≡ info_of plan.shape.asked plan.shape.inyear r.wkst r.byweekno r.byday n) where
    day_is : day_in span.from ≡ (span_of r k).from
    day_is =
        let low : (span_of r k).from < 4194304 = omega (arith, span_from_high r (good r h) k inside) in
        ap (λ (x : Days). day_in x.from) s ∙ rw (lt-leb 4194304 (span_of r k).from low)

    pub info_made : info ≡ rule_info r (year_of (span_of r k).from)
    unfolding rule_info year_at shape_of
    info_made =
        made
        ∙ ap (λ (x : Shape). info_of x.asked x.inyear r.wkst r.byweekno r.byday n) shape_is
        ∙ ap (rule_info r) (e ∙ ap year_of day_is)

    pub info_covers : is_in_year info.year span.from ≡ true
    info_covers =
        ap (λ (x : IterInfo). is_in_year x.year span.from) info_made
        ∙ ap (λ (x : Days). is_in_year (rule_info r (year_of (span_of r k).from)).year x.from) s ∙ own_year r (good r h) k inside

-- ---- one turn: what is given, and that the year covers the period
pub record Turn : Type 0 where
  pub r : Rule
  pub h : yielded r ≡ true
  pub one : 1 ≤ r.interval
  pub plan : Plan
  pub p : plan ≡ plan_of r
  pub m : ℕ
  pub c : Cursor
  pub running : c.state ≡ State.Running
  pub b₀ : List ℕ
  pub buffer : List ℕ
  pub counter : Counter
  pub held : Held
  pub tried : Bool
  pub opened : OpenPeriod
  pub info : IterInfo
  pub a : At r m c b₀ buffer counter held tried opened info
  pub span : Days
  pub s : span ≡ days_in plan.shape.freq counter.number
  pub covered : is_in_year info.year span.from ≡ true

-- its passing days, as places in the year
abbrev pub days_of : Turn → List ℕ
days_of t = days_by t.plan.shape t.info (rule_lists t.r) t.span

-- what opening the period tells
pub record Opens (t : Turn) : Type 0 where
  pub opened : OpenPeriod
  pub period_told : opened.period
      ≡ period_by t.plan.shape t.info.year.first (length (days_of t)) t.counter.tick t.plan.clock t.r.bysetpos
  pub days_told : opened.days ≡ sets t.opened.days 0 (days_of t)
  pub places_told : opened.places
      ≡ chosen_by t.plan.shape t.info.year.first (length (days_of t)) t.counter.tick t.plan.clock t.r.bysetpos t.opened.places

-- the test of the cursor there
abbrev pub fits : (t : Turn) → Opens t → Bool
fits t o = is_fit t.plan.shape t.span t.counter.tick t.plan.bounds o.opened.period t.c o.opened.days t.plan.lists o.opened.places

-- what a walk tells
abbrev pub to_walk : (t : Turn) → Opens t → List ℕ
to_walk t o =
    tabled (second_kept t.plan.shape.positioned o.opened.period.frame o.opened.days t.plan.lists o.opened.places) t.held.cursor.place
    (o.opened.period.kept - t.held.cursor.place)

pub record Walks (t : Turn) (o : Opens t) : Type 0 where
  pub going : Going t.r t.m t.c t.b₀ t.buffer t.counter.k t.held
  pub w : Walked
  pub buffer : List ℕ
  pub told : walked_by w buffer ≡ compute.walk (given_by t.plan.bounds) (to_walk t o) (now_of State.Running t.held t.buffer)

module _ (t : Turn) where
  abbrev r : Rule
  r = t.r

  abbrev k : ℕ
  k = t.counter.k

  abbrev y : ℕ
  y = t.a.y

  stretch : t.span ≡ span_of r k
  stretch = span_is r t.plan t.p k t.counter t.span t.a.counted t.s

  covered_is : is_in_year (rule_info r y).year (span_of r k).from ≡ true
  covered_is =
      ap (λ (x : IterInfo). is_in_year x.year (span_of r k).from) (sym t.a.year)
      ∙ ap (λ (x : Days). is_in_year t.info.year x.from) (sym stretch) ∙ t.covered

  first_is : t.info.year.first ≡ new_year y
  first_is =
      let low = span_from_low r (good r t.h) k t.a.ranged in
      let high = (covers_is r y (span_of r k).from low covered_is).high in
      ap (λ (x : IterInfo). x.year.first) t.a.year ∙ ap (λ (x : Year). x.first) (info_year r y high)

  here : Opened r k y t.opened.days t.opened.places
  here = opened r t.h k t.a.ranged y covered_is t.opened.days t.opened.places t.a.days_room t.a.places_room

  tick_is : t.counter.tick ≡ (counter_at r k).tick
  tick_is = ap (λ (x : Counter). x.tick) t.a.counted

  set_is : days_of t ≡ day_set_of r k y
  unfolding shape_of
  set_is =
      same_days _ _ t.info t.info r _ _ (shape_is r t.plan t.p) refl stretch
      ∙ ap (λ (n : ℕ). day_set (asked_of r) t.info (rule_lists r) ((span_of r k).from - n) ((span_of r k).to - n)) first_is
      ∙ ap (λ (x : IterInfo). day_set (asked_of r) x (rule_lists r) ((span_of r k).from - new_year y) ((span_of r k).to - new_year y)) t.a.year

  count_is : length (days_of t) ≡ length (day_set_of r k y)
  count_is = ap (λ (l : List ℕ). length l) set_is

  -- the period that is opened is the rule's own
  module _ (o : Opens t) where
    period_is : o.opened.period ≡ period_in r k y
    period_is =
        o.period_told
        ∙ same_period _ _ _ _ _ _ _ _ _ _ r.bysetpos (shape_is r t.plan t.p) first_is count_is tick_is (clock_is r t.plan t.p)

    days_are : o.opened.days ≡ days_over r k y t.opened.days
    days_are = o.days_told ∙ ap (sets t.opened.days 0) set_is

    places_are : o.opened.places ≡ places_over r k y t.opened.places
    places_are =
        o.places_told
        ∙ same_places _ _ _ _ _ _ _ _ _ _ r.bysetpos t.opened.places (shape_is r t.plan t.p) first_is count_is tick_is (clock_is r t.plan t.p)

    -- what a walk asks
    pub sound : Sound t.plan.shape.positioned o.opened.period t.plan.lists
    sound =
        subst (λ (b : Bool). Sound b o.opened.period t.plan.lists) (sym (positioned_is r t.plan t.p))
        (subst (λ (x : Period). Sound (is_positioned r) x t.plan.lists) (sym period_is)
        (subst (λ (l : List ℕ). Sound (is_positioned r) (period_in r k y) l) (sym (lists_are r t.plan t.p)) here.sound))

    -- the cursor fits where it is well formed
    fit_is : t.c.k ≡ k → fits t o ≡ poised (periods r) t.c
    fit_is e =
        same_fit _ _ _ _ _ _ _ _ _ _ t.c _ _ _ _ _ _ (shape_is r t.plan t.p) stretch tick_is (bounds_are r t.plan t.p) period_is
        days_are (lists_are r t.plan t.p) places_are
        ∙ here.fit_is t.one t.c e

    begins : t.held ≡ held_of t.c → t.c.k ≡ k
    begins e = sym (ap (λ (x : Held). x.cursor.k) e) ∙ t.a.k_is

    -- before it is tried a run that goes on is the whole run
    goes_first : t.tried ≡ false → poised (periods r) t.c ≡ true → Going r t.m t.c t.b₀ t.buffer k t.held
    unfolding periods
    goes_first q f =
        let e = t.a.fresh q in
        let g : Poised (periods r) t.c = poised_is (periods r) t.c f in
        let n = number_fits r t.h t.c (λ x. g) t.running in
        let place : t.c.place ≤ length (kept r k) = subst (λ (x : ℕ). t.c.place ≤ length (kept r x)) (begins e.0) g.place in
        subst (λ (b : List ℕ). Going r t.m t.c t.b₀ b k t.held) (sym e.1)
        (subst (λ (x : Held). Going r t.m t.c t.b₀ t.b₀ k x) (sym e.0) (record {
          formed = f;
          place = place;
          handed = omega arith;
          number = omega (arith, n);
          moves = omega arith;
          run = ap (λ (x : ℕ). compute.runs (periods r) x (now_of State.Running (held_of t.c) t.b₀)) (omega arith);
        }))

    module _ (b : Bool) (taken : b ≡ (t.tried || fits t o)) where
      pub refused_right : (v : Answer) → v ≡ refused_answer Fault.Cursor t.c → b ≡ false → beside v t.buffer ≡ run_of r t.c t.b₀ t.m
      refused_right v u e = by_tried t.tried refl taken
        where
          by_tried : (q : Bool) → t.tried ≡ q → b ≡ (q || fits t o) → beside v t.buffer ≡ run_of r t.c t.b₀ t.m
          by_tried true q x = absurd (true≢false (sym x ∙ e))
          by_tried false q x =
              let f = t.a.fresh q in
              ap (λ (l : List ℕ). beside v l) f.1
              ∙ cursor_refused r t.c t.b₀ t.m v t.h t.running (sym (fit_is (begins f.0)) ∙ sym x ∙ e) u

      pub goes : b ≡ true → Going r t.m t.c t.b₀ t.buffer k t.held
      goes e = by_tried t.tried refl taken
        where
          by_tried : (q : Bool) → t.tried ≡ q → b ≡ (q || fits t o) → Going r t.m t.c t.b₀ t.buffer k t.held
          by_tried true q x = t.a.going q
          by_tried false q x = goes_first q (sym (fit_is (begins (t.a.fresh q).0)) ∙ sym x ∙ e)

    -- a call that goes on is ready to walk
    pub ready : Going r t.m t.c t.b₀ t.buffer k t.held → length t.b₀ * 8 < 2 ^ 63 → Ready t.plan.bounds t.held t.buffer
    unfolding bounds_of
    ready g l = record {
      start = subst (λ (x : Bounds). 62135596800 ≤ x.start) (sym (bounds_are r t.plan t.p)) (omega arith);
      handed = g.handed;
      number = omega (arith, g.number, g.handed, t.a.room);
    }

    -- ---- the walk
    module _ (v : Walks t o) where
      abbrev s : Now ℕ
      s = now_of State.Running t.held t.buffer

      abbrev left : ℕ
      left = t.m - t.held.moves

      -- the candidates that remain are walked over
      abbrev f : ℕ → ℕ
      f = second_kept (is_positioned r) (period_in r k y).frame (days_over r k y t.opened.days) (sets_in r).lists (places_over r k y t.opened.places)

      from_zero : tabled f t.held.cursor.place ((period_in r k y).kept - t.held.cursor.place)
          ≡ drop t.held.cursor.place (tabled f 0 (period_in r k y).kept)
      from_zero =
          let z : 0 + t.held.cursor.place ≡ t.held.cursor.place = omega arith in
          ap (λ (i : ℕ). tabled f i ((period_in r k y).kept - t.held.cursor.place)) (sym z)
          ∙ sym (drop_tabled f (period_in r k y).kept 0 t.held.cursor.place (omega (arith, v.going.place, here.kept_length)))

      remains : to_walk t o ≡ remaining (periods r) s.cursor
      unfolding periods
      remains =
          same_tabled _ _ _ _ _ _ _ _ _ _ t.held.cursor.place (positioned_is r t.plan t.p) period_is days_are (lists_are r t.plan t.p)
          places_are
          ∙ from_zero
          ∙ ap (drop t.held.cursor.place) (sym here.kept_are_tabled)
          ∙ ap (λ (x : ℕ). drop t.held.cursor.place (kept r x)) (sym t.a.k_is)

      -- so the walk is that of the rule's own run
      walk_is : compute.walk (periods r) (remaining (periods r) s.cursor) s ≡ walked_by v.w v.buffer
      unfolding periods bounds_of
      walk_is =
          walk_by_bounds (periods r) (bounds_of r) refl (until_is r.until) refl refl (remaining (periods r) s.cursor) s
          ∙ ap (λ (b : Bounds). compute.walk (given_by b) (remaining (periods r) s.cursor) s) (sym (bounds_are r t.plan t.p))
          ∙ ap (λ (l : List ℕ). compute.walk (given_by t.plan.bounds) l s) (sym remains)
          ∙ sym v.told

      abbrev held' : Held
      held' = v.w.held

      stays : Stays t.held.cursor.k t.held.cursor.number t.held.moves t.held.handed t.buffer (now_of State.Running held' v.buffer)
      stays =
          stays_held v.w v.buffer
          (subst (λ (x : compute.Walked ℕ). Stays t.held.cursor.k t.held.cursor.number t.held.moves t.held.handed t.buffer (left_at x))
          walk_is
          (walk_stays (periods r) (remaining (periods r) s.cursor) t.held.cursor.k t.held.cursor.place t.held.cursor.number
          t.held.moves t.held.handed t.buffer v.going.handed))

      pub room_is : length v.buffer ≡ length t.b₀
      room_is = stays.room_same ∙ t.a.room

      budget : left ≡ t.m - held'.moves
      budget = ap (λ (x : ℕ). t.m - x) (sym stays.made_same)

      whole : (x : Answer) (l : List ℕ) → beside x l ≡ answered (compute.runs (periods r) t.m (now_of State.Running (held_of t.c) t.b₀))
          → beside x l ≡ run_of r t.c t.b₀ t.m
      whole x l e = runs_on r t.c t.b₀ t.m x t.h t.running v.going.formed l e

      -- the walk stops the run
      pub stops_right : (x : Answer) → Some x ≡ settled v.w (length v.buffer) t.m → beside x v.buffer ≡ run_of r t.c t.b₀ t.m
      stops_right x q =
          whole x v.buffer (sym (ap answered v.going.run
          ∙ settle_stops (periods r) s left t.m held' v.buffer budget v.w.why walk_is x (sym q)))

      -- the move
      move_is : incremented t.plan.shape.freq t.plan.interval t.counter (ltb 0 o.opened.period.frame.days) t.plan.clock
          ≡ reached_by r (move r k)
      move_is =
          same_move _ _ _ _ _ _ (ltb 0 o.opened.period.frame.days) _ _ (freq_is r t.plan t.p) (interval_is r t.plan t.p) t.a.counted
          (clock_is r t.plan t.p)
          ∙ ap (λ (x : Period). incremented r.freq r.interval (counter_at r k) (ltb 0 x.frame.days) (clock_in r)) period_is
          ∙ by_day (fine r) refl
          ∙ increment_is_move r t.one (good r t.h).start k t.a.ranged (clock_in r) (clock_flags r (good r t.h).sized)
        where
          by_day : (b : Bool) → fine r ≡ b → incremented r.freq r.interval (counter_at r k) (ltb 0 (period_in r k y).frame.days) (clock_in r)
              ≡ incremented r.freq r.interval (counter_at r k) (day_passes r (moves-day.day_in r k)) (clock_in r)
          by_day true e = ap (λ (x : Bool). incremented r.freq r.interval (counter_at r k) x (clock_in r)) (sym (here.day_passes_lem e))
          by_day false e = coarse_alike r.freq r.interval (counter_at r k) (clock_in r) e _ _

      module _ (q : None ≡ settled v.w (length v.buffer) t.m) where
        onward : Onward v.w (length v.buffer) t.m
        onward = settle_moves v.w.why held' (length v.buffer) t.m (sym q)

        within : held'.moves ≤ t.m
        within = omega (arith, v.going.moves, stays.made_same)

        spare : held'.moves < t.m
        spare = go (ℕ_discrete held'.moves t.m)
          where
            go : Dec (held'.moves ≡ t.m) → held'.moves < t.m
            go (yes x) = absurd (onward.unspent x)
            go (no x) = omega (arith, within)

        moving : (x : Move) → move r k ≡ x → (periods r).move held'.cursor.k ≡ x
        unfolding periods
        moving x e = ap (move r) (stays.k_same ∙ t.a.k_is) ∙ e

        pub moves_left : t.held.moves < t.m
        moves_left = omega (arith, spare, stays.made_same)

        module _ (reached : Result Counter Cause)
            (told : reached ≡ incremented t.plan.shape.freq t.plan.interval t.counter (ltb 0 o.opened.period.frame.days) t.plan.clock) where
          -- the move ends the run
          pub ends_right : (cause : Cause) (x : Answer) → reached ≡ Err cause → x ≡ answer_of Stop.Ended (State.Ended cause) held'
              → beside x v.buffer ≡ run_of r t.c t.b₀ t.m
          ends_right cause x n u = whole x v.buffer (ap (λ (z : Answer). beside z v.buffer) u ∙ sym (ap answered v.going.run
              ∙ by_cause (reached_cause r (move r k) cause (sym move_is ∙ sym told ∙ n))))
            where
              Ends : Cause → Type 0
              Ends d = answered (compute.runs (periods r) left s) ≡ beside (answer_of Stop.Ended (State.Ended d) held') v.buffer

              by_cause : ((cause ≡ Cause.NoTick) × (move r k ≡ NoTick)) ⊎ ((cause ≡ Cause.Range) × (move r k ≡ Range)) → Ends cause
              by_cause (inl e) = subst Ends (sym e.0) (then_no_tick (periods r) s left t.m v.w v.buffer budget within walk_is onward (moving NoTick e.1))
              by_cause (inr e) = subst Ends (sym e.0) (then_range (periods r) s left t.m v.w v.buffer budget within walk_is onward (moving Range e.1))

          -- or it leads on
          module _ (next : Counter) (to : reached ≡ Ok next) (later : Held) (moved : later ≡ moved_to next.k held') where
            pub moves_one : later.moves ≡ t.held.moves + 1
            moves_one = ap (λ (x : Held). x.moves) moved ∙ omega (arith, spare, stays.made_same, t.a.m_fits)

            pub leads_on : At r t.m t.c t.b₀ v.buffer next later true o.opened t.info
            leads_on =
                let x = reached_to r (move r k) next (sym move_is ∙ sym told ∙ to) in
                let j = moving (To next.k) x.0 in
                subst (λ (z : Held). At r t.m t.c t.b₀ v.buffer next z true o.opened t.info) (sym moved) (record {
                  counted = x.1;
                  ranged = move_ranged r k next.k x.0;
                  k_is = refl;
                  y = y;
                  year = t.a.year;
                  days_room = ap (λ (l : List ℕ). length l) days_are ∙ here.days_length;
                  places_room = ap (λ (l : List ℕ). length l) places_are ∙ here.places_length;
                  room = room_is;
                  m_fits = t.a.m_fits;
                  fresh = λ e. absurd (true≢false e);
                  going = λ e. record {
                    formed = v.going.formed;
                    place = omega arith;
                    handed = omega (arith, stays.handed_high, stays.room_same);
                    number = omega (arith, v.going.number, stays.number_is);
                    moves = omega (arith, spare);
                    run = v.going.run
                        ∙ then_moves (periods r) s left t.m v.w v.buffer budget within walk_is onward t.a.m_fits next.k j;
                  };
                })

-- ---- before the first turn, and where the year changes
pub begins_at : (r : Rule) (m : ℕ) (c : Cursor) (held : Held) (b₀ : List ℕ) (first : Counter) (opened : OpenPeriod) (info : IterInfo) (y : ℕ)
    → in_range r c.k ≡ true → held ≡ held_of c → first ≡ counter_at r c.k → length opened.days ≡ 373 → length opened.places ≡ 732
    → info ≡ rule_info r y → m < 2 ^ 32
    → At r m c b₀ b₀ first held false opened info
begins_at r m c held b₀ first slots info y inside e f d l i z =
    let k : first.k ≡ c.k = ap (λ (x : Counter). x.k) f ∙ k_is r c.k in
    record {
      counted = f ∙ ap (counter_at r) (sym k);
      ranged = ap (in_range r) k ∙ inside;
      k_is = ap (λ (x : Held). x.cursor.k) e ∙ sym k;
      y = y;
      year = i;
      days_room = d;
      places_room = l;
      room = refl;
      m_fits = z;
      fresh = λ q. (e, refl);
      going = λ q. absurd (true≢false (sym q));
    }

pub rebuilt : (r : Rule) (m : ℕ) (c : Cursor) (b₀ buffer : List ℕ) (counter : Counter) (held : Held) (tried : Bool) (opened : OpenPeriod)
    (info info' : IterInfo) (y : ℕ)
    → At r m c b₀ buffer counter held tried opened info → info' ≡ rule_info r y → At r m c b₀ buffer counter held tried opened info'
rebuilt r m c b₀ buffer counter held tried slots info info' y a e = record {
  counted = a.counted;
  ranged = a.ranged;
  k_is = a.k_is;
  y = y;
  year = e;
  days_room = a.days_room;
  places_room = a.places_room;
  room = a.room;
  m_fits = a.m_fits;
  fresh = a.fresh;
  going = a.going;
}

-- each turn brings the run nearer to its end: it makes a move, or finds its year
pub nearer_by_year : (x : ℕ) (now next : Bool) → now ≡ false → next ≡ true → x + (if next then 0 else 1) < x + (if now then 0 else 1)
nearer_by_year x now next e f = rw (e, f) (omega arith)

pub nearer_by_move : (m made made' : ℕ) (now next : Bool) → made < m → made' ≡ made + 1
    → 2 * (m - made') + (if next then 0 else 1) < 2 * (m - made) + (if now then 0 else 1)
nearer_by_move m made made' now next h e =
    let a : (if next then 0 else 1) ≤ 1 = at_most_one next in
    let b : 2 * (m - made') + 2 ≤ 2 * (m - made) = omega arith in
    omega arith
  where
    at_most_one : (b : Bool) → (if b then 0 else 1) ≤ 1
    at_most_one true = omega arith
    at_most_one false = omega arith
