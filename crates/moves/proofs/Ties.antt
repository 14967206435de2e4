-- The move over counters is the rule's own move.
-- Assumes nothing.
use Rattle.std.specs.Prelude.{if◌then◌else◌}
use Prim.Native.Nat.{ℕ, ◌+◌, ◌*◌, ◌/◌, ◌%◌, ◌≤◌, ◌<◌}
use mathlib.Core.Path.{◌≡◌, refl, sym, ap, ◌∙◌}
use mathlib.Core.Bool.{Bool, true, false}
use mathlib.Core.Logic.{inl, inr}
use mathlib.Core.List.{List}
use lib.Dec.{ltb}
use native.Mathlib.Nat.{add-mul, div-add-mod', mod-lt, mul-le-mul, le-mul_of_pos_right, mul-div_cancel}
use native.Mathlib.Omega.{arith}
use borrow.Author.Tests.{ltb-true}
use Rattle.machine.specs.Given.{Move, Move.To, Move.NoTick, Move.Range}
use Rattle.rule.specs.declared.rrule.Frequency.{Frequency}
use Rattle.rule.specs.declared.rrule.Rule.{Rule}
use Rattle.rule.specs.Instants.{second, hour_of}
use Rattle.rule.specs.Filling.{is_below}
use Rattle.rule.specs.Days.{day_passes}
use Rattle.rule.specs.Times.{hour_passes, minute_passes, second_passes, time_passes, tick_passes}
use Rattle.rule.specs.Periods.{period, in_range}
use Rattle.rule.specs.Moves.{day_in, tick_in, fine, ticks, next_day, first_from, target, bounded, move}
use Rattle.periods.specs.declared.counter_date.Counter.{Counter}
use Rattle.periods.specs.Counters.{number_of, step_of, counter_at, limit_of, below}
use Rattle.periods.proofs.Counted.{in_range_is, place_is_tick, hourly_hour, minutely_hour, minutely_minute, secondly_hour, secondly_minute, secondly_second}
use Rattle.ticks.specs.Ticks.{tick_is_in, first_tick}
use Rattle.ticks.proofs.Days.{some_ticks, ticks_fit}
use Rattle.ticks.proofs.Searches.{passes_at, later, shifted}
use Rattle.moves.specs.Increments.{ahead, skipped, landing, arrive, reached_by}
use Rattle.moves.specs.Claims.{Flags, CounterStands, IncrementIsMove, ReachedTo, ReachedNoTick, ReachedRange, ReachedCause}
use Rattle.moves.proofs.Ahead.{ahead_is, tick_ahead}
use Rattle.moves.proofs.Steps.{limit_fits, skipped_none, is_standing, moves}

-- ---- a tick has some seconds, and a step leads on
some_seconds : (f : Frequency) → 0 < 86400 / ticks f
some_seconds Frequency.Yearly = omega arith
some_seconds Frequency.Monthly = omega arith
some_seconds Frequency.Weekly = omega arith
some_seconds Frequency.Daily = omega arith
some_seconds Frequency.Hourly = omega arith
some_seconds Frequency.Minutely = omega arith
some_seconds Frequency.Secondly = omega arith

some_step : (f : Frequency) (i : ℕ) → 1 ≤ i → 1 ≤ step_of f i
unfolding step_of
some_step Frequency.Yearly i h = h
some_step Frequency.Monthly i h = h
some_step Frequency.Weekly i h = omega arith
some_step Frequency.Daily i h = h
some_step Frequency.Hourly i h = h
some_step Frequency.Minutely i h = h
some_step Frequency.Secondly i h = h

fine_step : (f : Frequency) (i : ℕ) → is_below Frequency.Daily f ≡ true → step_of f i ≡ i
unfolding step_of
fine_step Frequency.Yearly i h = refl
fine_step Frequency.Monthly i h = refl
fine_step Frequency.Weekly i h = absurd (let z : ◌≡◌ {A = ℕ} 0 1 = cc in omega arith)
fine_step Frequency.Daily i h = refl
fine_step Frequency.Hourly i h = refl
fine_step Frequency.Minutely i h = refl
fine_step Frequency.Secondly i h = refl

coarse_ticks : (f : Frequency) → is_below Frequency.Daily f ≡ false → ticks f ≡ 1
coarse_ticks Frequency.Yearly h = refl
coarse_ticks Frequency.Monthly h = refl
coarse_ticks Frequency.Weekly h = refl
coarse_ticks Frequency.Daily h = refl
coarse_ticks Frequency.Hourly h = absurd (let z : ◌≡◌ {A = ℕ} 0 1 = cc in omega arith)
coarse_ticks Frequency.Minutely h = absurd (let z : ◌≡◌ {A = ℕ} 0 1 = cc in omega arith)
coarse_ticks Frequency.Secondly h = absurd (let z : ◌≡◌ {A = ℕ} 0 1 = cc in omega arith)

-- ---- the counters of a rule
module _ (r : Rule) where
  abbrev step : ℕ
  step = step_of r.freq r.interval

  abbrev sum_of : ℕ → ℕ
  sum_of k = number_of r.freq r.wkst (second r.start) + k * step

  sum_is : (k : ℕ) → (counter_at r k).number * ticks r.freq + (counter_at r k).tick ≡ sum_of k
  unfolding counter_at
  sum_is k = div-add-mod' (sum_of k) (ticks r.freq)

  tick_in_lem : (k : ℕ) → (counter_at r k).tick < ticks r.freq
  unfolding counter_at
  tick_in_lem k = mod-lt (sum_of k) (some_ticks r.freq)

  pub k_is : (k : ℕ) → (counter_at r k).k ≡ k
  unfolding counter_at
  k_is k = refl

  -- n periods on from period k is period k + n
  pub counter_ahead : (k n : ℕ) → counter_at r (k + n) ≡ ahead (ticks r.freq) step (counter_at r k) n
  counter_ahead k n =
      let a : (counter_at r (k + n)).number * ticks r.freq + (counter_at r (k + n)).tick ≡ sum_of (k + n) = sum_is (k + n) in
      let b : (counter_at r k).number * ticks r.freq + (counter_at r k).tick ≡ sum_of k = sum_is k in
      let d : (k + n) * step ≡ k * step + n * step = add-mul k n step in
      let e : (counter_at r (k + n)).k ≡ (counter_at r k).k + n = k_is (k + n) ∙ ap (λ (x : ℕ). x + n) (sym (k_is k)) in
      ahead_is (ticks r.freq) step (counter_at r k) (counter_at r (k + n)) n e (tick_in_lem (k + n)) (omega arith)

  -- its tick passes by the flags where the rule says so
  module _ (clock : List Bool) (are : Flags r clock) where
    tick_by : (f : Frequency) (k : ℕ) → r.freq ≡ f → tick_is_in f clock (counter_at r k).tick ≡ tick_passes r f (period r k).begins
    unfolding tick_is_in tick_passes time_passes
    tick_by Frequency.Yearly k e = refl
    tick_by Frequency.Monthly k e = refl
    tick_by Frequency.Weekly k e = refl
    tick_by Frequency.Daily k e = refl
    tick_by Frequency.Hourly k e =
        let h : (counter_at r k).tick ≡ hour_of (period r k).begins = hourly_hour r k e in
        are.hours_are (counter_at r k).tick (omega arith) ∙ ap (hour_passes r) h
    tick_by Frequency.Minutely k e =
        let h : (counter_at r k).tick / 60 ≡ hour_of (period r k).begins = minutely_hour r k e in
        let a = are.hours_are ((counter_at r k).tick / 60) (omega arith) ∙ ap (hour_passes r) h in
        let b = are.minutes_are ((counter_at r k).tick % 60) (omega arith) ∙ ap (minute_passes r) (minutely_minute r k e) in
        rw (a, b)
    tick_by Frequency.Secondly k e =
        let h : (counter_at r k).tick / 3600 ≡ hour_of (period r k).begins = secondly_hour r k e in
        let a = are.hours_are ((counter_at r k).tick / 3600) (omega arith) ∙ ap (hour_passes r) h in
        let b = are.minutes_are ((counter_at r k).tick / 60 % 60) (omega arith) ∙ ap (minute_passes r) (secondly_minute r k e) in
        let d = are.seconds_are ((counter_at r k).tick % 60) (omega arith) ∙ ap (second_passes r) (secondly_second r k e) in
        rw (a, b, d)

    tick_is : (k n : ℕ) → tick_in r (k + n) ≡ passes_at r.freq step (counter_at r k).tick clock n
    unfolding tick_in
    tick_is k n =
        sym (tick_by r.freq (k + n) refl)
        ∙ ap (tick_is_in r.freq clock) (ap (λ (x : Counter). x.tick) (counter_ahead k n) ∙ tick_ahead (ticks r.freq) step (counter_at r k) n)

  -- ---- where the search begins
  tick_of : (k : ℕ) → fine r ≡ true → (period r k).begins % 86400 / (86400 / ticks r.freq) ≡ (counter_at r k).tick
  tick_of k e = ap (λ (x : ℕ). x / (86400 / ticks r.freq)) (place_is_tick r k e) ∙ mul-div_cancel (counter_at r k).tick (some_seconds r.freq)

  begins_at : (k : ℕ) (b : Bool) → fine r ≡ true → (if b then k + 1 else next_day r k) ≡ k + (skipped (ticks r.freq) step (counter_at r k).tick b + 1)
  unfolding next_day skipped
  begins_at k true e = refl
  begins_at k false e = rw (tick_of k e, fine_step r.freq r.interval e) (omega arith)

  coarse_skip : (k : ℕ) (b : Bool) → fine r ≡ false → skipped (ticks r.freq) step (counter_at r k).tick b ≡ 0
  coarse_skip k b e = ap (λ (x : ℕ). skipped x step (counter_at r k).tick b) (coarse_ticks r.freq e) ∙ skipped_none _ _ _

  -- ---- where it ends
  reached : (k : ℕ) → below (limit_of r.freq) (counter_at r k) ≡ reached_by r (bounded r (To k))
  unfolding below reached_by bounded
  reached k = go (in_range r k) refl
    where
      go : (b : Bool) → in_range r k ≡ b → below (limit_of r.freq) (counter_at r k) ≡ reached_by r (bounded r (To k))
      go true e = let t : ltb (counter_at r k).number (limit_of r.freq) ≡ true = sym (in_range_is r k) ∙ e in rw t (rw (e, bounded))
      go false e = let t : ltb (counter_at r k).number (limit_of r.freq) ≡ false = sym (in_range_is r k) ∙ e in rw t (rw (e, bounded))

  arrives : (k : ℕ) (v : Move) → arrive r.freq step (counter_at r k) v ≡ reached_by r (bounded r (later k v))
  unfolding arrive reached_by bounded
  arrives k (To n) = ap (below (limit_of r.freq)) (sym (counter_ahead k n)) ∙ reached (k + n)
  arrives k NoTick = refl
  arrives k Range = refl

  -- ---- the move
  module _ (clock : List Bool) (are : Flags r clock) (k : ℕ) where
    abbrev from : ℕ
    from = skipped (ticks r.freq) step (counter_at r k).tick (day_passes r (day_in r k)) + 1

    target_is : (b : Bool) → fine r ≡ b → later k (landing r.freq step (counter_at r k) clock from) ≡ target r k
    unfolding landing target first_tick
    target_is true e =
        rw e
        (sym (shifted (tick_in r) (passes_at r.freq step (counter_at r k).tick clock) k (tick_is clock are k) (ticks r.freq) from)
        ∙ ap (first_from (tick_in r) (ticks r.freq)) (sym (begins_at k (day_passes r (day_in r k)) e)))
    target_is false e = rw e (ap (λ (x : ℕ). To (k + (x + 1))) (coarse_skip k _ e))

-- ---- the guard: a period in range has a counter that stands, as each step leads on by a second or more
near : (number tick sum limit perday k first step : ℕ) → number * perday + tick ≡ sum → tick < perday → number < limit → limit ≤ 3652059 → perday ≤ 86400
    → sum ≡ first + k * step → 1 ≤ step → k ≤ 1099511627776
near number tick sum limit perday k first step e t l m p s o =
    let a : (number + 1) * perday ≤ 3652059 * 86400 = mul-le-mul (let q : number + 1 ≤ 3652059 = omega arith in q) p in
    let b : k ≤ k * step = le-mul_of_pos_right k o in
    omega (arith, add-mul number 1 perday)

k_near : (r : Rule) → 1 ≤ r.interval → (k : ℕ) → (counter_at r k).number < limit_of r.freq → k ≤ 1099511627776
k_near r one k n =
    near (counter_at r k).number (counter_at r k).tick (sum_of r k) (limit_of r.freq) (ticks r.freq) k _ (step r)
    (sum_is r k) (tick_in_lem r k) n (limit_fits r.freq) (ticks_fit r.freq) refl (some_step r.freq r.interval one)

pub counter_stands : CounterStands
counter_stands r one start k e =
    let n : (counter_at r k).number < limit_of r.freq = ltb-true _ _ (sym (in_range_is r k) ∙ e) in
    is_standing r.freq r.interval (counter_at r k)
    (record { some = one; near = rw (k_is r k) (k_near r one k n); inside = n; tick = tick_in_lem r k })

pub increment_is_move : IncrementIsMove
unfolding move
increment_is_move r one start k e clock are =
    sym (moves r.freq r.interval (counter_at r k) (day_passes r (day_in r k)) clock (counter_stands r one start k e))
    ∙ arrives r k (landing r.freq (step r) (counter_at r k) clock (from r clock are k))
    ∙ ap (λ (v : Move). reached_by r (bounded r v)) (target_is r clock are k (fine r) refl)

-- ---- what a counter that was reached tells of the move
pub reached_to : ReachedTo
unfolding reached_by
reached_to r (To k) c e =
    let a : counter_at r k ≡ c = cc in
    let b : k ≡ c.k = sym (k_is r k) ∙ ap (λ (x : Counter). x.k) a in
    (ap To b, sym a ∙ ap (counter_at r) b)
reached_to r NoTick c e = absurd (let z : ◌≡◌ {A = ℕ} 0 1 = cc in omega arith)
reached_to r Range c e = absurd (let z : ◌≡◌ {A = ℕ} 0 1 = cc in omega arith)

pub reached_no_tick : ReachedNoTick
unfolding reached_by
reached_no_tick r (To k) e = absurd (let z : ◌≡◌ {A = ℕ} 0 1 = cc in omega arith)
reached_no_tick r NoTick e = refl
reached_no_tick r Range e = absurd (let z : ◌≡◌ {A = ℕ} 0 1 = cc in omega arith)

pub reached_range : ReachedRange
unfolding reached_by
reached_range r (To k) e = absurd (let z : ◌≡◌ {A = ℕ} 0 1 = cc in omega arith)
reached_range r NoTick e = absurd (let z : ◌≡◌ {A = ℕ} 0 1 = cc in omega arith)
reached_range r Range e = refl

pub reached_cause : ReachedCause
unfolding reached_by
reached_cause r (To k) cause e = absurd (let z : ◌≡◌ {A = ℕ} 0 1 = cc in omega arith)
reached_cause r NoTick cause e = inl ((cc), refl)
reached_cause r Range cause e = inr ((cc), refl)
