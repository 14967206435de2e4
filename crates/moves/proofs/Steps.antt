-- A step of the code, from where it sets off to where it lands.
-- Assumes nothing.
use Rattle.std.specs.Prelude.{Result, Err}
use Prim.Native.Nat.{ℕ, ◌+◌, ◌-◌, ◌*◌, ◌≤◌, ◌<◌}
use mathlib.Core.Path.{◌≡◌, refl, sym, ap, ◌∙◌}
use mathlib.Core.Bool.{Bool, true, false, ◌&&◌}
use mathlib.Core.Logic.{◌⊎◌, inl, inr}
use mathlib.Core.List.{List}
use native.Mathlib.Nat.{zero-div, div-le_self, div-mul-le_self}
use native.Mathlib.Omega.{arith}
use borrow.Author.Tests.{ltb-true, leb-true, lt-ltb, le-leb}
use Rattle.machine.specs.declared.Cause.{Cause}
use Rattle.machine.specs.Given.{Move.To}
use Rattle.rule.specs.declared.rrule.Frequency.{Frequency}
use Rattle.rule.specs.Filling.{is_below}
use Rattle.rule.specs.Moves.{ticks}
use Rattle.periods.specs.declared.counter_date.Counter.{Counter}
use Rattle.periods.specs.Counters.{step_of, limit_of, below}
use Rattle.ticks.specs.Ticks.{first_tick}
use Rattle.ticks.proofs.Days.{ticks_fit}
use Rattle.moves.specs.Increments.{ahead, skipped, landing, arrive, fits, stands, incremented}
use Rattle.moves.proofs.Ahead.{day_is, ahead_is, ahead_tick, ahead_none, ahead_k}
use Rattle.moves.proofs.Searches.{arrived, arrives_later}

-- ---- bounds
pub limit_fits : (freq : Frequency) → limit_of freq ≤ 3652059
unfolding limit_of
limit_fits Frequency.Yearly = omega arith
limit_fits Frequency.Monthly = omega arith
limit_fits Frequency.Weekly = omega arith
limit_fits Frequency.Daily = omega arith
limit_fits Frequency.Hourly = omega arith
limit_fits Frequency.Minutely = omega arith
limit_fits Frequency.Secondly = omega arith

step_few : (freq : Frequency) (interval : ℕ) → step_of freq interval ≤ 7 * interval
unfolding step_of
step_few Frequency.Yearly interval = omega arith
step_few Frequency.Monthly interval = omega arith
step_few Frequency.Weekly interval = omega arith
step_few Frequency.Daily interval = omega arith
step_few Frequency.Hourly interval = omega arith
step_few Frequency.Minutely interval = omega arith
step_few Frequency.Secondly interval = omega arith

-- ---- the two kinds of frequency, as a match tells them apart
abbrev pub Coarse : Frequency → Type 0
Coarse f = (f ≡ Frequency.Yearly) ⊎ ((f ≡ Frequency.Monthly) ⊎ ((f ≡ Frequency.Weekly) ⊎ (f ≡ Frequency.Daily)))

pub is_coarse : (f : Frequency) → Coarse f → (is_below Frequency.Daily f ≡ false) × (ticks f ≡ 1)
is_coarse f (inl e) = rw e (refl, refl)
is_coarse f (inr (inl e)) = rw e (refl, refl)
is_coarse f (inr (inr (inl e))) = rw e (refl, refl)
is_coarse f (inr (inr (inr e))) = rw e (refl, refl)

abbrev pub Fine : Frequency → Type 0
Fine f = (f ≡ Frequency.Hourly) ⊎ ((f ≡ Frequency.Minutely) ⊎ (f ≡ Frequency.Secondly))

pub is_fine : (f : Frequency) (interval : ℕ) → Fine f
    → (is_below Frequency.Daily f ≡ true) × (limit_of f ≡ 3652059) × (step_of f interval ≡ interval)
unfolding limit_of step_of
is_fine f interval (inl e) = rw e (refl, refl, refl)
is_fine f interval (inr (inl e)) = rw e (refl, refl, refl)
is_fine f interval (inr (inr e)) = rw e (refl, refl, refl)

-- ---- the periods passed over unseen
pub skipped_none : (step tick : ℕ) (b : Bool) → skipped 1 step tick b ≡ 0
unfolding skipped
skipped_none step tick true = refl
skipped_none step tick false = let e : 1 - 1 - tick ≡ 0 = omega arith in rw e (zero-div step)

module _ (perday step : ℕ) (c : Counter) (h : c.tick < perday) where
  pub skipped_few : (b : Bool) → skipped perday step c.tick b ≤ perday
  unfolding skipped
  skipped_few true = omega arith
  skipped_few false = omega (arith, div-le_self (perday - 1 - c.tick) step)

  pub skipped_within : (b : Bool) → c.tick + skipped perday step c.tick b * step < perday
  unfolding skipped
  skipped_within true = omega arith
  skipped_within false = omega (arith, div-mul-le_self (perday - 1 - c.tick) step)

  -- they are all on the day of the counter
  skipped_day : (b : Bool) → (ahead perday step c (skipped perday step c.tick b)).number ≡ c.number
  unfolding ahead
  skipped_day b =
      let n : ℕ = skipped perday step c.tick b in
      sym (day_is perday c.number (c.tick + n * step) (c.number * perday + c.tick + n * step) (skipped_within b) (omega arith))

  -- where the search sets off
  pub set_off_here : (b : Bool) → b ≡ true → c ≡ ahead perday step c (skipped perday step c.tick b)
  unfolding skipped
  set_off_here b e = rw e (ahead_none perday step (omega arith) c h)

  pub set_off_late : (b : Bool) (n : ℕ) (d : Counter) → b ≡ false → n ≡ skipped perday step c.tick false
      → d.k ≡ c.k + n → d.number ≡ c.number → d.tick ≡ c.tick + n * step
      → d ≡ ahead perday step c (skipped perday step c.tick b)
  set_off_late b n d e f x y z =
      rw (e, ← f) (ahead_is perday step c d n x (let q : c.tick + n * step < perday = rw f (skipped_within false) in omega arith) (rw (y, z) (omega arith)))

  -- so from where the search sets off, a cycle of the day leads nowhere that wraps
  pub off_fits : (b : Bool) (d : Counter) → d ≡ ahead perday step c (skipped perday step c.tick b)
      → c.k ≤ 1099511627776 → c.number < 3652059 → perday ≤ 86400
      → (d.k ≤ 1099511714176) × (d.number ≤ 3652059) × (d.tick < perday)
  off_fits b d e k l p =
      let n : ℕ = skipped perday step c.tick b in
      let f : n ≤ perday = skipped_few b in
      let x : d.k ≡ c.k + n = ap (λ (x : Counter). x.k) e ∙ ahead_k perday step c n in
      let y : d.number ≡ c.number = ap (λ (x : Counter). x.number) e ∙ skipped_day b in
      (omega arith, omega arith, rw e (ahead_tick perday step (omega arith) c n))

-- ---- the counters that a move starts from
pub record Fits (limit perday interval : ℕ) (c : Counter) : Type 0 where
  pub some : 1 ≤ interval
  pub near : c.k ≤ 1099511627776
  pub inside : c.number < limit
  pub tick : c.tick < perday

abbrev pub Stands : Frequency → ℕ → Counter → Type 0
Stands freq interval c = Fits (limit_of freq) (ticks freq) interval c

and_both : (a b : Bool) → (a && b) ≡ true → (a ≡ true) × (b ≡ true)
and_both true b e = (refl, e)
and_both false b e = absurd (let z : ◌≡◌ {A = ℕ} 0 1 = cc in omega arith)

pub does_fit : (limit perday interval : ℕ) (c : Counter) → fits limit perday interval c ≡ true → Fits limit perday interval c
does_fit limit perday interval c e =
    let x = and_both _ _ e in
    let y = and_both _ _ x.0 in
    let z = and_both _ _ y.0 in
    record { some = ltb-true _ _ z.0; near = leb-true _ _ z.1; inside = ltb-true _ _ y.1; tick = ltb-true _ _ x.1 }

module _ (freq : Frequency) (interval : ℕ) (c : Counter) where
  pub does_stand : stands freq interval c ≡ true → Stands freq interval c
  unfolding stands
  does_stand e = does_fit (limit_of freq) (ticks freq) interval c e

  pub is_standing : Stands freq interval c → stands freq interval c ≡ true
  unfolding stands
  is_standing s = rw (lt-ltb _ _ s.some, le-leb _ _ s.near, lt-ltb _ _ s.inside, lt-ltb _ _ s.tick)

  -- it fits where it stands, by its own limit and ticks
  pub fits_is : (limit perday : ℕ) → limit_of freq ≡ limit → ticks freq ≡ perday → fits limit perday interval c ≡ stands freq interval c
  unfolding stands
  fits_is limit perday l t = rw (l, t)

  module _ (passes : Bool) (clock : List Bool) where
    abbrev moved : Result Counter Cause
    moved = incremented freq interval c passes clock

    pub stays : stands freq interval c ≡ false → Err Cause.Range ≡ moved
    unfolding incremented
    stays e = rw e

    abbrev step : ℕ
    step = step_of freq interval

    pub moves : stands freq interval c ≡ true
        → arrive freq step c (landing freq step c clock (skipped (ticks freq) step c.tick passes + 1)) ≡ moved
    unfolding incremented
    moves e = rw e

    lands_first : (i : ℕ) → is_below Frequency.Daily freq ≡ false → landing freq step c clock i ≡ To i
    unfolding landing
    lands_first i f = rw f

    lands_tick : (i : ℕ) → is_below Frequency.Daily freq ≡ true
        → landing freq step c clock i ≡ first_tick freq step c.tick clock (ticks freq) i
    unfolding landing
    lands_tick i f = rw f

    -- down to DAILY
    pub by_period : (by limit : ℕ) → stands freq interval c ≡ true
        → is_below Frequency.Daily freq ≡ false → ticks freq ≡ 1 → step ≡ by → limit_of freq ≡ limit
        → below limit (ahead 1 by c 1) ≡ moved
    by_period by limit e f t s l =
        let n : skipped (ticks freq) step c.tick passes ≡ 0 = ap (λ (x : ℕ). skipped x step c.tick passes) t ∙ skipped_none _ _ _ in
        arrived freq limit by 1 c (ahead 1 by c 1) l (ap (λ (x : ℕ). ahead x by c 1) (sym t))
        ∙ ap (λ (x : ℕ). arrive freq x c (To 1)) (sym s)
        ∙ ap (λ (x : ℕ). arrive freq step c (To (x + 1))) (sym n)
        ∙ ap (arrive freq step c) (sym (lands_first _ f))
        ∙ moves e

    -- below it
    pub by_tick : (perday by : ℕ) (from : Counter) → stands freq interval c ≡ true
        → is_below Frequency.Daily freq ≡ true → perday ≡ ticks freq → by ≡ step
        → from ≡ ahead perday by c (skipped perday by c.tick passes)
        → arrive freq by from (first_tick freq by from.tick clock perday 1) ≡ moved
    by_tick perday by from e f t s g =
        let h : c.tick < ticks freq = (does_stand e).tick in
        rw (g, t, s)
        (arrives_later freq step c (omega arith) clock (skipped (ticks freq) step c.tick passes) (ticks freq) 1
        ∙ ap (arrive freq step c) (sym (lands_tick _ f))
        ∙ moves e)

-- what a counter that stands asks of a step
module _ (freq : Frequency) (interval : ℕ) (c : Counter) (e : stands freq interval c ≡ true) where
  pub tick_fits : (perday by : ℕ) → perday ≡ ticks freq → by ≡ interval → (c.k ≤ 1099511627776) × (c.tick < perday) × (perday ≤ 86400) × (1 ≤ by)
  tick_fits perday by t s =
      let w : Stands freq interval c = does_stand freq interval c e in
      (omega arith, omega arith, omega (arith, ticks_fit freq), omega arith)

  pub search_fits : (perday by : ℕ) (passes : Bool) (d : Counter) → perday ≡ ticks freq → limit_of freq ≡ 3652059
      → d ≡ ahead perday by c (skipped perday by c.tick passes)
      → (d.k ≤ 1099511714176) × (d.number ≤ 3652059) × (d.tick < perday)
  search_fits perday by passes d t l g =
      let s : Stands freq interval c = does_stand freq interval c e in
      off_fits perday by c (omega arith) passes d g (omega arith) (omega arith) (omega (arith, ticks_fit freq))

  -- and what one down to DAILY asks of it
  pub period_fits : (limit by : ℕ) → limit ≡ limit_of freq → ticks freq ≡ 1 → by ≡ step_of freq interval → interval < 65536
      → (c.k ≤ 1099511627776) × (c.number ≤ 3652059) × (c.tick ≡ 0) × (by ≤ 458745)
  period_fits limit by l t s h =
      let w : Stands freq interval c = does_stand freq interval c e in
      (omega arith, omega (arith, limit_fits freq), omega arith, omega (arith, step_few freq interval))
