-- Counters that are so many periods ahead of one.
-- Assumes nothing.
use Prim.Native.Nat.{ℕ, ◌+◌, ◌*◌, ◌/◌, ◌%◌, ◌<◌}
use mathlib.Core.Path.{◌≡◌, refl, sym, ap, ◌∙◌}
use native.Mathlib.Nat.{add-mul, div-add-mod', mod-lt, div-eq_of_lt, mul-add-div_right, mul-add-mod_self_right}
use native.Mathlib.Omega.{arith}
use Rattle.periods.specs.declared.counter_date.Counter.{Counter}
use Rattle.ticks.specs.Ticks.{tick_on}
use Rattle.ticks.proofs.Days.{tick_is}
use Rattle.moves.specs.Increments.{ahead}

abbrev counter : ℕ → ℕ → ℕ → Counter
counter k number tick = record { k = k; number = number; tick = tick }

same_counter : {k number tick j day place : ℕ} → k ≡ j → number ≡ day → tick ≡ place → counter k number tick ≡ counter j day place
same_counter a b c = rw (a, b, c)

-- a number of ticks is cut into days and the tick in one way (ticks, Days)
pub day_is : (perday number tick sum : ℕ) → tick < perday → number * perday + tick ≡ sum → number ≡ sum / perday
day_is perday number tick sum h e =
    let a : (number * perday + tick) / perday ≡ number + tick / perday = mul-add-div_right (omega arith) number tick in
    let b : tick / perday ≡ 0 = div-eq_of_lt h in
    (let d : number ≡ (number * perday + tick) / perday = omega arith in d) ∙ ap (λ (x : ℕ). x / perday) e

-- the counters of a rule whose days have so many periods, each a step apart
module _ (perday step : ℕ) where
  abbrev sum_at : Counter → ℕ → ℕ
  sum_at c n = c.number * perday + c.tick + n * step

  -- what has the right k and the right sum is the counter n periods on
  pub ahead_is : (c d : Counter) (n : ℕ) → d.k ≡ c.k + n → d.tick < perday → d.number * perday + d.tick ≡ sum_at c n
      → d ≡ ahead perday step c n
  unfolding ahead
  ahead_is c d n e h s =
      let a : d.number ≡ sum_at c n / perday = day_is perday d.number d.tick (sum_at c n) h s in
      let b : d.tick ≡ sum_at c n % perday = tick_is perday d.number d.tick (sum_at c n) h s in
      same_counter e a b

  pub ahead_sum : (c : Counter) (n : ℕ) → (ahead perday step c n).number * perday + (ahead perday step c n).tick ≡ sum_at c n
  unfolding ahead
  ahead_sum c n = div-add-mod' (sum_at c n) perday

  -- its tick is found with no day
  pub tick_ahead : (c : Counter) (n : ℕ) → (ahead perday step c n).tick ≡ tick_on perday step c.tick n
  unfolding ahead
  tick_ahead c n =
      let s : sum_at c n ≡ c.number * perday + (c.tick + n * step) = omega arith in
      ap (λ (x : ℕ). x % perday) s ∙ mul-add-mod_self_right c.number perday (c.tick + n * step)

  module _ (some : 0 < perday) where
    day_ahead : (c : Counter) (n : ℕ) → (ahead perday step c n).number ≡ c.number + (c.tick + n * step) / perday
    unfolding ahead
    day_ahead c n =
        let s : sum_at c n ≡ c.number * perday + (c.tick + n * step) = omega arith in
        ap (λ (x : ℕ). x / perday) s ∙ mul-add-div_right some c.number (c.tick + n * step)

    pub ahead_tick : (c : Counter) (n : ℕ) → (ahead perday step c n).tick < perday
    unfolding ahead
    ahead_tick c n = mod-lt (sum_at c n) some

    -- no period on is the period itself; and m on, and n on from there, is m + n on
    pub ahead_none : (c : Counter) → c.tick < perday → c ≡ ahead perday step c 0
    ahead_none c h = ahead_is c c 0 (omega arith) h (omega arith)

    pub ahead_ahead : (c : Counter) (m n : ℕ) → ahead perday step (ahead perday step c m) n ≡ ahead perday step c (m + n)
    unfolding ahead
    ahead_ahead c m n =
        let d : Counter = ahead perday step c m in
        let a : (ahead perday step d n).number * perday + (ahead perday step d n).tick ≡ sum_at d n = ahead_sum d n in
        let b : d.number * perday + d.tick ≡ sum_at c m = ahead_sum c m in
        let e : (m + n) * step ≡ m * step + n * step = add-mul m n step in
        ahead_is c (ahead perday step d n) (m + n) (omega arith) (ahead_tick d n) (omega arith)

    -- the days that n periods lead on, counted at once
    pub ahead_at : (c d : Counter) (n : ℕ) → d.k ≡ c.k + n → d.number ≡ c.number + (c.tick + n * step) / perday
        → d.tick ≡ tick_on perday step c.tick n → d ≡ ahead perday step c n
    unfolding ahead
    ahead_at c d n a b e = same_counter a (b ∙ sym (day_ahead c n)) (e ∙ sym (tick_ahead c n))

  pub ahead_k : (c : Counter) (n : ℕ) → (ahead perday step c n).k ≡ c.k + n
  unfolding ahead
  ahead_k c n = refl
