-- The second of a candidate: by its day and time, and how high a time can be.
-- Assumes nothing.
use Rattle.std.specs.Prelude.{if◌then◌else◌}
use Prim.Native.Nat.{ℕ, ◌+◌, ◌-◌, ◌*◌, ◌/◌, ◌%◌, ◌≤◌, ◌<◌, ◌^◌}
use mathlib.Core.Path.{◌≡◌, sym, ◌∙◌}
use mathlib.Core.Bool.{Bool, true, false}
use mathlib.Core.List.{List}
use lib.ListN.{get_or}
use lib.Dec.{ltb}
use native.Mathlib.Nat.{mul-add-div_right, mul-add-mod_self_right, div-eq_of_lt, mod-eq_of_lt, mod-lt, mod-eq-sub-div-mul, div-mul-le_self}
use native.Mathlib.Nat.{mul-le-mul, mul-le-mul_right, suc-mul}
use native.Mathlib.Numerals.{add-one}
use native.Mathlib.Omega.{arith}
use Rattle.rule.specs.declared.rrule.Frequency.{Frequency}
use Rattle.rule.specs.Filling.{is_below}
use Rattle.times.specs.declared.iterinfo.Counts.{Counts}
use Rattle.times.specs.TimeSets.{value_at, time_at}
use Rattle.walks.specs.declared.rrule_iter.Frame.{Frame}
use Rattle.walks.specs.Walks.{Bytes, second_on, second_at, second_chosen}

-- a place in days of t times each
pub day_of_lem : (d t j : ℕ) → j < t → (d * t + j) / t ≡ d
day_of_lem d t j h = mul-add-div_right (omega arith) d j ∙ rw (div-eq_of_lt h) (omega arith)

pub time_of : (d t j : ℕ) → j < t → (d * t + j) % t ≡ j
time_of d t j h = mul-add-mod_self_right d t j ∙ mod-eq_of_lt h

pub time_left : (t j : ℕ) → (t ≡ 0 → ⊥) → j - j / t * t < t
time_left t j h = rw (← mod-eq-sub-div-mul j t) (mod-lt j (omega arith))

pub days_and_left : (t j d : ℕ) → d ≡ j / t → j ≡ d * t + (j - d * t)
days_and_left t j d e = rw e (omega (arith, div-mul-le_self j t))

-- the place after a day, and the places before n days
pub next_day_lem : (d t : ℕ) → (d + 1) * t ≡ d * t + t
next_day_lem d t = rw add-one (suc-mul d t)

pub within_days : (n d t j : ℕ) → d < n → j < t → d * t + j < n * t
within_days n d t j h l =
    let m : (d + 1) * t ≤ n * t = mul-le-mul_right t (omega arith) in
    omega (arith, next_day_lem d t)

pub past_days : (n d t j : ℕ) → n ≤ d → n * t ≤ d * t + j
past_days n d t j h =
    let m : n * t ≤ d * t = mul-le-mul_right t h in
    omega arith

pub no_times : (n t j : ℕ) → t ≡ 0 → n * t ≤ j
no_times n t j e = rw e (omega arith)

pub in_a_year : (n t j : ℕ) → n ≤ 373 → t < 131072 → j < n * t → j < 2 ^ 31
in_a_year n t j a b h =
    let l : t ≤ 131072 = omega arith in
    let m : n * t ≤ 373 * 131072 = mul-le-mul a l in
    omega arith

-- the candidate at the place of day d and time t
pub second_there : (f : Frame) (days lists : List ℕ) (place d t : ℕ) → place ≡ d * f.times + t → t < f.times
    → second_on f days lists d t ≡ second_at f days lists place
unfolding second_at
second_there f days lists place d t e h = sym (rw (e, day_of_lem d f.times t h, time_of d f.times t h))

-- the same from the quotient and what it leaves
pub second_by : (f : Frame) (days lists : List ℕ) (j d : ℕ) → d ≡ j / f.times
    → second_on f days lists d (j - d * f.times) ≡ second_at f days lists j
unfolding second_at
second_by f days lists j d e = rw (e, mod-eq-sub-div-mul j f.times)

-- the kept candidate at a place
pub second_chosen_lem : (f : Frame) (days lists places : List ℕ) (p i x : ℕ) → p ≡ i → x ≡ second_at f days lists (get_or places i 0)
    → x ≡ second_chosen f days lists places p
unfolding second_chosen
second_chosen_lem f days lists places p i x e h = rw e h

-- a value of a row of bytes, or one that is fixed
value_below : (coarser : Bool) (lists : List ℕ) (from size j fixed m : ℕ) → Bytes lists → 256 ≤ m → fixed < m
    → value_at coarser lists from size j fixed < m
value_below false lists from size j fixed m b l h = h
value_below true lists from size j fixed m b l h = inner (ltb j size)
  where
    inner : (c : Bool) → (if c then get_or lists (from + j) 0 else 0) < m
    inner true = omega (arith, b (from + j))
    inner false = omega arith

pub time_below : (freq : Frequency) (begins : ℕ) (counts : Counts) (lists : List ℕ) (t : ℕ) → Bytes lists → begins < 2 ^ 32
    → time_at freq begins counts lists t < 2 ^ 40
unfolding time_at
time_below freq begins counts lists t b h =
    let j = t / counts.seconds in
    let x = value_below (is_below freq Frequency.Hourly) lists 0 24 (j / counts.minutes) (begins / 3600) 1193047 b (omega arith) (omega arith) in
    let y = value_below (is_below freq Frequency.Minutely) lists 24 60 (j % counts.minutes) (begins / 60 % 60) 256 b (omega arith) (omega arith) in
    let z = value_below (is_below freq Frequency.Secondly) lists 84 60 (t % counts.seconds) (begins % 60) 256 b (omega arith) (omega arith) in
    omega (arith, x, y, z)
