-- Days that are passed at one go: with a slot free, the walk from there is the walk from here.
-- Assumes nothing.
use Prim.Native.Nat.{ℕ, zero, suc, ◌+◌, ◌-◌, ◌*◌, ◌/◌, ◌%◌, ◌≤◌, ◌<◌}
use mathlib.Core.Path.{◌≡◌, refl, sym, ap, subst, ◌∙◌}
use mathlib.Core.Bool.{Bool, true, false, not, ◌&&◌}
use mathlib.Core.Logic.{⊎_elim}
use mathlib.Core.List.{List}
use lib.ListN.{length}
use lib.Dec.{eqb, ltb}
use native.Mathlib.Nat.{div-add-mod', suc-mul, add-mul, mul-le-mul_right}
use native.Mathlib.Omega.{arith}
use borrow.Author.Tests.{ltb-true, ltb-false, le-ltb, eqb-true, not-true}
use Rattle.machine.specs.Given.{Bound, Bound.absent, Bound.present, above}
use Rattle.machine.specs.Compute.{Walked}
use Rattle.rule.proofs.FillLaws.{both}
use Rattle.rule.proofs.Order.{below_or}
use Rattle.times.specs.TimeSets.{time_at}
use Rattle.walks.specs.declared.rrule_iter.Held.{Held}
use Rattle.walks.specs.declared.rrule_iter.Bounds.{Bounds}
use Rattle.walks.specs.declared.rrule_iter.Frame.{Frame}
use Rattle.walks.specs.Walks.{bound_of, is_framed, second_on, second_at, walk_from, Timely}
use Rattle.passing.specs.Passing.{is_passed, last_of, passable, held_at, passed_days}
use Rattle.walks.proofs.SecondLaws.{next_day_lem, second_there}
use Rattle.walks.proofs.WalkLaws.{rest_pass}

-- what is not above UNTIL stays so further down
not_above_down : (u : Bound) (x y : ℕ) → x ≤ y → above u y ≡ false → above u x ≡ false
not_above_down absent x y h e = refl
not_above_down (present b) x y h e = let a : y ≤ b = ltb-false b y e in le-ltb b x (omega arith)

-- a second before the start, and not above UNTIL
abbrev Early : Bounds → ℕ → Type 0
Early b x = (x < b.start) × (above (bound_of b.until) x ≡ false)

-- so many candidates from the place on that are all before the start, and none above UNTIL
module _ (b : Bounds) (f : ℕ → ℕ) (n : ℕ) (h : Held) (buffer : List ℕ) (free : h.handed ≡ length buffer → ⊥) where
  pass_many : (m place : ℕ) → place + m ≤ n → ((j : ℕ) → place ≤ j → j < place + m → Early b (f j))
      → walk_from b f n (held_at h place) buffer ≡ walk_from b f n (held_at h (place + m)) buffer
  pass_many zero place l e = ap (λ (p : ℕ). walk_from b f n (held_at h p) buffer) (omega arith)
  pass_many (suc m) place l e =
      let w : Early b (f place) = e place (omega arith) (omega arith) in
      let r : (j : ℕ) → place + 1 ≤ j → j < place + 1 + m → Early b (f j) = λ j p q. e j (omega arith) (omega arith) in
      let s : place + 1 + m ≡ place + suc m = omega arith in
      rest_pass b f n (held_at h place) buffer (omega arith) (f place) refl free w.1 w.0
      ∙ pass_many m (place + 1) (omega arith) r
      ∙ ap (λ (p : ℕ). walk_from b f n (held_at h p) buffer) s

-- A day that may be passed: none of its times is at the start or above UNTIL, where every time is within the day.
module _ (b : Bounds) (f : Frame) (days lists : List ℕ) (timely : Timely f lists) where
  day_early : (d t : ℕ) → t < f.times → is_passed b (last_of f days d) ≡ true
      → Early b (second_on f days lists d t)
  unfolding second_on
  day_early d t h e =
      let w : (ltb (last_of f days d) b.start ≡ true) × (not (above (bound_of b.until) (last_of f days d)) ≡ true) = both _ _ e in
      let l : last_of f days d < b.start = ltb-true _ _ w.0 in
      let m : time_at f.freq f.begins f.counts lists t < 86400 = timely t h in
      (omega arith, not_above_down (bound_of b.until) _ (last_of f days d) (omega arith) (not-true _ w.1))

  -- the candidates of day d are those from place d * t on
  place_early : (d j : ℕ) → is_passed b (last_of f days d) ≡ true → d * f.times ≤ j → j < d * f.times + f.times
      → Early b (second_at f days lists j)
  place_early d j e l r =
      let s : j ≡ d * f.times + (j - d * f.times) = omega arith in
      let t : j - d * f.times < f.times = omega arith in
      rw (← second_there f days lists j d (j - d * f.times) s t) (day_early d (j - d * f.times) t e)

  module _ (h : Held) (buffer : List ℕ) (free : h.handed ≡ length buffer → ⊥) where
    -- the walk from a place, over n days
    abbrev From : ℕ → ℕ → Walked ℕ
    From n place = walk_from b (second_at f days lists) (n * f.times) (held_at h place) buffer

    -- m days from number d on, of n in all
    walk_past : (n m d : ℕ) → d + m ≤ n → From n (d * f.times) ≡ From n (d * f.times + passable b f days d m * f.times)
    unfolding passable
    walk_past n zero d l = ap (From n) (omega arith)
    walk_past n (suc m) d l = step (is_passed b (last_of f days d)) refl (walk_past n m (d + 1) (omega arith))
      where
        step : (t : Bool) → is_passed b (last_of f days d) ≡ t
            → From n ((d + 1) * f.times) ≡ From n ((d + 1) * f.times + passable b f days (d + 1) m * f.times)
            → From n (d * f.times) ≡ From n (d * f.times + (elim t [ true ↦ suc (passable b f days (d + 1) m) | false ↦ 0 ]) * f.times)
        step false e r = ap (From n) (omega arith)
        step true e r =
            let k : (d + 1) * f.times ≤ n * f.times = mul-le-mul_right f.times (omega arith) in
            let o : (d + 1) * f.times ≡ d * f.times + f.times = next_day_lem d f.times in
            let q : suc (passable b f days (d + 1) m) * f.times ≡ passable b f days (d + 1) m * f.times + f.times = suc-mul _ _ in
            let a : d * f.times + f.times ≡ (d + 1) * f.times = omega arith in
            let z : (d + 1) * f.times + passable b f days (d + 1) m * f.times ≡ d * f.times + suc (passable b f days (d + 1) m) * f.times = omega arith in
            pass_many b (second_at f days lists) (n * f.times) h buffer free f.times (d * f.times) (omega arith) (λ j. place_early d j e)
            ∙ ap (From n) a
            ∙ r
            ∙ ap (From n) z

-- no more days are passed than there are
pub passable_short : (b : Bounds) (f : Frame) (days : List ℕ) (d n : ℕ) → passable b f days d n ≤ n
unfolding passable
passable_short b f days d zero = omega arith
passable_short b f days d (suc n) = step (is_passed b (last_of f days d)) (passable_short b f days (d + 1) n)
  where
    step : (t : Bool) → passable b f days (d + 1) n ≤ n → (elim t [ true ↦ suc (passable b f days (d + 1) n) | false ↦ 0 ]) ≤ suc n
    step true h = omega arith
    step false h = omega arith

-- A day on which the place begins: so many whole days lie before it.
begins_day : (p t : ℕ) → p % t ≡ 0 → p ≡ p / t * t
begins_day p t e = omega (arith, div-add-mod' p t)

module _ (full : Bool) (f : Frame) (b : Bounds) (h : Held) (days : List ℕ) where
  -- where days are passed, by a motive: none, or those from the day on that begins at the place
  passed_cases : (P : Held → Type 0) → P h
      → (full ≡ false → h.cursor.place ≡ h.cursor.place / f.times * f.times → h.cursor.place / f.times ≤ f.days
      → P (held_at h (h.cursor.place + passable b f days (h.cursor.place / f.times) (f.days - h.cursor.place / f.times) * f.times)))
      → P (passed_days full f b h days)
  unfolding passed_days passable
  passed_cases P none some = step (not full && (is_framed f && eqb (h.cursor.place % f.times) 0)) refl
    where
      beyond : f.days < h.cursor.place / f.times
          → P (held_at h (h.cursor.place + passable b f days (h.cursor.place / f.times) (f.days - h.cursor.place / f.times) * f.times))
      beyond l =
          let z : f.days - h.cursor.place / f.times ≡ 0 = omega arith in
          let e : h.cursor.place + passable b f days (h.cursor.place / f.times) (f.days - h.cursor.place / f.times) * f.times ≡ h.cursor.place =
          rw z (omega arith) in
          subst (λ (p : ℕ). P (held_at h p)) (sym e) none

      step : (t : Bool) → (not full && (is_framed f && eqb (h.cursor.place % f.times) 0)) ≡ t → P (elim t [
        | true ↦ held_at h (h.cursor.place + passable b f days (h.cursor.place / f.times) (f.days - h.cursor.place / f.times) * f.times)
        | false ↦ h
      ])
      step false e = none
      step true e =
          let v = both (not full) _ e in
          let w = both (is_framed f) _ v.1 in
          ⊎_elim
          (λ (l : f.days < h.cursor.place / f.times). beyond l)
          (λ (l : h.cursor.place / f.times ≤ f.days). some (not-true _ v.0) (begins_day _ _ (eqb-true _ _ w.1)) l)
          (below_or f.days (h.cursor.place / f.times))

  -- nothing else changes
  pub passed_holds : passed_days full f b h days ≡ held_at h (passed_days full f b h days).cursor.place
  passed_holds = passed_cases (λ (r : Held). r ≡ held_at h r.cursor.place) refl (λ a e l. refl)

  -- the place stays among the candidates, and does not fall
  pub passed_within : h.cursor.place ≤ f.days * f.times → (passed_days full f b h days).cursor.place ≤ f.days * f.times
  passed_within k =
      passed_cases (λ (r : Held). r.cursor.place ≤ f.days * f.times) k
      (λ a e l.
      let m : (h.cursor.place / f.times + passable b f days (h.cursor.place / f.times) (f.days - h.cursor.place / f.times)) * f.times
      ≤ f.days * f.times =
      mul-le-mul_right f.times (omega (arith, passable_short b f days (h.cursor.place / f.times) (f.days - h.cursor.place / f.times))) in
      omega (arith, add-mul (h.cursor.place / f.times) (passable b f days (h.cursor.place / f.times) (f.days - h.cursor.place / f.times)) f.times))

  pub passed_rises : h.cursor.place ≤ (passed_days full f b h days).cursor.place
  passed_rises = passed_cases (λ (r : Held). h.cursor.place ≤ r.cursor.place) (omega arith) (λ a e l. omega arith)

  -- With a slot free, or told that the buffer is full, the walk from there is the walk from here, where every time is within its day.
  pub passed_walks : (lists buffer : List ℕ) → (full ≡ false → h.handed ≡ length buffer → ⊥)
      → Timely f lists
      → walk_from b (second_at f days lists) (f.days * f.times) h buffer
      ≡ walk_from b (second_at f days lists) (f.days * f.times) (passed_days full f b h days) buffer
  passed_walks lists buffer free timely =
      passed_cases
      (λ (r : Held).
      walk_from b (second_at f days lists) (f.days * f.times) h buffer ≡ walk_from b (second_at f days lists) (f.days * f.times) r buffer)
      refl
      (λ a e l.
      ap (λ (p : ℕ). walk_from b (second_at f days lists) (f.days * f.times) (held_at h p) buffer) e
      ∙ walk_past b f days lists timely h buffer (free a) f.days (f.days - h.cursor.place / f.times) (h.cursor.place / f.times) (omega arith)
      ∙ ap
      (λ (p : ℕ). walk_from b (second_at f days lists) (f.days * f.times)
      (held_at h (p + passable b f days (h.cursor.place / f.times) (f.days - h.cursor.place / f.times) * f.times)) buffer)
      (sym e))
