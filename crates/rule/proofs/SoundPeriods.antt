-- The rule's own periods and moves obey the laws that the machine asks of a calendar.
-- Assumes nothing.
use Prim.Native.Nat.{ℕ, suc, ◌+◌, ◌*◌, ◌≤◌, ◌<◌}
use mathlib.Core.Path.{◌≡◌, refl, subst}
use mathlib.Core.Logic.{◌⊎◌, inl, inr, ⊎_elim}
use mathlib.Core.Bool.{Bool, true, false}
use mathlib.Core.List.{List, [], ◌∷◌}
use native.Mathlib.Omega.{arith}
use borrow.Author.Tests.{ltb-true, lt-ltb}
use Rattle.calendar.specs.Calendar.{new_year, days_before_month, first_of, year_of}
use Rattle.calendar.proofs.Years.{years_rise, years_grow, year_of_is}
use Rattle.machine.specs.Rising.{◌∈◌, Rises}
use Rattle.machine.specs.Given.{Move, Move.To, Move.NoTick, Move.Range}
use Rattle.machine.specs.Sound.{Sound}
use Rattle.rule.specs.declared.rrule.Frequency.{Frequency}
use Rattle.rule.specs.declared.rrule.Rule.{Rule}
use Rattle.rule.specs.Instants.{second, last_instant, range_end, day_of}
use Rattle.rule.specs.Periods.{month, period_after, period, in_range}
use Rattle.rule.specs.Candidates.{Candidate, candidates, Kept, kept}
use Rattle.rule.specs.Moves.{fine, Next, Moves, Moves.moves, Moves.no_tick, Moves.range, move}
use Rattle.rule.specs.Run.{periods}
use Rattle.rule.specs.Meaning.{RisesFrom}
use Rattle.rule.proofs.Members.{in_list}
use Rattle.rule.proofs.Listed.{candidates_are}
use Rattle.rule.proofs.Chosen.{there, kept_are}
use Rattle.rule.proofs.Order.{below_or, first, month_next, months_rise, month_in, month_low, day_times, start_in_period, periods_in_order}
use Rattle.rule.proofs.Moved.{move_is}
use Rattle.rule.proofs.Skipped.{no_members, nothing_skipped}
use Rattle.rule.proofs.Ends.{nothing_left}

-- the range ends with the year 9999
ten_thousand : new_year 10000 ≡ range_end
unfolding new_year
ten_thousand = refl

year_in : (y : ℕ) → 1 ≤ y → new_year y < range_end → new_year (y + 1) ≤ range_end
year_in y l h =
    ⊎_elim
    (λ (a : y < 10000). omega (arith, ten_thousand, years_rise (y + 1) 10000 (omega arith) (omega arith)))
    (λ (a : 10000 ≤ y). absurd (omega (arith, ten_thousand, years_rise 10000 y (omega arith) a)))
    (below_or y 10000)

last_month : first 120000 ≡ range_end
unfolding first_of days_before_month new_year
last_month = refl

month_in_lem : (n : ℕ) → 12 ≤ n → first n < range_end → first (n + 1) ≤ range_end
month_in_lem n l h =
    ⊎_elim
    (λ (a : n < 120000). omega (arith, last_month, months_rise (n + 1) 120000 (omega arith) (omega arith)))
    (λ (a : 120000 ≤ n). absurd (omega (arith, last_month, months_rise 120000 n (omega arith) a)))
    (below_or n 120000)

-- a period that begins in range ends in it, and no earlier than it begins
ends_in_range : (f : Frequency) (wkst s n : ℕ) → (period_after f wkst s n).begins < range_end * 86400 → (period_after f wkst s n).ends ≤ range_end * 86400
unfolding period_after month
ends_in_range Frequency.Yearly wkst s n h = day_times _ _ (year_in (year_of (day_of s) + n) (omega (arith, (year_of_is (day_of s)).low)) (omega arith))
ends_in_range Frequency.Monthly wkst s n h = day_times _ _ (month_in_lem (month_in (day_of s) + n) (omega (arith, month_low (day_of s))) (omega arith))
ends_in_range Frequency.Weekly wkst s n h = omega arith
ends_in_range Frequency.Daily wkst s n h = omega arith
ends_in_range Frequency.Hourly wkst s n h = omega arith
ends_in_range Frequency.Minutely wkst s n h = omega arith
ends_in_range Frequency.Secondly wkst s n h = omega arith

begins_first : (f : Frequency) (wkst s n : ℕ) → wkst ≤ 6 → (period_after f wkst s n).begins < range_end * 86400 → (period_after f wkst s n).begins ≤ (period_after f wkst s n).ends
unfolding period_after month
begins_first Frequency.Yearly wkst s n w h = day_times _ _ (omega (arith, years_grow (year_of (day_of s) + n) (omega (arith, (year_of_is (day_of s)).low))))
begins_first Frequency.Monthly wkst s n w h = day_times _ _ (omega (arith, month_next (month_in (day_of s) + n) (omega (arith, month_low (day_of s)))))
begins_first Frequency.Weekly wkst s n w h = omega arith
begins_first Frequency.Daily wkst s n w h = omega arith
begins_first Frequency.Hourly wkst s n w h = omega arith
begins_first Frequency.Minutely wkst s n w h = omega arith
begins_first Frequency.Secondly wkst s n w h = omega arith

-- a list that rises, and whose members lie in [low, high)
within_bounds : (a low high : ℕ) (xs : List ℕ) → low ≤ high → RisesFrom a xs → ((s : ℕ) → s ∈ xs → (low ≤ s) × (s < high)) → Rises low xs high
within_bounds a low high [] h p m = h
within_bounds a low high (x ∷ xs) h p m =
    ((m x (inl refl)).0, within_bounds (suc x) (suc x) high xs (let q : x < high = (m x (inl refl)).1 in omega arith) p.1 (λ s i. (above x xs p.1 s i, (m s (inr i)).1)))
  where
    above : (x : ℕ) (xs : List ℕ) → RisesFrom (suc x) xs → (s : ℕ) → s ∈ xs → suc x ≤ s
    above x [] q s i = absurd i
    above x (y ∷ ys) q s i = ⊎_elim (λ (e : s ≡ y). omega arith) (λ (j : s ∈ ys). let g : suc y ≤ s = above y ys q.1 s j in omega arith) i

-- a kept candidate is a candidate
pub kept_candidate : (r : Rule) (k s : ℕ) → Kept r k s → Candidate r k s
kept_candidate r k s q = ((candidates_are r k).1 s).0 (in_list s _ (there s (candidates r k) q.j q.below q.is_s))

none_kept : (r : Rule) (j : ℕ) → candidates r j ≡ [] → kept r j ≡ []
none_kept r j e =
    no_members (kept r j) (λ s m. let c : s ∈ candidates r j = ((candidates_are r j).1 s).1 (kept_candidate r j s (((kept_are r j).1 s).0 m)) in subst (λ (l : List ℕ). s ∈ l) e c)

-- what a move tells of where it goes
goes_later : (r : Rule) (k k' : ℕ) (b : Bool) → Next b r k k' → k < k'
goes_later r k k' true n = n.holds.later
goes_later r k k' false n = omega arith

abbrev Goes : Rule → ℕ → Move → Type 0
Goes r k (To k') = (k < k') × (in_range r k' ≡ true)
Goes r k NoTick = Unit {0}
Goes r k Range = Unit {0}

goes : (r : Rule) (k : ℕ) (v : Move) → Moves r k v → Goes r k v
goes r k v (moves k' n i) = (goes_later r k k' (fine r) n, i)
goes r k v (no_tick f n) = tt
goes r k v (range k' n o) = tt

module _ (r : Rule) (one : 1 ≤ r.interval) (wkst : r.wkst ≤ 6) (start : r.start ≤ last_instant) where
  pub in_range_lem : (k : ℕ) → in_range r k ≡ true → (period r k).begins < range_end * 86400
  unfolding in_range
  in_range_lem k e = ltb-true _ _ e

  pub ends : (k : ℕ) → in_range r k ≡ true → (period r k).ends ≤ range_end * 86400
  unfolding period
  ends k e = ends_in_range r.freq r.wkst (second r.start) (k * r.interval) (in_range_lem k e)

  first_in : in_range r 0 ≡ true
  unfolding in_range
  first_in =
      let p = start_in_period r wkst start in
      let l : (period r 0).begins < range_end * 86400 = omega arith in
      lt-ltb _ _ l

  pub kept_rise : (k : ℕ) → in_range r k ≡ true → Rises (period r k).begins (kept r k) (period r k).ends
  unfolding period
  kept_rise k e =
      within_bounds 0 _ _ (kept r k) (begins_first r.freq r.wkst (second r.start) (k * r.interval) wkst (in_range_lem k e)) (kept_are r k).0
      (λ s m. let c = kept_candidate r k s (((kept_are r k).1 s).0 m) in (c.begun, c.before_end))

  nothing_after : (k j : ℕ) → (move r k ≡ NoTick) ⊎ (move r k ≡ Range) → in_range r j ≡ true → k < j → kept r j ≡ []
  nothing_after k j v e h =
      none_kept r j
      (no_members (candidates r j) (λ s m.
      let a : range_end * 86400 ≤ s = nothing_left r one k v j s h m in
      let b : s < (period r j).ends = (((candidates_are r j).1 s).0 m).before_end in
      omega (arith, ends j e)))

  pub sound : Sound (periods r)
  unfolding periods
  sound = record {
    first = first_in;
    rises = kept_rise;
    order = λ j k p q h. periods_in_order r one j k h;
    later = λ k k' e. (subst (Goes r k) e (goes r k (move r k) (move_is r one k))).0;
    lands = λ k k' p e. (subst (Goes r k) e (goes r k (move r k) (move_is r one k))).1;
    skips = λ k k' p e j i a b. none_kept r j (nothing_skipped r one k k' e j a b);
    no_tick = λ k p e j i a. nothing_after k j (inl e) i a;
    range = λ k p e j i a. nothing_after k j (inr e) i a;
  }
