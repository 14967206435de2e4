-- Between the periods whose week period 0 begins on the start's own day and those whose week period 0 is whole: what stays.
-- Assumes nothing.
use Prim.Native.Nat.{ℕ, zero, suc, ◌+◌, ◌*◌, min, ◌≤◌, ◌<◌}
use mathlib.Core.Path.{◌≡◌, refl, ap, subst, ◌∙◌}
use mathlib.Core.Logic.{◌⊎◌, ◌↔◌, inl, inr, ⊎_elim}
use mathlib.Core.Bool.{true}
use mathlib.Core.List.{List}
use native.Mathlib.Omega.{arith}
use lib.ListN.{length, get_or}
use Rattle.machine.specs.Rising.{◌∈◌}
use Rattle.rule.specs.declared.rrule.Frequency.{Frequency}
use Rattle.rule.specs.declared.rrule.Rule.{Rule}
use Rattle.rule.specs.Instants.{second, range_end, day_of}
use Rattle.rule.specs.Days.{week_of}
use Rattle.rule.specs.Periods.{Period, of_days, month, period_after, period}
use Rattle.rule.specs.Candidates.{candidates_of, candidates, Chosen.all}
use Rattle.rule.specs.Satisfies.{Satisfies}
use Rattle.rule.specs.FromStart.{period_after_from_start, period_from_start, candidates_from_start, SatisfiesFromStart}
use Rattle.rule.specs.FromStart.{InstantsStay, PeriodsStay, LaterPeriodsStay, EndsStay}
use Rattle.rule.proofs.Members.{in_list, member}
use Rattle.rule.proofs.Listed.{week_days_are}
use Rattle.rule.proofs.Chosen.{Nth, every, there}

-- ---- the periods

abbrev FirstWeek : Frequency → ℕ → Type 0
FirstWeek f n = (f ≡ Frequency.Weekly) × (n ≡ 0)

module _ (wkst s : ℕ) where
  abbrev Alike : Frequency → ℕ → Type 0
  Alike f n = period_after f wkst s n ≡ period_after_from_start f wkst s n

  -- the two differ in week period 0 alone
  alike : (f : Frequency) (n : ℕ) → Alike f n ⊎ FirstWeek f n
  unfolding period_after period_after_from_start month
  alike Frequency.Yearly n = inl refl
  alike Frequency.Monthly n = inl refl
  alike Frequency.Weekly zero = inr (refl, refl)
  alike Frequency.Weekly (suc n) = inl refl
  alike Frequency.Daily n = inl refl
  alike Frequency.Hourly n = inl refl
  alike Frequency.Minutely n = inl refl
  alike Frequency.Secondly n = inl refl

  -- that one is the same where the start's day is the first of its week
  first_week : week_of wkst (day_of s) ≡ day_of s → Alike Frequency.Weekly 0
  unfolding period_after period_after_from_start
  first_week e =
      let z : week_of wkst (day_of s) + 7 * 0 ≡ week_of wkst (day_of s) = omega arith in
      rw z (ap (λ (a : ℕ). of_days a (min (week_of wkst (day_of s) + 7) range_end)) e)

  same_after : (f : Frequency) (n : ℕ) → (f ≡ Frequency.Weekly → week_of wkst (day_of s) ≡ day_of s) → Alike f n
  same_after f n h = ⊎_elim (λ (e : Alike f n). e) (λ (q : FirstWeek f n). rw (q.0, q.1) (first_week (h q.0))) (alike f n)

  same_later : (f : Frequency) (n : ℕ) → 1 ≤ n → Alike f n
  same_later f n h = ⊎_elim (λ (e : Alike f n). e) (λ (q : FirstWeek f n). absurd (omega (arith, q.1))) (alike f n)

  first_end : (period_after Frequency.Weekly wkst s 0).ends ≡ (period_after_from_start Frequency.Weekly wkst s 0).ends
  unfolding period_after period_after_from_start
  first_end = omega arith

  same_end : (f : Frequency) (n : ℕ) → (period_after f wkst s n).ends ≡ (period_after_from_start f wkst s n).ends
  same_end f n =
      ⊎_elim (λ (e : Alike f n). ap (λ (p : Period). p.ends) e) (λ (q : FirstWeek f n). rw (q.0, q.1) first_end) (alike f n)

pub periods_stay : PeriodsStay
unfolding period period_from_start
periods_stay r h k = same_after r.wkst (second r.start) r.freq (k * r.interval) h

pub later_periods_stay : LaterPeriodsStay
unfolding period period_from_start
later_periods_stay r k h = same_later r.wkst (second r.start) r.freq (k * r.interval) h

pub ends_stay : EndsStay
unfolding period period_from_start
ends_stay r k = same_end r.wkst (second r.start) r.freq (k * r.interval)

-- ---- the candidates from the start on

module _ (r : Rule) (s : ℕ) (after : second r.start ≤ s) where
  abbrev Same : Period → Period → Type 0
  Same p q = (s ∈ candidates_of r p) ↔ (s ∈ candidates_of r q)

  -- the days before the start's have none of them
  in_first_week : r.freq ≡ Frequency.Weekly
      → Same (period_after Frequency.Weekly r.wkst (second r.start) 0) (period_after_from_start Frequency.Weekly r.wkst (second r.start) 0)
  unfolding period_after period_after_from_start
  in_first_week e =
      let d : ℕ = day_of (second r.start) in
      let w : ℕ = week_of r.wkst d in
      let a = week_days_are r e (w + 7 * 0) (min (w + 7 * 0 + 7) range_end) s in
      let b = week_days_are r e d (min (w + 7) range_end) s in (
        λ m. let q = a.0 m in b.1 (omega arith, omega (arith, q.1), q.2, q.3),
        λ m. let q = b.0 m in a.1 (omega (arith, q.0), omega (arith, q.1), q.2, q.3),
      )

  same_candidates : (f : Frequency) → r.freq ≡ f → (n : ℕ)
      → Same (period_after f r.wkst (second r.start) n) (period_after_from_start f r.wkst (second r.start) n)
  same_candidates f e n =
      ⊎_elim
      (λ (h : Alike r.wkst (second r.start) f n). subst (Same (period_after f r.wkst (second r.start) n)) h (λ m. m, λ m. m))
      (λ (q : FirstWeek f n). rw (q.0, q.1) (in_first_week (e ∙ q.0)))
      (alike r.wkst (second r.start) f n)

  same_members : (k : ℕ) → (s ∈ candidates r k) ↔ (s ∈ candidates_from_start r k)
  unfolding candidates candidates_from_start period period_from_start
  same_members k = same_candidates r.freq refl (k * r.interval)

-- ---- the instants

-- a member of one list that is one of another has its number there
numbered : (s : ℕ) (xs ys : List ℕ) → (s ∈ xs → s ∈ ys) → (j : ℕ) → j < length xs → get_or xs j 0 ≡ s → Nth (λ i. true) s ys
numbered s xs ys f j h e = every s ys (member s ys (f (in_list s xs (there s xs j h e))))

pub instants_stay : InstantsStay
instants_stay r none t = (there_too, back)
  where
    from : r.start ≤ t → second r.start ≤ second t
    from h = omega arith

    there_too : Satisfies r t → SatisfiesFromStart r t
    there_too p =
        let q = p.kept in
        let same = same_members r (second t) (from p.from_start) p.k in
        let n = numbered (second t) (candidates r p.k) (candidates_from_start r p.k) same.0 q.j q.below q.is_s in
        record {
          instant = p.instant;
          k = p.k;
          kept = record { j = n.i; below = n.below; is_s = n.is_y; choice = all none };
          from_start = p.from_start;
          to_until = p.to_until;
        }

    back : SatisfiesFromStart r t → Satisfies r t
    back p =
        let q = p.kept in
        let same = same_members r (second t) (from p.from_start) p.k in
        let n = numbered (second t) (candidates_from_start r p.k) (candidates r p.k) same.1 q.j q.below q.is_s in
        record {
          instant = p.instant;
          k = p.k;
          kept = record { j = n.i; below = n.below; is_s = n.is_y; choice = all none };
          from_start = p.from_start;
          to_until = p.to_until;
        }
