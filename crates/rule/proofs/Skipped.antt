-- What a move passes over has no candidate.
-- Assumes nothing.
use Prim.Native.Nat.{ℕ, ◌+◌, ◌-◌, ◌*◌, ◌/◌, ◌≤◌, ◌<◌}
use mathlib.Core.Path.{◌≡◌, refl, subst, subst⁻¹}
use mathlib.Core.Logic.{inl, ⊎_elim}
use mathlib.Core.Bool.{Bool, true, false, ◌&&◌}
use mathlib.Core.List.{List, [], ◌∷◌}
use lib.Dec.{T}
use native.Mathlib.Nat.{add-mul}
use native.Mathlib.Omega.{arith}
use Rattle.rule.specs.declared.rrule.Frequency.{Frequency}
use Rattle.rule.specs.declared.rrule.Rule.{Rule}
use Rattle.machine.specs.Rising.{◌∈◌}
use Rattle.machine.specs.Given.{Move, Move.To}
use Rattle.rule.specs.Instants.{second, day_of, hour_of, minute_of, second_of}
use Rattle.rule.specs.Filling.{is_below}
use Rattle.rule.specs.Days.{day_passes}
use Rattle.rule.specs.Times.{hour_passes, minute_passes, second_passes, time_passes, tick_passes}
use Rattle.rule.specs.Periods.{Period, period_after, period}
use Rattle.rule.specs.Candidates.{Candidate, candidates}
use Rattle.rule.specs.Moves.{day_in, tick_in, fine, Lands, Least, Next, Moves, Moves.moves}
use Rattle.rule.specs.Meaning.{NothingSkipped}
use Rattle.rule.proofs.Listed.{candidates_are}
use Rattle.rule.proofs.Members.{yes, holds}
use Rattle.rule.proofs.Order.{below_or}
use Rattle.rule.proofs.Moved.{not_both, move_is}

and_left : (a b : Bool) → T (a && b) → T a
and_left true b x = tt
and_left false b x = x

pub no_members : (xs : List ℕ) → ((s : ℕ) → s ∈ xs → ⊥) → xs ≡ []
no_members [] h = refl
no_members (x ∷ xs) h = absurd (h x (inl refl))

module _ (r : Rule) (s i wkst : ℕ) where
  abbrev Q : Frequency → ℕ → Period
  Q f k = period_after f wkst s (k * i)

  -- a second of a period below DAILY shows the period's tick and day
  tick_of : (f : Frequency) → T (is_below Frequency.Daily f) → (k t : ℕ) → (Q f k).begins ≤ t → t < (Q f k).ends → T (time_passes r t) → T (tick_passes r f (Q f k).begins)
  unfolding period_after tick_passes time_passes
  tick_of Frequency.Yearly h k t a b p = absurd h
  tick_of Frequency.Monthly h k t a b p = absurd h
  tick_of Frequency.Weekly h k t a b p = absurd h
  tick_of Frequency.Daily h k t a b p = absurd h
  tick_of Frequency.Hourly h k t a b p =
      let e : hour_of ((s / 3600 + k * i) * 3600) ≡ hour_of t = omega arith in
      rw e (and_left (hour_passes r (hour_of t)) (minute_passes r (minute_of t)) (and_left (hour_passes r (hour_of t) && minute_passes r (minute_of t)) (second_passes r (second_of t)) p))
  tick_of Frequency.Minutely h k t a b p =
      let e : hour_of ((s / 60 + k * i) * 60) ≡ hour_of t = omega arith in
      let f : minute_of ((s / 60 + k * i) * 60) ≡ minute_of t = omega arith in
      rw (e, f) (and_left (hour_passes r (hour_of t) && minute_passes r (minute_of t)) (second_passes r (second_of t)) p)
  tick_of Frequency.Secondly h k t a b p = let e : (s + k * i) * 1 ≡ t = omega arith in subst⁻¹ (λ (x : ℕ). T (time_passes r x)) e p

  day_of_lem : (f : Frequency) → T (is_below Frequency.Daily f) → (k t : ℕ) → (Q f k).begins ≤ t → t < (Q f k).ends → day_of t ≡ day_of (Q f k).begins
  unfolding period_after
  day_of_lem Frequency.Yearly h k t a b = absurd h
  day_of_lem Frequency.Monthly h k t a b = absurd h
  day_of_lem Frequency.Weekly h k t a b = absurd h
  day_of_lem Frequency.Daily h k t a b = absurd h
  day_of_lem Frequency.Hourly h k t a b = omega arith
  day_of_lem Frequency.Minutely h k t a b = omega arith
  day_of_lem Frequency.Secondly h k t a b = omega arith

  in_order : (f : Frequency) → T (is_below Frequency.Daily f) → (k m : ℕ) → day_of (Q f k).begins ≤ day_of (Q f (k + m)).begins
  unfolding period_after
  in_order Frequency.Yearly h k m = absurd h
  in_order Frequency.Monthly h k m = absurd h
  in_order Frequency.Weekly h k m = absurd h
  in_order Frequency.Daily h k m = absurd h
  in_order Frequency.Hourly h k m = let e : (k + m) * i ≡ k * i + m * i = add-mul k m i in omega arith
  in_order Frequency.Minutely h k m = let e : (k + m) * i ≡ k * i + m * i = add-mul k m i in omega arith
  in_order Frequency.Secondly h k m = let e : (k + m) * i ≡ k * i + m * i = add-mul k m i in omega arith

module _ (r : Rule) (k : ℕ) where
  unequal : (j : ℕ) → day_in r k ≤ day_in r j → day_passes r (day_in r j) ≡ true → day_passes r (day_in r k) ≡ false → day_in r k < day_in r j
  unequal j a p n = ⊎_elim (λ (h : day_in r k < day_in r j). h) (λ (h : day_in r j ≤ day_in r k). absurd (let e : day_in r j ≡ day_in r k = omega arith in not_both (day_passes r (day_in r k)) (subst (λ (x : ℕ). day_passes r x ≡ true) e p) n)) (below_or (day_in r k) (day_in r j))

  pub lands : fine r ≡ true → (j s : ℕ) → k < j → Candidate r j s → Lands r k j
  unfolding tick_in period
  lands e j s h c =
      let f : T (fine r) = subst⁻¹ (λ (b : Bool). T b) e tt in
      let d : day_of s ≡ day_in r j = day_of_lem r (second r.start) r.interval r.wkst r.freq f j s c.begun c.before_end in
      let q : k + (j - k) ≡ j = omega arith in
      let o : day_in r k ≤ day_in r j = subst (λ (x : ℕ). day_in r k ≤ day_in r x) q (in_order r (second r.start) r.interval r.wkst r.freq f k (j - k)) in
      record {
        later = h;
        tick = yes _ (tick_of r (second r.start) r.interval r.wkst r.freq f j s c.begun c.before_end (holds c.time));
        date = unequal j o (subst (λ (x : ℕ). day_passes r x ≡ true) d c.day);
      }

to_next : (r : Rule) (k : ℕ) {k' : ℕ} → Moves r k (To k') → Next (fine r) r k k'
to_next r k (moves k' n t) = n

pub nothing_skipped : NothingSkipped
nothing_skipped r one k k' e j a b =
    no_members (candidates r j) (λ s m. go s (((candidates_are r j).1 s).0 m) (fine r) refl)
  where
    n : Next (fine r) r k k'
    n = to_next r k (subst (λ (v : Move). Moves r k v) e (move_is r one k))

    go : (s : ℕ) → Candidate r j s → (x : Bool) → fine r ≡ x → ⊥
    go s c true f = let l : Least (Lands r k) k' = subst (λ (x : Bool). Next x r k k') f n in let h : k' ≤ j = l.least j (lands r k f j s a c) in omega arith
    go s c false f = let l : k' ≡ k + 1 = subst (λ (x : Bool). Next x r k k') f n in omega arith
