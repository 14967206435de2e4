-- The computed move is the move in words.
-- Assumes nothing.
use Rattle.std.specs.Prelude.{if◌then◌else◌}
use Prim.Native.Nat.{ℕ, zero, suc, ◌+◌, ◌-◌, ◌*◌, ◌/◌, ◌%◌, ◌≤◌, ◌<◌}
use mathlib.Core.Path.{◌≡◌, refl, sym, ap, subst, subst⁻¹, ◌∙◌}
use mathlib.Core.Logic.{◌⊎◌, inl, inr, ⊎_elim}
use mathlib.Core.Bool.{Bool, true, false}
use lib.Dec.{T}
use native.Mathlib.Nat.{add-mul, mul-le-mul_left, div-lt_iff_lt-mul, div-add-mod', mod-lt}
use native.Mathlib.Omega.{arith}
use Rattle.rule.specs.declared.rrule.Frequency.{Frequency}
use Rattle.rule.specs.declared.rrule.Rule.{Rule}
use Rattle.machine.specs.Given.{Move, Move.To, Move.NoTick, Move.Range}
use Rattle.rule.specs.Instants.{second, day_of, hour_of, minute_of, second_of}
use Rattle.rule.specs.Filling.{is_below}
use Rattle.rule.specs.Days.{day_passes}
use Rattle.rule.specs.Times.{time_passes, tick_passes}
use Rattle.rule.specs.Periods.{period_after, period, in_range}
use Rattle.rule.specs.Moves.{day_in, tick_in, fine, Lands, Least, Next, Moves, Moves.moves, Moves.no_tick, Moves.range, ticks, next_day, first_from, target, bounded, move}
use Rattle.rule.specs.Meaning.{MovesByOne, MoveIs}
use Rattle.rule.proofs.Order.{below_or}

pub not_both : (b : Bool) → b ≡ true → b ≡ false → ⊥
not_both b p q = let z : ◌≡◌ {A = ℕ} 0 1 = cc in omega arith

pub split : (b : Bool) → (b ≡ true) ⊎ (b ≡ false)
split true = inl refl
split false = inr refl

-- the search: the first that passes, or none of the n
abbrev Found : (ℕ → Bool) → ℕ → ℕ → Move → Type 0
Found p i n (To j) = (i ≤ j) × (p j ≡ true) × ((l : ℕ) → i ≤ l → l < j → p l ≡ true → ⊥)
Found p i n NoTick = (l : ℕ) → i ≤ l → l < i + n → p l ≡ true → ⊥
Found p i n Range = ⊥

module _ (p : ℕ → Bool) where
  not_here : (i l : ℕ) → p i ≡ false → i ≤ l → p l ≡ true → (i + 1 ≤ l → ⊥) → ⊥
  not_here i l f h t k =
      let e : l ≡ i = ⊎_elim (λ (a : i < l). absurd (k (omega arith))) (λ (a : l ≤ i). let z : l ≡ i = omega arith in z) (below_or i l) in
      not_both (p l) t (ap p e ∙ f)

  widen : (i n : ℕ) (v : Move) → p i ≡ false → Found p (i + 1) n v → Found p i (suc n) v
  widen i n (To j) f w = (let h : i + 1 ≤ j = w.0 in omega arith, w.1, λ l a b t. not_here i l f a t (λ c. w.2 l c b t))
  widen i n NoTick f w = λ l a b t. not_here i l f a t (λ d. w l d (omega arith) t)
  widen i n Range f w = w

  found : (n i : ℕ) → Found p i n (first_from p n i)
  unfolding first_from
  found zero i = λ l a b t. absurd (omega arith)
  found (suc n) i =
      ⊎_elim
      (λ (e : p i ≡ true). rw (e, first_from) (omega arith, e, λ l a b t. absurd (omega arith)))
      (λ (e : p i ≡ false). rw (e, first_from) (widen i n (first_from p n (i + 1)) e (found n (i + 1))))
      (split (p i))

  -- ticks come again after a cycle of n: none of n means none at all
  module _ (n : ℕ) (pos : 0 < n) (cycle : (k : ℕ) → p (k + n) ≡ p k) where
    cycles : (q k : ℕ) → p (k + q * n) ≡ p k
    cycles zero k = let e : k + 0 * n ≡ k = omega arith in ap p e
    cycles (suc q) k = let e : k + suc q * n ≡ k + q * n + n = (let d : suc q * n ≡ n + q * n = d_suc in omega arith) in ap p e ∙ (cycle (k + q * n) ∙ cycles q k)
      where
        d_suc : suc q * n ≡ n + q * n
        d_suc = (let e : suc q ≡ 1 + q = omega arith in ap (λ (x : ℕ). x * n) e) ∙ (add-mul 1 q n ∙ (let e : 1 * n + q * n ≡ n + q * n = omega arith in e))

    none_at_all : (f : ℕ) → ((l : ℕ) → f ≤ l → l < f + n → p l ≡ true → ⊥) → (l : ℕ) → f ≤ l → p l ≡ true → ⊥
    none_at_all f h l a t =
        let e : (l - f) / n * n + (l - f) % n ≡ l - f = div-add-mod' (l - f) n in
        let m : (l - f) % n < n = mod-lt (l - f) pos in
        let g : l ≡ f + (l - f) % n + (l - f) / n * n = omega arith in
        h (f + (l - f) % n) (omega arith) (omega arith) (sym (ap p g ∙ cycles ((l - f) / n) (f + (l - f) % n)) ∙ t)

-- periods below DAILY
module _ (r : Rule) (s i wkst : ℕ) where
  abbrev B : Frequency → ℕ → ℕ
  B f k = (period_after f wkst s (k * i)).begins

  same_tick : (f : Frequency) (a b : ℕ) → hour_of a ≡ hour_of b → minute_of a ≡ minute_of b → second_of a ≡ second_of b → tick_passes r f a ≡ tick_passes r f b
  unfolding tick_passes time_passes
  same_tick Frequency.Yearly a b x y z = refl
  same_tick Frequency.Monthly a b x y z = refl
  same_tick Frequency.Weekly a b x y z = refl
  same_tick Frequency.Daily a b x y z = refl
  same_tick Frequency.Hourly a b x y z = rw x
  same_tick Frequency.Minutely a b x y z = rw (x, y)
  same_tick Frequency.Secondly a b x y z = rw (x, y, z)

  abbrev Fine : Frequency → Type 0
  Fine f = T (is_below Frequency.Daily f)

  cycle : (f : Frequency) → Fine f → (k : ℕ) → tick_passes r f (B f (k + ticks f)) ≡ tick_passes r f (B f k)
  unfolding period_after
  cycle Frequency.Yearly h k = absurd h
  cycle Frequency.Monthly h k = absurd h
  cycle Frequency.Weekly h k = absurd h
  cycle Frequency.Daily h k = absurd h
  cycle Frequency.Hourly h k = let e : (k + 24) * i ≡ k * i + 24 * i = add-mul k 24 i in same_tick Frequency.Hourly _ _ (omega arith) (omega arith) (omega arith)
  cycle Frequency.Minutely h k = let e : (k + 1440) * i ≡ k * i + 1440 * i = add-mul k 1440 i in same_tick Frequency.Minutely _ _ (omega arith) (omega arith) (omega arith)
  cycle Frequency.Secondly h k = let e : (k + 86400) * i ≡ k * i + 86400 * i = add-mul k 86400 i in same_tick Frequency.Secondly _ _ (omega arith) (omega arith) (omega arith)

  -- the ticks of the day that are left after that of period k
  abbrev rest : Frequency → ℕ → ℕ
  rest f k = ticks f - 1 - B f k % 86400 / (86400 / ticks f)

  next_date : (f : Frequency) → Fine f → (k m : ℕ) → rest f k < m * i → day_of (B f k) < day_of (B f (k + m))
  unfolding period_after
  next_date Frequency.Yearly h k m l = absurd h
  next_date Frequency.Monthly h k m l = absurd h
  next_date Frequency.Weekly h k m l = absurd h
  next_date Frequency.Daily h k m l = absurd h
  next_date Frequency.Hourly h k m l = let e : (k + m) * i ≡ k * i + m * i = add-mul k m i in omega arith
  next_date Frequency.Minutely h k m l = let e : (k + m) * i ≡ k * i + m * i = add-mul k m i in omega arith
  next_date Frequency.Secondly h k m l = let e : (k + m) * i ≡ k * i + m * i = add-mul k m i in omega arith

  same_date : (f : Frequency) → Fine f → (k m : ℕ) → m * i ≤ rest f k → day_of (B f (k + m)) ≤ day_of (B f k)
  unfolding period_after
  same_date Frequency.Yearly h k m l = absurd h
  same_date Frequency.Monthly h k m l = absurd h
  same_date Frequency.Weekly h k m l = absurd h
  same_date Frequency.Daily h k m l = absurd h
  same_date Frequency.Hourly h k m l = let e : (k + m) * i ≡ k * i + m * i = add-mul k m i in omega arith
  same_date Frequency.Minutely h k m l = let e : (k + m) * i ≡ k * i + m * i = add-mul k m i in omega arith
  same_date Frequency.Secondly h k m l = let e : (k + m) * i ≡ k * i + m * i = add-mul k m i in omega arith

module _ (r : Rule) (k : ℕ) where
  -- where a search from f on lands, if f is the first that is late enough
  abbrev Result : Move → Type 0
  Result (To j) = Least (Lands r k) j
  Result NoTick = (j : ℕ) → Lands r k j → ⊥
  Result Range = ⊥

  result : (f n : ℕ) → 0 < n → ((j : ℕ) → tick_in r (j + n) ≡ tick_in r j) → k < f → ((j : ℕ) → f ≤ j → day_passes r (day_in r k) ≡ false → day_in r k < day_in r j) → ((j : ℕ) → Lands r k j → f ≤ j)
      → (v : Move) → Found (tick_in r) f n v → Result v
  result f n pos cyc low ok first (To j) w =
      record {
        holds = record { later = let a : f ≤ j = w.0 in omega arith; tick = w.1; date = ok j w.0 };
        least = λ l q. ⊎_elim (λ (a : l < j). absurd (w.2 l (first l q) a q.tick)) (λ (a : j ≤ l). a) (below_or l j);
      }
  result f n pos cyc low ok first NoTick w = λ j q. none_at_all (tick_in r) n pos cyc f w j (first j q) q.tick
  result f n pos cyc low ok first Range w = w

  -- the move, once the search is judged
  abbrev Judged : Move → Type 0
  Judged (To j) = Next (fine r) r k j
  Judged NoTick = (fine r ≡ true) × ((j : ℕ) → Lands r k j → ⊥)
  Judged Range = ⊥

  judged : (v : Move) → Judged v → Moves r k (bounded r v)
  unfolding bounded
  judged (To j) w =
      ⊎_elim
      (λ (e : in_range r j ≡ true). rw (e, bounded) (moves j w e))
      (λ (e : in_range r j ≡ false). rw (e, bounded) (range j w e))
      (split (in_range r j))
  judged NoTick w = no_tick w.0 w.1
  judged Range w = absurd w

  finely : fine r ≡ true → (v : Move) → Result v → Judged v
  finely e (To j) w = subst⁻¹ (λ (b : Bool). Next b r k j) e w
  finely e NoTick w = (e, w)
  finely e Range w = w

  module _ (one : 1 ≤ r.interval) (e : fine r ≡ true) where
    abbrev F : T (fine r)
    F = subst⁻¹ (λ (b : Bool). T b) e tt

    cyc : (j : ℕ) → tick_in r (j + ticks r.freq) ≡ tick_in r j
    unfolding tick_in period
    cyc j = cycle r (second r.start) r.interval r.wkst r.freq F j

    abbrev left : ℕ
    left = rest r (second r.start) r.interval r.wkst r.freq k

    some_ticks : (f : Frequency) → 0 < ticks f
    some_ticks Frequency.Yearly = omega arith
    some_ticks Frequency.Monthly = omega arith
    some_ticks Frequency.Weekly = omega arith
    some_ticks Frequency.Daily = omega arith
    some_ticks Frequency.Hourly = omega arith
    some_ticks Frequency.Minutely = omega arith
    some_ticks Frequency.Secondly = omega arith

    late : (j : ℕ) → k + left / r.interval + 1 ≤ j → day_in r k < day_in r j
    unfolding period
    late j h =
        let m : left / r.interval < j - k = omega arith in
        let d : day_in r k < day_in r (k + (j - k)) = next_date r (second r.start) r.interval r.wkst r.freq F k (j - k) ((div-lt_iff_lt-mul one).0 m) in
        let q : k + (j - k) ≡ j = omega arith in
        subst (λ (x : ℕ). day_in r k < day_in r x) q d

    early : (j : ℕ) → k < j → j < k + left / r.interval + 1 → day_in r k < day_in r j → ⊥
    unfolding period
    early j a b c =
        ⊎_elim
        (λ (h : left < (j - k) * r.interval). let m : left / r.interval < j - k = (div-lt_iff_lt-mul one).1 h in omega arith)
        (λ (h : (j - k) * r.interval ≤ left).
        let d : day_in r (k + (j - k)) ≤ day_in r k = same_date r (second r.start) r.interval r.wkst r.freq F k (j - k) h in
        let q : k + (j - k) ≡ j = omega arith in
        let g : day_in r j ≤ day_in r k = subst (λ (x : ℕ). day_in r x ≤ day_in r k) q d in
        omega arith)
        (below_or left ((j - k) * r.interval))

    from_day : (b : Bool) → day_passes r (day_in r k) ≡ b → Result (first_from (tick_in r) (ticks r.freq) (if b then k + 1 else next_day r k))
    unfolding next_day period
    from_day true d =
        result (k + 1) (ticks r.freq) (some_ticks r.freq) cyc (omega arith)
        (λ j a t. absurd (not_both _ d t)) (λ j q. let l : k < j = q.later in omega arith)
        (first_from (tick_in r) (ticks r.freq) (k + 1)) (found (tick_in r) (ticks r.freq) (k + 1))
    from_day false d =
        result (next_day r k) (ticks r.freq) (some_ticks r.freq) cyc (omega arith)
        (λ j a t. late j a)
        (λ j q. ⊎_elim (λ (a : j < next_day r k). absurd (early j q.later a (q.date d))) (λ (a : next_day r k ≤ j). a) (below_or j (next_day r k)))
        (first_from (tick_in r) (ticks r.freq) (next_day r k)) (found (tick_in r) (ticks r.freq) (next_day r k))

    fine_target : Judged (target r k)
    unfolding target
    fine_target = rw e (finely e (first_from (tick_in r) (ticks r.freq) (if day_passes r (day_in r k) then k + 1 else next_day r k)) (from_day (day_passes r (day_in r k)) refl))

    -- a tick that passes comes again on a later date
    comes_again : (j : ℕ) → tick_in r j ≡ true → (k' : ℕ) × Lands r k k'
    unfolding next_day period
    comes_again j t =
        let n : ℕ = ticks r.freq in
        let p : 0 < n = some_ticks r.freq in
        let m : next_day r k * 1 ≤ next_day r k * n = mul-le-mul_left (next_day r k) p in
        let h : next_day r k ≤ j + next_day r k * n = omega arith in
        let l : k < next_day r k = omega arith in
        (j + next_day r k * n, record { later = omega arith; tick = cycles (tick_in r) n p cyc (next_day r k) j ∙ t; date = λ d. late (j + next_day r k * n) h })

  coarse_target : fine r ≡ false → Judged (target r k)
  unfolding target
  coarse_target e = rw e (subst⁻¹ (λ (b : Bool). Next b r k (k + 1)) e refl)

pub move_is : MoveIs
unfolding move
move_is r one k =
    judged r k (target r k)
    (⊎_elim (λ (e : fine r ≡ true). fine_target r k one e) (λ (e : fine r ≡ false). coarse_target r k e) (split (fine r)))

pub again : (r : Rule) → 1 ≤ r.interval → fine r ≡ true → (k j : ℕ) → tick_in r j ≡ true → (k' : ℕ) × Lands r k k'
again r one e k j t = comes_again r k one e j t

pub moves_by_one : MovesByOne
unfolding move bounded target
moves_by_one r k e = rw e
