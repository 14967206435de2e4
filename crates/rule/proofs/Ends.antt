-- After a move that ends nothing is left up to the end of 9999; and a period has one move alone.
-- Assumes nothing.
use Prim.Native.Nat.{ℕ, ◌+◌, ◌*◌, ◌≤◌, ◌<◌}
use mathlib.Core.Path.{◌≡◌, refl, ap, subst, subst⁻¹}
use mathlib.Core.Logic.{⊎_elim}
use mathlib.Core.Bool.{Bool, true, false}
use borrow.Author.Tests.{ltb-false}
use native.Mathlib.Nat.{mul-le-mul_right}
use native.Mathlib.Omega.{arith}
use Rattle.rule.specs.declared.rrule.Frequency.{Frequency}
use Rattle.rule.specs.declared.rrule.Rule.{Rule}
use Rattle.calendar.specs.Calendar.{year_of}
use Rattle.calendar.proofs.Years.{years_rise, year_of_is}
use Rattle.machine.specs.Given.{Move, Move.To, Move.NoTick, Move.Range}
use Rattle.rule.specs.Instants.{second, range_end, day_of}
use Rattle.rule.specs.Periods.{month, period_after, period, in_range}
use Rattle.rule.specs.Candidates.{Candidate}
use Rattle.rule.specs.Moves.{tick_in, fine, Lands, Least, Next, Moves, Moves.moves, Moves.no_tick, Moves.range, move}
use Rattle.rule.specs.Meaning.{NoTickIs, NothingLeft, OneMove}
use Rattle.rule.proofs.Listed.{candidates_are}
use Rattle.rule.proofs.Moved.{not_both, again, move_is}
use Rattle.rule.proofs.Skipped.{lands}
use Rattle.rule.proofs.Order.{months_rise, month_low, month_in, day_times}

begins_up : (f : Frequency) (wkst s a b : ℕ) → a ≤ b → (period_after f wkst s a).begins ≤ (period_after f wkst s b).begins
unfolding period_after month
begins_up Frequency.Yearly wkst s a b h = day_times _ _ (years_rise (year_of (day_of s) + a) (year_of (day_of s) + b) (omega (arith, (year_of_is (day_of s)).low)) (omega arith))
begins_up Frequency.Monthly wkst s a b h = day_times _ _ (months_rise (month_in (day_of s) + a) (month_in (day_of s) + b) (omega (arith, month_low (day_of s))) (omega arith))
begins_up Frequency.Weekly wkst s a b h = omega arith
begins_up Frequency.Daily wkst s a b h = omega arith
begins_up Frequency.Hourly wkst s a b h = omega arith
begins_up Frequency.Minutely wkst s a b h = omega arith
begins_up Frequency.Secondly wkst s a b h = omega arith

pub period_up : (r : Rule) (j k : ℕ) → j ≤ k → (period r j).begins ≤ (period r k).begins
unfolding period
period_up r j k h = begins_up r.freq r.wkst (second r.start) (j * r.interval) (k * r.interval) (mul-le-mul_right r.interval h)

pub out_of_range : (r : Rule) (k : ℕ) → in_range r k ≡ false → range_end * 86400 ≤ (period r k).begins
unfolding in_range
out_of_range r k e = ltb-false (period r k).begins (range_end * 86400) e

-- the next period is at most any later one with a candidate
next_first : (b : Bool) (r : Rule) (k k' j t : ℕ) → fine r ≡ b → Next b r k k' → k < j → Candidate r j t → k' ≤ j
next_first true r k k' j t e n a c = n.least j (lands r k e j t a c)
next_first false r k k' j t e n a c = omega arith

-- a move that ends
abbrev Over : Move → Type 0
Over (To k) = ⊥
Over NoTick = Unit {0}
Over Range = Unit {0}

left_over : (r : Rule) (k j t : ℕ) (v : Move) → Over v → Moves r k v → k < j → Candidate r j t → range_end * 86400 ≤ t
left_over r k j t v o (moves k' n i) a c = absurd o
left_over r k j t v o (no_tick f n) a c = absurd (n j (lands r k f j t a c))
left_over r k j t v u (range k' n o) a c =
    let p : range_end * 86400 ≤ (period r k').begins = out_of_range r k' o in
    let q : (period r k').begins ≤ (period r j).begins = period_up r k' j (next_first (fine r) r k k' j t refl n a c) in
    let b : (period r j).begins ≤ t = c.begun in
    chain (range_end * 86400) (period r k').begins (period r j).begins t p q b
  where
    chain : (w x y z : ℕ) → w ≤ x → x ≤ y → y ≤ z → w ≤ z
    chain w x y z f g h = omega arith

pub nothing_left : NothingLeft
nothing_left r one k e j t a m = left_over r k j t (move r k) (⊎_elim (λ (p : move r k ≡ NoTick). subst⁻¹ Over p tt) (λ (p : move r k ≡ Range). subst⁻¹ Over p tt) e) (move_is r one k) a (((candidates_are r j).1 t).0 m)

-- one move alone
one_next : (b : Bool) (r : Rule) (k x y : ℕ) → Next b r k x → Next b r k y → x ≡ y
one_next true r k x y p q = let a : x ≤ y = p.least y q.holds in let b : y ≤ x = q.least x p.holds in omega arith
one_next false r k x y p q = omega arith

no_next : (r : Rule) (k x : ℕ) → Next (fine r) r k x → fine r ≡ true → ((j : ℕ) → Lands r k j → ⊥) → ⊥
no_next r k x n f h = h x (let l : Least (Lands r k) x = subst (λ (b : Bool). Next b r k x) f n in l.holds)

in_and_out : (r : Rule) (k x y : ℕ) → Next (fine r) r k x → Next (fine r) r k y → in_range r x ≡ true → in_range r y ≡ false → ⊥
in_and_out r k x y p q i o = not_both (in_range r y) (subst (λ (z : ℕ). in_range r z ≡ true) (one_next (fine r) r k x y p q) i) o

pub one_move : OneMove
one_move r k a b (moves x n i) (moves y p j) = ap To (one_next (fine r) r k x y n p)
one_move r k a b (moves x n i) (no_tick f h) = absurd (no_next r k x n f h)
one_move r k a b (moves x n i) (range y p o) = absurd (in_and_out r k x y n p i o)
one_move r k a b (no_tick f h) (moves x n i) = absurd (no_next r k x n f h)
one_move r k a b (no_tick f h) (no_tick g i) = refl
one_move r k a b (no_tick f h) (range y p o) = absurd (no_next r k y p f h)
one_move r k a b (range y p o) (moves x n i) = absurd (in_and_out r k x y n p i o)
one_move r k a b (range y p o) (no_tick f h) = absurd (no_next r k y p f h)
one_move r k a b (range y p o) (range x n q) = refl

-- NoTick, and no other move, where no tick passes
abbrev Silent : Rule → ℕ → Move → Type 0
Silent r k (To k') = Unit {0}
Silent r k NoTick = (fine r ≡ true) × ((j : ℕ) → Lands r k j → ⊥)
Silent r k Range = Unit {0}

silent : (r : Rule) (k : ℕ) (v : Move) → Moves r k v → Silent r k v
silent r k v (moves k' n i) = tt
silent r k v (no_tick f n) = (f, n)
silent r k v (range k' n o) = tt

not-true : (b : Bool) → (b ≡ true → ⊥) → b ≡ false
not-true true f = absurd (f refl)
not-true false f = refl

pub no_tick_is : NoTickIs
no_tick_is r one k = (forth, back)
  where
    forth : move r k ≡ NoTick → (fine r ≡ true) × ((j : ℕ) → tick_in r j ≡ false)
    forth e =
        let s : (fine r ≡ true) × ((j : ℕ) → Lands r k j → ⊥) = subst (Silent r k) e (silent r k (move r k) (move_is r one k)) in
        (s.0, λ j. not-true (tick_in r j) (λ t. let l = again r one s.0 k j t in s.1 l.0 l.1))

    back : (fine r ≡ true) × ((j : ℕ) → tick_in r j ≡ false) → move r k ≡ NoTick
    back p = one_move r k (move r k) NoTick (move_is r one k) (no_tick p.0 (λ j l. not_both (tick_in r j) l.tick (p.1 j)))
