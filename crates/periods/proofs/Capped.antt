-- What keeps the counter's numbers small: a start out of range reaches none, and a sum that leaves the range may be cut short.
-- Assumes nothing.
use Rattle.std.specs.Prelude.{Ok, Err}
use Prim.Native.Nat.{ℕ, ◌+◌, ◌*◌, ◌/◌, min, ◌≤◌, ◌<◌}
use mathlib.Core.Path.{◌≡◌, refl}
use mathlib.Core.Bool.{Bool, true, false}
use lib.Dec.{ltb}
use mathlib.Core.Logic.{⊎_elim}
use native.Mathlib.Omega.{arith}
use borrow.Author.Tests.{ltb-true, ltb-false, lt-ltb, le-ltb, lt-leb, le-leb}
use Rattle.calendar.specs.Calendar.{year_of, date_of}
use Rattle.calendar.proofs.Years.{years_rise, year_of_is}
use Rattle.calendar.proofs.Dates.{date_is}
use Rattle.machine.specs.declared.Cause.{Cause}
use Rattle.rule.specs.declared.rrule.Frequency.{Frequency}
use Rattle.rule.specs.declared.rrule.Rule.{Rule}
use Rattle.rule.specs.Instants.{second, last_instant, range_end, day_of}
use Rattle.rule.specs.Moves.{ticks}
use Rattle.rule.proofs.Order.{below_or}
use Rattle.periods.specs.declared.counter_date.Counter.{Counter}
use Rattle.periods.specs.Counters.{months_before, number_of, step_of, cut, counter_at, below, reached_at, limit_of}
use Rattle.periods.proofs.Counted.{year_limit, in_range_is}

-- the year and the month of a day in range
year_below : (d : ℕ) → d < range_end → year_of d < 10000
year_below d h =
    let p = year_of_is d in
    ⊎_elim
    (λ (l : year_of d < 10000). l)
    (λ (l : 10000 ≤ year_of d). absurd (omega (arith, year_limit, years_rise 10000 (year_of d) (omega arith) l)))
    (below_or (year_of d) 10000)

month_below : (d : ℕ) → d < range_end → months_before d < 120000
unfolding date_of
month_below d h = let p = date_is d in omega (arith, year_below d h)

-- the start's number is no more than its second's could be
pub number_below : (f : Frequency) (wkst s : ℕ) → s < 315537897600 → number_of f wkst s < 315537897600
unfolding number_of
number_below Frequency.Yearly wkst s h = omega (arith, year_below (day_of s) (omega arith))
number_below Frequency.Monthly wkst s h = omega (arith, month_below (day_of s) (omega arith))
number_below Frequency.Weekly wkst s h = omega arith
number_below Frequency.Daily wkst s h = omega arith
number_below Frequency.Hourly wkst s h = omega arith
number_below Frequency.Minutely wkst s h = omega arith
number_below Frequency.Secondly wkst s h = omega arith

-- A sum cut short at the range's seconds: it stays out of range, and a sum in range was not cut.
pub out_of_range : (f : Frequency) (a m : ℕ) → limit_of f ≤ (a + min m 315537897600) / ticks f → limit_of f ≤ (a + m) / ticks f
unfolding limit_of
out_of_range Frequency.Yearly a m h = omega arith
out_of_range Frequency.Monthly a m h = omega arith
out_of_range Frequency.Weekly a m h = omega arith
out_of_range Frequency.Daily a m h = omega arith
out_of_range Frequency.Hourly a m h = omega arith
out_of_range Frequency.Minutely a m h = omega arith
out_of_range Frequency.Secondly a m h = omega arith

pub not_cut_short : (f : Frequency) (a m : ℕ) → (a + min m 315537897600) / ticks f < limit_of f → min m 315537897600 ≡ m
unfolding limit_of
not_cut_short Frequency.Yearly a m h = omega arith
not_cut_short Frequency.Monthly a m h = omega arith
not_cut_short Frequency.Weekly a m h = omega arith
not_cut_short Frequency.Daily a m h = omega arith
not_cut_short Frequency.Hourly a m h = omega arith
not_cut_short Frequency.Minutely a m h = omega arith
not_cut_short Frequency.Secondly a m h = omega arith

-- the counter of a sum cut short
abbrev pub capped : Rule → ℕ → Counter
capped r k = cut r.freq k (number_of r.freq r.wkst (second r.start) + min (k * step_of r.freq r.interval) 315537897600)

module _ (r : Rule) (k : ℕ) where
  abbrev start_number : ℕ
  start_number = number_of r.freq r.wkst (second r.start)

  abbrev steps : ℕ
  steps = k * step_of r.freq r.interval

  pub reaches_range : 253402300799 < r.start → Err Cause.Range ≡ reached_at r k
  unfolding reached_at
  reaches_range h = rw (lt-leb r.start last_instant h)

  reaches_counter : r.start ≤ 253402300799 → (capped r k).number < limit_of r.freq → Ok (capped r k) ≡ reached_at r k
  unfolding reached_at counter_at
  reaches_counter h l =
      let e : min steps 315537897600 ≡ steps = not_cut_short r.freq start_number steps l in
      rw (le-leb r.start last_instant h, in_range_is r k, lt-ltb (counter_at r k).number (limit_of r.freq) (rw e at l)) (rw e)

  reaches_no_counter : r.start ≤ 253402300799 → limit_of r.freq ≤ (capped r k).number → Err Cause.Range ≡ reached_at r k
  unfolding reached_at counter_at
  reaches_no_counter h l =
      let o = le-ltb (counter_at r k).number (limit_of r.freq) (out_of_range r.freq start_number steps l) in
      rw (le-leb r.start last_instant h, in_range_is r k, o)

  pub reaches : r.start ≤ 253402300799 → below (limit_of r.freq) (capped r k) ≡ reached_at r k
  unfolding below
  reaches h = go (ltb (capped r k).number (limit_of r.freq)) refl
    where
      go : (b : Bool) → ltb (capped r k).number (limit_of r.freq) ≡ b → below (limit_of r.freq) (capped r k) ≡ reached_at r k
      go true e = rw e (reaches_counter h (ltb-true _ _ e))
      go false e = rw e (reaches_no_counter h (ltb-false _ _ e))
