-- A date and a time: the instant, and that no number on the way to it leaves its range.
-- Assumes nothing.
use Rattle.std.specs.Prelude.{Ok, Err}
use Prim.Native.Nat.{ℕ, ◌+◌, ◌*◌, ◌≤◌}
use native.Mathlib.Omega.{arith}
use mathlib.Core.Path.{◌≡◌, refl, ◌∙◌}
use mathlib.Core.List.{List}
use lib.ListN.{length, drop}
use Rattle.calendar.specs.Calendar.{new_year, first_of, day_of_date}
use Rattle.calendar.proofs.Years.{years_rise}
use Rattle.rule.specs.Instants.{epoch, instant, last_instant}
use Rattle.symbols.specs.Languages.{both}
use Rattle.symbols.specs.Readers.{turned}
use Rattle.recur.specs.declared.Symbol.{Symbol}
use Rattle.recur.specs.Grammar.{Clock, clock_seconds, day_number}
use Rattle.recur.specs.Reading.{time_at, date_at, moment_at}
use Rattle.recur.specs.Shown.{shown}
use Rattle.recur.proofs.Parted.{place_in}
use Rattle.recur.proofs.ShownLaws.{symbol, whole_is, place_is, value_is, turned_whole, turned_stopped}
use Rattle.recur.proofs.Moments.{takes_date, takes_moment}
use Rattle.recur.proofs.Bounds.{moment_most}
use Rattle.moments.proofs.ReadLaws.{both_stopped, both_on}

-- ---- no date is before 1970

epoch_is : new_year 1970 ≡ epoch
unfolding new_year
epoch_is = refl

from_epoch : (y m d : ℕ) → 1970 ≤ y → epoch ≤ day_of_date y m d
unfolding day_of_date first_of
from_epoch y m d h = omega (arith, years_rise 1970 y (omega arith) h, epoch_is)

-- ---- a date, and a time behind it

-- the instant of a day and a time
abbrev instant_of : ℕ → Clock → ℕ
instant_of day k = instant (day * 86400 + clock_seconds k)

abbrev no_time : Clock
no_time = both 0 (both 0 (both 0 0))

module _ (t : List ℕ) (at : ℕ) where
  pub no_date : (p : ℕ) → Err p ≡ shown (turned day_number date_at at (drop at t)) → Err p ≡ shown (moment_at at (drop at t))
  unfolding moment_at
  no_date = both_stopped date_at day_number (λ (n : ℕ). time_at) no_time instant_of t at

  module _ (r : Symbol ℕ) (e : Ok r ≡ shown (turned day_number date_at at (drop at t))) where
    pub date_ends : at ≤ length t → r.place ≤ length t
    date_ends h = omega (arith, place_is day_number (date_at at (drop at t)) r e, (place_in takes_date at t h).1)

    pub date_from : epoch ≤ r.value
    date_from =
        let k = date_at at (drop at t) in
        let d = (takes_date.outcome at (drop at t)).good (whole_is day_number k r e) in
        let v : r.value ≡ day_number k.value = value_is day_number k r e in
        omega (arith, from_epoch k.value.first k.value.second.first k.value.second.second.first d.left.least)

    on : shown (turned (instant_of r.value) time_at r.place (drop r.place t)) ≡ shown (moment_at at (drop at t))
    unfolding moment_at
    on = both_on date_at day_number (λ (n : ℕ). time_at) no_time instant_of t at r e takes_date

    pub no_time_lem : (p : ℕ) → Err p ≡ shown (turned clock_seconds time_at r.place (drop r.place t)) → Err p ≡ shown (moment_at at (drop at t))
    no_time_lem p f = turned_stopped clock_seconds (time_at r.place (drop r.place t)) p f (instant_of r.value) ∙ on

    module _ (s : Symbol ℕ) (f : Ok s ≡ shown (turned clock_seconds time_at r.place (drop r.place t))) where
      pub date_and_time : Ok (symbol s.place (instant (r.value * 86400 + s.value))) ≡ shown (moment_at at (drop at t))
      date_and_time = turned_whole clock_seconds (time_at r.place (drop r.place t)) s f (λ (n : ℕ). instant (r.value * 86400 + n)) ∙ on

      pub not_after : instant (r.value * 86400 + s.value) ≤ last_instant
      not_after =
          let k = moment_at at (drop at t) in
          let g = (takes_moment.outcome at (drop at t)).good (whole_is (λ (n : ℕ). n) k _ date_and_time) in
          omega (arith, moment_most k.value _ g, value_is (λ (n : ℕ). n) k _ date_and_time)
