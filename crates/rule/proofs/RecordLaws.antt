-- A record whose sets have their sizes, read as a raw rule: it is given again, and what the check says of it is asked of its sets.
-- Assumes nothing.
use mathlib.Core.Path.{◌≡◌, refl, ap, sym, ◌∙◌}
use mathlib.Core.Bool.{Bool, true, false, not, ◌&&◌, ◌||◌}
use mathlib.Core.List.{List, [], ◌∷◌, map}
use Prim.Native.Nat.{ℕ}
use lib.Dec.{ltb}
use lib.ListN.{length, length-map}
use borrow.Author.Tests.{eq-eqb}
use Rattle.rule.specs.declared.rrule.Frequency.{Frequency}
use Rattle.rule.specs.declared.rrule.Refusal.{Refusal}
use Rattle.rule.specs.declared.rrule.Rule.{Rule}
use Rattle.rule.specs.Lists.{months, monthdays, yeardays, weeknos, hours, minutes, seconds, positions, is_empty}
use Rattle.rule.specs.Refusals.{refusals, some, entry_out, not_rising, mixed_days, nth_misplaced, positions_alone, misplaces, list_misplaced, applies, verdict}
use Rattle.rule.specs.Filling.{frequency_number, frequency, given, no_days}
use Rattle.rule.specs.Records.{value_of, slots_from, as_raw, accepts, has_every, has_nth, no_other, breaks, breaks_no_row, Sized}
use Rattle.rule.proofs.RefusalLaws.{accepts_none}
use Rattle.rule.proofs.RuleLaws.{rule_of, given_by_parts}
use Rattle.rule.proofs.ValueLaws.{lacks_values, values_stay, values_rise, values_set, nth_at, day_at, nths_stay, days_stay, pairs_rise_lem, pairs_set}
use Rattle.rule.proofs.DayParts.{every_is, nth_is}

frequency_low : (f : Frequency) → ltb 6 (frequency_number f) ≡ false
frequency_low Frequency.Yearly = refl
frequency_low Frequency.Monthly = refl
frequency_low Frequency.Weekly = refl
frequency_low Frequency.Daily = refl
frequency_low Frequency.Hourly = refl
frequency_low Frequency.Minutely = refl
frequency_low Frequency.Secondly = refl

pub frequency_back : (f : Frequency) → frequency (frequency_number f) ≡ f
unfolding frequency
frequency_back Frequency.Yearly = refl
frequency_back Frequency.Monthly = refl
frequency_back Frequency.Weekly = refl
frequency_back Frequency.Daily = refl
frequency_back Frequency.Hourly = refl
frequency_back Frequency.Minutely = refl
frequency_back Frequency.Secondly = refl

-- two tests that agree pass the same entries
some_same : {p q : Refusal → Bool} → ((n : Refusal) → p n ≡ q n) → (ns : List Refusal) → some p ns ≡ some q ns
unfolding some
some_same f [] = refl
some_same f (n ∷ ns) = rw (f n, some_same f ns)

-- the lists of row 9 in another order
in_order : (m d y w b t : Bool) → (m && (d && (y && (w && (b && (b && t)))))) ≡ (m && ((w && (y && (d && b))) && t))
in_order false d y w b t = refl
in_order true true true true true t = refl
in_order true true true true false t = refl
in_order true true true false b t = refl
in_order true true false true b t = refl
in_order true true false false b t = refl
in_order true false true true b t = refl
in_order true false true false b t = refl
in_order true false false true b t = refl
in_order true false false false b t = refl

-- the lists of a record, read as a raw rule
module _ (r : Rule) (z : Sized r) where
  no_entry_out : entry_out (as_raw r).lists ≡ false
  unfolding entry_out as_raw
  no_entry_out =
      rw (
        values_stay months r.bymonth z.bymonth,
        values_stay monthdays r.bymonthday z.bymonthday,
        values_stay yeardays r.byyearday z.byyearday,
        values_stay weeknos r.byweekno z.byweekno,
        eq-eqb (length (map nth_at (slots_from 0 r.byday))) (length (map day_at (slots_from 0 r.byday)))
            (length-map (slots_from 0 r.byday) nth_at ∙ sym (length-map (slots_from 0 r.byday) day_at)),
        nths_stay r.byday z.byday,
        days_stay r.byday z.byday,
        values_stay hours r.byhour z.byhour,
        values_stay minutes r.byminute z.byminute,
        values_stay seconds r.bysecond z.bysecond,
        values_stay positions r.bysetpos z.bysetpos,
      )

  all_rise : not_rising (as_raw r).lists ≡ false
  unfolding not_rising as_raw
  all_rise =
      rw (
        values_rise months r.bymonth z.bymonth,
        values_rise monthdays r.bymonthday z.bymonthday,
        values_rise yeardays r.byyearday z.byyearday,
        values_rise weeknos r.byweekno z.byweekno,
        pairs_rise_lem r.byday z.byday,
        values_rise hours r.byhour z.byhour,
        values_rise minutes r.byminute z.byminute,
        values_rise seconds r.bysecond z.bysecond,
        values_rise positions r.bysetpos z.bysetpos,
      )

  mixed_is : mixed_days (as_raw r).lists ≡ (has_every r.byday && has_nth r.byday)
  unfolding mixed_days as_raw
  mixed_is = rw (every_is r.byday z.byday, nth_is r.byday z.byday)

  misplaced_is : nth_misplaced (frequency_number r.freq) (as_raw r).lists
      ≡ (has_nth r.byday && (not (is_empty r.byweekno) || ltb 1 (frequency_number r.freq)))
  unfolding nth_misplaced as_raw
  misplaced_is = rw (nth_is r.byday z.byday, lacks_values (value_of weeknos) 0 r.byweekno)

  alone_is : positions_alone (as_raw r).lists ≡ (not (is_empty r.bysetpos) && no_other r)
  unfolding as_raw no_other no_days
  alone_is =
      rw (
        lacks_values (value_of positions) 0 r.bysetpos,
        lacks_values (value_of months) 0 r.bymonth,
        lacks_values (value_of monthdays) 0 r.bymonthday,
        lacks_values (value_of yeardays) 0 r.byyearday,
        lacks_values (value_of weeknos) 0 r.byweekno,
        lacks_values nth_at 0 r.byday,
        lacks_values day_at 0 r.byday,
        lacks_values (value_of hours) 0 r.byhour,
        lacks_values (value_of minutes) 0 r.byminute,
        lacks_values (value_of seconds) 0 r.bysecond,
      )
      (ap (λ (b : Bool). not (is_empty r.bysetpos) && b)
      (in_order (is_empty r.bymonth) (is_empty r.bymonthday) (is_empty r.byyearday) (is_empty r.byweekno) (is_empty r.byday) _))

  list_misplaced_is : (freq : ℕ) → list_misplaced freq (as_raw r).lists
      ≡ misplaces freq (not (is_empty r.byweekno)) (not (is_empty r.byyearday)) (not (is_empty r.bymonthday))
  unfolding as_raw
  list_misplaced_is freq =
      rw (
        lacks_values (value_of weeknos) 0 r.byweekno,
        lacks_values (value_of yeardays) 0 r.byyearday,
        lacks_values (value_of monthdays) 0 r.bymonthday,
      )

  -- each row, asked of the record instead
  pub breaks_is : (n : Refusal) → applies n (as_raw r) ≡ breaks n r
  unfolding as_raw
  breaks_is Refusal.FrequencyAbove = frequency_low r.freq
  breaks_is Refusal.WeekStartAbove = refl
  breaks_is Refusal.StartOut = refl
  breaks_is Refusal.UntilOut = refl
  breaks_is Refusal.EntryOut = no_entry_out
  breaks_is Refusal.NotRising = all_rise
  breaks_is Refusal.MixedDays = mixed_is
  breaks_is Refusal.NthMisplaced = misplaced_is
  breaks_is Refusal.PositionsAlone = alone_is
  breaks_is Refusal.Nought = refl
  breaks_is Refusal.CountAndUntil = refl
  breaks_is Refusal.ListMisplaced = list_misplaced_is (frequency_number r.freq)

  pub accepted_is : accepts (verdict (as_raw r)) ≡ breaks_no_row r
  unfolding verdict breaks_no_row
  accepted_is = accepts_none (λ (n : Refusal). applies n (as_raw r)) refusals ∙ ap not (some_same breaks_is refusals)

  pub given_back : given (as_raw r) ≡ r
  unfolding given as_raw
  given_back =
      sym (given_by_parts (frequency (frequency_number r.freq)) r.interval r.count r.until r.wkst r.start (as_raw r).lists
      (sym (values_set months r.bymonth z.bymonth))
      (sym (values_set monthdays r.bymonthday z.bymonthday))
      (sym (values_set yeardays r.byyearday z.byyearday))
      (sym (values_set weeknos r.byweekno z.byweekno))
      (sym (pairs_set r.byday z.byday))
      (sym (values_set hours r.byhour z.byhour))
      (sym (values_set minutes r.byminute z.byminute))
      (sym (values_set seconds r.bysecond z.bysecond))
      (sym (values_set positions r.bysetpos z.bysetpos)))
      ∙ ap (λ (f : Frequency). rule_of f r.interval r.count r.until r.wkst r.start r.bymonth r.bymonthday r.byyearday r.byweekno
      r.byday r.byhour r.byminute r.bysecond r.bysetpos) (frequency_back r.freq)
