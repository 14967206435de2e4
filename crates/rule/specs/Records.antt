-- A record that an accepted check yields: refusal 20 is given exactly when there is none such.
-- Assumes nothing.
use Rattle.std.specs.Prelude.{ℕ, ◌+◌, ◌-◌, ◌/◌, ◌%◌, ◌≡◌, Bool, true, false, not, ◌&&◌, ◌||◌, List, [], ◌∷◌, map, ltb, length, take, drop, ℤ, pos, negsuc, if◌then◌else◌, Ok, Err}
use Rattle.std.specs.Bool.{beq}
use Rattle.rule.specs.declared.rrule.Frequency.{Frequency}
use Rattle.rule.specs.declared.rrule.Range.{Range}
use Rattle.rule.specs.declared.rrule.Refusal.{Refusal}
use Rattle.rule.specs.Refusals.{Verdict}
use Rattle.rule.specs.declared.rrule.Rule.{Rule}
use Rattle.rule.specs.Instants.{last_instant}
use Rattle.rule.specs.Lists.{months, monthdays, yeardays, weeknos, nths, weekdays, hours, minutes, seconds, positions, is_empty}
use Rattle.rule.specs.Raw.{Raw}
use Rattle.rule.specs.Refusals.{refusals, until_out, some, nought, count_and_until, misplaces, verdict}
use Rattle.rule.specs.Filling.{frequency_number, is_below, no_days, given, fill}

-- the value of a slot
abbrev pub value_of : Range → ℕ → ℤ
value_of g i =
    if ltb i g.negatives then negsuc (g.negatives - i - 1)
    else if g.zeroin then pos (i - g.negatives)
    else pos (i - g.negatives + 1)

-- the slots of a set, rising
unfoldable pub slots_from : ℕ → List Bool → List ℕ
slots_from i [] = []
slots_from i (b ∷ bs) = elim b [ true ↦ i ∷ slots_from (i + 1) bs | false ↦ slots_from (i + 1) bs ]

abbrev pub values : Range → List Bool → List ℤ
values g s = map (value_of g) (slots_from 0 s)

-- the record, read as a raw rule
unfoldable pub as_raw : Rule → Raw
unfolding slots_from
as_raw r = record {
  freq = frequency_number r.freq;
  interval = r.interval;
  count = r.count;
  until = r.until;
  wkst = r.wkst;
  start = r.start;
  lists = record {
    bymonth = values months r.bymonth;
    bymonthday = values monthdays r.bymonthday;
    byyearday = values yeardays r.byyearday;
    byweekno = values weeknos r.byweekno;
    bydayn = map (λ (i : ℕ). value_of nths (i / 7)) (slots_from 0 r.byday);
    bydayw = map (λ (i : ℕ). value_of weekdays (i % 7)) (slots_from 0 r.byday);
    byhour = values hours r.byhour;
    byminute = values minutes r.byminute;
    bysecond = values seconds r.bysecond;
    bysetpos = values positions r.bysetpos;
  };
}

abbrev pub accepts : Verdict → Bool
accepts (Err n) = false
accepts (Ok tt) = true

-- two sets are one
unfoldable pub same_set : List Bool → List Bool → Bool
same_set [] [] = true
same_set [] (b ∷ bs) = false
same_set (a ∷ xs) [] = false
same_set (a ∷ xs) (b ∷ bs) = beq a b && same_set xs bs

unfoldable pub same_sets : Rule → Rule → Bool
unfolding same_set
same_sets r q =
    same_set r.bymonth q.bymonth
    && (same_set r.bymonthday q.bymonthday
    && (same_set r.byyearday q.byyearday
    && (same_set r.byweekno q.byweekno
    && (same_set r.byday q.byday
    && (same_set r.byhour q.byhour
    && (same_set r.byminute q.byminute
    && (same_set r.bysecond q.bysecond
    && same_set r.bysetpos q.bysetpos)))))))

-- Read as a raw rule it passes, and filling that in gives the record again (Claims, GoodRecords).
unfoldable pub yielded : Rule → Bool
unfolding as_raw verdict given fill same_sets
yielded r = accepts (verdict (as_raw r)) && same_sets (fill (given (as_raw r))) r

-- The same, asked of the sets themselves (Claims, RecordsComputed). BYDAY's entries with n = 0 have the slots 371 to 377, between those with
-- n below 0 and those with n above 0.
unfoldable pub has_every : List Bool → Bool
unfolding is_empty
has_every s = not (is_empty (take 7 (drop 371 s)))

unfoldable pub has_nth : List Bool → Bool
unfolding is_empty
has_nth s = not (is_empty (take 371 s)) || not (is_empty (take 371 (drop 378 s)))

-- every list but BYSETPOS is empty
unfoldable pub no_other : Rule → Bool
unfolding is_empty no_days
no_other r = is_empty r.bymonth && (no_days r && (is_empty r.byhour && (is_empty r.byminute && is_empty r.bysecond)))

-- the rows of the table, asked of a record; 1, 5 and 6 are rows that none can break
abbrev pub breaks : Refusal → Rule → Bool
breaks Refusal.FrequencyAbove r = false
breaks Refusal.WeekStartAbove r = ltb 6 r.wkst
breaks Refusal.StartOut r = ltb last_instant r.start
breaks Refusal.UntilOut r = until_out r.until
breaks Refusal.EntryOut r = false
breaks Refusal.NotRising r = false
breaks Refusal.MixedDays r = has_every r.byday && has_nth r.byday
breaks Refusal.NthMisplaced r = has_nth r.byday && (not (is_empty r.byweekno) || is_below Frequency.Monthly r.freq)
breaks Refusal.PositionsAlone r = not (is_empty r.bysetpos) && no_other r
breaks Refusal.Nought r = nought r.interval r.count
breaks Refusal.CountAndUntil r = count_and_until r.count r.until
breaks Refusal.ListMisplaced r =
    misplaces (frequency_number r.freq) (not (is_empty r.byweekno)) (not (is_empty r.byyearday)) (not (is_empty r.bymonthday))

unfoldable pub breaks_no_row : Rule → Bool
unfolding some is_empty has_every has_nth no_other
breaks_no_row r = not (some (λ n. breaks n r) refusals)

-- filling in would change the record
unfoldable pub is_unfilled : Rule → Bool
unfolding is_empty no_days
is_unfilled r =
    no_days r && is_below r.freq Frequency.Daily
    || (is_below r.freq Frequency.Hourly && is_empty r.byhour
    || (is_below r.freq Frequency.Minutely && is_empty r.byminute
    || is_below r.freq Frequency.Secondly && is_empty r.bysecond))

-- a record's sets have one flag for each slot of their ranges
pub record Sized (r : Rule) : Type 0 where
  pub bymonth : length r.bymonth ≡ 12
  pub bymonthday : length r.bymonthday ≡ 62
  pub byyearday : length r.byyearday ≡ 732
  pub byweekno : length r.byweekno ≡ 106
  pub byday : length r.byday ≡ 749
  pub byhour : length r.byhour ≡ 24
  pub byminute : length r.byminute ≡ 60
  pub bysecond : length r.bysecond ≡ 60
  pub bysetpos : length r.bysetpos ≡ 732
