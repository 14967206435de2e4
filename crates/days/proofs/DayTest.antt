-- The day test by tables and masks is document 01's.
-- Assumes nothing.
use Rattle.std.specs.Prelude.{if◌then◌else◌}
use Prim.Native.Nat.{ℕ, zero, suc, ◌+◌, ◌-◌, ◌/◌, ◌%◌, ◌*◌, min, ◌≤◌, ◌<◌}
use mathlib.Core.Path.{◌≡◌, refl, sym, ap, ◌∙◌}
use mathlib.Core.Bool.{Bool, true, false, not, ◌&&◌, ◌||◌}
use mathlib.Core.List.{List, [], ◌∷◌, ◌++◌, map}
use lib.ListN.{get_or, take, drop}
use lib.Seq.{get_or-take, get_or-drop}
use native.Mathlib.Omega.{arith}
use native.Mathlib.Decide.{dec_lt}
use borrow.Author.Tests.{lt-ltb, le-leb, not-false}
use Rattle.calendar.specs.Calendar.{leap, days_of, year_length, new_year, year_of, date_in, date_of, weekday}
use Rattle.calendar.specs.Calendar.{MonthDay, no_day, month_day_of, from_end, table_day, month_table, month_day_table, from_end_table}
use Rattle.calendar.proofs.Table.{same_below}
use Rattle.calendar.proofs.Years.{years_follow, one_place}
use Rattle.calendar.proofs.Months.{in_year, table_at}
use Rattle.calendar.proofs.Dates.{date_at_lem}
use Rattle.rule.specs.declared.rrule.Rule.{Rule}
use lib.IntN.{pos}
use Rattle.rule.specs.Lists.{is_empty, is_pair_in}
use Rattle.rule.specs.Records.{has_nth}
use Rattle.rule.proofs.SetLaws.{flags_at_lem}
use Rattle.weeks.specs.declared.yearinfo.Year.{Year}
use Rattle.weeks.specs.Weeks.{year_info, week_mask}
use Rattle.weeks.proofs.Years.{mask_of_rule}
use Rattle.rule.specs.Days.{either_end, yearday, nth_passes, asked, month_passes, monthday_passes, yearday_passes, week_passes, weekday_passes, date_passes, day_passes}
use Rattle.nths.specs.Masks.{year_day_at, year_length_at, nth_at, nth_mask}
use Rattle.plain.specs.DaySets.{month_at}
use Rattle.days.specs.Filters.{rule_lists, where_asked, monthday_at, yearday_at, weekday_at, place_passes}
use Rattle.years.specs.Info.{asked_of, table_where, mask_where, info_of, counts_in_year, rule_info}
use Rattle.rule.specs.Candidates.{gather, only}
use Rattle.clocks.specs.Blocks.{passing}
use Rattle.days.specs.DaySets.{day_set}
use Rattle.days.specs.Claims.{DayTestIs, DaySetIs}
use Rattle.nths.proofs.Rows.{row, year_day_lem, days_low, days_high, this_year, next_year, this_length, next_length}
use Rattle.nths.proofs.Slots.{nth_slots}

-- the first days of January are the same in every year
january : (a b : Bool) (n : ℕ) → n < 7 → month_day_of a n ≡ month_day_of b n
unfolding month_day_of
january a b n h = of_true a n h ∙ sym (of_true b n h)
  where
    of_true : (a : Bool) (n : ℕ) → n < 7 → month_day_of a n ≡ month_day_of true n
    of_true true n h = refl
    of_true false n h = same_below (month_day_of false) (month_day_of true) no_day 7 refl n h

-- past the year's end the table goes on with January
in_row : (long : Bool) (i : ℕ) → i < days_of long + 7 → table_day long i ≡ month_day_of long (i % days_of long)
unfolding table_day
in_row long i k = rw (lt-ltb i (days_of long + 7) k, table_day)

place_left : (long : Bool) (i : ℕ) → days_of long ≤ i → i < days_of long + 7 → i % days_of long ≡ i - days_of long
place_left true i h k = omega arith
place_left false i h k = omega arith

goes_on : (long : Bool) (i : ℕ) → days_of long ≤ i → i < days_of long + 7 → table_day long i ≡ month_day_of long (i - days_of long)
goes_on long i h k = in_row long i k ∙ ap (month_day_of long) (place_left long i h k)

-- the date at a place of the tables: its year z, and the row
pub record PlaceDate (y i z : ℕ) : Type 0 where
  pub year : year_of (new_year y + i) ≡ z
  pub date : date_of (new_year y + i) ≡ date_in z (table_day (leap y) i)
  pub day : yearday z (new_year y + i) ≡ year_day_at (leap y) i
  pub length : year_length z ≡ year_length_at (leap y) (leap (y + 1)) i

in_the_year : (y i : ℕ) → 1 ≤ y → i < year_length y → PlaceDate y i y
in_the_year y i h k =
    let p = one_place y (new_year y + i) i (record { low = h; in_year = k; day = refl }) in
    record {
      year = p.0;
      date = date_at_lem (new_year y + i) y i p.0 p.1 ∙ ap (date_in y) (sym (in_year (leap y) i k));
      day = rw (this_year (leap y) i k) (omega arith);
      length = sym (this_length (leap y) (leap (y + 1)) i k);
    }

past_the_year : (y i : ℕ) → 1 ≤ y → year_length y ≤ i → i < year_length y + 7 → PlaceDate y i (y + 1)
past_the_year y i h k l =
    let f : new_year (y + 1) ≡ new_year y + year_length y = years_follow y h in
    let n : ℕ = i - year_length y in
    let p = one_place (y + 1) (new_year y + i) n (record { low = omega arith; in_year = omega (arith, days_low (leap (y + 1))); day = omega arith }) in
    record {
      year = p.0;
      date =
          date_at_lem (new_year y + i) (y + 1) n p.0 p.1
          ∙ ap (date_in (y + 1)) (january (leap (y + 1)) (leap y) n (omega arith) ∙ sym (goes_on (leap y) i k l));
      day = rw (next_year (leap y) i k) (omega arith);
      length = sym (next_length (leap y) (leap (y + 1)) i k);
    }

pub place_date : (y i : ℕ) → 1 ≤ y → i < year_length y + 7 → PlaceDate y i (year_of (new_year y + i))
place_date y i h k = go (dec_lt i (year_length y))
  where
    as_year : (z : ℕ) → PlaceDate y i z → PlaceDate y i (year_of (new_year y + i))
    as_year z p = rw p.year p

    go : Dec (i < year_length y) → PlaceDate y i (year_of (new_year y + i))
    go (yes l) = as_year y (in_the_year y i h l)
    go (no l) = as_year (y + 1) (past_the_year y i h (omega arith) k)

-- a set with no flag has none anywhere
no_flag : (s : List Bool) (i : ℕ) → is_empty s ≡ true → get_or s i false ≡ false
unfolding is_empty
no_flag [] i e = refl
no_flag (true ∷ s) i e = absurd (let z : ◌≡◌ {A = ℕ} 0 1 = cc in omega arith)
no_flag (false ∷ s) zero e = refl
no_flag (false ∷ s) (suc i) e = no_flag s i e

neither : (a b : Bool) → (a || b) ≡ false → (a ≡ false) × (b ≡ false)
neither true b e = absurd (let z : ◌≡◌ {A = ℕ} 0 1 = cc in omega arith)
neither false b e = (refl, e)

-- without entries with n not 0 no day passes one
no_nth_slot : (s : List Bool) (a b : ℕ) → has_nth s ≡ false → 378 ≤ a → a < 749 → b < 371 → (get_or s a false || get_or s b false) ≡ false
unfolding has_nth
no_nth_slot s a b e l h k =
    let n = neither (not (is_empty (take 371 s))) (not (is_empty (take 371 (drop 378 s)))) e in
    let q : 378 + (a - 378) ≡ a = omega arith in
    let x : get_or s a false ≡ false =
    ap (λ (j : ℕ). get_or s j false) (sym q) ∙ sym (get_or-drop 378 s (a - 378) false) ∙ sym (get_or-take 371 (drop 378 s) (a - 378) false (omega arith))
    ∙ no_flag (take 371 (drop 378 s)) (a - 378) (not-false _ n.1)
    in
    let y : get_or s b false ≡ false = sym (get_or-take 371 s b false k) ∙ no_flag (take 371 s) b (not-false _ n.0) in
    rw (x, y)

no_nth : (s : List Bool) (w p n : ℕ) → has_nth s ≡ false → w < 7 → 1 ≤ p → p ≤ n → n ≤ 366 → nth_passes s w p n ≡ false
no_nth s w p n e hw a b c =
    let l : ℕ = n + 1 - p in
    let q : p + l - 1 ≡ n = omega arith in
    ap (nth_passes s w p) (sym q) ∙ nth_slots s w p l hw a (omega arith) (omega arith) (omega arith)
    ∙ no_nth_slot s (((p - 1) / 7 + 54) * 7 + w) ((52 - (l - 1) / 7) * 7 + w) e (omega arith) (omega arith) (omega arith)

-- ---- the parts of the test

-- the year's fields, and its mask at a place
year_is : (y : ℕ) → y ≤ 9999 → year_info y ≡ record { number = y; long = leap y; nextlong = leap (y + 1); first = new_year y }
unfolding year_info
year_is y h = rw (le-leb y 9999 h)

mask_at_lem : (inyear : Bool) (y i : ℕ) (s : List Bool) → y ≤ 9999 → i < year_length y + 7
    → get_or (nth_mask inyear (year_info y) s) i false
    ≡ (if inyear
    then nth_passes s (weekday (new_year y + i)) (year_day_at (leap y) i) (year_length_at (leap y) (leap (y + 1)) i)
    else nth_passes s (weekday (new_year y + i)) (table_day (leap y) i).day (table_day (leap y) i).length)
unfolding nth_mask nth_at
mask_at_lem inyear y i s h k =
    flags_at_lem (nth_at inyear (year_info y) s) 373 i (omega (arith, days_high (leap y))) ∙ rw (year_is y h, lt-ltb i (year_length y + 7) k)

-- a list that is there is asked
asked_is : (b x : Bool) → where_asked (not b) x ≡ (b || x)
asked_is true x = refl
asked_is false x = refl

-- and its test is asked only then
asked_at : (b : Bool) {x z : Bool} → (not b ≡ true → x ≡ z) → where_asked (not b) x ≡ (b || z)
asked_at true f = refl
asked_at false f = f refl

module _ (r : Rule) (y i : ℕ) (start : r.wkst ≤ 6) (low : 3 ≤ y) (high : y ≤ 9999) (inside : i < year_length y + 7) where
  at : PlaceDate y i (year_of (new_year y + i))
  at = place_date y i (omega arith) inside

  place : i < 373
  place = omega (arith, inside, days_high (leap y))

  -- the tables are the year's
  months_at : (asked_of r).month ≡ true → get_or (rule_info r y).months i 0 ≡ (table_day (leap y) i).month
  unfolding rule_info info_of
  months_at a =
      ap (λ (b : Bool). get_or (table_where b (month_table (year_info y).long)) i 0) a
      ∙ ap (λ (x : Year). get_or (month_table x.long) i 0) (year_is y high) ∙ table_at (λ (p : MonthDay). p.month) (leap y) i place

  days_at_lem : (asked_of r).monthday ≡ true → get_or (rule_info r y).monthdays i 0 ≡ (table_day (leap y) i).day
  unfolding rule_info info_of
  days_at_lem a =
      ap (λ (b : Bool). get_or (table_where b (month_day_table (year_info y).long)) i 0) a
      ∙ ap (λ (x : Year). get_or (month_day_table x.long) i 0) (year_is y high) ∙ table_at (λ (p : MonthDay). p.day) (leap y) i place

  ends_at : (asked_of r).monthday ≡ true → get_or (rule_info r y).fromends i 0 ≡ from_end (table_day (leap y) i)
  unfolding rule_info info_of
  ends_at a =
      ap (λ (b : Bool). get_or (table_where b (from_end_table (year_info y).long)) i 0) a
      ∙ ap (λ (x : Year). get_or (from_end_table x.long) i 0) (year_is y high) ∙ table_at from_end (leap y) i place

  month_part : where_asked (asked_of r).month (month_at (rule_info r y).months r.bymonth i) ≡ asked r.bymonth (month_passes r (date_of (new_year y + i)))
  unfolding asked_of month_at month_passes
  month_part = asked_at (is_empty r.bymonth) (λ e. rw (months_at e, at.date))

  -- counted from the end, a day is as far from it as its table says
  from_its_end : (table_day (leap y) i).length + 1 - (table_day (leap y) i).day ≡ from_end (table_day (leap y) i)
  from_its_end = omega (arith, (row (leap y) i inside).day_low)

  month_day_part : where_asked (asked_of r).monthday (monthday_at (rule_info r y).monthdays (rule_info r y).fromends r.bymonthday i)
      ≡ asked r.bymonthday (monthday_passes r (date_of (new_year y + i)))
  unfolding asked_of monthday_at monthday_passes either_end
  month_day_part = asked_at (is_empty r.bymonthday) (λ e. rw (days_at_lem e, ends_at e, at.date, from_its_end))

  year_day_part : where_asked (asked_of r).yearday (yearday_at (leap y) (leap (y + 1)) r.byyearday i)
      ≡ asked r.byyearday (yearday_passes r (year_of (new_year y + i)) (new_year y + i))
  unfolding asked_of yearday_at yearday_passes
  year_day_part = rw (at.day, at.length) (asked_is (is_empty r.byyearday) _)

  week_part : where_asked (asked_of r).weekno (get_or (rule_info r y).weeks i false)
      ≡ asked r.byweekno (week_passes r (year_of (new_year y + i)) (new_year y + i))
  unfolding asked_of rule_info info_of
  week_part = go (is_empty r.byweekno) refl
    where
      go : (b : Bool) → is_empty r.byweekno ≡ b
          → where_asked (not b) (get_or (mask_where (not b) (week_mask r.wkst r.byweekno y)) i false)
          ≡ (b || week_passes r (year_of (new_year y + i)) (new_year y + i))
      go true e = refl
      go false e = mask_of_rule r y i start low high inside

  -- BYDAY's nth entries, by the mask and by the definition
  nth_part : ((asked_of r).nth && get_or (rule_info r y).nths i false)
      ≡ (if counts_in_year r
      then nth_passes r.byday (weekday (new_year y + i)) (year_day_at (leap y) i) (year_length_at (leap y) (leap (y + 1)) i)
      else nth_passes r.byday (weekday (new_year y + i)) (table_day (leap y) i).day (table_day (leap y) i).length)
  unfolding asked_of rule_info info_of
  nth_part = go (has_nth r.byday) refl
    where
      d : ℕ
      d = new_year y + i

      none : (b : Bool) → has_nth r.byday ≡ false
          → false ≡ (if b then nth_passes r.byday (weekday d) (year_day_at (leap y) i) (year_length_at (leap y) (leap (y + 1)) i)
          else nth_passes r.byday (weekday d) (table_day (leap y) i).day (table_day (leap y) i).length)
      none true e =
          let t = year_day_lem (leap y) (leap (y + 1)) i inside in
          sym (no_nth r.byday (weekday d) _ _ e (omega arith) t.low t.high t.length_high)
      none false e =
          let t = row (leap y) i inside in
          sym (no_nth r.byday (weekday d) _ _ e (omega arith) t.day_low t.day_high (omega arith))

      go : (b : Bool) → has_nth r.byday ≡ b
          → (b && get_or (mask_where b (nth_mask (counts_in_year r) (year_info y) r.byday)) i false)
          ≡ (if counts_in_year r
          then nth_passes r.byday (weekday d) (year_day_at (leap y) i) (year_length_at (leap y) (leap (y + 1)) i)
          else nth_passes r.byday (weekday d) (table_day (leap y) i).day (table_day (leap y) i).length)
      go true e = mask_at_lem (counts_in_year r) y i r.byday high inside
      go false e = none (counts_in_year r) e

  weekday_part : where_asked (asked_of r).day (weekday_at (asked_of r).nth (new_year y) r.byday (rule_info r y).nths i)
      ≡ asked r.byday (weekday_passes r (date_of (new_year y + i)) (new_year y + i))
  unfolding weekday_at weekday_passes counts_in_year asked_of
  weekday_part =
      asked_day
      ∙ ap (λ (b : Bool). is_empty r.byday || (is_pair_in r.byday (pos 0) (pos (weekday (new_year y + i))) || b)) nth_part
      ∙ rw (at.date, at.day, at.length)
    where
      asked_day : where_asked (asked_of r).day (weekday_at (asked_of r).nth (new_year y) r.byday (rule_info r y).nths i)
          ≡ (is_empty r.byday || (is_pair_in r.byday (pos 0) (pos (weekday (new_year y + i))) || ((asked_of r).nth && get_or (rule_info r y).nths i false)))
      asked_day = asked_is (is_empty r.byday) _

  info_year : (rule_info r y).year ≡ record { number = y; long = leap y; nextlong = leap (y + 1); first = new_year y }
  unfolding rule_info info_of
  info_year = year_is y high

  all_parts : place_passes (asked_of r) (rule_info r y) (rule_lists r) i ≡ day_passes r (new_year y + i)
  unfolding place_passes day_passes date_passes
  all_parts = rw (info_year, lt-ltb i (year_length y + 7) inside, month_part, month_day_part, year_day_part, week_part, weekday_part)

pub day_test_is : DayTestIs
day_test_is r y i s l h k = all_parts r y i s l h k

-- ---- the day set

passing_same : (p q : ℕ → Bool) (f n i : ℕ) → ((j : ℕ) → i ≤ j → j < i + n → p j ≡ q (f + j)) → map (λ j. f + j) (passing p n i) ≡ passing q n (f + i)
unfolding passing gather
passing_same p q f zero i h = refl
passing_same p q f (suc n) i h =
    let e : p i ≡ q (f + i) = h i (omega arith) (omega arith) in
    let rest : map (λ j. f + j) (passing p n (i + 1)) ≡ passing q n (f + i + 1) =
    passing_same p q f n (i + 1) (λ j a b. h j (omega arith) (omega arith)) ∙ ap (passing q n) (omega arith)
    in
    go (p i) e rest
  where
    go : (b : Bool) → b ≡ q (f + i) → map (λ j. f + j) (passing p n (i + 1)) ≡ passing q n (f + i + 1)
        → map (λ j. f + j) (only b (i ∷ []) ++ passing p n (i + 1)) ≡ only (q (f + i)) ((f + i) ∷ []) ++ passing q n (f + i + 1)
    go true e r = rw (← e) (ap (λ (l : List ℕ). (f + i) ∷ l) r)
    go false e r = rw (← e) r

pub day_set_is : DaySetIs
unfolding day_set
day_set_is r y from to s l h a b =
    let e : min to 373 ≡ to = omega (arith, days_high (leap y)) in
    let n : from + (to - from) ≡ to = omega arith in
    rw e (passing_same
    (place_passes (asked_of r) (rule_info r y) (rule_lists r)) (day_passes r) (new_year y) (to - from) from
    (λ j u v. day_test_is r y j s l h (omega arith)))
