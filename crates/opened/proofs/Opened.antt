-- A period that is opened has the rule's own kept candidates.
-- Assumes nothing.
use Rattle.std.specs.Prelude.{if◌then◌else◌}
use Prim.Native.Nat.{ℕ, ◌+◌, ◌-◌, ◌*◌, ◌/◌, ◌%◌, min, ◌≤◌, ◌<◌}
use mathlib.Core.Path.{◌≡◌, refl, sym, ap, subst, ◌∙◌}
use mathlib.Core.Bool.{Bool, true, false, ◌&&◌}
use mathlib.Core.List.{List, [], ◌∷◌, ◌++◌, map}
use native.Mathlib.Nat.{mul-le-mul, zero-mul}
use native.Mathlib.Omega.{arith}
use lib.Dec.{leb, ltb}
use lib.ListN.{length, get_or, length-map}
use lib.Seq.{length-sets}
use Rattle.std.proofs.lemmas.List.{get_or-map, nil_from_length}
use borrow.Author.Tests.{not-true, not-false, le-leb, lt-ltb, ltb-false}
use Rattle.calendar.specs.Calendar.{year_length, new_year}
use Rattle.rule.specs.declared.rrule.Rule.{Rule}
use Rattle.rule.specs.Lists.{is_empty}
use Rattle.rule.specs.Days.{day_passes}
use Rattle.rule.specs.Periods.{period, in_range}
use Rattle.rule.specs.Candidates.{gather, only, times, candidates, kept}
use Rattle.rule.specs.declared.rrule.Frequency.{Frequency}
use Rattle.rule.specs.Moves.{day_in, fine, ticks}
use Rattle.periods.specs.Counters.{counter_at}
use Rattle.stretches.specs.declared.counter_date.Days.{Days}
use Rattle.times.specs.declared.iterinfo.Counts.{Counts}
use Rattle.clocks.specs.Blocks.{passing, passing_days}
use Rattle.times.specs.TimeSets.{open_of, times_len, time_at}
use Rattle.clocks.specs.Clocks.{clock_in, sets_in, open_in, time_in}
use Rattle.clocks.proofs.Blocks.{passing_in}
use Rattle.clocks.proofs.Choices.{times_at_most, times_below}
use Rattle.clocks.proofs.Tied.{times_len_is, time_at_is, candidates_counted, candidate_numbered}
use Rattle.days.specs.Filters.{rule_lists, place_passes}
use Rattle.days.specs.DaySets.{day_set}
use Rattle.years.specs.Info.{asked_of, rule_info}
use Rattle.days.proofs.DayTest.{day_set_is}
use Rattle.positions.specs.Places.{kept_places, over}
use Rattle.positions.proofs.Buffers.{length_over, sets_over, over_reads}
use Rattle.positions.proofs.Kept.{kept_without_positions, kept_count_lem, kept_from_slots, places_stand}
use Rattle.positions.proofs.PlaceLaws.{places_fit, places_below}
use Rattle.walks.specs.declared.rrule_iter.Frame.{Frame}
use Rattle.walks.specs.Walks.{second_at, second_chosen, tabled}
use Rattle.opening.specs.declared.period.Period.{Period}
use Rattle.units.specs.Years.{is_in_year}
use Rattle.opening.specs.Opening.{tick_begins, tick_second, frame_of, kept_count, chosen_over, second_kept, no_period, is_open, period_by, chosen_by}
use Rattle.opened.specs.Opened.{span_of, day_set_of, is_positioned, period_in, days_over, places_over, Sound, Opened, OpenedIs}
use Rattle.plans.specs.Plans.{shape_of}
use Rattle.opening.proofs.PeriodLaws.{few_days}
use Rattle.opened.proofs.Spans.{Covers, covers_is, year_begins, Fits, tick_below, begins_place}
use Rattle.opened.proofs.Spans.{span_of_period, span_from_low, span_in_year, span_of_a_day}
use Rattle.opened.proofs.Fitting.{fit_poised}
use Rattle.opened.proofs.Tables.{is_tabled, block_of}
use Rattle.opened.proofs.Yielded.{Good, good}

-- one number that is tried
one_tried : (p : ℕ → Bool) (i : ℕ) → p i ≡ ltb 0 (length (passing p 1 i))
unfolding passing gather
one_tried p i = go (p i)
  where
    go : (b : Bool) → b ≡ ltb 0 (length (only b (i ∷ []) ++ []))
    go true = refl
    go false = refl

-- where a day has such a tick, a period with it begins there
pub tick_second_lem : (freq : Frequency) (tick : ℕ) → tick < ticks freq → tick_second freq tick ≡ tick_begins freq tick
unfolding tick_second
tick_second_lem freq tick h = rw (lt-ltb tick (ticks freq) h)

-- of no candidate none is kept
no_places : (bysetpos : List Bool) (n : ℕ) → n ≡ 0 → kept_places bysetpos n ≡ []
no_places bysetpos n e = go (kept_places bysetpos n) refl
  where
    go : (l : List ℕ) → kept_places bysetpos n ≡ l → l ≡ []
    go [] q = refl
    go (x ∷ l) q = absurd (let h = places_below bysetpos n 0 (subst (λ (z : List ℕ). 0 < length z) (sym q) (omega arith)) in omega arith)

none_counted : (positioned : Bool) (bysetpos : List Bool) (days times : ℕ) → days ≡ 0 → kept_count positioned bysetpos days times ≡ 0
unfolding kept_count
none_counted true bysetpos days times e = ap (λ (l : List ℕ). length l) (no_places bysetpos (days * times) (rw e (zero-mul times)))
none_counted false bysetpos days times e = rw e (zero-mul times)

-- ---- the period

module _ (r : Rule) (fit : Good r) (k : ℕ) (inside : in_range r k ≡ true) (y : ℕ) (covered : is_in_year (rule_info r y).year (span_of r k).from ≡ true)
    (days places : List ℕ) (day-slots : length days ≡ 373) (place-slots : length places ≡ 732) where
  cover : Covers y (span_of r k).from
  cover = covers_is r y (span_of r k).from (span_from_low r fit k inside) covered

  fits : Fits y (span_of r k).from (span_of r k).to
  fits = span_in_year r fit k inside y cover.holds

  abbrev from : ℕ
  from = (span_of r k).from - new_year y

  abbrev to : ℕ
  to = (span_of r k).to - new_year y

  abbrev ds : List ℕ
  ds = day_set_of r k y

  abbrev own : List ℕ
  own = passing_days r (period r k)

  -- the passing days by places are the period's own
  own_is : own ≡ passing (day_passes r) ((span_of r k).to - (span_of r k).from) (span_of r k).from
  unfolding passing_days
  own_is = rw (span_of_period r fit k inside)

  days_are : map (λ i. new_year y + i) ds ≡ own
  days_are =
      let low : new_year y ≤ (span_of r k).from = cover.holds.from in
      let a : to - from ≡ (span_of r k).to - (span_of r k).from = omega arith in
      let b : new_year y + from ≡ (span_of r k).from = omega arith in
      let o : (span_of r k).from < (span_of r k).to = fits.some in
      let h : (span_of r k).to ≤ new_year y + (year_length y + 7) = fits.high in
      day_set_is r y from to fit.wkst cover.low cover.high (omega arith) (omega arith)
      ∙ ap (λ (n : ℕ). passing (day_passes r) n (new_year y + from)) a
      ∙ ap (passing (day_passes r) ((span_of r k).to - (span_of r k).from)) b
      ∙ sym own_is

  days_length_is : length ds ≡ length own
  days_length_is = sym (length-map ds (λ i. new_year y + i)) ∙ ap (λ (l : List ℕ). length l) days_are

  day_is : (j : ℕ) → j < length ds → get_or own j 0 ≡ new_year y + get_or ds j 0
  day_is j h = ap (λ (l : List ℕ). get_or l j 0) (sym days_are) ∙ get_or-map (λ i. new_year y + i) ds j 0 0 h

  -- there are at most 373, each below 373
  abbrev passes : ℕ → Bool
  passes = place_passes (asked_of r) (rule_info r y) (rule_lists r)

  few : length ds ≤ 373
  few = few_days (asked_of r) (rule_info r y) (rule_lists r) from to

  below : (j : ℕ) → j < length ds → get_or ds j 0 < 373
  unfolding day_set
  below j h =
      let w = passing_in passes (min to 373 - from) from j 0 h in
      let l = w.low in
      let u = w.high in
      omega arith

  -- the slots hold them
  slot_is : (j : ℕ) → j < length ds → get_or (days_over r k y days) j 0 ≡ get_or ds j 0
  slot_is j h = ap (λ (l : List ℕ). get_or l j 0) (sets_over ds days) ∙ over_reads ds days j (omega (arith, few)) h

  -- the frame's times are the period's own
  abbrev b : ℕ
  b = (period r k).begins

  abbrev f : Frame
  f = frame_of r.freq (sets_in r).counts (counter_at r k).tick (new_year y) (length (day_set_of r k y)) (clock_in r)

  begun : tick_second r.freq (counter_at r k).tick ≡ b % 86400
  begun = tick_second_lem r.freq (counter_at r k).tick (tick_below r k) ∙ sym (begins_place r k)

  begins_is : f.begins ≡ b % 86400
  unfolding frame_of
  begins_is = begun

  counts_are : f.counts ≡ open_in r b
  unfolding frame_of open_in
  counts_are = ap (λ (x : ℕ). open_of r.freq x (clock_in r) (sets_in r).counts) begun

  times_are : f.times ≡ times_len (open_in r b)
  unfolding frame_of
  times_are = ap times_len counts_are

  times_count : f.times ≡ length (times r b)
  times_count = times_are ∙ sym (times_len_is r fit.sized b)

  time_is : (t : ℕ) → time_at r.freq f.begins f.counts (sets_in r).lists t ≡ time_in r b t
  unfolding time_in
  time_is t =
      ap (λ (x : ℕ). time_at r.freq x f.counts (sets_in r).lists t) begins_is
      ∙ ap (λ (x : Counts). time_at r.freq (b % 86400) x (sets_in r).lists t) counts_are

  time_in_day : (t : ℕ) → t < f.times → time_at r.freq f.begins f.counts (sets_in r).lists t < 86400
  time_in_day t h =
      let l : t < times_len (open_in r b) = omega (arith, times_are) in
      let m : t < length (times r b) = omega (arith, times_count) in
      rw (time_is t) (rw (← time_at_is r fit.sized b t l) (times_below r b t m))

  days_in_lem : f.days ≡ length ds
  unfolding frame_of
  days_in_lem = refl

  -- the candidates, by number
  count_is : length (candidates r k) ≡ f.days * f.times
  count_is =
      candidates_counted r fit.sized k
      ∙ ap (λ (n : ℕ). n * times_len (open_in r b)) (sym (days_in_lem ∙ days_length_is))
      ∙ ap (λ (n : ℕ). f.days * n) (sym times_are)

  abbrev at : ℕ → ℕ
  at j = second_at f (days_over r k y days) (sets_in r).lists j

  as_second : (j : ℕ) → (new_year y + get_or (days_over r k y days) (j / f.times) 0) * 86400
      + time_at r.freq f.begins f.counts (sets_in r).lists (j % f.times) ≡ at j
  unfolding second_at frame_of
  as_second j = refl

  second_is : (j : ℕ) → j < f.days * f.times → get_or (candidates r k) j 0 ≡ at j
  second_is j h =
      let e : length own ≡ f.days = sym (days_in_lem ∙ days_length_is) in
      let l : j < length own * times_len (open_in r b) = rw (e, ← times_are) h in
      let d : j / f.times < length ds = subst (λ (n : ℕ). j / f.times < n) days_in_lem (block_of f.days f.times j h) in
      candidate_numbered r fit.sized k j l
      ∙ ap (λ (t : ℕ). get_or own (j / t) 0 * 86400 + time_in r b (j % t)) (sym times_are)
      ∙ ap (λ (x : ℕ). x * 86400 + time_in r b (j % f.times)) (day_is (j / f.times) d ∙ ap (λ (x : ℕ). new_year y + x) (sym (slot_is (j / f.times) d)))
      ∙ ap (λ (x : ℕ). (new_year y + get_or (days_over r k y days) (j / f.times) 0) * 86400 + x) (sym (time_is (j % f.times)))
      ∙ as_second j

  -- the kept candidates, by number
  abbrev all : ℕ
  all = f.days * f.times

  few_candidates : f.days * f.times ≤ 373 * 86400
  few_candidates =
      let d : f.days ≤ 373 = rw days_in_lem few in
      let t : f.times ≤ 86400 = rw times_count (times_at_most r b) in
      mul-le-mul d t

  place_in : (i : ℕ) → i < length (kept_places r.bysetpos all) → get_or (over (kept_places r.bysetpos all) places) i 0 < all
  place_in i h = rw (places_stand r.bysetpos all places i place-slots h) (places_below r.bysetpos all i h)

  chosen_is : is_empty r.bysetpos ≡ false → (i : ℕ) → i < length (kept_places r.bysetpos all)
      → get_or (kept r k) i 0 ≡ at (get_or (over (kept_places r.bysetpos all) places) i 0)
  chosen_is e i h =
      kept_from_slots r k places i e place-slots (subst (λ (n : ℕ). i < length (kept_places r.bysetpos n)) (sym count_is) h)
      ∙ ap (λ (n : ℕ). get_or (candidates r k) (get_or (over (kept_places r.bysetpos n) places) i 0) 0) count_is
      ∙ second_is (get_or (over (kept_places r.bysetpos all) places) i 0) (place_in i h)

  kept_length_is : (p : Bool) → is_positioned r ≡ p → length (kept r k) ≡ kept_count p r.bysetpos f.days f.times
  unfolding kept_count
  kept_length_is true e = kept_count_lem r k (not-true _ e) ∙ ap (λ (n : ℕ). length (kept_places r.bysetpos n)) count_is
  kept_length_is false e = ap (λ (l : List ℕ). length l) (kept_without_positions r k (not-false _ e)) ∙ count_is

  kept_is : (p : Bool) → is_positioned r ≡ p → (i : ℕ) → i < kept_count p r.bysetpos f.days f.times
      → get_or (kept r k) i 0 ≡ second_kept p f (days_over r k y days) (sets_in r).lists (chosen_over p r.bysetpos f.days f.times places) i
  unfolding kept_count chosen_over second_kept second_chosen
  kept_is true e i h = chosen_is (not-true _ e) i h
  kept_is false e i h = ap (λ (l : List ℕ). get_or l i 0) (kept_without_positions r k (not-false _ e)) ∙ second_is i h

  chosen_length : (p : Bool) → length (chosen_over p r.bysetpos f.days f.times places) ≡ 732
  unfolding chosen_over
  chosen_length true = length_over (kept_places r.bysetpos all) places ∙ place-slots
  chosen_length false = place-slots

  one_day_passes : fine r ≡ true → day_passes r (day_in r k) ≡ ltb 0 f.days
  one_day_passes e =
      let d : (span_of r k).from ≡ day_in r k = ap (λ (s : Days). s.from) (span_of_period r fit k inside) in
      let o : own ≡ passing (day_passes r) 1 (day_in r k) =
      own_is ∙ ap (λ (n : ℕ). passing (day_passes r) n (span_of r k).from) (span_of_a_day r fit k inside e) ∙ ap (passing (day_passes r) 1) d in
      one_tried (day_passes r) (day_in r k) ∙ ap (λ (l : List ℕ). ltb 0 (length l)) (sym o) ∙ ap (ltb 0) (sym (days_in_lem ∙ days_length_is))

  -- the period is that frame with so many kept, or none where no day passes
  abbrev chosen : List ℕ
  chosen = chosen_over (is_positioned r) r.bysetpos f.days f.times places

  abbrev n : ℕ
  n = kept_count (is_positioned r) r.bysetpos f.days f.times

  abbrev none : Period
  none = no_period r.freq (sets_in r).counts (new_year y)

  times_few : f.times ≤ 86400
  times_few = rw times_count (times_at_most r b)

  by_days : (M : Period → List ℕ → Type 0) → M (record { frame = f; kept = n }) chosen → (length ds ≡ 0 → M none places)
      → M (period_in r k y) (places_over r k y places)
  unfolding period_by chosen_by shape_of is_open frame_of
  by_days M a b = go (ltb 0 (length ds)) refl
    where
      either : Bool → Type 0
      either t = M (if t then record { frame = f; kept = n } else none) (if t then chosen else places)

      go : (t : Bool) → ltb 0 (length ds) ≡ t → either (t && leb f.times 86400)
      go true e = subst either (sym (le-leb f.times 86400 times_few)) a
      go false e = b (let z : length ds ≤ 0 = ltb-false _ _ e in omega arith)

  kept_nothing : length ds ≡ 0 → length (kept r k) ≡ 0
  kept_nothing e = kept_length_is (is_positioned r) refl ∙ none_counted (is_positioned r) r.bysetpos f.days f.times (days_in_lem ∙ e)

  begun_year : (718797 ≤ new_year y) × (new_year y ≤ 3652059)
  begun_year = year_begins y (span_of r k).from (span_from_low r fit k inside) cover.high cover.holds

  tabled_so : kept r k
      ≡ tabled (second_kept (is_positioned r) (period_in r k y).frame (days_over r k y days) (sets_in r).lists (places_over r k y places)) 0 (period_in r k y).kept
  unfolding no_period tabled
  tabled_so =
      by_days (λ p l. kept r k ≡ tabled (second_kept (is_positioned r) p.frame (days_over r k y days) (sets_in r).lists l) 0 p.kept)
      (is_tabled _ n (kept r k) (kept_length_is (is_positioned r) refl) (kept_is (is_positioned r) refl))
      (λ e. nil_from_length (kept r k) (kept_nothing e))

  length_so : length (kept r k) ≡ (period_in r k y).kept
  unfolding no_period
  length_so = by_days (λ p l. length (kept r k) ≡ p.kept) (kept_length_is (is_positioned r) refl) kept_nothing

  sound_so : Sound (is_positioned r) (period_in r k y) (sets_in r).lists
  unfolding no_period kept_count frame_of
  sound_so =
      by_days (λ p l. Sound (is_positioned r) p (sets_in r).lists)
      (record {
        framed = record { days = few; times = times_few; first = begun_year.1 };
        timely = time_in_day;
        kept_all = λ e. rw e;
        kept_high = λ e. subst (λ (t : Bool). kept_count t r.bysetpos f.days f.times ≤ 732) (sym e) (places_fit r.bysetpos all);
      })
      (λ e. record {
        framed = record { days = omega arith; times = omega arith; first = begun_year.1 };
        timely = λ t h. absurd (omega arith);
        kept_all = λ e. refl;
        kept_high = λ e. omega arith;
      })

  passes_so : fine r ≡ true → day_passes r (day_in r k) ≡ ltb 0 (period_in r k y).frame.days
  unfolding no_period
  passes_so e =
      by_days (λ p l. day_passes r (day_in r k) ≡ ltb 0 p.frame.days) (one_day_passes e)
      (λ z. one_day_passes e ∙ ap (ltb 0) (days_in_lem ∙ z))

  places_so : length (places_over r k y places) ≡ 732
  places_so = by_days (λ p l. length l ≡ 732) (chosen_length (is_positioned r)) (λ e. place-slots)

  opened_here : Opened r k y days places
  opened_here = record {
    kept_are_tabled = tabled_so;
    kept_length = length_so;
    sound = sound_so;
    tick_below = tick_below r k;
    days_length = length-sets days 0 ds ∙ day-slots;
    places_length = places_so;
    day_passes_lem = passes_so;
    fit_is = fit_poised r fit k inside (period_in r k y) (days_over r k y days) (places_over r k y places) tabled_so length_so sound_so.framed;
  }

pub opened : OpenedIs
opened r h k inside y covered days places a b = opened_here r (good r h) k inside y covered days places a b
