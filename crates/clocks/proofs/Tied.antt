-- The time sets are what the meaning of a rule asks: as many times as the period has, and each of them by its number.
-- Assumes nothing.
use Rattle.std.specs.Prelude.{if◌then◌else◌}
use Prim.Native.Nat.{ℕ, zero, suc, ◌+◌, ◌*◌, ◌/◌, ◌%◌, ◌≤◌, ◌<◌}
use mathlib.Core.Path.{◌≡◌, refl, sym, ◌∙◌, ap}
use mathlib.Core.Bool.{Bool, true, false, ◌||◌}
use mathlib.Core.List.{List, [], ◌∷◌}
use native.Mathlib.Omega.{arith}
use lib.Dec.{leb}
use lib.IntN.{pos}
use lib.ListN.{length, get_or, replicate, get_or-replicate}
use borrow.Author.Tests.{le-leb, lt-ltb}
use Rattle.rule.specs.declared.rrule.Frequency.{Frequency}
use Rattle.rule.specs.declared.rrule.Rule.{Rule}
use Rattle.rule.specs.Instants.{hour_of, minute_of, second_of}
use Rattle.rule.specs.Lists.{from_zero, slot_of, is_in, is_empty}
use Rattle.rule.specs.Filling.{is_below}
use Rattle.rule.specs.Records.{Sized}
use Rattle.rule.specs.Times.{hour_passes, minute_passes, second_passes}
use Rattle.rule.specs.Periods.{period}
use Rattle.rule.specs.Candidates.{gather, only, covered, times, candidates}
use Rattle.times.specs.declared.iterinfo.Counts.{Counts}
use Rattle.clocks.specs.Blocks.{passing, passing_days}
use Rattle.times.specs.TimeSets.{flag_in, count_of, open_of, times_len, value_at, time_at}
use Rattle.clocks.specs.Clocks.{or_all, clock_of, flagged, timeset_of, clock_in, sets_in, open_in, time_in}
use Rattle.clocks.proofs.Blocks.{within_block, candidates_length, candidates_at}
use Rattle.clocks.proofs.Choices.{choices, hour_choices, minute_choices, second_choices, Places, places, times_length, times_at_lem}
use Rattle.clocks.proofs.Rows.{row_hour, row_minute, row_second, or_all_length, flagged_short}

-- A set, or all where it is empty, has the flag of each value that passes.
in_flags : (n v : ℕ) (s : List Bool) → v ≤ n → is_in (from_zero n) s (pos v) ≡ get_or s v false
unfolding is_in slot_of
in_flags n zero s h = refl
in_flags n (suc v) s h = let e : leb (suc v) n ≡ true = le-leb (suc v) n h in rw e (let f : 0 + 1 + v ≡ suc v = omega arith in rw f)

all_or_in : (n v : ℕ) (s : List Bool) → v < n + 1 → get_or (or_all (n + 1) s) v false ≡ is_empty s || is_in (from_zero n) s (pos v)
unfolding or_all
all_or_in n v s h = go (is_empty s)
  where
    go : (b : Bool) → get_or (if b then replicate (n + 1) true else s) v false ≡ b || is_in (from_zero n) s (pos v)
    go true = get_or-replicate (n + 1) v true false h
    go false = sym (in_flags n v s (omega arith))

all_length : (n : ℕ) (s : List Bool) → length s ≡ n → length (or_all n s) ≡ n
all_length n s e = ap (λ (k : ℕ). length (or_all k s)) (sym e) ∙ or_all_length s ∙ e

-- the clock of a rule has the flags of the hours, minutes and seconds that pass
module _ (r : Rule) (sized : Sized r) where
  abbrev hs : List Bool
  hs = or_all 24 r.byhour

  abbrev ms : List Bool
  ms = or_all 60 r.byminute

  abbrev ss : List Bool
  ss = or_all 60 r.bysecond

  few_hours : length hs ≡ 24
  few_hours = all_length 24 r.byhour sized.byhour

  few_minutes : length ms ≡ 60
  few_minutes = all_length 60 r.byminute sized.byminute

  few_seconds : length ss ≡ 60
  few_seconds = all_length 60 r.bysecond sized.bysecond

  pub clock_hours : (h : ℕ) → h < 24 → get_or (clock_in r) (0 + h) false ≡ hour_passes r h
  unfolding clock_in clock_of hour_passes
  clock_hours h l =
      row_hour false hs ms ss (omega (arith, few_hours)) (omega (arith, few_minutes)) (omega (arith, few_seconds)) h false (omega (arith, few_hours))
      ∙ all_or_in 23 h r.byhour l

  pub clock_minutes : (m : ℕ) → m < 60 → get_or (clock_in r) (24 + m) false ≡ minute_passes r m
  unfolding clock_in clock_of minute_passes
  clock_minutes m l =
      row_minute false hs ms ss (omega (arith, few_hours)) (omega (arith, few_minutes)) (omega (arith, few_seconds)) m false (omega (arith, few_minutes))
      ∙ all_or_in 59 m r.byminute l

  pub clock_seconds_lem : (s : ℕ) → s < 60 → get_or (clock_in r) (84 + s) false ≡ second_passes r s
  unfolding clock_in clock_of second_passes
  clock_seconds_lem s l =
      row_second false hs ms ss (omega (arith, few_hours)) (omega (arith, few_minutes)) (omega (arith, few_seconds)) s false (omega (arith, few_seconds))
      ∙ all_or_in 59 s r.bysecond l

-- two tests that agree pass the same numbers
pub passing_same : (p q : ℕ → Bool) (n i : ℕ) → ((j : ℕ) → i ≤ j → j < i + n → p j ≡ q j) → passing p n i ≡ passing q n i
unfolding passing gather
passing_same p q zero i f = refl
passing_same p q (suc n) i f =
    rw (f i (omega arith) (omega arith), passing_same p q n (i + 1) (λ j l h. f j (omega arith) (omega arith)))

-- The choices by flags and short lists: how many, and number j of them.
module _ (from n v : ℕ) (p : ℕ → Bool) (flags : List Bool) (inside : v < n) (agrees : (i : ℕ) → i < n → get_or flags (from + i) false ≡ p i) where
  all_are : passing p n 0 ≡ flagged from n flags
  unfolding flagged
  all_are = passing_same p (λ i. get_or flags (from + i) false) n 0 (λ j l h. sym (agrees j (omega arith)))

  one_is : p v ≡ flag_in flags from n v
  one_is = rw (lt-ltb v n inside) (sym (agrees v inside))

  choices_count : (b : Bool) → length (choices b n v p) ≡ count_of b (length (flagged from n flags)) (flag_in flags from n v)
  unfolding choices covered passing
  choices_count true = ap (λ (l : List ℕ). length l) all_are
  choices_count false = rw one_is (go (flag_in flags from n v))
    where
      go : (b : Bool) → length (only b (v ∷ [])) ≡ (if b then 1 else 0)
      go true = refl
      go false = refl

  choices_at : (lists : List ℕ) → ((j : ℕ) → j < length (flagged from n flags) → get_or lists (from + j) 0 ≡ get_or (flagged from n flags) j 0)
      → (b : Bool) (j : ℕ) → j < length (choices b n v p) → get_or (choices b n v p) j 0 ≡ value_at b lists from n j v
  unfolding choices covered passing
  choices_at lists reads true j h =
      let l : length (choices true n v p) ≡ length (flagged from n flags) = ap (λ (l : List ℕ). length l) all_are in
      let k : j < length (flagged from n flags) = omega arith in
      rw (lt-ltb j n (omega (arith, flagged_short from n flags))) (ap (λ (l : List ℕ). get_or l j 0) all_are ∙ sym (reads j k))
  choices_at lists reads false j h = go (p v) j h
    where
      go : (b : Bool) (j : ℕ) → j < length (only b (v ∷ [])) → get_or (only b (v ∷ [])) j 0 ≡ v
      go true zero h = refl
      go true (suc j) h = absurd (omega arith)
      go false j h = absurd (omega arith)

-- a second of the day has the minute and the second of the whole second
minute_of_day : (b : ℕ) → minute_of b ≡ b % 86400 / 60 % 60
minute_of_day b = omega arith

second_of_day : (b : ℕ) → second_of b ≡ b % 86400 % 60
second_of_day b = omega arith

-- The flags say which hours, minutes and seconds pass. Then the period that begins at the second b has so many times, and these.
module _ (r : Rule) (flags : List Bool) (b : ℕ)
    (hour-agrees : (h : ℕ) → h < 24 → get_or flags (0 + h) false ≡ hour_passes r h)
    (minute-agrees : (m : ℕ) → m < 60 → get_or flags (24 + m) false ≡ minute_passes r m)
    (second-agrees : (s : ℕ) → s < 60 → get_or flags (84 + s) false ≡ second_passes r s) where
  abbrev counts : Counts
  counts = open_of r.freq (b % 86400) flags (timeset_of flags).counts

  hours_are : length (hour_choices r b) ≡ counts.hours
  unfolding open_of timeset_of
  hours_are = choices_count 0 24 (hour_of b) (hour_passes r) flags (omega arith) hour-agrees (is_below r.freq Frequency.Hourly)

  minutes_are : length (minute_choices r b) ≡ counts.minutes
  unfolding open_of timeset_of
  minutes_are =
      rw (← minute_of_day b) (choices_count 24 60 (minute_of b) (minute_passes r) flags (omega arith) minute-agrees (is_below r.freq Frequency.Minutely))

  seconds_are : length (second_choices r b) ≡ counts.seconds
  unfolding open_of timeset_of
  seconds_are =
      rw (← second_of_day b) (choices_count 84 60 (second_of b) (second_passes r) flags (omega arith) second-agrees (is_below r.freq Frequency.Secondly))

  pub times_counted : length (times r b) ≡ times_len counts
  times_counted = times_length r b ∙ rw (hours_are, minutes_are, seconds_are)

  abbrev lists : List ℕ
  lists = (timeset_of flags).lists

  hours_at : (j : ℕ) → j < length (hour_choices r b) →
      get_or (hour_choices r b) j 0 ≡ value_at (is_below r.freq Frequency.Hourly) lists 0 24 j (b % 86400 / 3600)
  unfolding timeset_of
  hours_at j h =
      choices_at 0 24 (hour_of b) (hour_passes r) flags (omega arith) hour-agrees lists
      (λ k l. row_hour 0 _ _ _ (flagged_short 0 24 flags) (flagged_short 24 60 flags) (flagged_short 84 60 flags) k 0 l)
      (is_below r.freq Frequency.Hourly) j h

  minutes_at : (j : ℕ) → j < length (minute_choices r b) →
      get_or (minute_choices r b) j 0 ≡ value_at (is_below r.freq Frequency.Minutely) lists 24 60 j (b % 86400 / 60 % 60)
  unfolding timeset_of
  minutes_at j h =
      rw (← minute_of_day b)
      (choices_at 24 60 (minute_of b) (minute_passes r) flags (omega arith) minute-agrees lists
      (λ k l. row_minute 0 _ _ _ (flagged_short 0 24 flags) (flagged_short 24 60 flags) (flagged_short 84 60 flags) k 0 l)
      (is_below r.freq Frequency.Minutely) j h)

  seconds_at : (j : ℕ) → j < length (second_choices r b) →
      get_or (second_choices r b) j 0 ≡ value_at (is_below r.freq Frequency.Secondly) lists 84 60 j (b % 86400 % 60)
  unfolding timeset_of
  seconds_at j h =
      rw (← second_of_day b)
      (choices_at 84 60 (second_of b) (second_passes r) flags (omega arith) second-agrees lists
      (λ k l. row_second 0 _ _ _ (flagged_short 0 24 flags) (flagged_short 24 60 flags) (flagged_short 84 60 flags) k 0 l)
      (is_below r.freq Frequency.Secondly) j h)

  pub time_numbered : (t : ℕ) → t < times_len counts → get_or (times r b) t 0 ≡ time_at r.freq (b % 86400) counts lists t
  unfolding time_at
  time_numbered t h =
      let l : t < length (hour_choices r b) * (length (minute_choices r b) * length (second_choices r b)) = rw (hours_are, minutes_are, seconds_are) h in
      let w : Places (length (hour_choices r b)) (length (minute_choices r b)) (length (second_choices r b)) t = places _ _ _ t l in
      times_at_lem r b t l ∙ rw (hours_at _ w.hour, minutes_at _ w.minute, seconds_at _ w.second, minutes_are, seconds_are)

-- The same of a rule's own sets.
module _ (r : Rule) (sized : Sized r) (b : ℕ) where
  pub times_len_is : length (times r b) ≡ times_len (open_in r b)
  unfolding open_in sets_in
  times_len_is = times_counted r (clock_in r) b (clock_hours r sized) (clock_minutes r sized) (clock_seconds_lem r sized)

  pub time_at_is : (t : ℕ) → t < times_len (open_in r b) → get_or (times r b) t 0 ≡ time_in r b t
  unfolding open_in sets_in time_in
  time_at_is t h = time_numbered r (clock_in r) b (clock_hours r sized) (clock_minutes r sized) (clock_seconds_lem r sized) t h

-- From DAILY up a period has the times of a whole day, wherever it begins.
pub open_coarse : (freq : Frequency) (begins : ℕ) (flags : List Bool) (counts : Counts) → is_below freq Frequency.Hourly ≡ true
    → open_of freq begins flags counts ≡ counts
unfolding open_of
open_coarse Frequency.Yearly begins flags counts e = refl
open_coarse Frequency.Monthly begins flags counts e = refl
open_coarse Frequency.Weekly begins flags counts e = refl
open_coarse Frequency.Daily begins flags counts e = refl
open_coarse Frequency.Hourly begins flags counts e = absurd (let z : ◌≡◌ {A = ℕ} 0 1 = cc in omega arith)
open_coarse Frequency.Minutely begins flags counts e = absurd (let z : ◌≡◌ {A = ℕ} 0 1 = cc in omega arith)
open_coarse Frequency.Secondly begins flags counts e = absurd (let z : ◌≡◌ {A = ℕ} 0 1 = cc in omega arith)

-- The candidates of period k by its days and times: so many, and number j of them.
module _ (r : Rule) (sized : Sized r) (k : ℕ) where
  abbrev b : ℕ
  b = (period r k).begins

  pub candidates_counted : length (candidates r k) ≡ length (passing_days r (period r k)) * times_len (open_in r b)
  candidates_counted = candidates_length r k ∙ ap (λ (n : ℕ). length (passing_days r (period r k)) * n) (times_len_is r sized b)

  pub candidate_numbered : (j : ℕ) → j < length (passing_days r (period r k)) * times_len (open_in r b) →
      get_or (candidates r k) j 0
      ≡ get_or (passing_days r (period r k)) (j / times_len (open_in r b)) 0 * 86400 + time_in r b (j % times_len (open_in r b))
  candidate_numbered j h =
      let e : length (times r b) ≡ times_len (open_in r b) = times_len_is r sized b in
      let l : j < length (passing_days r (period r k)) * length (times r b) = rw e h in
      let w : j % times_len (open_in r b) < times_len (open_in r b) = within_block (length (passing_days r (period r k))) (times_len (open_in r b)) j h in
      candidates_at r k j l ∙ rw (e, time_at_is r sized b (j % times_len (open_in r b)) w)
