-- The values that a rule is written by, one for each name: of an accepted rule each fits, and they make the rule again.
-- Assumes nothing.
use Rattle.std.specs.Prelude.{Option, Some, None, Ok}
use Prim.Native.Nat.{ℕ, suc, ◌*◌, ◌≤◌, ◌<◌}
use native.Mathlib.Omega.{arith}
use mathlib.Core.Path.{◌≡◌, refl, ap, sym, ◌∙◌}
use mathlib.Core.Bool.{Bool, true, false}
use mathlib.Core.List.{List, [], ◌∷◌, ◌++◌, map, append-nil}
use lib.ListN.{length, get_or}
use lib.Dec.{eqb}
use lib.IntN.{ℤ}
use borrow.Author.Tests.{ltb-false, eqb-true, not-false}
use Rattle.rule.specs.declared.rrule.Range.{Range}
use Rattle.rule.specs.declared.rrule.Refusal.{Refusal}
use Rattle.rule.specs.Instants.{last_instant}
use Rattle.rule.specs.Lists.{months, monthdays, yeardays, weeknos, nths, weekdays, hours, minutes, seconds, positions, slots}
use Rattle.rule.specs.Raw.{RawLists, Raw, raw, raw_lists}
use Rattle.rule.specs.Refusals.{until_out, strays, entry_out, rises, pairs_rise, not_rising, verdict}
use Rattle.rule.proofs.GivenLaws.{neither}
use Rattle.rule.proofs.CheckLaws.{wkst_in_range}
use Rattle.rule.proofs.RefusalLaws.{none_given}
use Rattle.symbols.specs.Languages.{Both, both}
use Rattle.symbols.specs.Counts.{ten_to}
use Rattle.recur.specs.Grammar.{Entry, Day, Value, absent, number, numbers, days, Kind, frequency, up_to_high, moment, weekday, entries, day_entries}
use Rattle.recur.specs.Grammar.{number_or, as_count, as_until, as_list, as_days, nth_of, weekday_of, rule_by}
use Rattle.recur.specs.Writing.{signed_text, day_text, value_text, unless, count_part, until_part, list_part, paired, day_part}
use Rattle.recur.specs.Claims.{CountInRange, Writable}
use Rattle.recur.proofs.DecimalLaws.{decimal_few, decimal_number}
use Rattle.recur.specs.Pieces.{rest_of}
use Rattle.recur.proofs.WrittenSymbols.{Short, freq_written, weekday_written, Each, each_so, list_written}
use Rattle.recur.proofs.WrittenMoments.{moment_written, moment_length}
use Rattle.recur.proofs.WrittenEntries.{Inside, each_inside, few_entries, few_pairs, Digits, signed_entry, plain_entry, each_day, nths_paired}
use Rattle.recur.proofs.WrittenEntries.{weekdays_paired, length_paired}
use Rattle.recur.proofs.WrittenParts.{part_for, parts_from, Fits, AllFit, none, also}

-- ---- what the check of an accepted rule says of its lists

-- a list has no entry outside its range, and rises
abbrev pub Kept : Range → List ℤ → Type 0
Kept g l = (strays g l ≡ false) × (rises l ≡ true)

-- the rows EntryOut and NotRising, list by list
pub record Sound (l : RawLists) : Type 0 where
  pub bymonth : Kept months l.bymonth
  pub bymonthday : Kept monthdays l.bymonthday
  pub byyearday : Kept yeardays l.byyearday
  pub byweekno : Kept weeknos l.byweekno
  pub bydays : length l.bydayn ≡ length l.bydayw
  pub bydayn : strays nths l.bydayn ≡ false
  pub bydayw : strays weekdays l.bydayw ≡ false
  pub bydays_rise : pairs_rise l.bydayn l.bydayw ≡ true
  pub byhour : Kept hours l.byhour
  pub byminute : Kept minutes l.byminute
  pub bysecond : Kept seconds l.bysecond
  pub bysetpos : Kept positions l.bysetpos

sound : (l : RawLists) → entry_out l ≡ false → not_rising l ≡ false → Sound l
unfolding entry_out not_rising
sound l e r =
    let a10 = neither _ _ e in
    let a9 = neither _ _ a10.0 in
    let a8 = neither _ _ a9.0 in
    let a7 = neither _ _ a8.0 in
    let a6 = neither _ _ a7.0 in
    let a5 = neither _ _ a6.0 in
    let a4 = neither _ _ a5.0 in
    let a3 = neither _ _ a4.0 in
    let a2 = neither _ _ a3.0 in
    let a1 = neither _ _ a2.0 in
    let b8 = neither _ _ r in
    let b7 = neither _ _ b8.0 in
    let b6 = neither _ _ b7.0 in
    let b5 = neither _ _ b6.0 in
    let b4 = neither _ _ b5.0 in
    let b3 = neither _ _ b4.0 in
    let b2 = neither _ _ b3.0 in
    let b1 = neither _ _ b2.0 in
    record {
      bymonth = (a1.0, not-false _ b1.0);
      bymonthday = (a1.1, not-false _ b1.1);
      byyearday = (a2.1, not-false _ b2.1);
      byweekno = (a3.1, not-false _ b3.1);
      bydays = eqb-true _ _ (not-false _ a4.1);
      bydayn = a5.1;
      bydayw = a6.1;
      bydays_rise = not-false _ b4.1;
      byhour = (a7.1, not-false _ b5.1);
      byminute = (a8.1, not-false _ b6.1);
      bysecond = (a9.1, not-false _ b7.1);
      bysetpos = (a10.1, not-false _ b8.1);
    }

pub sound_lists : (w : Raw) → verdict w ≡ Ok tt → Sound w.lists
sound_lists w e = sound w.lists ((none_given w).0 e Refusal.EntryOut) ((none_given w).0 e Refusal.NotRising)

-- ---- the values

-- as Writing has them for parts: nothing where a test says so, a count, an instant, a list, BYDAY's pairs
abbrev unless_value : Bool → Value → Value
unless_value true v = absent
unless_value false v = v

abbrev count_value : Option ℕ → Value
count_value None = absent
count_value (Some n) = number n

abbrev until_value : Option ℕ → Value
until_value None = absent
until_value (Some t) = number t

abbrev list_value : List ℤ → Value
list_value [] = absent
list_value (v ∷ vs) = numbers (v ∷ vs)

abbrev day_value : List (Both ℤ ℕ) → Value
day_value [] = absent
day_value (d ∷ ds) = days (d ∷ ds)

-- of the names behind FREQ
abbrev pub rest_values : Raw → List Value
rest_values w =
    unless_value (eqb w.interval 1) (number w.interval) ∷
    count_value w.count ∷
    until_value w.until ∷
    unless_value (eqb w.wkst 0) (number w.wkst) ∷
    list_value w.lists.bymonth ∷
    list_value w.lists.bymonthday ∷
    list_value w.lists.byyearday ∷
    list_value w.lists.byweekno ∷
    day_value (paired w.lists.bydayn w.lists.bydayw) ∷
    list_value w.lists.byhour ∷
    list_value w.lists.byminute ∷
    list_value w.lists.bysecond ∷
    list_value w.lists.bysetpos ∷
    []

-- they have the rule's parts
unless_part : (b : Bool) (i n : ℕ) → unless b (both i (number n)) ≡ part_for i (unless_value b (number n))
unless_part true i n = refl
unless_part false i n = refl

count_part_lem : (c : Option ℕ) → count_part c ≡ part_for 2 (count_value c)
count_part_lem None = refl
count_part_lem (Some n) = refl

until_part_lem : (u : Option ℕ) → until_part u ≡ part_for 3 (until_value u)
until_part_lem None = refl
until_part_lem (Some t) = refl

list_part_lem : (i : ℕ) (l : List ℤ) → list_part i l ≡ part_for i (list_value l)
list_part_lem i [] = refl
list_part_lem i (v ∷ vs) = refl

day_part_lem : (l : List (Both ℤ ℕ)) → day_part l ≡ part_for 9 (day_value l)
day_part_lem [] = refl
day_part_lem (d ∷ ds) = refl

pub rest_parts : (w : Raw) → rest_of w ≡ parts_from 1 (rest_values w)
unfolding parts_from
rest_parts w =
    λ i.
    unless_part (eqb w.interval 1) 1 w.interval i
    ++ (count_part_lem w.count i
    ++ (until_part_lem w.until i
    ++ (unless_part (eqb w.wkst 0) 4 w.wkst i
    ++ (list_part_lem 5 w.lists.bymonth i
    ++ (list_part_lem 6 w.lists.bymonthday i
    ++ (list_part_lem 7 w.lists.byyearday i
    ++ (list_part_lem 8 w.lists.byweekno i
    ++ (day_part_lem (paired w.lists.bydayn w.lists.bydayw) i
    ++ (list_part_lem 10 w.lists.byhour i
    ++ (list_part_lem 11 w.lists.byminute i
    ++ (list_part_lem 12 w.lists.bysecond i
    ++ (list_part_lem 13 w.lists.bysetpos ∙ sym (append-nil (part_for 13 (list_value w.lists.bysetpos)))) i)))))))))))

-- and make the rule again
unless_back : (d n : ℕ) → number_or d (unless_value (eqb n d) (number n)) ≡ n
unless_back d n = go (eqb n d) refl
  where
    go : (b : Bool) → eqb n d ≡ b → number_or d (unless_value b (number n)) ≡ n
    go true e = sym (eqb-true n d e)
    go false e = refl

count_back : (c : Option ℕ) → as_count (count_value c) ≡ c
count_back None = refl
count_back (Some n) = refl

until_back : (u : Option ℕ) → as_until (until_value u) ≡ u
until_back None = refl
until_back (Some t) = refl

entries_back : (l : List ℤ) → as_list (list_value l) ≡ l
entries_back [] = refl
entries_back (v ∷ vs) = refl

days_back : (l : List (Both ℤ ℕ)) → as_days (day_value l) ≡ l
days_back [] = refl
days_back (d ∷ ds) = refl

pub rule_back : (w : Raw) → w.start ≡ 0 → Sound w.lists → rule_by (λ (i : ℕ). get_or (number w.freq ∷ rest_values w) i absent) ≡ w
unfolding rule_by
rule_back w z s =
    let l : RawLists = w.lists in
    let ds : List (Both ℤ ℕ) = paired w.lists.bydayn w.lists.bydayw in
    λ i.
    raw w.freq (unless_back 1 w.interval i) (count_back w.count i) (until_back w.until i) (unless_back 0 w.wkst i) (sym z i)
    (raw_lists
    (entries_back l.bymonth i)
    (entries_back l.bymonthday i)
    (entries_back l.byyearday i)
    (entries_back l.byweekno i)
    ((ap (map nth_of) (days_back ds) ∙ nths_paired l.bydayn l.bydayw s.bydays) i)
    ((ap (map weekday_of) (days_back ds) ∙ weekdays_paired l.bydayn l.bydayw s.bydays (each_inside weekdays l.bydayw s.bydayw)) i)
    (entries_back l.byhour i)
    (entries_back l.byminute i)
    (entries_back l.bysecond i)
    (entries_back l.bysetpos i))

-- ---- each fits

-- nothing, FREQ, INTERVAL and COUNT, UNTIL, WKST
absent_fits : (k : Kind) (m : ℕ) → Fits k m absent
absent_fits k m e = absurd (let z : ◌≡◌ {A = ℕ} 0 1 = cc in omega arith)

pub freq_fits : (f : ℕ) → f < 7 → Fits frequency 8 (number f)
unfolding value_text
freq_fits f h e = let s = freq_written f h in record { spelled = record { from = f; spelled = s.spelled; turned = refl }; short = s.short }

number_fits : (high k n : ℕ) → 1 ≤ k → high < ten_to k → high < 10000000000 → n ≤ high → Fits (up_to_high high) k (number n)
unfolding value_text ten_to
number_fits high k n l h b a e = record {
  spelled = record { from = n; spelled = decimal_number high n (omega arith) a; turned = refl };
  short = decimal_few k n l (omega arith);
}

unless_fits : (k : Kind) (m : ℕ) (b : Bool) (v : Value) → Fits k m v → Fits k m (unless_value b v)
unless_fits k m true v f = absent_fits k m
unless_fits k m false v f = f

count_fits : (c : Option ℕ) → CountInRange c → Fits (up_to_high 4294967295) 10 (count_value c)
unfolding ten_to
count_fits None h = absent_fits (up_to_high 4294967295) 10
count_fits (Some n) h = number_fits 4294967295 10 n (omega arith) (omega arith) (omega arith) h

until_fits : (u : Option ℕ) → until_out u ≡ false → Fits moment 16 (until_value u)
unfolding value_text
until_fits None h = absent_fits moment 16
until_fits (Some t) h = λ e. record {
  spelled = record { from = t; spelled = moment_written t (ltb-false last_instant t h); turned = refl };
  short = omega (arith, moment_length t);
}

wkst_fits : (d : ℕ) → d < 7 → Fits weekday 2 (number d)
unfolding value_text
wkst_fits d h e = let s = weekday_written d h in record { spelled = record { from = d; spelled = s.spelled; turned = refl }; short = s.short }

-- lists of numbers, with signs and without
entries_fit : (signs : Bool) (m n : ℕ) (l : List ℤ) → Each (Short ℤ (Entry signs) signed_text m) l → length l ≤ n → n ≤ 749
    → Fits (entries signs) (n * suc m) (list_value l)
unfolding value_text
entries_fit signs m n [] a h k = absent_fits (entries signs) (n * suc m)
entries_fit signs m n (v ∷ vs) a h k =
    let s = list_written (Entry signs) signed_text m n v vs a h k in
    λ e. record { spelled = record { from = v ∷ vs; spelled = s.spelled; turned = refl }; short = s.short }

signed_fit : (k : ℕ) (g : Range) (l : List ℤ) → Digits k g → slots g ≤ 749 → Kept g l → Fits (entries true) (slots g * suc (suc k)) (list_value l)
signed_fit k g l d s h =
    entries_fit true (suc k) (slots g) l
    (each_so (Inside g) (Short ℤ (Entry true) signed_text (suc k)) (λ v i. signed_entry 0 k g v d (omega arith) i) l (each_inside g l h.0))
    (few_entries g l h.0 h.1) s

plain_fit : (g : Range) (l : List ℤ) → g.negatives ≡ 0 → g.positives < 100 → slots g ≤ 749 → Kept g l → Fits (entries false) (slots g * 3) (list_value l)
plain_fit g l c d s h =
    entries_fit false 2 (slots g) l (each_so (Inside g) (Short ℤ (Entry false) signed_text 2) (λ v i. plain_entry g v c d i) l (each_inside g l h.0))
    (few_entries g l h.0 h.1) s

-- BYDAY
days_fit : (ds : List (Both ℤ ℕ)) → Each (Short (Both ℤ ℕ) Day day_text 5) ds → length ds ≤ 749 → Fits day_entries 4494 (day_value ds)
unfolding value_text
days_fit [] a h = absent_fits day_entries 4494
days_fit (d ∷ ds) a h =
    let s = list_written Day day_text 5 749 d ds a h (omega arith) in
    λ e. record { spelled = record { from = d ∷ ds; spelled = s.spelled; turned = refl }; short = s.short }

byday_fits : (l : RawLists) → Sound l → Fits day_entries 4494 (day_value (paired l.bydayn l.bydayw))
byday_fits l s =
    days_fit (paired l.bydayn l.bydayw)
    (each_day l.bydayn l.bydayw (each_inside nths l.bydayn s.bydayn) (each_inside weekdays l.bydayw s.bydayw))
    (omega (arith, length_paired l.bydayn l.bydayw, few_pairs l.bydayn l.bydayw s.bydays s.bydayn s.bydayw s.bydays_rise))

-- and all of them
pub all_fit : (w : Raw) → Writable w → AllFit 1 (rest_values w)
unfolding ten_to
all_fit w a =
    let e : verdict w ≡ Ok tt = a.accepted in
    let l : RawLists = w.lists in
    let s : Sound w.lists = sound_lists w e in
    let i = number_fits 65535 5 w.interval (omega arith) (omega arith) (omega arith) a.interval in
    let d : w.wkst < 7 = omega (arith, wkst_in_range w e) in
    also (unless_fits (up_to_high 65535) 5 (eqb w.interval 1) (number w.interval) i)
    (also (count_fits w.count a.count)
    (also (until_fits w.until ((none_given w).0 e Refusal.UntilOut))
    (also (unless_fits weekday 2 (eqb w.wkst 0) (number w.wkst) (wkst_fits w.wkst d))
    (also (plain_fit months l.bymonth refl (omega arith) (omega arith) s.bymonth)
    (also (signed_fit 2 monthdays l.bymonthday (omega arith) (omega arith) s.bymonthday)
    (also (signed_fit 3 yeardays l.byyearday (omega arith) (omega arith) s.byyearday)
    (also (signed_fit 2 weeknos l.byweekno (omega arith) (omega arith) s.byweekno)
    (also (byday_fits l s)
    (also (plain_fit hours l.byhour refl (omega arith) (omega arith) s.byhour)
    (also (plain_fit minutes l.byminute refl (omega arith) (omega arith) s.byminute)
    (also (plain_fit seconds l.bysecond refl (omega arith) (omega arith) s.bysecond)
    (also (signed_fit 3 positions l.bysetpos (omega arith) (omega arith) s.bysetpos) none))))))))))))
