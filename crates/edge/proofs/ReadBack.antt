-- A record and a cursor that are written are read back.
-- Assumes nothing.
use Rattle.std.specs.Prelude.{Option, Some, None}
use Prim.Native.Nat.{ℕ, suc, ◌+◌, ◌*◌, ◌/◌, ◌%◌}
use mathlib.Core.Path.{◌≡◌, refl, sym, ap, ◌∙◌}
use mathlib.Core.Bool.{Bool, true, ◌&&◌}
use mathlib.Core.List.{List, [], ◌∷◌, ◌++◌, append_assoc, append-nil}
use lib.Dec.{eqb, leb}
use lib.ListN.{length, get_or, drop, length-append, length-map}
use Rattle.machine.specs.declared.Cause.{Cause}
use Rattle.machine.specs.declared.State.{State}
use Rattle.machine.specs.declared.Cursor.{Cursor}
use Rattle.rule.specs.declared.rrule.Frequency.{Frequency}
use Rattle.rule.specs.declared.rrule.Rule.{Rule}
use Rattle.rule.specs.Filling.{frequency_number, frequency}
use Rattle.rule.specs.Records.{Sized}
use Rattle.edge.specs.Bytes.{two_at, four_at, eight_at, are_flags, flags_at, flag_byte, flag_bytes}
use Rattle.edge.specs.Layout.{record_version, cursor_version, tag_of, number_of, option_of, count_from, until_from}
use Rattle.edge.specs.Layout.{is_tagged, head_bytes, day_bytes, time_bytes, encode_record, is_record_bytes, decode_record, state_number, state_of}
use Rattle.edge.specs.Layout.{encode_cursor}
use Rattle.edge.specs.Claims.{RecordReadBack, CursorReadBack}
use Rattle.edge.proofs.LayoutLaws.{length_head, length_days, length_times, record_read, record_judged, cursor_read, cursor_judged}
use Rattle.edge.proofs.EdgeLaws.{record_held, cursor_held}
use Rattle.edge.proofs.Written.{two_read, four_read, eight_read, are_written, are_both, set_read}

-- numbers that are written as halves of halves
four_back : (n : ℕ) → n % 65536 % 256 + 256 * (n % 65536 / 256) + 65536 * (n / 65536 % 256 + 256 * (n / 65536 / 256)) ≡ n
four_back n = (λ i. two_read (n % 65536) i + 65536 * two_read (n / 65536) i) ∙ four_read n

-- what the first bytes of a record are, whatever stands behind
module _ (freq : Frequency) (interval : ℕ) (count : Option ℕ) (until : Option ℕ) (wkst start : ℕ) (rest : List ℕ) where
  version_byte : get_or ((record_version ∷ head_bytes freq interval count until wkst start) ++ rest) 0 0 ≡ record_version
  unfolding head_bytes
  version_byte = refl

  frequency_byte : get_or ((record_version ∷ head_bytes freq interval count until wkst start) ++ rest) 1 0 ≡ frequency_number freq
  unfolding head_bytes
  frequency_byte = refl

  count_byte : get_or ((record_version ∷ head_bytes freq interval count until wkst start) ++ rest) 4 0 ≡ tag_of count
  unfolding head_bytes
  count_byte = refl

  until_byte : get_or ((record_version ∷ head_bytes freq interval count until wkst start) ++ rest) 9 0 ≡ tag_of until
  unfolding head_bytes
  until_byte = refl

  wkst_byte : get_or ((record_version ∷ head_bytes freq interval count until wkst start) ++ rest) 18 0 ≡ wkst
  unfolding head_bytes
  wkst_byte = refl

  interval_back : two_at ((record_version ∷ head_bytes freq interval count until wkst start) ++ rest) 2 ≡ interval
  unfolding head_bytes two_at
  interval_back = two_read interval

  count_back : four_at ((record_version ∷ head_bytes freq interval count until wkst start) ++ rest) 5 ≡ number_of count
  unfolding head_bytes four_at
  count_back = four_back (number_of count)

  until_back : eight_at ((record_version ∷ head_bytes freq interval count until wkst start) ++ rest) 10 ≡ number_of until
  unfolding head_bytes eight_at
  until_back = let n = number_of until in (λ i. four_back (n % 4294967296) i + 4294967296 * four_back (n / 4294967296) i) ∙ eight_read n

  start_back : eight_at ((record_version ∷ head_bytes freq interval count until wkst start) ++ rest) 19 ≡ start
  unfolding head_bytes eight_at
  start_back = (λ i. four_back (start % 4294967296) i + 4294967296 * four_back (start / 4294967296) i) ∙ eight_read start

  behind_head : drop 27 ((record_version ∷ head_bytes freq interval count until wkst start) ++ rest) ≡ rest
  unfolding head_bytes
  behind_head = refl

-- tags and numbers
frequency_back : (f : Frequency) → frequency (frequency_number f) ≡ f
unfolding frequency
frequency_back Frequency.Yearly = refl
frequency_back Frequency.Monthly = refl
frequency_back Frequency.Weekly = refl
frequency_back Frequency.Daily = refl
frequency_back Frequency.Hourly = refl
frequency_back Frequency.Minutely = refl
frequency_back Frequency.Secondly = refl

frequency_known : (f : Frequency) → leb (frequency_number f) 6 ≡ true
frequency_known Frequency.Yearly = refl
frequency_known Frequency.Monthly = refl
frequency_known Frequency.Weekly = refl
frequency_known Frequency.Daily = refl
frequency_known Frequency.Hourly = refl
frequency_known Frequency.Minutely = refl
frequency_known Frequency.Secondly = refl

option_again : (o : Option ℕ) → option_of (tag_of o) (number_of o) ≡ o
option_again None = refl
option_again (Some n) = refl

option_tagged : (o : Option ℕ) → is_tagged (tag_of o) (number_of o) ≡ true
option_tagged None = refl
option_tagged (Some n) = refl

-- the next part goes to those that stand before
pub record Split (e before rest : List ℕ) (i : ℕ) : Type 0 where
  pub is : e ≡ before ++ rest
  pub size : length before ≡ i

next : (e before rest : List ℕ) (s : List Bool) (i n : ℕ) → length s ≡ n → Split e before (flag_bytes s ++ rest) i → Split e (before ++ flag_bytes s) rest (i + n)
next e before rest s i n l p = record {
  is = p.is ∙ sym (append_assoc before (flag_bytes s) rest);
  size = length-append before (flag_bytes s) ∙ (λ d. p.size d + (length-map s flag_byte ∙ l) d);
}

read : (e before rest : List ℕ) (s : List Bool) (i n : ℕ) → length s ≡ n → Split e before (flag_bytes s ++ rest) i → s ≡ flags_at e i n
read e before rest s i n l p = sym (set_read e before rest s i n p.is p.size l)

days_are : (r : Rule) → are_flags (day_bytes r) ≡ true
unfolding day_bytes
days_are r =
    are_both (flag_bytes r.bymonth) _ (are_written r.bymonth) (are_both (flag_bytes r.bymonthday) _ (are_written r.bymonthday)
    (are_both (flag_bytes r.byyearday) _ (are_written r.byyearday) (are_both (flag_bytes r.byweekno) _ (are_written r.byweekno) (are_written r.byday))))

times_are : (r : Rule) → are_flags (time_bytes r) ≡ true
unfolding time_bytes
times_are r =
    are_both (flag_bytes r.byhour) _ (are_written r.byhour) (are_both (flag_bytes r.byminute) _ (are_written r.byminute)
    (are_both (flag_bytes r.bysecond) _ (are_written r.bysecond) (are_written r.bysetpos)))

-- the parts of a record's bytes, one behind the other
in_order : (r : Rule) (head : List ℕ) → head ++ (day_bytes r ++ time_bytes r)
    ≡ head ++ (flag_bytes r.bymonth ++ (flag_bytes r.bymonthday ++ (flag_bytes r.byyearday ++ (flag_bytes r.byweekno ++ (flag_bytes r.byday
    ++ (flag_bytes r.byhour ++ (flag_bytes r.byminute ++ (flag_bytes r.bysecond ++ (flag_bytes r.bysetpos ++ [])))))))))
unfolding day_bytes time_bytes
in_order r head = simp (append_assoc, append-nil)

module _ (r : Rule) (sized : Sized r) where
  abbrev head : List ℕ
  head = record_version ∷ head_bytes r.freq r.interval r.count r.until r.wkst r.start

  abbrev tail : List ℕ
  tail = day_bytes r ++ time_bytes r

  abbrev e : List ℕ
  e = head ++ tail

  head_size : length head ≡ 27
  head_size = ap suc (length_head r.freq r.interval r.count r.until r.wkst r.start)

  size : length e ≡ 2564
  size =
      length-append head tail ∙ (λ d. head_size d
      + (length-append (day_bytes r) (time_bytes r)
      ∙ (λ j. length_days r sized.bymonth sized.bymonthday sized.byyearday sized.byweekno sized.byday j
      + length_times r sized.byhour sized.byminute sized.bysecond sized.bysetpos j)) d)

  all_flags : are_flags (drop 27 e) ≡ true
  all_flags = ap are_flags (behind_head r.freq r.interval r.count r.until r.wkst r.start tail)
      ∙ are_both (day_bytes r) (time_bytes r) (days_are r) (times_are r)

  is_record : is_record_bytes e ≡ true
  is_record =
      let t : is_tagged (get_or e 4 0) (four_at e 5) ≡ true =
      (λ d. is_tagged (count_byte r.freq r.interval r.count r.until r.wkst r.start tail d)
      (count_back r.freq r.interval r.count r.until r.wkst r.start tail d)) ∙ option_tagged r.count in
      let u : is_tagged (get_or e 9 0) (eight_at e 10) ≡ true =
      (λ d. is_tagged (until_byte r.freq r.interval r.count r.until r.wkst r.start tail d)
      (until_back r.freq r.interval r.count r.until r.wkst r.start tail d)) ∙ option_tagged r.until in
      let f : leb (get_or e 1 0) 6 ≡ true =
      ap (λ (k : ℕ). leb k 6) (frequency_byte r.freq r.interval r.count r.until r.wkst r.start tail) ∙ frequency_known r.freq in
      let v : eqb (get_or e 0 0) record_version ≡ true =
      ap (λ (k : ℕ). eqb k record_version) (version_byte r.freq r.interval r.count r.until r.wkst r.start tail) in
      sym (record_judged e (four_at e 5) (eight_at e 10) true true true size refl refl (sym t) (sym u) (sym all_flags))
      ∙ (λ d. v d && (f d && (true && (true && true))))

  read_back : decode_record e ≡ Some r
  read_back =
      let p1 : Split e head _ 27 = record { is = in_order r head; size = head_size } in
      let p2 = next e head _ r.bymonth 27 12 sized.bymonth p1 in
      let p3 = next e _ _ r.bymonthday 39 62 sized.bymonthday p2 in
      let p4 = next e _ _ r.byyearday 101 732 sized.byyearday p3 in
      let p5 = next e _ _ r.byweekno 833 106 sized.byweekno p4 in
      let p6 = next e _ _ r.byday 939 749 sized.byday p5 in
      let p7 = next e _ _ r.byhour 1688 24 sized.byhour p6 in
      let p8 = next e _ _ r.byminute 1712 60 sized.byminute p7 in
      let p9 = next e _ _ r.bysecond 1772 60 sized.bysecond p8 in
      record_held e r is_record
      (record_read e r.freq r.interval r.count r.until r.wkst r.start (four_at e 5) (eight_at e 10)
      r.bymonth r.bymonthday r.byyearday r.byweekno r.byday r.byhour r.byminute r.bysecond r.bysetpos
      (sym (ap frequency (frequency_byte r.freq r.interval r.count r.until r.wkst r.start tail) ∙ frequency_back r.freq))
      (sym (interval_back r.freq r.interval r.count r.until r.wkst r.start tail))
      refl
      (sym ((λ d. count_from (count_byte r.freq r.interval r.count r.until r.wkst r.start tail d)
      (count_back r.freq r.interval r.count r.until r.wkst r.start tail d)) ∙ option_again r.count))
      refl
      (sym ((λ d. until_from (until_byte r.freq r.interval r.count r.until r.wkst r.start tail d)
      (until_back r.freq r.interval r.count r.until r.wkst r.start tail d)) ∙ option_again r.until))
      (sym (wkst_byte r.freq r.interval r.count r.until r.wkst r.start tail))
      (sym (start_back r.freq r.interval r.count r.until r.wkst r.start tail))
      (read e _ _ r.bymonth 27 12 sized.bymonth p1)
      (read e _ _ r.bymonthday 39 62 sized.bymonthday p2)
      (read e _ _ r.byyearday 101 732 sized.byyearday p3)
      (read e _ _ r.byweekno 833 106 sized.byweekno p4)
      (read e _ _ r.byday 939 749 sized.byday p5)
      (read e _ _ r.byhour 1688 24 sized.byhour p6)
      (read e _ _ r.byminute 1712 60 sized.byminute p7)
      (read e _ _ r.bysecond 1772 60 sized.bysecond p8)
      (read e _ _ r.bysetpos 1832 732 sized.bysetpos p9))

pub record_read_back : RecordReadBack
unfolding encode_record
record_read_back r sized = read_back r sized

-- a cursor
pub state_back : (s : State) → state_of (state_number s) ≡ s
unfolding state_of
state_back State.Running = refl
state_back (State.Ended Cause.Count) = refl
state_back (State.Ended Cause.Interval) = refl
state_back (State.Ended Cause.Until) = refl
state_back (State.Ended Cause.NoTick) = refl
state_back (State.Ended Cause.Range) = refl

state_known : (s : State) → leb (state_number s) 5 ≡ true
state_known State.Running = refl
state_known (State.Ended Cause.Count) = refl
state_known (State.Ended Cause.Interval) = refl
state_known (State.Ended Cause.Until) = refl
state_known (State.Ended Cause.NoTick) = refl
state_known (State.Ended Cause.Range) = refl

module _ (c : Cursor) where
  cursor_version_lem : get_or (encode_cursor c) 0 0 ≡ cursor_version
  unfolding encode_cursor
  cursor_version_lem = refl

  state_byte : get_or (encode_cursor c) 1 0 ≡ state_number c.state
  unfolding encode_cursor
  state_byte = refl

  cursor_size : length (encode_cursor c) ≡ 22
  unfolding encode_cursor
  cursor_size = refl

  k_back : eight_at (encode_cursor c) 2 ≡ c.k
  unfolding encode_cursor eight_at
  k_back = (λ i. four_back (c.k % 4294967296) i + 4294967296 * four_back (c.k / 4294967296) i) ∙ eight_read c.k

  place_back : four_at (encode_cursor c) 10 ≡ c.place
  unfolding encode_cursor four_at
  place_back = four_back c.place

  number_back : eight_at (encode_cursor c) 14 ≡ c.number
  unfolding encode_cursor eight_at
  number_back = (λ i. four_back (c.number % 4294967296) i + 4294967296 * four_back (c.number / 4294967296) i) ∙ eight_read c.number

pub cursor_read_back : CursorReadBack
cursor_read_back c =
    let e = encode_cursor c in
    let v : eqb (get_or e 0 0) cursor_version ≡ true = ap (λ (k : ℕ). eqb k cursor_version) (cursor_version_lem c) in
    let s : leb (get_or e 1 0) 5 ≡ true = ap (λ (k : ℕ). leb k 5) (state_byte c) ∙ state_known c.state in
    cursor_held e c (sym (cursor_judged e (cursor_size c)) ∙ (λ d. v d && s d))
    (cursor_read e c.state c.k c.place c.number (sym (ap state_of (state_byte c) ∙ state_back c.state)) (sym (k_back c)) (sym (place_back c)) (sym (number_back c)))
