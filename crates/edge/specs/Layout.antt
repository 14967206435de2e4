-- How a record and a cursor stand in bytes, and which bytes are one. The layout is this crate's own: callers keep the bytes as they are.
-- Assumes nothing.
use Rattle.std.specs.Prelude.{ℕ, Bool, ◌&&◌, ◌||◌, List, ◌∷◌, ◌++◌, eqb, leb, length, get_or, drop, if◌then◌else◌, Option, Some, None}
use Rattle.machine.specs.declared.Cause.{Cause}
use Rattle.machine.specs.declared.State.{State}
use Rattle.machine.specs.declared.Cursor.{Cursor}
use Rattle.rule.specs.declared.rrule.Frequency.{Frequency}
use Rattle.rule.specs.declared.rrule.Rule.{Rule}
use Rattle.rule.specs.Filling.{frequency_number, frequency}
use Rattle.edge.specs.Bytes.{two_at, four_at, eight_at, two, four, eight, are_flags, flags_at, flag_bytes}

-- COUNT and UNTIL are a tag and a number: 0 and 0 where absent, 1 and the number where given.
abbrev pub tag_of : Option ℕ → ℕ
tag_of None = 0
tag_of (Some n) = 1

abbrev pub number_of : Option ℕ → ℕ
number_of None = 0
number_of (Some n) = n

-- Read back: a tag of 0 is absent, any other is given. The contract of yomaveludge_check has a name for each of the two.
abbrev pub option_of : {A : Type 0} → ℕ → A → Option A
option_of tag x = if eqb tag 0 then None else Some x

abbrev pub count_from : (tag number : ℕ) → Option ℕ
count_from tag n = option_of tag n

abbrev pub until_from : (tag number : ℕ) → Option ℕ
until_from tag t = option_of tag t

-- a tag and a number that are written of something: no tag but 0 and 1, and no number behind 0
abbrev pub is_tagged : (tag number : ℕ) → Bool
is_tagged tag n = eqb tag 1 || (eqb tag 0 && eqb n 0)

-- A record has 2564 bytes. First the version (0), and 26 more: the frequency (1), INTERVAL (2, 3), COUNT (4 to 8), UNTIL (9 to 17), the week start (18),
-- the start (19 to 26).
abbrev pub record_length : ℕ
record_length = 2564

-- The version of a record's bytes. It goes up with each change of what they are or mean, so that bytes of another version are refused and not misread.
abbrev pub record_version : ℕ
record_version = 1

unfoldable pub head_bytes : Frequency → ℕ → Option ℕ → Option ℕ → (wkst start : ℕ) → List ℕ
unfolding two four eight
head_bytes freq interval count until wkst start =
    frequency_number freq ∷ (two interval
    ++ (tag_of count ∷ (four (number_of count)
    ++ (tag_of until ∷ (eight (number_of until)
    ++ (wkst ∷ eight start))))))

-- Then one byte for each flag of each set: BYMONTH from 27 on, BYMONTHDAY from 39, BYYEARDAY from 101, BYWEEKNO from 833, BYDAY from 939, BYHOUR from
-- 1688, BYMINUTE from 1712, BYSECOND from 1772, BYSETPOS from 1832.
unfoldable pub day_bytes : Rule → List ℕ
day_bytes r =
    flag_bytes r.bymonth ++ (flag_bytes r.bymonthday ++ (flag_bytes r.byyearday ++ (flag_bytes r.byweekno ++ flag_bytes r.byday)))

unfoldable pub time_bytes : Rule → List ℕ
time_bytes r = flag_bytes r.byhour ++ (flag_bytes r.byminute ++ (flag_bytes r.bysecond ++ flag_bytes r.bysetpos))

unfoldable pub encode_record : Rule → List ℕ
unfolding head_bytes day_bytes time_bytes
encode_record r =
    record_version ∷ (head_bytes r.freq r.interval r.count r.until r.wkst r.start ++ (day_bytes r ++ time_bytes r))

-- the record that such bytes hold
unfoldable pub record_in : List ℕ → Rule
unfolding two_at four_at eight_at flags_at frequency
record_in bytes = record {
  freq = frequency (get_or bytes 1 0);
  interval = two_at bytes 2;
  count = count_from (get_or bytes 4 0) (four_at bytes 5);
  until = until_from (get_or bytes 9 0) (eight_at bytes 10);
  wkst = get_or bytes 18 0;
  start = eight_at bytes 19;
  bymonth = flags_at bytes 27 12;
  bymonthday = flags_at bytes 39 62;
  byyearday = flags_at bytes 101 732;
  byweekno = flags_at bytes 833 106;
  byday = flags_at bytes 939 749;
  byhour = flags_at bytes 1688 24;
  byminute = flags_at bytes 1712 60;
  bysecond = flags_at bytes 1772 60;
  bysetpos = flags_at bytes 1832 732;
}

-- Bytes of a record: the length, the version, a frequency that exists, two tags with their numbers, and flags to the end.
unfoldable pub is_record_bytes : List ℕ → Bool
unfolding four_at eight_at are_flags
is_record_bytes bytes =
    eqb (length bytes) record_length
    && (eqb (get_or bytes 0 0) record_version
    && (leb (get_or bytes 1 0) 6
    && (is_tagged (get_or bytes 4 0) (four_at bytes 5)
    && (is_tagged (get_or bytes 9 0) (eight_at bytes 10)
    && are_flags (drop 27 bytes)))))

-- what bytes hold: a record, or none
unfoldable pub decode_record : List ℕ → Option Rule
decode_record bytes = if is_record_bytes bytes then Some (record_in bytes) else None

-- A cursor has 22 bytes: the version (0), its state (1), k (2 to 9), the place (10 to 13), the number handed out (14 to 21). A state is 0 where running,
-- else the number of its cause.
abbrev pub cursor_length : ℕ
cursor_length = 22

-- The version of a cursor's bytes, which goes up likewise: also where the layout stays and k, place or number come to mean something else.
abbrev pub cursor_version : ℕ
cursor_version = 2

abbrev pub cause_number : Cause → ℕ
cause_number Cause.Count = 1
cause_number Cause.Interval = 2
cause_number Cause.Until = 3
cause_number Cause.NoTick = 4
cause_number Cause.Range = 5

abbrev pub state_number : State → ℕ
state_number State.Running = 0
state_number (State.Ended cause) = cause_number cause

unfoldable pub encode_cursor : Cursor → List ℕ
unfolding four eight
encode_cursor c = cursor_version ∷ (state_number c.state ∷ (eight c.k ++ (four c.place ++ eight c.number)))

-- a number above 5 is refused before it is asked for
unfoldable pub state_of : ℕ → State
state_of n =
    if eqb n 0 then State.Running
    else if eqb n 1 then State.Ended Cause.Count
    else if eqb n 2 then State.Ended Cause.Interval
    else if eqb n 3 then State.Ended Cause.Until
    else if eqb n 4 then State.Ended Cause.NoTick
    else State.Ended Cause.Range

unfoldable pub cursor_in : List ℕ → Cursor
unfolding four_at eight_at state_of
cursor_in bytes =
    record { state = state_of (get_or bytes 1 0); k = eight_at bytes 2; place = four_at bytes 10; number = eight_at bytes 14 }

unfoldable pub is_cursor_bytes : List ℕ → Bool
is_cursor_bytes bytes = eqb (length bytes) cursor_length && (eqb (get_or bytes 0 0) cursor_version && leb (get_or bytes 1 0) 5)

unfoldable pub decode_cursor : List ℕ → Option Cursor
decode_cursor bytes = if is_cursor_bytes bytes then Some (cursor_in bytes) else None
