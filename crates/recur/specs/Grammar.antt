-- The texts of rules: the RECUR value of RFC 5545, section 3.3.10, in the words of request 2026-04. A text is a list of bytes.
-- Assumes nothing.
use Rattle.std.specs.Prelude.{ℕ, zero, suc, ◌+◌, ◌*◌, ◌≡◌, Bool, true, false, ◌||◌, List, [], ◌∷◌, ◌++◌, map, set, get_or, eqb, ℤ, pos, negsuc, if◌then◌else◌, Option, Some, None}
use Rattle.calendar.specs.Calendar.{leap, month_length, day_of_date}
use Rattle.rule.specs.Instants.{instant}
use Rattle.rule.specs.Raw.{Raw, raw, raw_lists}
use Rattle.symbols.specs.Bytes.{bytes}
use Rattle.symbols.specs.Languages.{Byte, Spelled, Both, Followed, Perhaps, Turned, Joined}
use Rattle.symbols.specs.Counts.{Number, Three, Field}

-- ---- the words, in capitals; a part's name with its `=`

abbrev pub names : List (List ℕ)
names =
    bytes "FREQ=" ∷ bytes "INTERVAL=" ∷ bytes "COUNT=" ∷ bytes "UNTIL=" ∷ bytes "WKST=" ∷ bytes "BYMONTH=" ∷ bytes "BYMONTHDAY=" ∷ bytes "BYYEARDAY=" ∷
    bytes "BYWEEKNO=" ∷ bytes "BYDAY=" ∷ bytes "BYHOUR=" ∷ bytes "BYMINUTE=" ∷ bytes "BYSECOND=" ∷ bytes "BYSETPOS=" ∷ []

abbrev pub frequencies : List (List ℕ)
frequencies =
    bytes "YEARLY" ∷ bytes "MONTHLY" ∷ bytes "WEEKLY" ∷ bytes "DAILY" ∷ bytes "HOURLY" ∷ bytes "MINUTELY" ∷ bytes "SECONDLY" ∷ []

abbrev pub weekday_names : List (List ℕ)
weekday_names = bytes "MO" ∷ bytes "TU" ∷ bytes "WE" ∷ bytes "TH" ∷ bytes "FR" ∷ bytes "SA" ∷ bytes "SU" ∷ []

-- n words, none used up
unfoldable pub none_used : ℕ → List Bool
none_used zero = []
none_used (suc n) = false ∷ none_used n

abbrev pub Freq : ℕ → List ℕ → Type 0
Freq = Spelled frequencies (none_used 7)

abbrev pub Weekday : ℕ → List ℕ → Type 0
Weekday = Spelled weekday_names (none_used 7)

-- ---- numbers with a sign

abbrev pub plus : ℕ
plus = 43

abbrev pub minus : ℕ
minus = 45

abbrev pub is_sign : ℕ → Bool
is_sign b = eqb b plus || eqb b minus

-- a sign and a size as a number; -0 is 0
abbrev pub below : ℕ → ℤ
below zero = pos 0
below (suc n) = negsuc n

abbrev pub with_sign : Both ℕ ℕ → ℤ
with_sign v = if eqb v.first minus then below v.second else pos v.second

-- [ "+" / "-" ] 1*3DIGIT, of a size that is not below `low`
abbrev pub Signed : ℕ → ℤ → List ℕ → Type 0
Signed low = Turned (Both ℕ ℕ) ℤ with_sign (Followed ℕ ℕ (Perhaps ℕ plus (Byte is_sign)) (λ (s : ℕ). Three low))

-- an entry of a list of numbers: with `signs`, a sign may stand before it
abbrev pub Entry : Bool → ℤ → List ℕ → Type 0
Entry true = Signed 0
Entry false = Turned ℕ ℤ pos (Three 0)

-- an entry of BYDAY: [ [ "+" / "-" ] nonzero ] weekday; without a number it is every such weekday, n = 0
abbrev pub Day : Both ℤ ℕ → List ℕ → Type 0
Day = Followed ℤ ℕ (Perhaps ℤ (pos 0) (Signed 1)) (λ (n : ℤ). Weekday)

-- ---- lists: at most 749 entries, joined by commas

abbrev pub comma : ℕ
comma = 44

-- no entry hangs on those before
abbrev pub stays : {A : Type 0} → Unit {0} → A → Unit {0}
stays u a = u

abbrev pub ListOf : (A : Type 0) → (A → List ℕ → Type 0) → List A → List ℕ → Type 0
ListOf A L = Joined (Unit {0}) A stays (λ (u : Unit {0}). L) comma 748 tt

-- ---- a moment: year month day "T" hour minute second "Z"

-- The first year, of which every beginning of a date follows.
abbrev pub first_year : ℕ
first_year = 1970

abbrev pub Letter : ℕ → ℕ → List ℕ → Type 0
Letter c = Byte (eqb c)

-- hour minute second "Z", as seconds of the day and as they are read
abbrev pub Clock : Type 0
Clock = Both ℕ (Both ℕ (Both ℕ ℕ))

abbrev pub clock_seconds : Clock → ℕ
clock_seconds k = k.first * 3600 + k.second.first * 60 + k.second.second.first

abbrev pub Time : Clock → List ℕ → Type 0
Time =
    Followed ℕ (Both ℕ (Both ℕ ℕ)) (Field 2 0 23) (λ (h : ℕ).
    Followed ℕ (Both ℕ ℕ) (Field 2 0 59) (λ (m : ℕ).
    Followed ℕ ℕ (Field 2 0 59) (λ (s : ℕ). Letter 90)))

-- year month day "T"
abbrev pub Calendar : Type 0
Calendar = Both ℕ (Both ℕ (Both ℕ ℕ))

abbrev pub Date : Calendar → List ℕ → Type 0
Date =
    Followed ℕ (Both ℕ (Both ℕ ℕ)) (Field 4 first_year 9999) (λ (y : ℕ).
    Followed ℕ (Both ℕ ℕ) (Field 2 1 12) (λ (m : ℕ).
    Followed ℕ ℕ (Field 2 1 (month_length (leap y) m)) (λ (d : ℕ). Letter 84)))

abbrev pub day_number : Calendar → ℕ
day_number c = day_of_date c.first c.second.first c.second.second.first

abbrev pub moment_of : Both Calendar Clock → ℕ
moment_of v = instant (day_number v.first * 86400 + clock_seconds v.second)

abbrev pub Moment : ℕ → List ℕ → Type 0
Moment = Turned (Both Calendar Clock) ℕ moment_of (Followed Calendar Clock Date (λ (c : Calendar). Time))

-- ---- parts

-- What stands behind a part's name.
pub data Value : Type 0 where
  absent : Value
  number : ℕ → Value
  numbers : List ℤ → Value
  days : List (Both ℤ ℕ) → Value

-- a part: its name's number, and its value
abbrev pub Part : Type 0
Part = Both ℕ Value

-- What stands behind a name: a word, a number of one digit or more up to a highest, a moment, numbers with or without signs, or days.
pub data Kind : Type 0 where
  frequency : Kind
  up_to_high : ℕ → Kind
  moment : Kind
  weekday : Kind
  entries : Bool → Kind
  day_entries : Kind

-- in the names' order
abbrev pub kinds : List Kind
kinds =
    frequency ∷
    up_to_high 65535 ∷
    up_to_high 4294967295 ∷
    moment ∷
    weekday ∷
    entries false ∷
    entries true ∷
    entries true ∷
    entries true ∷
    day_entries ∷
    entries false ∷
    entries false ∷
    entries false ∷
    entries true ∷
    []

abbrev pub kind_of : ℕ → Kind
kind_of i = get_or kinds i frequency

abbrev pub ValueText : Kind → Value → List ℕ → Type 0
ValueText frequency = Turned ℕ Value number Freq
ValueText (up_to_high high) = Turned ℕ Value number (Number high)
ValueText moment = Turned ℕ Value number Moment
ValueText weekday = Turned ℕ Value number Weekday
ValueText (entries signs) = Turned (List ℤ) Value numbers (ListOf ℤ (Entry signs))
ValueText day_entries = Turned (List (Both ℤ ℕ)) Value days (ListOf (Both ℤ ℕ) Day)

-- A part: a name that is not used up, with its `=`, and what stands behind it.
abbrev pub PartText : List Bool → Part → List ℕ → Type 0
PartText seen = Followed ℕ Value (Spelled names seen) (λ (i : ℕ). ValueText (kind_of i))

-- the names that are used up behind a part
abbrev pub with_used : List Bool → Part → List Bool
with_used seen p = set seen p.first true

abbrev pub semicolon : ℕ
semicolon = 59

-- Parts joined by semicolons, no name twice: there are fourteen names.
abbrev pub Parts : List Part → List ℕ → Type 0
Parts = Joined (List Bool) Part with_used PartText semicolon 13 (none_used 14)

-- ---- the rule that parts say

-- the value behind a name
unfoldable pub value_in : ℕ → List Part → Value
value_in i [] = absent
value_in i (p ∷ ps) = if eqb p.first i then p.second else value_in i ps

abbrev pub number_or : ℕ → Value → ℕ
number_or none absent = none
number_or none (number n) = n
number_or none (numbers vs) = none
number_or none (days ds) = none

abbrev pub as_count : Value → Option ℕ
as_count absent = None
as_count (number n) = Some n
as_count (numbers vs) = None
as_count (days ds) = None

abbrev pub as_until : Value → Option ℕ
as_until absent = None
as_until (number t) = Some t
as_until (numbers vs) = None
as_until (days ds) = None

abbrev pub as_list : Value → List ℤ
as_list absent = []
as_list (number n) = []
as_list (numbers vs) = vs
as_list (days ds) = []

abbrev pub as_days : Value → List (Both ℤ ℕ)
as_days absent = []
as_days (number n) = []
as_days (numbers vs) = []
as_days (days ds) = ds

abbrev pub nth_of : Both ℤ ℕ → ℤ
nth_of d = d.first

abbrev pub weekday_of : Both ℤ ℕ → ℤ
weekday_of d = pos d.second

-- The rule of a value for each name: INTERVAL is 1 and the week start Monday where they are absent. The start is 0: a text has none.
unfoldable pub rule_by : (ℕ → Value) → Raw
rule_by v =
    raw (number_or 0 (v 0)) (number_or 1 (v 1)) (as_count (v 2)) (as_until (v 3)) (number_or 0 (v 4)) 0
    (raw_lists (as_list (v 5)) (as_list (v 6)) (as_list (v 7)) (as_list (v 8)) (map nth_of (as_days (v 9))) (map weekday_of (as_days (v 9)))
    (as_list (v 10)) (as_list (v 11)) (as_list (v 12)) (as_list (v 13)))

unfoldable pub rule_of : List Part → Raw
unfolding value_in rule_by
rule_of ps = rule_by (λ i. value_in i ps)

abbrev pub is_there : Value → Bool
is_there absent = false
is_there (number n) = true
is_there (numbers vs) = true
is_there (days ds) = true

-- A good text and its rule: its parts, with FREQ among them.
pub record Good (bs : List ℕ) (w : Raw) : Type 0 where
  pub parts : List Part
  pub joined : Parts parts bs
  pub freq_there : is_there (value_in 0 parts) ≡ true
  pub rule : w ≡ rule_of parts

-- some good text, of any length, begins so
pub record Begins (bs : List ℕ) : Type 0 where
  pub more : List ℕ
  pub rule : Raw
  pub good : Good (bs ++ more) rule
