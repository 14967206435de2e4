-- How a rule is written: one text, its parts in the record's order, in capitals, with what goes without saying left out.
-- Assumes nothing.
use Rattle.std.specs.Prelude.{ℕ, zero, suc, ◌+◌, ◌/◌, ◌%◌, Bool, true, false, List, [], ◌∷◌, ◌++◌, map, length, eqb, leb, ltb, ℤ, pos, negsuc, if◌then◌else◌, Option, Some, None, Result, Ok, Err}
use Rattle.std.proofs.lemmas.List.Edits.{sets}
use Rattle.calendar.specs.Calendar.{date_of}
use Rattle.calendar.specs.declared.utils.Date.{Date}
use Rattle.rule.specs.Instants.{second, day_of, hour_of, minute_of, second_of}
use Rattle.rule.specs.Raw.{RawLists, Raw}
use Rattle.rule.specs.Refusals.{verdict}
use Rattle.symbols.specs.Languages.{Both, both, word_at}
use Rattle.recur.specs.declared.Unwritten.{Unwritten}
use Rattle.recur.specs.Grammar.{names, frequencies, weekday_names, minus, comma, semicolon, Value, absent, number, numbers}
use Rattle.recur.specs.Grammar.{days, Part, Kind, frequency, up_to_high, moment, weekday, entries, day_entries, kind_of}

-- ---- numbers

-- a number in digits without zeros in front; k is more digits than any number here has
unfoldable pub decimal_within : ℕ → ℕ → List ℕ
decimal_within zero n = []
decimal_within (suc k) n = elim (ltb n 10) [ true ↦ (48 + n) ∷ [] | false ↦ decimal_within k (n / 10) ++ (48 + n % 10) ∷ [] ]

abbrev pub decimal : ℕ → List ℕ
decimal n = decimal_within 20 n

-- a number in k digits
unfoldable pub padded : ℕ → ℕ → List ℕ
padded zero n = []
padded (suc k) n = padded k (n / 10) ++ (48 + n % 10) ∷ []

-- a number of a list, or before a weekday
unfoldable pub signed_text : ℤ → List ℕ
unfolding decimal_within
signed_text (pos n) = decimal n
signed_text (negsuc n) = minus ∷ decimal (suc n)

-- every such weekday is the weekday alone; the first is 1 and the weekday
abbrev pub nth_text : ℤ → List ℕ
nth_text (pos zero) = []
nth_text (pos (suc n)) = signed_text (pos (suc n))
nth_text (negsuc n) = signed_text (negsuc n)

unfoldable pub day_text : Both ℤ ℕ → List ℕ
unfolding signed_text
day_text d = nth_text d.first ++ word_at weekday_names d.second

-- ---- moments

abbrev pub date_text : Date → List ℕ
date_text d = padded 4 d.year ++ (padded 2 d.month ++ padded 2 d.day)

abbrev pub clock_text : ℕ → List ℕ
clock_text s = padded 2 (hour_of s) ++ (padded 2 (minute_of s) ++ padded 2 (second_of s))

unfoldable pub moment_text : ℕ → List ℕ
unfolding padded
moment_text t = date_text (date_of (day_of (second t))) ++ (84 ∷ (clock_text (second t) ++ (90 ∷ [])))

-- ---- parts

-- texts with a byte between each two
unfoldable pub joined_by : ℕ → List (List ℕ) → List ℕ
joined_by c [] = []
joined_by c (t ∷ []) = t
joined_by c (t ∷ (u ∷ us)) = t ++ c ∷ joined_by c (u ∷ us)

abbrev pub number_text : Kind → ℕ → List ℕ
number_text frequency n = word_at frequencies n
number_text (up_to_high high) n = decimal n
number_text moment n = moment_text n
number_text weekday n = word_at weekday_names n
number_text (entries signs) n = []
number_text day_entries n = []

unfoldable pub value_text : Kind → Value → List ℕ
unfolding decimal_within moment_text joined_by day_text
value_text k absent = []
value_text k (number n) = number_text k n
value_text k (numbers vs) = joined_by comma (map signed_text vs)
value_text k (days ds) = joined_by comma (map day_text ds)

unfoldable pub part_text : Part → List ℕ
unfolding value_text
part_text p = word_at names p.first ++ value_text (kind_of p.first) p.second

-- ---- which parts are written

-- a part that is left out, where a test says so
abbrev pub unless : Bool → Part → List Part
unless true p = []
unless false p = p ∷ []

abbrev pub count_part : Option ℕ → List Part
count_part None = []
count_part (Some n) = both 2 (number n) ∷ []

abbrev pub until_part : Option ℕ → List Part
until_part None = []
until_part (Some t) = both 3 (number t) ∷ []

abbrev pub list_part : ℕ → List ℤ → List Part
list_part i [] = []
list_part i (v ∷ vs) = both i (numbers (v ∷ vs)) ∷ []

-- BYDAY's two lists as pairs; a weekday's number has no sign
abbrev pub weekday_number : ℤ → ℕ
weekday_number (pos n) = n
weekday_number (negsuc n) = 0

unfoldable pub paired : List ℤ → List ℤ → List (Both ℤ ℕ)
paired [] ws = []
paired (n ∷ ns) [] = []
paired (n ∷ ns) (w ∷ ws) = both n (weekday_number w) ∷ paired ns ws

abbrev pub day_part : List (Both ℤ ℕ) → List Part
day_part [] = []
day_part (d ∷ ds) = both 9 (days (d ∷ ds)) ∷ []

abbrev pub list_parts : RawLists → List Part
list_parts l =
    list_part 5 l.bymonth
    ++ (list_part 6 l.bymonthday
    ++ (list_part 7 l.byyearday
    ++ (list_part 8 l.byweekno
    ++ (day_part (paired l.bydayn l.bydayw)
    ++ (list_part 10 l.byhour
    ++ (list_part 11 l.byminute
    ++ (list_part 12 l.bysecond
    ++ list_part 13 l.bysetpos)))))))

-- FREQ is always there; INTERVAL=1 and WKST=MO go without saying
unfoldable pub parts_of : Raw → List Part
unfolding paired
parts_of w =
    both 0 (number w.freq)
    ∷ (unless (eqb w.interval 1) (both 1 (number w.interval))
    ++ (count_part w.count
    ++ (until_part w.until
    ++ (unless (eqb w.wkst 0) (both 4 (number w.wkst))
    ++ list_parts w.lists))))

unfoldable pub text_of : Raw → List ℕ
unfolding parts_of part_text joined_by
text_of w = joined_by semicolon (map part_text (parts_of w))

-- ---- what the writer answers: the text's length, or why none is written

abbrev pub Written : Type 0
Written = Result ℕ Unwritten

-- The rule has start 0; first the check, then the length.
abbrev pub fitted : ℕ → ℕ → Written
fitted needed room = if leb needed room then Ok needed else Err (Unwritten.Short needed)

unfoldable pub written_of : Raw → ℕ → Written
unfolding text_of
written_of w room = elim (verdict w) [ Err n ↦ Err (Unwritten.Refused n) | Ok tt ↦ fitted (length (text_of w)) room ]

-- what stands in the buffer then: the text in its first bytes; every byte as it was where nothing is written
abbrev pub left_by : Written → List ℕ → List ℕ → List ℕ
left_by (Ok n) t buffer = sets buffer 0 t
left_by (Err e) t buffer = buffer

unfoldable pub text_left : Raw → List ℕ → List ℕ
unfolding written_of
text_left w buffer = left_by (written_of w (length buffer)) (text_of w) buffer
