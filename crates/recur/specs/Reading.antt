-- How a text is read: a reader for each symbol of the grammar.
-- Assumes nothing.
use Rattle.std.specs.Prelude.{ℕ, Bool, true, false, ◌&&◌, ◌||◌, List, [], ◌∷◌, length, eqb, ltb, ℤ, pos, if◌then◌else◌, Result, Ok, Err}
use Rattle.calendar.specs.Calendar.{leap, month_length}
use Rattle.rule.specs.Raw.{Raw}
use Rattle.symbols.specs.Languages.{is_digit, Both, both}
use Rattle.symbols.specs.Takes.{Took}
use Rattle.symbols.specs.Readers.{digits, byte, word, followed, perhaps, turned, joined}
use Rattle.symbols.specs.Counts.{up_to, three, field}
use Rattle.recur.specs.Grammar.{names, frequencies, weekday_names, none_used, plus, is_sign, with_sign, comma, stays, first_year, Clock}
use Rattle.recur.specs.Grammar.{Calendar, moment_of, Value, absent, number, numbers, days, Part, Kind, frequency, up_to_high}
use Rattle.recur.specs.Grammar.{moment, weekday, entries, day_entries, kind_of, with_used, semicolon, value_in, rule_of, is_there}

abbrev pub freq_at : ℕ → List ℕ → Took ℕ
freq_at = word frequencies (none_used 7)

abbrev pub weekday_at : ℕ → List ℕ → Took ℕ
weekday_at = word weekday_names (none_used 7)

-- a sign, or plus where there is none
abbrev pub sign_at : ℕ → List ℕ → Took ℕ
sign_at = perhaps is_sign plus (byte is_sign)

abbrev pub signed_at : ℕ → ℕ → List ℕ → Took ℤ
signed_at low = turned with_sign (followed sign_at (λ (s : ℕ). digits (three low) 0 0) 0)

unfoldable pub entry_at : Bool → ℕ → List ℕ → Took ℤ
entry_at true = signed_at 0
entry_at false = turned pos (digits (three 0) 0 0)

-- a number before a weekday begins with a digit or a sign
abbrev pub is_numbered : ℕ → Bool
is_numbered b = is_digit b || is_sign b

abbrev pub nth_at : ℕ → List ℕ → Took ℤ
nth_at = perhaps is_numbered (pos 0) (signed_at 1)

unfoldable pub day_at : ℕ → List ℕ → Took (Both ℤ ℕ)
day_at = followed nth_at (λ (n : ℤ). weekday_at) 0

-- entries joined by commas, n more at most behind the first
unfoldable pub entries_at : Bool → ℕ → ℕ → List ℕ → Took (List ℤ)
unfolding entry_at
entries_at signs n = joined (λ (u : Unit {0}). entry_at signs) stays comma n tt

unfoldable pub days_at : ℕ → ℕ → List ℕ → Took (List (Both ℤ ℕ))
unfolding day_at
days_at n = joined (λ (u : Unit {0}). day_at) stays comma n tt

abbrev pub letter_at : ℕ → ℕ → List ℕ → Took ℕ
letter_at c = byte (eqb c)

abbrev pub field_at : ℕ → ℕ → ℕ → ℕ → List ℕ → Took ℕ
field_at k low high = digits (field k low high) 0 0

unfoldable pub time_at : ℕ → List ℕ → Took Clock
time_at =
    followed (field_at 2 0 23) (λ (h : ℕ).
    followed (field_at 2 0 59) (λ (m : ℕ).
    followed (field_at 2 0 59) (λ (s : ℕ). letter_at 90) 0) (both 0 0)) (both 0 (both 0 0))

unfoldable pub date_at : ℕ → List ℕ → Took Calendar
date_at =
    followed (field_at 4 first_year 9999) (λ (y : ℕ).
    followed (field_at 2 1 12) (λ (m : ℕ).
    followed (field_at 2 1 (month_length (leap y) m)) (λ (d : ℕ). letter_at 84) 0) (both 0 0)) (both 0 (both 0 0))

unfoldable pub moment_at : ℕ → List ℕ → Took ℕ
unfolding time_at date_at
moment_at = turned moment_of (followed date_at (λ (c : Calendar). time_at) (both 0 (both 0 (both 0 0))))

abbrev pub value_at : Kind → ℕ → List ℕ → Took Value
value_at frequency = turned number freq_at
value_at (up_to_high high) = turned number (digits (up_to high) 0 0)
value_at moment = turned number moment_at
value_at weekday = turned number weekday_at
value_at (entries signs) = turned numbers (entries_at signs 748)
value_at day_entries = turned days (days_at 748)

-- a part whose name isn't used up
unfoldable pub part_at : List Bool → ℕ → List ℕ → Took Part
unfolding moment_at entries_at days_at
part_at seen = followed (word names seen) (λ (i : ℕ). value_at (kind_of i)) absent

-- parts joined by semicolons, n more at most behind the first
unfoldable pub parts_at : ℕ → List Bool → ℕ → List ℕ → Took (List Part)
unfolding part_at
parts_at n seen = joined part_at with_used semicolon n seen

-- What a text is read as: its rule, or the place where it is refused.
abbrev pub Read : Type 0
Read = Result Raw ℕ

abbrev pub is_none : List ℕ → Bool
is_none [] = true
is_none (b ∷ bs) = false

-- the parts are whole, nothing is left, and FREQ is among them
abbrev pub is_whole : Took (List Part) → Bool
is_whole k = k.whole && (is_none k.rest && is_there (value_in 0 k.value))

abbrev pub judged : Took (List Part) → Read
judged k = if is_whole k then Ok (rule_of k.value) else Err k.place

abbrev pub longest : ℕ
longest = 16384

unfoldable pub read_of : List ℕ → Read
unfolding parts_at
read_of t = elim (ltb longest (length t)) [ true ↦ Err longest | false ↦ judged (parts_at 13 (none_used 14) 0 t) ]
