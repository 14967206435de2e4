-- When the panel says no: the refusals of the check. The lowest number that applies is given, and none otherwise.
-- Assumes nothing.
use Rattle.std.specs.Prelude.{ℕ, Bool, true, false, not, ◌&&◌, ◌||◌, List, [], ◌∷◌, length, eqb, ltb, ℤ, pos, negsuc, Option, Some, None, Result, Ok, Err}
use Rattle.std.specs.Int.Signed.{lt_z}
use Rattle.rule.specs.declared.rrule.Range.{Range}
use Rattle.rule.specs.declared.rrule.Refusal.{Refusal}
use Rattle.rule.specs.Instants.{last_instant}
use Rattle.rule.specs.Lists.{months, monthdays, yeardays, weeknos, nths, weekdays, hours, minutes, seconds, positions, slot_of}
use Rattle.rule.specs.Raw.{RawLists, Raw}

abbrev pub refusal_number : Refusal → ℕ
refusal_number Refusal.FrequencyAbove = 1
refusal_number Refusal.WeekStartAbove = 2
refusal_number Refusal.StartOut = 3
refusal_number Refusal.UntilOut = 4
refusal_number Refusal.EntryOut = 5
refusal_number Refusal.NotRising = 6
refusal_number Refusal.MixedDays = 7
refusal_number Refusal.NthMisplaced = 8
refusal_number Refusal.PositionsAlone = 9
refusal_number Refusal.Nought = 10
refusal_number Refusal.CountAndUntil = 11
refusal_number Refusal.ListMisplaced = 12

-- in the table's order
abbrev pub refusals : List Refusal
refusals =
    Refusal.FrequencyAbove ∷
    Refusal.WeekStartAbove ∷
    Refusal.StartOut ∷
    Refusal.UntilOut ∷
    Refusal.EntryOut ∷
    Refusal.NotRising ∷
    Refusal.MixedDays ∷
    Refusal.NthMisplaced ∷
    Refusal.PositionsAlone ∷
    Refusal.Nought ∷
    Refusal.CountAndUntil ∷
    Refusal.ListMisplaced ∷
    []

-- UNTIL out of range
abbrev pub until_out : Option ℕ → Bool
until_out None = false
until_out (Some t) = ltb last_instant t

abbrev pub lacks : List ℤ → Bool
lacks [] = true
lacks (x ∷ xs) = false

-- some entry of a list passes a test
unfoldable pub some : {A : Type 0} → (A → Bool) → List A → Bool
some p [] = false
some p (x ∷ xs) = p x || some p xs

-- a list entry outside its range, zero included where the range excludes it
abbrev pub is_outside : Option ℕ → Bool
is_outside (Some i) = false
is_outside None = true

abbrev pub stray_in : Range → ℤ → Bool
stray_in g x = is_outside (slot_of g x)

unfoldable pub strays : Range → List ℤ → Bool
unfolding slot_of some
strays g l = some (stray_in g) l

-- of BYDAY: also an entry that lacks a half
unfoldable pub entry_out : RawLists → Bool
unfolding strays
entry_out l =
    strays months l.bymonth
    || strays monthdays l.bymonthday
    || strays yeardays l.byyearday
    || strays weeknos l.byweekno
    || not (eqb (length l.bydayn) (length l.bydayw))
    || strays nths l.bydayn
    || strays weekdays l.bydayw
    || strays hours l.byhour
    || strays minutes l.byminute
    || strays seconds l.bysecond
    || strays positions l.bysetpos

-- a list rises strictly from a value on; BYDAY by n, then weekday
unfoldable pub rises_from : ℤ → List ℤ → Bool
rises_from a [] = true
rises_from a (x ∷ xs) = elim (lt_z a x) [ true ↦ rises_from x xs | false ↦ false ]

unfoldable pub rises : List ℤ → Bool
unfolding rises_from
rises [] = true
rises (x ∷ xs) = rises_from x xs

abbrev pub pair_below : ℤ → ℤ → ℤ → ℤ → Bool
pair_below n w m v = lt_z n m || (not (lt_z m n) && lt_z w v)

unfoldable pub pairs_rise_from : ℤ → ℤ → List ℤ → List ℤ → Bool
pairs_rise_from n w [] ws = true
pairs_rise_from n w (m ∷ ns) [] = true
pairs_rise_from n w (m ∷ ns) (v ∷ ws) = elim (pair_below n w m v) [ true ↦ pairs_rise_from m v ns ws | false ↦ false ]

unfoldable pub pairs_rise : List ℤ → List ℤ → Bool
unfolding pairs_rise_from
pairs_rise [] ws = true
pairs_rise (n ∷ ns) [] = true
pairs_rise (n ∷ ns) (w ∷ ws) = pairs_rise_from n w ns ws

-- a list doesn't rise strictly
unfoldable pub not_rising : RawLists → Bool
unfolding rises pairs_rise
not_rising l =
    not (rises l.bymonth)
    || not (rises l.bymonthday)
    || not (rises l.byyearday)
    || not (rises l.byweekno)
    || not (pairs_rise l.bydayn l.bydayw)
    || not (rises l.byhour)
    || not (rises l.byminute)
    || not (rises l.bysecond)
    || not (rises l.bysetpos)

-- BYDAY has entries with n = 0; it has entries with n not 0
abbrev pub is_zero : ℤ → Bool
is_zero (pos n) = eqb n 0
is_zero (negsuc n) = false

abbrev pub is_nth : ℤ → Bool
is_nth n = not (is_zero n)

unfoldable pub some_every : List ℤ → Bool
unfolding some
some_every ns = some is_zero ns

unfoldable pub some_nth : List ℤ → Bool
unfolding some
some_nth ns = some is_nth ns

-- BYDAY has entries with n = 0 and with n not 0
unfoldable pub mixed_days : RawLists → Bool
unfolding some_every some_nth
mixed_days l = some_every l.bydayn && some_nth l.bydayn

-- n not 0 in BYDAY, while BYWEEKNO is present or frequency is neither YEARLY nor MONTHLY
unfoldable pub nth_misplaced : ℕ → RawLists → Bool
unfolding some_nth
nth_misplaced freq l = some_nth l.bydayn && (not (lacks l.byweekno) || ltb 1 freq)

-- BYSETPOS present and every other BY list empty, before filling in
abbrev pub positions_alone : RawLists → Bool
positions_alone l =
    not (lacks l.bysetpos)
    && (lacks l.bymonth && (lacks l.bymonthday && (lacks l.byyearday && (lacks l.byweekno
    && (lacks l.bydayn && (lacks l.bydayw && (lacks l.byhour && (lacks l.byminute && lacks l.bysecond))))))))

-- INTERVAL or COUNT is 0: an absent COUNT is no zero
abbrev pub count_nought : Option ℕ → Bool
count_nought None = false
count_nought (Some n) = eqb n 0

abbrev pub nought : ℕ → Option ℕ → Bool
nought interval count = eqb interval 0 || count_nought count

-- COUNT and UNTIL are both present
abbrev pub has_count : Option ℕ → Bool
has_count None = false
has_count (Some n) = true

abbrev pub count_and_until : Option ℕ → Option ℕ → Bool
count_and_until count None = false
count_and_until count (Some t) = has_count count

-- BYWEEKNO outside YEARLY, BYYEARDAY with DAILY, WEEKLY or MONTHLY, BYMONTHDAY with WEEKLY: by the frequency's number, and which lists are present
abbrev pub misplaces : (freq : ℕ) (weeknos yeardays monthdays : Bool) → Bool
misplaces freq weeknos yeardays monthdays =
    weeknos && not (eqb freq 0)
    || yeardays && (eqb freq 3 || (eqb freq 2 || eqb freq 1))
    || monthdays && eqb freq 2

abbrev pub list_misplaced : ℕ → RawLists → Bool
list_misplaced freq l = misplaces freq (not (lacks l.byweekno)) (not (lacks l.byyearday)) (not (lacks l.bymonthday))

-- The table: each row judged by itself on the rule as given.
abbrev pub applies : Refusal → Raw → Bool
applies Refusal.FrequencyAbove w = ltb 6 w.freq
applies Refusal.WeekStartAbove w = ltb 6 w.wkst
applies Refusal.StartOut w = ltb last_instant w.start
applies Refusal.UntilOut w = until_out w.until
applies Refusal.EntryOut w = entry_out w.lists
applies Refusal.NotRising w = not_rising w.lists
applies Refusal.MixedDays w = mixed_days w.lists
applies Refusal.NthMisplaced w = nth_misplaced w.freq w.lists
applies Refusal.PositionsAlone w = positions_alone w.lists
applies Refusal.Nought w = nought w.interval w.count
applies Refusal.CountAndUntil w = count_and_until w.count w.until
applies Refusal.ListMisplaced w = list_misplaced w.freq w.lists

-- what the check says: it takes the rule, or refuses it
abbrev pub Verdict : Type 0
Verdict = Result (Unit {0}) Refusal

-- the first refusal that passes a test
unfoldable pub first_of : (Refusal → Bool) → List Refusal → Verdict
first_of p [] = Ok tt
first_of p (n ∷ ns) = elim (p n) [ true ↦ Err n | false ↦ first_of p ns ]

-- The lowest number that applies is given, and none otherwise (Claims, LowestGiven and NoneGiven).
unfoldable pub verdict : Raw → Verdict
unfolding first_of entry_out not_rising mixed_days nth_misplaced
verdict w = first_of (λ n. applies n w) refusals
