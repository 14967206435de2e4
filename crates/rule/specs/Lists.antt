-- The lists of a rule: their ranges, and the sets that a record holds of them. A set is reached only through "is v in it" and "is it empty".
-- Assumes nothing.
use Rattle.std.specs.Prelude.{ℕ, zero, suc, ◌+◌, ◌-◌, ◌*◌, Bool, true, false, ◌||◌, List, [], ◌∷◌, get_or, set, eqb, leb, ℤ, pos, negsuc, if◌then◌else◌, Option, Some, None}
use Rattle.rule.specs.declared.rrule.Range.{Range}

-- A range has the values -negatives..-1, then 0 if zeroin says so, then 1..positives. The ranges 0..n; 1..n; ±1..n; -n..n
abbrev pub from_zero : ℕ → Range
from_zero n = record { negatives = 0; zeroin = true; positives = n }

abbrev pub from_one : ℕ → Range
from_one n = record { negatives = 0; zeroin = false; positives = n }

abbrev pub either_way : ℕ → Range
either_way n = record { negatives = n; zeroin = false; positives = n }

abbrev pub through_zero : ℕ → Range
through_zero n = record { negatives = n; zeroin = true; positives = n }

-- BYMONTH 1..12; BYMONTHDAY ±1..31; BYYEARDAY ±1..366; BYWEEKNO ±1..53; BYDAY pairs (n, weekday), n = 0 for every, otherwise ±1..53;
-- BYHOUR 0..23; BYMINUTE and BYSECOND 0..59; BYSETPOS ±1..366
abbrev pub months : Range
months = from_one 12

abbrev pub monthdays : Range
monthdays = either_way 31

abbrev pub yeardays : Range
yeardays = either_way 366

abbrev pub weeknos : Range
weeknos = either_way 53

abbrev pub nths : Range
nths = through_zero 53

abbrev pub weekdays : Range
weekdays = from_zero 6

abbrev pub hours : Range
hours = from_zero 23

abbrev pub minutes : Range
minutes = from_zero 59

abbrev pub seconds : Range
seconds = from_zero 59

abbrev pub positions : Range
positions = either_way 366

-- A value has a slot, counted from the lowest value of the range, or lies outside the range.
abbrev pub zeros : Range → ℕ
zeros g = if g.zeroin then 1 else 0

abbrev pub within : Bool → ℕ → Option ℕ
within b i = if b then Some i else None

unfoldable pub slot_of : Range → ℤ → Option ℕ
slot_of g (negsuc v) = within (leb (suc v) g.negatives) (g.negatives - suc v)
slot_of g (pos zero) = within g.zeroin g.negatives
slot_of g (pos (suc v)) = within (leb (suc v) g.positives) (g.negatives + zeros g + v)

-- how many slots a range has
abbrev pub slots : Range → ℕ
slots g = g.negatives + zeros g + g.positives

-- a pair's slot, by n and then by weekday
abbrev pub beside : Option ℕ → Option ℕ → Option ℕ
beside (Some a) (Some b) = Some (a * 7 + b)
beside (Some a) None = None
beside None b = None

unfoldable pub pair_slot : ℤ → ℤ → Option ℕ
unfolding slot_of
pair_slot n w = beside (slot_of nths n) (slot_of weekdays w)

-- A set has a flag for each slot. The value v is in it; the pair (n, w) is in it; it is empty.
abbrev pub flag_at : List Bool → Option ℕ → Bool
flag_at s (Some i) = get_or s i false
flag_at s None = false

unfoldable pub is_in : Range → List Bool → ℤ → Bool
unfolding slot_of
is_in g s v = flag_at s (slot_of g v)

unfoldable pub is_pair_in : List Bool → ℤ → ℤ → Bool
unfolding pair_slot
is_pair_in s n w = flag_at s (pair_slot n w)

unfoldable pub is_empty : List Bool → Bool
is_empty [] = true
is_empty (b ∷ bs) = elim b [ true ↦ false | false ↦ is_empty bs ]

-- the set of n slots that a test of the slot makes
unfoldable pub flags : (ℕ → Bool) → ℕ → ℕ → List Bool
flags f zero i = []
flags f (suc n) i = f i ∷ flags f n (i + 1)

-- slot i is that of one of these entries
abbrev pub is : ℕ → Option ℕ → Bool
is i (Some j) = eqb i j
is i None = false

unfoldable pub some_at : ℕ → List (Option ℕ) → Bool
some_at i [] = false
some_at i (e ∷ es) = is i e || some_at i es

-- the set of these entries
unfoldable pub set_of : ℕ → List (Option ℕ) → List Bool
unfolding flags some_at
set_of n es = flags (λ i. some_at i es) n 0

-- a set with an entry more
abbrev pub mark : List Bool → Option ℕ → List Bool
mark s (Some i) = set s i true
mark s None = s
