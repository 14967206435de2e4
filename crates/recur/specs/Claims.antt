-- What is claimed of texts; proofs/ has a proof of each claim, under the same name in small letters.
-- Assumes nothing.
use Rattle.std.specs.Prelude.{ℕ, ◌≤◌, ◌<◌, ◌≡◌, List, [], ◌∷◌, ◌++◌, length, take, ℤ, nat_abs, Option, Some, None, Ok, Err}
use Rattle.rule.specs.Instants.{last_instant}
use Rattle.rule.specs.Raw.{RawLists, Raw}
use Rattle.rule.specs.Refusals.{verdict}
use Rattle.recur.specs.Grammar.{Good, Begins}
use Rattle.recur.specs.Reading.{longest, read_of}
use Rattle.recur.specs.Writing.{text_of}

-- A text that isn't too long is read as a rule exactly where it is a good text of that rule.
abbrev pub ReadDecides : Type 0
ReadDecides = (t : List ℕ) (w : Raw) → length t ≤ longest → (read_of t ≡ Ok w → Good t w) × (Good t w → read_of t ≡ Ok w)

-- A text has one rule, however long it is.
abbrev pub OneReading : Type 0
OneReading = (t : List ℕ) (w v : Raw) → Good t w → Good t v → w ≡ v

-- A refused text that isn't too long is refused at its longest beginning that begins some good text.
pub record LongestBeginning (t : List ℕ) (n : ℕ) : Type 0 where
  pub inside : n ≤ length t
  pub begins : Begins (take n t)
  pub none_longer : (m : ℕ) → m ≤ length t → Begins (take m t) → m ≤ n

abbrev pub RefusedAt : Type 0
RefusedAt = (t : List ℕ) (n : ℕ) → length t ≤ longest → read_of t ≡ Err n → LongestBeginning t n

abbrev pub TooLong : Type 0
TooLong = (t : List ℕ) → longest < length t → read_of t ≡ Err longest

-- What begins a good text has only such beginnings.
abbrev pub BeginsDown : Type 0
BeginsDown = (p q : List ℕ) → Begins (p ++ q) → Begins p

-- What is read lies in these ranges, so that the check gives 3 (for the start put in) or 5 to 12, and never 1, 2 or 4.
unfoldable pub EachWithin : ℕ → List ℤ → Type 0
EachWithin high [] = Unit {0}
EachWithin high (v ∷ vs) = (nat_abs v ≤ high) × EachWithin high vs

pub record ListInRange (l : List ℤ) : Type 0 where
  pub few : length l ≤ 749
  pub each : EachWithin 999 l

pub record ListsInRange (l : RawLists) : Type 0 where
  pub bymonth : ListInRange l.bymonth
  pub bymonthday : ListInRange l.bymonthday
  pub byyearday : ListInRange l.byyearday
  pub byweekno : ListInRange l.byweekno
  pub bydayn : ListInRange l.bydayn
  pub bydayw : ListInRange l.bydayw
  pub paired : length l.bydayn ≡ length l.bydayw
  pub byhour : ListInRange l.byhour
  pub byminute : ListInRange l.byminute
  pub bysecond : ListInRange l.bysecond
  pub bysetpos : ListInRange l.bysetpos

abbrev pub CountInRange : Option ℕ → Type 0
CountInRange None = Unit {0}
CountInRange (Some n) = n ≤ 4294967295

abbrev pub UntilInRange : Option ℕ → Type 0
UntilInRange None = Unit {0}
UntilInRange (Some t) = t ≤ last_instant

pub record InRange (w : Raw) : Type 0 where
  pub freq : w.freq ≤ 6
  pub interval : w.interval ≤ 65535
  pub count : CountInRange w.count
  pub until : UntilInRange w.until
  pub wkst : w.wkst ≤ 6
  pub start : w.start ≡ 0
  pub lists : ListsInRange w.lists

abbrev pub ReadInRange : Type 0
ReadInRange = (t : List ℕ) (w : Raw) → read_of t ≡ Ok w → InRange w

-- A rule that is written: the check takes it with start 0, and INTERVAL and COUNT have their types' ranges.
pub record Writable (w : Raw) : Type 0 where
  pub accepted : verdict w ≡ Ok tt
  pub start : w.start ≡ 0
  pub interval : w.interval ≤ 65535
  pub count : CountInRange w.count

-- What is written is a good text of the rule, fits, and reads back as the rule.
abbrev pub WrittenIsGood : Type 0
WrittenIsGood = (w : Raw) → Writable w → Good (text_of w) w

abbrev pub WrittenFits : Type 0
WrittenFits = (w : Raw) → Writable w → length (text_of w) ≤ 13117

abbrev pub ReadsBack : Type 0
ReadsBack = (w : Raw) → Writable w → read_of (text_of w) ≡ Ok w

-- Two rules with one text are one rule.
abbrev pub WrittenOnce : Type 0
WrittenOnce = (w v : Raw) → Writable w → Writable v → text_of w ≡ text_of v → w ≡ v
