-- What the code's types show of a reader's answer and of what is read.
-- Assumes nothing.
use Rattle.std.specs.Prelude.{ℕ, length, ℤ, Result, Ok, Err, if◌then◌else◌}
use Rattle.std.proofs.lemmas.List.Edits.{sets}
use Rattle.rule.specs.Raw.{RawLists, Raw, raw_lists}
use Rattle.symbols.specs.Languages.{Both}
use Rattle.symbols.specs.Takes.{Took}
use Rattle.recur.specs.declared.Symbol.{Symbol}
use Rattle.recur.specs.declared.Day.{Day}
use Rattle.recur.specs.declared.Outline.{Outline}
use Rattle.recur.specs.declared.Slots.{Slots}
use Rattle.recur.specs.Grammar.{weekday_of}
use Rattle.recur.specs.Reading.{Read}

-- the place behind a whole symbol, with a value of its own kind; the place where the reader stopped of any other
abbrev pub shown_as : {A B : Type 0} → (A → B) → Took A → Result (Symbol B) ℕ
shown_as f k = if k.whole then Ok (record { place = k.place; value = f k.value }) else Err k.place

abbrev pub shown : {A : Type 0} → Took A → Result (Symbol A) ℕ
shown k = shown_as (λ v. v) k

-- an entry of BYDAY
abbrev pub day_of : Both ℤ ℕ → Day
day_of d = record { nth = d.first; weekday = weekday_of d }

-- of a list it is only told where it stops, and whether it is whole
abbrev pub stopped : {A : Type 0} → Took A → Result ℕ ℕ
stopped k = if k.whole then Ok k.place else Err k.place

abbrev pub outline_of : Raw → Outline
outline_of w = record {
  freq = w.freq;
  interval = w.interval;
  count = w.count;
  until = w.until;
  wkst = w.wkst;
  bymonth = length w.lists.bymonth;
  bymonthday = length w.lists.bymonthday;
  byyearday = length w.lists.byyearday;
  byweekno = length w.lists.byweekno;
  byday = length w.lists.bydayn;
  byhour = length w.lists.byhour;
  byminute = length w.lists.byminute;
  bysecond = length w.lists.bysecond;
  bysetpos = length w.lists.bysetpos;
}

-- what the reader answers
abbrev pub reading_of : Read → Result Outline ℕ
reading_of (Ok w) = Ok (outline_of w)
reading_of (Err n) = Err n

-- the lists that slots are
abbrev pub slots_of : Slots → RawLists
slots_of s =
    raw_lists s.bymonth s.bymonthday s.byyearday s.byweekno s.bydayn s.bydayw s.byhour s.byminute s.bysecond s.bysetpos

-- and what it leaves in the lists: the entries in their first slots; nothing where the text is refused
abbrev pub filled_with : RawLists → RawLists → RawLists
filled_with l v =
    raw_lists (sets l.bymonth 0 v.bymonth) (sets l.bymonthday 0 v.bymonthday) (sets l.byyearday 0 v.byyearday)
    (sets l.byweekno 0 v.byweekno) (sets l.bydayn 0 v.bydayn) (sets l.bydayw 0 v.bydayw) (sets l.byhour 0 v.byhour)
    (sets l.byminute 0 v.byminute) (sets l.bysecond 0 v.bysecond) (sets l.bysetpos 0 v.bysetpos)

abbrev pub lists_left : Read → RawLists → RawLists
lists_left (Ok w) l = filled_with l w.lists
lists_left (Err n) l = l
