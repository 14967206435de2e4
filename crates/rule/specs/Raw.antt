-- What a rule record holds, as it is given: its lists are lists of numbers.
-- Assumes nothing.
use Rattle.std.specs.Prelude.{ℕ, List, [], ◌∷◌, map, ℤ, Option}
use Rattle.rule.specs.declared.rrule.Range.{Range}
use Rattle.rule.specs.declared.rrule.ByLists.{ByLists}
use Rattle.rule.specs.declared.rrule.Unvalidated.{Unvalidated}
use Rattle.rule.specs.Lists.{slot_of, pair_slot}

-- The lists as given, each possibly empty. BYDAY is two lists side by side, n and weekday.
pub record RawLists : Type 0 where
  pub bymonth : List ℤ
  pub bymonthday : List ℤ
  pub byyearday : List ℤ
  pub byweekno : List ℤ
  pub bydayn : List ℤ
  pub bydayw : List ℤ
  pub byhour : List ℤ
  pub byminute : List ℤ
  pub bysecond : List ℤ
  pub bysetpos : List ℤ

-- frequency 0 to 6 (YEARLY to SECONDLY), INTERVAL, COUNT, UNTIL, week start, start instant, and the lists
pub record Raw : Type 0 where
  pub freq : ℕ
  pub interval : ℕ
  pub count : Option ℕ
  pub until : Option ℕ
  pub wkst : ℕ
  pub start : ℕ
  pub lists : RawLists

-- the entries of a list, and the pairs of BYDAY, by their slots
abbrev pub entries : Range → List ℤ → List (Option ℕ)
entries g l = map (slot_of g) l

unfoldable pub pairs : List ℤ → List ℤ → List (Option ℕ)
unfolding pair_slot
pairs [] ws = []
pairs (n ∷ ns) [] = []
pairs (n ∷ ns) (w ∷ ws) = pair_slot n w ∷ pairs ns ws

-- the same, from its parts
abbrev pub raw_lists : (bymonth bymonthday byyearday byweekno bydayn bydayw byhour byminute bysecond bysetpos : List ℤ) → RawLists
raw_lists bymonth bymonthday byyearday byweekno bydayn bydayw byhour byminute bysecond bysetpos = record {
  bymonth = bymonth;
  bymonthday = bymonthday;
  byyearday = byyearday;
  byweekno = byweekno;
  bydayn = bydayn;
  bydayw = bydayw;
  byhour = byhour;
  byminute = byminute;
  bysecond = bysecond;
  bysetpos = bysetpos;
}

abbrev pub raw : (freq interval : ℕ) → Option ℕ → Option ℕ → (wkst start : ℕ) → RawLists → Raw
raw freq interval count until wkst start lists =
    record { freq = freq; interval = interval; count = count; until = until; wkst = wkst; start = start; lists = lists }

-- the rule that a caller hands over with a start
abbrev pub lists_of : ByLists → RawLists
lists_of l = raw_lists l.bymonth.now l.bymonthday.now l.byyearday.now l.byweekno.now l.bydayn.now
    l.bydayw.now l.byhour.now l.byminute.now l.bysecond.now l.bysetpos.now

abbrev pub raw_of : Unvalidated → (start : ℕ) → Raw
raw_of g start = raw g.freq g.interval g.count g.until g.wkst start (lists_of g.lists)
