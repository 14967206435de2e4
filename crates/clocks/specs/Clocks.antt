-- The time sets of a rule. Hours, minutes and seconds stand in rows of 144 places: hour h at h, minute m at 24 + m, second s at 84 + s.
-- Assumes nothing.
use Rattle.std.specs.Prelude.{ℕ, ◌+◌, ◌%◌, Bool, true, false, List, [], ◌∷◌, length, get_or, set, replicate, if◌then◌else◌}
use Rattle.rule.specs.declared.rrule.Rule.{Rule}
use Rattle.rule.specs.Lists.{is_empty}
use Rattle.times.specs.declared.iterinfo.Counts.{Counts}
use Rattle.times.specs.TimeSets.{open_of, time_at}
use Rattle.clocks.specs.declared.iterinfo.TimeSet.{TimeSet}
use Rattle.clocks.specs.Blocks.{passing}

-- a row with a list written over it, from a place on
unfoldable pub written : {A : Type 0} → List A → ℕ → List A → List A
written row from [] = row
written row from (x ∷ xs) = written (set row from x) (from + 1) xs

-- a row of hours, minutes and seconds, with z where nothing is written
unfoldable pub row_of : {A : Type 0} → A → List A → List A → List A → List A
row_of z hours minutes seconds = written (written (written (replicate 144 z) 0 hours) 24 minutes) 84 seconds

-- a set of n values; an empty one stands for all
unfoldable pub or_all : ℕ → List Bool → List Bool
unfolding is_empty
or_all n s = if is_empty s then replicate n true else s

-- which hours, minutes and seconds pass, by the sets of BYHOUR, BYMINUTE and BYSECOND
unfoldable pub clock_of : List Bool → List Bool → List Bool → List Bool
clock_of byhour byminute bysecond = row_of false (or_all 24 byhour) (or_all 60 byminute) (or_all 60 bysecond)

-- the values below size whose flag is set, rising
unfoldable pub flagged : ℕ → ℕ → List Bool → List ℕ
flagged from size flags = passing (λ v. get_or flags (from + v) false) size 0

-- the short lists of what passes, with zeros behind them
unfoldable pub timeset_of : List Bool → TimeSet
timeset_of flags = record {
  lists = row_of 0 (flagged 0 24 flags) (flagged 24 60 flags) (flagged 84 60 flags);
  counts = record {
    hours = length (flagged 0 24 flags);
    minutes = length (flagged 24 60 flags);
    seconds = length (flagged 84 60 flags);
  };
}

-- The same of a rule: what passes, and the short lists of that.
unfoldable pub clock_in : Rule → List Bool
clock_in r = clock_of r.byhour r.byminute r.bysecond

unfoldable pub sets_in : Rule → TimeSet
sets_in r = timeset_of (clock_in r)

-- What a period has to choose from that begins at the second b.
unfoldable pub open_in : Rule → ℕ → Counts
open_in r b = open_of r.freq (b % 86400) (clock_in r) (sets_in r).counts

-- time number t of that period
unfoldable pub time_in : Rule → ℕ → ℕ → ℕ
time_in r b t = time_at r.freq (b % 86400) (open_in r b) (sets_in r).lists t
