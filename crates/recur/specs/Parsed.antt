-- A text that is read and checked with a start.
-- Assumes nothing.
use Rattle.std.specs.Prelude.{ℕ, List, Result, Ok, Err}
use Rattle.rule.specs.declared.rrule.Rule.{Rule}
use Rattle.rule.specs.Filling.{Checked, checked}
use Rattle.rule.specs.Raw.{Raw, raw}
use Rattle.recur.specs.declared.Unparsed.{Unparsed}
use Rattle.recur.specs.Reading.{Read, read_of}

-- the caller's start in the place of the text's 0
abbrev pub with_start : ℕ → Raw → Raw
with_start start w = raw w.freq w.interval w.count w.until w.wkst start w.lists

-- the rule that the check accepts, or why there is none
abbrev pub parsed_as : Checked → Result Rule Unparsed
parsed_as (Err m) = Err (Unparsed.Refused m)
parsed_as (Ok r) = Ok r

abbrev pub parsed_by : Read → ℕ → Result Rule Unparsed
parsed_by (Err n) start = Err (Unparsed.Unread n)
parsed_by (Ok w) start = parsed_as (checked (with_start start w))

unfoldable pub parsed_of : List ℕ → ℕ → Result Rule Unparsed
parsed_of t start = parsed_by (read_of t) start
