-- How a chart is written and played: a rule, the calls made of it in turn, and what each call is to answer, whole. All numbers are literal.
-- Assumes nothing.
use Rattle.std.specs.Prelude.{ℕ, zero, suc, ◌-◌, List, [], ◌∷◌, ◌++◌, true, false, eqb, ℤ, pos, neg_ℤ, nat_abs, Option, Some, None, Ok, Err}
use Rattle.machine.specs.declared.Cause.{Cause}
use Rattle.machine.specs.declared.State.{State}
use Rattle.machine.specs.declared.Stop.{Stop}
use Rattle.machine.specs.declared.Cursor.{Cursor}
use Rattle.machine.specs.Calls.{Answered}
use Rattle.rule.specs.declared.rrule.Refusal.{Refusal}
use Rattle.rule.specs.Refusals.{Verdict}
use Rattle.rule.specs.Filling.{Checked}
use Rattle.rule.specs.declared.rrule.Rule.{Rule}
use Rattle.rule.specs.Raw.{Raw, raw, raw_lists}
use Rattle.rule.specs.Filling.{checked}
use Rattle.rule.specs.Run.{fresh_of, run_of}

-- A part of a rule, by a number for its name. A list that is not given is empty, COUNT and UNTIL are absent, INTERVAL is 1 and the week starts on Monday.
pub record Part : Type 0 where
  pub name : ℕ
  pub values : List ℤ

abbrev pub INTERVAL : ℕ → List Part
INTERVAL n = record { name = 0; values = pos n ∷ [] } ∷ []

abbrev pub COUNT : ℕ → List Part
COUNT n = record { name = 1; values = pos n ∷ [] } ∷ []

abbrev pub UNTIL : ℕ → List Part
UNTIL t = record { name = 2; values = pos t ∷ [] } ∷ []

abbrev pub WKST : ℕ → List Part
WKST w = record { name = 3; values = pos w ∷ [] } ∷ []

abbrev pub BYMONTH : List ℤ → List Part
BYMONTH l = record { name = 4; values = l } ∷ []

abbrev pub BYMONTHDAY : List ℤ → List Part
BYMONTHDAY l = record { name = 5; values = l } ∷ []

abbrev pub BYYEARDAY : List ℤ → List Part
BYYEARDAY l = record { name = 6; values = l } ∷ []

abbrev pub BYWEEKNO : List ℤ → List Part
BYWEEKNO l = record { name = 7; values = l } ∷ []

-- n, and beside it the weekday
abbrev pub BYDAY : List ℤ → List ℤ → List Part
BYDAY ns ws = record { name = 8; values = ns } ∷ record { name = 9; values = ws } ∷ []

abbrev pub BYHOUR : List ℤ → List Part
BYHOUR l = record { name = 10; values = l } ∷ []

abbrev pub BYMINUTE : List ℤ → List Part
BYMINUTE l = record { name = 11; values = l } ∷ []

abbrev pub BYSECOND : List ℤ → List Part
BYSECOND l = record { name = 12; values = l } ∷ []

abbrev pub BYSETPOS : List ℤ → List Part
BYSETPOS l = record { name = 13; values = l } ∷ []

unfoldable pub list_in : ℕ → List Part → List ℤ
list_in n [] = []
list_in n (p ∷ ps) = elim (eqb n p.name) [ true ↦ p.values | false ↦ list_in n ps ]

abbrev first_or : ℕ → List ℤ → ℕ
first_or n [] = n
first_or n (v ∷ vs) = nat_abs v

abbrev count_in : List ℤ → Option ℕ
count_in [] = None
count_in (v ∷ vs) = Some (nat_abs v)

abbrev until_in : List ℤ → Option ℕ
until_in [] = None
until_in (v ∷ vs) = Some (nat_abs v)

-- the raw rule of a frequency, a start and parts
unfoldable pub rule_of : ℕ → ℕ → List Part → Raw
unfolding list_in
rule_of freq start ps =
    raw freq (first_or 1 (list_in 0 ps)) (count_in (list_in 1 ps)) (until_in (list_in 2 ps)) (first_or 0 (list_in 3 ps)) start
    (raw_lists (list_in 4 ps) (list_in 5 ps) (list_in 6 ps) (list_in 7 ps) (list_in 8 ps) (list_in 9 ps) (list_in 10 ps) (list_in 11 ps) (list_in 12 ps) (list_in 13 ps))

-- a call: the length of its buffer, and its budget of moves; before it slot i holds 9223372036854775807 - i
pub record Chart : Type 0 where
  pub room : ℕ
  pub budget : ℕ

abbrev pub with : ℕ → ℕ → Chart
with room budget = record { room = room; budget = budget }

unfoldable pub slots : ℕ → ℕ → List ℕ
slots zero v = []
slots (suc n) v = v ∷ slots n (v - 1)

abbrev blank_buffer : ℕ → List ℕ
blank_buffer n = slots n 9223372036854775807

-- an answer with the whole buffer: stop; the cursor's state, k, place and number; moves; handed out; the slots
abbrev pub told : Stop → State → ℕ → ℕ → ℕ → ℕ → ℕ → List ℕ → Answered ℕ
told stop state k place number moves handed buffer = record {
  answer = record { stop = stop; cursor = record { state = state; k = k; place = place; number = number }; moves = moves; handed = handed };
  buffer = buffer;
}

-- what the check says, and what the calls in turn answer, each from the cursor that the one before it left
pub record Played : Type 0 where
  pub verdict : Verdict
  pub answers : List (Answered ℕ)

unfoldable pub calls_of : Rule → Cursor → List Chart → List (Answered ℕ)
unfolding run_of slots
calls_of r c [] = []
calls_of r c (x ∷ xs) =
    let a : Answered ℕ = run_of r c (blank_buffer x.room) x.budget in
    a ∷ calls_of r a.answer.cursor xs

abbrev played_by : Checked → List Chart → Played
played_by (Err n) xs = record { verdict = Err n; answers = [] }
played_by (Ok r) xs = record { verdict = Ok tt; answers = calls_of r (fresh_of r) xs }

unfoldable pub play : Raw → List Chart → Played
unfolding checked calls_of fresh_of
play w xs = played_by (checked w) xs

pub record Case : Type 0 where
  pub raw : Raw
  pub calls : List Chart
  pub played : Played

abbrev pub accepted : ℕ → ℕ → List Part → List Chart → List (Answered ℕ) → Case
accepted freq start ps calls answers = record { raw = rule_of freq start ps; calls = calls; played = record { verdict = Ok tt; answers = answers } }

abbrev pub refused_by : ℕ → ℕ → List Part → Refusal → Case
refused_by freq start ps n = record { raw = rule_of freq start ps; calls = []; played = record { verdict = Err n; answers = [] } }

abbrev pub play_of : Case → Played
play_of c = play c.raw c.calls

-- YEARLY;BYWEEKNO=-1;COUNT=1 from 2021-01-01, in the last week of 2020, of 53
unfoldable pub last_week : Case
unfolding rule_of
last_week =
    accepted 0 1609459200 (BYWEEKNO (neg_ℤ (pos 1) ∷ []) ++ COUNT 1)
    (with 1 9 ∷ [])
    (told Stop.Ended (State.Ended Cause.Count) 0 1 1 0 1 (1609459200 ∷ [])
    ∷ [])
