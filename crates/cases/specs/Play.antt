-- How a case is played: a rule, calls of it, and what they answer, whole.
-- Assumes nothing.
use Rattle.std.specs.Prelude.{ℕ, zero, suc, ◌+◌, List, [], ◌∷◌, Result, Ok, Err}
use Rattle.machine.specs.declared.State.{State}
use Rattle.machine.specs.declared.Stop.{Stop}
use Rattle.machine.specs.declared.Cursor.{Cursor}
use Rattle.machine.specs.Calls.{Answered}
use Rattle.rule.specs.declared.rrule.Refusal.{Refusal}
use Rattle.rule.specs.Filling.{Checked}
use Rattle.rule.specs.declared.rrule.Rule.{Rule}
use Rattle.rule.specs.Raw.{Raw}
use Rattle.rule.specs.Filling.{given, fill, checked}
use Rattle.rule.specs.Run.{fresh_of, run_of}

-- a call: the length of its buffer, whose slots hold 100, 101 .., and its budget of moves
pub record Call : Type 0 where
  pub room : ℕ
  pub budget : ℕ

abbrev pub of : ℕ → ℕ → Call
of room budget = record { room = room; budget = budget }

unfoldable pub slots : ℕ → ℕ → List ℕ
slots zero v = []
slots (suc n) v = v ∷ slots n (v + 1)

abbrev pub at : State → ℕ → ℕ → ℕ → Cursor
at state k place number = record { state = state; k = k; place = place; number = number }

abbrev pub told : Stop → Cursor → ℕ → ℕ → List ℕ → Answered ℕ
told stop cursor moves handed buffer = record { answer = record { stop = stop; cursor = cursor; moves = moves; handed = handed }; buffer = buffer }

-- what a case comes to: the check's refusal, or the answer of each call
abbrev pub Outcome : Type 0
Outcome = Result (List (Answered ℕ)) Refusal

unfoldable pub calls : Rule → Cursor → List Call → List (Answered ℕ)
unfolding run_of slots
calls r c [] = []
calls r c (x ∷ xs) = let a : Answered ℕ = run_of r c (slots x.room 100) x.budget in a ∷ calls r a.answer.cursor xs

abbrev pub judged : Checked → (Rule → Cursor) → List Call → Outcome
judged (Err n) from xs = Err n
judged (Ok r) from xs = Ok (calls r (from r) xs)

-- the calls in turn, from a fresh cursor; from this one
unfoldable pub play : Raw → List Call → Outcome
unfolding checked fresh_of calls
play w xs = judged (checked w) fresh_of xs

unfoldable pub play_from : Cursor → Raw → List Call → Outcome
unfolding checked calls
play_from c w xs = judged (checked w) (λ r. c) xs

-- a call on the record as it is given, before filling in, and on the filled record, whatever the check says of it
unfoldable pub on_given : Raw → Cursor → Call → Answered ℕ
unfolding given run_of slots
on_given w c x = run_of (given w) c (slots x.room 100) x.budget

unfoldable pub on_filled : Raw → Cursor → Call → Answered ℕ
unfolding given fill run_of slots
on_filled w c x = run_of (fill (given w)) c (slots x.room 100) x.budget
