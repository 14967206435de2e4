-- How states and cursors are written.
-- Assumes nothing.
use Rattle.std.specs.Prelude.{ℕ, List, ◌++◌, codes, decimal}
use Rattle.machine.specs.declared.Cause.{Cause}
use Rattle.machine.specs.declared.State.{State}
use Rattle.machine.specs.declared.Cursor.{Cursor}

abbrev pub cause_text : Cause → List ℕ
cause_text Cause.Count = codes "count"
cause_text Cause.Interval = codes "interval"
cause_text Cause.Until = codes "until"
cause_text Cause.NoTick = codes "notick"
cause_text Cause.Range = codes "range"

abbrev pub state_text : State → List ℕ
state_text State.Running = codes "running"
state_text (State.Ended cause) = cause_text cause

-- as the word of a line: its state, period, place and number
abbrev pub cursor_text : Cursor → List ℕ
cursor_text c =
    codes "cursor=" ++ (state_text c.state ++ (codes "," ++ (decimal c.k ++ (codes "," ++ (decimal c.place ++ (codes "," ++ decimal c.number))))))
