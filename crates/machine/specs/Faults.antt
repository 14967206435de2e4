-- What a run refuses, and the answer of a refused run.
-- Assumes nothing.
use Rattle.std.specs.Prelude.{ℕ}
use Rattle.machine.specs.declared.Fault.{Fault}
use Rattle.machine.specs.declared.Stop.{Stop}
use Rattle.machine.specs.declared.Cursor.{Cursor}
use Rattle.machine.specs.declared.Answer.{Answer}

-- 20: the record isn't one that an accepted check yields. 21: the cursor isn't well formed for the record.
abbrev pub fault_number : Fault → ℕ
fault_number Fault.Record = 20
fault_number Fault.Cursor = 21

-- A refused run returns the cursor as given, zero moves and zero handed out.
abbrev pub refused_answer : Fault → Cursor → Answer
refused_answer fault c = record { stop = Stop.Refused fault; cursor = c; moves = 0; handed = 0 }
