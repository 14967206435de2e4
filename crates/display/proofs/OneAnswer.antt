-- One answer: of the public function, two answers that its promise allows are one, and so are the buffers that it leaves. `Post` is the promise as
-- the source states it.
-- Assumes nothing.
use mathlib.Core.List.{List}
use Prim.Native.Nat.{ℕ}
use Rattle.calendar.proofs.AsksNothing.{AsksNothing, nothing_asked}
use Rattle.calendar.proofs.Determines.{DeterminesBuffer, one_answer}
use Rattle.display.proofs.rrule.write.Kinds as write-kinds
use Rattle.display.proofs.rrule.write.Reads as write

-- the buffer is the second parameter
pub write_has_one : DeterminesBuffer 3 write-kinds.ps write-kinds.r (List ℕ) (λ κs e. e.1.0.now) write.Post
write_has_one κs a x y e f p q = (one_answer p.0 q.0, one_answer p.1 q.1)

-- and it asks nothing of its callers
pub write_asks_nothing : AsksNothing 3 write-kinds.ps write.requires
write_asks_nothing κs a = nothing_asked
