-- One answer: two answers that the promise of `read` allows are one, and so are the lists that it leaves. `Post` is the promise as the source
-- states it.
-- Assumes nothing.
use Rattle.calendar.proofs.AsksNothing.{AsksNothing, nothing_asked}
use Rattle.calendar.proofs.Determines.{DeterminesBuffer, one_answer}
use Rattle.rule.specs.Raw.{RawLists}
use Rattle.recur.specs.Shown.{slots_of}
use Rattle.parser.proofs.rule_content_line.read.Kinds as read-kinds
use Rattle.parser.proofs.rule_content_line.read.Reads as read

pub read_has_one : DeterminesBuffer 2 read-kinds.ps read-kinds.r RawLists (λ κs e. slots_of e.1.0.now) read.Post
read_has_one κs a x y e f p q = (one_answer p.0 q.0, one_answer p.1 q.1)

-- and it asks nothing of its callers
pub read_asks_nothing : AsksNothing 2 read-kinds.ps read.requires
read_asks_nothing κs a = nothing_asked
