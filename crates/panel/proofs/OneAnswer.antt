-- One answer: of each exported function, two answers that its promise allows are one, and so is all that it leaves in what was lent. `Post` is the
-- promise as the source states it.
-- Assumes nothing.
use Prim.Native.Nat.{ℕ}
use mathlib.Core.Path.{ap}
use mathlib.Core.List.{List}
use Rattle.calendar.proofs.Determines.{DeterminesBuffer, one_answer}
use Rattle.calendar.proofs.AsksNothing.{AsksNothing, nothing_asked}
use Rattle.edge.specs.Edge.{Said, Shown, shown}
use Rattle.panel.proofs.yomaveludge_check.Kinds as check-kinds
use Rattle.panel.proofs.yomaveludge_check.Reads as check
use Rattle.panel.proofs.yomaveludge_fresh.Kinds as fresh-kinds
use Rattle.panel.proofs.yomaveludge_fresh.Reads as fresh
use Rattle.panel.proofs.yomaveludge_run.Kinds as run-kinds
use Rattle.panel.proofs.yomaveludge_run.Reads as run

-- the record's bytes are the last parameter, the 19th
pub check_has_one : DeterminesBuffer 11 check-kinds.ps check-kinds.r (List ℕ)
    (λ κs e. e.1.1.1.1.1.1.1.1.1.1.1.1.1.1.1.1.1.1.0.now) check.Post
check_has_one κs a x y e f p q = (ap (λ (z : Said). z.number) (one_answer p q), ap (λ (z : Said). z.bytes) (one_answer p q))

pub fresh_has_one : DeterminesBuffer 2 fresh-kinds.ps fresh-kinds.r (List ℕ) (λ κs e. e.1.0.now) fresh.Post
fresh_has_one κs a x y e f p q = (ap (λ (z : Said). z.number) (one_answer p q), ap (λ (z : Said). z.bytes) (one_answer p q))

-- the cursor's bytes, the buffer, the moves made, the count handed out and the cause's number
pub run_has_one : DeterminesBuffer 6 run-kinds.ps run-kinds.r Shown
    (λ κs e. shown 0 e.1.0.now e.1.1.0.now e.1.1.1.1.0.now e.1.1.1.1.1.0.now e.1.1.1.1.1.1.0.now) run.Post
run_has_one κs a x y e f p q =
    (ap (λ (z : Shown). z.stop) (one_answer p q), ap (λ (z : Shown). shown 0 z.cursor z.buffer z.moves z.handed z.cause) (one_answer p q))

-- none asks anything of C
pub check_asks_nothing : AsksNothing 11 check-kinds.ps check.requires
check_asks_nothing κs a = nothing_asked

pub fresh_asks_nothing : AsksNothing 2 fresh-kinds.ps fresh.requires
fresh_asks_nothing κs a = nothing_asked

pub run_asks_nothing : AsksNothing 6 run-kinds.ps run.requires
run_asks_nothing κs a = nothing_asked
