-- One answer: of each public function, two answers that its promise allows are one, and so are the buffers that it leaves. `Post` is the promise
-- as the source states it.
-- Assumes nothing.
use mathlib.Core.List.{List}
use Prim.Native.Nat.{ℕ}
use Rattle.calendar.proofs.AsksNothing.{AsksNothing, nothing_asked}
use Rattle.calendar.proofs.Determines.{DeterminesBuffer, one_answer}
use Rattle.positions.proofs.pos_list.build_pos_list.Kinds as build-pos-list-kinds
use Rattle.positions.proofs.pos_list.build_pos_list.Reads as build-pos-list

-- the buffer is the third parameter
pub build_pos_list_has_one : DeterminesBuffer 2 build-pos-list-kinds.ps build-pos-list-kinds.r (List ℕ) (λ κs e. e.1.1.0.now) build-pos-list.Post
build_pos_list_has_one κs a x y e f p q = (one_answer p.0 q.0, one_answer p.1 q.1)

-- and it asks nothing of its callers
pub build_pos_list_asks_nothing : AsksNothing 2 build-pos-list-kinds.ps build-pos-list.requires
build_pos_list_asks_nothing κs a = nothing_asked
