-- One answer: of each public function, two answers that its promise allows are one, and so are the buffers that it leaves. `Post` is the promise
-- as the source states it.
-- Assumes nothing.
use mathlib.Core.List.{List}
use Prim.Native.Nat.{ℕ}
use Rattle.calendar.proofs.AsksNothing.{AsksNothing, nothing_asked}
use Rattle.calendar.proofs.Determines.{Determines, DeterminesBuffer, one_answer}
use Rattle.days.proofs.filters.is_filtered.Kinds as is-filtered-kinds
use Rattle.days.proofs.filters.is_filtered.Reads as is-filtered
use Rattle.days.proofs.iterinfo.get_dayset.Kinds as get-dayset-kinds
use Rattle.days.proofs.iterinfo.get_dayset.Reads as get-dayset

pub is_filtered_has_one : Determines 2 is-filtered-kinds.ps is-filtered-kinds.r is-filtered.Post
is_filtered_has_one κs a x y e f = one_answer

pub get_dayset_has_one : DeterminesBuffer 3 get-dayset-kinds.ps get-dayset-kinds.r (List ℕ)
    (λ κs e. e.1.1.1.1.1.0.now) get-dayset.Post
get_dayset_has_one κs a x y e f p q = (one_answer p.0 q.0, one_answer p.1 q.1)

-- and none asks anything of its callers
pub is_filtered_asks_nothing : AsksNothing 2 is-filtered-kinds.ps is-filtered.requires
is_filtered_asks_nothing κs a = nothing_asked

pub get_dayset_asks_nothing : AsksNothing 3 get-dayset-kinds.ps get-dayset.requires
get_dayset_asks_nothing κs a = nothing_asked
