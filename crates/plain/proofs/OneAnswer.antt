-- One answer: of each public function, two answers that its promise allows are one, and so are the buffers that it leaves. `Post` is the promise
-- as the source states it.
-- Assumes nothing.
use mathlib.Core.List.{List}
use Prim.Native.Nat.{ℕ}
use Rattle.calendar.proofs.AsksNothing.{AsksNothing, nothing_asked}
use Rattle.calendar.proofs.Determines.{Determines, DeterminesBuffer, one_answer}
use Rattle.plain.proofs.filters.has_month.Kinds as has-month-kinds
use Rattle.plain.proofs.filters.has_month.Reads as has-month
use Rattle.plain.proofs.iterinfo.is_plain.Kinds as is-plain-kinds
use Rattle.plain.proofs.iterinfo.is_plain.Reads as is_plain
use Rattle.plain.proofs.iterinfo.is_month_alone.Kinds as is-month-alone-kinds
use Rattle.plain.proofs.iterinfo.is_month_alone.Reads as is-month-alone
use Rattle.plain.proofs.iterinfo.is_mixed.Kinds as is-mixed-kinds
use Rattle.plain.proofs.iterinfo.is_mixed.Reads as is-mixed
use Rattle.plain.proofs.iterinfo.stretch_end.Kinds as stretch-end-kinds
use Rattle.plain.proofs.iterinfo.stretch_end.Reads as stretch-end
use Rattle.plain.proofs.iterinfo.plain_days.Kinds as plain-days-kinds
use Rattle.plain.proofs.iterinfo.plain_days.Reads as plain-days
use Rattle.plain.proofs.iterinfo.days_by_month.Kinds as days-by-month-kinds
use Rattle.plain.proofs.iterinfo.days_by_month.Reads as days-by-month

pub has_month_has_one : Determines 1 has-month-kinds.ps has-month-kinds.r has-month.Post
has_month_has_one κs a x y e f = one_answer

pub is_plain_has_one : Determines 0 is-plain-kinds.ps is-plain-kinds.r is_plain.Post
is_plain_has_one κs a x y e f = one_answer

pub is_month_alone_has_one : Determines 0 is-month-alone-kinds.ps is-month-alone-kinds.r is-month-alone.Post
is_month_alone_has_one κs a x y e f = one_answer

pub is_mixed_has_one : Determines 0 is-mixed-kinds.ps is-mixed-kinds.r is-mixed.Post
is_mixed_has_one κs a x y e f = one_answer

pub stretch_end_has_one : Determines 0 stretch-end-kinds.ps stretch-end-kinds.r stretch-end.Post
stretch_end_has_one κs a x y e f = one_answer

pub plain_days_has_one : DeterminesBuffer 1 plain-days-kinds.ps plain-days-kinds.r (List ℕ) (λ κs e. e.1.1.1.0.now) plain-days.Post
plain_days_has_one κs a x y e f p q = (one_answer p.0 q.0, one_answer p.1 q.1)

pub days_by_month_has_one : DeterminesBuffer 3 days-by-month-kinds.ps days-by-month-kinds.r (List ℕ) (λ κs e. e.1.1.1.1.0.now) days-by-month.Post
days_by_month_has_one κs a x y e f p q = (one_answer p.0 q.0, one_answer p.1 q.1)

-- and none asks anything of its callers
pub has_month_asks_nothing : AsksNothing 1 has-month-kinds.ps has-month.requires
has_month_asks_nothing κs a = nothing_asked

pub is_plain_asks_nothing : AsksNothing 0 is-plain-kinds.ps is_plain.requires
is_plain_asks_nothing κs a = nothing_asked

pub is_month_alone_asks_nothing : AsksNothing 0 is-month-alone-kinds.ps is-month-alone.requires
is_month_alone_asks_nothing κs a = nothing_asked

pub is_mixed_asks_nothing : AsksNothing 0 is-mixed-kinds.ps is-mixed.requires
is_mixed_asks_nothing κs a = nothing_asked

pub stretch_end_asks_nothing : AsksNothing 0 stretch-end-kinds.ps stretch-end.requires
stretch_end_asks_nothing κs a = nothing_asked

pub plain_days_asks_nothing : AsksNothing 1 plain-days-kinds.ps plain-days.requires
plain_days_asks_nothing κs a = nothing_asked

pub days_by_month_asks_nothing : AsksNothing 3 days-by-month-kinds.ps days-by-month.requires
days_by_month_asks_nothing κs a = nothing_asked
