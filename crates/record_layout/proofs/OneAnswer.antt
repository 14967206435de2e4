-- One answer: of each public function, two answers that its promise allows are one, and so are the bytes that it leaves. `Post` is the promise as the
-- source states it.
-- Assumes nothing.
use Prim.Native.Nat.{ℕ}
use mathlib.Core.Path.{ap}
use mathlib.Core.List.{List}
use Rattle.calendar.proofs.AsksNothing.{AsksNothing, nothing_asked}
use Rattle.calendar.proofs.Determines.{Determines, DeterminesBuffer, one_answer}
use Rattle.cursor_layout.specs.Lengths.{Put}
use Rattle.record_layout.proofs.record.is_record_bytes.Kinds as is-record-bytes-kinds
use Rattle.record_layout.proofs.record.is_record_bytes.Reads as is-record-bytes
use Rattle.record_layout.proofs.record.record_in.Kinds as record-in-kinds
use Rattle.record_layout.proofs.record.record_in.Reads as record-in
use Rattle.record_layout.proofs.record.put_record.Kinds as put-record-kinds
use Rattle.record_layout.proofs.record.put_record.Reads as put_record

pub is_record_bytes_has_one : Determines 1 is-record-bytes-kinds.ps is-record-bytes-kinds.r is-record-bytes.Post
is_record_bytes_has_one κs a x y e f = one_answer

pub record_in_has_one : Determines 1 record-in-kinds.ps record-in-kinds.r record-in.Post
record_in_has_one κs a x y e f = one_answer

pub put_record_has_one : DeterminesBuffer 2 put-record-kinds.ps put-record-kinds.r (List ℕ) (λ κs e. e.1.0.now) put_record.Post
put_record_has_one κs a x y e f p q = (ap (λ (z : Put). z.written) (one_answer p q), ap (λ (z : Put). z.bytes) (one_answer p q))

-- and none asks anything of its callers
pub is_record_bytes_asks_nothing : AsksNothing 1 is-record-bytes-kinds.ps is-record-bytes.requires
is_record_bytes_asks_nothing κs a = nothing_asked

pub record_in_asks_nothing : AsksNothing 1 record-in-kinds.ps record-in.requires
record_in_asks_nothing κs a = nothing_asked

pub put_record_asks_nothing : AsksNothing 2 put-record-kinds.ps put_record.requires
put_record_asks_nothing κs a = nothing_asked
