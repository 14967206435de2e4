-- One answer: of each public function, two answers that its promise allows are one, and so are the bytes that it leaves. `Post` is the promise as the
-- source states it.
-- Assumes nothing.
use Prim.Native.Nat.{ℕ}
use mathlib.Core.Path.{refl, ap}
use mathlib.Core.List.{List}
use Rattle.calendar.proofs.AsksNothing.{AsksNothing, nothing_asked}
use Rattle.calendar.proofs.Determines.{Determines, DeterminesBuffer, one_answer}
use Rattle.cursor_layout.specs.Lengths.{Put}
use Rattle.cursor_layout.proofs.numbers.read_2.Kinds as read-2-kinds
use Rattle.cursor_layout.proofs.numbers.read_2.Reads as read-2
use Rattle.cursor_layout.proofs.numbers.read_4.Kinds as read-4-kinds
use Rattle.cursor_layout.proofs.numbers.read_4.Reads as read-4
use Rattle.cursor_layout.proofs.numbers.read_8.Kinds as read-8-kinds
use Rattle.cursor_layout.proofs.numbers.read_8.Reads as read-8
use Rattle.cursor_layout.proofs.numbers.put_1.Kinds as put-1-kinds
use Rattle.cursor_layout.proofs.numbers.put_1.Reads as put_1
use Rattle.cursor_layout.proofs.numbers.put_2.Kinds as put-2-kinds
use Rattle.cursor_layout.proofs.numbers.put_2.Reads as put_2
use Rattle.cursor_layout.proofs.numbers.put_4.Kinds as put-4-kinds
use Rattle.cursor_layout.proofs.numbers.put_4.Reads as put_4
use Rattle.cursor_layout.proofs.numbers.put_8.Kinds as put-8-kinds
use Rattle.cursor_layout.proofs.numbers.put_8.Reads as put-8
use Rattle.cursor_layout.proofs.cursor.state_number.Kinds as state-number-kinds
use Rattle.cursor_layout.proofs.cursor.state_number.Reads as state-number
use Rattle.cursor_layout.proofs.cursor.is_cursor_bytes.Kinds as is-cursor-bytes-kinds
use Rattle.cursor_layout.proofs.cursor.is_cursor_bytes.Reads as is-cursor-bytes
use Rattle.cursor_layout.proofs.cursor.cursor_in.Kinds as cursor-in-kinds
use Rattle.cursor_layout.proofs.cursor.cursor_in.Reads as cursor-in
use Rattle.cursor_layout.proofs.cursor.decode_cursor.Kinds as decode-cursor-kinds
use Rattle.cursor_layout.proofs.cursor.decode_cursor.Reads as decode-cursor
use Rattle.cursor_layout.proofs.cursor.put_cursor.Kinds as put-cursor-kinds
use Rattle.cursor_layout.proofs.cursor.put_cursor.Reads as put-cursor

pub read_2_has_one : Determines 1 read-2-kinds.ps read-2-kinds.r read-2.Post
read_2_has_one κs a x y e f p q = one_answer p.0 q.0

pub read_4_has_one : Determines 1 read-4-kinds.ps read-4-kinds.r read-4.Post
read_4_has_one κs a x y e f p q = one_answer p.0 q.0

pub read_8_has_one : Determines 1 read-8-kinds.ps read-8-kinds.r read-8.Post
read_8_has_one κs a x y e f = one_answer

pub put_1_has_one : DeterminesBuffer 1 put-1-kinds.ps put-1-kinds.r (List ℕ) (λ κs e. e.0.now) put_1.Post
put_1_has_one κs a x y e f p q = (refl, one_answer p q)

pub put_2_has_one : DeterminesBuffer 1 put-2-kinds.ps put-2-kinds.r (List ℕ) (λ κs e. e.0.now) put_2.Post
put_2_has_one κs a x y e f p q = (refl, one_answer p q)

pub put_4_has_one : DeterminesBuffer 1 put-4-kinds.ps put-4-kinds.r (List ℕ) (λ κs e. e.0.now) put_4.Post
put_4_has_one κs a x y e f p q = (refl, one_answer p q)

pub put_8_has_one : DeterminesBuffer 1 put-8-kinds.ps put-8-kinds.r (List ℕ) (λ κs e. e.0.now) put-8.Post
put_8_has_one κs a x y e f p q = (refl, one_answer p q)

pub state_number_has_one : Determines 0 state-number-kinds.ps state-number-kinds.r state-number.Post
state_number_has_one κs a x y e f = one_answer

pub is_cursor_bytes_has_one : Determines 1 is-cursor-bytes-kinds.ps is-cursor-bytes-kinds.r is-cursor-bytes.Post
is_cursor_bytes_has_one κs a x y e f = one_answer

pub cursor_in_has_one : Determines 1 cursor-in-kinds.ps cursor-in-kinds.r cursor-in.Post
cursor_in_has_one κs a x y e f = one_answer

pub decode_cursor_has_one : Determines 1 decode-cursor-kinds.ps decode-cursor-kinds.r decode-cursor.Post
decode_cursor_has_one κs a x y e f = one_answer

pub put_cursor_has_one : DeterminesBuffer 1 put-cursor-kinds.ps put-cursor-kinds.r (List ℕ) (λ κs e. e.1.0.now) put-cursor.Post
put_cursor_has_one κs a x y e f p q = (ap (λ (z : Put). z.written) (one_answer p q), ap (λ (z : Put). z.bytes) (one_answer p q))

-- and none asks anything of its callers
pub read_2_asks_nothing : AsksNothing 1 read-2-kinds.ps read-2.requires
read_2_asks_nothing κs a = nothing_asked

pub read_4_asks_nothing : AsksNothing 1 read-4-kinds.ps read-4.requires
read_4_asks_nothing κs a = nothing_asked

pub read_8_asks_nothing : AsksNothing 1 read-8-kinds.ps read-8.requires
read_8_asks_nothing κs a = nothing_asked

pub put_1_asks_nothing : AsksNothing 1 put-1-kinds.ps put_1.requires
put_1_asks_nothing κs a = nothing_asked

pub put_2_asks_nothing : AsksNothing 1 put-2-kinds.ps put_2.requires
put_2_asks_nothing κs a = nothing_asked

pub put_4_asks_nothing : AsksNothing 1 put-4-kinds.ps put_4.requires
put_4_asks_nothing κs a = nothing_asked

pub put_8_asks_nothing : AsksNothing 1 put-8-kinds.ps put-8.requires
put_8_asks_nothing κs a = nothing_asked

pub state_number_asks_nothing : AsksNothing 0 state-number-kinds.ps state-number.requires
state_number_asks_nothing κs a = nothing_asked

pub is_cursor_bytes_asks_nothing : AsksNothing 1 is-cursor-bytes-kinds.ps is-cursor-bytes.requires
is_cursor_bytes_asks_nothing κs a = nothing_asked

pub cursor_in_asks_nothing : AsksNothing 1 cursor-in-kinds.ps cursor-in.requires
cursor_in_asks_nothing κs a = nothing_asked

pub decode_cursor_asks_nothing : AsksNothing 1 decode-cursor-kinds.ps decode-cursor.requires
decode_cursor_asks_nothing κs a = nothing_asked

pub put_cursor_asks_nothing : AsksNothing 1 put-cursor-kinds.ps put-cursor.requires
put_cursor_asks_nothing κs a = nothing_asked
