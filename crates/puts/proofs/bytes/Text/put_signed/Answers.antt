-- `puts::bytes::Text::put_signed` meets its contract: the sign, if there is one, and the digits behind it.
-- Assumes nothing.
use mathlib.Core.Path.{refl, ap, ◌∙◌}
use mathlib.Core.List.{List, ◌++◌}
use Prim.Native.Nat.{ℕ}
use mir.Syntax.{w16}
use mir.ValLaws.{to_z-of_z}
use Rattle.std.specs.Prelude.{unsigned_abs}
use Rattle.recur.specs.Writing.{decimal}
use Rattle.puts.specs.Put.{Puts}
use Rattle.puts.proofs.PutLaws.{first_room, next_room, put_none, put_of, put_both}
use Rattle.puts.proofs.DigitLaws.{sign_text, sign_and_digits, signed_below, unsigned_from}
use Rattle.puts.proofs.bytes.Text.put_signed.Goals as goal
use Rattle.puts.proofs.bytes.Text.put_signed.Goals.{Joined-value-lt0, then-value-lt0, else-value-lt0}

-- the sign is put, if there is one
signed : (c : Joined-value-lt0) → Puts c.args.self.now (sign_text c.args.value) c.if-value-lt0.self
signed c =
    let same = to_z-of_z w16 _ c.ranges.value in
    elim c.if-value-lt0.branch [
      | then-value-lt0 w ↦ rw w.self-is (put_of (signed_below _ (rw same at w.if-value-lt0.true)) w.put_byte.ensures)
      | else-value-lt0 w ↦ rw w.self-is (put_of (unsigned_from _ (rw same at w.if-value-lt0.false)) (put_none _))
    ]

pub put_byte-requires : goal.put_byte-requires
put_byte-requires c =
    let v = c.args.value in
    let digits = decimal (unsigned_abs v) in
    let below = rw (to_z-of_z w16 _ c.ranges.value) at c.if-value-lt0.true in
    first_room digits (ap (λ (xs : List ℕ). xs ++ digits) (signed_below v below) ∙ sign_and_digits v _ refl) c.requires

pub put_number-requires : goal.put_number-requires
put_number-requires c =
    let digits = rw (to_z-of_z w16 _ c.ranges.value) at c.unsigned_abs.ensures.value in
    next_room (sign_and_digits c.args.value _ digits) c.requires (signed (goal.at.put_number-requires c).Joined-value-lt0)

pub returns : goal.returns
returns c =
    let digits = rw (to_z-of_z w16 _ c.ranges.value) at c.unsigned_abs.ensures.value in
    put_both (sign_and_digits c.args.value _ digits) (signed (goal.at.returns c).Joined-value-lt0) c.put_number.ensures
