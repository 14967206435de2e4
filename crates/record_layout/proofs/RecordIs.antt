-- The record that is read of bytes which hold one.
-- Assumes nothing.
use Rattle.std.specs.Prelude.{Some}
use Prim.Native.Nat.{ℕ}
use mathlib.Core.Path.{◌≡◌, ap, ◌∙◌}
use mathlib.Core.Bool.{true}
use mathlib.Core.List.{List}
use Rattle.rule.specs.declared.rrule.Rule.{Rule}
use Rattle.edge.specs.Layout.{record_in, is_record_bytes, decode_record}
use Rattle.edge.proofs.EdgeLaws.{record_size, record_held}
use Rattle.cursor_layout.specs.Lengths.{of_length}
use Rattle.cursor_layout.proofs.LengthLaws.{of_length_lem}

pub record_is : (bytes : List ℕ) (r : Rule) → is_record_bytes bytes ≡ true → r ≡ record_in (of_length 2564 bytes) → decode_record bytes ≡ Some r
record_is bytes r e f = record_held bytes r e (f ∙ ap record_in (of_length_lem 2564 bytes (record_size bytes e)))
