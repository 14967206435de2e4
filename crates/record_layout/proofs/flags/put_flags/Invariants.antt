-- `record_layout::flags::put_flags` meets its contract: what is left to write completes the bytes.
-- Assumes nothing.
use Rattle.std.proofs.Common.{◌≡◌, ◌≤◌, ◌+◌, length, drop}
use Rattle.std.proofs.lemmas.List.Edits.{sets}
use Rattle.edge.specs.Bytes.{flag_bytes}
use Rattle.record_layout.proofs.flags.put_flags.Given as goal

abbrev pub invariant-loop-slot : goal.invariant-loop-slot
invariant-loop-slot l =
    (l.slot ≤ length l.flags) × (length l.bytes ≡ length l.initial.bytes)
    × (sets l.bytes (l.from + l.slot) (flag_bytes (drop l.slot l.flags)) ≡ sets l.initial.bytes l.from (flag_bytes l.flags))
