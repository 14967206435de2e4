-- `record_layout::flags::are_flags` meets its contract: what is left decides, if the highest byte so far is a flag.
-- Assumes nothing.
use Rattle.std.proofs.Common.{◌≡◌, ◌≤◌, ◌&&◌, leb, length, drop}
use Rattle.edge.specs.Bytes.{are_flags}
use Rattle.record_layout.proofs.flags.are_flags.Given as goal

abbrev pub invariant-loop-byte : goal.invariant-loop-byte
invariant-loop-byte l = (l.byte-index ≤ length l.bytes) × (are_flags l.bytes ≡ leb l.highest 1 && are_flags (drop l.byte-index l.bytes))
