-- `record_layout::flags::flags` meets its contract: what is taken stands first, and the rest completes it.
-- Assumes nothing.
use Rattle.std.proofs.Common.{◌≡◌, ◌≤◌, ◌+◌, ◌-◌, ◌++◌, ℕ, eqb, length, take, get_or}
use Rattle.rule.specs.Lists.{flags}
use Rattle.edge.specs.Bytes.{flags_at}
use Rattle.record_layout.proofs.flags.flags.Given as goal

abbrev pub invariant-loop-slot : goal.invariant-loop-slot
invariant-loop-slot g l =
    (l.slot ≤ g.row.N) × (length l.flag-items ≡ g.row.N)
    × (take l.slot l.flag-items ++ flags (λ (slot : ℕ). eqb (get_or l.bytes (l.from + slot) 0) 1) (g.row.N - l.slot) l.slot ≡ flags_at l.bytes l.from g.row.N)
