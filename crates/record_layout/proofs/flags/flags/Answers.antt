-- `record_layout::flags::flags` meets its contract: what is taken stands first, and the rest completes it.
-- Assumes nothing.
use Rattle.std.proofs.Common.{rules, ◌≡◌, refl, ap, ◌∙◌, ℕ, ◌+◌, ◌-◌, arith, eqb, length, get_or, length-set}
use Rattle.std.proofs.lemmas.List.{length-replicate}
use Rattle.rule.specs.Lists.{flags}
use Rattle.edge.specs.Bytes.{flags_at}
use Rattle.edge.proofs.ByteLaws.{take_next, take_done}
use Rattle.record_layout.proofs.flags.flags.Goals as goal

pub loop-slot-init : goal.loop-slot-init
unfolding flags_at
loop-slot-init g c =
    let a = c.args in
    let z : g.row.N - 0 ≡ g.row.N = omega arith in
    (search rules, length-replicate g.row.N _, ap (λ (k : ℕ). flags (λ (slot : ℕ). eqb (get_or a.bytes.now (a.from + slot) 0) 1) k 0) z)

pub loop-slot-preserved : goal.loop-slot-preserved
loop-slot-preserved g c =
    let l = c.loop-slot in
    let a = c.args in (
      search rules,
      simp length-set l.invariant.1,
      take_next (λ (slot : ℕ). eqb (get_or a.bytes.now (a.from + slot) 0) 1) g.row.N l.flag-items (flags_at a.bytes.now a.from g.row.N) l.slot
          (search rules) l.invariant.1 l.invariant.2,
    )

pub returns : goal.returns
returns g c =
    let l = c.loop-slot in
    let a = c.args in
    take_done (λ (slot : ℕ). eqb (get_or a.bytes.now (a.from + slot) 0) 1) g.row.N l.flag-items (flags_at a.bytes.now a.from g.row.N) l.slot
    (search rules) l.invariant.1 l.invariant.2
