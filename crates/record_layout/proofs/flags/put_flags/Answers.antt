-- `record_layout::flags::put_flags` meets its contract: what is left to write completes the bytes.
-- Assumes nothing.
use Rattle.std.proofs.Common.{rules, ◌≡◌, refl, sym, ap, ◌∙◌, ℕ, ◌+◌, arith, set, get_or, drop, length-set, false}
use Rattle.std.proofs.lemmas.List.Edits.{sets}
use Rattle.edge.specs.Bytes.{flag_bytes}
use Rattle.edge.proofs.ByteLaws.{put_next, put_done}
use Rattle.record_layout.proofs.OptionLaws.{bit_is}
use Rattle.record_layout.proofs.flags.put_flags.Goals as goal

pub loop-slot-init : goal.loop-slot-init
loop-slot-init c =
    let a = c.args in
    let z : a.from + 0 ≡ a.from = omega arith in
    (search rules, refl, ap (λ (k : ℕ). sets a.bytes.now k (flag_bytes a.flags.now)) z)

pub loop-slot-preserved : goal.loop-slot-preserved
loop-slot-preserved c =
    let l = c.loop-slot in
    let a = c.args in (
      search rules,
      simp length-set l.invariant.1,
      ap (λ (b : ℕ). sets (set l.bytes (a.from + l.slot) b) (a.from + (l.slot + 1)) (flag_bytes (drop (l.slot + 1) a.flags.now)))
          (bit_is (get_or a.flags.now l.slot false))
          ∙ sym (put_next l.bytes a.from l.slot a.flags.now (search rules)) ∙ l.invariant.2,
    )

pub returns : goal.returns
returns c =
    let l = c.loop-slot in
    sym (put_done l.bytes c.args.from l.slot c.args.flags.now (search rules)) ∙ l.invariant.2
