-- `validator::entries::mark_pairs` meets its contract: the set that all pairs mark is what the rest of them marks.
-- Assumes nothing.
use Rattle.std.proofs.Common.{rules, ◌≡◌, refl, sym, ap, ◌∙◌, length, ℤ, Iter}
use Rattle.rule.specs.Lists.{pair_slot, mark}
use Rattle.rule.proofs.EntryLaws.{length_mark}
use Rattle.validator.proofs.ListLaws.{pairs_next, pairs_over}
use Rattle.validator.proofs.entries.mark_pairs.Goals as goal

pub loop-n-init : goal.loop-n-init
loop-n-init c = (refl, search rules)

pub loop-n-preserved : goal.loop-n-preserved
loop-n-preserved c =
    let l = c.loop-n in
    let e : c.mark_slot.new.flags ≡ mark l.flags (pair_slot c.in-Some.n.now c.in-Some.w.now) = c.mark_slot.ensures ∙ ap (mark l.flags) (search rules) in (
      ap length e ∙ length_mark l.flags (pair_slot c.in-Some.n.now c.in-Some.w.now) ∙ l.invariant.0,
      l.invariant.1 ∙ pairs_next l.flags c.mark_slot.new.flags c.in-Some.ensures.steps.0 c.in-Some.ensures.steps.1 e,
    )

pub returns : goal.returns
returns c =
    let s = c.loop-n.n-iterator in
    sym
    (c.loop-n.invariant.1
    ∙ pairs_over {I = Iter ℤ} {P = λ x. x ≡ s.a} {Q = λ x. x ≡ s.b} c.loop-n.flags s.a.rest.now s.b.rest.now c.in-None.ensures.steps)
