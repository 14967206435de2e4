-- `positions::pos_list::is_chosen` meets its contract.
-- Assumes nothing.
use Rattle.std.proofs.Common.{arith, sym, ◌≡◌, ◌∙◌}
use Rattle.std.specs.Prelude.{pos, neg_ℤ, ◌+◌, ◌-◌}
use borrow.Author.Tests.{le-ltb, lt-leb}
use Rattle.rule.specs.Lists.{positions, is_in}
use Rattle.positions.proofs.PositionLaws.{chooses_is, forward_at, forward_out, from_end_at, from_end_out}
use Rattle.positions.proofs.pos_list.is_chosen.Goals as goal
use Rattle.positions.proofs.pos_list.is_chosen.Goals.{then-place-lt366, else-place-lt366, then-behind-le366, else-behind-le366}

pub returns : goal.returns
returns c =
    let a = c.args in
    let s = a.bysetpos.now in
    let forward : c.if-place-lt366.forward ≡ is_in positions s (pos (a.place + 1)) = elim c.if-place-lt366.branch [
      | then-place-lt366 w ↦ w.forward-is ∙ forward_at s (a.place + 1) _ (omega arith) (omega arith) (omega arith)
      | else-place-lt366 w ↦ w.forward-is ∙ le-ltb _ _ w.if-place-lt366.false ∙ sym (forward_out s (a.place + 1) (omega arith))
    ] in
    let from_end : c.if-behind-le366.from_end ≡ is_in positions s (neg_ℤ (pos (a.n - a.place))) = elim c.if-behind-le366.branch [
      | then-behind-le366 w ↦ w.from_end-is ∙ from_end_at s (a.n - a.place) _ (omega arith) (omega arith) (omega arith)
      | else-behind-le366 w ↦ w.from_end-is ∙ lt-leb _ _ w.if-behind-le366.false ∙ sym (from_end_out s (a.n - a.place) (omega arith))
    ] in
    chooses_is s a.n a.place forward from_end
