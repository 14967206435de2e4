-- `clocks::iterinfo::put` meets its contract: the row holds so much of the set as was passed.
-- Assumes nothing.
use Rattle.std.proofs.Common.{rules}
use Prim.Native.Nat.{◌+◌}
use mathlib.Core.Path.{refl, ◌∙◌, ap}
use mathlib.Core.Bool.{Bool, false, ◌||◌}
use lib.ListN.{get_or, set, length-set}
use Rattle.clocks.proofs.Rows.{put_none, put_next, put_all}
use Rattle.clocks.proofs.iterinfo.put.Goals as goal

pub loop-i-init : goal.loop-i-init
loop-i-init c = (search rules, refl, put_none c.args.set.now _ _)

pub loop-i-preserved : goal.loop-i-preserved
loop-i-preserved c =
    let l = c in
    let a = l.args in (
      search rules,
      simp length-set (search rules),
      ap (λ (b : Bool). set l.loop-i.flags (a.from + l.loop-i.i) (get_or a.set.now l.loop-i.i false || b)) l.is_empty-all.ensures
          ∙ put_next a.set.now a.flags.now l.loop-i.flags a.from l.loop-i.i (search rules) l.loop-i.invariant.2,
    )

pub shape_of-flags : goal.shape_of-flags
shape_of-flags c = c.loop-i.invariant.1

pub returns : goal.returns
returns c =
    let l = c in
    let a = l.args in
    l.loop-i.invariant.2 ∙ put_all a.set.now a.flags.now a.from l.loop-i.i (search rules)
