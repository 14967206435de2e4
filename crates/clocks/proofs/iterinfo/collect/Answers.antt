-- `clocks::iterinfo::collect` meets its contract: past i flags the list holds the values of those that were set.
-- Assumes nothing.
use Rattle.std.proofs.Common.{rules}
use Prim.Native.Nat.{ℕ, ◌+◌, ◌-◌, ◌<◌}
use mathlib.Core.Path.{◌≡◌, refl, sym, ◌∙◌, ap}
use mathlib.Core.Bool.{Bool, true, false}
use mathlib.Core.List.{List}
use native.Mathlib.Omega.{arith}
use lib.ListN.{length, get_or, take, drop, length-take}
use Rattle.std.proofs.lemmas.List.Edits.{get_or-between}
use Rattle.clocks.specs.Clocks.{written, flagged}
use Rattle.clocks.proofs.Rows.{past_none, past_skip, past_take}
use Rattle.clocks.proofs.iterinfo.collect.Goals as goal
use Rattle.clocks.proofs.iterinfo.collect.Goals.{then-flag, else-flag}

pub loop-i-init : goal.loop-i-init
loop-i-init c = (search rules, search rules, refl, past_none c.args.list.now c.args.from c.args.flags.now)

-- a flag's place lies in the part, and is read there as in the whole
below_size : (flags : List Bool) (from size i : ℕ) → i < length (take (from + size - from) (drop from flags)) → i < size
below_size flags from size i h = omega (arith, length-take (from + size - from) (drop from flags))

as_in_whole : (flags : List Bool) (from size i : ℕ) (b : Bool) → i < size → get_or (take (from + size - from) (drop from flags)) i false ≡ b
    → get_or flags (from + i) false ≡ b
as_in_whole flags from size i b h e = sym (get_or-between flags from (from + size) i false (omega arith)) ∙ e

pub loop-i-preserved : goal.loop-i-preserved
loop-i-preserved c =
    let a = c.args in
    let l = c.loop-i in
    let h : l.i < a.size = below_size a.flags.now a.from a.size l.i c.loop-i-test.true in
    elim c.if-flag.branch [
      | then-flag w ↦ (
        omega arith,
        omega arith,
        c.if-flag.auto.list ∙ l.auto.list,
        rw (w.list-is, w.count-is) (past_take a.list.now a.from a.flags.now l.i l.list l.count (as_in_whole a.flags.now a.from a.size l.i true h w.if-flag.true) l.invariant.3),
      )
      | else-flag w ↦ (
        omega arith,
        omega arith,
        c.if-flag.auto.list ∙ l.auto.list,
        rw (w.list-is, w.count-is) (past_skip a.list.now a.from a.flags.now l.i l.list l.count (as_in_whole a.flags.now a.from a.size l.i false h w.if-flag.false) l.invariant.3),
      )
    ]

pub shape_of-list : goal.shape_of-list
shape_of-list c = c.loop-i.invariant.2

pub returns : goal.returns
returns c =
    let l = c in
    let a = l.args in
    let e : l.loop-i.i ≡ a.size = omega arith in record { counts = l.loop-i.invariant.3.counts ∙ ap (λ (n : ℕ). length (flagged a.from n a.flags.now)) e; lists = l.loop-i.invariant.3.lists ∙ ap (λ (n : ℕ). written a.list.now a.from (flagged a.from n a.flags.now)) e }
