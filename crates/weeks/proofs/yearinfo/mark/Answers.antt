-- `weeks::yearinfo::mark` meets its contract.
-- Assumes nothing.
use mathlib.Core.Path.{◌≡◌, sym, ap, ◌∙◌}
use mathlib.Core.Bool.{Bool, true}
use mathlib.Core.List.{List, ◌++◌}
use Prim.Native.Nat.{ℕ, ◌+◌, ◌-◌, ◌≤◌, ◌<◌}
use native.Mathlib.Omega.{arith}
use lib.ListN.{length, set, take}
use borrow.Rule.Slice.PartMut.{mid_len, post_of, put_mid, put_same}
use Rattle.std.proofs.lemmas.List.{length-take-le, set-append_left, set-append_right}
use Rattle.weeks.proofs.Marks.{mark_none, mark_next}
use Rattle.weeks.proofs.yearinfo.mark.Goals as goal

-- a place that is written in the part is written in the whole
set_in_part : (from n i : ℕ) (was items : List Bool) → from ≤ length was → i < length items
    → put_mid from n was (set items i true) ≡ set (put_mid from n was items) (from + i) true
set_in_part from n i was items h k =
    let rest : List Bool = items ++ post_of from n was in
    let q : from + i - from ≡ i = omega arith in
    ap (λ (l : List Bool). take from was ++ l) (sym (set-append_left items (post_of from n was) i true k))
    ∙ ap (λ (j : ℕ). take from was ++ set rest j true) (sym q)
    ∙ sym (set-append_right (take from was) rest from (from + i) true (length-take-le from was h) (omega arith))

pub loop-flag-init : goal.loop-flag-init
loop-flag-init c =
    let a = c.args in
    let q : a.from + 0 ≡ a.from = omega arith in
    rw (put_same a.from (a.to - a.from) a.mask.now, q) (mark_none a.from a.mask.now)

pub loop-flag-preserved : goal.loop-flag-preserved
loop-flag-preserved c =
    let a = c.args in
    let l = c.loop-flag in
    let n = mid_len a.from a.to a.mask.now (omega (arith, c.requires, c.told-mask)) in
    let q : a.from + (l.flag-index + 1) ≡ a.from + l.flag-index + 1 = omega arith in
    rw (set_in_part a.from (a.to - a.from) l.flag-index a.mask.now l.flag-items (omega (arith, c.requires, c.told-mask)) (omega (arith, l.auto.flag-items, c.loop-flag-test.true)), q)
    (mark_next a.from (a.from + l.flag-index) a.mask.now _ (omega arith) (omega (arith, n, c.requires, c.told-mask, c.loop-flag-test.true)) l.invariant)

pub returns : goal.returns
returns c =
    let a = c.args in
    let l = c.loop-flag in
    let n = mid_len a.from a.to a.mask.now (omega (arith, c.requires, c.told-mask)) in
    let q : a.from + l.flag-index ≡ a.to = omega (arith, n, c.requires, c.loop-flag-test.false, l.auto.flag-index-end) in
    rw q at l.invariant
