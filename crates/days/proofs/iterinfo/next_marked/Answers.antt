-- `days::iterinfo::next_marked` meets its contract.
-- Assumes nothing.
use mathlib.Core.Path.{◌≡◌}
use mathlib.Core.Bool.{Bool, false, ◌||◌}
use Rattle.days.proofs.Blanks.{search_begins, search_on, search_joins, eight_blank}
use Rattle.days.proofs.iterinfo.next_marked.Goals as goal

pub loop-at-init : goal.loop-at-init
loop-at-init c = let a = c.args in search_begins a.marks.now a.from a.to c.requires.0

pub first_marked-requires : goal.first_marked-requires
first_marked-requires c = let l = c in (l.loop-at.invariant.high, l.requires.1)

pub returns-then-some_of_four : goal.returns-then-some_of_four
returns-then-some_of_four c =
    let l = c in
    let a = l.args in
    search_joins a.marks.now a.from a.to l.loop-at.at c.first_marked.result l.loop-at.invariant c.first_marked.ensures

-- what two calls answer is what is promised of them
neither_marked : (a b x y : Bool) → a ≡ x → b ≡ y → (a || b) ≡ false → (x || y) ≡ false
neither_marked a b x y e f h = rw (← e, ← f) h

pub loop-at-preserved : goal.loop-at-preserved
loop-at-preserved c =
    let l = c in
    let a = l.args in
    search_on a.marks.now a.from a.to l.loop-at.at 8 l.loop-at.invariant c.loop-at-test.true
    (eight_blank a.marks.now l.loop-at.at (neither_marked c.some_of_four.result c.some_of_four-in-loop-at.result _ _ c.some_of_four.ensures c.some_of_four-in-loop-at.ensures c.if-some_of_four.false))

pub first_marked-requires-2 : goal.first_marked-requires-2
first_marked-requires-2 c = (c.loop-at.invariant.high, c.requires.1)

pub returns : goal.returns
returns c =
    let l = c in
    let a = l.args in
    search_joins a.marks.now a.from a.to l.loop-at.at c.first_marked-2.result l.loop-at.invariant c.first_marked-2.ensures
