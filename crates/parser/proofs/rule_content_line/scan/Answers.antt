-- `parser::rule_content_line::scan` meets its contract.
-- Assumes nothing.
use Prim.Native.Nat.{◌+◌, ◌-◌, ◌≤◌, ◌<◌}
use native.Mathlib.Omega.{arith}
use mathlib.Core.Path.{refl, sym, ◌∙◌}
use borrow.Author.Tests.{ltb-true}
use lib.ListN.{length, set, length-set}
use Rattle.std.proofs.Common.{rules}
use Rattle.symbols.proofs.Cuts.{and_both}
use Rattle.recur.specs.Places.{nowhere}
use Rattle.parser.proofs.ScanLaws.{Goes, scan_stops, name_there, name_within, scan_halts, scan_ends, scan_goes}
use Rattle.parser.proofs.rule_content_line.scan.Goals as goal
use Rattle.parser.proofs.rule_content_line.scan.Goals.{Else-not-goes_on, In_ok-name}

pub loop-name-init : goal.loop-name-init
unfolding nowhere
loop-name-init c = (refl, omega arith, refl)

pub returns-in_err-name : goal.returns-in_err-name
returns-in_err-name c =
    let stopped = scan_stops c.loop-name.places c.loop-name.at c.args.text.now c.loop-name.left _ c.in_err-name.ensures ∙ sym c.loop-name.invariant.2 in
    search (rules, stopped)

-- the name is one of the fourteen, and its value stands within the text
there : (c : In_ok-name) → c.in_ok-name.name.value < 14
there c =
    name_there c.loop-name.places c.loop-name.at c.args.text.now c.loop-name.invariant.0 c.loop-name.invariant.1 c.in_ok-name.name c.in_ok-name.ensures

within : (c : In_ok-name) → c.in_ok-name.name.place ≤ length c.args.text.now
within c =
    name_within c.loop-name.places c.loop-name.at c.args.text.now c.loop-name.invariant.0 c.loop-name.invariant.1 c.in_ok-name.name c.in_ok-name.ensures

pub offset_bounds-places-name : goal.offset_bounds-places-name
offset_bounds-places-name c = omega (arith, there c)

pub bounds-places-name : goal.bounds-places-name
bounds-places-name c = omega (arith, there c)

pub value_at-requires : goal.value_at-requires
value_at-requires c = (within c, omega (arith, there c))

pub returns-in_err-place : goal.returns-in_err-place
returns-in_err-place c =
    let stopped =
    scan_halts _ _ _ c.loop-name.invariant.0 c.loop-name.invariant.1 _ c.in_ok-name.ensures c.loop-name.left _ c.in_err-place.ensures ∙ sym c.loop-name.invariant.2 in
    search (rules, stopped)

pub returns-then-not-goes_on : goal.returns-then-not-goes_on
returns-then-not-goes_on c =
    scan_ends _ _ _ c.loop-name.invariant.0 c.loop-name.invariant.1 _ c.in_ok-name.ensures _ c.in_ok-place.ensures _
    (sym c.goes_on.ensures ∙ c.if-not-goes_on.true)
    ∙ sym c.loop-name.invariant.2

-- where the scan goes on, some part is left
some_left : (c : Else-not-goes_on) → 0 < c.loop-name.left
some_left c = ltb-true _ _ (and_both _ _ (sym c.goes_on.ensures ∙ c.if-not-goes_on.false)).0

goes : (c : Else-not-goes_on)
    → Goes c.args.text.now c.loop-name.left c.loop-name.places c.loop-name.at (c.loop-name.left - 1)
    (set c.loop-name.places c.in_ok-name.name.value c.in_ok-name.name.place) (c.in_ok-place.place + 1)
goes c =
    scan_goes _ _ _ c.loop-name.invariant.0 c.loop-name.invariant.1 _ c.in_ok-name.ensures _ c.in_ok-place.ensures _ _
    (omega (arith, some_left c)) (sym c.goes_on.ensures ∙ c.if-not-goes_on.false)

pub overflow_sub-left : goal.overflow_sub-left
overflow_sub-left c = omega (arith, some_left (goal.at.overflow_sub-left c).Else-not-goes_on)

pub overflow_add-at : goal.overflow_add-at
overflow_add-at c = omega (arith, (goes (goal.at.overflow_add-at c).Else-not-goes_on).within, c.well_formed)

pub loop-name-smaller : goal.loop-name-smaller
loop-name-smaller c = omega (arith, some_left (goal.at.loop-name-smaller c).Else-not-goes_on)

pub loop-name-preserved : goal.loop-name-preserved
loop-name-preserved c =
    let on = goes (goal.at.loop-name-preserved c).Else-not-goes_on in
    (simp length-set c.loop-name.invariant.0, on.within, c.loop-name.invariant.2 ∙ on.same)
