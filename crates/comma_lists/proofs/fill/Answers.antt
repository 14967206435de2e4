-- `comma_lists::fill` meets its contract: with the entries still to be read the slots are those of the whole list.
-- Assumes nothing.
use Rattle.std.specs.Prelude.{IsOk}
use Rattle.std.proofs.Common.{rules}
use native.Mathlib.Omega.{arith}
use mathlib.Core.Path.{refl, sym, subst⁻¹, ◌∙◌}
use lib.ListN.{drop}
use Rattle.recur.proofs.ShownLaws.{is_shown}
use Rattle.comma_lists.proofs.ListLaws.{lists, seen, entry_value}
use Rattle.comma_lists.proofs.FillLaws.{stored_on, fills_first, entry_whole, fills_on, left_on, fills_off, fills_last}
use Rattle.comma_lists.proofs.fill.Goals as goal

pub loop-slot-init : goal.loop-slot-init
loop-slot-init g c = (fills_first _ _ _ _ c.requires.0 c.requires.1 (omega arith), record { slots = refl })

pub read-requires : goal.read-requires
read-requires g c = c.loop-slot.invariant.0.inside

pub unwrap-entry-requires : goal.unwrap-entry-requires
unwrap-entry-requires g c =
    let r = lists _ (g.met.E.Entries.within c.args.entries.now) in
    subst⁻¹ (λ x. IsOk x) c.read.ensures (is_shown (g.E.Entries.take c.args.entries.now c.loop-slot.place (drop c.loop-slot.place c.args.text.now)) (entry_whole r c.loop-slot.invariant.0))

pub returns-then-not-is_at : goal.returns-then-not-is_at
returns-then-not-is_at g c =
    let r = lists _ (g.met.E.Entries.within c.args.entries.now) in
    let e = sym c.unwrap-entry.ensures ∙ c.read.ensures in
    let z = fills_off r c.loop-slot.invariant.0 (seen (g.E.Entries.take c.args.entries.now) c.args.text.now c.loop-slot.place e) c.is_at.ensures c.if-not-is_at.true in
    ((stored_on c.loop-slot.invariant.1 _ _ c.store.ensures refl (search rules ∙ entry_value (g.E.Entries.take c.args.entries.now) c.args.text.now c.loop-slot.place e) z.left).slots, z.number)

pub loop-slot-preserved : goal.loop-slot-preserved
loop-slot-preserved g c =
    let r = lists _ (g.met.E.Entries.within c.args.entries.now) in
    let e = sym c.unwrap-entry.ensures ∙ c.read.ensures in
    let s = seen (g.E.Entries.take c.args.entries.now) c.args.text.now c.loop-slot.place e in (
      fills_on r c.loop-slot.invariant.0 s c.is_at.ensures c.if-not-is_at.false (omega arith),
      stored_on c.loop-slot.invariant.1 _ _ c.store.ensures refl (search rules ∙ entry_value (g.E.Entries.take c.args.entries.now) c.args.text.now c.loop-slot.place e)
          (left_on r c.loop-slot.invariant.0 s c.is_at.ensures c.if-not-is_at.false (omega arith)),
    )

pub read-requires-2 : goal.read-requires-2
read-requires-2 g c = c.loop-slot.invariant.0.inside

pub unwrap-last-requires : goal.unwrap-last-requires
unwrap-last-requires g c =
    let r = lists _ (g.met.E.Entries.within c.args.entries.now) in
    subst⁻¹ (λ x. IsOk x) c.read-2.ensures (is_shown (g.E.Entries.take c.args.entries.now c.loop-slot.place (drop c.loop-slot.place c.args.text.now)) (entry_whole r c.loop-slot.invariant.0))

pub returns : goal.returns
returns g c =
    let r = lists _ (g.met.E.Entries.within c.args.entries.now) in
    let e = sym c.unwrap-last.ensures ∙ c.read-2.ensures in
    let z = fills_last r c.loop-slot.invariant.0 (omega arith) in
    ((stored_on c.loop-slot.invariant.1 _ _ c.store-2.ensures (omega arith) (search rules ∙ entry_value (g.E.Entries.take c.args.entries.now) c.args.text.now c.loop-slot.place e) z.left).slots, omega (arith, z.number))
