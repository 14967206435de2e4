-- `comma_lists::fill_days` meets its contract: with the days still to be read the slots of both lists are those of the whole list.
-- Assumes nothing.
use Rattle.std.specs.Prelude.{IsOk}
use Rattle.std.proofs.Common.{rules}
use Prim.Native.Nat.{ℕ}
use native.Mathlib.Omega.{arith}
use mathlib.Core.Path.{refl, sym, ap, subst⁻¹, ◌∙◌}
use mathlib.Core.List.{List, map}
use lib.ListN.{drop}
use lib.IntN.{ℤ}
use Rattle.symbols.specs.Languages.{Both}
use Rattle.symbols.specs.Readers.{turned_into}
use Rattle.recur.specs.declared.Day.{Day}
use Rattle.recur.specs.Grammar.{nth_of, weekday_of}
use Rattle.recur.specs.Reading.{day_at}
use Rattle.recur.specs.Shown.{day_of}
use Rattle.recur.proofs.ShownLaws.{is_shown}
use Rattle.comma_lists.proofs.ListLaws.{day_lists, seen_day, day_value}
use Rattle.comma_lists.proofs.FillLaws.{stored_on, fills_first, entry_whole, fills_on, left_on, fills_off, fills_last}
use Rattle.comma_lists.proofs.fill_days.Goals as goal

-- the halves of the days of a list
abbrev nths : List (Both ℤ ℕ) → List ℤ
nths ds = map nth_of ds

abbrev weekdays : List (Both ℤ ℕ) → List ℤ
weekdays ds = map weekday_of ds

pub loop-count-init : goal.loop-count-init
loop-count-init c = (fills_first _ _ _ _ c.requires.0 c.requires.1 (omega arith), record { slots = refl }, record { slots = refl })

pub day_at-requires : goal.day_at-requires
day_at-requires c = c.loop-count.invariant.0.inside

pub unwrap-day-requires : goal.unwrap-day-requires
unwrap-day-requires c =
    let k = turned_into day_of (day_at c.loop-count.place (drop c.loop-count.place c.args.text.now)) in
    subst⁻¹ (λ x. IsOk x) c.day_at.ensures (is_shown k (entry_whole day_lists c.loop-count.invariant.0))

pub returns-then-not-is_at : goal.returns-then-not-is_at
returns-then-not-is_at c =
    let e = sym c.unwrap-day.ensures ∙ c.day_at.ensures in
    let d = day_value c.args.text.now c.loop-count.place e in
    let z = fills_off day_lists c.loop-count.invariant.0 (seen_day c.args.text.now c.loop-count.place e) c.is_at.ensures c.if-not-is_at.true in (
      (stored_on c.loop-count.invariant.1 _ _ c.store.ensures refl (search rules ∙ ap (λ (x : Day). x.nth) d) (ap nths z.left)).slots,
      (stored_on c.loop-count.invariant.2 _ _ c.store-in-loop-count.ensures refl (search rules ∙ ap (λ (x : Day). x.weekday) d) (ap weekdays z.left)).slots,
      z.number,
    )

pub loop-count-preserved : goal.loop-count-preserved
loop-count-preserved c =
    let e = sym c.unwrap-day.ensures ∙ c.day_at.ensures in
    let s = seen_day c.args.text.now c.loop-count.place e in
    let d = day_value c.args.text.now c.loop-count.place e in
    let l = left_on day_lists c.loop-count.invariant.0 s c.is_at.ensures c.if-not-is_at.false (omega arith) in (
      fills_on day_lists c.loop-count.invariant.0 s c.is_at.ensures c.if-not-is_at.false (omega arith),
      stored_on c.loop-count.invariant.1 _ _ c.store.ensures refl (search rules ∙ ap (λ (x : Day). x.nth) d) (ap nths l),
      stored_on c.loop-count.invariant.2 _ _ c.store-in-loop-count.ensures refl (search rules ∙ ap (λ (x : Day). x.weekday) d) (ap weekdays l),
    )

pub day_at-requires-2 : goal.day_at-requires-2
day_at-requires-2 c = c.loop-count.invariant.0.inside

pub unwrap-last-requires : goal.unwrap-last-requires
unwrap-last-requires c =
    let k = turned_into day_of (day_at c.loop-count.place (drop c.loop-count.place c.args.text.now)) in
    subst⁻¹ (λ x. IsOk x) c.day_at-2.ensures (is_shown k (entry_whole day_lists c.loop-count.invariant.0))

pub returns : goal.returns
returns c =
    let e = sym c.unwrap-last.ensures ∙ c.day_at-2.ensures in
    let d = day_value c.args.text.now c.loop-count.place e in
    let z = fills_last day_lists c.loop-count.invariant.0 (omega arith) in (
      (stored_on c.loop-count.invariant.1 _ _ c.store-2.ensures (omega arith) (search rules ∙ ap (λ (x : Day). x.nth) d) (ap nths z.left)).slots,
      (stored_on c.loop-count.invariant.2 _ _ c.store-3.ensures (omega arith) (search rules ∙ ap (λ (x : Day). x.weekday) d) (ap weekdays z.left)).slots,
      omega (arith, z.number),
    )
