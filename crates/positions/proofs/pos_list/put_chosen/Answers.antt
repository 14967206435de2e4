-- `positions::pos_list::put_chosen` meets its contract: what the whole stretch writes is what the rest of it writes.
-- Assumes nothing.
use Rattle.std.proofs.Common.{rules}
use mathlib.Core.Path.{◌≡◌, refl, sym, ◌∙◌, ap}
use mathlib.Core.List.{List}
use Prim.Native.Nat.{ℕ, ◌+◌}
use native.Mathlib.Omega.{arith}
use lib.ListN.{length}
use lib.Seq.{sets}
use mathlib.Core.Bool.{true}
use Rattle.rule.specs.Candidates.{chooses}
use Rattle.positions.proofs.PlaceLaws.{taken, left, taken_sets, none_within}
use Rattle.positions.proofs.pos_list.put_chosen.Goals as goal

pub loop-place-init : goal.loop-place-init
loop-place-init c = (search rules, refl, refl)

pub loop-place-preserved-then-not-is_chosen : goal.loop-place-preserved-then-not-is_chosen
loop-place-preserved-then-not-is_chosen c =
    let l = c in
    let a = l.args in
    let e = left a.bysetpos.now a.n l.loop-place.place a.to (search rules) (search rules) in (
      search rules,
      l.loop-place.invariant.1 ∙ ap (λ (xs : List ℕ). l.loop-place.written + length xs) e,
      l.loop-place.invariant.2 ∙ ap (λ (xs : List ℕ). sets l.loop-place.places l.loop-place.written xs) e,
    )

pub loop-place-preserved : goal.loop-place-preserved
loop-place-preserved c =
    let l = c in
    let a = l.args in
    let h : chooses a.bysetpos.now a.n l.loop-place.place ≡ true = search rules in (
      search rules,
      omega (arith, l.loop-place.invariant.1, ap length (taken a.bysetpos.now a.n l.loop-place.place a.to (search rules) h)),
      l.loop-place.invariant.2 ∙ taken_sets a.bysetpos.now a.n l.loop-place.place a.to l.loop-place.written l.loop-place.places (search rules) h,
    )

pub returns : goal.returns
returns c =
    let l = c in
    let a = l.args in
    let e = none_within a.bysetpos.now a.n l.loop-place.place a.to (search rules) in record { value = omega (arith, l.loop-place.invariant.1, ap length e); places_after = sym (l.loop-place.invariant.2 ∙ ap (λ (xs : List ℕ). sets l.loop-place.places l.loop-place.written xs) e) }
