-- The plan of a good record.
-- Assumes nothing.
use Rattle.std.specs.Prelude.{Option, Some, None}
use Prim.Native.Nat.{ℕ, ◌≤◌}
use mathlib.Core.Path.{◌≡◌, refl, ap, ◌∙◌}
use mathlib.Core.Bool.{false}
use borrow.Author.Tests.{le-ltb, ltb-false}
use Rattle.rule.specs.declared.rrule.Rule.{Rule}
use Rattle.rule.specs.Instants.{last_instant, second}
use Rattle.rule.specs.Refusals.{until_out}
use Rattle.plans.specs.Plans.{plan_from, until_second, plan_of, second_in, until_in, plan_in}
use Rattle.opened.proofs.Yielded.{Good}

-- in range, an instant is its second
second_is : (t : ℕ) → t ≤ last_instant → second_in t ≡ second t
unfolding second_in
second_is t h = rw (le-ltb last_instant t h)

until_is : (u : Option ℕ) → until_out u ≡ false → until_in u ≡ until_second u
until_is None e = refl
until_is (Some t) e = ap (λ (s : ℕ). Some s) (second_is t (ltb-false last_instant t e))

pub plan_is : (r : Rule) → Good r → plan_in r ≡ plan_of r
unfolding plan_in plan_of
plan_is r fit =
    ap (λ (s : ℕ). plan_from r s (until_in r.until)) (second_is r.start fit.start)
    ∙ ap (plan_from r (second r.start)) (until_is r.until fit.until)
