-- `units::year::covers` meets its contract.
-- Assumes nothing.
use Rattle.std.proofs.Common.{rules}
use Prim.Native.Nat.{ℕ, ◌+◌, ◌-◌, ◌≤◌, ◌<◌}
use mathlib.Core.Path.{◌≡◌, sym, ◌∙◌}
use mathlib.Core.Logic.{⊎_elim}
use mathlib.Core.Bool.{Bool, true, false, ◌&&◌}
use native.Mathlib.Omega.{arith}
use lib.Dec.{leb, ltb}
use borrow.Author.Tests.{lt-leb, le-leb, lt-ltb, le-ltb}
use Rattle.calendar.specs.Calendar.{days_of}
use Rattle.units.specs.Years.{is_in_year}
use Rattle.rule.proofs.Order.{below_or}
use Rattle.units.proofs.year.covers.Goals as goal

-- two tests with one answer
same_test : (a b c d : ℕ) → (a < b → c < d) → (b ≤ a → d ≤ c) → ltb a b ≡ ltb c d
same_test a b c d f g =
    ⊎_elim
    (λ (l : a < b). lt-ltb a b l ∙ sym (lt-ltb c d (f l)))
    (λ (l : b ≤ a). le-ltb a b l ∙ sym (le-ltb c d (g l)))
    (below_or a b)

-- a day's place decides, where the year has begun
by_place : (first d : ℕ) (long : Bool) → first ≤ d → ltb (d - first) (days_of long) ≡ leb first d && ltb d (first + days_of long)
by_place first d long h =
    rw (le-leb first d h)
    (same_test (d - first) (days_of long) d (first + days_of long)
    (λ (l : d - first < days_of long). omega arith) (λ (l : days_of long ≤ d - first). omega arith))

pub returns-then-day-year : goal.returns-then-day-year
unfolding is_in_year
returns-then-day-year c = let a = c.args in rw (lt-leb a.year.first a.day (search rules))

pub returns-then-year : goal.returns-then-year
unfolding is_in_year
returns-then-year c =
    let a = c.args in
    by_place a.year.first a.day true (search rules) ∙ rw c.if-year.true

pub returns-else-year : goal.returns-else-year
unfolding is_in_year
returns-else-year c =
    let a = c.args in
    by_place a.year.first a.day false (search rules) ∙ rw c.if-year.false
