-- Tests that come to the same.
-- Assumes nothing.
use Prim.Native.Nat.{ℕ, ◌≤◌, ◌<◌}
use mathlib.Core.Path.{◌≡◌, refl, sym}
use mathlib.Core.Bool.{Bool, true, false, ◌||◌}
use lib.Dec.{leb}
use borrow.Author.Tests.{le-leb, lt-leb}

-- a test is `a ≤ b` if it says so
pub test_is : (w : Bool) (a b : ℕ) → (w ≡ true → a ≤ b) → (w ≡ false → b < a) → w ≡ leb a b
test_is true a b to not-to = sym (le-leb a b (to refl))
test_is false a b to not-to = sym (lt-leb a b (not-to refl))

pub one_of_three : {a b c x y z : Bool} → a ≡ x → b ≡ y → c ≡ z → (a || (b || c)) ≡ (x || (y || z))
one_of_three e f g = cc
