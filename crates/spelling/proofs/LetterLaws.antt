-- A letter's capital is the library's.
-- Assumes nothing.
use Prim.Native.Nat.{ℕ, ◌≤◌, ◌<◌}
use native.Mathlib.Omega.{arith}
use mathlib.Core.Path.{◌≡◌, refl}
use mathlib.Core.Bool.{Bool, true, false}
use lib.Dec.{leb}
use borrow.Author.Tests.{leb-true, leb-false, lt-ltb, le-ltb}
use Rattle.std.specs.Char.{to_ascii_uppercase}
use Rattle.symbols.specs.Languages.{upper}

pub capital_is : (b : ℕ) → to_ascii_uppercase b ≡ upper b
capital_is b = go (leb 97 b) refl (leb b 122) refl
  where
    go : (x : Bool) → leb 97 b ≡ x → (y : Bool) → leb b 122 ≡ y → to_ascii_uppercase b ≡ upper b
    go false e y f = simp (e, lt-ltb b 97 (leb-false 97 b e))
    go true e true f = simp (e, f, le-ltb b 97 (leb-true 97 b e), lt-ltb b 123 (let h : b ≤ 122 = leb-true b 122 f in omega arith))
    go true e false f = simp (e, f, le-ltb b 97 (leb-true 97 b e), le-ltb b 123 (let h : 122 < b = leb-false b 122 f in omega arith))
