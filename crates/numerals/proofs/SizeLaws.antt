-- Numbers of 16 bits with a sign, from their sizes.
-- Assumes nothing.
use Rattle.std.specs.Prelude.{if◌then◌else◌}
use Prim.Native.Nat.{ℕ, zero, suc, ◌≤◌}
use native.Mathlib.Omega.{arith}
use mathlib.Core.Path.{◌≡◌, refl}
use mathlib.Core.Bool.{Bool, true, false}
use lib.IntN.{pos, negsuc, ◌-ℤ◌, +ℤ_idl}
use mir.Syntax.{w16}
use mir.Val.{SFits, to_z, of_z}
use mir.ValLaws.{to_z-of_z}
use Rattle.recur.specs.Grammar.{below}

pub small : (n : ℕ) → n ≤ 999 → to_z w16 n ≡ pos n
small n h = to_z-of_z w16 (pos n) (record { sfits = omega arith })

negated : (n : ℕ) → pos 0 -ℤ pos n ≡ below n
negated zero = refl
negated (suc n) = +ℤ_idl (negsuc n)

-- a size taken from 0
pub taken_off : (n : ℕ) → n ≤ 999 → pos 0 -ℤ to_z w16 n ≡ below n
taken_off n h = rw (small n h) (negated n)

below_fits : (n : ℕ) → n ≤ 999 → SFits w16 (below n)
below_fits zero h = record { sfits = omega arith }
below_fits (suc n) h = record { sfits = omega arith }

pub off_fits : (n : ℕ) → n ≤ 999 → SFits w16 (pos 0 -ℤ to_z w16 n)
off_fits n h = rw (taken_off n h) (below_fits n h)

pub kept : (negative : Bool) (n : ℕ) → n ≤ 999 → to_z w16 (of_z w16 (if negative then below n else pos n)) ≡ (if negative then below n else pos n)
kept true n h = to_z-of_z w16 (below n) (below_fits n h)
kept false n h = to_z-of_z w16 (pos n) (record { sfits = omega arith })
