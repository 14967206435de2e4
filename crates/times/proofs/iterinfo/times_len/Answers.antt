-- `times::iterinfo::times_len` meets its contract.
-- Assumes nothing.
use Prim.Native.Nat.{ℕ, ◌*◌, ◌≤◌}
use native.Mathlib.Nat.{mul-le-mul}
use native.Mathlib.Omega.{arith}
use mir.Syntax.{w32}
use mir.Val.{Fits}
use Rattle.times.proofs.iterinfo.times_len.Goals as goal

-- the product of two bytes, and of three, fits
product : (a b m n : ℕ) → a ≤ m → b ≤ n → a * b ≤ m * n
product a b m n h k = mul-le-mul h k

two_fit : (a b : ℕ) → a ≤ 255 → b ≤ 255 → Fits w32 (a * b)
two_fit a b h k = omega (arith, product a b 255 255 h k)

three_fit : (a b c : ℕ) → a ≤ 255 → b ≤ 255 → c ≤ 255 → Fits w32 (a * (b * c))
three_fit a b c h k l = omega (arith, product a (b * c) 255 65025 h (product b c 255 255 k l))

pub overflow_mul-result : goal.overflow_mul-result
overflow_mul-result c = two_fit _ _ (omega arith) (omega arith)

pub overflow_mul-result-2 : goal.overflow_mul-result-2
overflow_mul-result-2 c = three_fit _ _ _ (omega arith) (omega arith) (omega arith)
