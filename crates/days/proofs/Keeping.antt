-- A place that is kept unless it is filtered out: one step of a day set that is written into a buffer.
-- Assumes nothing.
use Rattle.std.specs.Prelude.{if◌then◌else◌}
use Prim.Native.Nat.{ℕ, ◌+◌, ◌<◌}
use mathlib.Core.Path.{◌≡◌, sym}
use mathlib.Core.Bool.{Bool, true, false, not}
use mathlib.Core.List.{List}
use lib.ListN.{set}
use borrow.Author.Tests.{not-true, not-false}
use Rattle.plain.proofs.Filling.{Filling, fill_no, fill_yes}

module _ (p : ℕ → Bool) (end : ℕ) (xs b₀ b : List ℕ) (count place : ℕ) where
  pub fill_keeps : (out : Bool) (now : List ℕ) (kept : ℕ) → place < end → out ≡ not (p place)
      → kept ≡ (if out then count else count + 1) → now ≡ (if out then b else set b count place)
      → Filling p end xs b₀ b count place → Filling p end xs b₀ now kept (place + 1)
  fill_keeps true now kept h o k n f = rw (k, n) (fill_no p end xs b₀ b count place h (not-true _ (sym o)) f)
  fill_keeps false now kept h o k n f = rw (k, n) (fill_yes p end xs b₀ b count place h (not-false _ (sym o)) f)
