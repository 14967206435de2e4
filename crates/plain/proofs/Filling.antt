-- A day set that is written into a buffer.
-- Assumes nothing.
use Prim.Native.Nat.{ℕ, suc, ◌+◌, ◌-◌, ◌≤◌, ◌<◌}
use mathlib.Core.Path.{◌≡◌, ap, ◌∙◌}
use mathlib.Core.Bool.{Bool, true, false}
use mathlib.Core.List.{List, [], ◌∷◌}
use native.Mathlib.Omega.{arith}
use native.Mathlib.Numerals.{add-one}
use lib.ListN.{length, set}
use lib.Seq.{sets}
use Rattle.rule.specs.Candidates.{gather}
use Rattle.clocks.specs.Blocks.{passing}

module _ (p : ℕ → Bool) (end : ℕ) where
  -- one number more: it passes, or it doesn't; none is left
  pub passing_yes : (i : ℕ) → i < end → p i ≡ true → passing p (end - i) i ≡ i ∷ passing p (end - (i + 1)) (i + 1)
  unfolding passing gather
  passing_yes i h e = let s : end - i ≡ suc (end - (i + 1)) = omega arith in rw (s, e)

  pub passing_no : (i : ℕ) → i < end → p i ≡ false → passing p (end - i) i ≡ passing p (end - (i + 1)) (i + 1)
  unfolding passing gather
  passing_no i h e = let s : end - i ≡ suc (end - (i + 1)) = omega arith in rw (s, e)

  pub passing_done : (i : ℕ) → end ≤ i → passing p (end - i) i ≡ []
  unfolding passing gather
  passing_done i h = let s : end - i ≡ 0 = omega arith in rw s

-- While a set xs is written into a buffer b₀, which has become b: what is still to pass completes it.
pub record Filling (p : ℕ → Bool) (end : ℕ) (xs b₀ b : List ℕ) (count place : ℕ) : Type 0 where
  pub low : count ≤ place
  pub number : count + length (passing p (end - place) place) ≡ length xs
  pub buffer : sets b count (passing p (end - place) place) ≡ sets b₀ 0 xs

module _ (p : ℕ → Bool) (end : ℕ) (xs b₀ b : List ℕ) (count place : ℕ) where
  pub fill_begins : (from : ℕ) → xs ≡ passing p (end - from) from → Filling p end xs b₀ b₀ 0 from
  fill_begins from e = record { low = omega arith; number = omega (arith, ap length e); buffer = rw e }

  pub fill_no : place < end → p place ≡ false → Filling p end xs b₀ b count place → Filling p end xs b₀ b count (place + 1)
  fill_no h e f = record {
    low = omega (arith, f.low);
    number = rw (passing_no p end place h e) at f.number;
    buffer = rw (passing_no p end place h e) at f.buffer;
  }

  pub fill_yes : place < end → p place ≡ true → Filling p end xs b₀ b count place → Filling p end xs b₀ (set b count place) (count + 1) (place + 1)
  fill_yes h e f =
      let n : count + length (place ∷ passing p (end - (place + 1)) (place + 1)) ≡ length xs = rw (passing_yes p end place h e) at f.number in
      let w : sets b count (place ∷ passing p (end - (place + 1)) (place + 1)) ≡ sets b₀ 0 xs = rw (passing_yes p end place h e) at f.buffer in
      record {
        low = omega (arith, f.low);
        number = omega (arith, n);
        buffer = ap (λ (k : ℕ). sets (set b count place) k (passing p (end - (place + 1)) (place + 1))) (add-one count) ∙ w;
      }

  pub fill_ends : end ≤ place → Filling p end xs b₀ b count place → (count ≡ length xs) × (b ≡ sets b₀ 0 xs)
  fill_ends h f =
      let n : count + length {A = ℕ} [] ≡ length xs = rw (passing_done p end place h) at f.number in
      let w : sets b count [] ≡ sets b₀ 0 xs = rw (passing_done p end place h) at f.buffer in
      (omega arith, w)
