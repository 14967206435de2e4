-- Bytes of the length that is asked for, and others.
-- Assumes nothing.
use Rattle.std.specs.Prelude.{if◌then◌else◌}
use Prim.Native.Nat.{ℕ, zero, suc, ◌≤◌}
use mathlib.Core.Path.{◌≡◌, refl, sym, ap, ◌∙◌}
use mathlib.Core.Bool.{Bool, true, false}
use mathlib.Core.List.{List, [], ◌∷◌}
use lib.Dec.{eqb}
use native.Mathlib.Omega.{arith}
use lib.ListN.{length, set}
use borrow.Author.Tests.{eqb-true, eqb-false, eq-eqb, ne_eqb}
use Rattle.cursor_layout.specs.Lengths.{of_length, Put, put, put_to}

-- a store behind the end changes nothing
pub set_behind : (l : List ℕ) (i x : ℕ) → length l ≤ i → set l i x ≡ l
set_behind [] i x h = refl
set_behind (y ∷ l) zero x h = absurd (omega arith)
set_behind (y ∷ l) (suc i) x h = ap (λ (rest : List ℕ). y ∷ rest) (set_behind l i x (omega arith))

pub of_length_lem : (n : ℕ) (bytes : List ℕ) → length bytes ≡ n → of_length n bytes ≡ bytes
unfolding of_length
of_length_lem n bytes h = rw (eq-eqb (length bytes) n h)

pub of_other_length : (n : ℕ) (bytes : List ℕ) → (length bytes ≡ n → ⊥) → of_length n bytes ≡ []
unfolding of_length
of_other_length n bytes h = rw (ne_eqb (length bytes) n h)

module _ (n : ℕ) (encoded bytes : List ℕ) where
  pub put_whole : length bytes ≡ n → put true encoded ≡ put_to n encoded bytes
  unfolding put_to
  put_whole h = rw (eq-eqb (length bytes) n h)

  pub put_nothing : (length bytes ≡ n → ⊥) → put false bytes ≡ put_to n encoded bytes
  unfolding put_to
  put_nothing h = rw (ne_eqb (length bytes) n h)

  -- what was put, where it was answered that it is written, and where not
  module _ (w : Bool) (x : List ℕ) (done : put w x ≡ put_to n encoded bytes) where
    length_is : w ≡ eqb (length bytes) n
    unfolding put_to
    length_is = ap (λ (p : Put). p.written) done ∙ by_test (eqb (length bytes) n) where
      by_test : (t : Bool) → (if t then put true encoded else put false bytes).written ≡ t
      by_test true = refl
      by_test false = refl

    pub put_done : w ≡ true → (length bytes ≡ n) × (x ≡ encoded)
    put_done e =
        let h : length bytes ≡ n = eqb-true (length bytes) n (sym length_is ∙ e) in
        (h, ap (λ (p : Put). p.bytes) (done ∙ sym (put_whole h)))

    pub put_refused : w ≡ false → (length bytes ≡ n → ⊥) × (x ≡ bytes)
    put_refused e =
        let h : length bytes ≡ n → ⊥ = eqb-false (length bytes) n (sym length_is ∙ e) in
        (h, ap (λ (p : Put). p.bytes) (done ∙ sym (put_nothing h)))

    pub put_at : length bytes ≡ n → x ≡ encoded
    put_at h = ap (λ (p : Put). p.bytes) (done ∙ sym (put_whole h))
