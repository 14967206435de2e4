-- Lists by number.
-- Assumes nothing.
use Prim.Native.Nat.{ℕ, zero, suc, ◌+◌, ◌*◌, ◌/◌, ◌<◌}
use mathlib.Core.Path.{◌≡◌, refl, sym, ap, ◌∙◌}
use mathlib.Core.List.{List}
use native.Mathlib.Nat.{div-lt_iff_lt-mul}
use native.Mathlib.Omega.{arith}
use lib.ListN.{length, get_or}
use lib.Seq.{ext_get_or}
use Rattle.walks.specs.Walks.{tabled}

-- a table has as many entries as it says, each by its number
pub length_tabled : (f : ℕ → ℕ) (i n : ℕ) → length (tabled f i n) ≡ n
unfolding tabled
length_tabled f i zero = refl
length_tabled f i (suc n) = ap suc (length_tabled f (i + 1) n)

pub tabled_at : (f : ℕ → ℕ) (i n j d : ℕ) → j < n → get_or (tabled f i n) j d ≡ f (i + j)
unfolding tabled
tabled_at f i zero j d h = absurd (omega arith)
tabled_at f i (suc n) zero d h = ap f (omega arith)
tabled_at f i (suc n) (suc j) d h = tabled_at f (i + 1) n j d (omega arith) ∙ ap f (omega arith)

-- a list whose entries a function tells is that function's table
pub is_tabled : (f : ℕ → ℕ) (n : ℕ) (xs : List ℕ) → length xs ≡ n → ((j : ℕ) → j < n → get_or xs j 0 ≡ f j) → xs ≡ tabled f 0 n
is_tabled f n xs e h =
    ext_get_or 0 xs (tabled f 0 n) (e ∙ sym (length_tabled f 0 n))
    (λ j l.
    let k : j < n = omega arith in
    h j k ∙ sym (tabled_at f 0 n j 0 k ∙ ap f (omega arith)))

-- number j of n blocks of t stands in one of them
pub block_of : (n t j : ℕ) → j < n * t → j / t < n
block_of n zero j h = absurd (omega arith)
block_of n (suc t) j h = let p : 0 < suc t = omega arith in (div-lt_iff_lt-mul p).1 h
