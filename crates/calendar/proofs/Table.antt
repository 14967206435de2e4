-- A table's rule at each of its entries, from one computed test. For entries of any type.
-- Assumes nothing.
use mathlib.Core.Path.{◌≡◌, ◌∙◌, sym, ap}
use mathlib.Core.List.{List}
use Prim.Native.Nat.{ℕ, zero, suc, ◌+◌, ◌<◌}
use native.Mathlib.Nat.{add-zero, zero-add, add-suc, suc-add, le_of_suc-le-suc, not-suc-le-zero}
use lib.ListN.{get_or}
use Rattle.calendar.specs.Calendar.{tab}

tab_from : {A : Type 0} (f : ℕ → A) (d : A) (n i k : ℕ) → k < n → get_or (tab f i n) k d ≡ f (i + k)
tab_from f d zero i k h = absurd (not-suc-le-zero h)
tab_from f d (suc n) i zero h = ap f (sym (add-zero i))
tab_from f d (suc n) i (suc k) h = tab_from f d n (suc i) k (le_of_suc-le-suc h) ∙ ap f (suc-add i k ∙ sym (add-suc i k))

pub tab_at : {A : Type 0} (f : ℕ → A) (d : A) (n k : ℕ) → k < n → get_or (tab f 0 n) k d ≡ f k
tab_at f d n k h = tab_from f d n 0 k h ∙ ap f (zero-add k)

-- two functions with one table are equal at each of its places
pub same_below : {A : Type 0} (f g : ℕ → A) (d : A) (n : ℕ) → tab f 0 n ≡ tab g 0 n → (k : ℕ) → k < n → f k ≡ g k
same_below f g d n e k h = sym (tab_at f d n k h) ∙ ap (λ (l : List _). get_or l k d) e ∙ tab_at g d n k h
