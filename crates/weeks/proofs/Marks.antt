-- Marking the places of a mask.
-- Assumes nothing.
use mathlib.Core.Path.{◌≡◌, refl, sym, ap, ◌∙◌}
use mathlib.Core.Bool.{Bool, true, false, ◌&&◌, ◌||◌, or-false, or-true, and-false}
use mathlib.Core.List.{List}
use Prim.Native.Nat.{ℕ, ◌+◌, ◌≤◌, ◌<◌}
use native.Mathlib.Omega.{arith}
use native.Mathlib.Decide.{ℕ_discrete, dec_le, dec_lt}
use lib.Dec.{ltb, leb}
use lib.ListN.{length, get_or, set, length-set}
use lib.Seq.{get_or-set_same, get_or-set_other}
use borrow.Author.Tests.{lt-ltb, le-ltb, le-leb, lt-leb}
use Rattle.weeks.specs.Weeks.{Marked}

-- no place is marked
pub mark_none : (from : ℕ) (was : List Bool) → Marked from from was was
mark_none from was = record { same = refl; at = λ k h. go k (dec_le from k) }
  where
    go : (k : ℕ) → Dec (from ≤ k) → get_or was k false ≡ (get_or was k false || (leb from k && ltb k from))
    go k (yes l) = rw (le-ltb k from l, and-false (leb from k)) (sym (or-false (get_or was k false)))
    go k (no l) = rw (lt-leb from k (omega arith)) (sym (or-false (get_or was k false)))

-- one more place is marked
pub mark_next : (from i : ℕ) (was is : List Bool) → from ≤ i → i < length was → Marked from i was is → Marked from (i + 1) was (set is i true)
mark_next from i was is l h m = record { same = simp length-set m.same; at = λ k b. go k b (ℕ_discrete k i) }
  where
    go : (k : ℕ) → k < length was → Dec (k ≡ i) → get_or (set is i true) k false ≡ (get_or was k false || (leb from k && ltb k (i + 1)))
    go k b (yes e) =
        rw (e, le-leb from i l, lt-ltb i (i + 1) (omega arith), or-true) (get_or-set_same is i true false (omega (arith, m.same)))
    go k b (no n) = get_or-set_other is i k true false n ∙ m.at k b ∙ ap (λ (t : Bool). get_or was k false || (leb from k && t)) (later (dec_lt k i))
      where
        later : Dec (k < i) → ltb k i ≡ ltb k (i + 1)
        later (yes p) = rw (lt-ltb k i p, lt-ltb k (i + 1) (omega arith))
        later (no p) = rw (le-ltb k i (omega arith), le-ltb k (i + 1) (omega arith))
