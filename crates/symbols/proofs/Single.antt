-- One byte that passes a test.
-- Assumes nothing.
use Prim.Native.Nat.{ℕ, ◌+◌, ◌≤◌}
use native.Mathlib.Omega.{arith}
use mathlib.Core.Path.{◌≡◌, refl, ap, ◌∙◌}
use mathlib.Core.Bool.{Bool, true, false}
use mathlib.Core.List.{List, [], ◌∷◌, ◌++◌}
use lib.ListN.{length}
use Rattle.symbols.specs.Languages.{Byte}
use Rattle.symbols.specs.Takes.{took, Outcome, Takes}
use Rattle.symbols.specs.Readers.{byte}
use Rattle.symbols.proofs.Cuts.{head_same, tail_same, not_empty}

module _ (test : ℕ → Bool) (o : ℕ) (o-passes : test o ≡ true) where
  at_end : (at : ℕ) → byte test at [] ≡ took false at [] 0
  unfolding byte
  at_end at = refl

  takes_it : (at b : ℕ) (t : List ℕ) → test b ≡ true → byte test at (b ∷ t) ≡ took true (at + 1) t b
  unfolding byte
  takes_it at b t e = rw (e, byte)

  leaves_it : (at b : ℕ) (t : List ℕ) → test b ≡ false → byte test at (b ∷ t) ≡ took false at (b ∷ t) 0
  unfolding byte
  leaves_it at b t e = rw (e, byte)

  none : (at : ℕ) (t : List ℕ) → Outcome ℕ (Byte test) at t (took false at t 0)
  none at t = record {
    used = [];
    cut = refl;
    stands = omega arith;
    good = λ w. absurd (let z : ◌≡◌ {A = ℕ} 0 1 = cc in omega arith);
    some = o;
    more = o ∷ [];
    begins = record { passes = o-passes; alone = refl };
  }

  one : (at b : ℕ) (t : List ℕ) → test b ≡ true → Outcome ℕ (Byte test) at (b ∷ t) (took true (at + 1) t b)
  one at b t e = record {
    used = b ∷ [];
    cut = refl;
    stands = omega arith;
    good = λ w. record { passes = e; alone = refl };
    some = b;
    more = [];
    begins = record { passes = e; alone = refl };
  }

  outcomes : (at : ℕ) (t : List ℕ) → Outcome ℕ (Byte test) at t (byte test at t)
  outcomes at [] = rw at_end (none at [])
  outcomes at (b ∷ t) = go (test b) refl
    where
      go : (x : Bool) → test b ≡ x → Outcome ℕ (Byte test) at (b ∷ t) (byte test at (b ∷ t))
      go true e = rw (takes_it at b t e) (one at b t e)
      go false e = rw (leaves_it at b t e) (none at (b ∷ t))

  fulls : (at a : ℕ) (xs r : List ℕ) → Byte test a xs → byte test at (xs ++ r) ≡ took true (at + length xs) r a
  fulls at a xs r d = let e : xs ≡ a ∷ [] = d.alone in rw e (takes_it at a r d.passes)

  fars : (at a : ℕ) (p ys r : List ℕ) → Byte test a (p ++ ys) → at + length p ≤ (byte test at (p ++ r)).place
  fars at a [] ys r d = omega (arith, (outcomes at r).stands)
  fars at a (b ∷ []) ys r d = rw (takes_it at b r (ap test (head_same d.alone) ∙ d.passes)) (omega arith)
  fars at a (b ∷ (c ∷ p)) ys r d = absurd (not_empty (tail_same d.alone))

  pub takes_byte : Takes ℕ (byte test) (Byte test) (λ (b : ℕ). Unit {0})
  takes_byte = record { outcome = outcomes; full = λ at a xs r d h. fulls at a xs r d; far = fars }
