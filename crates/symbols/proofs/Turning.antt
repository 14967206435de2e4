-- A reader of one language serves another: the value turned, the same words said otherwise, fewer bytes behind, the symbol missing or there.
-- Assumes nothing.
use Prim.Native.Nat.{ℕ, ◌+◌, ◌≤◌}
use native.Mathlib.Omega.{arith}
use mathlib.Core.Path.{◌≡◌, refl, sym, ap, ◌∙◌}
use mathlib.Core.Bool.{Bool, true, false}
use mathlib.Core.List.{List, [], ◌∷◌, ◌++◌}
use lib.ListN.{length}
use Rattle.symbols.specs.Languages.{Perhaps, Perhaps.missing, Perhaps.there, Turned}
use Rattle.symbols.specs.Takes.{Took, took, Stop, Outcome, Takes}
use Rattle.symbols.specs.Readers.{perhaps, turned_into, turned}
use Rattle.symbols.proofs.Cuts.{not_empty, stop_on, outcome_by}

-- ---- the value turned

module _ (A B : Type 0) (f : A → B) (take : ℕ → List ℕ → Took A) (L : A → List ℕ → Type 0) (P : ℕ → Type 0) (x : Takes A take L P) where
  fulls_turned : (at : ℕ) (b : B) (xs r : List ℕ) → Turned A B f L b xs → Stop P r → turned f take at (xs ++ r) ≡ took true (at + length xs) r b
  fulls_turned at b xs r d h =
      ap (λ (k : Took A). turned_into f k) (x.full at d.from xs r d.spelled h)
      ∙ ap (λ (v : B). took true (at + length xs) r v) (sym d.turned)

  pub takes_turned : Takes B (turned f take) (Turned A B f L) P
  takes_turned = record {
    outcome = λ at t. outcome_by f (λ a xs l. record { from = a; spelled = l; turned = refl }) (x.outcome at t);
    full = fulls_turned;
    far = λ at b p ys r d. x.far at d.from p ys r d.spelled;
  }

-- ---- the same words said otherwise, and fewer bytes behind

pub takes_same : {A : Type 0} {take : ℕ → List ℕ → Took A} {L M : A → List ℕ → Type 0} {P : ℕ → Type 0} → Takes A take L P
    → ((a : A) (xs : List ℕ) → L a xs → M a xs) → ((a : A) (xs : List ℕ) → M a xs → L a xs) → Takes A take M P
takes_same {A} x to back = record {
  outcome = λ at t. outcome_by (λ (a : A). a) to (x.outcome at t);
  full = λ at a xs r m h. x.full at a xs r (back a xs m) h;
  far = λ at a p ys r m. x.far at a p ys r (back a (p ++ ys) m);
}

pub takes_fewer : {A : Type 0} {take : ℕ → List ℕ → Took A} {L : A → List ℕ → Type 0} {P Q : ℕ → Type 0} → Takes A take L P
    → ((b : ℕ) → Q b → P b) → Takes A take L Q
takes_fewer {P} {Q} x f = record { outcome = x.outcome; full = λ at a xs r l h. x.full at a xs r l (stop_on P Q f r h); far = x.far }

-- ---- missing or there

module _ (A : Type 0) (starts : ℕ → Bool) (none : A) (take : ℕ → List ℕ → Took A) (L : A → List ℕ → Type 0) (P Q : ℕ → Type 0)
    (x : Takes A take L P)
    (begins-so : (a : A) (c : ℕ) (zs : List ℕ) → L a (c ∷ zs) → starts c ≡ true)
    (filled : (a : A) → L a [] → ⊥)
    (ends : (b : ℕ) → Q b → P b)
    (apart : (b : ℕ) → Q b → starts b ≡ false) where
  abbrev M : A → List ℕ → Type 0
  M = Perhaps A none L

  abbrev reads : ℕ → List ℕ → Took A
  reads = perhaps starts none take

  at_end : (at : ℕ) → reads at [] ≡ took true at [] none
  unfolding perhaps
  at_end at = refl

  on : (at b : ℕ) (t : List ℕ) → starts b ≡ true → reads at (b ∷ t) ≡ take at (b ∷ t)
  unfolding perhaps
  on at b t e = rw (e, perhaps)

  off : (at b : ℕ) (t : List ℕ) → starts b ≡ false → reads at (b ∷ t) ≡ took true at (b ∷ t) none
  unfolding perhaps
  off at b t e = rw (e, perhaps)

  left_out : (at : ℕ) (t : List ℕ) → Outcome A M at t (took true at t none)
  left_out at t = record {
    used = [];
    cut = refl;
    stands = omega arith;
    good = λ w. missing refl;
    some = none;
    more = [];
    begins = missing refl;
  }

  outcomes_perhaps : (at : ℕ) (t : List ℕ) → Outcome A M at t (reads at t)
  outcomes_perhaps at [] = rw at_end (left_out at [])
  outcomes_perhaps at (b ∷ t) = go (starts b) refl
    where
      go : (w : Bool) → starts b ≡ w → Outcome A M at (b ∷ t) (reads at (b ∷ t))
      go true e = rw (on at b t e) (outcome_by (λ (a : A). a) (λ a xs l. there l) (x.outcome at (b ∷ t)))
      go false e = rw (off at b t e) (left_out at (b ∷ t))

  none_read : (at : ℕ) (r : List ℕ) → Stop Q r → reads at r ≡ took true (at + 0) r none
  none_read at [] h = at_end at ∙ ap (λ (m : ℕ). took true m [] none) (omega arith)
  none_read at (b ∷ r) h = off at b r (apart b h) ∙ ap (λ (m : ℕ). took true m (b ∷ r) none) (omega arith)

  fulls_perhaps : (at : ℕ) (a : A) (xs r : List ℕ) → M a xs → Stop Q r → reads at (xs ++ r) ≡ took true (at + length xs) r a
  fulls_perhaps at a xs r (missing e) h = rw e (none_read at r h)
  fulls_perhaps at a [] r (there l) h = absurd (filled a l)
  fulls_perhaps at a (c ∷ zs) r (there l) h = on at c (zs ++ r) (begins-so a c zs l) ∙ x.full at a (c ∷ zs) r l (stop_on P Q ends r h)

  fars_perhaps : (at : ℕ) (a : A) (p ys r : List ℕ) → M a (p ++ ys) → at + length p ≤ (reads at (p ++ r)).place
  fars_perhaps at a [] ys r m = omega (arith, (outcomes_perhaps at r).stands)
  fars_perhaps at a (c ∷ p) ys r (missing e) = absurd (not_empty e)
  fars_perhaps at a (c ∷ p) ys r (there l) = rw (on at c (p ++ r) (begins-so a c (p ++ ys) l)) (x.far at a (c ∷ p) ys r l)

  pub takes_perhaps : Takes A (perhaps starts none take) (Perhaps A none L) Q
  takes_perhaps = record { outcome = outcomes_perhaps; full = fulls_perhaps; far = fars_perhaps }
