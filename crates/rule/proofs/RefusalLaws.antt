-- The refusals as a list: the first that passes a test, whether any does, and that each refusal is in the list.
-- Assumes nothing.
use Rattle.std.specs.Prelude.{Ok, Err}
use mathlib.Core.Path.{◌≡◌, refl, ap, sym, ◌∙◌}
use mathlib.Core.Logic.{◌⊎◌, inl, inr, ⊎_elim}
use mathlib.Core.Bool.{Bool, true, false, not, ◌&&◌, ◌||◌}
use mathlib.Core.List.{List, [], ◌∷◌, map}
use Prim.Native.Nat.{ℕ, suc, ◌≤◌, ◌<◌}
use native.Mathlib.Omega.{arith}
use lib.Dec.{eqb, leb}
use borrow.Author.Tests.{leb-true}
use Rattle.machine.specs.Rising.{Rises}
use Rattle.rule.specs.declared.rrule.Refusal.{Refusal}
use Rattle.rule.specs.Refusals.{Verdict}
use Rattle.rule.specs.declared.rrule.Rule.{Rule}
use Rattle.rule.specs.Refusals.{refusal_number, refusals, some, applies, first_of, verdict}
use Rattle.rule.specs.Records.{accepts, breaks, breaks_no_row}
use Rattle.rule.specs.Claims.{RefusalsRise, LowestGiven, NoneGiven}
use Rattle.rule.proofs.FillLaws.{both}

-- a refusal is one of a list
abbrev IsIn : Refusal → List Refusal → Type 0
IsIn n [] = ⊥
IsIn n (k ∷ ks) = (n ≡ k) ⊎ IsIn n ks

either : (b : Bool) → (b ≡ true) ⊎ (b ≡ false)
either true = inl refl
either false = inr refl

never : (n : Refusal) → ◌≡◌ {A = Verdict} (Ok tt) (Err n) → ⊥
never n e = let z : ◌≡◌ {A = ℕ} 0 1 = cc in omega arith

same_refusal : (m n : Refusal) → ◌≡◌ {A = Verdict} (Err m) (Err n) → m ≡ n
same_refusal m n e = cc

pub accepting : (v : Verdict) → accepts v ≡ true → v ≡ Ok tt
accepting (Err n) h = absurd (let z : ◌≡◌ {A = ℕ} 0 1 = cc in omega arith)
accepting (Ok tt) h = refl

-- in a list that rises, each is at least as high as the list begins
not_below : (n : Refusal) (ns : List Refusal) (low high : ℕ) → Rises low (map refusal_number ns) high → IsIn n ns → low ≤ refusal_number n
not_below n [] low high h i = absurd i
not_below n (k ∷ ks) low high h (inl e) = rw e h.0
not_below n (k ∷ ks) low high h (inr i) =
    let l : refusal_number k < refusal_number n = not_below n ks (suc (refusal_number k)) high h.1 i in
    let m : low ≤ refusal_number k = h.0 in
    omega arith

module _ (p : Refusal → Bool) where
  here : (k : Refusal) (ks : List Refusal) → p k ≡ true → first_of p (k ∷ ks) ≡ Err k
  unfolding first_of
  here k ks h = rw (h, first_of)

  pub later : (k : Refusal) (ks : List Refusal) → p k ≡ false → first_of p (k ∷ ks) ≡ first_of p ks
  unfolding first_of
  later k ks h = rw (h, first_of)

  -- the first that passes is one of the list, and passes
  first_in : (n : Refusal) (ns : List Refusal) → first_of p ns ≡ Err n → IsIn n ns
  unfolding first_of
  first_in n [] e = absurd (never n e)
  first_in n (k ∷ ks) e =
      ⊎_elim (λ (h : p k ≡ true). inl (sym (same_refusal k n (sym (here k ks h) ∙ e)))) (λ (h : p k ≡ false). inr (first_in n ks (sym (later k ks h) ∙ e)))
      (either (p k))

  first_passes : (n : Refusal) (ns : List Refusal) → first_of p ns ≡ Err n → p n ≡ true
  unfolding first_of
  first_passes n [] e = absurd (never n e)
  first_passes n (k ∷ ks) e =
      ⊎_elim (λ (h : p k ≡ true). ap p (sym (same_refusal k n (sym (here k ks h) ∙ e))) ∙ h) (λ (h : p k ≡ false). first_passes n ks (sym (later k ks h) ∙ e))
      (either (p k))

  -- where the first of a list that rises passes, none of the list is below it
  too_low : (n m k : Refusal) (ks : List Refusal) (high : ℕ) → Rises (suc (refusal_number k)) (map refusal_number ks) high
      → first_of p (k ∷ ks) ≡ Err n → p k ≡ true → IsIn m (k ∷ ks) → refusal_number m < refusal_number n → ⊥
  too_low n m k ks high r e h i l =
      let q : refusal_number k ≡ refusal_number n = ap refusal_number (same_refusal k n (sym (here k ks h) ∙ e)) in
      let a : refusal_number k ≤ refusal_number m = not_below m (k ∷ ks) (refusal_number k) high (omega arith, r) i in
      omega arith

  -- where the list rises, none of a lower number passes; and one that passes with none below it is the first
  none_lower : (n m : Refusal) (ns : List Refusal) (low high : ℕ) → Rises low (map refusal_number ns) high → first_of p ns ≡ Err n → IsIn m ns
      → refusal_number m < refusal_number n → p m ≡ false
  none_lower n m [] low high r e i l = absurd i
  none_lower n m (k ∷ ks) low high r e i l =
      ⊎_elim (λ (h : p k ≡ true). absurd (too_low n m k ks high r.1 e h i l))
      (λ (h : p k ≡ false). ⊎_elim (λ (q : m ≡ k). ap p q ∙ h)
      (λ (j : IsIn m ks). none_lower n m ks (suc (refusal_number k)) high r.1 (sym (later k ks h) ∙ e) j l) i)
      (either (p k))

  lowest_first : (n : Refusal) (ns : List Refusal) (low high : ℕ) → Rises low (map refusal_number ns) high → IsIn n ns → p n ≡ true
      → ((m : Refusal) → refusal_number m < refusal_number n → p m ≡ false) → first_of p ns ≡ Err n
  lowest_first n [] low high r i h f = absurd i
  lowest_first n (k ∷ ks) low high r (inl e) h f = here k ks (ap p (sym e) ∙ h) ∙ ap (λ (x : Refusal). Err x) (sym e)
  lowest_first n (k ∷ ks) low high r (inr i) h f =
      later k ks (f k (not_below n ks (suc (refusal_number k)) high r.1 i)) ∙ lowest_first n ks (suc (refusal_number k)) high r.1 i h f

  -- none of the list passes
  none_passes : (ns : List Refusal) → first_of p ns ≡ Ok tt → (m : Refusal) → IsIn m ns → p m ≡ false
  none_passes [] e m i = absurd i
  none_passes (k ∷ ks) e m i =
      ⊎_elim (λ (h : p k ≡ true). absurd (never k (sym e ∙ here k ks h)))
      (λ (h : p k ≡ false). ⊎_elim (λ (q : m ≡ k). ap p q ∙ h) (λ (j : IsIn m ks). none_passes ks (sym (later k ks h) ∙ e) m j) i) (either (p k))

  none_first : (ns : List Refusal) → ((m : Refusal) → p m ≡ false) → first_of p ns ≡ Ok tt
  unfolding first_of
  none_first [] f = refl
  none_first (k ∷ ks) f = later k ks (f k) ∙ none_first ks f

  pub accepts_none : (ns : List Refusal) → accepts (first_of p ns) ≡ not (some p ns)
  unfolding first_of some
  accepts_none [] = refl
  accepts_none (k ∷ ks) = go (p k) (accepts_none ks)
    where
      go : (t : Bool) → accepts (first_of p ks) ≡ not (some p ks)
          → accepts (elim t [ true ↦ Err k | false ↦ first_of p ks ]) ≡ not (t || some p ks)
      go true e = refl
      go false e = e

-- Each refusal is in the list: the first with its number is it.
at_its_number : (n : Refusal) → first_of (λ (m : Refusal). eqb (refusal_number m) (refusal_number n)) refusals ≡ Err n
unfolding first_of
at_its_number Refusal.FrequencyAbove = refl
at_its_number Refusal.WeekStartAbove = refl
at_its_number Refusal.StartOut = refl
at_its_number Refusal.UntilOut = refl
at_its_number Refusal.EntryOut = refl
at_its_number Refusal.NotRising = refl
at_its_number Refusal.MixedDays = refl
at_its_number Refusal.NthMisplaced = refl
at_its_number Refusal.PositionsAlone = refl
at_its_number Refusal.Nought = refl
at_its_number Refusal.CountAndUntil = refl
at_its_number Refusal.ListMisplaced = refl

listed : (n : Refusal) → IsIn n refusals
listed n = first_in (λ (m : Refusal). eqb (refusal_number m) (refusal_number n)) n refusals (at_its_number n)

-- a list rises where a test says so
unfoldable is_rising : ℕ → List ℕ → ℕ → Bool
is_rising low [] high = leb low high
is_rising low (x ∷ xs) high = leb low x && is_rising (suc x) xs high

rising : (low : ℕ) (xs : List ℕ) (high : ℕ) → is_rising low xs high ≡ true → Rises low xs high
unfolding is_rising
rising low [] high e = leb-true low high e
rising low (x ∷ xs) high e =
    let b = both (leb low x) (is_rising (suc x) xs high) e in
    (leb-true low x b.0, rising (suc x) xs high b.1)

pub refusals_rise : RefusalsRise
unfolding is_rising
refusals_rise = rising 1 (map refusal_number refusals) 20 refl

pub lowest_given : LowestGiven
unfolding verdict
lowest_given w n = (
  λ e. (first_passes a n refusals e, λ m l. none_lower a n m refusals 1 20 refusals_rise e (listed m) l),
  λ h. lowest_first a n refusals 1 20 refusals_rise (listed n) h.0 h.1,
)
  where
    a : Refusal → Bool
    a m = applies m w

pub none_given : NoneGiven
unfolding verdict
none_given w = (λ e n. none_passes a refusals e n (listed n), none_first a refusals)
  where
    a : Refusal → Bool
    a m = applies m w

-- a record breaks no row exactly when it breaks none of the refusals
pub none_broken : (r : Rule) → breaks_no_row r ≡ true → (n : Refusal) → breaks n r ≡ false
unfolding breaks_no_row
none_broken r h n = none_passes b refusals (accepting (first_of b refusals) (accepts_none b refusals ∙ h)) n (listed n)
  where
    b : Refusal → Bool
    b m = breaks m r

pub all_kept : (r : Rule) → ((n : Refusal) → breaks n r ≡ false) → breaks_no_row r ≡ true
unfolding breaks_no_row
all_kept r f = sym (accepts_none b refusals) ∙ ap accepts (none_first b refusals f)
  where
    b : Refusal → Bool
    b m = breaks m r
