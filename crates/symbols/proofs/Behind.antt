-- One symbol behind another.
-- Assumes nothing.
use Prim.Native.Nat.{ℕ, ◌+◌, ◌≤◌}
use native.Mathlib.Omega.{arith}
use mathlib.Core.Path.{◌≡◌, refl, sym, ap, ◌∙◌, subst}
use mathlib.Core.Logic.{⊎_elim}
use mathlib.Core.Bool.{Bool, true, false}
use mathlib.Core.List.{List, [], ◌∷◌, ◌++◌, append_assoc}
use lib.ListN.{length, length-append}
use Rattle.symbols.specs.Languages.{Both, both, Followed}
use Rattle.symbols.specs.Takes.{Took, took, Stop, Outcome, Takes}
use Rattle.symbols.specs.Readers.{with_first, followed}
use Rattle.symbols.proofs.Cuts.{Within, Beyond, two_cuts}

module _ (A B : Type 0) (take : ℕ → List ℕ → Took A) (then : A → ℕ → List ℕ → Took B) (none : B)
    (L : A → List ℕ → Type 0) (M : A → B → List ℕ → Type 0) (P Q : ℕ → Type 0)
    (x : Takes A take L P)
    (y : (a : A) (xs : List ℕ) → L a xs → Takes B (then a) (M a) Q)
    (filled : (a : A) (b : B) → M a b [] → ⊥)
    (first : (a : A) (b : B) (c : ℕ) (zs : List ℕ) → M a b (c ∷ zs) → P c) where
  abbrev F : Both A B → List ℕ → Type 0
  F = Followed A B L M

  abbrev reads : ℕ → List ℕ → Took (Both A B)
  reads = followed take then none

  -- the second reader's answer, where the first's is k
  abbrev second : Took A → Took B
  second k = then k.value k.place k.rest

  abbrev on : Took A → Took (Both A B)
  on k = with_first k.value (second k)

  abbrev off : Took A → Took (Both A B)
  off k = took false k.place k.rest (both k.value none)

  reads_on : (at : ℕ) (t : List ℕ) → (take at t).whole ≡ true → reads at t ≡ on (take at t)
  unfolding followed
  reads_on at t e = rw (e, followed)

  reads_off : (at : ℕ) (t : List ℕ) → (take at t).whole ≡ false → reads at t ≡ off (take at t)
  unfolding followed
  reads_off at t e = rw (e, followed)

  stopped : (at : ℕ) (t : List ℕ) (k : Took A) → Outcome A L at t k → Outcome (Both A B) F at t (off k)
  stopped at t k o =
      let q : Outcome B (M o.some) 0 [] (then o.some 0 []) = (y o.some (o.used ++ o.more) o.begins).outcome 0 [] in
      record {
        used = o.used;
        cut = o.cut;
        stands = o.stands;
        good = λ w. absurd (let z : ◌≡◌ {A = ℕ} 0 1 = cc in omega arith);
        some = both o.some q.some;
        more = o.more ++ (q.used ++ q.more);
        begins = record {
          xs = o.used ++ o.more;
          ys = q.used ++ q.more;
          left = o.begins;
          right = q.begins;
          whole = sym (append_assoc o.used o.more (q.used ++ q.more));
        };
      }

  -- the second's outcome behind the first's
  outcome_second : (at : ℕ) (t : List ℕ) (k : Took A) → k.whole ≡ true → Outcome A L at t k
      → Outcome B (M k.value) k.place k.rest (second k)
  outcome_second at t k w o = (y k.value o.used (o.good w)).outcome k.place k.rest

  went_on : (at : ℕ) (t : List ℕ) (k : Took A) → k.whole ≡ true → Outcome A L at t k → Outcome (Both A B) F at t (on k)
  went_on at t k w o =
      let l : L k.value o.used = o.good w in
      let q : Outcome B (M k.value) k.place k.rest (second k) = outcome_second at t k w o in
      record {
        used = o.used ++ q.used;
        cut = o.cut ∙ ap (λ (z : List ℕ). o.used ++ z) q.cut ∙ sym (append_assoc o.used q.used _);
        stands = q.stands ∙ simp (length-append) (let z : k.place ≡ at + length o.used = o.stands in omega arith);
        good = λ g. record { xs = o.used; ys = q.used; left = l; right = q.good g; whole = refl };
        some = both k.value q.some;
        more = q.more;
        begins = record {
          xs = o.used;
          ys = q.used ++ q.more;
          left = l;
          right = q.begins;
          whole = append_assoc o.used q.used q.more;
        };
      }

  outcomes : (at : ℕ) (t : List ℕ) → Outcome (Both A B) F at t (reads at t)
  outcomes at t = go (take at t).whole refl
    where
      go : (w : Bool) → (take at t).whole ≡ w → Outcome (Both A B) F at t (reads at t)
      go true e = rw (reads_on at t e) (went_on at t (take at t) e (x.outcome at t))
      go false e = rw (reads_off at t e) (stopped at t (take at t) (x.outcome at t))

  -- the first is whole, and a byte that may follow it comes next: the second reads on from there
  reads_second : (at : ℕ) (a : A) (xs : List ℕ) (c : ℕ) (zs t : List ℕ) → L a xs → P c → t ≡ xs ++ c ∷ zs
      → reads at t ≡ with_first a (then a (at + length xs) (c ∷ zs))
  reads_second at a xs c zs t l p e =
      let k : take at t ≡ took true (at + length xs) (c ∷ zs) a = rw e (x.full at a xs (c ∷ zs) l p) in
      reads_on at t (ap (λ (z : Took A). z.whole) k) ∙ ap (λ (z : Took A). on z) k

  fulls : (at : ℕ) (v : Both A B) (zs r : List ℕ) → F v zs → Stop Q r → reads at (zs ++ r) ≡ took true (at + length zs) r v
  fulls at v zs r f h = go f.ys f.right f.whole
    where
      go : (ys : List ℕ) → M v.first v.second ys → zs ≡ f.xs ++ ys → reads at (zs ++ r) ≡ took true (at + length zs) r v
      go [] m e = absurd (filled v.first v.second m)
      go (c ∷ ys) m e =
          reads_second at v.first f.xs c (ys ++ r) (zs ++ r) f.left (first v.first v.second c ys m)
          (ap (λ (z : List ℕ). z ++ r) e ∙ append_assoc f.xs (c ∷ ys) r)
          ∙ ap (λ (z : Took B). with_first v.first z) ((y v.first f.xs f.left).full (at + length f.xs) v.second (c ∷ ys) r m h)
          ∙ ap (λ (n : ℕ). took true n r v) (rw (e, length-append) (omega arith))

  -- the two go at least as far as the first
  at_least : (at : ℕ) (t : List ℕ) → (take at t).place ≤ (reads at t).place
  at_least at t = go (take at t).whole refl
    where
      go : (w : Bool) → (take at t).whole ≡ w → (take at t).place ≤ (reads at t).place
      go false e = rw (reads_off at t e) (omega arith)
      go true e = rw (reads_on at t e) (omega (arith, (outcome_second at t (take at t) e (x.outcome at t)).stands))

  fars : (at : ℕ) (v : Both A B) (zs p ys r : List ℕ) → F v zs → zs ≡ p ++ ys → at + length p ≤ (reads at (p ++ r)).place
  fars at v zs p ys r f d = ⊎_elim
      (λ (h : Within p f.xs). inside h.0 h.1)
      (λ (h : Beyond p ys f.xs f.ys). beyond h.0 h.1 h.2 h.3)
      (two_cuts p ys f.xs f.ys (sym d ∙ f.whole))
    where
      inside : (q : List ℕ) → f.xs ≡ p ++ q → at + length p ≤ (reads at (p ++ r)).place
      inside q e = omega (arith, x.far at v.first p q r (subst (λ (z : List ℕ). L v.first z) e f.left), at_least at (p ++ r))

      beyond : (c : ℕ) (q : List ℕ) → p ≡ f.xs ++ c ∷ q → f.ys ≡ c ∷ q ++ ys → at + length p ≤ (reads at (p ++ r)).place
      beyond c q e g =
          let m : M v.first v.second (c ∷ q ++ ys) = rw g at f.right in
          let s : reads at (p ++ r) ≡ with_first v.first (then v.first (at + length f.xs) (c ∷ (q ++ r))) =
          reads_second at v.first f.xs c (q ++ r) (p ++ r) f.left (first v.first v.second c (q ++ ys) m)
          (ap (λ (z : List ℕ). z ++ r) e ∙ append_assoc f.xs (c ∷ q) r) in
          let n : length p ≡ length f.xs + length (c ∷ q) = ap length e ∙ length-append f.xs (c ∷ q) in
          rw s (omega (arith, (y v.first f.xs f.left).far (at + length f.xs) v.second (c ∷ q) ys r m))

  pub takes_followed : Takes (Both A B) reads F Q
  takes_followed = record {
    outcome = outcomes;
    full = fulls;
    far = λ at v p ys r f. fars at v (p ++ ys) p ys r f refl;
  }
