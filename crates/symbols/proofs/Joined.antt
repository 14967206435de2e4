-- A joined list keeps to its language if each symbol does.
-- Assumes nothing.
use Prim.Native.Nat.{ℕ, zero, suc, ◌+◌, ◌≤◌}
use native.Mathlib.Omega.{arith}
use mathlib.Core.Path.{◌≡◌, refl, sym, ap, ◌∙◌, subst}
use mathlib.Core.Logic.{⊎_elim}
use mathlib.Core.Bool.{Bool, true, false}
use mathlib.Core.List.{List, [], ◌∷◌, ◌++◌, append_assoc}
use lib.ListN.{length, length-append}
use lib.Dec.{eqb}
use borrow.Author.Tests.{eqb-true, eq-eqb}
use Rattle.symbols.specs.Languages.{Joined, Joined.one, Joined.more}
use Rattle.symbols.specs.Takes.{Took, took, Stop, Outcome, Takes}
use Rattle.symbols.specs.Readers.{head_is, behind, single, after, goes_on, joined}
use Rattle.symbols.proofs.Cuts.{and_both, head_same, tail_same, Within, Beyond, two_cuts, stop_on, outcome_by}

-- a list that begins with c
head_is_lem : (c : ℕ) (r : List ℕ) → head_is c r ≡ true → r ≡ c ∷ behind r
head_is_lem c [] e = absurd (let z : ◌≡◌ {A = ℕ} 0 1 = cc in omega arith)
head_is_lem c (b ∷ r) e = ap (λ (x : ℕ). x ∷ r) (eqb-true b c e)

module _ (S A : Type 0) (take : S → ℕ → List ℕ → Took A) (next : S → A → S) (L : S → A → List ℕ → Type 0) (c : ℕ) (P Q : ℕ → Type 0)
    (Inv : ℕ → S → Type 0)
    (keeps : (n : ℕ) (s : S) → Inv n s → Takes A (take s) (L s) P)
    (goes : (n : ℕ) (s : S) (a : A) (xs : List ℕ) → Inv (suc n) s → L s a xs → Inv n (next s a))
    (joins : P c) (ends : (b : ℕ) → Q b → P b) (apart : (b : ℕ) → Q b → eqb b c ≡ false) where
  abbrev J : ℕ → S → List A → List ℕ → Type 0
  J n s = Joined S A next L c n s

  abbrev reads : ℕ → S → ℕ → List ℕ → Took (List A)
  reads n s = joined take next c n s

  -- the list behind the symbol k and its joining byte
  abbrev rest : ℕ → S → Took A → Took (List A)
  rest n s k = reads n (next s k.value) (k.place + 1) (behind k.rest)

  abbrev Rest : ℕ → S → Took A → Type 0
  Rest n s k = Outcome (List A) (J n (next s k.value)) (k.place + 1) (behind k.rest) (rest n s k)

  abbrev on : ℕ → S → Took A → Took (List A)
  on n s k = after k.value (rest n s k)

  reads_none : (s : S) (at : ℕ) (t : List ℕ) → reads zero s at t ≡ single (take s at t)
  unfolding joined
  reads_none s at t = refl

  reads_on : (n : ℕ) (s : S) (at : ℕ) (t : List ℕ) → goes_on c (take s at t) ≡ true → reads (suc n) s at t ≡ on n s (take s at t)
  unfolding joined
  reads_on n s at t e = rw (e, joined)

  reads_off : (n : ℕ) (s : S) (at : ℕ) (t : List ℕ) → goes_on c (take s at t) ≡ false → reads (suc n) s at t ≡ single (take s at t)
  unfolding joined
  reads_off n s at t e = rw (e, joined)

  whole_on : (k : Took A) → goes_on c k ≡ true → k.whole ≡ true
  whole_on k e = (and_both k.whole (head_is c k.rest) e).0

  lifted : (n : ℕ) (s : S) (at : ℕ) (t : List ℕ) (k : Took A) → Outcome A (L s) at t k → Outcome (List A) (J n s) at t (single k)
  lifted n s at t k o = outcome_by (λ (a : A). a ∷ []) (λ a xs l. one l) o

  continued : (n : ℕ) (s : S) (at : ℕ) (t : List ℕ) (k : Took A) → goes_on c k ≡ true → Outcome A (L s) at t k → Rest n s k
      → Outcome (List A) (J (suc n) s) at t (on n s k)
  continued n s at t k e o q =
      let l : L s k.value o.used = o.good (whole_on k e) in
      let h : k.rest ≡ c ∷ behind k.rest = head_is_lem c k.rest (and_both k.whole (head_is c k.rest) e).1 in
      record {
        used = o.used ++ c ∷ q.used;
        cut = o.cut ∙ ap (λ (x : List ℕ). o.used ++ x) (h ∙ ap (λ (x : List ℕ). c ∷ x) q.cut) ∙ sym (append_assoc o.used (c ∷ q.used) _);
        stands = q.stands ∙ simp (length-append) (let z : k.place ≡ at + length o.used = o.stands in omega arith);
        good = λ g. more o.used q.used l (q.good g) refl;
        some = k.value ∷ q.some;
        more = q.more;
        begins = more o.used (q.used ++ q.more) l q.begins (append_assoc o.used (c ∷ q.used) q.more);
      }

  -- the state behind a symbol that is whole
  kept : (n : ℕ) (s : S) → Inv (suc n) s → (at : ℕ) (t : List ℕ) → goes_on c (take s at t) ≡ true → Inv n (next s (take s at t).value)
  kept n s i at t e =
      let o : Outcome A (L s) at t (take s at t) = (keeps (suc n) s i).outcome at t in
      goes n s (take s at t).value o.used i (o.good (whole_on (take s at t) e))

  outcomes : (n : ℕ) (s : S) → Inv n s → (at : ℕ) (t : List ℕ) → Outcome (List A) (J n s) at t (reads n s at t)
  outcomes zero s i at t = rw reads_none (lifted zero s at t (take s at t) ((keeps zero s i).outcome at t))
  outcomes (suc n) s i at t =
      go (goes_on c (take s at t)) refl (λ m. outcomes n (next s (take s at t).value) m ((take s at t).place + 1) (behind (take s at t).rest))
    where
      go : (b : Bool) → goes_on c (take s at t) ≡ b → (Inv n (next s (take s at t).value) → Rest n s (take s at t))
          → Outcome (List A) (J (suc n) s) at t (reads (suc n) s at t)
      go false e q = rw (reads_off n s at t e) (lifted (suc n) s at t (take s at t) ((keeps (suc n) s i).outcome at t))
      go true e q = rw (reads_on n s at t e) (continued n s at t (take s at t) e ((keeps (suc n) s i).outcome at t) (q (kept n s i at t e)))

  no_head : (r : List ℕ) → Stop Q r → head_is c r ≡ false
  no_head [] h = refl
  no_head (b ∷ r) h = apart b h

  -- the symbol's answer is known: so is the list's
  off_by : (n : ℕ) (s : S) (at : ℕ) (t : List ℕ) (m : ℕ) (r : List ℕ) (a : A) → take s at t ≡ took true m r a → head_is c r ≡ false
      → reads n s at t ≡ took true m r (a ∷ [])
  off_by zero s at t m r a e h = reads_none s at t ∙ ap (λ (k : Took A). single k) e
  off_by (suc n) s at t m r a e h = reads_off n s at t (ap (λ (k : Took A). goes_on c k) e ∙ h) ∙ ap (λ (k : Took A). single k) e

  on_by : (n : ℕ) (s : S) → Inv (suc n) s → (at : ℕ) (a : A) (xs r t : List ℕ) → L s a xs → t ≡ xs ++ c ∷ r
      → reads (suc n) s at t ≡ after a (reads n (next s a) (at + length xs + 1) r)
  on_by n s i at a xs r t l d =
      let e : take s at t ≡ took true (at + length xs) (c ∷ r) a = rw d ((keeps (suc n) s i).full at a xs (c ∷ r) l joins) in
      reads_on n s at t (ap (λ (k : Took A). goes_on c k) e ∙ eq-eqb c c refl) ∙ ap (λ (k : Took A). on n s k) e

  fulls : (n : ℕ) (s : S) → Inv n s → (at : ℕ) (bs : List A) (zs r : List ℕ) → J n s bs zs → Stop Q r
      → reads n s at (zs ++ r) ≡ took true (at + length zs) r bs
  fulls n s i at [] zs r j h = elim j [ ]
  fulls n s i at (a ∷ []) zs r (one l) h =
      off_by n s at (zs ++ r) (at + length zs) r a ((keeps n s i).full at a zs r l (stop_on P Q ends r h)) (no_head r h)
  fulls (suc n) s i at (a ∷ bs) zs r (more xs ys l j e) h =
      on_by n s i at a xs (ys ++ r) (zs ++ r) l (ap (λ (x : List ℕ). x ++ r) e ∙ append_assoc xs (c ∷ ys) r)
      ∙ ap (λ (k : Took (List A)). after a k) (fulls n (next s a) (goes n s a xs i l) (at + length xs + 1) bs ys r j h)
      ∙ ap (λ (m : ℕ). took true m r (a ∷ bs)) (rw (e, length-append) (omega arith))

  -- the list goes at least as far as its first symbol
  at_least : (n : ℕ) (s : S) → Inv n s → (at : ℕ) (t : List ℕ) → (take s at t).place ≤ (reads n s at t).place
  at_least zero s i at t = rw reads_none (omega arith)
  at_least (suc n) s i at t = go (goes_on c (take s at t)) refl
    where
      go : (b : Bool) → goes_on c (take s at t) ≡ b → (take s at t).place ≤ (reads (suc n) s at t).place
      go false e = rw (reads_off n s at t e) (omega arith)
      go true e =
          let q : Rest n s (take s at t) = outcomes n (next s (take s at t).value) (kept n s i at t e) ((take s at t).place + 1) (behind (take s at t).rest) in
          rw (reads_on n s at t e) (omega (arith, q.stands))

  first_far : (n : ℕ) (s : S) → Inv n s → (at : ℕ) (a : A) (p ys r : List ℕ) → L s a (p ++ ys) → at + length p ≤ (reads n s at (p ++ r)).place
  first_far n s i at a p ys r l = omega (arith, (keeps n s i).far at a p ys r l, at_least n s i at (p ++ r))

  fars : (n : ℕ) (s : S) → Inv n s → (at : ℕ) (bs : List A) (zs p ys r : List ℕ) → J n s bs zs → zs ≡ p ++ ys
      → at + length p ≤ (reads n s at (p ++ r)).place
  fars n s i at [] zs p ys r j d = elim j [ ]
  fars n s i at (a ∷ []) zs p ys r (one l) d = first_far n s i at a p ys r (subst (λ (x : List ℕ). L s a x) d l)
  fars (suc n) s i at (a ∷ bs) zs p ys r (more us vs l j e) d =
      ⊎_elim
      (λ (h : Within p us). first_far (suc n) s i at a p h.0 r (subst (λ (x : List ℕ). L s a x) h.1 l))
      (λ (h : Beyond p ys us (c ∷ vs)).
      beyond h.1 (rw (head_same h.3) h.2) (fars n (next s a) (goes n s a us i l) (at + length us + 1) bs vs h.1 ys r j (tail_same h.3)))
      (two_cuts p ys us (c ∷ vs) (sym d ∙ e))
    where
      beyond : (q : List ℕ) → p ≡ us ++ c ∷ q → at + length us + 1 + length q ≤ (reads n (next s a) (at + length us + 1) (q ++ r)).place
          → at + length p ≤ (reads (suc n) s at (p ++ r)).place
      beyond q f g =
          let m : length p ≡ length us + suc (length q) = ap length f ∙ length-append us (c ∷ q) in
          rw (on_by n s i at a us (q ++ r) (p ++ r) l (ap (λ (x : List ℕ). x ++ r) f ∙ append_assoc us (c ∷ q) r)) (omega arith)

  pub takes_joined : (n : ℕ) (s : S) → Inv n s → Takes (List A) (reads n s) (J n s) Q
  takes_joined n s i = record {
    outcome = outcomes n s i;
    full = fulls n s i;
    far = λ at bs p ys r j. fars n s i at bs (p ++ ys) p ys r j refl;
  }
