-- From one cursor to another a path hands out the satisfying instants that lie between the two.
-- Assumes nothing.
use Prim.Native.Nat.{ℕ, ◌+◌, ◌≤◌, ◌<◌}
use mathlib.Core.Path.{◌≡◌, refl, sym, subst}
use mathlib.Core.Logic.{inl, ⊎_elim}
use mathlib.Core.Bool.{true, false}
use mathlib.Core.List.{List, [], ◌∷◌, ◌++◌, append-nil, append_assoc}
use lib.ListN.{length-append}
use lib.Dec.{eqb, ltb}
use native.Mathlib.Numerals.{add-one}
use native.Mathlib.Omega.{arith}
use borrow.Author.Tests.{eqb-true, eqb-false, ltb-true, ltb-false}
use Rattle.machine.specs.declared.Cause.{Cause}
use Rattle.machine.specs.declared.State.{State}
use Rattle.machine.specs.declared.Cursor.{Cursor}
use Rattle.machine.specs.Rising.{◌∈◌, Rises}
use Rattle.machine.specs.Given.{Bound.present, AtMost, Below, reaches, Given, InRange, Satisfies}
use Rattle.machine.specs.Cursors.{fresh, remaining, next, Poised, WellFormed, end_by, pass, hand_out, move_to}
use Rattle.machine.specs.Run.{Deed, at_candidate, move_on}
use Rattle.machine.specs.Calls.{Told}
use Rattle.machine.specs.Sound.{NothingBetween, NothingAfter, Sound}
use Rattle.machine.specs.Promises.{Why, Listed}
use Rattle.machine.proofs.Laws.{split, rises_le, rises_append, rises_in, in_left, in_right, in_append, at_low, at_high, at_none, none_below, There}
use Rattle.machine.proofs.Laws.{there}
use Rattle.machine.proofs.Cases.{reached, not_reached, below_at_most, below_next, below_zero, at_most_zero, deed}
use Rattle.machine.proofs.Cases.{is_late, not_late, is_early, not_early, candidate_tests, counted_cases, move_tests}
use Rattle.machine.proofs.Paths.{told, next_deed, Path, Path.here, Path.on}

listed_on : {A : Type 0} (g : Given A) (c d e : Cursor) (xs ys : List ℕ) → Listed g c xs d → Listed g d ys e → Listed g c (xs ++ ys) e
listed_on g c d e xs ys a b = record {
  formed = b.formed;
  rises = rises_append _ (next g d) _ xs ys a.rises b.rises;
  only = λ t i. ⊎_elim (a.only t) (b.only t) (in_append t xs ys i);
  all = λ t s l h. ⊎_elim
      (λ (q : ltb t (next g d) ≡ true). in_left t xs ys (a.all t s l (ltb-true _ _ q)))
      (λ (q : ltb t (next g d) ≡ false). in_right t xs ys (b.all t s (ltb-false _ _ q) h))
      (split (ltb t (next g d)));
  number = simp length-append (omega (arith, a.number, b.number));
  counted = b.counted;
  why = b.why;
}

-- where an instant lies beside-period period k: before it, in it or after it
module _ {A : Type 0} (g : Given A) (sound : Sound g) (k : ℕ) (r : InRange g k) where
  pub beside_period : (P : Type 0) (t : ℕ) (s : Satisfies g t) → (s.k < k → t < g.begins k → P) → (t ∈ g.kept k → P) → (k < s.k → g.ends k ≤ t → P) → P
  beside_period P t s before within after =
      let i = rises_in _ _ t (g.kept s.k) (sound.rises s.k s.in_range) s.kept in
      ⊎_elim
      (λ (a : eqb s.k k ≡ true). within (subst (λ (j : ℕ). t ∈ g.kept j) (eqb-true _ _ a) s.kept))
      (λ (a : eqb s.k k ≡ false). ⊎_elim
      (λ (b : ltb s.k k ≡ true). before (ltb-true _ _ b) (let o = sound.order s.k k s.in_range r (ltb-true _ _ b) in omega arith))
      (λ (b : ltb s.k k ≡ false).
      let n = eqb-false s.k k a in
      let l = ltb-false s.k k b in
      let h : k < s.k = omega arith in
      after h (let o = sound.order k s.k r s.in_range h in omega arith))
      (split (ltb s.k k)))
      (split (eqb s.k k))

module _ {A : Type 0} (g : Given A) (sound : Sound g) (c : Cursor) (r : c.state ≡ State.Running) (p : Poised g c) where
  up : Rises (g.begins c.k) (g.kept c.k) (g.ends c.k)
  up = sound.rises c.k p.in_range

  -- a cursor that ends where it stands
  ended_listed : (cause : Cause) → Why g (end_by cause c) cause → Listed g c [] (end_by cause c)
  ended_listed cause w = record {
    formed = λ q. absurd (let z : ◌≡◌ {A = ℕ} 0 1 = cc in omega arith);
    rises = omega arith;
    only = λ t i. absurd i;
    all = λ t s l h. absurd (omega arith);
    number = omega arith;
    counted = below_at_most g.count c.number p.below;
    why = λ a q. let e : cause ≡ a = cc in subst (Why g (end_by cause c)) e w;
  }

  -- a candidate
  module _ (x : ℕ) (xs : List ℕ) (e : remaining g c ≡ x ∷ xs) where
    at : There (g.ends c.k) c.place (c.place + 1) x (g.kept c.k)
    at =
        subst (λ (q : ℕ). There (g.ends c.k) c.place q x (g.kept c.k)) (sym (add-one c.place))
        (there (g.begins c.k) (g.ends c.k) c.place x (g.kept c.k) xs up e)

    between : (t : ℕ) → Satisfies g t → next g c ≤ t → t < next g (pass c) → t ≡ x
    between t s l h =
        let i = rises_in _ _ x (g.kept c.k) up at.member in
        let u = at_high _ _ (c.place + 1) (g.kept c.k) up in
        beside_period g sound c.k p.in_range (t ≡ x) t s
        (λ j b. absurd (omega (arith, at.here)))
        (λ k. at.gap t k (omega (arith, at.here)) h)
        (λ j b. absurd (omega arith))

    pass_listed : x < g.start → Listed g c [] (pass c)
    pass_listed b = record {
      formed = λ q. record { interval = p.interval; in_range = p.in_range; place = at.room; below = p.below; number = omega (arith, at.here, p.number) };
      rises = omega (arith, at.here, at.later);
      only = λ t i. absurd i;
      all = λ t s l h. absurd (let z = between t s l h in omega (arith, s.started));
      number = omega arith;
      counted = below_at_most g.count c.number p.below;
      why = λ a q. absurd (let z : ◌≡◌ {A = ℕ} 0 1 = cc in omega arith);
    }

    hand_listed : AtMost g.until x → g.start ≤ x → (d : Cursor) → next g d ≡ next g (pass c) → d.number ≡ c.number + 1 → WellFormed g d
        → ((cause : Cause) → d.state ≡ State.Ended cause → Why g d cause) → Listed g c (x ∷ []) d
    hand_listed u b d n h f w = record {
      formed = f;
      rises = (omega (arith, at.here), omega (arith, at.later));
      only = λ t i. ⊎_elim
          (λ (q : t ≡ x). subst (Satisfies g) (sym q) (record { k = c.k; in_range = p.in_range; kept = at.member; started = b; within = u }))
          (λ z. absurd z)
          i;
      all = λ t s l v. inl (between t s l (omega arith));
      number = omega arith;
      counted = rw h (below_next g.count c.number p.below);
      why = w;
    }

  -- none remains
  module _ (e : remaining g c ≡ []) where
    last : next g c ≡ g.ends c.k
    last = at_none (g.ends c.k) c.place (g.kept c.k) e

    over : NothingAfter g c.k → (t : ℕ) → Satisfies g t → t < next g c
    over n t s =
        let u = rises_le _ _ (g.kept c.k) up in
        beside_period g sound c.k p.in_range (t < next g c) t s
        (λ j b. omega (arith, last))
        (λ k. let i = rises_in _ _ t (g.kept c.k) up k in omega (arith, last))
        (λ j b. absurd (subst (λ (l : List ℕ). t ∈ l) (n s.k s.in_range j) s.kept))

    move_listed : (k : ℕ) → c.k < k → InRange g k → NothingBetween g c.k k → Listed g c [] (move_to k c)
    move_listed k h i n = record {
      formed = λ q. record { interval = p.interval; in_range = i; place = omega arith; below = p.below; number = omega (arith, p.number, ahead) };
      rises = ahead;
      only = λ t i. absurd i;
      all = λ t s l v. absurd (skipped t s l v);
      number = omega arith;
      counted = below_at_most g.count c.number p.below;
      why = λ a q. absurd (let z : ◌≡◌ {A = ℕ} 0 1 = cc in omega arith);
    }
      where
        there_up : Rises (g.begins k) (g.kept k) (g.ends k)
        there_up = sound.rises k i

        ahead : next g c ≤ next g (move_to k c)
        ahead =
            let o = sound.order c.k k p.in_range i h in
            let l = at_low _ _ 0 (g.kept k) there_up in
            omega (arith, last)

        skipped : (t : ℕ) → Satisfies g t → next g c ≤ t → t < next g (move_to k c) → ⊥
        skipped t s l v =
            let u = rises_le _ _ (g.kept c.k) up in
            let w = at_high _ _ 0 (g.kept k) there_up in
            beside_period g sound c.k p.in_range ⊥ t s
            (λ j b. omega (arith, last))
            (λ m. let y = rises_in _ _ t (g.kept c.k) up m in omega (arith, last))
            (λ j b. beside_period g sound k i ⊥ t s
            (λ j' b'. subst (λ (l : List ℕ). t ∈ l) (n s.k s.in_range j j') s.kept)
            (λ m. let y = none_below _ _ t (g.kept k) there_up m in omega arith)
            (λ j' b'. omega arith))

  abbrev By : Deed → Type 0
  By d = Listed g c (told d).listed (told d).cursor

  deed_listed : (xs : List ℕ) → remaining g c ≡ xs → By (deed g c xs)
  unfolding at_candidate move_on
  deed_listed [] e =
      move_tests (By (move_on g c)) g c
      (λ k q.
      rw (q, move_on)
      (move_listed e k (sound.later c.k k q) (sound.lands c.k k p.in_range q) (sound.skips c.k k p.in_range q)))
      (λ q. rw (q, move_on) (ended_listed Cause.NoTick (over e (sound.no_tick c.k p.in_range q))))
      (λ q. rw (q, move_on) (ended_listed Cause.Range (over e (sound.range c.k p.in_range q))))
  deed_listed (x ∷ xs) e =
      candidate_tests (By (at_candidate g x c)) g x
      (λ a. rw (a, at_candidate) (ended_listed Cause.Until (λ t s. let h = is_late g x t a s.within in omega (arith, (at x xs e).here))))
      (λ a b. rw (a, b, at_candidate) (pass_listed x xs e (is_early g x b)))
      (λ a b.
      rw (a, b, at_candidate)
      (counted_cases (λ (d : Cursor). Listed g c (x ∷ []) d) g _
      (λ q. hand_listed x xs e (not_late g x a) (not_early g x b) _ refl refl
      (λ z. absurd (let z : ◌≡◌ {A = ℕ} 0 1 = cc in omega arith))
      (λ f z. let w : Cause.Count ≡ f = cc in subst (Why g (end_by Cause.Count (hand_out (pass c)))) w (reached g.count (c.number + 1) q)))
      (λ q. hand_listed x xs e (not_late g x a) (not_early g x b) _ refl refl
      (λ z. record {
        interval = p.interval;
        in_range = p.in_range;
        place = (at x xs e).room;
        below = not_reached g.count c.number q p.below;
        number = omega (arith, (at x xs e).here, (at x xs e).later, p.number, not_early g x b);
      })
      (λ f z. absurd (let z : ◌≡◌ {A = ℕ} 0 1 = cc in omega arith)))))

pub path_listed : {A : Type 0} (g : Given A) → Sound g → (o : Cursor) {c : Cursor} {r : Told ℕ} (xs : List ℕ)
    → Path g c r → Listed g o xs c → Listed g o (xs ++ r.listed) r.cursor
unfolding next_deed
path_listed g sound o xs here a = rw append-nil a
path_listed g sound o xs (on {c = c} s p) a =
    let d = deed_listed g sound c s (a.formed s) (remaining g c) refl in
    rw append_assoc at (path_listed g sound o (xs ++ (told (next_deed g c)).listed) p (listed_on g o c _ xs _ a d))

-- a cursor as it stands, and a fresh one
pub listed_here : {A : Type 0} (g : Given A) (c : Cursor) → c.state ≡ State.Running → WellFormed g c → Listed g c [] c
listed_here g c r f = record {
  formed = f;
  rises = omega arith;
  only = λ t i. absurd i;
  all = λ t s l h. absurd (omega arith);
  number = omega arith;
  counted = below_at_most g.count c.number (f r).below;
  why = λ a q. absurd (let z : ◌≡◌ {A = ℕ} 0 1 = cc in omega arith);
}

-- a fresh cursor's state, by cases
pub fresh_cases : {A : Type 0} (P : State → Type 0) (g : Given A)
    → (g.count ≡ present 0 → P (State.Ended Cause.Count))
    → (g.interval ≡ 0 → P (State.Ended Cause.Interval))
    → (Below g.count 0 → 1 ≤ g.interval → P State.Running)
    → P (fresh g).state
unfolding fresh
fresh_cases P g c i r =
    ⊎_elim
    (λ (a : reaches g.count 0 ≡ true). rw (a, fresh) (c (reached g.count 0 a)))
    (λ (a : reaches g.count 0 ≡ false). ⊎_elim
    (λ (b : eqb g.interval 0 ≡ true). rw (a, b, fresh) (i (eqb-true _ _ b)))
    (λ (b : eqb g.interval 0 ≡ false). rw (a, b, fresh) (r (below_zero g.count a) (let n = eqb-false g.interval 0 b in omega arith)))
    (split (eqb g.interval 0)))
    (split (reaches g.count 0))

pub fresh_formed : {A : Type 0} (g : Given A) → (1 ≤ g.interval → Sound g) → WellFormed g (fresh g)
unfolding fresh
fresh_formed g sound =
    fresh_cases (λ (y : State). y ≡ State.Running → Poised g (fresh g)) g
    (λ e q. absurd (let z : ◌≡◌ {A = ℕ} 0 1 = cc in omega arith))
    (λ e q. absurd (let z : ◌≡◌ {A = ℕ} 0 1 = cc in omega arith))
    (λ b i q. record { interval = i; in_range = (sound i).first; place = omega arith; below = b; number = omega arith })

pub fresh_listed : {A : Type 0} (g : Given A) → Sound g → 1 ≤ g.interval → Listed g (fresh g) [] (fresh g)
unfolding fresh
fresh_listed g sound i = record {
  formed = fresh_formed g (λ i. sound);
  rises = omega arith;
  only = λ t i. absurd i;
  all = λ t s l h. absurd (omega arith);
  number = omega arith;
  counted = at_most_zero g.count;
  why =
      fresh_cases (λ (y : State). (cause : Cause) → y ≡ State.Ended cause → Why g (fresh g) cause) g
      (λ e a q. let w : Cause.Count ≡ a = cc in subst (Why g (fresh g)) w e)
      (λ e a q. absurd (omega arith))
      (λ b i a q. absurd (let z : ◌≡◌ {A = ℕ} 0 1 = cc in omega arith));
}
