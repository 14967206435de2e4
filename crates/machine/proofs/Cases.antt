-- A turn and a deed, by cases.
-- Assumes nothing.
use Prim.Native.Nat.{ℕ, ◌+◌, ◌≤◌, ◌<◌}
use mathlib.Core.Path.{◌≡◌, refl, sym, ap, subst, ◌∙◌}
use mathlib.Core.Logic.{⊎_elim}
use mathlib.Core.Bool.{true, false}
use mathlib.Core.List.{List, [], ◌∷◌}
use lib.ListN.{length}
use native.Mathlib.Omega.{arith}
use borrow.Author.Tests.{eqb-true, eqb-false, ltb-true, ltb-false}
use Rattle.machine.specs.declared.Cause.{Cause}
use Rattle.machine.specs.declared.State.{State}
use Rattle.machine.specs.declared.Stop.{Stop}
use Rattle.machine.specs.declared.Cursor.{Cursor}
use Rattle.machine.specs.Given.{Bound, Bound.absent, Bound.present, AtMost, Below, Above, above, reaches, Move, Move.To, Move.NoTick, Move.Range, Given}
use Rattle.machine.specs.Cursors.{remaining, end_by}
use Rattle.machine.specs.Run.{Deed, late, early, counted, at_candidate, move_on, Now, does, full, spent, Turn, Turn.stops, Turn.goes, look, enter, turn}
use Rattle.machine.proofs.Laws.{split}

-- bounds
pub above_until : (u : Bound) (x t : ℕ) → above u x ≡ true → AtMost u t → t < x
above_until absent x t a b = absurd (let z : ◌≡◌ {A = ℕ} 0 1 = cc in omega arith)
above_until (present u) x t a b = omega (arith, ltb-true u x a)

pub is_above : (u : Bound) (x : ℕ) → above u x ≡ true → Above u x
is_above absent x a = let z : ◌≡◌ {A = ℕ} 0 1 = cc in omega arith
is_above (present u) x a = ltb-true u x a

pub not_above : (u : Bound) (x : ℕ) → above u x ≡ false → AtMost u x
not_above absent x a = tt
not_above (present u) x a = ltb-false u x a

pub reached : (b : Bound) (n : ℕ) → reaches b n ≡ true → b ≡ present n
reached absent n a = absurd (let z : ◌≡◌ {A = ℕ} 0 1 = cc in omega arith)
reached (present c) n a = ap present (sym (eqb-true n c a))

pub not_reached : (b : Bound) (n : ℕ) → reaches b (n + 1) ≡ false → Below b n → Below b (n + 1)
not_reached absent n a h = tt
not_reached (present c) n a h = let ne = eqb-false (n + 1) c a in omega arith

pub below_at_most : (b : Bound) (n : ℕ) → Below b n → AtMost b n
below_at_most absent n h = tt
below_at_most (present c) n h = omega arith

pub below_next : (b : Bound) (n : ℕ) → Below b n → AtMost b (n + 1)
below_next absent n h = tt
below_next (present c) n h = omega arith

pub below_zero : (b : Bound) → reaches b 0 ≡ false → Below b 0
below_zero absent a = tt
below_zero (present c) a = let ne = eqb-false 0 c a in omega arith

pub no_room : (b : Bound) → b ≡ present 0 → Below b 0 → ⊥
no_room b e h = let z : 0 < 0 = subst (λ (x : Bound). Below x 0) e h in omega arith

pub at_most_zero : (b : Bound) → AtMost b 0
at_most_zero absent = tt
at_most_zero (present c) = omega arith

-- what a turn does where nothing stops it
abbrev pub deed : {A : Type 0} → Given A → Cursor → List ℕ → Deed
deed g c [] = move_on g c
deed g c (x ∷ xs) = at_candidate g x c

-- what the tests of a turn say
module _ {A : Type 0} (g : Given A) where
  pub is_late : (x t : ℕ) → late g x ≡ true → AtMost g.until t → t < x
  is_late x t a = above_until g.until x t a

  pub late_above : (x : ℕ) → late g x ≡ true → Above g.until x
  late_above x a = is_above g.until x a

  pub not_late : (x : ℕ) → late g x ≡ false → AtMost g.until x
  not_late x a = not_above g.until x a

  pub is_early : (x : ℕ) → early g x ≡ true → x < g.start
  is_early x b = omega (arith, ltb-true)

  pub not_early : (x : ℕ) → early g x ≡ false → g.start ≤ x
  not_early x b = omega (arith, ltb-false)

module _ {A : Type 0} (s : Now A) where
  pub is_full : full s ≡ true → s.handed ≡ length s.buffer
  is_full f = omega (arith, eqb-true)

  pub not_full : full s ≡ false → s.handed ≡ length s.buffer → ⊥
  not_full f e = omega (arith, eqb-false)

  pub is_spent : (m : ℕ) → spent m s ≡ true → s.made ≡ m
  is_spent m f = omega (arith, eqb-true)

  pub not_spent : (m : ℕ) → spent m s ≡ false → s.made ≡ m → ⊥
  not_spent m f e = omega (arith, eqb-false)

-- a candidate, by its tests
pub candidate_tests : {A : Type 0} (Q : Type 0) (g : Given A) (x : ℕ)
    → (late g x ≡ true → Q)
    → (late g x ≡ false → early g x ≡ true → Q)
    → (late g x ≡ false → early g x ≡ false → Q)
    → Q
candidate_tests Q g x l e h =
    ⊎_elim l (λ (a : late g x ≡ false). ⊎_elim (e a) (h a) (split (early g x))) (split (late g x))

pub counted_cases : {A : Type 0} (P : Cursor → Type 0) (g : Given A) (c : Cursor)
    → (reaches g.count c.number ≡ true → P (end_by Cause.Count c))
    → (reaches g.count c.number ≡ false → P c)
    → P (counted g c)
unfolding counted
counted_cases P g c y n =
    ⊎_elim
    (λ (a : reaches g.count c.number ≡ true). rw (a, counted) (y a))
    (λ (a : reaches g.count c.number ≡ false). rw (a, counted) (n a))
    (split (reaches g.count c.number))

-- a move, by what it is
pub move_tests : {A : Type 0} (Q : Type 0) (g : Given A) (c : Cursor)
    → ((k : ℕ) → g.move c.k ≡ To k → Q)
    → (g.move c.k ≡ NoTick → Q)
    → (g.move c.k ≡ Range → Q)
    → Q
move_tests Q g c t n r = on (g.move c.k) refl
  where
    on : (y : Move) → g.move c.k ≡ y → Q
    on (To k) e = t k e
    on NoTick e = n e
    on Range e = r e

-- the turns
module _ {A : Type 0} (g : Given A) (m : ℕ) (s : Now A) where
  pub turn_ended : (cause : Cause) → s.cursor.state ≡ State.Ended cause → turn g m s ≡ stops Stop.Ended
  unfolding turn
  turn_ended cause e = ap (λ (y : State). enter g m y s) e

  module _ (run : s.cursor.state ≡ State.Running) where
    pub turn_full : full s ≡ true → turn g m s ≡ stops Stop.More
    unfolding turn
    turn_full f = ap (λ (y : State). enter g m y s) run ∙ rw (f, enter)

    module _ (room : full s ≡ false) where
      turn_room : turn g m s ≡ look g m (remaining g s.cursor) s
      unfolding turn
      turn_room = ap (λ (y : State). enter g m y s) run ∙ rw (room, enter)

      pub turn_candidate : (x : ℕ) (xs : List ℕ) → remaining g s.cursor ≡ x ∷ xs → turn g m s ≡ goes (does g s (at_candidate g x s.cursor))
      turn_candidate x xs e = turn_room ∙ ap (λ (l : List ℕ). look g m l s) e

      pub turn_limited : remaining g s.cursor ≡ [] → spent m s ≡ true → turn g m s ≡ stops Stop.Limited
      turn_limited e l = turn_room ∙ ap (λ (l : List ℕ). look g m l s) e ∙ rw (l, look)

      pub turn_move : remaining g s.cursor ≡ [] → spent m s ≡ false → turn g m s ≡ goes (does g s (move_on g s.cursor))
      turn_move e l = turn_room ∙ ap (λ (l : List ℕ). look g m l s) e ∙ rw (l, look)

-- a turn, by cases
module _ {A : Type 0} (P : Turn A → Type 0) (g : Given A) (m : ℕ) (s : Now A) where
  pub turn_cases : ((cause : Cause) → s.cursor.state ≡ State.Ended cause → P (stops Stop.Ended))
      → (s.cursor.state ≡ State.Running → s.handed ≡ length s.buffer → P (stops Stop.More))
      → (s.cursor.state ≡ State.Running → (s.handed ≡ length s.buffer → ⊥) → remaining g s.cursor ≡ [] → s.made ≡ m → P (stops Stop.Limited))
      → (s.cursor.state ≡ State.Running → (s.handed ≡ length s.buffer → ⊥) → (x : ℕ) (xs : List ℕ) → remaining g s.cursor ≡ x ∷ xs
      → P (goes (does g s (at_candidate g x s.cursor))))
      → (s.cursor.state ≡ State.Running → (s.handed ≡ length s.buffer → ⊥) → remaining g s.cursor ≡ [] → (s.made ≡ m → ⊥)
      → P (goes (does g s (move_on g s.cursor))))
      → P (turn g m s)
  turn_cases ended more limited cand move = on s.cursor.state refl
    where
      roomy : s.cursor.state ≡ State.Running → full s ≡ false → (xs : List ℕ) → remaining g s.cursor ≡ xs → P (turn g m s)
      roomy r f (x ∷ xs) e = rw (turn_candidate g m s r f x xs e) (cand r (not_full s f) x xs e)
      roomy r f [] e =
          ⊎_elim
          (λ (a : spent m s ≡ true). rw (turn_limited g m s r f e a) (limited r (not_full s f) e (is_spent s m a)))
          (λ (a : spent m s ≡ false). rw (turn_move g m s r f e a) (move r (not_full s f) e (not_spent s m a)))
          (split (spent m s))

      on : (y : State) → s.cursor.state ≡ y → P (turn g m s)
      on (State.Ended cause) e = rw (turn_ended g m s cause e) (ended cause e)
      on State.Running e =
          ⊎_elim
          (λ (f : full s ≡ true). rw (turn_full g m s e f) (more e (is_full s f)))
          (λ (f : full s ≡ false). roomy e f (remaining g s.cursor) refl)
          (split (full s))
