-- Every run goes along one path of cursors, which neither buffer nor budget can bend.
-- Assumes nothing.
use Prim.Native.Nat.{ℕ, zero, suc, ◌+◌, ◌≤◌, ◌<◌}
use mathlib.Core.Path.{◌≡◌, refl, sym, ap, ◌∙◌}
use mathlib.Core.Logic.{◌⊎◌, inl, inr, ⊎_elim}
use mathlib.Core.List.{List, [], ◌∷◌, append-nil, append_assoc}
use lib.ListN.{length, length-append}
use native.Mathlib.Nat.{add_assoc, add-zero, zero-add}
use native.Mathlib.Omega.{arith}
use Rattle.machine.specs.declared.Cause.{Cause}
use Rattle.machine.specs.declared.State.{State}
use Rattle.machine.specs.declared.Cursor.{Cursor}
use Rattle.machine.specs.Given.{Move, Move.To, Move.NoTick, Move.Range, Given}
use Rattle.machine.specs.Cursors.{remaining, move_to}
use Rattle.machine.specs.Run.{Deed, Deed.leaves, Deed.hands, Deed.moves, at_candidate, move_on}
use Rattle.machine.specs.Calls.{Told, join, still}
use Rattle.machine.specs.Promises.{moved, First}
use Rattle.machine.proofs.Cases.{deed, candidate_tests, counted_cases, move_tests}

-- what a deed tells, in seconds
abbrev pub told : Deed → Told ℕ
told (leaves c) = record { listed = []; moves = 0; cursor = c }
told (hands x c) = record { listed = x ∷ []; moves = 0; cursor = c }
told (moves c) = record { listed = []; moves = 1; cursor = c }

unfoldable pub next_deed : {A : Type 0} → Given A → Cursor → Deed
next_deed g c = deed g c (remaining g c)

-- running cursors, deed by deed
pub data Path {A : Type 0} (g : Given A) : Cursor → Told ℕ → Type 0 where
  here : {c : Cursor} → Path g c (still c)
  on : {c : Cursor} {r : Told ℕ} → c.state ≡ State.Running → Path g (told (next_deed g c)).cursor r → Path g c (join (told (next_deed g c)) r)

pub join_assoc : {B : Type 0} (a b c : Told B) → join (join a b) c ≡ join a (join b c)
join_assoc a b c = rw (append_assoc, add_assoc)

pub join_still : (a : Told ℕ) → join a (still a.cursor) ≡ a
join_still a = rw (append-nil, add-zero)

pub still_join : {B : Type 0} (c : Cursor) (a : Told B) → join (still c) a ≡ a
still_join c a = rw zero-add

pub path_append : {A : Type 0} (g : Given A) {c : Cursor} {r q : Told ℕ} → Path g c r → Path g r.cursor q → Path g c (join r q)
path_append g {q = q} here e = rw zero-add e
path_append g {q = q} (on {r = r} s p) e = rw join_assoc (on s (path_append g p e))

-- two paths from one cursor that both come to an ended one are the same
pub one_path : {A : Type 0} (g : Given A) {c : Cursor} {r q : Told ℕ} {a b : Cause}
    → Path g c r → Path g c q → r.cursor.state ≡ State.Ended a → q.cursor.state ≡ State.Ended b → r ≡ q
one_path g here here d e = refl
one_path g here (on s p) d e = absurd (let z : ◌≡◌ {A = ℕ} 0 1 = cc in omega arith)
one_path g (on s p) here d e = absurd (let z : ◌≡◌ {A = ℕ} 0 1 = cc in omega arith)
one_path g {c} (on s p) (on t q) d e = ap (join (told (next_deed g c))) (one_path g p q d e)

-- An ended cursor stays.
pub ended_stays : {A : Type 0} (g : Given A) {c : Cursor} {r : Told ℕ} {a : Cause} → Path g c r → c.state ≡ State.Ended a → r ≡ still c
ended_stays g here e = refl
ended_stays g (on s p) e = absurd (let z : ◌≡◌ {A = ℕ} 0 1 = cc in omega arith)

-- of two paths from one cursor one is a first part of the other; and of one that has come to the end every path is
first_on : (d : Deed) (r q : Told ℕ) → First r q → First (join (told d) r) (join (told d) q)
first_on d r q m = (m.0, join_assoc (told d) r m.0 ∙ ap (join (told d)) m.1)

pub one_of_two : {A : Type 0} (g : Given A) {c : Cursor} {r q : Told ℕ} → Path g c r → Path g c q → First r q ⊎ First q r
one_of_two g {q = q} here p = inl (q, rw zero-add)
one_of_two g {r = r} (on s p) here = inr (r, rw zero-add)
one_of_two g {c} (on {r = r} s p) (on {r = q} t w) =
    ⊎_elim
    (λ (f : First r q). inl (first_on (next_deed g c) r q f))
    (λ (f : First q r). inr (first_on (next_deed g c) q r f))
    (one_of_two g p w)

pub path_prefix : {A : Type 0} (g : Given A) {c : Cursor} {r q : Told ℕ} {a : Cause} → Path g c r → Path g c q → q.cursor.state ≡ State.Ended a → First r q
path_prefix g {q = q} here p e = (q, rw zero-add)
path_prefix g (on s p) here e = absurd (let z : ◌≡◌ {A = ℕ} 0 1 = cc in omega arith)
path_prefix g {c} (on {r = r} s p) (on {r = q} t w) e = first_on (next_deed g c) r q (path_prefix g p w e)

-- What holds of each deed, and of two paths where it holds of each, holds of a path.
module _ {A : Type 0} (g : Given A) (P : Cursor → Told ℕ → Type 0) (P-here : (c : Cursor) → P c (still c))
    (P-on : (c : Cursor) (a b : Told ℕ) → P c a → P a.cursor b → P c (join a b))
    (P-same : (c d : Cursor) (xs : List ℕ) → d.k ≡ c.k → d.number ≡ c.number + length xs → P c (record { listed = xs; moves = 0; cursor = d }))
    (P-to : (c : Cursor) (k : ℕ) → g.move c.k ≡ To k → P c (told (moves (move_to k c)))) where
  deed_holds : (c : Cursor) (xs : List ℕ) → P c (told (deed g c xs))
  unfolding at_candidate move_on
  deed_holds c [] =
      move_tests (P c (told (move_on g c))) g c
      (λ k e. rw (e, move_on) (P-to c k e))
      (λ e. rw (e, move_on) (P-same _ _ _ refl (omega arith)))
      (λ e. rw (e, move_on) (P-same _ _ _ refl (omega arith)))
  deed_holds c (x ∷ xs) =
      candidate_tests (P c (told (at_candidate g x c))) g x
      (λ a. rw (a, at_candidate) (P-same _ _ _ refl (omega arith)))
      (λ a b. rw (a, b, at_candidate) (P-same _ _ _ refl (omega arith)))
      (λ a b.
      rw (a, b, at_candidate)
      (counted_cases (λ (d : Cursor). P c (told (hands x d))) g _ (λ d. P-same _ _ _ refl (omega arith)) (λ d. P-same _ _ _ refl (omega arith))))

  path_holds : {c : Cursor} {r : Told ℕ} → Path g c r → P c r
  unfolding next_deed
  path_holds (here {c = c}) = P-here c
  path_holds (on {c = c} {r = r} s p) = P-on c (told (next_deed g c)) r (deed_holds c (remaining g c)) (path_holds p)

-- The moves show in k: each goes to a later period, and k rises by no more than the moves where each goes to the next one.
pub path_later : {A : Type 0} (g : Given A) → ((k k' : ℕ) → g.move k ≡ To k' → k < k')
    → {c : Cursor} {r : Told ℕ} → Path g c r → c.k + r.moves ≤ r.cursor.k
path_later g later =
    path_holds g (λ c r. c.k + r.moves ≤ r.cursor.k)
    (λ c. omega arith)
    (λ c a b p q. omega arith)
    (λ c d xs e n. omega arith)
    (λ c k e. let h = later c.k k e in omega arith)

pub path_by_one : {A : Type 0} (g : Given A) → ((k k' : ℕ) → g.move k ≡ To k' → k' ≡ k + 1)
    → {c : Cursor} {r : Told ℕ} → Path g c r → r.cursor.k ≡ c.k + r.moves
path_by_one g next =
    path_holds g (λ c r. r.cursor.k ≡ c.k + r.moves)
    (λ c. omega arith)
    (λ c a b p q. omega arith)
    (λ c d xs e n. omega arith)
    (λ c k e. let h = next c.k k e in omega arith)

-- so many moves lead there
moved_on : {A : Type 0} (g : Given A) (a b k k' : ℕ) (y : Move) → moved g a k ≡ To k' → moved g b k' ≡ y → moved g (a + b) k ≡ y
unfolding moved
moved_on g zero b k k' y e f = let s : k ≡ k' = cc in rw (zero-add, s) f
moved_on g (suc a) b k k' y e f = on (λ j d. moved_on g a b j k' y d f) (g.move k) refl
  where
    one_more : suc a + b ≡ suc (a + b)
    one_more = omega arith

    on : ((j : ℕ) → moved g a j ≡ To k' → moved g (a + b) j ≡ y) → (z : Move) → g.move k ≡ z → moved g (suc a + b) k ≡ y
    on rest (To j) q = rw (one_more, q, moved) (rest j (rw (q, moved) at e))
    on rest NoTick q = absurd (let h : NoTick ≡ To k' = rw (q, moved) at e in let z : ◌≡◌ {A = ℕ} 0 1 = cc in omega arith)
    on rest Range q = absurd (let h : Range ≡ To k' = rw (q, moved) at e in let z : ◌≡◌ {A = ℕ} 0 1 = cc in omega arith)

pub path_moved : {A : Type 0} (g : Given A) {c : Cursor} {r : Told ℕ} → Path g c r → moved g r.moves c.k ≡ To r.cursor.k
unfolding moved
path_moved g =
    path_holds g (λ c r. moved g r.moves c.k ≡ To r.cursor.k)
    (λ c. refl)
    (λ c a b p q. moved_on g a.moves b.moves c.k a.cursor.k _ p q)
    (λ c d xs e n. ap To (sym e))
    (λ c k e. rw (e, moved))

-- the number grows by what is handed out
pub path_number : {A : Type 0} (g : Given A) {c : Cursor} {r : Told ℕ} → Path g c r → r.cursor.number ≡ c.number + length r.listed
path_number g =
    path_holds g (λ c r. r.cursor.number ≡ c.number + length r.listed)
    (λ c. omega arith)
    (λ c a b p q. simp length-append (omega arith))
    (λ c d xs e n. n)
    (λ c k e. omega arith)
