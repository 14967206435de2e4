-- What a walk keeps to: its period and moves, the buffer's length, and counts that rise together.
-- Assumes nothing.
use Prim.Native.Nat.{ℕ, zero, suc, ◌+◌, ◌-◌, ◌≤◌, ◌<◌}
use mathlib.Core.Path.{◌≡◌, refl, sym, ap, subst, ◌∙◌}
use mathlib.Core.Bool.{Bool, true, false}
use mathlib.Core.List.{List, [], ◌∷◌}
use lib.ListN.{length, length-set}
use native.Mathlib.Omega.{arith}
use borrow.Author.Tests.{eqb-false}
use Rattle.machine.specs.declared.Cause.{Cause}
use Rattle.machine.specs.declared.State.{State}
use Rattle.machine.specs.declared.Stop.{Stop}
use Rattle.machine.specs.declared.Cursor.{Cursor}
use Rattle.machine.specs.Given.{Given, reaches}
use Rattle.machine.specs.Cursors.{end_by, pass, hand_out}
use Rattle.machine.specs.Run.{Deed, Deed.leaves, Deed.hands, counted, late, early, at_candidate, Now, does, full}
use Rattle.machine.specs.Compute.{Walked.stopped, outcome, proceed, walk}
use Rattle.walks.specs.declared.rrule_iter.Held.{Held}
use Rattle.walks.specs.declared.rrule_iter.Walked as answer
use Rattle.walks.specs.declared.rrule_iter.Bounds.{Bounds}
use Rattle.walks.specs.Walks.{given_by, now_of, walked_by, tabled, walk_from}
use Rattle.crossing.specs.Crossing.{Keeps}
use Rattle.crossing.proofs.ReadBack.{now_in, held_in, read_back}

-- from s to t, past n candidates at most
record Goes (n : ℕ) (s t : Now ℕ) : Type 0 where
  k : t.cursor.k ≡ s.cursor.k
  made : t.made ≡ s.made
  long : length t.buffer ≡ length s.buffer
  more : s.handed ≤ t.handed
  room : t.handed ≤ length t.buffer
  number : t.cursor.number + s.handed ≡ s.cursor.number + t.handed
  on : s.cursor.place ≤ t.cursor.place
  within : t.cursor.place ≤ s.cursor.place + n

stays : (n : ℕ) (s : Now ℕ) → s.handed ≤ length s.buffer → Goes n s s
stays n s h = record { k = refl; made = refl; long = refl; more = omega arith; room = h; number = refl; on = omega arith; within = omega arith }

goes_on : (n : ℕ) (s t u : Now ℕ) → Goes 1 s t → Goes n t u → Goes (suc n) s u
goes_on n s t u a b = record {
  k = b.k ∙ a.k;
  made = b.made ∙ a.made;
  long = b.long ∙ a.long;
  more = omega (arith, a.more, b.more);
  room = b.room;
  number = omega (arith, a.number, b.number);
  on = omega (arith, a.on, b.on);
  within = omega (arith, a.within, b.within);
}

goes_further : (n : ℕ) (s t : Now ℕ) → Goes 1 s t → Goes (suc n) s t
goes_further n s t a = record {
  k = a.k;
  made = a.made;
  long = a.long;
  more = a.more;
  room = a.room;
  number = a.number;
  on = a.on;
  within = omega (arith, a.within);
}

-- what a candidate does, by a motive
candidate_cases : (P : Deed → Type 0) (g : Given ℕ) (x : ℕ) (c : Cursor) → P (leaves (end_by Cause.Until c)) → P (leaves (pass c))
    → P (hands x (end_by Cause.Count (hand_out (pass c)))) → P (hands x (hand_out (pass c))) → P (at_candidate g x c)
unfolding at_candidate counted
candidate_cases P g x c a b d e = by_late (late g x)
  where
    by_count : (t : Bool) → P (hands x (elim t [ true ↦ end_by Cause.Count (hand_out (pass c)) | false ↦ hand_out (pass c) ]))
    by_count true = d
    by_count false = e

    by_early : (t : Bool) → P (elim t [ true ↦ leaves (pass c) | false ↦ hands x (counted g (hand_out (pass c))) ])
    by_early true = b
    by_early false = by_count (reaches g.count (c.number + 1))

    by_late : (t : Bool) → P (elim t [
      | true ↦ leaves (end_by Cause.Until c)
      | false ↦ elim (early g x) [
        | true ↦ leaves (pass c)
        | false ↦ hands x (counted g (hand_out (pass c)))
      ]
    ])
    by_late true = a
    by_late false = by_early (early g x)

-- one candidate, with a slot free
one : (g : Given ℕ) (x : ℕ) (s : Now ℕ) → s.handed < length s.buffer → Goes 1 s (does g s (at_candidate g x s.cursor))
one g x s h =
    candidate_cases (λ (d : Deed). Goes 1 s (does g s d)) g x s.cursor
    (record { k = refl; made = refl; long = refl; more = omega arith; room = omega arith; number = refl; on = omega arith; within = omega arith })
    (record { k = refl; made = refl; long = refl; more = omega arith; room = omega arith; number = refl; on = omega arith; within = omega arith })
    handed
    handed_last
  where
    handed : Goes 1 s (does g s (hands x (end_by Cause.Count (hand_out (pass s.cursor)))))
    handed = record {
      k = refl;
      made = refl;
      long = length-set s.buffer s.handed (g.shown x);
      more = omega arith;
      room = simp length-set (omega arith);
      number = omega arith;
      on = omega arith;
      within = omega arith;
    }

    handed_last : Goes 1 s (does g s (hands x (hand_out (pass s.cursor))))
    handed_last = record {
      k = refl;
      made = refl;
      long = length-set s.buffer s.handed (g.shown x);
      more = omega arith;
      room = simp length-set (omega arith);
      number = omega arith;
      on = omega arith;
      within = omega arith;
    }

walk_goes : (g : Given ℕ) (xs : List ℕ) (s : Now ℕ) → s.handed ≤ length s.buffer → Goes (length xs) s (now_in (walk g xs s))
unfolding walk now_in
walk_goes g [] s h = stays 0 s h
walk_goes g (x ∷ xs) s h = by_room (full s) refl (walk_goes g xs)
  where
    by_state : (t : Now ℕ) → Goes 1 s t → ((u : Now ℕ) → u.handed ≤ length u.buffer → Goes (length xs) u (now_in (walk g xs u)))
        → (state : State) → Goes (suc (length xs)) s (now_in (proceed (walk g xs) state t))
    by_state t a r (State.Ended cause) = goes_further (length xs) s t a
    by_state t a r State.Running = goes_on (length xs) s t (now_in (walk g xs t)) a (r t a.room)

    by_room : (b : Bool) → full s ≡ b → ((u : Now ℕ) → u.handed ≤ length u.buffer → Goes (length xs) u (now_in (walk g xs u)))
        → Goes (suc (length xs)) s (now_in (elim b [
          | true ↦ stopped (outcome Stop.More s)
          | false ↦ proceed (walk g xs) (does g s (at_candidate g x s.cursor)).cursor.state (does g s (at_candidate g x s.cursor))
        ]))
    by_room true e r = stays (suc (length xs)) s h
    by_room false e r =
        let f : s.handed ≡ length s.buffer → ⊥ = eqb-false _ _ e in
        let l : s.handed < length s.buffer = omega (arith, f) in
        by_state (does g s (at_candidate g x s.cursor)) (one g x s l) r (does g s (at_candidate g x s.cursor)).cursor.state

tabled_length : (f : ℕ → ℕ) (i n : ℕ) → length (tabled f i n) ≡ n
unfolding tabled
tabled_length f i zero = refl
tabled_length f i (suc n) = ap suc (tabled_length f (i + 1) n)

-- the claim of specs/Walks, of every walk
pub walked_keeps : (b : Bounds) (f : ℕ → ℕ) (n : ℕ) (h : Held) (buffer : List ℕ) → h.handed ≤ length buffer
    → (w : answer.Walked) (last : List ℕ) → walked_by w last ≡ walk_from b f n h buffer → Keeps n h buffer w.held last
unfolding walk_from held_in
walked_keeps b f n h buffer l w last e =
    let p = read_back w.why w.held last in
    let s : now_in (walk_from b f n h buffer) ≡ now_in (walked_by w last) = ap now_in (sym e) in
    let a : Goes (length (tabled f h.cursor.place (n - h.cursor.place))) (now_of State.Running h buffer) (now_in (walk_from b f n h buffer)) =
    walk_goes (given_by b) (tabled f h.cursor.place (n - h.cursor.place)) (now_of State.Running h buffer) l in
    let c : Keeps n h buffer (held_in w.held.cursor.state (now_in (walk_from b f n h buffer))) (now_in (walk_from b f n h buffer)).buffer = record {
      k = a.k;
      moves = a.made;
      long = a.long;
      more = a.more;
      room = a.room;
      number = a.number;
      on = a.on;
      within = λ m. omega (arith, a.within, tabled_length f h.cursor.place (n - h.cursor.place));
    } in
    subst (λ (x : Held). Keeps n h buffer x last) p.1
    (subst (λ (y : List ℕ). Keeps n h buffer (held_in w.held.cursor.state (now_in (walked_by w last))) y) p.2
    (subst (λ (x : Now ℕ). Keeps n h buffer (held_in w.held.cursor.state x) x.buffer) s c))
