-- What a walk leaves as it was, and what follows it.
-- Assumes nothing.
use Rattle.std.specs.Prelude.{Some, None}
use Prim.Native.Nat.{ℕ, zero, suc, ◌+◌, ◌-◌, ◌*◌, ◌^◌, min, ◌≤◌, ◌<◌}
use mathlib.Core.Path.{◌≡◌, refl, sym, ap, ◌∙◌, subst}
use mathlib.Core.Bool.{Bool, true, false, ◌||◌}
use mathlib.Core.List.{List, [], ◌∷◌}
use mathlib.Core.Logic.{◌⊎◌, inl, inr}
use lib.ListN.{length, set, drop, length-set}
use lib.Dec.{eqb, ltb}
use native.Mathlib.Omega.{arith}
use native.Mathlib.Decide.{dec_lt, ℕ_discrete}
use borrow.Author.Tests.{eqb-true, eqb-false}
use Rattle.machine.specs.declared.Cause.{Cause}
use Rattle.machine.specs.declared.State.{State}
use Rattle.machine.specs.declared.Stop.{Stop}
use Rattle.machine.specs.declared.Answer.{Answer}
use Rattle.machine.specs.Given.{above, reaches, Move.To, Move.NoTick, Move.Range, Given}
use Rattle.machine.specs.Cursors.{remaining}
use Rattle.machine.specs.Run.{Now}
use Rattle.machine.specs.Compute as compute
use Rattle.machine.specs.Calls.{beside, answered}
use Rattle.machine.proofs.RunLaws.{now, running, walk_full, walk_until, walk_pass, walk_count, walk_hand}
use Rattle.machine.proofs.RunLaws.{runs_stopped, runs_more, runs_limited, runs_to, runs_no_tick, runs_range}
use Rattle.walks.specs.declared.rrule_iter.Why.{Why}
use Rattle.walks.specs.declared.rrule_iter.Held.{Held}
use Rattle.walks.specs.declared.rrule_iter.Walked.{Walked}
use Rattle.walks.specs.declared.rrule_iter.Bounds.{Bounds}
use Rattle.walks.specs.declared.rrule_iter.Frame.{Frame}
use Rattle.walks.specs.Walks.{given_by, now_of, walked_by, tabled, second_at, walk_from, Framed, Timely}
use Rattle.crossing.specs.Crossing.{days_walk}
use Rattle.chosen.specs.Chosen.{places_walk}
use Rattle.std.proofs.lemmas.Bool.{cases_Bool, or_parts}
use Rattle.passing.specs.Passing.{Ready, passed_days}
use Rattle.passing.proofs.Passing.{passed_holds, passed_walks}
use Rattle.crossing.proofs.Walkable.{is_walkable_lem, days_walked}
use Rattle.chosen.proofs.Walkable.{places_walked}
use Rattle.opening.specs.Opening.{second_kept}
use Rattle.settling.specs.Settling.{answer_of, moved_to, settled_through, settled}

-- where a walk leaves off
abbrev pub left_at : {A : Type 0} → compute.Walked A → Now A
left_at (compute.stopped o) = o.now
left_at (compute.through s) = s

-- A walk leaves the period and the moves made alone; it hands out what it adds to the number, and no more than the buffer holds.
pub record Stays {A : Type 0} (k number made handed : ℕ) (buffer : List A) (t : Now A) : Type 0 where
  pub k_same : t.cursor.k ≡ k
  pub made_same : t.made ≡ made
  pub room_same : length t.buffer ≡ length buffer
  pub handed_low : handed ≤ t.handed
  pub handed_high : t.handed ≤ length buffer
  pub number_is : t.cursor.number + handed ≡ number + t.handed

module _ {A : Type 0} (g : Given A) where
  here : (state : State) (k place number made handed : ℕ) (buffer : List A) → handed ≤ length buffer
      → Stays k number made handed buffer (now state k place number made handed buffer)
  here state k place number made handed buffer h = record {
    k_same = refl;
    made_same = refl;
    room_same = refl;
    handed_low = omega arith;
    handed_high = h;
    number_is = refl;
  }

  -- one more is handed out
  one_more : (k number made handed : ℕ) (buffer : List A) (x : A) (t : Now A)
      → Stays k (number + 1) made (handed + 1) (set buffer handed x) t → Stays k number made handed buffer t
  one_more k number made handed buffer x t s =
      let l : length (set buffer handed x) ≡ length buffer = length-set buffer handed x in
      record {
        k_same = s.k_same;
        made_same = s.made_same;
        room_same = s.room_same ∙ l;
        handed_low = omega (arith, s.handed_low);
        handed_high = omega (arith, s.handed_high);
        number_is = omega (arith, s.number_is);
      }

  pub walk_stays : (xs : List ℕ) (k place number made handed : ℕ) (buffer : List A) → handed ≤ length buffer
      → Stays k number made handed buffer (left_at (compute.walk g xs (running k place number made handed buffer)))
  unfolding compute.walk
  walk_stays [] k place number made handed buffer h = here State.Running k place number made handed buffer h
  walk_stays (x ∷ xs) k place number made handed buffer h =
      at_full (λ p n d b l. walk_stays xs k p n made d b l) (ℕ_discrete handed (length buffer))
    where
      Goal : compute.Walked A → Type 0
      Goal w = Stays k number made handed buffer (left_at w)

      Rest : Type 0
      Rest = (p n d : ℕ) (b : List A) → d ≤ length b → Stays k n made d b (left_at (compute.walk g xs (running k p n made d b)))

      handing : Rest → (handed ≡ length buffer → ⊥) → above g.until x ≡ false → g.start ≤ x
          → (reaches g.count (number + 1) ≡ true) ⊎ (reaches g.count (number + 1) ≡ false)
          → Goal (compute.walk g (x ∷ xs) (running k place number made handed buffer))
      handing rest f u b (inl r) =
          rw (walk_count g x xs k place number made handed buffer f u b r)
          (one_more k number made handed buffer (g.shown x) _
          (here (State.Ended Cause.Count) k (place + 1) (number + 1) made (handed + 1) (set buffer handed (g.shown x)) (simp length-set (omega arith))))
      handing rest f u b (inr r) =
          rw (walk_hand g x xs k place number made handed buffer f u b r)
          (one_more k number made handed buffer (g.shown x) _
          (rest (place + 1) (number + 1) (handed + 1) (set buffer handed (g.shown x)) (simp length-set (omega arith))))

      at_start : Rest → (handed ≡ length buffer → ⊥) → above g.until x ≡ false → Dec (x < g.start)
          → Goal (compute.walk g (x ∷ xs) (running k place number made handed buffer))
      at_start rest f u (yes b) = rw (walk_pass g x xs k place number made handed buffer f u b) (rest (place + 1) number handed buffer h)
      at_start rest f u (no b) = handing rest f u (omega arith) (cases_Bool (reaches g.count (number + 1)))

      at_until : Rest → (handed ≡ length buffer → ⊥) → (above g.until x ≡ true) ⊎ (above g.until x ≡ false)
          → Goal (compute.walk g (x ∷ xs) (running k place number made handed buffer))
      at_until rest f (inl u) =
          rw (walk_until g x xs k place number made handed buffer f u) (here (State.Ended Cause.Until) k place number made handed buffer h)
      at_until rest f (inr u) = at_start rest f u (dec_lt x g.start)

      at_full : Rest → Dec (handed ≡ length buffer) → Goal (compute.walk g (x ∷ xs) (running k place number made handed buffer))
      at_full rest (yes f) = rw (walk_full g x xs k place number made handed buffer f) (here State.Running k place number made handed buffer h)
      at_full rest (no f) = at_until rest f (cases_Bool (above g.until x))

-- ---- what follows a walk

clash : (a : Answer) → None ≡ Some a → ⊥
clash a e = let z : ◌≡◌ {A = ℕ} 0 1 = cc in omega arith

one_stop : (a b : Answer) → Some a ≡ Some b → a ≡ b
one_stop a b e = cc

module _ (g : Given ℕ) (s : Now ℕ) (left m : ℕ) (h : Held) (buffer : List ℕ) (budget : left ≡ m - h.moves) where
  stopped_is : (stop : Stop) (state : State) → compute.walk g (remaining g s.cursor) s ≡ compute.stopped (compute.outcome stop (now_of state h buffer))
      → answered (compute.runs g left s) ≡ beside (answer_of stop state h) buffer
  stopped_is stop state e = ap answered (runs_stopped g left s _ e)

  through_is : compute.walk g (remaining g s.cursor) s ≡ compute.through (now_of State.Running h buffer)
      → (full spent : Bool) → eqb h.handed (length buffer) ≡ full → eqb h.moves m ≡ spent → (a : Answer) → settled_through full spent h ≡ Some a
      → answered (compute.runs g left s) ≡ beside a buffer
  through_is e true spent f p a q =
      ap answered (runs_more g s h.cursor.k h.cursor.place h.cursor.number h.moves h.handed buffer e (eqb-true _ _ f) left)
      ∙ ap (λ (x : Answer). beside x buffer) (one_stop _ _ q)
  through_is e false true f p a q =
      let z : left ≡ 0 = omega (arith, eqb-true h.moves m p) in
      ap (λ (n : ℕ). answered (compute.runs g n s)) z
      ∙ ap answered (runs_limited g s h.cursor.k h.cursor.place h.cursor.number h.moves h.handed buffer e (eqb-false _ _ f))
      ∙ ap (λ (x : Answer). beside x buffer) (one_stop _ _ q)
  through_is e false false f p a q = absurd (clash a q)

  pub settle_stops : (why : Why) → compute.walk g (remaining g s.cursor) s ≡ walked_by (record { why = why; held = h }) buffer
      → (a : Answer) → settled (record { why = why; held = h }) (length buffer) m ≡ Some a
      → answered (compute.runs g left s) ≡ beside a buffer
  unfolding settled walked_by
  settle_stops Why.Full e a q = stopped_is Stop.More State.Running e ∙ ap (λ (x : Answer). beside x buffer) (one_stop _ _ q)
  settle_stops Why.Until e a q = stopped_is Stop.Ended (State.Ended Cause.Until) e ∙ ap (λ (x : Answer). beside x buffer) (one_stop _ _ q)
  settle_stops Why.Count e a q = stopped_is Stop.Ended (State.Ended Cause.Count) e ∙ ap (λ (x : Answer). beside x buffer) (one_stop _ _ q)
  settle_stops Why.Through e a q = through_is e (eqb h.handed (length buffer)) (eqb h.moves m) refl refl a q

-- it moves on: the walk came through, a slot is free, and a move is left
pub record Onward (w : Walked) (room m : ℕ) : Type 0 where
  pub through : w.why ≡ Why.Through
  pub free : w.held.handed ≡ room → ⊥
  pub unspent : w.held.moves ≡ m → ⊥

pub settle_moves : (why : Why) (h : Held) (room m : ℕ) → settled (record { why = why; held = h }) room m ≡ None
    → Onward (record { why = why; held = h }) room m
unfolding settled
settle_moves Why.Full h room m e = absurd (clash _ (sym e))
settle_moves Why.Until h room m e = absurd (clash _ (sym e))
settle_moves Why.Count h room m e = absurd (clash _ (sym e))
settle_moves Why.Through h room m e = go (eqb h.handed room) (eqb h.moves m) refl refl e
  where
    go : (full spent : Bool) → eqb h.handed room ≡ full → eqb h.moves m ≡ spent → settled_through full spent h ≡ None
        → Onward (record { why = Why.Through; held = h }) room m
    go true spent f p e = absurd (clash _ (sym e))
    go false true f p e = absurd (clash _ (sym e))
    go false false f p e = record { through = refl; free = eqb-false _ _ f; unspent = eqb-false _ _ p }

module _ (g : Given ℕ) (s : Now ℕ) (left m : ℕ) (w : Walked) (buffer : List ℕ) (budget : left ≡ m - w.held.moves) (within : w.held.moves ≤ m)
    (walked : compute.walk g (remaining g s.cursor) s ≡ walked_by w buffer) (onward : Onward w (length buffer) m) where
  h : Held
  h = w.held

  came : compute.walk g (remaining g s.cursor) s ≡ compute.through (now_of State.Running w.held buffer)
  unfolding walked_by
  came = walked ∙ rw (onward.through, walked_by)

  one_left : left ≡ suc (m - (w.held.moves + 1))
  one_left = go (ℕ_discrete w.held.moves m)
    where
      go : Dec (w.held.moves ≡ m) → left ≡ suc (m - (w.held.moves + 1))
      go (yes e) = absurd (onward.unspent e)
      go (no e) = omega arith

  pub then_moves : m < 2 ^ 32 → (k : ℕ) → g.move w.held.cursor.k ≡ To k
      → compute.runs g left s ≡ compute.runs g (m - (moved_to k w.held).moves) (now_of State.Running (moved_to k w.held) buffer)
  then_moves small k e =
      let counted : w.held.moves + 1 ≡ min (w.held.moves + 1) 4294967295 = omega (arith, one_left) in
      ap (λ (n : ℕ). compute.runs g n s) one_left
      ∙ runs_to g s w.held.cursor.k w.held.cursor.place w.held.cursor.number w.held.moves w.held.handed buffer came
      onward.free (m - (w.held.moves + 1)) k e
      ∙ ap (λ (n : ℕ). compute.runs g (m - n) (running k 0 w.held.cursor.number n w.held.handed buffer)) counted

  pub then_no_tick : g.move w.held.cursor.k ≡ NoTick
      → answered (compute.runs g left s) ≡ beside (answer_of Stop.Ended (State.Ended Cause.NoTick) w.held) buffer
  then_no_tick e =
      ap (λ (n : ℕ). answered (compute.runs g n s)) one_left
      ∙ ap answered (runs_no_tick g s w.held.cursor.k w.held.cursor.place w.held.cursor.number w.held.moves w.held.handed buffer came
      onward.free (m - (w.held.moves + 1)) e)

  pub then_range : g.move w.held.cursor.k ≡ Range
      → answered (compute.runs g left s) ≡ beside (answer_of Stop.Ended (State.Ended Cause.Range) w.held) buffer
  then_range e =
      ap (λ (n : ℕ). answered (compute.runs g n s)) one_left
      ∙ ap answered (runs_range g s w.held.cursor.k w.held.cursor.place w.held.cursor.number w.held.moves w.held.handed buffer came
      onward.free (m - (w.held.moves + 1)) e)

-- the candidates from a place on
pub drop_tabled : (f : ℕ → ℕ) (n i p : ℕ) → p ≤ n → drop p (tabled f i n) ≡ tabled f (i + p) (n - p)
unfolding tabled
drop_tabled f n i zero h = let a : i + 0 ≡ i = omega arith in let b : n - 0 ≡ n = omega arith in rw (a, b)
drop_tabled f zero i (suc p) h = absurd (omega arith)
drop_tabled f (suc n) i (suc p) h =
    let a : i + 1 + p ≡ i + suc p = omega arith in
    let b : suc n - suc p ≡ n - p = omega arith in
    drop_tabled f n (i + 1) p (omega arith) ∙ rw (a, b)

-- ---- the walk over a period is that over its places, or that over its days and times
module _ (positioned : Bool) (f : Frame) (b : Bounds) (h : Held) (kept : ℕ) (days lists places buffer : List ℕ)
    (framed : Framed f) (ready : Ready b h buffer) where
  pub by_places : positioned ≡ true → kept ≤ 732
      → places_walk f b h kept places days lists buffer
      ≡ compute.walk (given_by b) (tabled (second_kept positioned f days lists places) h.cursor.place (kept - h.cursor.place))
      (now_of State.Running h buffer)
  unfolding walk_from second_kept
  by_places e l = places_walked f b h buffer kept places days lists l (is_walkable_lem f b h buffer framed ready) ∙ rw e

  pub by_days : positioned ≡ false → kept ≡ f.days * f.times
      → days_walk f b h days lists buffer
      ≡ compute.walk (given_by b) (tabled (second_kept positioned f days lists places) h.cursor.place (kept - h.cursor.place))
      (now_of State.Running h buffer)
  unfolding walk_from second_kept
  by_days e q = days_walked f b h buffer days lists (is_walkable_lem f b h buffer framed ready) ∙ rw (e, q)

-- a call is as ready after days were passed
pub ready_passed : (full : Bool) (f : Frame) (b : Bounds) (h : Held) (days buffer : List ℕ) (r : Held)
    → r ≡ passed_days full f b h days → Ready b h buffer → Ready b r buffer
ready_passed full f b h days buffer r e y =
    subst (λ (x : Held). Ready b x buffer) (sym (e ∙ passed_holds full f b h days)) (record { start = y.start; handed = y.handed; number = y.number })

-- and where days were passed, the walk is the same
pub passed_same : (f : Frame) (b : Bounds) (h : Held) (days lists buffer : List ℕ) (r : Held)
    → Framed f → Timely f lists → Ready b h buffer → r ≡ passed_days (ltb 0 h.cursor.number || eqb h.handed (length buffer)) f b h days
    → days_walk f b r days lists buffer ≡ days_walk f b h days lists buffer
passed_same f b h days lists buffer r v z y e =
    days_walked f b r buffer days lists (is_walkable_lem f b r buffer v (ready_passed _ f b h days buffer r e y))
    ∙ ap (λ (x : Held). walk_from b (second_at f days lists) (f.days * f.times) x buffer) e
    ∙ sym (passed_walks (ltb 0 h.cursor.number || eqb h.handed (length buffer)) f b h days lists buffer
    (λ q. eqb-false _ _ (or_parts (ltb 0 h.cursor.number) (eqb h.handed (length buffer)) q).1) z)
    ∙ sym (days_walked f b h buffer days lists (is_walkable_lem f b h buffer v y))

-- where nothing is kept there is nothing to walk over
pub walked_none : (b : Bounds) (h : Held) (f : ℕ → ℕ) (kept : ℕ) (buffer : List ℕ) → kept ≡ 0
    → walked_by (record { why = Why.Through; held = h }) buffer
    ≡ compute.walk (given_by b) (tabled f h.cursor.place (kept - h.cursor.place)) (now_of State.Running h buffer)
unfolding walked_by tabled compute.walk
walked_none b h f kept buffer e = let z : kept - h.cursor.place ≡ 0 = omega arith in rw z
