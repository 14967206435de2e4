-- What a run holds is what its path tells; it keeps to its buffer and budget, and stops for its reason.
-- Assumes nothing.
use Prim.Native.Nat.{ℕ, ◌+◌, ◌-◌, ◌≤◌, ◌<◌}
use mathlib.Core.Path.{◌≡◌, refl, sym, ap, subst, ◌∙◌}
use mathlib.Core.List.{List, [], ◌∷◌, ◌++◌, map, map-append, append-nil, append_assoc}
use lib.ListN.{length, take, drop, length-set, length-append}
use lib.Seq.{drop-drop, drop-set-lt, take-suc-set, length-take-le}
use native.Mathlib.Numerals.{add-one}
use native.Mathlib.Omega.{arith}
use Rattle.machine.specs.declared.Cause.{Cause}
use Rattle.machine.specs.declared.State.{State}
use Rattle.machine.specs.declared.Cursor.{Cursor}
use Rattle.machine.specs.Given.{Given}
use Rattle.machine.specs.Cursors.{end_by, hand_out, pass, remaining}
use Rattle.machine.specs.Run.{Deed, Deed.leaves, Deed.hands, Deed.moves, at_candidate, move_on, Call, Now, opened, does, Turn, Turn.stops, Turn.goes}
use Rattle.machine.specs.Run.{turn, Outcome, Ends, Ends.stop, Ends.again}
use Rattle.machine.specs.Compute.{run}
use Rattle.machine.specs.Calls.{Told, tells, join, still, chain}
use Rattle.machine.specs.Promises.{Reason, EndsBy, KeepsTo}
use Rattle.machine.proofs.Cases.{reached, deed, late_above, candidate_tests, counted_cases, move_tests, turn_cases}
use Rattle.machine.proofs.Steps.{run_ends}
use Rattle.machine.proofs.Paths.{told, next_deed, Path, Path.here, Path.on, join_assoc, join_still, still_join, path_append, path_moved, path_number}

-- a path's seconds, shown
abbrev pub shows : {A : Type 0} → Given A → Told ℕ → Told A
shows g r = record { listed = map g.shown r.listed; moves = r.moves; cursor = r.cursor }

pub shows_join : {A : Type 0} (g : Given A) (r q : Told ℕ) → shows g (join r q) ≡ join (shows g r) (shows g q)
shows_join g r q = rw map-append

-- What the turns from s to t have told, and that the slots past those written are as they were.
record Went {A : Type 0} (g : Given A) (s t : Now A) : Type 0 where
  new : Told ℕ
  path : Path g s.cursor new
  cursor : t.cursor ≡ new.cursor
  made : t.made ≡ s.made + new.moves
  slots : take t.handed t.buffer ≡ take s.handed s.buffer ++ map g.shown new.listed
  grown : t.handed ≡ s.handed + length new.listed
  fits : t.handed ≤ length t.buffer
  same : length t.buffer ≡ length s.buffer
  rest : drop t.handed t.buffer ≡ drop t.handed s.buffer

drop_later : {A : Type 0} (l r : List A) (a b : ℕ) → a ≤ b → drop a l ≡ drop a r → drop b l ≡ drop b r
drop_later l r a b h e =
    let s : b ≡ a + (b - a) = omega arith in
    rw s (sym (drop-drop (b - a) a l) ∙ ap (drop (b - a)) e ∙ drop-drop (b - a) a r)

module _ {A : Type 0} (g : Given A) where
  went_still : (s : Now A) → s.handed ≤ length s.buffer → Went g s s
  went_still s h = record {
    new = still s.cursor;
    path = here;
    cursor = refl;
    made = omega arith;
    slots = rw append-nil;
    grown = omega arith;
    fits = h;
    same = refl;
    rest = refl;
  }

  went_on : (s t u : Now A) → Went g s t → Went g t u → Went g s u
  went_on s t u a b = record {
    new = join a.new b.new;
    path = path_append g a.path (subst (λ (c : Cursor). Path g c b.new) a.cursor b.path);
    cursor = b.cursor;
    made = omega arith;
    slots = b.slots ∙ rw (a.slots, map-append, append_assoc);
    grown = simp length-append (omega arith);
    fits = b.fits;
    same = b.same ∙ a.same;
    rest = b.rest ∙ drop_later _ _ t.handed u.handed (omega arith) a.rest;
  }

  -- one deed
  module _ (s : Now A) (r : s.cursor.state ≡ State.Running) (h : s.handed ≤ length s.buffer) (f : s.handed ≡ length s.buffer → ⊥) where
    one : Path g s.cursor (told (next_deed g s.cursor))
    one = subst (Path g s.cursor) (join_still (told (next_deed g s.cursor))) (on r here)

    went_deed : (d : Deed) → next_deed g s.cursor ≡ d → Went g s (does g s d)
    went_deed (leaves c) e = record {
      new = told (leaves c);
      path = subst (λ (d : Deed). Path g s.cursor (told d)) e one;
      cursor = refl;
      made = omega arith;
      slots = rw append-nil;
      grown = omega arith;
      fits = h;
      same = refl;
      rest = refl;
    }
    went_deed (moves c) e = record {
      new = told (moves c);
      path = subst (λ (d : Deed). Path g s.cursor (told d)) e one;
      cursor = refl;
      made = refl;
      slots = rw append-nil;
      grown = omega arith;
      fits = h;
      same = refl;
      rest = refl;
    }
    went_deed (hands x c) e = record {
      new = told (hands x c);
      path = subst (λ (d : Deed). Path g s.cursor (told d)) e one;
      cursor = refl;
      made = omega arith;
      slots = let l : s.handed < length s.buffer = omega arith in rw (add-one, take-suc-set);
      grown = omega arith;
      fits = simp length-set (omega arith);
      same = length-set s.buffer s.handed (g.shown x);
      rest = drop-set-lt (s.handed + 1) s.buffer s.handed (g.shown x) (omega arith);
    }

abbrev WentBy : {A : Type 0} → Given A → Now A → Turn A → Type 0
WentBy g s (stops why) = Unit {0}
WentBy g s (goes t) = Went g s t

turn_went : {A : Type 0} (g : Given A) (m : ℕ) (s : Now A) → s.handed ≤ length s.buffer → WentBy g s (turn g m s)
unfolding next_deed
turn_went g m s h =
    turn_cases (WentBy g s) g m s
    (λ a e. tt)
    (λ r f. tt)
    (λ r f e l. tt)
    (λ r f x xs e. went_deed g s r h f (at_candidate g x s.cursor) (ap (deed g s.cursor) e))
    (λ r f e l. went_deed g s r h f (move_on g s.cursor) (ap (deed g s.cursor) e))

run_went : {A : Type 0} (g : Given A) (m : ℕ) {s : Now A} {a : Outcome A} → s.handed ≤ length s.buffer → Ends g m s a → Went g s a.now
run_went g m {s} h (stop p) = went_still g s h
run_went g m {s} {a} h (again {t = t} p e) =
    let w : Went g s t = subst (WentBy g s) p (turn_went g m s h) in
    went_on g s t a.now w (run_went g m {s = t} {a = a} w.fits e)

call_went : {A : Type 0} (g : Given A) (c : Cursor) (x : Call A) → Went g (opened c x) (run g c x).now
call_went g c x = run_went g x.budget (omega arith) (run_ends g c x)

-- What a call has told, and what calls have told, is what is shown of a path.
pub record Shown {A : Type 0} (g : Given A) (c : Cursor) (t : Told A) : Type 0 where
  pub plain : Told ℕ
  pub path : Path g c plain
  pub same : t ≡ shows g plain

pub call_shown : {A : Type 0} (g : Given A) (c : Cursor) (x : Call A) → Shown g c (tells (run g c x))
call_shown {A} g c x = let w = call_went g c x in record { plain = w.new; path = w.path; same = same w.new w.slots w.made w.cursor }
  where
    same : (r : Told ℕ)
        → take (run g c x).now.handed (run g c x).now.buffer ≡ map g.shown r.listed
        → (run g c x).now.made ≡ 0 + r.moves
        → (run g c x).now.cursor ≡ r.cursor
        → tells (run g c x) ≡ shows g r
    same r p q e = let q' : (run g c x).now.made ≡ r.moves = omega arith in rw (p, q', e)

pub chain_shown : {A : Type 0} (g : Given A) (c : Cursor) (xs : List (Call A)) → Shown g c (chain (run g) c xs)
unfolding chain
chain_shown g c [] = record { plain = still c; path = here; same = refl }
chain_shown g c (x ∷ xs) =
    let a = call_shown g c x in
    let b = chain_shown g (run g c x).now.cursor xs in
    let e : (run g c x).now.cursor ≡ a.plain.cursor = ap (λ (t : Told _). t.cursor) a.same in
    record {
      plain = join a.plain b.plain;
      path = path_append g a.path (subst (λ (d : Cursor). Path g d b.plain) e b.path);
      same = ap (join (tells (run g c x))) b.same ∙ ap (λ (t : Told _). join t (shows g b.plain)) a.same ∙ sym (shows_join g a.plain b.plain);
    }

-- What the turns keep to: the budget, the reason to stop, and the cause of an end.
abbrev Ending : {A : Type 0} → Given A → Now A → Type 0
Ending g s = (cause : Cause) → s.cursor.state ≡ State.Ended cause → EndsBy g s.cursor cause

abbrev KeptBy : {A : Type 0} → Given A → ℕ → Now A → Turn A → Type 0
KeptBy g m s (stops why) = Reason g m s why
KeptBy g m s (goes t) = (s.made ≤ m → t.made ≤ m) × Ending g t

ends_so : {A : Type 0} (g : Given A) (c : Cursor) (why cause : Cause) → State.Ended why ≡ State.Ended cause → EndsBy g c why → EndsBy g c cause
ends_so g c why cause e w = let same : why ≡ cause = cc in subst (EndsBy g c) same w

module _ {A : Type 0} (g : Given A) (m : ℕ) (s : Now A) (r : s.cursor.state ≡ State.Running) where
  runs_on : (cause : Cause) → s.cursor.state ≡ State.Ended cause → ⊥
  runs_on cause q = let z : ◌≡◌ {A = ℕ} 0 1 = cc in omega arith

  candidate_kept : (x : ℕ) (xs : List ℕ) → remaining g s.cursor ≡ x ∷ xs → KeptBy g m s (goes (does g s (at_candidate g x s.cursor)))
  unfolding at_candidate
  candidate_kept x xs e =
      candidate_tests (KeptBy g m s (goes (does g s (at_candidate g x s.cursor)))) g x
      (λ a. rw (a, at_candidate) ((λ h. h), (λ cause q. ends_so g (end_by Cause.Until s.cursor) Cause.Until cause q (x, xs, e, late_above g x a))))
      (λ a b. rw (a, b, at_candidate) ((λ h. h), (λ cause q. absurd (runs_on cause q))))
      (λ a b.
      rw (a, b, at_candidate)
      (counted_cases (λ (d : Cursor). KeptBy g m s (goes (does g s (hands x d)))) g _
      (λ d. ((λ h. h), (λ cause q. ends_so g (end_by Cause.Count (hand_out (pass s.cursor))) Cause.Count cause q (reached g.count _ d))))
      (λ d. ((λ h. h), (λ cause q. absurd (runs_on cause q))))))

  move_kept : remaining g s.cursor ≡ [] → (s.made ≡ m → ⊥) → KeptBy g m s (goes (does g s (move_on g s.cursor)))
  unfolding move_on
  move_kept e l =
      move_tests (KeptBy g m s (goes (does g s (move_on g s.cursor)))) g s.cursor
      (λ k q. rw (q, move_on) ((λ h. omega arith), (λ cause w. absurd (runs_on cause w))))
      (λ q. rw (q, move_on) ((λ h. h), (λ cause w. ends_so g (end_by Cause.NoTick s.cursor) Cause.NoTick cause w (e, q))))
      (λ q. rw (q, move_on) ((λ h. h), (λ cause w. ends_so g (end_by Cause.Range s.cursor) Cause.Range cause w (e, q))))

turn_kept : {A : Type 0} (g : Given A) (m : ℕ) (s : Now A) → KeptBy g m s (turn g m s)
turn_kept g m s =
    turn_cases (KeptBy g m s) g m s
    (λ a e. (a, e))
    (λ r f. (r, f))
    (λ r f e l. (r, f, e, l))
    (λ r f x xs e. candidate_kept g m s r x xs e)
    (λ r f e l. move_kept g m s r e l)

run_reason : {A : Type 0} (g : Given A) (m : ℕ) {s : Now A} {a : Outcome A} → Ends g m s a → Reason g m a.now a.stop
run_reason g m {s} (stop p) = subst (KeptBy g m s) p (turn_kept g m s)
run_reason g m (again p e) = run_reason g m e

run_budget : {A : Type 0} (g : Given A) (m : ℕ) {s : Now A} {a : Outcome A} → s.made ≤ m → Ends g m s a → a.now.made ≤ m
run_budget g m h (stop p) = h
run_budget g m {s} h (again {t = t} p e) =
    let b : KeptBy g m s (goes t) = subst (KeptBy g m s) p (turn_kept g m s) in
    run_budget g m (b.0 h) e

run_cause : {A : Type 0} (g : Given A) (m : ℕ) {s : Now A} {a : Outcome A} → Ending g s → Ends g m s a → Ending g a.now
run_cause g m h (stop p) = h
run_cause g m {s} h (again {t = t} p e) =
    let b : KeptBy g m s (goes t) = subst (KeptBy g m s) p (turn_kept g m s) in
    run_cause g m b.1 e

-- A call keeps to its buffer and budget.
pub call_kept : {A : Type 0} (g : Given A) (c : Cursor) (x : Call A) → KeepsTo g c x (run g c x)
call_kept g c x =
    let w = call_went g c x in
    let n = path_number g w.path in
    let e = ap (λ (d : Cursor). d.number) w.cursor in
    let m : (run g c x).now.made ≡ w.new.moves = omega arith in
    record {
      reason = run_reason g x.budget (run_ends g c x);
      cause = λ r. run_cause g x.budget (λ cause q. absurd (runs_on g 0 (opened c x) r cause q)) (run_ends g c x);
      budget = run_budget g x.budget (omega arith) (run_ends g c x);
      fits = omega (arith, w.fits, w.same);
      same_length = w.same;
      rest = w.rest;
      number = omega arith;
      moves = rw (m, w.cursor) (path_moved g w.path);
    }

-- as many are handed out as the count says
pub call_length : {A : Type 0} (g : Given A) (c : Cursor) (x : Call A)
    → length (take (run g c x).now.handed (run g c x).now.buffer) ≡ (run g c x).now.handed
call_length g c x =
    let k = call_kept g c x in
    length-take-le (run g c x).now.handed (run g c x).now.buffer (omega arith)

-- a chain may be cut anywhere
pub chain_append : {A : Type 0} (f : Cursor → Call A → Outcome A) (c : Cursor) (xs ys : List (Call A))
    → chain f c (xs ++ ys) ≡ join (chain f c xs) (chain f (chain f c xs).cursor ys)
unfolding chain
chain_append f c [] ys = sym (still_join c _)
chain_append f c (x ∷ xs) ys =
    ap (join (tells (f c x))) (chain_append f (f c x).now.cursor xs ys) ∙ sym (join_assoc (tells (f c x)) (chain f (f c x).now.cursor xs) _)
