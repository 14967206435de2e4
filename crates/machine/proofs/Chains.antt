-- Chains of calls: how they may be cut, and what they list from a well-formed cursor and from a fresh one.
-- Assumes nothing.
use Prim.Native.Nat.{ℕ, ◌≤◌, ◌<◌}
use mathlib.Core.Path.{◌≡◌, refl, sym, ap, subst, ◌∙◌}
use mathlib.Core.Logic.{inl, inr, ⊎_elim}
use mathlib.Core.Bool.{Bool, true, false}
use mathlib.Core.List.{List, [], ◌∷◌, map}
use lib.ListN.{length}
use native.Mathlib.Omega.{arith}
use lib.Dec.{eqb}
use borrow.Author.Tests.{eqb-true, eqb-false}
use Rattle.machine.specs.declared.Cause.{Cause}
use Rattle.machine.specs.declared.State.{State}
use Rattle.machine.specs.declared.Cursor.{Cursor}
use Rattle.machine.specs.Rising.{◌∈◌}
use Rattle.machine.specs.Given.{Bound.present, Given, Satisfies}
use Rattle.machine.specs.Cursors.{fresh, next, WellFormed}
use Rattle.machine.specs.Run.{Call}
use Rattle.machine.specs.Compute.{run}
use Rattle.machine.specs.Calls.{call, Told, tells, join, still, chain, Each}
use Rattle.machine.specs.Sound.{Sound}
use Rattle.machine.specs.Promises.{KeepsTo, Over, First, Why, Listed, ListsFrom, Says, Lists}
use Rattle.machine.specs.Claims.{NothingAtZero, Cutting, OneCall, FirstOfTwo, FirstOfEnded, Lawful}
use Rattle.machine.proofs.Laws.{split, rises_lower, rises_in, at_high, none_below}
use Rattle.machine.proofs.Cases.{no_room, at_most_zero}
use Rattle.machine.proofs.Paths.{one_path, ended_stays, one_of_two, path_prefix}
use Rattle.machine.proofs.Kept.{shows, shows_join, Shown, call_shown, chain_shown, call_kept}
use Rattle.machine.proofs.Listed.{path_listed, listed_here, fresh_cases, fresh_formed, fresh_listed, beside_period}
use Rattle.machine.proofs.Refusals.{accepted}

-- what is shown of one path
module _ {A : Type 0} (g : Given A) {c : Cursor} {s t : Told A} (a : Shown g c s) (b : Shown g c t) where
  over_path : (u : Told A) (r : Told ℕ) → u ≡ shows g r → (o : Over u) → r.cursor.state ≡ State.Ended o.0
  over_path u r e o = sym (ap (λ (y : Told A). y.cursor.state) e) ∙ o.1

  first_part_shown : First a.plain b.plain → First s t
  first_part_shown (more, e) =
      (shows g more, ap (λ (y : Told A). join y (shows g more)) a.same ∙ sym (shows_join g a.plain more) ∙ ap (shows g) e ∙ sym b.same)

  one_shown : Over s → Over t → s ≡ t
  one_shown o p =
      let e = one_path g a.path b.path (over_path s a.plain a.same o) (over_path t b.plain b.same p) in
      a.same ∙ ap (shows g) e ∙ sym b.same

  first_shown : Over t → First s t
  first_shown p = first_part_shown (path_prefix g a.path b.path (over_path t b.plain b.same p))

module _ {A : Type 0} (g : Given A) where
  pub ended_chain : (c : Cursor) (xs : List (Call A)) (cause : Cause) → c.state ≡ State.Ended cause → chain (run g) c xs ≡ still c
  ended_chain c xs cause e = let a = chain_shown g c xs in a.same ∙ ap (shows g) (ended_stays g a.path e)

  pub cutting : Cutting g
  cutting c xs ys = one_shown g (chain_shown g c xs) (chain_shown g c ys)

  pub one_call : OneCall g
  one_call c x ys e o = one_shown g (chain_shown g c ys) (call_shown g c x) o (rw e at (call_kept g c x).reason)

  pub first_of_two : FirstOfTwo g
  first_of_two c xs ys =
      let p = chain_shown g c xs in
      let q = chain_shown g c ys in
      ⊎_elim
      (λ (f : First p.plain q.plain). inl (first_part_shown g p q f))
      (λ (f : First q.plain p.plain). inr (first_part_shown g q p f))
      (one_of_two g p.path q.path)

  pub first_of_ended : FirstOfEnded g
  first_of_ended c xs ys o = first_shown g (chain_shown g c xs) (chain_shown g c ys) o

  -- a fresh cursor that is ended tells nothing
  pub nothing_at_zero : NothingAtZero g
  nothing_at_zero h xs =
      let o : (cause : Cause) × ((fresh g).state ≡ State.Ended cause) =
      fresh_cases (λ (y : State). (cause : Cause) × (y ≡ State.Ended cause)) g
      (λ e. (Cause.Count, refl)) (λ e. (Cause.Interval, refl))
      (λ b i. absurd (⊎_elim (λ (e : g.count ≡ present 0). no_room g.count e b) (λ (e : g.interval ≡ 0). omega arith) h)) in
      ended_chain (fresh g) xs o.0 o.1

  -- From a well-formed cursor that runs.
  pub lists_from : Sound g → (c : Cursor) (xs : List (Call A)) → Listed g c [] c → ListsFrom g c (chain (run g) c xs)
  lists_from sound c xs l =
      let p = chain_shown g c xs in
      let e : (chain (run g) c xs).cursor ≡ p.plain.cursor = ap (λ (t : Told A). t.cursor) p.same in
      record {
        seconds = p.plain.listed;
        written = ap (λ (t : Told A). t.listed) p.same;
        listed = subst (λ (d : Cursor). Listed g c p.plain.listed d) (sym e) (path_listed g sound c [] p.path l);
      }

  module _ (lawful : Lawful g) where
    pub lists_between : (c : Cursor) (xs : List (Call A)) → c.state ≡ State.Running → WellFormed g c → ListsFrom g c (chain (run g) c xs)
    lists_between c xs r f = lists_from (lawful (f r).interval) c xs (listed_here g c r f)

    pub stays_well_formed : (c : Cursor) (xs : List (Call A)) → WellFormed g c → WellFormed g (chain (run g) c xs).cursor
    stays_well_formed c xs f = on c.state refl
      where
        on : (y : State) → c.state ≡ y → WellFormed g (chain (run g) c xs).cursor
        on State.Running e = (lists_between c xs e f).listed.formed
        on (State.Ended cause) e = rw (ended_chain c xs cause e) f

    pub call_well_formed : (c : Cursor) (x : Call A) → WellFormed g c → WellFormed g (run g c x).now.cursor
    unfolding chain
    call_well_formed c x f = stays_well_formed c (x ∷ []) f

    -- No call is refused.
    pub each_kept : (good : Bool) → good ≡ true → (c : Cursor) (xs : List (Call A)) → WellFormed g c → Each (call good g) (KeepsTo g) c xs
    each_kept good e c [] f = tt
    each_kept good e c (x ∷ xs) f =
        let a = accepted g good c x e f in
        (subst (KeepsTo g c x) (sym a) (call_kept g c x), each_kept good e (call good g c x).now.cursor xs (rw a (call_well_formed c x f)))

    pub same_chain : (good : Bool) → good ≡ true → (c : Cursor) (xs : List (Call A)) → WellFormed g c → chain (call good g) c xs ≡ chain (run g) c xs
    unfolding chain
    same_chain good e c [] f = refl
    same_chain good e c (x ∷ xs) f =
        let a = accepted g good c x e f in
        rw a (ap (join (tells (run g c x))) (same_chain good e (run g c x).now.cursor xs (call_well_formed c x f)))

-- nothing that satisfies lies before a fresh cursor
fresh_first : {A : Type 0} (g : Given A) → Sound g → (s : ℕ) → Satisfies g s → next g (fresh g) ≤ s
unfolding fresh
fresh_first g sound s h =
    let up = sound.rises 0 sound.first in
    beside_period g sound 0 sound.first (next g (fresh g) ≤ s) s h
    (λ j b. absurd (omega arith))
    (λ i. none_below _ _ s (g.kept 0) up i)
    (λ j b. let l = at_high _ _ 0 (g.kept 0) up in omega arith)

fresh_number : {A : Type 0} (g : Given A) → (fresh g).number ≡ 0
unfolding fresh
fresh_number g = refl

-- what is listed from a fresh cursor, where INTERVAL is at least 1
lists_running : {A : Type 0} (g : Given A) → Sound g → 1 ≤ g.interval → (xs : List (Call A)) → Lists g (chain (run g) (fresh g) xs)
lists_running {A} g sound i xs = record {
  seconds = l.seconds;
  written = l.written;
  rises = rises_lower 0 (next g (fresh g)) (next g t.cursor) l.seconds (omega arith) l.listed.rises;
  formed = l.listed.formed;
  only = l.listed.only;
  none_skipped = λ s u j h le. before s h (let b = below u j in omega arith);
  exactly = λ i s. ((λ j. (l.listed.only s j, below s j)), (λ h. before s h.0 h.1));
  number = n;
  counted = rw n at l.listed.counted;
  ended = λ cause e. says cause (l.listed.why cause e);
  nothing = λ h. none l.seconds (sym l.written ∙ ap (λ (t : Told A). t.listed) (nothing_at_zero g h xs));
}
  where
    t : Told A
    t = chain (run g) (fresh g) xs

    l : ListsFrom g (fresh g) t
    l = lists_from g sound (fresh g) xs (fresh_listed g sound i)

    n : t.cursor.number ≡ length l.seconds
    n = let a = l.listed.number in let b = fresh_number g in omega arith

    below : (s : ℕ) → s ∈ l.seconds → s < next g t.cursor
    below s j = (rises_in (next g (fresh g)) (next g t.cursor) s l.seconds l.listed.rises j).1

    before : (s : ℕ) → Satisfies g s → s < next g t.cursor → s ∈ l.seconds
    before s h b = l.listed.all s h (fresh_first g sound s h) b

    says : (cause : Cause) → Why g t.cursor cause → Says g l.seconds cause
    says Cause.Count w = w ∙ ap present n
    says Cause.Interval w = absurd w
    says Cause.Until w = λ s h. before s h (w s h)
    says Cause.NoTick w = λ s h. before s h (w s h)
    says Cause.Range w = λ s h. before s h (w s h)

    none : (ys : List ℕ) → map g.shown ys ≡ [] → ys ≡ []
    none [] e = refl
    none (y ∷ ys) e = absurd (let z : ◌≡◌ {A = ℕ} 0 1 = cc in omega arith)

-- and where it is 0
lists_ended : {A : Type 0} (g : Given A) → g.interval ≡ 0 → (xs : List (Call A)) → Lists g (chain (run g) (fresh g) xs)
lists_ended {A} g z xs = rw (nothing_at_zero g (inr z) xs) (record {
  seconds = [];
  written = refl;
  rises = omega arith;
  formed = fresh_formed g (λ i. absurd (omega arith));
  only = λ s j. absurd j;
  none_skipped = λ s u j h le. absurd j;
  exactly = λ i. absurd (omega arith);
  number = fresh_number g;
  counted = at_most_zero g.count;
  ended = fresh_cases (λ (y : State). (cause : Cause) → y ≡ State.Ended cause → Says g [] cause) g
      (λ e a q. let w : Cause.Count ≡ a = cc in subst (Says g []) w e)
      (λ e a q. let w : Cause.Interval ≡ a = cc in subst (Says g []) w e)
      (λ b i. absurd (omega arith));
  nothing = λ h. refl;
})

pub fresh_lists : {A : Type 0} (g : Given A) → Lawful g → (xs : List (Call A)) → Lists g (chain (run g) (fresh g) xs)
fresh_lists g lawful xs =
    ⊎_elim
    (λ (e : eqb g.interval 0 ≡ true). lists_ended g (eqb-true _ _ e) xs)
    (λ (e : eqb g.interval 0 ≡ false). let i : 1 ≤ g.interval = omega (arith, eqb-false g.interval 0 e) in lists_running g (lawful i) i xs)
    (split (eqb g.interval 0))
