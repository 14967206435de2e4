-- One whole listing, and how calls come to an end.
-- Assumes nothing.
use Prim.Native.Nat.{ℕ, zero, suc, ◌+◌, ◌≤◌, ◌<◌}
use mathlib.Core.Path.{◌≡◌, refl, sym, ap, ◌∙◌}
use mathlib.Core.Logic.{◌⊎◌, inl, inr, ⊎_elim}
use mathlib.Core.List.{List, [], ◌∷◌, map, append-nil}
use lib.ListN.{length, take, length-take, length-append, length-map}
use lib.Seq.{take_all}
use native.Mathlib.Omega.{arith}
use Rattle.machine.specs.declared.State.{State}
use Rattle.machine.specs.declared.Stop.{Stop}
use Rattle.machine.specs.declared.Cursor.{Cursor}
use Rattle.machine.specs.Given.{Given}
use Rattle.machine.specs.Cursors.{WellFormed}
use Rattle.machine.specs.Run.{Call, opened, Outcome}
use Rattle.machine.specs.Compute.{resume, runs, run}
use Rattle.machine.specs.Calls.{Told, chain}
use Rattle.machine.specs.Sound.{Finite}
use Rattle.machine.specs.Promises.{Reason, KeepsTo, Over, Able}
use Rattle.machine.specs.Claims.{EndedReturns, Progress, MovesAreSteps, OneWhole, Lawful, FirstPartOfWhole, TheWhole, MovesShow}
use Rattle.machine.proofs.Laws.{rises_length, at_high, first_part}
use Rattle.machine.proofs.Paths.{path_later, path_by_one}
use Rattle.machine.proofs.Kept.{chain_shown, call_kept, call_length}
use Rattle.machine.proofs.Chains.{fresh_lists, ended_chain, lists_between}

map_take : {A : Type 0} (f : ℕ → A) (n : ℕ) (xs : List ℕ) → map f (take n xs) ≡ take n (map f xs)
map_take f zero xs = refl
map_take f (suc n) [] = refl
map_take f (suc n) (x ∷ xs) = ap (λ (l : List _). f x ∷ l) (map_take f n xs)

module _ {A : Type 0} (g : Given A) where
  pub ended_returns : EndedReturns g
  unfolding run
  ended_returns c x cause e = ap (λ (y : State). resume (runs g x.budget) y (opened c x)) e

  pub one_whole : OneWhole g
  one_whole xs ys a b =
      let p = first_part 0 a.top 0 b.top xs ys a.rises b.rises (λ t i. b.all t (a.only t i)) (λ t u i l j. a.all t (b.only t i)) in
      let q = first_part 0 b.top 0 a.top ys xs b.rises a.rises (λ t i. a.all t (b.only t i)) (λ t u i l j. b.all t (a.only t i)) in
      let h : length ys ≤ length xs = omega (arith, length-take (length ys) xs, ap length q) in
      sym p ∙ take_all (length xs) ys h

  pub first_part_of_whole : FirstPartOfWhole g
  first_part_of_whole lawful i xs ws w =
      let l = fresh_lists g lawful xs in
      let e : take (length l.seconds) ws ≡ l.seconds =
      first_part 0 _ 0 w.top l.seconds ws l.rises w.rises (λ t j. w.all t (l.only t j)) (λ t u j h v. l.none_skipped t u v (w.only t j) h) in
      let n : length (map g.shown l.seconds) ≡ length l.seconds = length-map l.seconds g.shown in
      rw (l.written, n) (ap (map g.shown) (sym e) ∙ map_take g.shown (length l.seconds) ws)

  pub the_whole : TheWhole g
  the_whole t l a = record { top = _; rises = l.rises; only = l.only; all = a }

  pub moves_show : MovesShow g
  moves_show lawful i c xs = let p = chain_shown g c xs in rw p.same (path_later g (lawful i).later p.path)

  pub moves_are_steps : MovesAreSteps g
  moves_are_steps next c xs = let p = chain_shown g c xs in rw p.same (path_by_one g next p.path)

  -- each call with room and budget ends, or hands out an instant or makes a move
  pub progress : Progress g
  unfolding chain
  progress c [] h = inr (omega arith)
  progress c (x ∷ xs) h = on (run g c x).stop kept.reason (progress d xs h.2)
    where
      d : Cursor
      d = (run g c x).now.cursor

      kept : KeepsTo g c x (run g c x)
      kept = call_kept g c x

      got : length (take (run g c x).now.handed (run g c x).now.buffer) ≡ (run g c x).now.handed
      got = call_length g c x

      more : (1 ≤ (run g c x).now.handed + (run g c x).now.made)
          → Over (chain (run g) d xs) ⊎ (length xs ≤ length (chain (run g) d xs).listed + (chain (run g) d xs).moves)
          → Over (chain (run g) c (x ∷ xs)) ⊎ (length (x ∷ xs) ≤ length (chain (run g) c (x ∷ xs)).listed + (chain (run g) c (x ∷ xs)).moves)
      more e (inl o) = inl o
      more e (inr l) = inr (simp length-append (omega (arith, got)))

      on : (y : Stop) → Reason g x.budget (run g c x).now y
          → Over (chain (run g) d xs) ⊎ (length xs ≤ length (chain (run g) d xs).listed + (chain (run g) d xs).moves)
          → Over (chain (run g) c (x ∷ xs)) ⊎ (length (x ∷ xs) ≤ length (chain (run g) c (x ∷ xs)).listed + (chain (run g) c (x ∷ xs)).moves)
      on Stop.Ended (cause, e) rest = inl (cause, ap (λ (r : Told A). r.cursor.state) (ended_chain g d xs cause e) ∙ e)
      on Stop.More (r, e) rest = more (omega (arith, kept.same_length, h.0)) rest
      on Stop.Limited (r, f, e, l) rest = more (omega (arith, h.1)) rest
      on (Stop.Refused fault) z rest = absurd z

  -- Every listing comes to its end: so many calls with room and budget are enough, and so is one call with room and budget ample.
  module _ (lawful : Lawful g) (last top : ℕ) (finite : Finite g last top) (c : Cursor) (f : WellFormed g c) where
    bounds : (xs : List (Call A)) → c.state ≡ State.Running → (chain (run g) c xs).cursor.state ≡ State.Running
        → (length (chain (run g) c xs).listed ≤ top) × ((chain (run g) c xs).moves ≤ last)
    bounds xs r e =
        let w = lists_between g lawful c xs r f in
        let p = w.listed.formed e in
        let n : length (map g.shown w.seconds) ≡ length w.seconds = length-map w.seconds g.shown in
        let a = rises_length _ _ w.seconds w.listed.rises in
        let b = at_high _ _ d.cursor.place (g.kept d.cursor.k) ((lawful p.interval).rises d.cursor.k p.in_range) in
        let m = moves_show lawful p.interval c xs in
        (rw (w.written, n) (omega (arith, finite.second d.cursor.k p.in_range)), omega (arith, finite.number d.cursor.k p.in_range))
      where
        d : Told A
        d = chain (run g) c xs

    pub comes_to_end : (xs : List (Call A)) → Able xs → top + last < length xs → Over (chain (run g) c xs)
    comes_to_end xs h l = on c.state refl (chain (run g) c xs).cursor.state refl
      where
        on : (y : State) → c.state ≡ y → (z : State) → (chain (run g) c xs).cursor.state ≡ z → Over (chain (run g) c xs)
        on y r (State.Ended cause) e = (cause, e)
        on (State.Ended cause) r State.Running e = (cause, ap (λ (q : Told A). q.cursor.state) (ended_chain g c xs cause r) ∙ r)
        on State.Running r State.Running e =
            ⊎_elim
            (λ (o : Over (chain (run g) c xs)). o)
            (λ (q : length xs ≤ length (chain (run g) c xs).listed + (chain (run g) c xs).moves). let b = bounds xs r e in absurd (omega arith))
            (progress c xs h)

    pub ample : (x : Call A) → top < length x.buffer → last < x.budget → (run g c x).stop ≡ Stop.Ended
    unfolding chain
    ample x h l = on c.state refl (run g c x).stop refl kept.reason
      where
        kept : KeepsTo g c x (run g c x)
        kept = call_kept g c x

        small : c.state ≡ State.Running → (run g c x).now.cursor.state ≡ State.Running → ((run g c x).now.handed ≤ top) × ((run g c x).now.made ≤ last)
        small r e = let b = bounds (x ∷ []) r e in (omega (arith, call_length g c x, rw append-nil at b.0), omega (arith, b.1))

        on : (y : State) → c.state ≡ y → (z : Stop) → (run g c x).stop ≡ z → Reason g x.budget (run g c x).now z → (run g c x).stop ≡ Stop.Ended
        on y r Stop.Ended e q = e
        on y r (Stop.Refused fault) e q = absurd q
        on (State.Ended cause) r Stop.More e q = ap (λ (o : Outcome A). o.stop) (ended_returns c x cause r)
        on (State.Ended cause) r Stop.Limited e q = ap (λ (o : Outcome A). o.stop) (ended_returns c x cause r)
        on State.Running r Stop.More e q = absurd (omega (arith, small r q.0, q.1, kept.same_length))
        on State.Running r Stop.Limited e q = absurd (omega (arith, small r q.0, q.3))
