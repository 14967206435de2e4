-- What is enough for the laws of the calendar: neighbours in order, and moves to the least later period that may pass.
-- Assumes nothing.
use Prim.Native.Nat.{ℕ, zero, suc, ◌+◌, ◌≤◌, ◌<◌}
use mathlib.Core.Path.{◌≡◌, subst}
use mathlib.Core.Logic.{⊎_elim}
use mathlib.Core.Bool.{Bool, true, false}
use lib.Dec.{eqb}
use native.Mathlib.Numerals.{add-one}
use native.Mathlib.Omega.{arith}
use borrow.Author.Tests.{eqb-true, eqb-false}
use Rattle.machine.specs.Given.{Move, Move.To, Move.NoTick, Move.Range, Given, InRange}
use Rattle.machine.specs.Sound.{Sound, Periods, LeastMoves, MovesByOne}
use Rattle.machine.specs.Claims.{SatisfiesWithin}
use Rattle.machine.proofs.Laws.{split, rises_le}

module _ {A : Type 0} (g : Given A) (p : Periods g) where
  down : (i j : ℕ) → i ≤ j → InRange g j → InRange g i
  down i zero h r = subst (λ (x : ℕ). InRange g x) (omega arith) r
  down i (suc j) h r =
      ⊎_elim
      (λ (e : eqb i (suc j) ≡ true). rw (eqb-true i (suc j) e) r)
      (λ (e : eqb i (suc j) ≡ false). let n = eqb-false i (suc j) e in down i j (omega arith) (p.closed j (rw add-one r)))
      (split (eqb i (suc j)))

  in_order : (j k : ℕ) → InRange g k → j < k → g.ends j ≤ g.begins k
  in_order j zero r h = absurd (omega arith)
  in_order j (suc k) r h =
      let q : InRange g (k + 1) = rw add-one r in
      let s : g.ends k ≤ g.begins (suc k) = rw add-one at (p.step k q) in
      ⊎_elim
      (λ (e : eqb j k ≡ true). rw (eqb-true j k e) s)
      (λ (e : eqb j k ≡ false).
      let n = eqb-false j k e in
      let i = in_order j k (p.closed k q) (omega arith) in
      let l = rises_le _ _ (g.kept k) (p.rises k (p.closed k q)) in
      omega arith)
      (split (eqb j k))

  pub sound_by_least : (may : ℕ → ℕ → Bool) → LeastMoves g may → Sound g
  sound_by_least may m = record {
    first = p.first;
    rises = p.rises;
    order = λ j k q r h. in_order j k r h;
    later = m.later;
    lands = m.lands;
    skips = λ k k' r e j i h l. m.empty k j r i h (m.least k k' r e j h l);
    no_tick = λ k r e j i h. m.empty k j r i h (m.no_tick k r e j h);
    range = λ k r e j i h. m.empty k j r i h (m.range k r e j i h);
  }

  -- Down to DAILY: every move goes to the next period, where that begins in range.
  pub sound_by_next : MovesByOne g → Sound g
  sound_by_next by_one = sound_by_least (λ k j. true) (record {
    empty = λ k j r i h e. absurd (let z : ◌≡◌ {A = ℕ} 0 1 = cc in omega arith);
    later = λ k k' e. let h = to k k' e in omega arith;
    lands = λ k k' r e. let h = to k k' e in rw (← h.0) h.1;
    least = λ k k' r e j h l. absurd (let q = to k k' e in omega arith);
    no_tick = λ k i e j h. absurd
        (by_next (λ y. y ≡ NoTick → ⊥) k
        (λ r q. let z : ◌≡◌ {A = ℕ} 0 1 = cc in omega arith)
        (λ r q. let z : ◌≡◌ {A = ℕ} 0 1 = cc in omega arith)
        e);
    range = λ k o e j i h. absurd
        (by_next (λ y. y ≡ Range → ⊥) k
        (λ r q. let z : ◌≡◌ {A = ℕ} 0 1 = cc in omega arith)
        (λ r q. let s = down (k + 1) j (omega arith) i in let z : ◌≡◌ {A = ℕ} 0 1 = cc in omega arith)
        e);
  })
    where
      by_next : (P : Move → Type 0) (k : ℕ) → (InRange g (k + 1) → P (To (k + 1))) → (g.in_range (k + 1) ≡ false → P Range) → P (g.move k)
      by_next P k a b =
          rw (by_one k)
          (⊎_elim
          (λ (h : g.in_range (k + 1) ≡ true). rw h (a h))
          (λ (h : g.in_range (k + 1) ≡ false). rw h (b h))
          (split (g.in_range (k + 1))))

      to : (k k' : ℕ) → g.move k ≡ To k' → (k + 1 ≡ k') × InRange g (k + 1)
      to k k' = by_next (λ y. y ≡ To k' → (k + 1 ≡ k') × InRange g (k + 1)) k (λ r e. ((cc), r)) (λ r e. absurd (let z : ◌≡◌ {A = ℕ} 0 1 = cc in omega arith))

-- A limit on seconds for the range of periods.
pub satisfies_within : {A : Type 0} (g : Given A) → SatisfiesWithin g
satisfies_within g Limit both s = (
  (λ h. (h.k, h.kept, (both h.k s h.kept).0 h.in_range, h.started, h.within)),
  (λ h. record { k = h.0; in_range = (both h.0 s h.1).1 h.2; kept = h.1; started = h.3; within = h.4 }),
)
