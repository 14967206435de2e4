-- The search for a tick that passes.
-- Assumes nothing.
use Rattle.std.specs.Prelude.{Some, None}
use Prim.Native.Nat.{ℕ, zero, suc, ◌+◌, ◌-◌, ◌≤◌, ◌<◌}
use mathlib.Core.Path.{◌≡◌, refl, sym, ap, ◌∙◌}
use mathlib.Core.Bool.{Bool, true, false}
use mathlib.Core.List.{List}
use native.Mathlib.Omega.{arith}
use borrow.Author.Tests.{lt-ltb, le-ltb}
use Rattle.machine.specs.Given.{Move, Move.To, Move.NoTick, Move.Range}
use Rattle.rule.specs.declared.rrule.Frequency.{Frequency}
use Rattle.rule.specs.Moves.{ticks, first_from}
use Rattle.ticks.specs.declared.counter_date.Hit.{Hit}
use Rattle.ticks.specs.Ticks.{tick_is_in, tick_on, first_tick, found_by, next_tick}
use Rattle.ticks.proofs.Days.{tick_on_on}

-- ---- the search of the periods from number n up to number e
module _ (freq : Frequency) (step tick : ℕ) (clock : List Bool) where
  abbrev pub passes_at : ℕ → Bool
  passes_at i = tick_is_in freq clock (tick_on (ticks freq) step tick i)

  abbrev first_of : ℕ → ℕ → Move
  first_of n i = first_tick freq step tick clock n i

  pub hit : (e n : ℕ) → n < e + 1 → passes_at n ≡ true → first_of (e + 1 - n) n ≡ To n
  unfolding first_tick first_from
  hit e n h p = let s : e + 1 - n ≡ suc (e + 1 - (n + 1)) = omega arith in rw s (rw (p, first_from))

  pub miss : (e n : ℕ) → n < e + 1 → passes_at n ≡ false → first_of (e + 1 - n) n ≡ first_of (e + 1 - (n + 1)) (n + 1)
  unfolding first_tick first_from
  miss e n h p = let s : e + 1 - n ≡ suc (e + 1 - (n + 1)) = omega arith in rw s (rw (p, first_from))

  pub done : (e n : ℕ) → e + 1 ≤ n → first_of (e + 1 - n) n ≡ NoTick
  unfolding first_tick first_from
  done e n h = let s : e + 1 - n ≡ 0 = omega arith in rw s

-- ---- what a search can find
module _ (p : ℕ → Bool) (P : Move → Type 0) where
  finds : (n i : ℕ) → ((j : ℕ) → j < n + i → P (To j)) → P NoTick → P (first_from p n i)
  unfolding first_from
  finds zero i at none = none
  finds (suc n) i at none = go (p i) refl (finds n (i + 1) (λ j h. at j (omega arith)) none)
    where
      go : (b : Bool) → p i ≡ b → P (first_from p n (i + 1)) → P (first_from p (suc n) i)
      go true e q = rw (e, first_from) (at i (omega arith))
      go false e q = rw (e, first_from) q

module _ (freq : Frequency) (step tick : ℕ) (clock : List Bool) where
  pub next_from : tick < ticks freq
      → found_by (ticks freq) step tick (first_tick freq step tick clock (ticks freq) 1) ≡ next_tick freq step tick clock
  unfolding next_tick
  next_from h = rw (lt-ltb tick (ticks freq) h)

  pub next_none : ticks freq ≤ tick → None ≡ next_tick freq step tick clock
  unfolding next_tick
  next_none h = rw (le-ltb tick (ticks freq) h)

  -- what the search of a tick of the day has found
  pub record Hits (h : Hit) : Type 0 where
    pub first : first_tick freq step tick clock (ticks freq) 1 ≡ To h.periods
    pub few : h.periods ≤ ticks freq
    pub there : h.tick ≡ tick_on (ticks freq) step tick h.periods

  module _ (inside : tick < ticks freq) where
    pub hit_is : (h : Hit) → Some h ≡ next_tick freq step tick clock → Hits h
    unfolding first_tick
    hit_is h e =
        finds (passes_at freq step tick clock)
        (λ v. Some h ≡ found_by (ticks freq) step tick v → v ≡ first_tick freq step tick clock (ticks freq) 1 → Hits h) (ticks freq) 1
        (λ j l f g. let x : h ≡ record { periods = j; tick = tick_on (ticks freq) step tick j } = cc in
        rw x (record { first = sym g; few = omega arith; there = refl }))
        (λ f. absurd (let z : ◌≡◌ {A = ℕ} 0 1 = cc in omega arith))
        (e ∙ sym (next_from inside)) refl

    pub never_is : None ≡ next_tick freq step tick clock → first_tick freq step tick clock (ticks freq) 1 ≡ NoTick
    unfolding first_tick
    never_is e =
        finds (passes_at freq step tick clock) (λ v. None ≡ found_by (ticks freq) step tick v → v ≡ NoTick) (ticks freq) 1
        (λ j h f. absurd (let z : ◌≡◌ {A = ℕ} 0 1 = cc in omega arith))
        (λ f. refl)
        (e ∙ sym (next_from inside))

-- ---- a search from a later period on
abbrev pub later : ℕ → Move → Move
later m (To j) = To (m + j)
later m NoTick = NoTick
later m Range = Range

-- two searches, one m behind the other, find the same
pub shifted : (p q : ℕ → Bool) (m : ℕ) → ((i : ℕ) → p (m + i) ≡ q i) → (n i : ℕ) → first_from p n (m + i) ≡ later m (first_from q n i)
unfolding first_from
shifted p q m e zero i = refl
shifted p q m e (suc n) i = go (q i) refl (shifted p q m e n (i + 1))
  where
    go : (b : Bool) → q i ≡ b → first_from p n (m + (i + 1)) ≡ later m (first_from q n (i + 1)) → first_from p (suc n) (m + i) ≡ later m (first_from q (suc n) i)
    go true t h = rw (e i ∙ t, first_from) (rw (t, first_from))
    go false t h =
        let s : m + i + 1 ≡ m + (i + 1) = omega arith in
        rw (e i ∙ t, first_from) (rw (t, first_from) (ap (first_from p n) s ∙ h))

-- a search from the tick m periods on is a search m periods later
pub search_later : (freq : Frequency) (step tick : ℕ) (clock : List Bool) (m n i : ℕ)
    → first_tick freq step tick clock n (m + i) ≡ later m (first_tick freq step (tick_on (ticks freq) step tick m) clock n i)
unfolding first_tick
search_later freq step tick clock m n i =
    shifted (passes_at freq step tick clock) (passes_at freq step (tick_on (ticks freq) step tick m) clock) m
    (λ j. ap (tick_is_in freq clock) (sym (tick_on_on (ticks freq) step tick m j))) n i
