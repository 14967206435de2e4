-- What a run is given of its rule, and which seconds satisfy it. Inside, all times are seconds; what is written is of any type A.
-- Assumes nothing.
use Rattle.std.specs.Prelude.{ℕ, ◌≤◌, ◌<◌, ◌≡◌, Bool, true, false, List, eqb, ltb}
use Rattle.machine.specs.Rising.{◌∈◌}

-- UNTIL and COUNT: absent, or given
pub data Bound : Type 0 where
  absent : Bound
  present : ℕ → Bound

abbrev pub AtMost : Bound → ℕ → Type 0
AtMost absent n = Unit {0}
AtMost (present b) n = n ≤ b

abbrev pub Below : Bound → ℕ → Type 0
Below absent n = Unit {0}
Below (present b) n = n < b

abbrev pub Above : Bound → ℕ → Type 0
Above absent n = ⊥
Above (present b) n = b < n

-- the same as tests, and whether a bound is reached
abbrev pub below : Bound → ℕ → Bool
below absent n = true
below (present b) n = ltb n b

abbrev pub above : Bound → ℕ → Bool
above absent n = false
above (present b) n = ltb b n

abbrev pub reaches : Bound → ℕ → Bool
reaches absent n = false
reaches (present b) n = eqb n b

-- A move: to a later period; or there is no such k however far the calendar runs; or the new period begins after the range.
pub data Move : Type 0 where
  To : ℕ → Move
  NoTick : Move
  Range : Move

-- what a run is given: its rule's periods, moves and bounds, and what is written
pub record Given (A : Type 0) : Type 0 where
  -- the kept candidates of period k, rising
  pub kept : ℕ → List ℕ
  -- whether period k begins in range
  pub in_range : ℕ → Bool
  -- where period k begins, and the first second after it
  pub begins : ℕ → ℕ
  pub ends : ℕ → ℕ
  -- the move from period k
  pub move : ℕ → Move
  pub start : ℕ
  pub until : Bound
  pub count : Bound
  pub interval : ℕ
  -- what is written of a second that is handed out
  pub shown : ℕ → A

abbrev pub InRange : {A : Type 0} → Given A → ℕ → Type 0
InRange g k = g.in_range k ≡ true

-- s satisfies the rule: it is a kept candidate of some period k that begins in range, is not before the start and not after UNTIL
pub record Satisfies {A : Type 0} (g : Given A) (s : ℕ) : Type 0 where
  pub k : ℕ
  pub in_range : InRange g k
  pub kept : s ∈ g.kept k
  pub started : g.start ≤ s
  pub within : AtMost g.until s
