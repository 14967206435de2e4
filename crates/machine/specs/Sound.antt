-- What the calendar has to give, so that a run lists what satisfies; and two forms of it that ask less.
-- Assumes nothing.
use Rattle.std.specs.Prelude.{ℕ, ◌+◌, ◌≤◌, ◌<◌, ◌≡◌, Bool, true, false, []}
use Rattle.machine.specs.Rising.{Rises}
use Rattle.machine.specs.Given.{Move.To, Move.NoTick, Move.Range, Given, InRange}

-- nothing is kept after period k and before period k'; nothing is kept after period k
abbrev pub NothingBetween : {A : Type 0} → Given A → ℕ → ℕ → Type 0
NothingBetween g k k' = (j : ℕ) → InRange g j → k < j → j < k' → g.kept j ≡ []

abbrev pub NothingAfter : {A : Type 0} → Given A → ℕ → Type 0
NothingAfter g k = (j : ℕ) → InRange g j → k < j → g.kept j ≡ []

-- of the periods that begin in range
pub record Sound {A : Type 0} (g : Given A) : Type 0 where
  pub first : InRange g 0
  -- the kept candidates of a period rise strictly, and lie in it
  pub rises : (k : ℕ) → InRange g k → Rises (g.begins k) (g.kept k) (g.ends k)
  -- periods are in order
  pub order : (j k : ℕ) → InRange g j → InRange g k → j < k → g.ends j ≤ g.begins k
  -- a move goes to a later period, from a period in range to one in range, and skips none that has a kept candidate
  pub later : (k k' : ℕ) → g.move k ≡ To k' → k < k'
  pub lands : (k k' : ℕ) → InRange g k → g.move k ≡ To k' → InRange g k'
  pub skips : (k k' : ℕ) → InRange g k → g.move k ≡ To k' → NothingBetween g k k'
  -- where a move ends, nothing more is kept
  pub no_tick : (k : ℕ) → InRange g k → g.move k ≡ NoTick → NothingAfter g k
  pub range : (k : ℕ) → InRange g k → g.move k ≡ Range → NothingAfter g k

-- Less, of periods: those in range come first, each rises within its bounds, and each ends before the next begins.
pub record Periods {A : Type 0} (g : Given A) : Type 0 where
  pub first : InRange g 0
  pub closed : (k : ℕ) → InRange g (k + 1) → InRange g k
  pub rises : (k : ℕ) → InRange g k → Rises (g.begins k) (g.kept k) (g.ends k)
  pub step : (k : ℕ) → InRange g (k + 1) → g.ends k ≤ g.begins (k + 1)

-- Less, of moves: `may k j` says that a move from period k may land on period j. Where it may not, nothing is kept; and a move takes the least j.
pub record LeastMoves {A : Type 0} (g : Given A) (may : ℕ → ℕ → Bool) : Type 0 where
  pub empty : (k j : ℕ) → InRange g k → InRange g j → k < j → may k j ≡ false → g.kept j ≡ []
  pub later : (k k' : ℕ) → g.move k ≡ To k' → k < k'
  pub lands : (k k' : ℕ) → InRange g k → g.move k ≡ To k' → InRange g k'
  pub least : (k k' : ℕ) → InRange g k → g.move k ≡ To k' → (j : ℕ) → k < j → j < k' → may k j ≡ false
  pub no_tick : (k : ℕ) → InRange g k → g.move k ≡ NoTick → (j : ℕ) → k < j → may k j ≡ false
  pub range : (k : ℕ) → InRange g k → g.move k ≡ Range → (j : ℕ) → InRange g j → k < j → may k j ≡ false

-- Less, of moves down to DAILY: each goes to the next period, where that begins in range.
abbrev pub MovesByOne : {A : Type 0} → Given A → Type 0
MovesByOne g = (k : ℕ) → g.move k ≡ elim (g.in_range (k + 1)) [ true ↦ To (k + 1) | false ↦ Range ]

-- the calendar comes to an end: no period in range has a number above last, or lasts beyond top
pub record Finite {A : Type 0} (g : Given A) (last top : ℕ) : Type 0 where
  pub number : (k : ℕ) → InRange g k → k ≤ last
  pub second : (k : ℕ) → InRange g k → g.ends k ≤ top
