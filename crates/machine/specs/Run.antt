-- One run, step by step, over any kept candidates and any moves.
-- Assumes nothing.
use Rattle.std.specs.Prelude.{ℕ, ◌+◌, ◌≡◌, Bool, true, false, List, [], ◌∷◌, length, set, eqb, ltb}
use Rattle.machine.specs.declared.Cause.{Cause}
use Rattle.machine.specs.declared.State.{State}
use Rattle.machine.specs.declared.Stop.{Stop}
use Rattle.machine.specs.declared.Cursor.{Cursor}
use Rattle.machine.specs.Given.{Move.To, Move.NoTick, Move.Range, Given, above, reaches}
use Rattle.machine.specs.Cursors.{remaining, end_by, pass, hand_out, move_to}

-- What a turn does to a cursor: it leaves c; it hands out x and leaves c; it makes a move and leaves c.
pub data Deed : Type 0 where
  leaves : Cursor → Deed
  hands : ℕ → Cursor → Deed
  moves : Cursor → Deed

-- whether a candidate is above UNTIL, and whether it is before the start
abbrev pub late : {A : Type 0} → Given A → ℕ → Bool
late g x = above g.until x

abbrev pub early : {A : Type 0} → Given A → ℕ → Bool
early g x = ltb x g.start

-- On reaching COUNT, end by Count.
unfoldable pub counted : {A : Type 0} → Given A → Cursor → Cursor
counted g c = elim (reaches g.count c.number) [
  | true ↦ end_by Cause.Count c
  | false ↦ c
]

-- A kept candidate remains: if above UNTIL, end by Until; else pass it and, if not before the start, hand it out.
unfoldable pub at_candidate : {A : Type 0} → Given A → ℕ → Cursor → Deed
at_candidate g x c = elim (late g x) [
  | true ↦ leaves (end_by Cause.Until c)
  | false ↦ elim (early g x) [
    | true ↦ leaves (pass c)
    | false ↦ hands x (counted g (hand_out (pass c)))
  ]
]

-- A move sets the place to zero; one that ends leaves k and place alone and isn't counted.
unfoldable pub move_on : {A : Type 0} → Given A → Cursor → Deed
move_on g c = elim (g.move c.k) [
  | To k ↦ moves (move_to k c)
  | NoTick ↦ leaves (end_by Cause.NoTick c)
  | Range ↦ leaves (end_by Cause.Range c)
]

-- a call's buffer, and its budget of moves
pub record Call (A : Type 0) : Type 0 where
  pub buffer : List A
  pub budget : ℕ

-- what a call holds between two turns: the cursor, the moves made, the number handed out in this call, and the buffer
pub record Now (A : Type 0) : Type 0 where
  pub cursor : Cursor
  pub made : ℕ
  pub handed : ℕ
  pub buffer : List A

-- where a call begins
abbrev pub opened : {A : Type 0} → Cursor → Call A → Now A
opened c x = record { cursor = c; made = 0; handed = 0; buffer = x.buffer }

-- a deed done: what is handed out goes into the first slot not yet written, and a move is counted
abbrev pub does : {A : Type 0} → Given A → Now A → Deed → Now A
does g s (leaves c) = record { cursor = c; made = s.made; handed = s.handed; buffer = s.buffer }
does g s (hands x c) = record { cursor = c; made = s.made; handed = s.handed + 1; buffer = set s.buffer s.handed (g.shown x) }
does g s (moves c) = record { cursor = c; made = s.made + 1; handed = s.handed; buffer = s.buffer }

-- whether the buffer is full, and whether m moves are made
abbrev pub full : {A : Type 0} → Now A → Bool
full s = eqb s.handed (length s.buffer)

abbrev pub spent : {A : Type 0} → ℕ → Now A → Bool
spent m s = eqb s.made m

-- One turn stops the run, or goes on.
pub data Turn (A : Type 0) : Type 0 where
  stops : Stop → Turn A
  goes : Now A → Turn A

-- A kept candidate remains: see `at_candidate`. None remains: if m moves are made, stop with Limited; else move.
abbrev pub look : {A : Type 0} → Given A → ℕ → List ℕ → Now A → Turn A
look g m (x ∷ xs) s = goes (does g s (at_candidate g x s.cursor))
look g m [] s = elim (spent m s) [
  | true ↦ stops Stop.Limited
  | false ↦ goes (does g s (move_on g s.cursor))
]

-- Ended, stop with Ended. Buffer full, stop with More.
abbrev pub enter : {A : Type 0} → Given A → ℕ → State → Now A → Turn A
enter g m (State.Ended cause) s = stops Stop.Ended
enter g m State.Running s = elim (full s) [
  | true ↦ stops Stop.More
  | false ↦ look g m (remaining g s.cursor) s
]

unfoldable pub turn : {A : Type 0} → Given A → ℕ → Now A → Turn A
turn g m s = enter g m s.cursor.state s

-- a call's outcome: why it stopped, and what it then held
pub record Outcome (A : Type 0) : Type 0 where
  pub stop : Stop
  pub now : Now A

-- Repeat: from s, with m moves allowed, the turns end with this outcome.
pub data Ends {A : Type 0} (g : Given A) (m : ℕ) : Now A → Outcome A → Type 0 where
  stop : {s : Now A} {why : Stop} → turn g m s ≡ stops why → Ends g m s (record { stop = why; now = s })
  again : {s t : Now A} {o : Outcome A} → turn g m s ≡ goes t → Ends g m t o → Ends g m s o
