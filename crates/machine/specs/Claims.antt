-- What is claimed of a run; proofs/Theorems has a proof of each claim, under the same name in small letters.
-- Assumes nothing.
use Rattle.std.specs.Prelude.{ℕ, ◌+◌, ◌≤◌, ◌<◌, ◌≡◌, ◌⊎◌, ◌↔◌, Bool, true, false, List, ◌++◌, map, length, take}
use Rattle.machine.specs.declared.Cause.{Cause}
use Rattle.machine.specs.declared.State.{State}
use Rattle.machine.specs.declared.Fault.{Fault}
use Rattle.machine.specs.declared.Stop.{Stop}
use Rattle.machine.specs.declared.Cursor.{Cursor}
use Rattle.machine.specs.Rising.{◌∈◌}
use Rattle.machine.specs.Faults.{refused_answer}
use Rattle.machine.specs.Given.{Bound.present, AtMost, Move.To, Given, InRange, Satisfies}
use Rattle.machine.specs.Cursors.{fresh, WellFormed, well_formed}
use Rattle.machine.specs.Run.{Call, opened, Outcome, Ends}
use Rattle.machine.specs.Compute.{outcome, run}
use Rattle.machine.specs.Calls.{call, beside, answered, Told, tells, join, still, chain, Each}
use Rattle.machine.specs.Sound.{Sound, Periods, LeastMoves, MovesByOne, Finite}
use Rattle.machine.specs.Promises.{KeepsTo, Over, First, Able, All, Whole, ListsFrom, Lists}

-- Of every rule, whatever its periods and moves.
module _ {A : Type 0} (g : Given A) where
  -- From every cursor, with every buffer and budget, the turns end with one outcome alone, and `run` computes it.
  abbrev pub Answers : Type 0
  Answers = (c : Cursor) (x : Call A) (o : Outcome A) → Ends g x.budget (opened c x) o ↔ (o ≡ run g c x)

  -- An ended cursor comes back unchanged, with zero moves, and so does the buffer.
  abbrev pub EndedReturns : Type 0
  EndedReturns = (c : Cursor) (x : Call A) (cause : Cause) → c.state ≡ State.Ended cause → run g c x ≡ outcome Stop.Ended (opened c x)

  -- Every run keeps to its buffer and budget, and stops for its reason.
  abbrev pub RunKeeps : Type 0
  RunKeeps = (c : Cursor) (x : Call A) → KeepsTo g c x (run g c x)

  -- The test of a cursor is whether it is well formed.
  abbrev pub Tests : Type 0
  Tests = (c : Cursor) → (well_formed g c ≡ true) ↔ WellFormed g c

  -- 20 is given exactly when the record isn't one that an accepted check yields, whatever the cursor.
  abbrev pub RecordRefused : Type 0
  RecordRefused = (good : Bool) (c : Cursor) (x : Call A) → ((call good g c x).stop ≡ Stop.Refused Fault.Record) ↔ (good ≡ false)

  -- 21 is given exactly when 20 is not, and the cursor isn't well formed.
  abbrev pub CursorRefused : Type 0
  CursorRefused = (good : Bool) (c : Cursor) (x : Call A) → ((call good g c x).stop ≡ Stop.Refused Fault.Cursor) ↔ ((good ≡ true) × (WellFormed g c → ⊥))

  -- A refused run returns the cursor as given, zero moves and zero handed out, and writes nothing.
  abbrev pub RefusedAsGiven : Type 0
  RefusedAsGiven =
      (good : Bool) (c : Cursor) (x : Call A) (fault : Fault) → (call good g c x).stop ≡ Stop.Refused fault
      → answered (call good g c x) ≡ beside (refused_answer fault c) x.buffer

  -- Otherwise a call is a run.
  abbrev pub Accepted : Type 0
  Accepted = (good : Bool) (c : Cursor) (x : Call A) → good ≡ true → WellFormed g c → call good g c x ≡ run g c x

  -- Where COUNT or INTERVAL is 0 nothing is handed out, and no move is made.
  abbrev pub NothingAtZero : Type 0
  NothingAtZero = (g.count ≡ present 0) ⊎ (g.interval ≡ 0) → (xs : List (Call A)) → chain (run g) (fresh g) xs ≡ still (fresh g)

  -- However the calls are cut: chains from one cursor that come to an end tell the same.
  abbrev pub Cutting : Type 0
  Cutting = (c : Cursor) (xs ys : List (Call A)) → Over (chain (run g) c xs) → Over (chain (run g) c ys) → chain (run g) c xs ≡ chain (run g) c ys

  -- One call that ends tells what every chain tells that ends.
  abbrev pub OneCall : Type 0
  OneCall = (c : Cursor) (x : Call A) (ys : List (Call A)) → (run g c x).stop ≡ Stop.Ended → Over (chain (run g) c ys) → chain (run g) c ys ≡ tells (run g c x)

  -- Of two chains from one cursor, one tells a first part of what the other tells; and every chain does of one that has ended.
  abbrev pub FirstOfTwo : Type 0
  FirstOfTwo = (c : Cursor) (xs ys : List (Call A)) → First (chain (run g) c xs) (chain (run g) c ys) ⊎ First (chain (run g) c ys) (chain (run g) c xs)

  abbrev pub FirstOfEnded : Type 0
  FirstOfEnded = (c : Cursor) (xs ys : List (Call A)) → Over (chain (run g) c ys) → First (chain (run g) c xs) (chain (run g) c ys)

  -- A chain may be cut anywhere.
  abbrev pub InTurn : Type 0
  InTurn = (c : Cursor) (xs ys : List (Call A)) → chain (run g) c (xs ++ ys) ≡ join (chain (run g) c xs) (chain (run g) (chain (run g) c xs).cursor ys)

  -- Calls with room and budget go on: each ends, or hands out an instant or makes a move.
  abbrev pub Progress : Type 0
  Progress =
      (c : Cursor) (xs : List (Call A)) → Able xs
      → Over (chain (run g) c xs) ⊎ (length xs ≤ length (chain (run g) c xs).listed + (chain (run g) c xs).moves)

  -- Where every move goes to the next period, as down to DAILY, the moves are what k has risen by.
  abbrev pub MovesAreSteps : Type 0
  MovesAreSteps =
      ((k k' : ℕ) → g.move k ≡ To k' → k' ≡ k + 1) → (c : Cursor) (xs : List (Call A))
      → (chain (run g) c xs).cursor.k ≡ c.k + (chain (run g) c xs).moves

  -- There is one whole listing at most.
  abbrev pub OneWhole : Type 0
  OneWhole = (xs ys : List ℕ) → Whole g xs → Whole g ys → xs ≡ ys

  -- Where the period of a kept candidate is in range exactly when the candidate is within a limit, to satisfy is to be a kept candidate
  -- within that limit, not before the start and not after UNTIL.
  abbrev pub SatisfiesWithin : Type 1
  SatisfiesWithin =
      (Limit : ℕ → Type 0) → ((k s : ℕ) → s ∈ g.kept k → InRange g k ↔ Limit s)
      → (s : ℕ) → Satisfies g s ↔ ((k : ℕ) × (s ∈ g.kept k) × Limit s × (g.start ≤ s) × AtMost g.until s)

-- What follows rests on the laws of the calendar, which hold where INTERVAL is at least 1.
module _ {A : Type 0} (g : Given A) where
  abbrev pub Lawful : Type 0
  Lawful = 1 ≤ g.interval → Sound g

  -- A fresh cursor is well formed, and calls lead from a well-formed cursor to a well-formed one.
  abbrev pub FreshWellFormed : Type 0
  FreshWellFormed = Lawful → WellFormed g (fresh g)

  abbrev pub StaysWellFormed : Type 0
  StaysWellFormed = Lawful → (c : Cursor) (xs : List (Call A)) → WellFormed g c → WellFormed g (chain (run g) c xs).cursor

  -- So no call is refused.
  abbrev pub NeverRefused : Type 0
  NeverRefused =
      Lawful → (good : Bool) → good ≡ true → (c : Cursor) (xs : List (Call A)) → WellFormed g c
      → Each (call good g) (KeepsTo g) c xs × (chain (call good g) c xs ≡ chain (run g) c xs)

  -- From any well-formed cursor that runs, calls hand out all that satisfies between it and the cursor that they leave.
  abbrev pub ListsBetween : Type 0
  ListsBetween = Lawful → (c : Cursor) (xs : List (Call A)) → c.state ≡ State.Running → WellFormed g c → ListsFrom g c (chain (run g) c xs)

  -- Demand 3. Any chain of calls from a fresh cursor: no call is refused, each stops with its reason, within its budget, and leaves the slots past
  -- those handed out alone (KeepsTo); and together they list what satisfies (Lists).
  abbrev pub ChainLists : Type 0
  ChainLists =
      Lawful → (good : Bool) → good ≡ true → (calls : List (Call A))
      → Each (call good g) (KeepsTo g) (fresh g) calls × Lists g (chain (call good g) (fresh g) calls)

  -- It is a first part of the whole listing, and the whole where nothing that satisfies is missing.
  abbrev pub FirstPartOfWhole : Type 0
  FirstPartOfWhole =
      Lawful → 1 ≤ g.interval → (xs : List (Call A)) (ws : List ℕ) → Whole g ws
      → (chain (run g) (fresh g) xs).listed ≡ take (length (chain (run g) (fresh g) xs).listed) (map g.shown ws)

  abbrev pub TheWhole : Type 0
  TheWhole = (t : Told A) (l : Lists g t) → All g l.seconds → Whole g l.seconds

  -- The moves made show in k: each goes to a later period.
  abbrev pub MovesShow : Type 0
  MovesShow = Lawful → 1 ≤ g.interval → (c : Cursor) (xs : List (Call A)) → c.k + (chain (run g) c xs).moves ≤ (chain (run g) c xs).cursor.k

  -- Where the calendar is finite every listing comes to its end: by so many calls with room and budget, or by one with ample room and budget.
  abbrev pub ComesToEnd : Type 0
  ComesToEnd =
      Lawful → (last top : ℕ) → Finite g last top → (c : Cursor) → WellFormed g c
      → (xs : List (Call A)) → Able xs → top + last < length xs → Over (chain (run g) c xs)

  abbrev pub Ample : Type 0
  Ample =
      Lawful → (last top : ℕ) → Finite g last top → (c : Cursor) → WellFormed g c
      → (x : Call A) → top < length x.buffer → last < x.budget → (run g c x).stop ≡ Stop.Ended

  -- What is enough for the laws of the calendar.
  abbrev pub SoundByLeast : Type 0
  SoundByLeast = Periods g → (may : ℕ → ℕ → Bool) → LeastMoves g may → Sound g

  abbrev pub SoundByNext : Type 0
  SoundByNext = Periods g → MovesByOne g → Sound g
