-- Worked cases: DAILY;COUNT=3 from 2024-02-28 05:00, in one call and cut into four; UNTIL; NoTick; refusals. Modules are
-- checked by name, so a wrong definition is refused here first, by an answer that differs.
-- Assumes nothing.
use Prim.Native.Nat.{ℕ, ◌+◌, ◌-◌, ◌*◌}
use mathlib.Core.Path.{◌≡◌, refl}
use mathlib.Core.Bool.{Bool, true, false}
use mathlib.Core.List.{List, [], ◌∷◌}
use lib.ListN.{replicate}
use lib.Dec.{ltb}
use Rattle.machine.specs.declared.Cause.{Cause}
use Rattle.machine.specs.declared.State.{State}
use Rattle.machine.specs.declared.Fault.{Fault}
use Rattle.machine.specs.declared.Stop.{Stop}
use Rattle.machine.specs.declared.Cursor.{Cursor}
use Rattle.machine.specs.Faults.{refused_answer}
use Rattle.machine.specs.Given.{Bound, Bound.absent, Bound.present, Move.To, Move.NoTick, Move.Range, Given}
use Rattle.machine.specs.Cursors.{fresh, well_formed}
use Rattle.machine.specs.Run.{counted, at_candidate, move_on, Call}
use Rattle.machine.specs.Compute.{walk, after, runs, run}
use Rattle.machine.specs.Calls.{refuse, call, Answered, beside, answered, chain}

-- The days from 2024-02-28 to the end of 9999, each with one kept candidate, at five. Inside, seconds count from 0001-01-01; an instant is shown.
unfoldable pub daily : Bound → Bound → Given ℕ
daily until count = record {
  kept = λ k. (63844675200 + k * 86400 + 18000) ∷ [];
  in_range = λ k. ltb k 2913116;
  begins = λ k. 63844675200 + k * 86400;
  ends = λ k. 63844675200 + k * 86400 + 86400;
  move = λ k. elim (ltb (k + 1) 2913116) [ true ↦ To (k + 1) | false ↦ Range ];
  start = 63844693200;
  until = until;
  count = count;
  interval = 1;
  shown = λ s. s - 62135596800;
}

slots : List ℕ
slots = 6 ∷ 7 ∷ 8 ∷ 9 ∷ []

-- the answer and the whole buffer of a call from a fresh cursor
first : Bool → Given ℕ → List ℕ → ℕ → Answered ℕ
first good g buffer m = answered (call good g (fresh g) (record { buffer = buffer; budget = m }))

three : first true (daily absent (present 3)) slots 9
    ≡ beside (record { stop = Stop.Ended; cursor = record { state = State.Ended Cause.Count; k = 2; place = 1; number = 3 }; moves = 2; handed = 3 })
    (1709096400 ∷ 1709182800 ∷ 1709269200 ∷ 9 ∷ [])
unfolding first call well_formed run runs walk after at_candidate counted move_on fresh daily slots
three = refl

-- cut into calls of one slot and one move
one : Call ℕ
one = record { buffer = 7 ∷ []; budget = 1 }

cut : chain (call true (daily absent (present 3))) (fresh (daily absent (present 3))) (one ∷ one ∷ one ∷ one ∷ [])
    ≡ record {
      listed = 1709096400 ∷ 1709182800 ∷ 1709269200 ∷ [];
      moves = 2;
      cursor = record { state = State.Ended Cause.Count; k = 2; place = 1; number = 3 };
    }
unfolding chain call well_formed run runs walk after at_candidate counted move_on fresh daily one
cut = refl

-- with the largest budget and much room it is the same
ample_moves : (first true (daily absent (present 300)) (replicate 400 7) 4294967295).answer.moves ≡ 299
unfolding first call well_formed run runs walk after at_candidate counted move_on fresh daily
ample_moves = refl

-- An instant at UNTIL itself is handed out; one second less, and it is not.
until_in_lem : first true (daily (present 63844779600) absent) slots 9
    ≡ beside (record { stop = Stop.Ended; cursor = record { state = State.Ended Cause.Until; k = 2; place = 0; number = 2 }; moves = 2; handed = 2 })
    (1709096400 ∷ 1709182800 ∷ 8 ∷ 9 ∷ [])
unfolding first call well_formed run runs walk after at_candidate counted move_on fresh daily slots
until_in_lem = refl

until_out_lem : first true (daily (present 63844779599) absent) slots 9
    ≡ beside (record { stop = Stop.Ended; cursor = record { state = State.Ended Cause.Until; k = 1; place = 0; number = 1 }; moves = 1; handed = 1 })
    (1709096400 ∷ 7 ∷ 8 ∷ 9 ∷ [])
unfolding first call well_formed run runs walk after at_candidate counted move_on fresh daily slots
until_out_lem = refl

-- A rule none of whose ticks passes: with no budget Limited, with one move NoTick and 0 moves; and with no room More.
never : Bound → ℕ → Given ℕ
never count interval = record {
  kept = λ k. [];
  in_range = λ k. true;
  begins = λ k. k * 7200;
  ends = λ k. k * 7200 + 3600;
  move = λ k. NoTick;
  start = 0;
  until = absent;
  count = count;
  interval = interval;
  shown = λ s. s;
}

running : Cursor
running = record { state = State.Running; k = 0; place = 0; number = 0 }

never_limited : first true (never absent 2) slots 0 ≡ beside (record { stop = Stop.Limited; cursor = running; moves = 0; handed = 0 }) slots
unfolding first call well_formed run runs walk after at_candidate counted move_on fresh never slots running
never_limited = refl

never_ended : first true (never absent 2) slots 1
    ≡ beside (record { stop = Stop.Ended; cursor = record { state = State.Ended Cause.NoTick; k = 0; place = 0; number = 0 }; moves = 0; handed = 0 }) slots
unfolding first call well_formed run runs walk after at_candidate counted move_on fresh never slots
never_ended = refl

never_more : first true (never absent 2) [] 1 ≡ beside (record { stop = Stop.More; cursor = running; moves = 0; handed = 0 }) []
unfolding first call well_formed run runs walk after at_candidate counted move_on fresh never running
never_more = refl

-- 20 also where the cursor is ended, as a fresh one is where INTERVAL is 0; with a good record that one comes back.
bad_record : first false (never absent 0) slots 9 ≡ beside (refused_answer Fault.Record (fresh (never absent 0))) slots
unfolding first call
bad_record = refl

by_interval : first true (never absent 0) slots 9
    ≡ beside (record { stop = Stop.Ended; cursor = record { state = State.Ended Cause.Interval; k = 0; place = 0; number = 0 }; moves = 0; handed = 0 }) slots
unfolding first call well_formed run fresh never slots
by_interval = refl

-- COUNT is looked at first.
count_first : (fresh (never (present 0) 0)).state ≡ State.Ended Cause.Count
unfolding fresh never
count_first = refl

-- A running cursor where INTERVAL is 0 is 21, and one whose place is past the kept candidates.
no_interval : call true (never absent 0) running one ≡ refuse Fault.Cursor running one
unfolding call well_formed never running one
no_interval = refl

past_place : (call true (never absent 2) (record { state = State.Running; k = 0; place = 1; number = 0 }) one).stop ≡ Stop.Refused Fault.Cursor
unfolding call well_formed never one
past_place = refl

-- So is one whose period begins after the range.
past_range : (call true (daily absent absent) (record { state = State.Running; k = 2913116; place = 0; number = 0 }) one).stop ≡ Stop.Refused Fault.Cursor
unfolding call well_formed daily one
past_range = refl

-- A number above the seconds from the start to the next candidate is 21, and so is one that has reached COUNT.
too_many : (call true (daily absent (present 3)) (record { state = State.Running; k = 1; place = 0; number = 3 }) one).stop ≡ Stop.Refused Fault.Cursor
unfolding call well_formed daily one
too_many = refl

too_early : (call true (daily absent absent) (record { state = State.Running; k = 0; place = 0; number = 1 }) one).stop ≡ Stop.Refused Fault.Cursor
unfolding call well_formed daily one
too_early = refl
