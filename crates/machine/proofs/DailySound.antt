-- The worked cases' calendar is sound, so that what is proved of sound calendars holds of it.
-- Assumes nothing.
use Prim.Native.Nat.{ℕ, ◌+◌, ◌<◌}
use mathlib.Core.Path.{◌≡◌, refl}
use mathlib.Core.Bool.{true}
use mathlib.Core.List.{List}
use lib.ListN.{length}
use native.Mathlib.Omega.{arith}
use borrow.Author.Tests.{ltb-true, lt-ltb}
use Rattle.machine.specs.declared.Stop.{Stop}
use Rattle.machine.specs.Given.{Bound}
use Rattle.machine.specs.Cursors.{fresh}
use Rattle.machine.specs.Run.{Call}
use Rattle.machine.specs.Compute.{run}
use Rattle.machine.specs.Calls.{call, chain}
use Rattle.machine.specs.Sound.{Sound}
use Rattle.machine.specs.Promises.{Lists}
use Rattle.machine.proofs.AnswersComputed.{daily}
use Rattle.machine.proofs.Theorems.{fresh_well_formed, chain_lists, ample, sound_by_next}

sound : (until count : Bound) → Sound (daily until count)
unfolding daily
sound until count = sound_by_next (daily until count) (record {
  first = refl;
  closed = λ k r. lt-ltb k 2913116 (omega (arith, ltb-true (k + 1) 2913116 r));
  rises = λ k r. (omega arith, omega arith);
  step = λ k r. omega arith;
}) (λ k. refl)

-- so calls list what the theorem says
daily_lists : (until count : Bound) (calls : List (Call ℕ))
    → Lists (daily until count) (chain (call true (daily until count)) (fresh (daily until count)) calls)
daily_lists until count calls = (chain_lists (daily until count) (λ i. sound until count) true refl calls).1

-- and one ample call comes to the end
daily_ends : (until count : Bound) (x : Call ℕ) → 315537897600 < length x.buffer → 2913115 < x.budget
    → (run (daily until count) (fresh (daily until count)) x).stop ≡ Stop.Ended
unfolding daily
daily_ends until count x =
    ample (daily until count) (λ i. sound until count) 2913115 315537897600
    (record { number = λ k r. omega (arith, ltb-true k 2913116 r); second = λ k r. omega (arith, ltb-true k 2913116 r) })
    (fresh (daily until count)) (fresh_well_formed (daily until count) (λ i. sound until count)) x
