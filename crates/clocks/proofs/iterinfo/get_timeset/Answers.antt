-- `clocks::iterinfo::get_timeset` meets its contract.
-- Assumes nothing.
use Prim.Native.Nat.{ℕ}
use mathlib.Core.Path.{◌≡◌}
use mathlib.Core.Bool.{Bool}
use mathlib.Core.List.{List}
use lib.ListN.{length, replicate}
use Rattle.clocks.specs.declared.iterinfo.TimeSet.{TimeSet}
use Rattle.clocks.specs.Clocks.{written, row_of, flagged, timeset_of}
use Rattle.clocks.proofs.iterinfo.get_timeset.Goals as goal

-- the sets from the three lists, written one after the other
put_together : (flags : List Bool) (a b c : List ℕ) (h m s : ℕ)
    → (h ≡ length (flagged 0 24 flags)) × (a ≡ written (replicate 144 0) 0 (flagged 0 24 flags))
    → (m ≡ length (flagged 24 60 flags)) × (b ≡ written a 24 (flagged 24 60 flags))
    → (s ≡ length (flagged 84 60 flags)) × (c ≡ written b 84 (flagged 84 60 flags))
    → ◌≡◌ {A = TimeSet} record { lists = c; counts = record { hours = h; minutes = m; seconds = s } } (timeset_of flags)
unfolding timeset_of row_of
put_together flags a b c h m s x y z = rw (x.0, y.0, z.0, z.1, y.1, x.1)

pub returns : goal.returns
returns c =
    let third = c in
    let second = third in
    let first = second in
    put_together first.args.flags.now _ _ _ _ _ _
    (first.collect-hours.ensures.counts, first.collect-hours.ensures.lists)
    (second.collect-minutes.ensures.counts, second.collect-minutes.ensures.lists)
    (third.collect-seconds.ensures.counts, third.collect-seconds.ensures.lists)
