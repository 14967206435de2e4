-- `clocks::iterinfo::get_clock` meets its contract.
-- Assumes nothing.
use mathlib.Core.Path.{◌≡◌}
use mathlib.Core.Bool.{Bool, false}
use mathlib.Core.List.{List}
use lib.ListN.{length, replicate}
use Rattle.clocks.specs.Clocks.{written, row_of, or_all, clock_of}
use Rattle.clocks.proofs.iterinfo.get_clock.Goals as goal

-- the row from the three sets, written one after the other
put_together : (h m s a b c : List Bool) → length h ≡ 24 → length m ≡ 60 → length s ≡ 60
    → a ≡ written (replicate 144 false) 0 (or_all (length h) h)
    → b ≡ written a 24 (or_all (length m) m)
    → c ≡ written b 84 (or_all (length s) s)
    → c ≡ clock_of h m s
unfolding clock_of row_of
put_together h m s a b c i j k x y z = rw (z, y, x, i, j, k)

pub returns : goal.returns
returns c =
    let third = c in
    let second = third in
    let first = second in
    let a = first.args in
    put_together a.byhour.now a.byminute.now a.bysecond.now _ _ _
    first.put-arg-1.given second.put-arg-2-1.given third.put-arg-3-1.given
    first.put.ensures second.put-2.ensures third.put-3.ensures
