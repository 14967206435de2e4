-- A row's part for hours, minutes or seconds, read at a place: past its places there is nothing.
-- Assumes nothing.
use Rattle.std.specs.Prelude.{if◌then◌else◌}
use Prim.Native.Nat.{ℕ, ◌+◌, ◌≤◌, ◌<◌}
use mathlib.Core.Path.{◌≡◌, refl, ◌∙◌}
use mathlib.Core.Bool.{Bool, true, false, ◌&&◌}
use mathlib.Core.List.{List}
use native.Mathlib.Omega.{arith}
use native.Mathlib.Decide.{dec_lt}
use lib.Dec.{ltb}
use lib.ListN.{length, get_or, take, drop, length-take, get_or-eq_default}
use lib.Seq.{get_or-take, get_or-drop}
use borrow.Author.Tests.{lt-ltb, le-ltb}
use Rattle.times.specs.TimeSets.{flag_in, value_at}

pub value_in : {A : Type 0} (xs : List A) (d : A) (from size v : ℕ) → get_or (take size (drop from xs)) v d ≡ (if ltb v size then get_or xs (from + v) d else d)
value_in xs d from size v = go (dec_lt v size)
  where
    go : Dec (v < size) → get_or (take size (drop from xs)) v d ≡ (if ltb v size then get_or xs (from + v) d else d)
    go (yes h) = rw (lt-ltb v size h) (get_or-take size (drop from xs) v d h ∙ get_or-drop from xs v d)
    go (no h) = rw (le-ltb v size (omega arith)) (get_or-eq_default (take size (drop from xs)) d {n = v} (omega (arith, length-take size (drop from xs))))

pub flag_is : (flags : List Bool) (from size v : ℕ) → get_or (take size (drop from flags)) v false ≡ flag_in flags from size v
flag_is flags from size v = value_in flags false from size v ∙ go (ltb v size)
  where
    go : (b : Bool) → (if b then get_or flags (from + v) false else false) ≡ (b && get_or flags (from + v) false)
    go true = refl
    go false = refl

pub value_is : (coarser : Bool) (lists : List ℕ) (from size j fixed : ℕ)
    → (if coarser then get_or (take size (drop from lists)) j 0 else fixed) ≡ value_at coarser lists from size j fixed
value_is true lists from size j fixed = value_in lists 0 from size j
value_is false lists from size j fixed = refl
