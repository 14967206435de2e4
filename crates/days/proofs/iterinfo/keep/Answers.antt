-- `days::iterinfo::keep` meets its contract.
-- Assumes nothing.
use mathlib.Core.Path.{refl}
use Rattle.days.proofs.iterinfo.keep.Goals as goal

pub returns-then-out : goal.returns-then-out
returns-then-out c = rw c.if-out.true record { count = refl; places = refl }

pub returns : goal.returns
returns c = rw c.if-out.false record { count = refl; places = refl }
