-- `opening::period::none_kept` meets its contract.
-- Assumes nothing.
use mathlib.Core.Path.{refl}
use Rattle.opening.specs.Opening.{no_period}
use Rattle.opening.proofs.period.none_kept.Goals as goal

pub returns : goal.returns
unfolding no_period
returns c = refl
