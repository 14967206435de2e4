-- `comma_lists::store` meets its contract: a store past the end changes nothing.
-- Assumes nothing.
use native.Mathlib.Omega.{arith}
use mathlib.Core.Path.{sym}
use lib.Seq.{set_out}
use Rattle.comma_lists.proofs.store.Goals as goal

pub returns-else-slot-list : goal.returns-else-slot-list
returns-else-slot-list c = sym (set_out _ _ _ (omega arith))
