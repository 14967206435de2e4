-- `comma_lists::entries_at` meets its contract.
-- Assumes nothing.
use mathlib.Core.Path.{ap, ◌∙◌}
use mathlib.Core.List.{List}
use lib.ListN.{drop}
use lib.IntN.{ℤ}
use Rattle.symbols.specs.Takes.{Took}
use Rattle.recur.specs.Shown.{stopped}
use Rattle.comma_lists.proofs.ListLaws.{list_of_entries}
use Rattle.comma_lists.proofs.entries_at.Goals as goal

pub returns : goal.returns
returns c =
    let a = c.args in
    c.list_at.ensures ∙ ap (λ (k : Took (List ℤ)). stopped k) (list_of_entries a.signs 748 a.at (drop a.at a.text.now))
