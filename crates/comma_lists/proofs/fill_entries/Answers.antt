-- `comma_lists::fill_entries` meets its contract.
-- Assumes nothing.
use mathlib.Core.Path.{ap, ◌∙◌}
use mathlib.Core.List.{List}
use lib.ListN.{length, drop}
use lib.Seq.{sets}
use lib.IntN.{ℤ}
use Rattle.symbols.specs.Takes.{Took}
use Rattle.comma_lists.proofs.ListLaws.{list_of_entries}
use Rattle.comma_lists.proofs.fill_entries.Goals as goal

pub fill-requires : goal.fill-requires
fill-requires c =
    let a = c.args in
    (c.requires.0, ap (λ (k : Took (List ℤ)). k.whole) (list_of_entries a.signs 748 a.at (drop a.at a.text.now)) ∙ c.requires.1)

pub returns : goal.returns
returns c =
    let a = c.args in
    let e = list_of_entries a.signs 748 a.at (drop a.at a.text.now) in
    (c.fill.ensures.0 ∙ ap (λ (k : Took (List ℤ)). sets a.list.now 0 k.value) e, c.fill.ensures.1 ∙ ap (λ (k : Took (List ℤ)). length k.value) e)
