-- `numerals::entry_at` meets its contract.
-- Assumes nothing.
use Rattle.std.specs.Prelude.{Result}
use Prim.Native.Nat.{ℕ}
use mathlib.Core.Path.{sym, ap, ◌∙◌}
use mathlib.Core.Bool.{Bool}
use lib.ListN.{drop}
use Rattle.symbols.specs.Readers.{digits}
use Rattle.symbols.specs.Counts.{three}
use Rattle.recur.specs.declared.Symbol.{Symbol}
use Rattle.recur.specs.Reading.{entry_at}
use Rattle.recur.specs.Shown.{shown}
use Rattle.numerals.specs.Bytes.{entry_of}
use Rattle.numerals.proofs.SignLaws.{sized}
use Rattle.numerals.proofs.entry_at.Goals as goal

pub returns-then-signs : goal.returns-then-signs
unfolding entry_at
returns-then-signs c =
    let a = c.args in
    c.signed_at.ensures ∙ ap (λ (signs : Bool). shown (entry_at signs a.at (drop a.at a.text.now))) (sym c.if-signs.true)

pub returns : goal.returns
unfolding entry_at
returns c =
    let a = c.args in
    c.as_entry.ensures ∙ ap (λ (k : Result (Symbol ℕ) ℕ). entry_of _ k) c.three_at.ensures.value
    ∙ sized _ (digits (three 0) 0 0 a.at (drop a.at a.text.now))
    ∙ ap (λ (signs : Bool). shown (entry_at signs a.at (drop a.at a.text.now))) (sym c.if-signs.false)
