-- `numerals::as_entry` meets its contract.
-- Assumes nothing.
use lib.IntN.{ℤ}
use mathlib.Core.Path.{sym, ap, ◌∙◌}
use mir.Syntax.{w16}
use mir.Val.{to_z, of_z}
use Rattle.std.specs.Prelude.{Ok}
use Rattle.std.proofs.Common.{rules}
use Rattle.numerals.specs.Bytes.{entry_of}
use Rattle.numerals.proofs.SizeLaws.{kept}
use Rattle.numerals.proofs.as_entry.Goals as goal

pub returns-in_err-size : goal.returns-in_err-size
unfolding entry_of
returns-in_err-size c = search rules

pub returns : goal.returns
unfolding entry_of
returns c =
    let size = c.in_ok-size.size in
    ap (λ (z : ℤ). Ok (record { place = size.place; value = z }))
    (ap (λ (z : ℤ). to_z w16 (of_z w16 z)) c.signed.ensures ∙ kept c.args.negative size.value (search rules))
    ∙ sym (ap (entry_of c.args.negative) c.in_ok-size.was)
