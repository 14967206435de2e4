-- `display::rrule::write` meets its contract.
-- Assumes nothing.
use Rattle.std.proofs.Common.{rules, ◌≡◌, Ok, Err, sym}
use Rattle.rule.specs.Raw.{raw_of}
use Rattle.rule.specs.Refusals.{verdict}
use Rattle.recur.specs.declared.Unwritten.{Unwritten}
use Rattle.display.proofs.FitLaws.{told_refused, told_accepted}
use Rattle.display.proofs.rrule.write.Goals as goal

pub returns-in_err-verdict_of : goal.returns-in_err-verdict_of
returns-in_err-verdict_of c =
    let e : c.from_residual.result ≡ Err (Unwritten.Refused c.in_err-verdict_of.field-0.0) = search rules in
    rw e (told_refused (raw_of c.args.given.now 0) _ c.args.text.now (sym c.in_err-verdict_of.ensures))

pub returns : goal.returns
returns c =
    let accepted : verdict (raw_of c.args.given.now 0) ≡ Ok tt = sym c.in_ok-verdict_of.ensures in
    told_accepted (raw_of c.args.given.now 0) _ _ _ accepted c.write_fitting.ensures
