-- `record_layout::flags::are_flags` meets its contract: what is left decides, if the highest byte so far is a flag.
-- Assumes nothing.
use Rattle.std.proofs.Common.{rules, ◌≡◌, refl, sym, ap, ◌∙◌, ℕ, ◌&&◌, leb, get_or}
use Rattle.edge.proofs.ByteLaws.{flags_next, flags_done, higher_is}
use Rattle.record_layout.proofs.flags.are_flags.Goals as goal

pub loop-byte-init : goal.loop-byte-init
loop-byte-init c = (search rules, refl)

pub loop-byte-preserved : goal.loop-byte-preserved
loop-byte-preserved c =
    let l = c.loop-byte in
    let bytes = c.args.bytes.now in
    let higher : leb c.max-highest.result 1 ≡ leb l.highest 1 && leb (get_or bytes l.byte-index 0) 1 =
    ap (λ (x : ℕ). leb x 1) c.max-highest.ensures ∙ higher_is l.highest (get_or bytes l.byte-index 0) in
    (search rules, l.invariant.1 ∙ flags_next l.highest c.max-highest.result bytes l.byte-index (search rules) higher)

pub returns : goal.returns
returns c =
    let l = c.loop-byte in
    sym (l.invariant.1 ∙ flags_done l.highest c.args.bytes.now l.byte-index (search rules))
