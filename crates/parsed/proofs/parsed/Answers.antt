-- `parsed::parsed` meets its contract: a text that is read has its entries in the lists, which are long enough.
-- Assumes nothing.
use Rattle.std.proofs.Common.{rules}
use Rattle.parsed.proofs.OutlineLaws.{parsed_unread, long_enough, parsed_refused, parsed_accepted}
use Rattle.parsed.proofs.parsed.Goals as goal

pub returns-in_err-outline : goal.returns-in_err-outline
returns-in_err-outline c =
    let unread = parsed_unread c.args.text.now _ c.args.start c.in_err-outline.ensures.0 in
    search (rules, unread)

pub check_outline-requires : goal.check_outline-requires
check_outline-requires c =
    long_enough _ _ _ _ c.empty_slots-slots.ensures c.in_ok-outline.ensures.0 c.in_ok-outline.ensures.1

pub returns-in_err-check_outline : goal.returns-in_err-check_outline
returns-in_err-check_outline c =
    let refused =
    parsed_refused _ _ _ _ c.empty_slots-slots.ensures c.in_ok-outline.ensures.0 c.in_ok-outline.ensures.1 _ _ c.in_err-check_outline.ensures in
    search (rules, refused)

pub returns : goal.returns
returns c =
    parsed_accepted _ _ _ _ c.empty_slots-slots.ensures c.in_ok-outline.ensures.0 c.in_ok-outline.ensures.1 _ _ c.in_ok-check_outline.ensures
