-- `comma_lists::list_at` meets its contract: the list stops where what is still to be read of it stops.
-- Assumes nothing.
use Rattle.std.proofs.Common.{rules}
use native.Mathlib.Omega.{arith}
use mathlib.Core.Path.{refl}
use Rattle.comma_lists.proofs.ListLaws.{lists, seen}
use Rattle.comma_lists.proofs.StopLaws.{stops_first, stops_on, stops_off, stops_last, stops_short}
use Rattle.comma_lists.proofs.list_at.Goals as goal

pub loop-read-init : goal.loop-read-init
loop-read-init g c = stops_first _ _ _ _ (omega arith) refl

pub read-requires : goal.read-requires
read-requires g c = c.loop-read.invariant.inside

pub returns-in_err-entry : goal.returns-in_err-entry
returns-in_err-entry g c =
    let stopped = stops_short (lists _ (g.met.E.Entries.within c.args.entries.now)) c.loop-read.invariant c.in_err-entry.ensures in
    search (rules, stopped)

pub returns-then-not-is_at : goal.returns-then-not-is_at
returns-then-not-is_at g c =
    let r = lists _ (g.met.E.Entries.within c.args.entries.now) in
    stops_off r c.loop-read.invariant (seen _ _ _ c.in_ok-entry.ensures) refl c.is_at.ensures c.if-not-is_at.true

pub loop-read-preserved : goal.loop-read-preserved
loop-read-preserved g c =
    let r = lists _ (g.met.E.Entries.within c.args.entries.now) in
    stops_on r c.loop-read.invariant (seen _ _ _ c.in_ok-entry.ensures) c.is_at.ensures c.if-not-is_at.false _ (omega arith)

pub read-requires-2 : goal.read-requires-2
read-requires-2 g c = c.loop-read.invariant.inside

pub returns-in_err-last : goal.returns-in_err-last
returns-in_err-last g c =
    let stopped = stops_short (lists _ (g.met.E.Entries.within c.args.entries.now)) c.loop-read.invariant c.in_err-last.ensures in
    search (rules, stopped)

pub returns : goal.returns
returns g c =
    let r = lists _ (g.met.E.Entries.within c.args.entries.now) in
    stops_last r c.loop-read.invariant (seen _ _ _ c.in_ok-last.ensures) refl (omega arith)
