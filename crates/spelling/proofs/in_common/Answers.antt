-- `spelling::in_common` meets its contract.
-- Assumes nothing.
use Rattle.std.proofs.Common.{rules, tests}
use Prim.Native.Nat.{ℕ, ◌-◌}
use native.Mathlib.Omega.{arith}
use mathlib.Core.Path.{◌≡◌, sym, ap, ◌∙◌}
use lib.ListN.{length, take, drop, length-drop}
use lib.Seq.{take-length}
use Rattle.std.specs.List.{zip}
use Rattle.std.proofs.lemmas.Iterator.{YieldsList-from_slice, YieldsList-from_zip}
use Rattle.std.proofs.lemmas.Iterator.Consumers.{count_from_yields_List}
use Rattle.std.proofs.lemmas.Iterator.Search.{YieldsList-from_take_while}
use Rattle.std.proofs.lemmas.List.Folds.{length-prefix_len}
use Rattle.symbols.specs.Readers.{common}
use Rattle.spelling.proofs.CommonLaws.{alike, as_common, common_within}
use Rattle.spelling.proofs.in_common.Goals as goal

pub returns : goal.returns
returns c =
    let w = c.args.word.now in
    let t = drop c.args.at c.args.text.now in
    let l : length t ≡ length c.args.text.now - c.args.at = length-drop c.args.at c.args.text.now in
    let rest : c.take_while.result.iter.b.rest.now ≡ t =
    ap (λ z. z.b.rest.now) c.take_while.ensures.source ∙ c.zip.ensures.second.0 ∙ ap (λ (n : ℕ). take n t) (sym l) ∙ take-length t in
    let n : c.count.result ≡ common w t =
    count_from_yields_List c.take_while.result _ c.count.ensures.ran
    (YieldsList-from_take_while _ alike (YieldsList-from_zip (YieldsList-from_slice w (cc)) (YieldsList-from_slice t rest))
    c.take_while.ensures.closure c.take_while.ensures.done (λ x b q k. search (rules, tests)))
    ∙ length-prefix_len alike (zip w t) ∙ as_common w t in
    record { is = n; within = omega (arith, common_within w t) }
