-- `spelling::best_of` meets its contract: what all words come to is what the rest of them does behind the best match so far.
-- Assumes nothing.
use native.Mathlib.Omega.{arith}
use mathlib.Core.Path.{◌≡◌, sym, ◌∙◌}
use mathlib.Core.List.{map}
use lib.ListN.{length, length-map}
use Rattle.spelling.proofs.OfferLaws.{all_words, no_word_left, found_stays, lent_more}
use Rattle.spelling.proofs.best_of.Goals as goal

pub returns-then-is_some : goal.returns-then-is_some
returns-then-is_some c = record {
  is = sym (
      sym (all_words _ _ _) ∙ c.loop-which.invariant.1
      ∙ lent_more (λ w. w.now) c.args.words.now _ _ _ _ _ _ (omega arith) (omega arith) c.offered-best.ensures.is
      ∙ found_stays _ _ _ _ _ (sym c.is_some.ensures ∙ c.if-is_some.true)
      );
  within = c.offered-best.ensures.within;
}

pub loop-which-preserved : goal.loop-which-preserved
loop-which-preserved c = (
  c.offered-best.ensures.within,
  c.loop-which.invariant.1 ∙ lent_more (λ w. w.now) c.args.words.now _ _ _ _ _ _ (omega arith) (omega arith) c.offered-best.ensures.is,
)

pub returns : goal.returns
returns c =
    let n : length (map (λ w. w.now) c.args.words.now) ≡ length c.args.words.now = length-map c.args.words.now (λ w. w.now) in
    record {
      is = sym (sym (all_words _ _ _) ∙ c.loop-which.invariant.1 ∙ no_word_left _ _ _ _ _ (omega arith));
      within = omega arith;
    }
