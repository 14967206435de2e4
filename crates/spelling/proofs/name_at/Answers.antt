-- `spelling::name_at` meets its contract.
-- Assumes nothing.
use mathlib.Core.Path.{ap, ◌∙◌}
use mathlib.Core.List.{[]}
use Rattle.symbols.specs.declared.Best.{Best}
use Rattle.symbols.specs.Readers.{chosen, word}
use Rattle.recur.specs.Grammar.{none_used}
use Rattle.recur.specs.Shown.{shown}
use Rattle.spelling.proofs.name_at.Goals as goal

pub returns : goal.returns
unfolding word none_used
returns c = c.reached.ensures ∙ ap (λ (k : Best). shown (chosen k c.args.at [])) c.best_of.ensures.is
