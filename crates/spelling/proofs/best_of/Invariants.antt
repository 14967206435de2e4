-- `spelling::best_of` meets its contract: what all words come to is what the rest of them does behind the best match so far.
-- Assumes nothing.
use Prim.Native.Nat.{◌+◌, ◌≤◌}
use mathlib.Core.Path.{◌≡◌}
use mathlib.Core.List.{map}
use lib.ListN.{length, drop}
use Rattle.std.specs.Prelude.{None}
use Rattle.symbols.specs.Readers.{best}
use Rattle.recur.specs.Places.{used_by}
use Rattle.spelling.proofs.OfferLaws.{chosen_from}
use Rattle.spelling.proofs.best_of.Given as goal

abbrev pub invariant-loop-which : goal.invariant-loop-which
invariant-loop-which l =
    (l.at + l.best.count ≤ length l.text)
    × (chosen_from (map (λ w. w.now) l.words) (used_by l.places) (drop l.at l.text) 0 (best None 0)
    ≡ chosen_from (map (λ w. w.now) l.words) (used_by l.places) (drop l.at l.text) l.which l.best)
