-- Which instants satisfy a rule.
-- Assumes nothing.
use Rattle.std.specs.Prelude.{ℕ, ◌≤◌, Option, Some, None}
use Rattle.rule.specs.declared.rrule.Rule.{Rule}
use Rattle.rule.specs.Instants.{second, last_instant}
use Rattle.rule.specs.Candidates.{Kept}

abbrev pub NotAfter : Option ℕ → ℕ → Type 0
NotAfter None t = Unit {0}
NotAfter (Some u) t = t ≤ u

-- An instant satisfies the rule if it is a kept candidate of some period k, is not before the start and not after UNTIL.
pub record Satisfies (r : Rule) (t : ℕ) : Type 0 where
  pub instant : t ≤ last_instant
  pub k : ℕ
  pub kept : Kept r k (second t)
  pub from_start : r.start ≤ t
  pub to_until : NotAfter r.until t
