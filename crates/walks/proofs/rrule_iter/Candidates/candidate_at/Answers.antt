-- `walks::rrule_iter::Candidates::candidate_at` meets its contract.
-- Assumes nothing.
use mathlib.Core.Path.{◌≡◌, sym, ◌∙◌}
use mathlib.Core.Bool.{true, false}
use Rattle.walks.specs.Walks.{is_framed, candidate_at}
use Rattle.walks.proofs.Walkable.{year_kept}
use Rattle.walks.proofs.rrule_iter.Candidates.candidate_at.Goals as goal
use Rattle.walks.proofs.rrule_iter.Candidates.candidate_at.Goals.{Else-not-is_framed}

-- behind the guard the frame is small
small : (c : Else-not-is_framed) → is_framed c.args.self.now.frame ≡ true
small c = sym c.is_framed.ensures ∙ c.if-not-is_framed.false

pub returns-then-not-is_framed : goal.returns-then-not-is_framed
unfolding candidate_at
returns-then-not-is_framed c =
    let e : is_framed c.args.self.now.frame ≡ false = sym c.is_framed.ensures ∙ c.if-not-is_framed.true in
    rw (e, candidate_at)

pub returns : goal.returns
unfolding candidate_at
returns c =
    let a = c.args.self.now in
    rw (small (goal.at.returns c).Else-not-is_framed, candidate_at)
    (c.second_at.ensures ∙ year_kept a.frame a.days.now a.lists.now c.args.number (small (goal.at.returns c).Else-not-is_framed))
