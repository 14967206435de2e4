-- `days::iterinfo::year_days` meets its contract.
-- Assumes nothing.
use Rattle.plain.proofs.Filling.{Filling}
use Rattle.days.specs.Filters.{yearday_at}
use Rattle.days.specs.DaySets.{year_days}
use Rattle.days.proofs.iterinfo.year_days.Given as goal

abbrev pub invariant-loop-place : goal.invariant-loop-place
invariant-loop-place l =
    Filling (yearday_at l.info.year.long l.info.year.nextlong l.rule.byyearday) l.end (year_days l.info.year.long l.info.year.nextlong l.rule.byyearday l.from l.end) l.initial.days l.days l.found l.place
