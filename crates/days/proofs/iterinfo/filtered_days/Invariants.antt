-- `days::iterinfo::filtered_days` meets its contract.
-- Assumes nothing.
use Rattle.plain.proofs.Filling.{Filling}
use Rattle.days.specs.Filters.{rule_lists, place_passes}
use Rattle.days.specs.DaySets.{day_set}
use Rattle.days.proofs.iterinfo.filtered_days.Given as goal

abbrev pub invariant-loop-place : goal.invariant-loop-place
invariant-loop-place l =
    Filling (place_passes l.asked l.info (rule_lists l.rule)) l.stop
    (day_set l.asked l.info (rule_lists l.rule) l.from l.to) l.initial.days l.days l.count l.place
