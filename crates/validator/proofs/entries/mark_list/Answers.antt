-- `validator::entries::mark_list` meets its contract: the set that the whole list marks is what the rest of the list marks.
-- Assumes nothing.
use Rattle.std.proofs.Common.{rules, ◌≡◌, refl, sym, ap, ◌∙◌, Bool, List, ◌+◌, pos, length, get_or, drop}
use Rattle.rule.specs.Entries.{marks}
use Rattle.rule.specs.Lists.{slot_of, mark}
use Rattle.rule.specs.Raw.{entries}
use Rattle.rule.proofs.EntryLaws.{mark_next, mark_done, length_mark}
use Rattle.validator.proofs.entries.mark_list.Goals as goal

pub loop-value-init : goal.loop-value-init
loop-value-init c = (search rules, refl, refl)

pub loop-value-preserved : goal.loop-value-preserved
loop-value-preserved c =
    let l = c.loop-value in
    let a = c.args in
    let e : c.mark_slot.new.flags ≡ mark l.flags (slot_of a.range (get_or a.list.now l.value-index (pos 0))) =
    c.mark_slot.ensures ∙ ap (mark l.flags) (search rules) in (
      search rules,
      ap length e ∙ length_mark l.flags (slot_of a.range (get_or a.list.now l.value-index (pos 0))) ∙ l.invariant.1,
      l.invariant.2 ∙ mark_next l.flags a.range a.list.now l.value-index (search rules)
          ∙ ap (λ (s : List Bool). marks s (entries a.range (drop (l.value-index + 1) a.list.now))) (sym e),
    )

pub returns : goal.returns
returns c =
    let l = c.loop-value in
    sym (l.invariant.2 ∙ mark_done l.flags c.args.range c.args.list.now l.value-index (search rules))
