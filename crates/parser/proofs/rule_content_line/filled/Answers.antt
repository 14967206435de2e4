-- `parser::rule_content_line::filled` meets its contract.
-- Assumes nothing.
use mathlib.Core.Path.{sym, ◌∙◌}
use lib.ListN.{get_or, length-map}
use Rattle.recur.specs.Grammar.{day_entries, as_days, nth_of}
use Rattle.recur.specs.Shown.{slots_of}
use Rattle.parser.specs.Values.{value_by, rule_at}
use Rattle.parser.proofs.FillLaws.{outline_is, lists_are}
use Rattle.parser.proofs.rule_content_line.filled.Goals as goal

pub returns : goal.returns
unfolding rule_at
returns c =
    let a = c.args in
    let w = rule_at a.places a.text.now in
    let months = c.fill_list.ensures in
    let days = c.fill_list-2.ensures in
    let year_days = c.fill_list-3.ensures in
    let weeks = c.fill_list-4.ensures in
    let week_days = c.fill_byday.ensures in
    let hours = c.fill_list-5.ensures in
    let minutes = c.fill_list-6.ensures in
    let seconds = c.fill_list-7.ensures in
    let positions = c.fill_list-8.ensures in (
      outline_is w c.freq_in.ensures c.interval_in.ensures c.count_in.ensures c.until_in.ensures c.wkst_in.ensures
          months.1 days.1 year_days.1 weeks.1
          (week_days.2 ∙ sym (length-map (as_days (value_by day_entries (get_or a.places 9 0) a.text.now)) nth_of))
          hours.1 minutes.1 seconds.1 positions.1,
      lists_are w.lists (slots_of a.slots.now) months.0 days.0 year_days.0 weeks.0 week_days.0 week_days.1
          hours.0 minutes.0 seconds.0 positions.0,
    )
