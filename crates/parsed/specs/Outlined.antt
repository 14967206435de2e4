-- The rule of an outline: of each list as many entries as the outline says.
-- Assumes nothing.
use Rattle.std.specs.Prelude.{ℕ, ◌≤◌, ◌≡◌, length, take}
use Rattle.rule.specs.Raw.{RawLists, Raw, raw, raw_lists}
use Rattle.recur.specs.declared.Outline.{Outline}

-- lists of 749 slots
pub record Full (l : RawLists) : Type 0 where
  pub bymonth : length l.bymonth ≡ 749
  pub bymonthday : length l.bymonthday ≡ 749
  pub byyearday : length l.byyearday ≡ 749
  pub byweekno : length l.byweekno ≡ 749
  pub bydayn : length l.bydayn ≡ 749
  pub bydayw : length l.bydayw ≡ 749
  pub byhour : length l.byhour ≡ 749
  pub byminute : length l.byminute ≡ 749
  pub bysecond : length l.bysecond ≡ 749
  pub bysetpos : length l.bysetpos ≡ 749

-- the lists are long enough
pub record LongEnough (o : Outline) (l : RawLists) : Type 0 where
  pub bymonth : o.bymonth ≤ length l.bymonth
  pub bymonthday : o.bymonthday ≤ length l.bymonthday
  pub byyearday : o.byyearday ≤ length l.byyearday
  pub byweekno : o.byweekno ≤ length l.byweekno
  pub bydayn : o.byday ≤ length l.bydayn
  pub bydayw : o.byday ≤ length l.bydayw
  pub byhour : o.byhour ≤ length l.byhour
  pub byminute : o.byminute ≤ length l.byminute
  pub bysecond : o.bysecond ≤ length l.bysecond
  pub bysetpos : o.bysetpos ≤ length l.bysetpos

unfoldable pub rule_with : Outline → ℕ → RawLists → Raw
rule_with o start l =
    raw o.freq o.interval o.count o.until o.wkst start
    (raw_lists (take o.bymonth l.bymonth) (take o.bymonthday l.bymonthday) (take o.byyearday l.byyearday) (take o.byweekno l.byweekno)
    (take o.byday l.bydayn) (take o.byday l.bydayw) (take o.byhour l.byhour)
    (take o.byminute l.byminute) (take o.bysecond l.bysecond) (take o.bysetpos l.bysetpos))
