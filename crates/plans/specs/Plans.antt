-- What a call needs of its rule.
-- Assumes nothing.
use Rattle.std.specs.Prelude.{ℕ, not, ltb, if◌then◌else◌, Option, Some, None}
use Rattle.rule.specs.declared.rrule.Rule.{Rule}
use Rattle.rule.specs.Instants.{last_instant, second}
use Rattle.rule.specs.Lists.{is_empty}
use Rattle.years.specs.Info.{asked_of, counts_in_year}
use Rattle.clocks.specs.Clocks.{clock_in, sets_in}
use Rattle.walks.specs.declared.rrule_iter.Bounds.{Bounds}
use Rattle.plans.specs.declared.plan.Plan.{Plan}
use Rattle.plans.specs.declared.plan.Shape.{Shape}

-- what the opening of a period asks
unfoldable pub shape_of : Rule → Shape
unfolding asked_of counts_in_year is_empty sets_in
shape_of r = record {
  freq = r.freq;
  wkst = r.wkst;
  asked = asked_of r;
  inyear = counts_in_year r;
  positioned = not (is_empty r.bysetpos);
  counts = (sets_in r).counts;
}

-- a plan from the start and UNTIL as seconds
unfoldable pub plan_from : Rule → ℕ → Option ℕ → Plan
unfolding shape_of clock_in sets_in
plan_from r start until = record {
  shape = shape_of r;
  interval = r.interval;
  clock = clock_in r;
  lists = (sets_in r).lists;
  bounds = record { start = start; until = until; count = r.count };
}

-- UNTIL as a second
abbrev pub until_second : Option ℕ → Option ℕ
until_second None = None
until_second (Some t) = Some (second t)

unfoldable pub bounds_of : Rule → Bounds
bounds_of r = record { start = second r.start; until = until_second r.until; count = r.count }

unfoldable pub plan_of : Rule → Plan
unfolding plan_from
plan_of r = plan_from r (second r.start) (until_second r.until)

-- The same of any record: an instant out of range counts as the second 0.
unfoldable pub second_in : ℕ → ℕ
second_in t = if ltb last_instant t then 0 else second t

abbrev pub until_in : Option ℕ → Option ℕ
until_in None = None
until_in (Some t) = Some (second_in t)

unfoldable pub plan_in : Rule → Plan
unfolding plan_from second_in
plan_in r = plan_from r (second_in r.start) (until_in r.until)
