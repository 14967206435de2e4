-- `plans::plan::plan_of` meets its contract.
-- Assumes nothing.
use denote.Enum.Bare.{sameb}
use Rattle.std.proofs.Common.{◌≡◌, refl, ◌∙◌, Bool, true, false, not}
use Rattle.rule.specs.contracts.rrule.Frequency.{the_type}
use Rattle.rule.specs.declared.rrule.Frequency.{Frequency}
use Rattle.rule.specs.Filling.{same}
use Rattle.rule.specs.Lists.{is_empty}
use Rattle.years.specs.Info.{asked_of, counts_in_year}
use Rattle.clocks.specs.Clocks.{clock_in, sets_in}
use Rattle.plans.specs.Plans.{shape_of, plan_from, plan_in}
use Rattle.plans.proofs.plan.plan_of.Goals as goal

not_not : (b : Bool) → not (not b) ≡ b
not_not true = refl
not_not false = refl

-- the code's test for YEARLY is the definition's
is_yearly : (f : Frequency) → sameb the_type f Frequency.Yearly ≡ same f Frequency.Yearly
is_yearly Frequency.Yearly = refl
is_yearly Frequency.Monthly = refl
is_yearly Frequency.Weekly = refl
is_yearly Frequency.Daily = refl
is_yearly Frequency.Hourly = refl
is_yearly Frequency.Minutely = refl
is_yearly Frequency.Secondly = refl

pub returns : goal.returns
unfolding plan_in plan_from shape_of counts_in_year asked_of clock_in sets_in
returns c =
    let r = c.args.rule.now in
    let yearly : c.eq.result ≡ same r.freq Frequency.Yearly = c.eq.ensures ∙ is_yearly r.freq in
    rw (
      c.second_in.ensures,
      c.until_in.ensures,
      c.get_timeset-times.ensures,
      c.get_clock-clock.ensures,
      c.asked_lists-asked.ensures,
      yearly,
      c.is_empty.ensures,
      not_not (is_empty r.bymonth),
    )
