-- `display::parts::put_more_days` meets its contract: what is left to put completes the entries.
-- Assumes nothing.
use Rattle.std.proofs.Common.{rules, ◌≡◌, ℤ, Iter}
use mathlib.Core.Path.{refl}
use mir.Syntax.{w16}
use mir.Val.{to_z, of_z}
use Rattle.puts.proofs.PutLaws.{first_room, next_room, left_room, left_next, left_none}
use Rattle.display.proofs.DayLaws.{day_next, days_over}
use Rattle.display.proofs.parts.put_more_days.Goals as goal

pub put_byte-requires : goal.put_byte-requires
put_byte-requires c =
    let some = c.in-Some in
    first_room _ (day_next some.nth.now some.weekday.now refl refl some.ensures.steps.0 some.ensures.steps.1) (left_room c.loop-nth.invariant c.requires)

pub put_day-requires : goal.put_day-requires
put_day-requires c =
    let some = c.in-Some in
    let n : to_z w16 (of_z w16 some.nth.now) ≡ some.nth.now = search rules in
    let w : to_z w16 (of_z w16 some.weekday.now) ≡ some.weekday.now = search rules in
    first_room _ refl
    (next_room (day_next _ _ n w some.ensures.steps.0 some.ensures.steps.1) (left_room c.loop-nth.invariant c.requires) c.put_byte.ensures)

pub loop-nth-preserved : goal.loop-nth-preserved
loop-nth-preserved c =
    let some = c.in-Some in
    let n : to_z w16 (of_z w16 some.nth.now) ≡ some.nth.now = search rules in
    let w : to_z w16 (of_z w16 some.weekday.now) ≡ some.weekday.now = search rules in
    left_next (left_next c.loop-nth.invariant _ (day_next _ _ n w some.ensures.steps.0 some.ensures.steps.1) c.put_byte.ensures) _ refl c.put_day.ensures

pub returns : goal.returns
returns c =
    let s = c.loop-nth.nth-iterator in
    left_none c.loop-nth.invariant (days_over {I = Iter ℤ} {P = λ x. x ≡ s.a} {Q = λ x. x ≡ s.b} s.a.rest.now s.b.rest.now c.in-None.ensures.steps)
