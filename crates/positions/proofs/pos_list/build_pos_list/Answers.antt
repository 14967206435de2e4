-- `positions::pos_list::build_pos_list` meets its contract: one stretch, or the first and the last.
-- Assumes nothing.
use Rattle.std.proofs.Common.{rules, ◌∙◌}
use native.Mathlib.Omega.{arith}
use Rattle.positions.proofs.PlaceLaws.{length_within, one_written, two_written}
use Rattle.positions.proofs.pos_list.build_pos_list.Goals as goal

pub returns-then-n-le366 : goal.returns-then-n-le366
returns-then-n-le366 c =
    let a = c.args in
    let w = one_written a.bysetpos.now a.n a.places.now c.put_chosen.new.places c.put_chosen.result
    c.put_chosen.ensures.value c.put_chosen.ensures.places_after in record { value = w.0; places_after = w.1 }

pub put_chosen-requires-2 : goal.put_chosen-requires-2
put_chosen-requires-2 c =
    let a = c.args in
    (search rules, omega (arith, length_within a.bysetpos.now a.n 0 366, c.put_chosen-count.ensures.value, c.max.ensures))

pub returns : goal.returns
returns c =
    let a = c.args in
    let w = two_written a.bysetpos.now a.n
    a.places.now c.put_chosen-count.new.places c.put_chosen-2.new.places
    c.put_chosen-count.result c.max.result c.put_chosen-2.result
    (search rules) (c.max.ensures ∙ omega arith) c.put_chosen-count.ensures.value c.put_chosen-count.ensures.places_after c.put_chosen-2.ensures.value c.put_chosen-2.ensures.places_after in record { value = w.0; places_after = w.1 }
