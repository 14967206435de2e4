-- `display::parts::put_day` meets its contract.
-- Assumes nothing.
use Prim.Native.Nat.{ℕ}
use mathlib.Core.List.{◌++◌}
use mathlib.Core.Path.{◌≡◌, sym, ap, ◌∙◌}
use lib.IntN.{ℤ}
use mir.Syntax.{w16}
use mir.ValLaws.{to_z-of_z}
use mir.Val.{to_z, of_z}
use Rattle.symbols.specs.Languages.{both, word_at}
use Rattle.recur.specs.Grammar.{weekday_names}
use Rattle.recur.specs.Writing.{nth_text, day_text, weekday_number}
use Rattle.puts.proofs.PutLaws.{put_of, room_of, first_room, next_room, put_both}
use Rattle.display.proofs.DayLaws.{day_parts}
use Rattle.display.proofs.parts.put_day.Goals.{Start}
use Rattle.display.proofs.parts.put_day.Goals as goal

by_nth : (c : Start)
    → nth_text (to_z w16 (of_z w16 c.args.nth)) ++ word_at weekday_names (weekday_number c.args.weekday)
    ≡ day_text (both c.args.nth (weekday_number c.args.weekday))
by_nth c =
    ap (λ (n : ℤ). nth_text n ++ word_at weekday_names (weekday_number c.args.weekday)) (to_z-of_z w16 _ c.ranges.nth)
    ∙ day_parts c.args.nth (weekday_number c.args.weekday)

by_weekday : (c : Start) (w : ℕ) → w ≡ weekday_number (to_z w16 (of_z w16 c.args.weekday))
    → word_at weekday_names (weekday_number c.args.weekday) ≡ word_at weekday_names w
by_weekday c w e = ap (word_at weekday_names) (ap weekday_number (sym (to_z-of_z w16 _ c.ranges.weekday)) ∙ sym e)

pub put_nth-requires : goal.put_nth-requires
put_nth-requires c = first_room _ (by_nth (goal.at.put_nth-requires c).Start) c.requires

pub put_weekday-requires : goal.put_weekday-requires
put_weekday-requires c =
    let start = (goal.at.put_weekday-requires c).Start in
    room_of (by_weekday start _ c.weekday_number.ensures) (next_room (by_nth start) c.requires c.put_nth.ensures)

pub returns : goal.returns
returns c =
    let start = (goal.at.returns c).Start in
    put_both (by_nth start) c.put_nth.ensures (put_of (sym (by_weekday start _ c.weekday_number.ensures)) c.put_weekday.ensures)
