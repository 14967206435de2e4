-- The whole text, from what isn't a list, the lists of days and those of times.
-- Assumes nothing.
use Prim.Native.Nat.{ℕ}
use mathlib.Core.Path.{◌≡◌, refl, sym, ◌∙◌}
use mathlib.Core.List.{List, ◌++◌, append_assoc}
use Rattle.rule.specs.Raw.{RawLists, Raw}
use Rattle.recur.specs.Writing.{paired, day_part, list_parts, text_of}
use Rattle.recur.specs.Pieces.{parts_behind}
use Rattle.recur.proofs.WrittenPieces.{text_lists, text_pieces}
use Rattle.display.specs.Parts.{head_bytes, day_bytes, time_bytes}
use Rattle.display.proofs.PartLaws.{list_part_lem}

-- one part behind another, each said otherwise
beside : {a b c d : List ℕ} → a ≡ b → c ≡ d → a ++ c ≡ b ++ d
beside e f = cc

lists_are : (l : RawLists) → day_bytes l ++ time_bytes l ≡ parts_behind (list_parts l)
lists_are l =
    let pairs = parts_behind (day_part (paired l.bydayn l.bydayw)) in
    simp append_assoc
    (beside (list_part_lem 5 l.bymonth) (beside (list_part_lem 6 l.bymonthday) (beside (list_part_lem 7 l.byyearday) (beside (list_part_lem 8 l.byweekno)
    (beside {a = pairs} refl (beside (list_part_lem 10 l.byhour) (beside (list_part_lem 11 l.byminute) (beside (list_part_lem 12 l.bysecond)
    (list_part_lem 13 l.bysetpos))))))))
    ∙ sym (text_lists l))

pub whole : (w : Raw) → head_bytes w ++ (day_bytes w.lists ++ time_bytes w.lists) ≡ text_of w
whole w = rw (lists_are w.lists) (simp append_assoc (sym (text_pieces w)))
