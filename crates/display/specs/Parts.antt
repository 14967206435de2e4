-- A rule's text by its pieces, as they are put one behind the other.
-- Assumes nothing.
use Rattle.std.specs.Prelude.{ℕ, ◌≡◌, List, [], ◌∷◌, ◌++◌, length, eqb, ℤ}
use Rattle.rule.specs.Raw.{RawLists, Raw}
use Rattle.symbols.specs.Languages.{both, word_at}
use Rattle.recur.specs.Grammar.{names, number}
use Rattle.recur.specs.Writing.{signed_text, part_text, unless, count_part, until_part, paired, day_part, Written, fitted, left_by}
use Rattle.recur.specs.Pieces.{parts_behind, entries_behind}

-- a list behind its name, which a semicolon is part of; nothing where the list is empty
abbrev pub list_bytes : List ℕ → List ℤ → List ℕ
list_bytes name [] = []
list_bytes name (v ∷ vs) = name ++ (signed_text v ++ entries_behind signed_text vs)

-- FREQ, and what isn't a list
abbrev pub head_bytes : Raw → List ℕ
head_bytes w =
    part_text (both 0 (number w.freq))
    ++ (parts_behind (unless (eqb w.interval 1) (both 1 (number w.interval)))
    ++ (parts_behind (count_part w.count)
    ++ (parts_behind (until_part w.until)
    ++ parts_behind (unless (eqb w.wkst 0) (both 4 (number w.wkst))))))

-- the lists of months, days and weeks
abbrev pub day_bytes : RawLists → List ℕ
day_bytes l =
    list_bytes (59 ∷ word_at names 5) l.bymonth
    ++ (list_bytes (59 ∷ word_at names 6) l.bymonthday
    ++ (list_bytes (59 ∷ word_at names 7) l.byyearday
    ++ (list_bytes (59 ∷ word_at names 8) l.byweekno
    ++ parts_behind (day_part (paired l.bydayn l.bydayw)))))

-- the lists of hours, minutes and seconds, and the positions
abbrev pub time_bytes : RawLists → List ℕ
time_bytes l =
    list_bytes (59 ∷ word_at names 10) l.byhour
    ++ (list_bytes (59 ∷ word_at names 11) l.byminute
    ++ (list_bytes (59 ∷ word_at names 12) l.bysecond
    ++ list_bytes (59 ∷ word_at names 13) l.bysetpos))

-- A text is written to the first bytes of a buffer, if it has room for it; else the buffer is left as it was.
pub record FittedIn (bytes buffer left : List ℕ) (told : Written) : Type 0 where
  pub answer : told ≡ fitted (length bytes) (length buffer)
  pub stands : left ≡ left_by (fitted (length bytes) (length buffer)) bytes buffer
