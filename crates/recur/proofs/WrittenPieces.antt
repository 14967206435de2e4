-- A rule's text by its pieces, in the order in which they are put: FREQ, and then each further part behind a semicolon.
-- Assumes nothing.
use Prim.Native.Nat.{ℕ}
use mathlib.Core.Path.{◌≡◌, refl, ap, sym, ◌∙◌}
use mathlib.Core.List.{List, [], ◌∷◌, ◌++◌, map, append_assoc, append-nil}
use lib.Dec.{eqb}
use lib.IntN.{ℤ}
use Rattle.rule.specs.Raw.{RawLists, Raw}
use Rattle.symbols.specs.Languages.{Both, both, word_at}
use Rattle.recur.specs.Grammar.{names, number, Part, kind_of}
use Rattle.recur.specs.Writing.{signed_text, day_text, joined_by, number_text, value_text, part_text, unless, count_part, until_part, list_part, paired}
use Rattle.recur.specs.Writing.{day_part, list_parts, parts_of, text_of}
use Rattle.recur.specs.Pieces.{parts_behind, entries_behind, rest_of}

pub behind_append : (ps qs : List Part) → parts_behind (ps ++ qs) ≡ parts_behind ps ++ parts_behind qs
unfolding parts_behind
behind_append [] qs = refl
behind_append (p ∷ ps) qs = rw (behind_append ps qs, append_assoc)

-- one part more
pub behind_one : (p : Part) → parts_behind (p ∷ []) ≡ 59 ∷ part_text p
unfolding parts_behind
behind_one p = ap (λ (l : List ℕ). 59 ∷ l) (append-nil (part_text p))

pub joined_parts : (p : Part) (ps : List Part) → joined_by 59 (map part_text (p ∷ ps)) ≡ part_text p ++ parts_behind ps
unfolding joined_by parts_behind
joined_parts p [] = sym (append-nil (part_text p))
joined_parts p (q ∷ qs) = ap (λ (l : List ℕ). part_text p ++ 59 ∷ l) (joined_parts q qs)

pub joined_entries : {A : Type 0} (f : A → List ℕ) (v : A) (vs : List A) → joined_by 44 (map f (v ∷ vs)) ≡ f v ++ entries_behind f vs
unfolding joined_by entries_behind
joined_entries f v [] = sym (append-nil (f v))
joined_entries f v (u ∷ us) = ap (λ (l : List ℕ). f v ++ 44 ∷ l) (joined_entries f u us)

-- a part with one value, a list's part, and BYDAY's
pub number_part : (i n : ℕ) → part_text (both i (number n)) ≡ word_at names i ++ number_text (kind_of i) n
unfolding part_text value_text
number_part i n = refl

pub behind_list : (i : ℕ) (v : ℤ) (vs : List ℤ) → parts_behind (list_part i (v ∷ vs)) ≡ 59 ∷ (word_at names i ++ (signed_text v ++ entries_behind signed_text vs))
unfolding part_text value_text
behind_list i v vs = behind_one _ ∙ ap (λ (l : List ℕ). 59 ∷ (word_at names i ++ l)) (joined_entries signed_text v vs)

pub behind_days : (d : Both ℤ ℕ) (ds : List (Both ℤ ℕ)) → parts_behind (day_part (d ∷ ds)) ≡ 59 ∷ (word_at names 9 ++ (day_text d ++ entries_behind day_text ds))
unfolding part_text value_text
behind_days d ds = behind_one _ ∙ ap (λ (l : List ℕ). 59 ∷ (word_at names 9 ++ l)) (joined_entries day_text d ds)

-- the whole text
pub text_first : (w : Raw) → text_of w ≡ part_text (both 0 (number w.freq)) ++ parts_behind (rest_of w)
unfolding text_of parts_of
text_first w = joined_parts (both 0 (number w.freq)) (rest_of w)

pub text_lists : (l : RawLists) → parts_behind (list_parts l) ≡
    parts_behind (list_part 5 l.bymonth)
    ++ (parts_behind (list_part 6 l.bymonthday)
    ++ (parts_behind (list_part 7 l.byyearday)
    ++ (parts_behind (list_part 8 l.byweekno)
    ++ (parts_behind (day_part (paired l.bydayn l.bydayw))
    ++ (parts_behind (list_part 10 l.byhour)
    ++ (parts_behind (list_part 11 l.byminute)
    ++ (parts_behind (list_part 12 l.bysecond)
    ++ parts_behind (list_part 13 l.bysetpos))))))))
text_lists l = simp behind_append

pub text_pieces : (w : Raw) → text_of w ≡
    part_text (both 0 (number w.freq))
    ++ (parts_behind (unless (eqb w.interval 1) (both 1 (number w.interval)))
    ++ (parts_behind (count_part w.count)
    ++ (parts_behind (until_part w.until)
    ++ (parts_behind (unless (eqb w.wkst 0) (both 4 (number w.wkst)))
    ++ parts_behind (list_parts w.lists)))))
text_pieces w = text_first w ∙ simp behind_append
