-- How the code writes a text: FREQ first, and then each further part behind a semicolon, its entries behind commas. Nothing but contracts leans on this.
-- Assumes nothing.
use Rattle.std.specs.Prelude.{ℕ, List, [], ◌∷◌, ◌++◌, eqb}
use Rattle.rule.specs.Raw.{Raw}
use Rattle.symbols.specs.Languages.{both}
use Rattle.recur.specs.Grammar.{number, Part, comma, semicolon}
use Rattle.recur.specs.Writing.{part_text, unless, count_part, until_part, list_parts}

-- parts, each behind a semicolon
unfoldable pub parts_behind : List Part → List ℕ
parts_behind [] = []
parts_behind (p ∷ ps) = semicolon ∷ (part_text p ++ parts_behind ps)

-- entries, each behind a comma
unfoldable pub entries_behind : {A : Type 0} → (A → List ℕ) → List A → List ℕ
entries_behind f [] = []
entries_behind f (v ∷ vs) = comma ∷ (f v ++ entries_behind f vs)

-- the parts behind FREQ
abbrev pub rest_of : Raw → List Part
rest_of w =
    unless (eqb w.interval 1) (both 1 (number w.interval))
    ++ (count_part w.count
    ++ (until_part w.until
    ++ (unless (eqb w.wkst 0) (both 4 (number w.wkst))
    ++ list_parts w.lists)))
