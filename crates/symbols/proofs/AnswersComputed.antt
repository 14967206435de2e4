-- Readers at work. Modules with a public name are checked by name, each after those that it uses, and this one uses no proof: so a wrong
-- definition is refused here first, by an answer that differs.
-- Assumes nothing.
use Prim.Native.Nat.{ℕ}
use mathlib.Core.Path.{◌≡◌, refl}
use mathlib.Core.Bool.{Bool, true, false}
use mathlib.Core.List.{List, [], ◌∷◌}
use Rattle.symbols.specs.Languages.{is_digit}
use Rattle.symbols.specs.Takes.{Took, took}
use Rattle.symbols.specs.Readers.{digits, byte, word, joined}
use Rattle.symbols.specs.Counts.{up_to, three, ten_to, field}

-- ---- BYDAY and BYMONTH as a table

abbrev table : List (List ℕ)
table = (66 ∷ 89 ∷ 68 ∷ 65 ∷ 89 ∷ []) ∷ (66 ∷ 89 ∷ 77 ∷ 79 ∷ 78 ∷ 84 ∷ 72 ∷ []) ∷ []

-- of `bymox` four bytes begin a word: the longest beginning counts, and not the first
pub longest_begins : word table (false ∷ false ∷ []) 7 (98 ∷ 121 ∷ 109 ∷ 111 ∷ 120 ∷ []) ≡ took false 11 (120 ∷ []) 0
unfolding word
longest_begins = refl

-- where BYMONTH is used up, two do
pub used_up : word table (false ∷ true ∷ []) 7 (98 ∷ 121 ∷ 109 ∷ 111 ∷ 120 ∷ []) ≡ took false 9 (109 ∷ 111 ∷ 120 ∷ []) 0
unfolding word
used_up = refl

-- `BYDay=` has the word, in any letter case
pub found : word table (false ∷ false ∷ []) 7 (66 ∷ 89 ∷ 68 ∷ 97 ∷ 121 ∷ 61 ∷ []) ≡ took true 12 (61 ∷ []) 0
unfolding word
found = refl

-- ---- digits by commas, two at most behind the first

abbrev three_digits : List ℕ → Took (List ℕ)
three_digits t = joined (λ (s : Bool). byte is_digit) (λ (s : Bool) (b : ℕ). s) 44 2 true 0 t

-- of `1,2,3,4` three are read
pub all_three : three_digits (49 ∷ 44 ∷ 50 ∷ 44 ∷ 51 ∷ 44 ∷ 52 ∷ []) ≡ took true 5 (44 ∷ 52 ∷ []) (49 ∷ 50 ∷ 51 ∷ [])
unfolding joined byte
all_three = refl

-- behind the comma of `1,` a digit has to come
pub not_ended : three_digits (49 ∷ 44 ∷ []) ≡ took false 2 [] (49 ∷ 0 ∷ [])
unfolding joined byte
not_ended = refl

-- ---- numbers in digits

-- `65536` with 65535 at most: the last digit isn't taken
pub at_most : digits (up_to 65535) 0 0 0 (54 ∷ 53 ∷ 53 ∷ 51 ∷ 54 ∷ []) ≡ took true 4 (54 ∷ []) 6553
unfolding digits
at_most = refl

-- `000` with 1 at least: the third zero isn't
pub at_least : digits (three 1) 0 0 0 (48 ∷ 48 ∷ 48 ∷ []) ≡ took false 2 (48 ∷ []) 0
unfolding digits
at_least = refl

-- `196`: no year from 1970 on begins so
pub no_year_lem : digits (field 4 1970 9999) 0 0 0 (49 ∷ 57 ∷ 54 ∷ []) ≡ took false 2 (54 ∷ []) 19
unfolding digits ten_to
no_year_lem = refl
