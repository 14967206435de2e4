-- Numbers and flags as bytes. A number has its lowest byte first. A flag is one byte, 0 or 1.
-- Assumes nothing.
use Rattle.std.specs.Prelude.{ℕ, ◌+◌, ◌*◌, ◌/◌, ◌%◌, Bool, true, ◌&&◌, List, [], ◌∷◌, ◌++◌, map, eqb, leb, get_or, if◌then◌else◌}
use Rattle.rule.specs.Lists.{flags}

-- the number that stands in two, four or eight bytes from place i on
unfoldable pub two_at : List ℕ → ℕ → ℕ
two_at bytes i = get_or bytes i 0 + 256 * get_or bytes (i + 1) 0

unfoldable pub four_at : List ℕ → ℕ → ℕ
unfolding two_at
four_at bytes i = two_at bytes i + 65536 * two_at bytes (i + 2)

unfoldable pub eight_at : List ℕ → ℕ → ℕ
unfolding four_at
eight_at bytes i = four_at bytes i + 4294967296 * four_at bytes (i + 4)

-- a number's two, four or eight bytes
unfoldable pub two : ℕ → List ℕ
two n = n % 256 ∷ n / 256 ∷ []

unfoldable pub four : ℕ → List ℕ
unfolding two
four n = two (n % 65536) ++ two (n / 65536)

unfoldable pub eight : ℕ → List ℕ
unfolding four
eight n = four (n % 4294967296) ++ four (n / 4294967296)

-- every byte is a flag
unfoldable pub are_flags : List ℕ → Bool
are_flags [] = true
are_flags (b ∷ bytes) = leb b 1 && are_flags bytes

-- the n flags that stand from place i on
unfoldable pub flags_at : List ℕ → ℕ → ℕ → List Bool
unfolding flags
flags_at bytes i n = flags (λ slot. eqb (get_or bytes (i + slot) 0) 1) n 0

abbrev pub flag_byte : Bool → ℕ
flag_byte flag = if flag then 1 else 0

-- the bytes of flags
abbrev pub flag_bytes : List Bool → List ℕ
flag_bytes set = map flag_byte set
