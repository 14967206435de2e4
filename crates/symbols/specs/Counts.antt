-- Numbers in digits: any number of digits up to a value, one to three digits, and k digits from low to high; each in words and as a Counting.
-- Assumes nothing.
use Rattle.std.specs.Prelude.{ℕ, zero, suc, ◌+◌, ◌-◌, ◌*◌, ◌≤◌, ◌≡◌, false, ◌&&◌, ◌||◌, List, length, eqb, leb, ltb}
use Rattle.symbols.specs.Languages.{is_digit, Numeral}
use Rattle.symbols.specs.Readers.{Counting}

-- what may stand behind a number whose digits have no set end
abbrev pub NoDigit : ℕ → Type 0
NoDigit b = is_digit b ≡ false

-- ---- one digit or more, the value at most high

pub record Number (high v : ℕ) (bs : List ℕ) : Type 0 where
  pub numeral : Numeral v bs
  pub some : 1 ≤ length bs
  pub high_enough : v ≤ high

abbrev pub up_to : ℕ → Counting
up_to high = record { may = λ n v d. leb (v * 10 + d) high; enough = λ n v. ltb 0 n }

-- ---- one to three digits, the value at least low, which is 0 or 1

pub record Three (low v : ℕ) (bs : List ℕ) : Type 0 where
  pub numeral : Numeral v bs
  pub some : 1 ≤ length bs
  pub few : length bs ≤ 3
  pub least : low ≤ v

abbrev pub three : ℕ → Counting
three low = record { may = λ n v d. ltb n 3 && (leb low (v * 10 + d) || ltb n 2); enough = λ n v. ltb 0 n && leb low v }

-- ---- k digits, the value from low to high

pub record Field (k low high v : ℕ) (bs : List ℕ) : Type 0 where
  pub numeral : Numeral v bs
  pub wide : length bs ≡ k
  pub least : low ≤ v
  pub greatest : v ≤ high

-- ten to the n
unfoldable pub ten_to : ℕ → ℕ
ten_to zero = 1
ten_to (suc n) = ten_to n * 10

-- The next digit may come if some number from low to high begins with it and those before: with all zeros behind it isn't too high,
-- and with all nines not too low.
abbrev pub field : ℕ → ℕ → ℕ → Counting
field k low high = record {
  may = λ n v d. ltb n k
      && (leb ((v * 10 + d) * ten_to (k - (n + 1))) high && leb low ((v * 10 + d) * ten_to (k - (n + 1)) + ten_to (k - (n + 1)) - 1));
  enough = λ n v. eqb n k && (leb low v && leb v high);
}
