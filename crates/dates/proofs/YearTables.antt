-- Two constant tables, of a common year and of a leap year, say what the calendar says: each by one computed test.
-- Assumes nothing.
use Rattle.std.specs.Prelude.{if◌then◌else◌}
use mathlib.Core.Path.{◌≡◌, sym, ap, ◌∙◌}
use mathlib.Core.Bool.{Bool, true, false}
use mathlib.Core.List.{List, [], ◌∷◌, ◌++◌}
use Prim.Native.Nat.{ℕ, zero, suc, ◌+◌, ◌≤◌, ◌<◌}
use native.Mathlib.Omega.{arith}
use native.Mathlib.Decide.{dec_lt}
use lib.ListN.{length, get_or, get_or-eq_default}
use Rattle.calendar.specs.Calendar.{days_of, MonthDay, no_day, table_day, tab, year_table}
use Rattle.calendar.proofs.Table.{tab_at}
use Rattle.calendar.proofs.Months.{past_table}

-- a table's last entry apart
tab_ends : (f : ℕ → ℕ) (n i : ℕ) → tab f i (suc n) ≡ tab f i n ++ (f (i + n) ∷ [])
tab_ends f zero i = ap (λ (k : ℕ). f k ∷ []) (omega arith)
tab_ends f (suc n) i =
    ap (λ (l : List ℕ). f i ∷ l) (tab_ends f n (suc i))
    ∙ ap (λ (k : ℕ). f i ∷ (tab f (suc i) n ++ (f k ∷ []))) (omega arith)

-- One number of each day, 0 where there is no day.
module _ (number : MonthDay → ℕ) (none : number no_day ≡ 0) (common leap : List ℕ)
    (e : common ≡ tab (λ n. number (table_day false n)) 0 372) (f : leap ≡ tab (λ n. number (table_day true n)) 0 373) where
  past : (long : Bool) (n : ℕ) → days_of long + 7 ≤ n → number (table_day long n) ≡ 0
  past long n h = ap number (past_table long n h) ∙ none

  -- what stands at a place
  read : (long : Bool) (table : List ℕ) → length table ≡ days_of long + 7 → table ≡ tab (λ n. number (table_day long n)) 0 (days_of long + 7)
      → (place : ℕ) → get_or table place 0 ≡ number (table_day long place)
  read long table l t place = go (dec_lt place (days_of long + 7))
    where
      go : Dec (place < days_of long + 7) → get_or table place 0 ≡ number (table_day long place)
      go (yes h) = ap (λ (xs : List ℕ). get_or xs place 0) t ∙ tab_at (λ (n : ℕ). number (table_day long n)) 0 (days_of long + 7) place h
      go (no h) = get_or-eq_default table 0 {n = place} (omega arith) ∙ sym (past long place (omega arith))

  pub reads : length common ≡ 372 → length leap ≡ 373
      → (long : Bool) (place : ℕ) → get_or (if long then leap else common) place 0 ≡ number (table_day long place)
  reads l m true place = read true leap m f place
  reads l m false place = read false common l e place

  -- the whole table in 373 places
  pub whole : (long : Bool) → (if long then leap else common ++ (0 ∷ [])) ≡ year_table number long
  unfolding year_table
  whole true = f
  whole false =
      ap (λ (xs : List ℕ). xs ++ (0 ∷ [])) e
      ∙ ap (λ (k : ℕ). tab (λ n. number (table_day false n)) 0 372 ++ (k ∷ [])) (sym (past false 372 (omega arith)))
      ∙ sym (tab_ends (λ n. number (table_day false n)) 372 0)
