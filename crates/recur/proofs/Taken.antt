-- The readers of values and parts keep to the grammar: so the whole text is read as far as any good text goes.
-- Assumes nothing.
use Prim.Native.Nat.{ℕ}
use native.Mathlib.Omega.{arith}
use mathlib.Core.Path.{refl, ap}
use mathlib.Core.Bool.{Bool}
use mathlib.Core.List.{List}
use Rattle.symbols.specs.Languages.{is_digit, Joined}
use Rattle.symbols.specs.Takes.{Takes}
use Rattle.symbols.proofs.Tables.{apart_all, capital_all, takes_table}
use Rattle.symbols.proofs.Behind.{takes_followed}
use Rattle.symbols.proofs.Joined.{takes_joined}
use Rattle.symbols.proofs.Turning.{takes_turned, takes_fewer}
use Rattle.symbols.proofs.Numerals.{takes_number}
use Rattle.recur.specs.Grammar.{names, Value, Part, Kind, frequency, up_to_high, moment, weekday, entries, day_entries, kind_of, ValueText, PartText}
use Rattle.recur.specs.Grammar.{with_used, semicolon}
use Rattle.recur.specs.Reading.{value_at, part_at, parts_at}
use Rattle.recur.proofs.Heads.{Filled, filled_turned}
use Rattle.recur.proofs.Instances.{Any, Ends, takes_freq, filled_freq, takes_weekday, filled_weekday, takes_entries, takes_days}
use Rattle.recur.proofs.Instances.{filled_entries, filled_days}
use Rattle.recur.proofs.Moments.{takes_moment, filled_moment}
use Rattle.recur.proofs.Flags.{Open, Left, left_less, left_open}

pub takes_value : (k : Kind) → Takes Value (value_at k) (ValueText k) Ends
takes_value frequency = takes_turned _ _ _ _ _ _ (takes_fewer takes_freq (λ b e. tt))
takes_value (up_to_high high) = takes_turned _ _ _ _ _ _ (takes_fewer (takes_number high) (λ b e. ap is_digit e))
takes_value moment = takes_turned _ _ _ _ _ _ (takes_fewer takes_moment (λ b e. tt))
takes_value weekday = takes_turned _ _ _ _ _ _ (takes_fewer takes_weekday (λ b e. tt))
takes_value (entries signs) = takes_turned _ _ _ _ _ _ (takes_entries signs 748)
takes_value day_entries = takes_turned _ _ _ _ _ _ (takes_days 748)

filled_value : (k : Kind) → Filled (ValueText k)
filled_value frequency = filled_turned _ _ _ _ filled_freq
filled_value (up_to_high high) = filled_turned _ _ _ _ (λ v d. omega (arith, d.some))
filled_value moment = filled_turned _ _ _ _ filled_moment
filled_value weekday = filled_turned _ _ _ _ filled_weekday
filled_value (entries signs) = filled_turned _ _ _ _ (filled_entries signs 748)
filled_value day_entries = filled_turned _ _ _ _ (filled_days 748)

-- a part, where a name is open
pub takes_part : (n : ℕ) (seen : List Bool) → Left n seen → Takes Part (part_at seen) (PartText seen) Ends
unfolding part_at apart_all capital_all
takes_part n seen l =
    let o : Open seen = left_open n seen l in
    takes_followed _ _ _ _ _ _ _ Any Ends (takes_table names refl refl seen o.which (omega arith) o.unused) (λ i xs d. takes_value (kind_of i))
    (λ i. filled_value (kind_of i)) (λ i v c zs d. tt)

-- Parts, n of them at most behind the first; behind the last comes nothing.
pub takes_parts : (n : ℕ) (seen : List Bool) → Left n seen
    → Takes (List Part) (parts_at n seen) (Joined (List Bool) Part with_used PartText semicolon n seen) (λ (b : ℕ). ⊥)
unfolding parts_at
takes_parts =
    takes_joined _ _ _ _ _ _ Ends (λ (b : ℕ). ⊥) Left takes_part (λ n s p xs l d. left_less n s p.first d.left.unused l) refl
    (λ b e. absurd e) (λ b e. absurd e)
