-- `parser::rule_content_line::value_at` meets its contract: each kind of value has its reader.
-- Assumes nothing.
use Prim.Native.Nat.{ℕ}
use mathlib.Core.Path.{◌≡◌, refl, sym, ap, ◌∙◌}
use mathlib.Core.Bool.{Bool}
use native.Mathlib.Omega.{arith}
use Rattle.recur.specs.Grammar.{frequency, up_to_high, moment, weekday, entries, day_entries, kind_of}
use Rattle.symbols.specs.Readers.{digits}
use Rattle.symbols.specs.Counts.{up_to}
use Rattle.recur.specs.Reading.{freq_at, weekday_at, moment_at}
use Rattle.parser.proofs.ValueLaws.{list_kind, stop_by, stop_number_lem}
use Rattle.parser.proofs.rule_content_line.value_at.Goals as goal

by_name : {n k : ℕ} → n ≡ k → kind_of n ≡ kind_of k
by_name e = ap (λ (m : ℕ). kind_of m) e

pub returns-in-0 : goal.returns-in-0
returns-in-0 c =
    stop_number_lem freq_at frequency (λ at t. refl) _ _ _ _ _
    (by_name c.in-0.is) c.frequency_at.ensures c.stop_of.ensures

pub returns-in-1 : goal.returns-in-1
returns-in-1 c =
    stop_number_lem (digits (up_to 65535) 0 0) (up_to_high 65535) (λ at t. refl) _ _ _ _ _
    (by_name c.in-1.is) c.number_at.ensures c.stop_of-in-1.ensures

pub returns-in-2 : goal.returns-in-2
returns-in-2 c =
    stop_number_lem (digits (up_to 4294967295) 0 0) (up_to_high 4294967295) (λ at t. refl) _ _ _ _ _
    (by_name c.in-2.is) c.number_at-in-2.ensures c.stop_of-in-2.ensures

pub returns-in-3 : goal.returns-in-3
returns-in-3 c =
    stop_number_lem moment_at moment (λ at t. refl) _ _ _ _ _
    (by_name c.in-3.is) c.moment_at.ensures c.stop_of-in-3.ensures

pub returns-in-4 : goal.returns-in-4
returns-in-4 c =
    stop_number_lem weekday_at weekday (λ at t. refl) _ _ _ _ _
    (by_name c.in-4.is) c.weekday_at.ensures c.stop_of-in-4.ensures

pub returns-in-9 : goal.returns-in-9
returns-in-9 c = stop_by day_entries _ _ _ _ (by_name c.in-9.is) c.days_at.ensures

pub returns-in_default : goal.returns-in_default
returns-in_default c =
    let r = c.in_default.in_default-own.rest in
    let k = list_kind _ (omega arith) r.0.0.0.0.0.1 r.0.0.0.0.1 r.0.0.0.1 r.0.0.1 r.0.1 r.1 in
    stop_by _ _ _ _ _ (k ∙ ap (λ (b : Bool). entries b) (sym c.has_signs.ensures)) c.entries_at.ensures
