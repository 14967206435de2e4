-- How the code reads a list: an entry as a number without a sign, its slot, and a set marked entry by entry; and how it comes to a verdict, row by
-- row. Nothing but contracts leans on this.
-- Assumes nothing.
use Rattle.std.specs.Prelude.{ℕ, suc, ◌+◌, ◌-◌, ◌<◌, ◌≡◌, Bool, true, false, List, [], ◌∷◌, eqb, ltb, leb, ℤ, pos, negsuc, if◌then◌else◌, Option, Ok, Err}
use Rattle.std.specs.Int.Signed.{mag}
use Rattle.rule.specs.declared.rrule.Range.{Range}
use Rattle.rule.specs.declared.rrule.Refusal.{Refusal}
use Rattle.rule.specs.Refusals.{Verdict}
use Rattle.rule.specs.Lists.{within, zeros, mark}

-- a 16-bit value moved up by 32,768
abbrev pub shift : ℤ → ℕ
shift (pos n) = 32768 + n
shift (negsuc n) = 32768 - suc n

-- u is the value v moved up
pub record Moved (v : ℤ) (u : ℕ) : Type 0 where
  pub up : u ≡ shift v
  pub fits : mag v < 32768

-- the slot of a value that was moved up
unfoldable pub slot_at : Range → ℕ → Option ℕ
slot_at g u =
    if ltb u 32768 then within (leb (32768 - u) g.negatives) (g.negatives - (32768 - u))
    else if eqb u 32768 then within g.zeroin g.negatives
    else within (leb (u - 32768) g.positives) (g.negatives + zeros g + (u - 32768 - 1))

-- a set marked with each entry in turn
unfoldable pub marks : List Bool → List (Option ℕ) → List Bool
marks s [] = s
marks s (e ∷ es) = marks (mark s e) es

-- the verdict of the rows before, or this row's refusal where they have none and it applies
unfoldable pub or_refused : Verdict → Refusal → Bool → Verdict
or_refused (Err m) n b = Err m
or_refused (Ok tt) n b = elim b [ true ↦ Err n | false ↦ (Ok tt) ]
