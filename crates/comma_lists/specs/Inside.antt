-- The readers of entries keep within the text. Stated here, where the laws of the code's traits find it.
-- Assumes nothing.
use Rattle.std.specs.Prelude.{ℕ, ◌≤◌, Bool, List, length, drop}
use Rattle.symbols.specs.Takes.{Took, Takes}
use Rattle.recur.specs.Reading.{entry_at}
use Rattle.recur.proofs.Parted.{rest_is, place_in}
use Rattle.recur.proofs.Instances.{takes_entry, takes_day}
use Rattle.comma_lists.specs.Lists.{Within, nth_of_day}

pub takes_within : {A : Type 0} {take : ℕ → List ℕ → Took A} {L : A → List ℕ → Type 0} {P : ℕ → Type 0} → Takes A take L P
    → (at : ℕ) (t : List ℕ) → at ≤ length t → Within t at (take at (drop at t))
takes_within x at t h = let p = place_in x at t h in record { rest = rest_is x at t; from = p.0; to = p.1 }

pub entry_within : (signs : Bool) (at : ℕ) (t : List ℕ) → at ≤ length t → Within t at (entry_at signs at (drop at t))
entry_within signs at t h = takes_within (takes_entry signs) at t h

pub nth_in_text : (at : ℕ) (t : List ℕ) → at ≤ length t → Within t at (nth_of_day at (drop at t))
nth_in_text at t h = let w = takes_within takes_day at t h in record { rest = w.rest; from = w.from; to = w.to }
