-- Worked cases of the places. proofs/Cases holds the short ones; those at the ends of the positions take longer to compute, and grid holds them.
-- Assumes nothing.
use Rattle.std.specs.Prelude.{ℕ, ◌≡◌, List, [], ◌∷◌, map, ℤ, pos, neg_ℤ}
use Rattle.rule.specs.Lists.{positions, set_of}
use Rattle.rule.specs.Raw.{entries}
use Rattle.positions.specs.Places.{kept_places}

-- the positions p and -p
abbrev forward : ℕ → ℤ
forward p = pos p

abbrev back : ℕ → ℤ
back p = neg_ℤ (pos p)

-- BYSETPOS's entries, how many candidates there are, and the places that are kept
pub record Case : Type 0 where
  pub bysetpos : List ℤ
  pub candidates : ℕ
  pub places : List ℕ

abbrev case : List ℤ → ℕ → List ℕ → Case
case bysetpos candidates places = record { bysetpos = bysetpos; candidates = candidates; places = places }

-- the last; one candidate chosen twice; none that far; no candidate
abbrev pub cases : List Case
cases =
    case (back 1 ∷ []) 31 (30 ∷ []) ∷
    case (back 5 ∷ back 1 ∷ forward 1 ∷ forward 2 ∷ []) 5 (0 ∷ 1 ∷ 4 ∷ []) ∷
    case (back 1 ∷ forward 1 ∷ []) 1 (0 ∷ []) ∷
    case (back 6 ∷ forward 6 ∷ []) 5 [] ∷
    case (back 1 ∷ forward 1 ∷ []) 0 [] ∷
    []

-- each end of the positions; the stretches' seams; a middle out of reach
abbrev pub far_cases : List Case
far_cases =
    case (back 366 ∷ forward 366 ∷ []) 366 (0 ∷ 365 ∷ []) ∷
    case (back 366 ∷ back 1 ∷ forward 1 ∷ forward 366 ∷ []) 367 (0 ∷ 1 ∷ 365 ∷ 366 ∷ []) ∷
    case (back 366 ∷ back 365 ∷ forward 366 ∷ []) 731 (365 ∷ 366 ∷ []) ∷
    case (back 366 ∷ forward 366 ∷ []) 732 (365 ∷ 366 ∷ []) ∷
    case (back 366 ∷ back 1 ∷ forward 366 ∷ []) 800 (365 ∷ 434 ∷ 799 ∷ []) ∷
    []

abbrev pub places_in : Case → List ℕ
places_in c = kept_places (set_of 732 (entries positions c.bysetpos)) c.candidates

abbrev pub CasesHold : List Case → Type 0
CasesHold cs = map places_in cs ≡ map (λ (c : Case). c.places) cs
