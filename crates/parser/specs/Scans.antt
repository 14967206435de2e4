-- Where values stop, what the scan of a text comes to, and when that is a good text.
-- Assumes nothing.
use Rattle.std.specs.Prelude.{ℕ, Bool, ◌&&◌, List, length, get_or, drop, leb, ltb, if◌then◌else◌, Result, Ok, Err}
use Rattle.recur.specs.declared.Symbol.{Symbol}
use Rattle.recur.specs.Grammar.{kind_of}
use Rattle.recur.specs.Reading.{value_at, parts_at}
use Rattle.recur.specs.Places.{used_by, places_at}
use Rattle.recur.specs.Shown.{stopped}

-- the place behind a number, or where its reader stopped
abbrev pub place_of : Result (Symbol ℕ) ℕ → Result ℕ ℕ
place_of (Ok n) = Ok n.place
place_of (Err place) = Err place

-- where the value behind a name stops
unfoldable pub stop_at : ℕ → ℕ → List ℕ → Result ℕ ℕ
stop_at name at t = stopped (value_at (kind_of name) at (drop at t))

-- the places of the values, behind whole parts
abbrev pub scanned : Bool → ℕ → List ℕ → Result (Symbol (List ℕ)) ℕ
scanned whole place places = if whole then Ok (record { place = place; value = places }) else Err place

-- from a place of the text on, with n parts at most behind the next; the names before have these places
unfoldable pub scan_from : ℕ → List ℕ → ℕ → List ℕ → Result (Symbol (List ℕ)) ℕ
scan_from n places at t =
    scanned (parts_at n (used_by places) at (drop at t)).whole (parts_at n (used_by places) at (drop at t)).place (places_at n places at (drop at t))

-- nothing is left behind whole parts, and FREQ has a place
abbrev pub good_by : List ℕ → Symbol (List ℕ) → Bool
good_by t s = leb (length t) s.place && ltb 0 (get_or s.value 0 0)
