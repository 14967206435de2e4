-- The scan's step: a name, the value behind it, and where it goes on.
-- Assumes nothing.
use Rattle.std.specs.Prelude.{Ok, Err}
use Prim.Native.Nat.{ℕ, zero, suc, ◌+◌, ◌≤◌, ◌<◌}
use native.Mathlib.Omega.{arith}
use mathlib.Core.Path.{◌≡◌, refl, sym, ap, ◌∙◌, subst}
use mathlib.Core.Bool.{Bool, true, false, ◌&&◌}
use mathlib.Core.List.{List}
use lib.ListN.{length, set, drop, length-map}
use lib.Dec.{ltb}
use borrow.Author.Tests.{lt-ltb}
use Rattle.symbols.specs.Takes.{Took}
use Rattle.symbols.specs.Readers.{single, head_is, goes_on}
use Rattle.recur.specs.declared.Symbol.{Symbol}
use Rattle.recur.specs.Grammar.{Part, semicolon}
use Rattle.recur.specs.Reading.{parts_at}
use Rattle.recur.specs.Places.{used_by, places_at}
use Rattle.recur.specs.Shown.{stopped, shown}
use Rattle.recur.proofs.Parted.{parts_off, parts_last}
use Rattle.recur.proofs.ShownLaws.{symbol, whole_is, place_is, value_is, not_whole, stop_is, ends_whole, ends_there, halts_short, halts_there}
use Rattle.recur.proofs.Scanned.{part_stopped, placed_whole, places_off, places_last}
use Rattle.recur.proofs.Named.{name_in, NameRead, name_read}
use Rattle.recur.proofs.Onward.{part_in, places_next, part_read, part_read_lem, next_in, parts_onward, places_onward}
use Rattle.parser.specs.Scans.{stop_at, scanned, scan_from}

-- by what the parts and the places come to
scan_by : (n : ℕ) (places : List ℕ) (at : ℕ) (t qs : List ℕ) (k : Took (List Part)) → parts_at n (used_by places) at (drop at t) ≡ k
    → places_at n places at (drop at t) ≡ qs → scan_from n places at t ≡ scanned k.whole k.place qs
unfolding scan_from
scan_by n places at t qs k e f = rw (e, f)

-- a test of two parts whose first is true, or whose second is false
and_rest : (n : ℕ) (g b : Bool) → (ltb 0 (suc n) && g) ≡ b → g ≡ b
and_rest n g b e = ap (λ (x : Bool). x && g) (sym (lt-ltb 0 (suc n) (omega arith))) ∙ e

and-false : (b : Bool) → (b && false) ≡ false
and-false true = refl
and-false false = refl

-- the scan ends with a part, where no more may come or none does
scan_last : (n : ℕ) (places : List ℕ) (at : ℕ) (t : List ℕ) → (ltb 0 n && goes_on semicolon (part_in places at t)) ≡ false
    → scan_from n places at t ≡ scanned (part_in places at t).whole (part_in places at t).place (places_next places at t)
scan_last zero places at t g =
    scan_by 0 places at t (places_next places at t) (single (part_in places at t)) (parts_last 0 (used_by places) at (drop at t))
    (places_last 0 places at (drop at t))
scan_last (suc n) places at t g =
    let f : goes_on semicolon (part_in places at t) ≡ false = and_rest n (goes_on semicolon (part_in places at t)) false g in
    scan_by (suc n) places at t (places_next places at t) (single (part_in places at t)) (parts_off n (used_by places) at (drop at t) f)
    (places_off n places at (drop at t) f)

-- and goes on behind the semicolon elsewhere, which is still within the text
scan_next : (n m : ℕ) (places : List ℕ) (at : ℕ) (t : List ℕ) → m + 1 ≡ n → length places ≡ 14 → at ≤ length t
    → (ltb 0 n && goes_on semicolon (part_in places at t)) ≡ true
    → ((part_in places at t).place + 1 ≤ length t)
    × (scan_from n places at t ≡ scan_from m (places_next places at t) ((part_in places at t).place + 1) t)
unfolding scan_from
scan_next zero m places at t s l h g = absurd (omega arith)
scan_next (suc n) m places at t s l h g =
    let f : goes_on semicolon (part_in places at t) ≡ true = and_rest n (goes_on semicolon (part_in places at t)) true g in
    let q : n ≡ m = omega arith in (
      next_in places at t l h f,
      scan_by (suc n) places at t _ _ (parts_onward places at t l h f n) (places_onward places at t l h f n)
          ∙ ap (λ (x : ℕ). scan_from x (places_next places at t) ((part_in places at t).place + 1) t) q,
    )

-- ---- the code's step

-- the scan goes on at a place of the text
pub record Goes (t : List ℕ) (n : ℕ) (places : List ℕ) (at m : ℕ) (placed : List ℕ) (place : ℕ) : Type 0 where
  pub within : place ≤ length t
  pub same : scan_from n places at t ≡ scan_from m placed place t

-- no whole name is read at a place: there the scan stops
module _ (places : List ℕ) (at : ℕ) (t : List ℕ) where
  pub scan_stops : (n p : ℕ) → Err p ≡ shown (name_in (used_by places) at t) → Err p ≡ scan_from n places at t
  scan_stops n p e =
      let k = name_in (used_by places) at t in
      let f : k.whole ≡ false = not_whole (λ (v : ℕ). v) k p e in
      let s = part_stopped (used_by places) at (drop at t) f in
      sym (scan_last n places at t (rw s (and-false (ltb 0 n)))
      ∙ ap (λ (x : Took Part). scanned x.whole x.place (places_next places at t)) s ∙ ap (λ (q : ℕ). Err q) (sym (stop_is (λ (v : ℕ). v) k p e)))

-- the name that the code has read at a place
module _ (places : List ℕ) (at : ℕ) (t : List ℕ) (l : length places ≡ 14) (h : at ≤ length t)
    (name : Symbol ℕ) (e : Ok name ≡ shown (name_in (used_by places) at t)) where
  place_lem : name.place ≡ (name_in (used_by places) at t).place
  place_lem = place_is (λ (v : ℕ). v) (name_in (used_by places) at t) name e

  name_whole : (name_in (used_by places) at t).whole ≡ true
  name_whole = whole_is (λ (v : ℕ). v) (name_in (used_by places) at t) name e

  value_lem : name.value ≡ (name_in (used_by places) at t).value
  value_lem = value_is (λ (v : ℕ). v) (name_in (used_by places) at t) name e

  read : NameRead (used_by places) at t
  read = name_read (used_by places) at t (length-map places (ltb 0) ∙ l) h name_whole

  -- one of the fourteen; its value stands within the text
  pub name_there : name.value < 14
  name_there = rw value_lem read.there

  pub name_within : name.place ≤ length t
  name_within = rw place_lem read.within

  next : places_next places at t ≡ set places name.value name.place
  next = placed_whole places (name_in (used_by places) at t) name_whole ∙ rw (value_lem, place_lem)

  part : part_in places at t ≡ part_read (used_by places) at t
  part = part_read_lem (used_by places) at t name_whole read

  part_rest : (part_in places at t).rest ≡ drop (part_in places at t).place t
  part_rest = ap (λ (k : Took Part). k.rest) part ∙ sym (ap (λ (k : Took Part). drop k.place t) part)

  -- and the value behind it
  behind : stop_at name.value name.place t ≡ stopped (part_in places at t)
  unfolding stop_at
  behind = rw (value_lem, place_lem) (sym (ap (λ (k : Took Part). stopped k) part))

  -- that isn't whole: there the scan stops
  pub scan_halts : (n p : ℕ) → Err p ≡ stop_at name.value name.place t → Err p ≡ scan_from n places at t
  scan_halts n p f =
      let k = part_in places at t in
      let g : Err p ≡ stopped k = f ∙ behind in
      let w : k.whole ≡ false = halts_short k p g in
      let s : goes_on semicolon k ≡ false = ap (λ (b : Bool). b && head_is semicolon k.rest) w in
      sym (scan_last n places at t (ap (λ (b : Bool). ltb 0 n && b) s ∙ and-false (ltb 0 n))
      ∙ ap (λ (b : Bool). scanned b k.place (places_next places at t)) w ∙ ap (λ (q : ℕ). Err q) (sym (halts_there k p g)))

  -- it is whole
  module _ (place : ℕ) (f : Ok place ≡ stop_at name.value name.place t) where
    place_part : (part_in places at t).place ≡ place
    place_part = sym (ends_there (part_in places at t) place (f ∙ behind))

    whole_part : (part_in places at t).whole ≡ true
    whole_part = ends_whole (part_in places at t) place (f ∙ behind)

    goes_is : head_is semicolon (drop place t) ≡ goes_on semicolon (part_in places at t)
    goes_is =
        sym (ap (λ (b : Bool). b && head_is semicolon (part_in places at t).rest) whole_part
        ∙ ap (λ (r : List ℕ). head_is semicolon r) part_rest ∙ ap (λ (p : ℕ). head_is semicolon (drop p t)) place_part)

    abbrev pub goes_from : ℕ → Bool
    goes_from n = ltb 0 n && head_is semicolon (drop place t)

    -- the scan ends with it
    pub scan_ends : (n : ℕ) → goes_from n ≡ false → Ok (symbol place (set places name.value name.place)) ≡ scan_from n places at t
    scan_ends n g =
        sym (scan_last n places at t (ap (λ (b : Bool). ltb 0 n && b) (sym goes_is) ∙ g) ∙ rw (whole_part, place_part, next) refl)

    -- or goes on behind it
    pub scan_goes : (n m : ℕ) → m + 1 ≡ n → goes_from n ≡ true → Goes t n places at m (set places name.value name.place) (place + 1)
    scan_goes n m s g =
        let x = scan_next n m places at t s l h (ap (λ (b : Bool). ltb 0 n && b) (sym goes_is) ∙ g) in
        record { within = subst (λ (p : ℕ). p + 1 ≤ length t) place_part x.0; same = x.1 ∙ rw (place_part, next) }
