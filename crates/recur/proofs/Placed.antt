-- The values of whole parts are those that stand at the places of their names: so the code's second pass reads what the first one read.
-- Assumes nothing.
use Rattle.std.specs.Prelude.{if◌then◌else◌}
use Prim.Native.Nat.{ℕ, zero, suc, ◌+◌, ◌≤◌, ◌<◌}
use native.Mathlib.Omega.{arith}
use mathlib.Core.Path.{◌≡◌, refl, sym, ap, ◌∙◌, fun_ext, subst, subst⁻¹}
use mathlib.Core.Bool.{Bool, true, false}
use mathlib.Core.List.{List, [], ◌∷◌}
use lib.ListN.{length, get_or, set, drop}
use lib.Seq.{get_or-set_same, get_or-set_other}
use lib.Dec.{eqb, ltb}
use borrow.Author.Tests.{eqb-true, eqb-false, lt-ltb}
use Rattle.symbols.specs.Languages.{both}
use Rattle.symbols.specs.Takes.{Took}
use Rattle.symbols.specs.Readers.{single, goes_on}
use Rattle.recur.specs.Grammar.{none_used, Value, absent, Part, Kind, frequency, up_to_high, moment, weekday, entries, day_entries, kind_of}
use Rattle.recur.specs.Grammar.{semicolon, value_in, rule_by, rule_of, is_there}
use Rattle.recur.specs.Reading.{value_at, parts_at}
use Rattle.recur.specs.Places.{used_by, nowhere, places_at, value_from, ValuesByPlaces}
use Rattle.recur.proofs.Parted.{parts_off, parts_last}
use Rattle.recur.proofs.Scanned.{places_off, places_last}
use Rattle.recur.proofs.Named.{name_in, NameRead}
use Rattle.recur.proofs.Onward.{open_nowhere, part_in, places_next, next_is, goes_whole, part_name, part_is, next_in, parts_onward, places_onward}
use Rattle.recur.proofs.Onward.{length_placed, length_places}

-- ---- a name's place and value behind the parts

module _ (t : List ℕ) where
  -- the value is that at the place; there it is whole, and the place is within the text
  record Stands (i q : ℕ) (v : Value) : Type 0 where
    is_there_lem : v ≡ value_from i q t
    within : q ≤ length t
    is_whole : 0 < q → (value_at (kind_of i) q (drop q t)).whole ≡ true

  -- a name that was placed keeps its place, and one that wasn't has its value there
  record Stays (i was is : ℕ) (v : Value) : Type 0 where
    kept : 0 < was → is ≡ was
    stands : was ≡ 0 → Stands i is v

  -- behind no parts
  stays_none : (i was : ℕ) → Stays i was was absent
  unfolding value_from
  stays_none i was = record { kept = λ h. refl; stands = λ z. subst⁻¹ (λ (q : ℕ). Stands i q absent) z nowhere_at }
    where
      nowhere_at : Stands i 0 absent
      nowhere_at = record { is_there_lem = refl; within = omega arith; is_whole = λ h. absurd (omega arith) }

  -- what stands at a place above 0
  value_at_lem : (i q : ℕ) → 0 < q → (value_at (kind_of i) q (drop q t)).value ≡ value_from i q t
  unfolding value_from
  value_at_lem i zero h = absurd (omega arith)
  value_at_lem i (suc q) h = refl

  module _ (places : List ℕ) (j q : ℕ) (there : j < length places) (nowhere-yet : get_or places j 0 ≡ 0) (above : 0 < q) (within : q ≤ length t)
      (whole : (value_at (kind_of j) q (drop q t)).whole ≡ true) where
    -- the name that is placed
    stays_same : (is : ℕ) → is ≡ q → Stays j (get_or places j 0) is (value_at (kind_of j) q (drop q t)).value
    stays_same is e = record {
      kept = λ h. absurd (omega arith);
      stands = λ z. subst⁻¹ (λ (p : ℕ). Stands j p (value_at (kind_of j) q (drop q t)).value) e
          (record { is_there_lem = value_at_lem j q above; within = within; is_whole = λ h. whole });
    }

    -- any name: that one, or another, which is as before
    stays_with : (i is : ℕ) (vs : List Part) → Stays i (get_or (set places j q) i 0) is (value_in i vs)
        → Stays i (get_or places i 0) is (value_in i (both j (value_at (kind_of j) q (drop q t)).value ∷ vs))
    unfolding value_in
    stays_with i is vs s = go (eqb j i) refl
      where
        go : (b : Bool) → eqb j i ≡ b → Stays i (get_or places i 0) is (if b then (value_at (kind_of j) q (drop q t)).value else value_in i vs)
        go true e =
            let a : get_or (set places j q) i 0 ≡ q = subst (λ (k : ℕ). get_or (set places j q) k 0 ≡ q) (eqb-true j i e) (get_or-set_same places j q 0 there) in
            subst (λ (k : ℕ). Stays k (get_or places k 0) is (value_at (kind_of j) q (drop q t)).value) (eqb-true j i e)
            (stays_same is (s.kept (omega arith) ∙ a))
        go false e =
            subst (λ (k : ℕ). Stays i k is (value_in i vs)) (get_or-set_other places j i q 0 (λ f. eqb-false j i e (sym f))) s

  module _ (places : List ℕ) (at : ℕ) (l : length places ≡ 14) (h : at ≤ length t) (w : (part_in places at t).whole ≡ true) (i : ℕ) where
    -- a part, with what is known of those behind it
    stays_part : (is : ℕ) (vs : List Part) → Stays i (get_or (places_next places at t) i 0) is (value_in i vs)
        → Stays i (get_or places i 0) is (value_in i ((part_in places at t).value ∷ vs))
    stays_part is vs s =
        let r : NameRead (used_by places) at t = part_name places at t l h w in
        subst⁻¹ (λ (k : Took Part). Stays i (get_or places i 0) is (value_in i (k.value ∷ vs))) (part_is places at t l h w)
        (stays_with places (name_in (used_by places) at t).value (name_in (used_by places) at t).place (omega (arith, r.there))
        (open_nowhere places _ r.unused) (omega (arith, r.above)) r.within
        (sym (ap (λ (k : Took Part). k.whole) (part_is places at t l h w)) ∙ w) i is vs
        (subst (λ (ps : List ℕ). Stays i (get_or ps i 0) is (value_in i vs)) (next_is places at t w) s))

    stays_single : Stays i (get_or places i 0) (get_or (places_next places at t) i 0) (value_in i ((part_in places at t).value ∷ []))
    unfolding value_in
    stays_single = stays_part (get_or (places_next places at t) i 0) [] (stays_none i (get_or (places_next places at t) i 0))

  -- the name i, with n parts at most behind the next
  abbrev Known : ℕ → ℕ → List ℕ → ℕ → Type 0
  Known i n places at =
      Stays i (get_or places i 0) (get_or (places_at n places at (drop at t)) i 0) (value_in i (parts_at n (used_by places) at (drop at t)).value)

  -- by what the places and the parts come to
  known_by : (i n : ℕ) (places : List ℕ) (at : ℕ) {qs : List ℕ} {k : Took (List Part)} → places_at n places at (drop at t) ≡ qs
      → parts_at n (used_by places) at (drop at t) ≡ k → Stays i (get_or places i 0) (get_or qs i 0) (value_in i k.value) → Known i n places at
  known_by i n places at e f s = rw (e, f) s

  -- part by part
  known : (i n : ℕ) (places : List ℕ) (at : ℕ) → length places ≡ 14 → at ≤ length t → (parts_at n (used_by places) at (drop at t)).whole ≡ true
      → Known i n places at
  known i zero places at l h w =
      let e : parts_at 0 (used_by places) at (drop at t) ≡ single (part_in places at t) = parts_last 0 (used_by places) at (drop at t) in
      known_by i 0 places at (places_last 0 places at (drop at t)) e
      (stays_single places at l h (sym (ap (λ (k : Took (List Part)). k.whole) e) ∙ w) i)
  known i (suc n) places at l h w = go (goes_on semicolon (part_in places at t)) refl (λ ps p. known i n ps p)
    where
      go : (b : Bool) → goes_on semicolon (part_in places at t) ≡ b
          → ((ps : List ℕ) (p : ℕ) → length ps ≡ 14 → p ≤ length t → (parts_at n (used_by ps) p (drop p t)).whole ≡ true → Known i n ps p)
          → Known i (suc n) places at
      go true g again =
          known_by i (suc n) places at (places_onward places at t l h g n) (parts_onward places at t l h g n)
          (stays_part places at l h (goes_whole places at t g) i _ _
          (again (places_next places at t) ((part_in places at t).place + 1) (length_placed places (name_in (used_by places) at t) ∙ l) (next_in places at t l h g)
          (sym (ap (λ (k : Took (List Part)). k.whole) (parts_onward places at t l h g n)) ∙ w)))
      go false g again =
          let e : parts_at (suc n) (used_by places) at (drop at t) ≡ single (part_in places at t) = parts_off n (used_by places) at (drop at t) g in
          known_by i (suc n) places at (places_off n places at (drop at t) g) e
          (stays_single places at l h (sym (ap (λ (k : Took (List Part)). k.whole) e) ∙ w) i)

-- ---- the parts of a whole text

-- at first no name has a place
none_placed : (n i : ℕ) → get_or (nowhere n) i 0 ≡ 0
unfolding nowhere
none_placed zero i = refl
none_placed (suc n) zero = refl
none_placed (suc n) (suc i) = none_placed n i

stands_at : (t : List ℕ) → (parts_at 13 (none_used 14) 0 t).whole ≡ true → (i : ℕ)
    → Stands t i (get_or (places_at 13 (nowhere 14) 0 t) i 0) (value_in i (parts_at 13 (none_used 14) 0 t).value)
unfolding nowhere none_used
stands_at t w i = (known t i 13 (nowhere 14) 0 refl (omega arith) w).stands (none_placed 14 i)

pub values_by_places : ValuesByPlaces
values_by_places t w i h = (stands_at t w i).is_there_lem

-- so the rule is that of the values at the places
pub rule_by_places : (t : List ℕ) → (parts_at 13 (none_used 14) 0 t).whole ≡ true
    → rule_of (parts_at 13 (none_used 14) 0 t).value ≡ rule_by (λ (i : ℕ). value_from i (get_or (places_at 13 (nowhere 14) 0 t) i 0) t)
unfolding rule_of
rule_by_places t w = ap rule_by (fun_ext (λ i. (stands_at t w i).is_there_lem))

-- what is read is there, of whatever kind it is
read_there : (k : Kind) (at : ℕ) (t : List ℕ) → is_there (value_at k at t).value ≡ true
read_there frequency at t = refl
read_there (up_to_high high) at t = refl
read_there moment at t = refl
read_there weekday at t = refl
read_there (entries signs) at t = refl
read_there day_entries at t = refl

from_there : (i q : ℕ) (t : List ℕ) → is_there (value_from i q t) ≡ ltb 0 q
unfolding value_from
from_there i zero t = refl
from_there i (suc q) t = read_there (kind_of i) (suc q) (drop (suc q) t) ∙ sym (lt-ltb 0 (suc q) (omega arith))

-- FREQ is among the parts where it has a place
pub freq_by_place : (t : List ℕ) → (parts_at 13 (none_used 14) 0 t).whole ≡ true
    → is_there (value_in 0 (parts_at 13 (none_used 14) 0 t).value) ≡ ltb 0 (get_or (places_at 13 (nowhere 14) 0 t) 0 0)
freq_by_place t w = ap is_there (values_by_places t w 0 (omega arith)) ∙ from_there 0 _ t

-- ---- for the pass that reads the values

-- a value that has a place is whole there, within the text
pub whole_at_place : (t : List ℕ) → (parts_at 13 (none_used 14) 0 t).whole ≡ true → (i p : ℕ) → i < 14 → get_or (places_at 13 (nowhere 14) 0 t) i 0 ≡ suc p
    → ((value_at (kind_of i) (suc p) (drop (suc p) t)).whole ≡ true) × (suc p ≤ length t)
whole_at_place t w i p h e =
    let s : Stands t i (suc p) (value_in i (parts_at 13 (none_used 14) 0 t).value) =
    subst (λ (q : ℕ). Stands t i q (value_in i (parts_at 13 (none_used 14) 0 t).value)) e (stands_at t w i) in
    (s.is_whole (omega arith), s.within)

pub places_fourteen : (t : List ℕ) → length (places_at 13 (nowhere 14) 0 t) ≡ 14
unfolding nowhere
places_fourteen t = length_places 13 (nowhere 14) 0 t
