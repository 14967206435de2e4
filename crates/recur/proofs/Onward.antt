-- One part of a text: its value stands behind its name, and the next part behind the semicolon, with the rest as the text from there on.
-- Assumes nothing.
use Prim.Native.Nat.{ℕ, zero, suc, ◌+◌, ◌≤◌, ◌<◌}
use native.Mathlib.Omega.{arith}
use mathlib.Core.Path.{◌≡◌, refl, sym, ap, ◌∙◌}
use mathlib.Core.Bool.{Bool, true, false}
use mathlib.Core.List.{List, [], ◌∷◌}
use lib.ListN.{length, get_or, set, drop, length-set, length-map}
use lib.Dec.{ltb}
use borrow.Author.Tests.{lt-ltb, ltb-false}
use Rattle.symbols.specs.Languages.{is_used, both}
use Rattle.symbols.specs.Takes.{Took, took}
use Rattle.symbols.specs.Readers.{word, with_first, behind, head_is, after, goes_on}
use Rattle.symbols.proofs.Cuts.{and_both}
use Rattle.recur.specs.Grammar.{names, Value, Part, kind_of, with_used, semicolon}
use Rattle.recur.specs.Reading.{value_at, part_at, parts_at}
use Rattle.recur.specs.Places.{used_by, placed, places_at}
use Rattle.recur.proofs.Parted.{rest_is, behind_drop, parts_on}
use Rattle.recur.proofs.Taken.{takes_value}
use Rattle.recur.proofs.Scanned.{part_whole, part_stopped, placed_whole, placed_stopped, places_on, places_off, places_last}
use Rattle.recur.proofs.Named.{name_in, NameRead, name_read}

-- ---- places and the names that they use up

-- a name has no place as long as it is open
pub open_nowhere : (places : List ℕ) (i : ℕ) → is_used (used_by places) i ≡ false → get_or places i 0 ≡ 0
open_nowhere [] i e = refl
open_nowhere (p ∷ places) zero e = let z : p ≤ 0 = ltb-false 0 p e in omega arith
open_nowhere (p ∷ places) (suc i) e = open_nowhere places i e

-- a name that is placed is used up
pub used_set : (places : List ℕ) (i p : ℕ) → 0 < p → used_by (set places i p) ≡ set (used_by places) i true
used_set [] i p h = refl
used_set (x ∷ places) zero p h = ap (λ (b : Bool). b ∷ used_by places) (lt-ltb 0 p h)
used_set (x ∷ places) (suc i) p h = ap (λ (bs : List Bool). ltb 0 x ∷ bs) (used_set places i p h)

-- a byte stands where a text goes on
head_in : (c n : ℕ) (t : List ℕ) → head_is c (drop n t) ≡ true → n < length t
head_in c zero [] e = absurd (let z : ◌≡◌ {A = ℕ} 0 1 = cc in omega arith)
head_in c zero (b ∷ t) e = omega arith
head_in c (suc n) [] e = absurd (let z : ◌≡◌ {A = ℕ} 0 1 = cc in omega arith)
head_in c (suc n) (b ∷ t) e = let h : n < length t = head_in c n t e in omega arith

-- ---- one part

module _ (seen : List Bool) (at : ℕ) (t : List ℕ) where
  -- what stands behind the name
  abbrev pub value_behind : Took Value
  value_behind = value_at (kind_of (name_in seen at t).value) (name_in seen at t).place (drop (name_in seen at t).place t)

  -- the name with its value, and the text from there on
  abbrev pub part_read : Took Part
  part_read = took value_behind.whole value_behind.place (drop value_behind.place t) (both (name_in seen at t).value value_behind.value)

  -- behind a whole name the part is its value
  pub part_read_lem : (name_in seen at t).whole ≡ true → NameRead seen at t → part_at seen at (drop at t) ≡ part_read
  part_read_lem w r =
      part_whole seen at (drop at t) w
      ∙ ap (λ (k : List ℕ). with_first (name_in seen at t).value (value_at (kind_of (name_in seen at t).value) (name_in seen at t).place k)) r.left
      ∙ ap (λ (k : List ℕ). took value_behind.whole value_behind.place k (both (name_in seen at t).value value_behind.value))
      (rest_is (takes_value (kind_of (name_in seen at t).value)) (name_in seen at t).place t)

  -- a whole part has a whole name
  pub name_whole : (part_at seen at (drop at t)).whole ≡ true → (name_in seen at t).whole ≡ true
  name_whole w = go (name_in seen at t).whole refl
    where
      go : (b : Bool) → (name_in seen at t).whole ≡ b → (name_in seen at t).whole ≡ true
      go true e = e
      go false e =
          let f : (part_at seen at (drop at t)).whole ≡ false = ap (λ (k : Took Part). k.whole) (part_stopped seen at (drop at t) e) in
          absurd (let z : ◌≡◌ {A = ℕ} 0 1 = cc in omega arith)

-- ---- the next part

module _ (places : List ℕ) (at : ℕ) (t : List ℕ) where
  -- the part that stands at a place of the text
  abbrev pub part_in : Took Part
  part_in = part_at (used_by places) at (drop at t)

  -- the places behind the part
  abbrev pub places_next : List ℕ
  places_next = placed places (name_in (used_by places) at t)

  -- the name has its place now
  pub next_is : part_in.whole ≡ true → places_next ≡ set places (name_in (used_by places) at t).value (name_in (used_by places) at t).place
  next_is w = placed_whole places (name_in (used_by places) at t) (name_whole (used_by places) at t w)

  -- the semicolon stands behind a whole part
  pub goes_whole : goes_on semicolon part_in ≡ true → part_in.whole ≡ true
  goes_whole g = (and_both part_in.whole (head_is semicolon part_in.rest) g).0

  module _ (l : length places ≡ 14) (h : at ≤ length t) where
    -- for fourteen places, and within the text: what is known of a whole part's name, and of the part
    pub part_name : part_in.whole ≡ true → NameRead (used_by places) at t
    part_name w = name_read (used_by places) at t (length-map places (ltb 0) ∙ l) h (name_whole (used_by places) at t w)

    pub part_is : part_in.whole ≡ true → part_in ≡ part_read (used_by places) at t
    part_is w = part_read_lem (used_by places) at t (name_whole (used_by places) at t w) (part_name w)

    -- the names that are used up behind the part are those that have a place
    used_next : part_in.whole ≡ true → with_used (used_by places) part_in.value ≡ used_by places_next
    used_next w =
        ap (λ (k : Took Part). with_used (used_by places) k.value) (part_is w)
        ∙ sym (used_set places (name_in (used_by places) at t).value (name_in (used_by places) at t).place (omega (arith, (part_name w).above)))
        ∙ ap used_by (sym (next_is w))

    -- what is left is the text from the part's place on, and behind the semicolon from a byte later
    left_is : part_in.whole ≡ true → part_in.rest ≡ drop part_in.place t
    left_is w = ap (λ (k : Took Part). k.rest) (part_is w) ∙ ap (λ (k : Took Part). drop k.place t) (sym (part_is w))

    module _ (g : goes_on semicolon part_in ≡ true) where
      behind_is : behind part_in.rest ≡ drop (part_in.place + 1) t
      behind_is = ap behind (left_is (goes_whole g)) ∙ behind_drop part_in.place t

      -- the next part begins within the text
      pub next_in : part_in.place + 1 ≤ length t
      next_in =
          let s : head_is semicolon (drop part_in.place t) ≡ true =
          ap (head_is semicolon) (sym (left_is (goes_whole g))) ∙ (and_both part_in.whole (head_is semicolon part_in.rest) g).1 in
          omega (arith, head_in semicolon part_in.place t s)

      -- so the parts and the places go on there
      pub parts_onward : (n : ℕ)
          → parts_at (suc n) (used_by places) at (drop at t)
          ≡ after part_in.value (parts_at n (used_by places_next) (part_in.place + 1) (drop (part_in.place + 1) t))
      parts_onward n =
          parts_on n (used_by places) at (drop at t) g
          ∙ ap (λ (s : List Bool). after part_in.value (parts_at n s (part_in.place + 1) (behind part_in.rest))) (used_next (goes_whole g))
          ∙ ap (λ (r : List ℕ). after part_in.value (parts_at n (used_by places_next) (part_in.place + 1) r)) behind_is

      pub places_onward : (n : ℕ) → places_at (suc n) places at (drop at t) ≡ places_at n places_next (part_in.place + 1) (drop (part_in.place + 1) t)
      places_onward n = places_on n places at (drop at t) g ∙ ap (λ (r : List ℕ). places_at n places_next (part_in.place + 1) r) behind_is

-- ---- as many places as before

pub length_placed : (places : List ℕ) (k : Took ℕ) → length (placed places k) ≡ length places
length_placed places k = go k.whole refl
  where
    go : (b : Bool) → k.whole ≡ b → length (placed places k) ≡ length places
    go true e = ap length (placed_whole places k e) ∙ length-set places k.value k.place
    go false e = ap length (placed_stopped places k e)

pub length_places : (n : ℕ) (places : List ℕ) (at : ℕ) (t : List ℕ) → length (places_at n places at t) ≡ length places
length_places zero places at t = ap length (places_last 0 places at t) ∙ length_placed places (word names (used_by places) at t)
length_places (suc n) places at t = go (goes_on semicolon (part_at (used_by places) at t)) refl (λ p r. length_places n now p r)
  where
    now : List ℕ
    now = placed places (word names (used_by places) at t)

    go : (b : Bool) → goes_on semicolon (part_at (used_by places) at t) ≡ b → ((p : ℕ) (r : List ℕ) → length (places_at n now p r) ≡ length now)
        → length (places_at (suc n) places at t) ≡ length places
    go true e again = ap length (places_on n places at t e) ∙ again _ _ ∙ length_placed places (word names (used_by places) at t)
    go false e again = ap length (places_off n places at t e) ∙ length_placed places (word names (used_by places) at t)
