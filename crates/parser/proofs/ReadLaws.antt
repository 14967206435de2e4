-- From the scan's answer to what a text is read as.
-- Assumes nothing.
use Rattle.std.specs.Prelude.{if◌then◌else◌, Ok, Err}
use Prim.Native.Nat.{ℕ, zero, suc, ◌≤◌, ◌<◌}
use native.Mathlib.Omega.{arith}
use mathlib.Core.Path.{◌≡◌, refl, sym, ap, ◌∙◌, fun_ext, subst⁻¹}
use mathlib.Core.Bool.{Bool, true, false, ◌&&◌}
use mathlib.Core.List.{List, [], ◌∷◌}
use lib.ListN.{length, get_or, drop}
use lib.Dec.{leb}
use borrow.Author.Tests.{leb-true, leb-false}
use Rattle.rule.specs.Raw.{Raw}
use Rattle.symbols.specs.Takes.{Took}
use Rattle.recur.specs.declared.Symbol.{Symbol}
use Rattle.recur.specs.Grammar.{none_used, Part, kind_of, value_in, rule_by, rule_of, is_there}
use Rattle.recur.specs.Reading.{parts_at, is_none, is_whole, longest, read_of}
use Rattle.recur.specs.Places.{nowhere, places_at, value_from}
use Rattle.recur.proofs.Parted.{rest_is}
use Rattle.recur.proofs.ShownLaws.{symbol}
use Rattle.recur.proofs.Flags.{left_all}
use Rattle.recur.proofs.Taken.{takes_parts}
use Rattle.recur.proofs.Decided.{read_by}
use Rattle.recur.proofs.Placed.{rule_by_places, freq_by_place, whole_at_place}
use Rattle.parser.specs.Scans.{scanned, scan_from, good_by}
use Rattle.parser.specs.Values.{value_by, Standing, AllStanding, rule_at}

-- ---- the whole text

abbrev parts_in : List ℕ → Took (List Part)
parts_in t = parts_at 13 (none_used 14) 0 t

abbrev places_in : List ℕ → List ℕ
places_in t = places_at 13 (nowhere 14) 0 t

-- the scan of a whole text
scan_is : (t : List ℕ) → scan_from 13 (nowhere 14) 0 t ≡ scanned (parts_in t).whole (parts_in t).place (places_in t)
unfolding scan_from nowhere none_used
scan_is t = refl

none_left : (n : ℕ) (t : List ℕ) → length t ≤ n → is_none (drop n t) ≡ true
none_left zero [] h = refl
none_left zero (b ∷ t) h = absurd (omega arith)
none_left (suc n) [] h = refl
none_left (suc n) (b ∷ t) h = none_left n t (omega arith)

some_left : (n : ℕ) (t : List ℕ) → n < length t → is_none (drop n t) ≡ false
some_left zero [] h = absurd (omega arith)
some_left zero (b ∷ t) h = refl
some_left (suc n) [] h = absurd (omega arith)
some_left (suc n) (b ∷ t) h = some_left n t (omega arith)

-- what is left behind the parts
left_is : (t : List ℕ) → (parts_in t).rest ≡ drop (parts_in t).place t
left_is t = rest_is (takes_parts 13 (none_used 14) left_all) 0 t

none_is : (n : ℕ) (t : List ℕ) → is_none (drop n t) ≡ leb (length t) n
none_is n t = go (leb (length t) n) refl
  where
    go : (b : Bool) → leb (length t) n ≡ b → is_none (drop n t) ≡ leb (length t) n
    go true e = none_left n t (leb-true (length t) n e) ∙ sym e
    go false e = some_left n t (leb-false (length t) n e) ∙ sym e

-- a text whose parts are whole is whole where that is a good text
whole_by : (t : List ℕ) → (parts_in t).whole ≡ true → is_whole (parts_in t) ≡ good_by t (symbol (parts_in t).place (places_in t))
whole_by t w =
    let x : is_none (parts_in t).rest ≡ leb (length t) (parts_in t).place = ap is_none (left_is t) ∙ none_is (parts_in t).place t in
    rw (w, x, freq_by_place t w) refl

-- the value at a place, by its name or by its kind
from_by : (i q : ℕ) (t : List ℕ) → value_from i q t ≡ value_by (kind_of i) q t
unfolding value_from value_by
from_by i zero t = refl
from_by i (suc q) t = refl

-- ---- what the code knows of it

-- the scan stops where the parts do
pub read_halted : (t : List ℕ) (p : ℕ) → length t ≤ longest → Err p ≡ scan_from 13 (nowhere 14) 0 t → read_of t ≡ Err p
read_halted t p short e = go (parts_in t).whole refl (e ∙ scan_is t)
  where
    go : (b : Bool) → (parts_in t).whole ≡ b → Err p ≡ scanned b (parts_in t).place (places_in t) → read_of t ≡ Err p
    go true w f = absurd (let z : ◌≡◌ {A = ℕ} 0 1 = cc in omega arith)
    go false w f =
        let q : p ≡ (parts_in t).place = cc in
        let n : is_whole (parts_in t) ≡ false = ap (λ (b : Bool). b && (is_none (parts_in t).rest && is_there (value_in 0 (parts_in t).value))) w in
        read_by t short ∙ ap (λ (x : Bool). if x then Ok (rule_of (parts_in t).value) else Err (parts_in t).place) n ∙ ap (λ (n : ℕ). Err n) (sym q)

-- the parts that the scan has found
module _ (t : List ℕ) (s : Symbol (List ℕ)) (e : Ok s ≡ scan_from 13 (nowhere 14) 0 t) where
  record Found (b : Bool) : Type 0 where
    whole : b ≡ true
    place : s.place ≡ (parts_in t).place
    places : s.value ≡ places_in t

  found_by : (b : Bool) → Ok s ≡ scanned b (parts_in t).place (places_in t) → Found b
  found_by true f = record { whole = refl; place = cc; places = cc }
  found_by false f = absurd (let z : ◌≡◌ {A = ℕ} 0 1 = cc in omega arith)

  found : Found (parts_in t).whole
  found = found_by (parts_in t).whole (e ∙ scan_is t)

  good_is : (b : Bool) → good_by t s ≡ b → is_whole (parts_in t) ≡ b
  good_is b g =
      whole_by t found.whole
      ∙ ap (λ (n : ℕ). good_by t (symbol n (places_in t))) (sym found.place)
      ∙ ap (λ (l : List ℕ). good_by t (symbol s.place l)) (sym found.places) ∙ g

  -- by the test for a good text
  read_as : (b : Bool) → length t ≤ longest → good_by t s ≡ b → read_of t ≡ (if b then Ok (rule_of (parts_in t).value) else Err s.place)
  read_as b short g =
      read_by t short
      ∙ ap (λ (x : Bool). if x then Ok (rule_of (parts_in t).value) else Err (parts_in t).place) (good_is b g)
      ∙ ap (λ (n : ℕ). if b then Ok (rule_of (parts_in t).value) else Err n) (sym found.place)

  pub read_refused : length t ≤ longest → good_by t s ≡ false → read_of t ≡ Err s.place
  read_refused short g = read_as false short g

  -- a value that has a place stands there
  pub all_standing : AllStanding s.value t
  all_standing = record { each = λ i h. rw found.places (go i h (get_or (places_in t) i 0) refl) }
    where
      go : (i : ℕ) → i < 14 → (q : ℕ) → get_or (places_in t) i 0 ≡ q → Standing (kind_of i) (get_or (places_in t) i 0) t
      go i h zero f = subst⁻¹ (λ (q : ℕ). Standing (kind_of i) q t) f (record { within = omega arith; is_whole = λ z. absurd (omega arith) })
      go i h (suc p) f =
          let x = whole_at_place t found.whole i p h f in
          subst⁻¹ (λ (q : ℕ). Standing (kind_of i) q t) f (record { within = x.1; is_whole = λ z. x.0 })

  -- and the rule is that of the values at the places
  pub read_rule : good_by t s ≡ true → length t ≤ longest → read_of t ≡ Ok (rule_at s.value t)
  unfolding rule_at
  read_rule g short =
      read_as true short g
      ∙ ap (λ (w : Raw). Ok w) (rule_by_places t found.whole ∙ ap rule_by (fun_ext (λ i. from_by i (get_or (places_in t) i 0) t
      ∙ ap (λ (l : List ℕ). value_by (kind_of i) (get_or l i 0) t) (sym found.places))))
