-- What stands at a place, and what the code has read there.
-- Assumes nothing.
use Rattle.std.specs.Prelude.{if◌then◌else◌, Result, Ok, IsOk}
use Prim.Native.Nat.{ℕ, zero, suc, ◌≤◌, ◌<◌}
use native.Mathlib.Omega.{arith}
use mathlib.Core.Path.{◌≡◌, refl, sym, ap, ◌∙◌, subst⁻¹}
use mathlib.Core.Bool.{Bool, true, false, ◌&&◌, ◌||◌}
use mathlib.Core.List.{List}
use lib.ListN.{drop}
use lib.Dec.{eqb, leb}
use borrow.Author.Tests.{ne_eqb}
use Rattle.calendar.proofs.Table.{same_below}
use Rattle.symbols.specs.Takes.{Took, took, Takes}
use Rattle.symbols.specs.Readers.{turned_into}
use Rattle.recur.specs.declared.Symbol.{Symbol}
use Rattle.recur.specs.Grammar.{Value, absent, number, Kind, frequency, up_to_high, moment, weekday, entries, day_entries, kind_of}
use Rattle.recur.specs.Reading.{value_at}
use Rattle.recur.specs.Shown.{stopped, shown}
use Rattle.recur.proofs.ShownLaws.{whole_is, value_is, is_shown}
use Rattle.parser.specs.Scans.{place_of, stop_at}
use Rattle.parser.specs.Values.{value_by, Standing}

-- ---- a place is 0, or a value stands there

pub none_at : (k : Kind) (place : ℕ) (t : List ℕ) → place ≡ 0 → value_by k place t ≡ absent
unfolding value_by
none_at k zero t e = refl
none_at k (suc p) t e = absurd (omega arith)

pub value_there : (k : Kind) (place : ℕ) (t : List ℕ) → 0 < place → value_by k place t ≡ (value_at k place (drop place t)).value
unfolding value_by
value_there k zero t h = absurd (omega arith)
value_there k (suc p) t h = refl

-- ---- a number that the code has read

-- it is spelled by some bytes
pub spelled : {take : ℕ → List ℕ → Took ℕ} {L : ℕ → List ℕ → Type 0} {P : ℕ → Type 0} (y : Takes ℕ take L P) (at : ℕ) (t : List ℕ) (r : Symbol ℕ)
    → Ok r ≡ shown (take at t) → (used : List ℕ) × L r.value used
spelled {take} {L} y at t r e = (
  (y.outcome at t).used,
  subst⁻¹ (λ (v : ℕ). L v (y.outcome at t).used) (value_is (λ (v : ℕ). v) (take at t) r e) ((y.outcome at t).good (whole_is (λ (v : ℕ). v) (take at t) r e)),
)

-- a number stands at a place
module _ {k : Kind} {place : ℕ} {t : List ℕ} (s : Standing k place t) (h : 0 < place) (x : Took ℕ) (e : value_at k place (drop place t) ≡ turned_into number x) where
  -- it is read there
  pub is_read : {r : Result (Symbol ℕ) ℕ} → r ≡ shown x → IsOk r
  is_read {r} q = subst⁻¹ (λ (y : Result (Symbol ℕ) ℕ). IsOk y) q (is_shown x (sym (ap (λ (y : Took Value). y.whole) e) ∙ s.is_whole h))

  -- the value at its place is that number
  pub value_shown : (r : Symbol ℕ) → Ok r ≡ shown x → value_by k place t ≡ number r.value
  value_shown r q = value_there k place t h ∙ ap (λ (y : Took Value). y.value) e ∙ ap number (sym (value_is (λ (v : ℕ). v) x r q))

-- ---- where a value stops

-- the kinds as the code asks for them
abbrev asked : ℕ → Kind
asked n =
    if eqb n 0 then frequency
    else if eqb n 1 then up_to_high 65535
    else if eqb n 2 then up_to_high 4294967295
    else if eqb n 3 then moment
    else if eqb n 4 then weekday
    else if eqb n 9 then day_entries
    else entries ((leb 6 n && leb n 8) || eqb n 13)

-- every name but six has a list of numbers
pub list_kind : (n : ℕ) → n ≤ 13 → (n ≡ 0 → ⊥) → (n ≡ 1 → ⊥) → (n ≡ 2 → ⊥) → (n ≡ 3 → ⊥) → (n ≡ 4 → ⊥) → (n ≡ 9 → ⊥)
    → kind_of n ≡ entries ((leb 6 n && leb n 8) || eqb n 13)
list_kind n h a b c d e f =
    same_below (λ (k : ℕ). kind_of k) asked frequency 14 refl n (omega arith)
    ∙ rw (ne_eqb n 0 a, ne_eqb n 1 b, ne_eqb n 2 c, ne_eqb n 3 d, ne_eqb n 4 e, ne_eqb n 9 f)

-- by the kind of the name
pub stop_by : (k : Kind) (name at : ℕ) (t : List ℕ) (r : Result ℕ ℕ) → kind_of name ≡ k → r ≡ stopped (value_at k at (drop at t)) → r ≡ stop_at name at t
unfolding stop_at
stop_by k name at t r e f = f ∙ ap (λ (x : Kind). stopped (value_at x at (drop at t))) (sym e)

place_shown : (k : Took ℕ) → place_of (shown k) ≡ stopped k
place_shown k = go k.whole
  where
    go : (b : Bool) → place_of (shown (took b k.place k.rest k.value)) ≡ stopped (took b k.place k.rest k.value)
    go true = refl
    go false = refl

-- of a number the code has read more
module _ (take : ℕ → List ℕ → Took ℕ) (k : Kind) (e : (at : ℕ) (t : List ℕ) → value_at k at t ≡ turned_into number (take at t)) where
  pub stop_number_lem : (name at : ℕ) (t : List ℕ) (x : Result (Symbol ℕ) ℕ) (r : Result ℕ ℕ) → kind_of name ≡ k → x ≡ shown (take at (drop at t))
      → r ≡ place_of x → r ≡ stop_at name at t
  stop_number_lem name at t x r f g h =
      stop_by k name at t r f (h ∙ ap (λ (y : Result (Symbol ℕ) ℕ). place_of y) g ∙ place_shown (take at (drop at t))
      ∙ sym (ap (λ (y : Took Value). stopped y) (e at (drop at t))))
