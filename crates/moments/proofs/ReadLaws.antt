-- What is answered where one reader stands behind another: where the first stops both do, and behind a whole first only the second is left.
-- Assumes nothing.
use Rattle.std.specs.Prelude.{if◌then◌else◌, Result, Ok, Err}
use Prim.Native.Nat.{ℕ, ◌+◌}
use native.Mathlib.Omega.{arith}
use mathlib.Core.Path.{◌≡◌, refl, sym, ap, ◌∙◌}
use mathlib.Core.Bool.{Bool, true, false}
use mathlib.Core.List.{List, [], ◌∷◌}
use lib.ListN.{drop}
use lib.Dec.{eqb}
use borrow.Author.Tests.{eqb-true, eqb-false, eq-eqb, ne_eqb}
use Rattle.symbols.specs.Languages.{Both, both}
use Rattle.symbols.specs.Takes.{Took, took, Takes}
use Rattle.symbols.specs.Readers.{byte, with_first, followed, turned_into, turned, head_is}
use Rattle.recur.specs.declared.Symbol.{Symbol}
use Rattle.recur.specs.Reading.{letter_at}
use Rattle.recur.specs.Shown.{shown}
use Rattle.recur.proofs.Parted.{rest_is}
use Rattle.recur.proofs.ShownLaws.{symbol, whole_is, place_is, value_is, not_whole, stop_is}

-- ---- one reader behind another

module _ {A B : Type 0} (take : ℕ → List ℕ → Took A) (next : A → ℕ → List ℕ → Took B) (none : B) (at : ℕ) (s : List ℕ) where
  abbrev both_by : Bool → Took (Both A B)
  both_by true = with_first (take at s).value (next (take at s).value (take at s).place (take at s).rest)
  both_by false = took false (take at s).place (take at s).rest (both (take at s).value none)

  both_by_lem : {b : Bool} → (take at s).whole ≡ b → followed take next none at s ≡ both_by b
  unfolding followed
  both_by_lem e = ap both_by e

-- The second reader hangs on the number that the first one's value is turned into, and so does, by h, the number that both come to.
module _ {A B : Type 0} (take : ℕ → List ℕ → Took A) (g : A → ℕ) (next : ℕ → ℕ → List ℕ → Took B) (none : B) (h : ℕ → B → ℕ)
    (t : List ℕ) (at : ℕ) where
  abbrev pub number : Both A B → ℕ
  number v = h (g v.first) v.second

  abbrev shown_both : Took (Both A B) → Result (Symbol ℕ) ℕ
  shown_both k = shown (turned_into number k)

  abbrev pub both_at : ℕ → List ℕ → Took (Both A B)
  both_at = followed take (λ (a : A). next (g a)) none

  by : {b : Bool} → (take at (drop at t)).whole ≡ b → both_at at (drop at t) ≡ both_by take (λ (a : A). next (g a)) none at (drop at t) b
  by w = both_by_lem take (λ (a : A). next (g a)) none at (drop at t) w

  -- where the first stops, both do
  pub both_stopped : (p : ℕ) → Err p ≡ shown (turned g take at (drop at t)) → Err p ≡ shown (turned number both_at at (drop at t))
  both_stopped p e =
      ap (λ (n : ℕ). Err n) (stop_is g (take at (drop at t)) p e) ∙ sym (ap shown_both (by (not_whole g (take at (drop at t)) p e)))

  pub both_on : {L : A → List ℕ → Type 0} {P : ℕ → Type 0} (r : Symbol ℕ) → Ok r ≡ shown (turned g take at (drop at t)) → Takes A take L P
      → shown (turned (h r.value) (next r.value) r.place (drop r.place t)) ≡ shown (turned number both_at at (drop at t))
  both_on r e x =
      let k : Took A = take at (drop at t) in
      sym (ap shown_both (by (whole_is g k r e))
      ∙ ap (λ (n : ℕ). shown (turned_into (h n) (next n k.place k.rest))) (sym (value_is g k r e))
      ∙ ap (λ (l : List ℕ). shown (turned_into (h r.value) (next r.value k.place l))) (rest_is x at t)
      ∙ ap (λ (n : ℕ). shown (turned_into (h r.value) (next r.value n (drop n t)))) (sym (place_is g k r e)))

-- ---- a letter behind the number n

module _ (letter n at : ℕ) where
  abbrev pub letter_shown : List ℕ → Result (Symbol ℕ) ℕ
  letter_shown s = shown (turned (λ (b : ℕ). n) (letter_at letter) at s)

  same_letter : (b : ℕ) (x : Bool) → eqb b letter ≡ x → eqb letter b ≡ x
  same_letter b true e = eq-eqb letter b (sym (eqb-true b letter e))
  same_letter b false e = ne_eqb letter b (λ f. eqb-false b letter e (sym f))

  letter_by : (b : ℕ) (s : List ℕ) (x : Bool) → eqb letter b ≡ x → (if x then Ok (symbol (at + 1) n) else Err at) ≡ letter_shown (b ∷ s)
  unfolding byte
  letter_by b s true e = rw (e, byte)
  letter_by b s false e = rw (e, byte)

  pub letter_there : (s : List ℕ) → head_is letter s ≡ true → Ok (symbol (at + 1) n) ≡ letter_shown s
  letter_there [] e = absurd (let z : ◌≡◌ {A = ℕ} 0 1 = cc in omega arith)
  letter_there (b ∷ s) e = letter_by b s true (same_letter b true e)

  pub letter_missing : (s : List ℕ) → head_is letter s ≡ false → Err at ≡ letter_shown s
  unfolding byte
  letter_missing [] e = refl
  letter_missing (b ∷ s) e = letter_by b s false (same_letter b false e)
