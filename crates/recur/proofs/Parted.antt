-- How a joined list goes on or ends, and where a reader stands that began within a text.
-- Assumes nothing.
use Prim.Native.Nat.{ℕ, zero, suc, ◌+◌, ◌-◌, ◌≤◌}
use native.Mathlib.Numerals.{add-one}
use native.Mathlib.Omega.{arith}
use mathlib.Core.Path.{◌≡◌, refl, sym, ap, ◌∙◌}
use mathlib.Core.Bool.{Bool, true, false}
use mathlib.Core.List.{List, [], ◌∷◌}
use lib.ListN.{length, drop, length-append, length-drop}
use lib.Seq.{drop-append_seam, drop-drop}
use Rattle.symbols.specs.Takes.{Took, Outcome, Takes}
use Rattle.symbols.specs.Readers.{behind, single, after, goes_on, joined}
use Rattle.recur.specs.Grammar.{with_used, semicolon}
use Rattle.recur.specs.Reading.{part_at, parts_at}

-- ---- lists: the next entry is read where the separator stands behind a whole one, and there alone

module _ {S A : Type 0} (take : S → ℕ → List ℕ → Took A) (next : S → A → S) (c n : ℕ) (s : S) (at : ℕ) (t : List ℕ) where
  abbrev going_on : Took A → Took (List A)
  going_on k = after k.value (joined take next c n (next s k.value) (k.place + 1) (behind k.rest))

  pub joined_by : (b : Bool) → goes_on c (take s at t) ≡ b
      → joined take next c (suc n) s at t ≡ elim b as (λ (x : Bool). Took (List A)) [ true ↦ going_on (take s at t) | false ↦ single (take s at t) ]
  unfolding joined
  joined_by b e = ap (λ (x : Bool). elim x as (λ (y : Bool). Took (List A)) [ true ↦ going_on (take s at t) | false ↦ single (take s at t) ]) e

module _ (n : ℕ) (seen : List Bool) (at : ℕ) (t : List ℕ) where
  pub parts_on : goes_on semicolon (part_at seen at t) ≡ true
      → parts_at (suc n) seen at t
      ≡ after (part_at seen at t).value (parts_at n (with_used seen (part_at seen at t).value) ((part_at seen at t).place + 1) (behind (part_at seen at t).rest))
  unfolding parts_at
  parts_on e = joined_by part_at with_used semicolon n seen at t true e

  pub parts_off : goes_on semicolon (part_at seen at t) ≡ false → parts_at (suc n) seen at t ≡ single (part_at seen at t)
  unfolding parts_at
  parts_off e = joined_by part_at with_used semicolon n seen at t false e

  pub parts_last : parts_at zero seen at t ≡ single (part_at seen at t)
  unfolding parts_at joined
  parts_last = refl

-- ---- a reader that begins within a text

-- past the separator
pub behind_drop : (n : ℕ) (t : List ℕ) → behind (drop n t) ≡ drop (n + 1) t
behind_drop zero [] = refl
behind_drop zero (b ∷ t) = refl
behind_drop (suc n) [] = rw add-one
behind_drop (suc n) (b ∷ t) = behind_drop n t ∙ rw (add-one, add-one)

module _ {A : Type 0} {take : ℕ → List ℕ → Took A} {L : A → List ℕ → Type 0} {P : ℕ → Type 0} (x : Takes A take L P) (at : ℕ) (t : List ℕ) where
  -- what is left is the text from the place on
  pub rest_is : (take at (drop at t)).rest ≡ drop (take at (drop at t)).place t
  rest_is =
      let o : Outcome A L at (drop at t) (take at (drop at t)) = x.outcome at (drop at t) in
      sym (ap (λ (n : ℕ). drop n t) o.stands ∙ sym (drop-drop (length o.used) at t)
      ∙ ap (λ (r : List ℕ). drop (length o.used) r) o.cut ∙ drop-append_seam o.used (take at (drop at t)).rest)

  pub place_in : at ≤ length t → (at ≤ (take at (drop at t)).place) × ((take at (drop at t)).place ≤ length t)
  place_in h =
      let o : Outcome A L at (drop at t) (take at (drop at t)) = x.outcome at (drop at t) in
      let s : (take at (drop at t)).place ≡ at + length o.used = o.stands in
      let l : length t - at ≡ length o.used + length (take at (drop at t)).rest =
      sym (length-drop at t) ∙ ap length o.cut ∙ length-append o.used (take at (drop at t)).rest in
      omega arith
