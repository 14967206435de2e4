-- An entry of BYDAY, by its number and its weekday.
-- Assumes nothing.
use Rattle.std.specs.Prelude.{Ok, Err}
use Prim.Native.Nat.{ℕ, ◌≤◌}
use native.Mathlib.Omega.{arith}
use mathlib.Core.Path.{◌≡◌, refl, sym, ap, subst, ◌∙◌}
use mathlib.Core.Bool.{Bool, true, false}
use mathlib.Core.List.{List, [], ◌∷◌}
use lib.ListN.{length, drop}
use lib.IntN.{ℤ, pos}
use Rattle.symbols.specs.Languages.{Both, both}
use Rattle.symbols.specs.Takes.{Took, took}
use Rattle.symbols.specs.Readers.{with_first, followed, perhaps}
use Rattle.recur.specs.declared.Symbol.{Symbol}
use Rattle.recur.specs.Reading.{weekday_at, signed_at, is_numbered, nth_at, day_at}
use Rattle.recur.specs.Shown.{shown, shown_as, day_of}
use Rattle.recur.proofs.Instances.{takes_weekday, takes_signed}
use Rattle.recur.proofs.ShownLaws.{symbol, whole_is, place_is, value_is, not_whole, stop_is, turned_whole, turned_stopped}
use Rattle.comma_lists.specs.Lists.{Within}
use Rattle.comma_lists.specs.Inside.{takes_within}

-- ---- the number

perhaps_within : {A : Type 0} (starts : ℕ → Bool) (none : A) (take : ℕ → List ℕ → Took A) (at : ℕ) (t : List ℕ) → at ≤ length t
    → Within t at (take at (drop at t)) → Within t at (perhaps starts none take at (drop at t))
unfolding perhaps
perhaps_within {A} starts none take at t h w = go (drop at t) refl
  where
    go : (xs : List ℕ) → drop at t ≡ xs → Within t at (perhaps starts none take at xs)
    go [] e = record { rest = sym e; from = omega arith; to = h }
    go (b ∷ xs) e = by (starts b)
      where
        by : (x : Bool) → Within {A = A} t at (elim x as (λ (y : Bool). Took A) [ true ↦ take at (b ∷ xs) | false ↦ took true at (b ∷ xs) none ])
        by true = subst (λ (ys : List ℕ). Within t at (take at ys)) e w
        by false = record { rest = sym e; from = omega arith; to = h }

pub nth_within : (at : ℕ) (t : List ℕ) → at ≤ length t → Within t at (nth_at at (drop at t))
nth_within at t h = perhaps_within is_numbered (pos 0) (signed_at 1) at t h (takes_within (takes_signed 1 (omega arith)) at t h)

-- ---- the weekday

pub weekday_small : (at : ℕ) (xs : List ℕ) {d : Symbol ℕ} → Ok d ≡ shown (weekday_at at xs) → d.value ≤ 6
weekday_small at xs {d} e =
    let k = weekday_at at xs in
    omega (arith, value_is (λ (n : ℕ). n) k d e, ((takes_weekday.outcome at xs).good (whole_is (λ (n : ℕ). n) k d e)).there)

-- ---- both

day_by : (at : ℕ) (xs : List ℕ) (b : Bool) → (nth_at at xs).whole ≡ b
    → day_at at xs ≡ elim b as (λ (x : Bool). Took (Both ℤ ℕ)) [
      | true ↦ with_first (nth_at at xs).value (weekday_at (nth_at at xs).place (nth_at at xs).rest)
      | false ↦ took false (nth_at at xs).place (nth_at at xs).rest (both (nth_at at xs).value 0)
    ]
unfolding day_at followed
day_by at xs b e =
    ap (λ (y : Bool). elim y as (λ (x : Bool). Took (Both ℤ ℕ)) [
      | true ↦ with_first (nth_at at xs).value (weekday_at (nth_at at xs).place (nth_at at xs).rest)
      | false ↦ took false (nth_at at xs).place (nth_at at xs).rest (both (nth_at at xs).value 0)
    ]) e

module _ (at : ℕ) (t : List ℕ) where
  -- the number isn't whole
  pub no_number : (p : ℕ) → Err p ≡ shown (nth_at at (drop at t)) → Err p ≡ shown_as day_of (day_at at (drop at t))
  no_number p e =
      let k = nth_at at (drop at t) in
      ap (λ (q : ℕ). Err q) (stop_is (λ (z : ℤ). z) k p e)
      ∙ sym (ap (λ (d : Took (Both ℤ ℕ)). shown_as day_of d) (day_by at (drop at t) false (not_whole (λ (z : ℤ). z) k p e)))

  module _ (n : Symbol ℤ) (e : Ok n ≡ shown (nth_at at (drop at t))) (h : at ≤ length t) where
    -- the weekday is read behind it
    behind_number : day_at at (drop at t) ≡ with_first n.value (weekday_at n.place (drop n.place t))
    behind_number =
        let k = nth_at at (drop at t) in
        day_by at (drop at t) true (whole_is (λ (z : ℤ). z) k n e)
        ∙ ap (λ (r : List ℕ). with_first k.value (weekday_at k.place r)) (nth_within at t h).rest
        ∙ sym (ap (λ (p : ℕ). with_first k.value (weekday_at p (drop p t))) (place_is (λ (z : ℤ). z) k n e))
        ∙ sym (ap (λ (v : ℤ). with_first v (weekday_at n.place (drop n.place t))) (value_is (λ (z : ℤ). z) k n e))

    pub number_ends : n.place ≤ length t
    number_ends = omega (arith, (nth_within at t h).to, place_is (λ (z : ℤ). z) (nth_at at (drop at t)) n e)

    pub no_weekday : (p : ℕ) → Err p ≡ shown (weekday_at n.place (drop n.place t)) → Err p ≡ shown_as day_of (day_at at (drop at t))
    no_weekday p f =
        turned_stopped (λ (v : ℕ). v) (weekday_at n.place (drop n.place t)) p f (λ (v : ℕ). day_of (both n.value v))
        ∙ sym (ap (λ (d : Took (Both ℤ ℕ)). shown_as day_of d) behind_number)

    pub whole_day : (d : Symbol ℕ) → Ok d ≡ shown (weekday_at n.place (drop n.place t)) → (nth weekday : ℤ) → nth ≡ n.value → weekday ≡ pos d.value
        → Ok (symbol d.place (record { nth = nth; weekday = weekday })) ≡ shown_as day_of (day_at at (drop at t))
    whole_day d f nth weekday l m =
        ap (λ (z : ℤ). Ok (symbol d.place (record { nth = z; weekday = weekday }))) l
        ∙ ap (λ (w : ℤ). Ok (symbol d.place (record { nth = n.value; weekday = w }))) m
        ∙ turned_whole (λ (v : ℕ). v) (weekday_at n.place (drop n.place t)) d f (λ (v : ℕ). day_of (both n.value v))
        ∙ sym (ap (λ (d : Took (Both ℤ ℕ)). shown_as day_of d) behind_number)
