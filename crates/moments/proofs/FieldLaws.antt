-- Three fields and a letter, as a date and a time have them, read field by field.
-- Assumes nothing.
use Rattle.std.specs.Prelude.{Result, Ok, Err}
use Prim.Native.Nat.{ℕ, ◌+◌, ◌≤◌, ◌<◌}
use native.Mathlib.Omega.{arith}
use mathlib.Core.Path.{◌≡◌, refl, ap, ◌∙◌}
use mathlib.Core.Bool.{true, false}
use mathlib.Core.List.{List}
use lib.ListN.{length, drop}
use lib.Dec.{eqb}
use borrow.Author.Tests.{eq-eqb}
use Rattle.symbols.specs.Languages.{Both, both, Followed, Turned}
use Rattle.symbols.specs.Takes.{Took, Takes}
use Rattle.symbols.specs.Readers.{followed, turned, head_is}
use Rattle.symbols.specs.Counts.{Field, ten_to}
use Rattle.symbols.proofs.Behind.{takes_followed}
use Rattle.symbols.proofs.Single.{takes_byte}
use Rattle.symbols.proofs.Turning.{takes_turned}
use Rattle.symbols.proofs.Numerals.{takes_field}
use Rattle.recur.specs.declared.Symbol.{Symbol}
use Rattle.recur.specs.Grammar.{Letter}
use Rattle.recur.specs.Reading.{letter_at, field_at}
use Rattle.recur.specs.Shown.{shown}
use Rattle.recur.proofs.Heads.{filled_byte}
use Rattle.recur.proofs.Instances.{Any}
use Rattle.recur.proofs.Parted.{place_in}
use Rattle.recur.proofs.ShownLaws.{symbol, whole_is, place_is, value_is, turned_whole, turned_stopped}
use Rattle.moments.specs.Lettered.{lettered_at}
use Rattle.moments.proofs.ReadLaws.{both_stopped, both_on, letter_there, letter_missing}

-- ---- a field

-- a number is its own value
abbrev itself : ℕ → ℕ
itself n = n

-- A field of k digits, from low to high, that begins within the text and is whole.
pub record WholeField (k low high : ℕ) (t : List ℕ) (at : ℕ) (r : Symbol ℕ) : Type 0 where
  pub is : Ok r ≡ shown (field_at k low high at (drop at t))
  pub some : low ≤ high
  pub fits : high < ten_to k
  pub within : at ≤ length t

module _ {k low high : ℕ} {t : List ℕ} {at : ℕ} {r : Symbol ℕ} (x : WholeField k low high t at r) where
  takes : Takes ℕ (field_at k low high) (Field k low high) Any
  takes = takes_field k low high x.some x.fits

  pub in_range_lem : (low ≤ r.value) × (r.value ≤ high)
  in_range_lem =
      let n = field_at k low high at (drop at t) in
      let f = (takes.outcome at (drop at t)).good (whole_is itself n r x.is) in
      let e : r.value ≡ n.value = value_is itself n r x.is in
      (omega (arith, f.least), omega (arith, f.greatest))

  pub ends_within : r.place ≤ length t
  ends_within = omega (arith, place_is itself (field_at k low high at (drop at t)) r x.is, (place_in takes at t x.within).1)

-- ---- a field of two digits and a letter

module _ (low high letter : ℕ) (t : List ℕ) (at : ℕ) where
  abbrev pub lettered_shown : Result (Symbol ℕ) ℕ
  lettered_shown = shown (lettered_at low high letter at (drop at t))

  pub no_number : (p : ℕ) → Err p ≡ shown (field_at 2 low high at (drop at t)) → Err p ≡ lettered_shown
  no_number = both_stopped (field_at 2 low high) itself (λ (n : ℕ). letter_at letter) 0 (λ (n : ℕ) (b : ℕ). n) t at

  module _ (r : Symbol ℕ) (x : WholeField 2 low high t at r) where
    on : shown (turned (λ (b : ℕ). r.value) (letter_at letter) r.place (drop r.place t)) ≡ lettered_shown
    on = both_on (field_at 2 low high) itself (λ (n : ℕ). letter_at letter) 0 (λ (n : ℕ) (b : ℕ). n) t at r x.is (takes x)

    pub no_letter : head_is letter (drop r.place t) ≡ false → Err r.place ≡ lettered_shown
    no_letter e = letter_missing letter r.value r.place (drop r.place t) e ∙ on

    pub with_letter : head_is letter (drop r.place t) ≡ true → Ok (symbol (r.place + 1) r.value) ≡ lettered_shown
    with_letter e = letter_there letter r.value r.place (drop r.place t) e ∙ on

  -- the number before the letter
  abbrev number : Both ℕ ℕ → ℕ
  number v = v.first

  takes_lettered : low ≤ high → high < ten_to 2
      → Takes ℕ (lettered_at low high letter) (Turned (Both ℕ ℕ) ℕ number (Followed ℕ ℕ (Field 2 low high) (λ (n : ℕ). Letter letter))) Any
  takes_lettered some fits =
      takes_turned _ _ _ _ _ _
      (takes_followed _ _ _ _ _ _ _ Any Any (takes_field 2 low high some fits) (λ n xs d. takes_byte (eqb letter) letter (eq-eqb letter letter refl))
      (λ n. filled_byte (eqb letter)) (λ n b c zs d. tt))

  pub number_in_range : (r : Symbol ℕ) → Ok r ≡ lettered_shown → low ≤ high → high < ten_to 2 → (low ≤ r.value) × (r.value ≤ high)
  number_in_range r e some fits =
      let n = lettered_at low high letter at (drop at t) in
      let f = ((takes_lettered some fits).outcome at (drop at t)).good (whole_is itself n r e) in
      let v : r.value ≡ n.value = value_is itself n r e in
      let u : n.value ≡ f.from.first = f.turned in
      (omega (arith, f.spelled.left.least), omega (arith, f.spelled.left.greatest))

-- ---- three fields, and a letter behind the third; the third's highest may hang on the first two, and f says what the three come to

module _ (k a b c d e : ℕ) (top : ℕ → ℕ → ℕ) (letter : ℕ) (f : ℕ → ℕ → ℕ → ℕ) where
  abbrev after_two : ℕ → ℕ → ℕ → List ℕ → Took (Both ℕ ℕ)
  after_two u v = followed (field_at 2 e (top u v)) (λ (w : ℕ). letter_at letter) 0

  abbrev with_two : ℕ → ℕ → Both ℕ ℕ → ℕ
  with_two u v z = f u v z.first

  abbrev after_one : ℕ → ℕ → List ℕ → Took (Both ℕ (Both ℕ ℕ))
  after_one u = followed (field_at 2 c d) (λ (v : ℕ). after_two u v) (both 0 0)

  abbrev with_one : ℕ → Both ℕ (Both ℕ ℕ) → ℕ
  with_one u z = with_two u z.first z.second

  abbrev fields_at : ℕ → List ℕ → Took ℕ
  fields_at =
      turned (λ (z : Both ℕ (Both ℕ (Both ℕ ℕ))). with_one z.first z.second) (followed (field_at k a b) (λ (u : ℕ). after_one u) (both 0 (both 0 0)))

  module _ (t : List ℕ) (at : ℕ) where
    abbrev pub fields_shown : Result (Symbol ℕ) ℕ
    fields_shown = shown (fields_at at (drop at t))

    pub no_first : (p : ℕ) → Err p ≡ shown (field_at k a b at (drop at t)) → Err p ≡ fields_shown
    no_first = both_stopped (field_at k a b) itself after_one (both 0 (both 0 0)) with_one t at

    module _ (u : Symbol ℕ) (x : WholeField k a b t at u) where
      on_one : shown (turned (with_one u.value) (after_one u.value) u.place (drop u.place t)) ≡ fields_shown
      on_one = both_on (field_at k a b) itself after_one (both 0 (both 0 0)) with_one t at u x.is (takes x)

      pub no_second : (p : ℕ) → Err p ≡ shown (field_at 2 c d u.place (drop u.place t)) → Err p ≡ fields_shown
      no_second p h = both_stopped (field_at 2 c d) itself (after_two u.value) (both 0 0) (with_two u.value) t u.place p h ∙ on_one

      -- the third, as it is read with a highest and a letter
      module _ (v : Symbol ℕ) (y : WholeField 2 c d t u.place v) (high sign : ℕ) (is-top : high ≡ top u.value v.value) (is-letter : sign ≡ letter) where
        abbrev third : Took (Both ℕ ℕ)
        third = after_two u.value v.value v.place (drop v.place t)

        on_two : shown (turned (with_two u.value v.value) (after_two u.value v.value) v.place (drop v.place t)) ≡ fields_shown
        on_two =
            both_on (field_at 2 c d) itself (after_two u.value) (both 0 0) (with_two u.value) t u.place v y.is (takes y) ∙ on_one

        third_is : shown (lettered_at e high sign v.place (drop v.place t)) ≡ shown (lettered_at e (top u.value v.value) letter v.place (drop v.place t))
        third_is =
            ap (λ (n : ℕ). shown (lettered_at e n sign v.place (drop v.place t))) is-top
            ∙ ap (λ (n : ℕ). shown (lettered_at e (top u.value v.value) n v.place (drop v.place t))) is-letter

        pub no_third : (p : ℕ) → Err p ≡ shown (lettered_at e high sign v.place (drop v.place t)) → Err p ≡ fields_shown
        no_third p h = turned_stopped (λ (z : Both ℕ ℕ). z.first) third p (h ∙ third_is) (with_two u.value v.value) ∙ on_two

        pub all_three : (w : Symbol ℕ) → Ok w ≡ shown (lettered_at e high sign v.place (drop v.place t))
            → (n : ℕ) → n ≡ f u.value v.value w.value → Ok (symbol w.place n) ≡ fields_shown
        all_three w h n q =
            ap (λ (m : ℕ). Ok (symbol w.place m)) q
            ∙ turned_whole (λ (z : Both ℕ ℕ). z.first) third w (h ∙ third_is) (λ (m : ℕ). f u.value v.value m) ∙ on_two
