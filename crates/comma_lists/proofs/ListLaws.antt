-- Lists within a text, for any kind of entry: what a list comes to by its first entry.
-- Assumes nothing.
use Rattle.std.specs.Prelude.{Ok}
use Prim.Native.Nat.{ℕ, zero, suc, ◌+◌, ◌≤◌, ◌<◌}
use native.Mathlib.Numerals.{add-one}
use mathlib.Core.Path.{◌≡◌, refl, sym, ap, ◌∙◌}
use mathlib.Core.Bool.{Bool, true, false, ◌&&◌}
use mathlib.Core.List.{List, map}
use lib.ListN.{length, drop}
use lib.IntN.{ℤ}
use Rattle.symbols.specs.Languages.{Both}
use Rattle.symbols.specs.Takes.{Took}
use Rattle.symbols.specs.Readers.{head_is, behind, single, after, goes_on, joined, turned, turned_into}
use Rattle.recur.specs.declared.Symbol.{Symbol}
use Rattle.recur.specs.declared.Day.{Day}
use Rattle.recur.specs.Grammar.{comma, stays}
use Rattle.recur.specs.Reading.{entry_at, day_at, entries_at, days_at}
use Rattle.recur.specs.Shown.{shown, shown_as, day_of}
use Rattle.recur.proofs.Instances.{takes_day}
use Rattle.recur.proofs.Parted.{joined_by, behind_drop}
use Rattle.recur.proofs.ShownLaws.{whole_is, place_is, value_is}
use Rattle.numerals.proofs.ByteLaws.{stands}
use Rattle.comma_lists.specs.Lists.{Within, list_of}
use Rattle.comma_lists.specs.Inside.{takes_within}

-- ---- readers of lists

-- `list` reads entries joined by commas, each as `take` does.
pub record Lists {A : Type 0} (take : ℕ → List ℕ → Took A) (list : ℕ → ℕ → List ℕ → Took (List A)) : Type 0 where
  pub on : (n at : ℕ) (t : List ℕ) → goes_on comma (take at t) ≡ true
      → list (suc n) at t ≡ after (take at t).value (list n ((take at t).place + 1) (behind (take at t).rest))
  pub off : (n at : ℕ) (t : List ℕ) → goes_on comma (take at t) ≡ false → list (suc n) at t ≡ single (take at t)
  pub last : (at : ℕ) (t : List ℕ) → list zero at t ≡ single (take at t)
  pub within : (at : ℕ) (t : List ℕ) → at ≤ length t → Within t at (take at (drop at t))

pub lists : {A : Type 0} (take : ℕ → List ℕ → Took A) → ((at : ℕ) (t : List ℕ) → at ≤ length t → Within t at (take at (drop at t))) → Lists take (list_of take)
unfolding list_of joined
lists take within = record {
  on = λ n at t e. joined_by (λ (u : Unit {0}). take) stays comma n tt at t true e;
  off = λ n at t e. joined_by (λ (u : Unit {0}). take) stays comma n tt at t false e;
  last = λ at t. refl;
  within = within;
}

-- a list of turned entries is the turned list
pub turned_list : {A B : Type 0} (f : A → B) (take : ℕ → List ℕ → Took A) (n at : ℕ) (t : List ℕ)
    → list_of (turned f take) n at t ≡ turned_into (λ (xs : List A). map f xs) (list_of take n at t)
unfolding list_of joined
turned_list f take zero at t = refl
turned_list {A} {B} f take (suc n) at t = go (goes_on comma (take at t)) (turned_list f take n ((take at t).place + 1) (behind (take at t).rest))
  where
    go : (b : Bool) → list_of (turned f take) n ((take at t).place + 1) (behind (take at t).rest)
        ≡ turned_into (λ (xs : List A). map f xs) (list_of take n ((take at t).place + 1) (behind (take at t).rest))
        → ◌≡◌ {A = Took (List B)}
        (elim b as (λ (x : Bool). Took (List B)) [
          | true ↦ after (f (take at t).value) (list_of (turned f take) n ((take at t).place + 1) (behind (take at t).rest))
          | false ↦ single (turned f take at t)
        ])
        (turned_into (λ (xs : List A). map f xs) (elim b as (λ (x : Bool). Took (List A)) [
          | true ↦ after (take at t).value (list_of take n ((take at t).place + 1) (behind (take at t).rest))
          | false ↦ single (take at t)
        ]))
    go true e = ap (λ (k : Took (List B)). after (f (take at t).value) k) e
    go false e = refl

-- the lists of the grammar
pub list_of_entries : (signs : Bool) (n at : ℕ) (t : List ℕ) → list_of (entry_at signs) n at t ≡ entries_at signs n at t
unfolding list_of entries_at
list_of_entries signs n at t = refl

pub list_of_days : (f : Both ℤ ℕ → ℤ) (n at : ℕ) (t : List ℕ)
    → list_of (turned f day_at) n at t ≡ turned_into (λ (ds : List (Both ℤ ℕ)). map f ds) (days_at n at t)
unfolding list_of days_at
list_of_days f n at t = turned_list f day_at n at t

pub day_lists : Lists day_at days_at
unfolding list_of days_at
day_lists = lists day_at (takes_within takes_day)

-- What the code has seen of the entry at a place: whether it is whole, and the place behind it.
pub record Seen {A : Type 0} (take : ℕ → List ℕ → Took A) (t : List ℕ) (at : ℕ) (whole : Bool) (place : ℕ) : Type 0 where
  pub whole_is : whole ≡ (take at (drop at t)).whole
  pub place_is : place ≡ (take at (drop at t)).place

-- An entry that stands at a place of a text, and whether a comma stands behind it.
module _ {A : Type 0} {take : ℕ → List ℕ → Took A} {list : ℕ → ℕ → List ℕ → Took (List A)} (x : Lists take list)
    (t : List ℕ) (at : ℕ) (h : at ≤ length t) where
  -- the entry is whole where the list is
  pub first_whole : (n : ℕ) → (list n at (drop at t)).whole ≡ true → (take at (drop at t)).whole ≡ true
  first_whole zero e = sym (ap (λ (k : Took (List A)). k.whole) (x.last at (drop at t))) ∙ e
  first_whole (suc n) e = go (take at (drop at t)).whole refl
    where
      go : (b : Bool) → (take at (drop at t)).whole ≡ b → b ≡ true
      go true f = refl
      go false f =
          let o : list (suc n) at (drop at t) ≡ single (take at (drop at t)) =
          x.off n at (drop at t) (ap (λ (b : Bool). b && head_is comma (take at (drop at t)).rest) f) in
          sym f ∙ sym (ap (λ (k : Took (List A)). k.whole) o) ∙ e

  module _ {whole more : Bool} {place : ℕ} (s : Seen take t at whole place) (e : more ≡ head_is comma (drop place t)) where
    goes : goes_on comma (take at (drop at t)) ≡ (whole && more)
    goes =
        sym (ap (λ (b : Bool). b && more) s.whole_is ∙ ap (λ (b : Bool). (take at (drop at t)).whole && b)
        (e ∙ ap (λ (p : ℕ). head_is comma (drop p t)) s.place_is ∙ ap (λ (r : List ℕ). head_is comma r) (sym (x.within at t h).rest)))

    -- the list goes on behind the comma
    pub next : (n m : ℕ) → n ≡ m + 1 → (whole && more) ≡ true
        → list n at (drop at t) ≡ after (take at (drop at t)).value (list m (place + 1) (drop (place + 1) t))
    next n m d b =
        let k = take at (drop at t) in
        ap (λ (i : ℕ). list i at (drop at t)) (d ∙ add-one m)
        ∙ x.on m at (drop at t) (goes ∙ b)
        ∙ ap (λ (r : List ℕ). after k.value (list m (k.place + 1) r)) (ap behind (x.within at t h).rest ∙ behind_drop k.place t)
        ∙ ap (λ (p : ℕ). after k.value (list m (p + 1) (drop (p + 1) t))) (sym s.place_is)

    -- or none follows
    pub ends : (n : ℕ) → (whole && more) ≡ false → list n at (drop at t) ≡ single (take at (drop at t))
    ends zero b = x.last at (drop at t)
    ends (suc n) b = x.off n at (drop at t) (goes ∙ b)

  -- or none may follow
  pub none_left : (n : ℕ) → n ≡ 0 → list n at (drop at t) ≡ single (take at (drop at t))
  none_left n e = ap (λ (i : ℕ). list i at (drop at t)) e ∙ x.last at (drop at t)

-- behind a comma the text goes on
pub past_comma : (t : List ℕ) (place : ℕ) {more : Bool} → more ≡ head_is comma (drop place t) → more ≡ true → place < length t
past_comma t place e b = (stands comma t place (sym e ∙ b)).inside

-- ---- what the code's types show

module _ (take : ℕ → List ℕ → Took ℤ) (t : List ℕ) (at : ℕ) {e : Symbol ℤ} (d : Ok e ≡ shown (take at (drop at t))) where
  pub seen : Seen take t at true e.place
  seen = record { whole_is = sym (whole_is (λ (z : ℤ). z) (take at (drop at t)) e d); place_is = place_is (λ (z : ℤ). z) (take at (drop at t)) e d }

  pub entry_value : e.value ≡ (take at (drop at t)).value
  entry_value = value_is (λ (z : ℤ). z) (take at (drop at t)) e d

module _ (t : List ℕ) (at : ℕ) {e : Symbol Day} (d : Ok e ≡ shown_as day_of (day_at at (drop at t))) where
  pub seen_day : Seen day_at t at true e.place
  seen_day = record { whole_is = sym (whole_is day_of (day_at at (drop at t)) e d); place_is = place_is day_of (day_at at (drop at t)) e d }

  pub day_value : e.value ≡ day_of (day_at at (drop at t)).value
  day_value = value_is day_of (day_at at (drop at t)) e d
