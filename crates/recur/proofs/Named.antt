-- The name of a part, read within a text: it is open, its value stands within the text, and what is left is the text from there on.
-- Assumes nothing.
use Rattle.std.specs.Prelude.{None}
use Prim.Native.Nat.{ℕ, zero, suc, ◌+◌, ◌≤◌, ◌<◌}
use native.Mathlib.Omega.{arith}
use mathlib.Core.Path.{◌≡◌, refl, ap, ◌∙◌}
use mathlib.Core.Logic.{◌⊎◌, inl, inr, ⊎_elim}
use mathlib.Core.Bool.{Bool, true, false}
use mathlib.Core.List.{List, [], ◌∷◌}
use lib.ListN.{length, drop}
use Rattle.symbols.specs.Languages.{pick, is_used, word_at, Spelled}
use Rattle.symbols.specs.Takes.{Took, Outcome, Takes}
use Rattle.symbols.specs.Readers.{common, best, has_word, better, offer, choose, word}
use Rattle.symbols.proofs.Tables.{apart_all, capital_all, takes_table}
use Rattle.recur.specs.Grammar.{names}
use Rattle.recur.proofs.Parted.{rest_is, place_in}
use Rattle.recur.proofs.Heads.{all_begun, filled_word}
use Rattle.recur.proofs.Flags.{Open}

-- ---- where no word is open, none is read

-- a word is open, or all are used up
open_or_used : (s : List Bool) → Open s ⊎ ((i : ℕ) → is_used s i ≡ true)
open_or_used [] = inr (λ (i : ℕ). refl)
open_or_used (false ∷ s) = inl (record { which = 0; there = omega arith; unused = refl })
open_or_used (true ∷ s) = ⊎_elim
    (λ (o : Open s). inl (record { which = suc o.which; there = omega arith; unused = o.unused }))
    (λ (f : (i : ℕ) → is_used s i ≡ true). inr (up f))
    (open_or_used s)
  where
    up : ((i : ℕ) → is_used s i ≡ true) → (i : ℕ) → is_used (true ∷ s) i ≡ true
    up f zero = refl
    up f (suc i) = f i

module _ (words : List (List ℕ)) (seen : List Bool) (used : (i : ℕ) → is_used seen i ≡ true) where
  -- the best match stays as it was
  offer_none : (i : ℕ) (t : List ℕ) → offer words seen i (best None 0) t ≡ best None 0
  unfolding offer
  offer_none i t = ap (λ (y : Bool). pick y (best None 0) (better (common (word_at words i) t) (length (word_at words i)) i (best None 0))) (used i)

  choose_none : (n i : ℕ) (t : List ℕ) → choose words seen n i (best None 0) t ≡ best None 0
  unfolding choose
  choose_none zero i t = refl
  choose_none (suc n) i t = ap (λ k. choose words seen n (i + 1) k t) (offer_none i t) ∙ choose_none n (i + 1) t

  word_none : (at : ℕ) (t : List ℕ) → (word words seen at t).whole ≡ false
  unfolding word
  word_none at t = ap has_word (choose_none (length words) 0 t)

-- ---- a name that is read whole

module _ (seen : List Bool) (at : ℕ) (t : List ℕ) where
  -- the name that stands at a place of the text
  abbrev pub name_in : Took ℕ
  name_in = word names seen at (drop at t)

  -- the name is open, some bytes of the text spell it, and what is left is the text from its place on
  pub record NameRead : Type 0 where
    pub there : name_in.value < 14
    pub unused : is_used seen name_in.value ≡ false
    pub above : at < name_in.place
    pub within : name_in.place ≤ length t
    pub left : name_in.rest ≡ drop name_in.place t

  -- a name has bytes
  above_by : (used : List ℕ) → Spelled names seen name_in.value used → name_in.place ≡ at + length used → at < name_in.place
  unfolding all_begun
  above_by [] d e = absurd (filled_word names refl seen name_in.value d)
  above_by (b ∷ used) d e = omega arith

  -- Where the reader of names is whole, a name is open: so the reader keeps to what it should.
  pub name_read : length seen ≡ 14 → at ≤ length t → name_in.whole ≡ true → NameRead
  unfolding apart_all capital_all
  name_read l h w = ⊎_elim
      (λ (o : Open seen). read (takes_table names refl refl seen o.which (omega arith) o.unused))
      (λ (u : (i : ℕ) → is_used seen i ≡ true). absurd (none u))
      (open_or_used seen)
    where
      none : ((i : ℕ) → is_used seen i ≡ true) → ⊥
      none u = let f : name_in.whole ≡ false = word_none names seen u at (drop at t) in let z : ◌≡◌ {A = ℕ} 0 1 = cc in omega arith

      read : Takes ℕ (word names seen) (Spelled names seen) (λ (b : ℕ). Unit {0}) → NameRead
      read x =
          let o : Outcome ℕ (Spelled names seen) at (drop at t) name_in = x.outcome at (drop at t) in
          record {
            there = (o.good w).there;
            unused = (o.good w).unused;
            above = above_by o.used (o.good w) o.stands;
            within = (place_in x at t h).1;
            left = rest_is x at t;
          }
