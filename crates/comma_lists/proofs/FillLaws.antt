-- The slots of a list that is whole, an entry at a time.
-- Assumes nothing.
use Prim.Native.Nat.{ℕ, suc, ◌+◌, ◌-◌, ◌≤◌, ◌<◌}
use native.Mathlib.Omega.{arith}
use native.Mathlib.Numerals.{add-one}
use mathlib.Core.Path.{◌≡◌, sym, ap, ◌∙◌}
use mathlib.Core.Bool.{Bool, true, false, ◌&&◌}
use mathlib.Core.List.{List, [], ◌∷◌}
use lib.ListN.{length, drop, set}
use lib.Seq.{sets}
use lib.IntN.{ℤ}
use Rattle.symbols.specs.Takes.{Took}
use Rattle.symbols.specs.Readers.{head_is, single, after}
use Rattle.recur.specs.Grammar.{comma}
use Rattle.comma_lists.proofs.ListLaws.{Lists, Seen, first_whole, next, ends, none_left, past_comma}

-- ---- slots

-- Slots that were and are: with those still left from a count on all are put.
pub record Stored (was is : List ℤ) (count : ℕ) (all left : List ℤ) : Type 0 where
  pub slots : sets is count left ≡ sets was 0 all

-- one is put
pub stored_on : {was is new : List ℤ} {count : ℕ} {all left more : List ℤ} {v : ℤ} → Stored was is count all left → (slot : ℕ) (z : ℤ)
    → new ≡ set is slot z → slot ≡ count → z ≡ v → left ≡ v ∷ more → Stored was new (count + 1) all more
stored_on {was} {is} {new} {count} {all} {left} {more} {v} s slot z n d f e = record {
  slots = ap (λ (k : ℕ). sets new k more) (add-one count)
      ∙ ap (λ (l : List ℤ). sets l (suc count) more) (n ∙ ap (λ (k : ℕ). set is k z) d ∙ ap (λ (y : ℤ). set is count y) f)
      ∙ sym (ap (λ (l : List ℤ). sets is count l) e) ∙ s.slots;
}

-- ---- entries

-- Of a list that is whole so many entries are read, and it goes on at this place.
pub record Fills {A : Type 0} (list : ℕ → ℕ → List ℕ → Took (List A)) (t : List ℕ) (at place count : ℕ) : Type 0 where
  pub inside : place ≤ length t
  pub few : count ≤ 748
  pub whole : (list (748 - count) place (drop place t)).whole ≡ true
  pub number : count + length (list (748 - count) place (drop place t)).value ≡ length (list 748 at (drop at t)).value

pub fills_first : {A : Type 0} (list : ℕ → ℕ → List ℕ → Took (List A)) (t : List ℕ) (at count : ℕ) → at ≤ length t → (list 748 at (drop at t)).whole ≡ true
    → count ≡ 0 → Fills list t at at count
fills_first {A} list t at count h w e =
    let f : 748 - count ≡ 748 = omega arith in
    let l : length (list (748 - count) at (drop at t)).value ≡ length (list 748 at (drop at t)).value =
    ap (λ (n : ℕ). length (list n at (drop at t)).value) f in
    record { inside = h; few = omega arith; whole = ap (λ (n : ℕ). (list n at (drop at t)).whole) f ∙ w; number = omega arith }

module _ {A : Type 0} {take : ℕ → List ℕ → Took A} {list : ℕ → ℕ → List ℕ → Took (List A)} (x : Lists take list) {t : List ℕ} {at place count : ℕ}
    (f : Fills list t at place count) where
  -- each entry is whole
  pub entry_whole : (take place (drop place t)).whole ≡ true
  entry_whole = first_whole x t place f.inside (748 - count) f.whole

  module _ {whole : Bool} {stop : ℕ} (s : Seen take t place whole stop) {more : Bool} (e : more ≡ head_is comma (drop stop t)) where
    test : (b : Bool) → more ≡ b → (whole && more) ≡ b
    test b d = ap (λ (w : Bool). w && more) (s.whole_is ∙ entry_whole) ∙ d

    goes_on : more ≡ true → count < 748
        → list (748 - count) place (drop place t)
        ≡ after (take place (drop place t)).value (list (748 - (count + 1)) (stop + 1) (drop (stop + 1) t))
    goes_on b h = next x t place f.inside s e (748 - count) (748 - (count + 1)) (omega arith) (test true b)

    -- behind the comma
    pub fills_on : more ≡ true → count < 748 → Fills list t at (stop + 1) (count + 1)
    fills_on b h =
        let v = goes_on b h in
        let l : length (list (748 - count) place (drop place t)).value ≡ suc (length (list (748 - (count + 1)) (stop + 1) (drop (stop + 1) t)).value) =
        ap (λ (k : Took (List A)). length k.value) v in
        record {
          inside = omega (arith, past_comma t stop e b);
          few = omega arith;
          whole = sym (ap (λ (k : Took (List A)). k.whole) v) ∙ f.whole;
          number = omega (arith, f.number);
        }

    -- the entry is the first of those left
    pub left_on : more ≡ true → count < 748
        → (list (748 - count) place (drop place t)).value ≡ (take place (drop place t)).value ∷ (list (748 - (count + 1)) (stop + 1) (drop (stop + 1) t)).value
    left_on b h = ap (λ (k : Took (List A)). k.value) (goes_on b h)

  -- The entry is the only one left.
  pub record Last : Type 0 where
    pub left : (list (748 - count) place (drop place t)).value ≡ (take place (drop place t)).value ∷ []
    pub number : count + 1 ≡ length (list 748 at (drop at t)).value

  is_last : list (748 - count) place (drop place t) ≡ single (take place (drop place t)) → Last
  is_last e =
      let l : length (list (748 - count) place (drop place t)).value ≡ 1 = ap (λ (k : Took (List A)). length k.value) e in
      record { left = ap (λ (k : Took (List A)). k.value) e; number = omega (arith, f.number) }

  -- no entry follows, or none may
  pub fills_off : {whole : Bool} {stop : ℕ} → Seen take t place whole stop → {more : Bool} → more ≡ head_is comma (drop stop t) → more ≡ false → Last
  fills_off s e b = is_last (ends x t place f.inside s e (748 - count) (test s e false b))

  pub fills_last : 748 ≤ count → Last
  fills_last h = is_last (none_left x t place f.inside (748 - count) (omega arith))
