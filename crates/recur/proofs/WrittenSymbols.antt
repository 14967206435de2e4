-- The symbols of what is written, each as the grammar has it: one behind another, words, and lists.
-- Assumes nothing.
use Prim.Native.Nat.{ℕ, zero, suc, ◌+◌, ◌*◌, ◌≤◌, ◌<◌}
use native.Mathlib.Omega.{arith}
use native.Mathlib.Nat.{suc-mul, mul-le-mul_right}
use mathlib.Core.Path.{◌≡◌, refl}
use mathlib.Core.Bool.{Bool, true, false}
use mathlib.Core.List.{List, [], ◌∷◌, ◌++◌, map}
use lib.ListN.{length, length-append}
use lib.Dec.{leb}
use borrow.Author.Tests.{leb-true}
use Rattle.calendar.specs.Calendar.{tab}
use Rattle.calendar.proofs.Table.{same_below}
use Rattle.symbols.specs.Languages.{upper, is_used, word_at, Spelled, both, Followed, Joined, one, more}
use Rattle.recur.specs.Grammar.{names, frequencies, weekday_names, none_used, Freq, Weekday, stays, ListOf}
use Rattle.recur.specs.Writing.{joined_by}

-- a value's text: it is spelled, and in m bytes at most
pub record Short (A : Type 0) (L : A → List ℕ → Type 0) (f : A → List ℕ) (m : ℕ) (v : A) : Type 0 where
  pub spelled : L v (f v)
  pub short : length (f v) ≤ m

-- one symbol behind another
pub follows : {A B : Type 0} {L : A → List ℕ → Type 0} {M : A → B → List ℕ → Type 0} {a : A} {b : B} (xs ys : List ℕ) → L a xs → M a b ys
    → Followed A B L M (both a b) (xs ++ ys)
follows xs ys l m = record { xs = xs; ys = ys; left = l; right = m; whole = refl }

-- ---- words

-- of a table of n words in capitals, each of m bytes at most
module _ (words : List (List ℕ)) (n m : ℕ) (sized : n ≤ length words) (capitals : tab (λ (k : ℕ). map upper (word_at words k)) 0 n ≡ tab (word_at words) 0 n)
    (few : tab (λ (k : ℕ). leb (length (word_at words k)) m) 0 n ≡ tab (λ (k : ℕ). true) 0 n) where
  word_written : (seen : List Bool) (i : ℕ) → i < n → is_used seen i ≡ false → Short ℕ (Spelled words seen) (word_at words) m i
  word_written seen i h u = record {
    spelled = record {
      there = omega arith;
      unused = u;
      same = same_below (λ (k : ℕ). map upper (word_at words k)) (word_at words) [] n capitals i h;
    };
    short = leb-true _ _ (same_below (λ (k : ℕ). leb (length (word_at words k)) m) (λ (k : ℕ). true) true n few i h);
  }

-- none of n words is used up at first
pub none_used_lem : (n i : ℕ) → i < n → is_used (none_used n) i ≡ false
unfolding none_used
none_used_lem zero i h = absurd (omega arith)
none_used_lem (suc n) zero h = refl
none_used_lem (suc n) (suc i) h = none_used_lem n i (omega arith)

-- the three tables
pub name_written : (seen : List Bool) (i : ℕ) → i < 14 → is_used seen i ≡ false → Spelled names seen i (word_at names i)
name_written seen i h u = (word_written names 14 11 (omega arith) refl refl seen i h u).spelled

pub freq_written : (f : ℕ) → f < 7 → Short ℕ Freq (word_at frequencies) 8 f
freq_written f h = word_written frequencies 7 8 (omega arith) refl refl (none_used 7) f h (none_used_lem 7 f h)

pub weekday_written : (d : ℕ) → d < 7 → Short ℕ Weekday (word_at weekday_names) 2 d
weekday_written d h = word_written weekday_names 7 2 (omega arith) refl refl (none_used 7) d h (none_used_lem 7 d h)

-- ---- lists

-- something holds of each entry
unfoldable pub Each : {A : Type 0} → (A → Type 0) → List A → Type 0
Each P [] = Unit {0}
Each P (v ∷ vs) = P v × Each P vs

-- what follows for one follows for each
pub each_so : {A : Type 0} (P Q : A → Type 0) → ((v : A) → P v → Q v) → (vs : List A) → Each P vs → Each Q vs
unfolding Each
each_so P Q h [] e = tt
each_so P Q h (v ∷ vs) e = (h v e.0, each_so P Q h vs e.1)

-- of texts of m bytes at most, joined by commas
module _ {A : Type 0} (L : A → List ℕ → Type 0) (f : A → List ℕ) (m : ℕ) where
  joined_spelled : (n : ℕ) (v : A) (vs : List A) → Each (Short A L f m) (v ∷ vs) → length vs ≤ n
      → Joined (Unit {0}) A stays (λ (u : Unit {0}). L) 44 n tt (v ∷ vs) (joined_by 44 (map f (v ∷ vs)))
  unfolding Each joined_by
  joined_spelled n v [] e h = one e.0.spelled
  joined_spelled zero v (u ∷ us) e h = absurd (omega arith)
  joined_spelled (suc n) v (u ∷ us) e h =
      more (f v) (joined_by 44 (map f (u ∷ us))) e.0.spelled (joined_spelled n u us e.1 (omega arith)) refl

  joined_short : (v : A) (vs : List A) → Each (Short A L f m) (v ∷ vs) → length (joined_by 44 (map f (v ∷ vs))) ≤ length (v ∷ vs) * suc m
  unfolding Each joined_by
  joined_short v [] e = let h : length (f v) ≤ m = e.0.short in omega arith
  joined_short v (u ∷ us) e =
      let h : length (f v) ≤ m = e.0.short in
      let g : length (joined_by 44 (map f (u ∷ us))) ≤ suc (length us) * suc m = joined_short u us e.1 in
      let s : suc (suc (length us)) * suc m ≡ suc (length us) * suc m + suc m = suc-mul (suc (length us)) (suc m) in
      rw (length-append, s) (omega arith)

  pub list_written : (n : ℕ) (v : A) (vs : List A) → Each (Short A L f m) (v ∷ vs) → length (v ∷ vs) ≤ n → n ≤ 749
      → Short (List A) (ListOf A L) (λ (l : List A). joined_by 44 (map f l)) (n * suc m) (v ∷ vs)
  list_written n v vs e h k =
      let g : length (v ∷ vs) * suc m ≤ n * suc m = mul-le-mul_right (suc m) h in
      record { spelled = joined_spelled 748 v vs e (omega arith); short = omega (arith, joined_short v vs e) }
