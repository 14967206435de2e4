-- Bytes that are read and written one after the other.
-- Assumes nothing.
use Prim.Native.Nat.{ℕ, suc, ◌+◌, ◌-◌, ◌/◌, ◌%◌, ◌≤◌, ◌<◌}
use mathlib.Core.Path.{◌≡◌, refl, sym, ap, ◌∙◌}
use mathlib.Core.Bool.{Bool, true, false, ◌&&◌, cond}
use mathlib.Core.List.{List, [], ◌∷◌, ◌++◌, append-nil, append_assoc}
use native.Mathlib.Omega.{arith}
use native.Mathlib.Numerals.{add-one}
use lib.Dec.{leb, ltb, eqb}
use lib.ListN.{length, get_or, set, take, drop, drop_of_length-le}
use lib.Seq.{sets, sets-eq, drop-cons, take-suc-set, take_all}
use borrow.Author.Tests.{leb-true, le-leb, ltb-true, ltb-false}
use Rattle.std.proofs.Common.{Less, Equal, Greater, nat_cmp, is_lt}
use Rattle.std.specs.Ordering.{ord_max}
use Rattle.rule.specs.Lists.{flags}
use Rattle.edge.specs.Bytes.{two, four, eight, are_flags, flag_byte, flag_bytes}

-- a list in two parts: the second is stored behind the first
pub sets_append : {A : Type 0} (l : List A) (i : ℕ) (xs ys : List A) → sets l i (xs ++ ys) ≡ sets (sets l i xs) (i + length xs) ys
sets_append l i [] ys = let z : i ≡ i + 0 = omega arith in ap (λ (k : ℕ). sets l k ys) z
sets_append l i (x ∷ xs) ys =
    let z : suc i + length xs ≡ i + suc (length xs) = omega arith in
    sets_append (set l i x) (suc i) xs ys ∙ ap (λ (k : ℕ). sets (sets (set l i x) (suc i) xs) k ys) z

-- the same with the place behind the first part at hand
pub sets_behind : {A : Type 0} (l : List A) (i k : ℕ) (xs ys : List A) → i + length xs ≡ k → sets (sets l i xs) k ys ≡ sets l i (xs ++ ys)
sets_behind l i k xs ys e = ap (λ (n : ℕ). sets (sets l i xs) n ys) (sym e) ∙ sym (sets_append l i xs ys)

-- a list that is as long as the bytes is all that they hold
pub sets_whole : (l xs : List ℕ) → length xs ≡ length l → sets l 0 xs ≡ xs
sets_whole l xs e =
    let h : length l ≤ 0 + length xs = omega arith in
    sets-eq xs l 0 (omega arith) ∙ ap (λ (rest : List ℕ). xs ++ rest) (drop_of_length-le l h) ∙ append-nil xs

pub length_two : (n : ℕ) → length (two n) ≡ 2
unfolding two
length_two n = refl

pub length_four : (n : ℕ) → length (four n) ≡ 4
unfolding four two
length_four n = refl

pub length_eight : (n : ℕ) → length (eight n) ≡ 8
unfolding eight four two
length_eight n = refl

-- a number is written as its two halves
pub two_halves : (l x y : List ℕ) (i n : ℕ) → x ≡ set l i (n % 256) → y ≡ set x (i + 1) (n / 256) → y ≡ sets l i (two n)
unfolding two
two_halves l x y i n e f = rw (f, e, add-one)

pub four_halves : (l x y : List ℕ) (i n : ℕ) → x ≡ sets l i (two (n % 65536)) → y ≡ sets x (i + 2) (two (n / 65536)) → y ≡ sets l i (four n)
unfolding four
four_halves l x y i n e f = f ∙ ap (λ (a : List ℕ). sets a (i + 2) (two (n / 65536))) e ∙ sets_behind l i (i + 2) (two (n % 65536)) (two (n / 65536)) (ap (λ (k : ℕ). i + k) (length_two (n % 65536)))

pub eight_halves : (l x y : List ℕ) (i n : ℕ) → x ≡ sets l i (four (n % 4294967296)) → y ≡ sets x (i + 4) (four (n / 4294967296)) → y ≡ sets l i (eight n)
unfolding eight
eight_halves l x y i n e f = f ∙ ap (λ (a : List ℕ). sets a (i + 4) (four (n / 4294967296))) e ∙ sets_behind l i (i + 4) (four (n % 4294967296)) (four (n / 4294967296)) (ap (λ (k : ℕ). i + k) (length_four (n % 4294967296)))

and-true : (b : Bool) → b && true ≡ b
and-true true = refl
and-true false = refl

and-false : (b : Bool) → b && false ≡ false
and-false true = refl
and-false false = refl

-- the higher of two bytes is a flag where both are
higher_second : (a b : ℕ) → a ≤ b → leb b 1 ≡ leb a 1 && leb b 1
higher_second a b h = go (leb b 1) refl
  where
    go : (t : Bool) → leb b 1 ≡ t → leb b 1 ≡ leb a 1 && leb b 1
    go true e = let l : b ≤ 1 = leb-true b 1 e in rw (le-leb a 1 (omega arith))
    go false e = rw e (sym (and-false (leb a 1)))

higher_first : (a b : ℕ) → b < a → leb a 1 ≡ leb a 1 && leb b 1
higher_first a b h = go (leb a 1) refl
  where
    go : (t : Bool) → leb a 1 ≡ t → leb a 1 ≡ leb a 1 && leb b 1
    go true e = let l : a ≤ 1 = leb-true a 1 e in rw (e, le-leb b 1 (omega arith))
    go false e = rw e

pub higher_is : (a b : ℕ) → leb (ord_max nat_cmp a b) 1 ≡ leb a 1 && leb b 1
higher_is a b = go (ltb b a) (eqb b a) refl
  where
    go : (t u : Bool) → ltb b a ≡ t → leb (cond (is_lt (cond t Less (cond u Equal Greater))) a b) 1 ≡ leb a 1 && leb b 1
    go true u e = higher_first a b (ltb-true b a e)
    go false true e = higher_second a b (ltb-false b a e)
    go false false e = higher_second a b (ltb-false b a e)

pub flags_next : (highest next : ℕ) (bytes : List ℕ) (i : ℕ) → i < length bytes → leb next 1 ≡ leb highest 1 && leb (get_or bytes i 0) 1
    → leb highest 1 && are_flags (drop i bytes) ≡ leb next 1 && are_flags (drop (i + 1) bytes)
unfolding are_flags
flags_next highest next bytes i h e = rw (add-one, drop-cons bytes i 0 h, e) (go (leb highest 1))
  where
    go : (t : Bool) → t && are_flags (get_or bytes i 0 ∷ drop (suc i) bytes) ≡ t && leb (get_or bytes i 0) 1 && are_flags (drop (suc i) bytes)
    go true = refl
    go false = refl

pub flags_done : (highest : ℕ) (bytes : List ℕ) (i : ℕ) → length bytes ≤ i → leb highest 1 && are_flags (drop i bytes) ≡ leb highest 1
unfolding are_flags
flags_done highest bytes i h = rw (drop_of_length-le bytes h) (and-true (leb highest 1))

-- one flag more is taken; all are
module _ (f : ℕ → Bool) (n : ℕ) where
  left_next : (i : ℕ) → i < n → flags f (n - i) i ≡ f i ∷ flags f (n - (i + 1)) (i + 1)
  unfolding flags
  left_next i h = let s : n - i ≡ suc (n - (i + 1)) = omega arith in rw s

  left_none : (i : ℕ) → n ≤ i → flags f (n - i) i ≡ []
  unfolding flags
  left_none i h = let s : n - i ≡ 0 = omega arith in rw s

  pub take_next : (set₀ r : List Bool) (i : ℕ) → i < n → length set₀ ≡ n → take i set₀ ++ flags f (n - i) i ≡ r
      → take (i + 1) (set set₀ i (f i)) ++ flags f (n - (i + 1)) (i + 1) ≡ r
  take_next set₀ r i h l e =
      let a : take (i + 1) (set set₀ i (f i)) ≡ take i set₀ ++ (f i ∷ []) =
      ap (λ (k : ℕ). take k (set set₀ i (f i))) (add-one i) ∙ take-suc-set set₀ i (f i) (omega arith) in
      rw (a, append_assoc) (rw (left_next i h) at e)

  pub take_done : (set₀ r : List Bool) (i : ℕ) → n ≤ i → length set₀ ≡ n → take i set₀ ++ flags f (n - i) i ≡ r → set₀ ≡ r
  take_done set₀ r i h l e = sym (append-nil set₀) ∙ (rw (left_none i h, take_all i set₀ (omega arith)) at e)

-- one flag more is written; all are
pub put_next : (bytes : List ℕ) (from i : ℕ) (set₀ : List Bool) → i < length set₀
    → sets bytes (from + i) (flag_bytes (drop i set₀)) ≡ sets (set bytes (from + i) (flag_byte (get_or set₀ i false))) (from + (i + 1)) (flag_bytes (drop (i + 1) set₀))
put_next bytes from i set₀ h =
    let z : suc (from + i) ≡ from + (i + 1) = omega arith in
    rw (add-one i, drop-cons set₀ i false h) (ap (λ (k : ℕ). sets (set bytes (from + i) (flag_byte (get_or set₀ i false))) k (flag_bytes (drop (suc i) set₀))) (z ∙ ap (λ (k : ℕ). from + k) (add-one i)))

pub put_done : (bytes : List ℕ) (from i : ℕ) (set₀ : List Bool) → length set₀ ≤ i → sets bytes (from + i) (flag_bytes (drop i set₀)) ≡ bytes
put_done bytes from i set₀ h = rw (drop_of_length-le set₀ h)
