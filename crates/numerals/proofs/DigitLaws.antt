-- How digits are read a byte at a time, whatever number they are to make: what is read from the first place on is what is still to be
-- read, with what is read.
-- Assumes nothing.
use Prim.Native.Nat.{ℕ, ◌+◌, ◌-◌, ◌*◌, ◌≤◌}
use native.Mathlib.Omega.{arith}
use mathlib.Core.Path.{◌≡◌, refl, sym, ap, ◌∙◌}
use mathlib.Core.Bool.{Bool, true, false, ◌&&◌}
use mathlib.Core.List.{List, [], ◌∷◌}
use lib.ListN.{length, get_or, drop}
use Rattle.symbols.specs.Languages.{is_digit}
use Rattle.symbols.specs.Takes.{took}
use Rattle.symbols.specs.Readers.{Counting, may_take, digits}
use Rattle.symbols.proofs.Cuts.{and_both}
use Rattle.recur.specs.Shown.{shown}
use Rattle.numerals.specs.Bytes.{passes, DigitAt}
use Rattle.numerals.proofs.ByteLaws.{next_byte, passes_at, Passed, passed, digit_from, is_digit_lem}

-- ---- whether a digit may come

-- a digit that may come next
pub record Taken (g : Counting) (n v : ℕ) (t : List ℕ) (i : ℕ) : Type 0 where
  pub digit : DigitAt t i
  pub may : g.may n v (get_or t i 0 - 48) ≡ true

pub taken : (g : Counting) (n v : ℕ) (t : List ℕ) (i : ℕ) → passes (may_take g n v) (drop i t) ≡ true → Taken g n v t i
taken g n v t i e =
    let p : Passed (may_take g n v) t i = passed (may_take g n v) t i e in
    let q = and_both (is_digit (get_or t i 0)) (g.may n v (get_or t i 0 - 48)) p.good in
    record { digit = digit_from t i p.inside q.0; may = q.1 }

-- where a digit stands, only the number is asked
pub by_number : (g : Counting) (n v : ℕ) (t : List ℕ) (i : ℕ) (w : Bool) → DigitAt t i → w ≡ g.may n v (get_or t i 0 - 48)
    → w ≡ passes (may_take g n v) (drop i t)
by_number g n v t i w d e =
    e ∙ sym (passes_at (may_take g n v) t i d.inside ∙ ap (λ (x : Bool). x && g.may n v (get_or t i 0 - 48)) (is_digit_lem d))

pub no_digit : (g : Counting) (n v : ℕ) (xs : List ℕ) → passes is_digit xs ≡ false → false ≡ passes (may_take g n v) xs
unfolding passes
no_digit g n v [] e = refl
no_digit g n v (b ∷ r) e = sym (ap (λ (x : Bool). x && g.may n v (b - 48)) e)

-- ---- one digit more, or none

on : (g : Counting) (n v i : ℕ) (t : List ℕ) → Taken g n v t i
    → digits g n v i (drop i t) ≡ digits g (n + 1) (v * 10 + (get_or t i 0 - 48)) (i + 1) (drop (i + 1) t)
unfolding digits
on g n v i t k =
    ap (λ (x : List ℕ). digits g n v i x) (next_byte t i k.digit.inside)
    ∙ step (get_or t i 0) (drop (i + 1) t) (ap (λ (x : Bool). x && g.may n v (get_or t i 0 - 48)) (is_digit_lem k.digit) ∙ k.may)
  where
    step : (b : ℕ) (r : List ℕ) → may_take g n v b ≡ true → digits g n v i (b ∷ r) ≡ digits g (n + 1) (v * 10 + (b - 48)) (i + 1) r
    step b r e = rw (e, digits)

off : (g : Counting) (n v i : ℕ) (xs : List ℕ) → passes (may_take g n v) xs ≡ false → digits g n v i xs ≡ took (g.enough n v) i xs v
unfolding digits passes
off g n v i [] e = refl
off g n v i (b ∷ r) e = rw (e, digits)

-- ---- from the first place on

-- The number begins at a place and is read up to another, with a value so far.
pub record Reads (g : Counting) (t : List ℕ) (at i v : ℕ) : Type 0 where
  pub begun : at ≤ i
  pub inside : i ≤ length t
  pub same : digits g 0 0 at (drop at t) ≡ digits g (i - at) v i (drop i t)

pub at_first : (g : Counting) (t : List ℕ) (at : ℕ) → at ≤ length t → Reads g t at at 0
at_first g t at h = record {
  begun = omega arith;
  inside = h;
  same = ap (λ (n : ℕ). digits g n 0 at (drop at t)) (let z : 0 ≡ at - at = omega arith in z);
}

pub one_more : {g : Counting} {t : List ℕ} {at i v : ℕ} → Reads g t at i v → Taken g (i - at) v t i → Reads g t at (i + 1) (v * 10 + (get_or t i 0 - 48))
one_more {g} {t} {at} {i} {v} r k =
    let longer : i - at + 1 ≡ i + 1 - at = omega (arith, r.begun) in record {
      begun = omega (arith, r.begun);
      inside = omega (arith, k.digit.inside);
      same = r.same ∙ on g (i - at) v i t k ∙ ap (λ (n : ℕ). digits g n (v * 10 + (get_or t i 0 - 48)) (i + 1) (drop (i + 1) t)) longer;
    }

-- where none may come, the answer is told by the place and the value
pub at_last : {g : Counting} {t : List ℕ} {at i v : ℕ} (w : Bool) → Reads g t at i v → passes (may_take g (i - at) v) (drop i t) ≡ false
    → w ≡ g.enough (i - at) v → shown (took w i [] v) ≡ shown (digits g 0 0 at (drop at t))
at_last {g} {t} {at} {i} {v} w r e f =
    ap (λ (x : Bool). shown (took x i [] v)) f ∙ sym (ap shown (r.same ∙ off g (i - at) v i (drop i t) e))
