-- What the readers' proofs share: a test of two parts, equal lists, two cuts of one list, what may follow, and an answer seen otherwise.
-- Assumes nothing.
use Prim.Native.Nat.{ℕ}
use native.Mathlib.Omega.{arith}
use mathlib.Core.Path.{◌≡◌, refl, sym}
use mathlib.Core.Logic.{◌⊎◌, inl, inr, ⊎_elim}
use mathlib.Core.Bool.{Bool, true, false, ◌&&◌}
use mathlib.Core.List.{List, [], ◌∷◌, ◌++◌}
use Rattle.symbols.specs.Takes.{Took, Stop, Outcome}
use Rattle.symbols.specs.Readers.{turned_into}

pub and_both : (a b : Bool) → (a && b) ≡ true → (a ≡ true) × (b ≡ true)
and_both true b e = (refl, e)
and_both false b e = absurd (let z : ◌≡◌ {A = ℕ} 0 1 = cc in omega arith)

-- ---- lists

pub head_same : {b c : ℕ} {p q : List ℕ} → b ∷ p ≡ c ∷ q → b ≡ c
head_same e = cc

pub tail_same : {b c : ℕ} {p q : List ℕ} → b ∷ p ≡ c ∷ q → p ≡ q
tail_same e = cc

pub cons_same : {b c : ℕ} {p q : List ℕ} → b ≡ c → p ≡ q → b ∷ p ≡ c ∷ q
cons_same e f = cc

pub not_empty : {b : ℕ} {p : List ℕ} → b ∷ p ≡ [] → ⊥
not_empty e = let z : ◌≡◌ {A = ℕ} 0 1 = cc in omega arith

-- Two cuts of a list, p before ys and xs before zs: p lies within xs, or goes beyond it by a byte and more.
abbrev pub Within : List ℕ → List ℕ → Type 0
Within p xs = (q : List ℕ) × (xs ≡ p ++ q)

abbrev pub Beyond : List ℕ → List ℕ → List ℕ → List ℕ → Type 0
Beyond p ys xs zs = (c : ℕ) × (q : List ℕ) × (p ≡ xs ++ c ∷ q) × (zs ≡ c ∷ q ++ ys)

pub two_cuts : (p ys xs zs : List ℕ) → p ++ ys ≡ xs ++ zs → Within p xs ⊎ Beyond p ys xs zs
two_cuts [] ys xs zs e = inl (xs, refl)
two_cuts (b ∷ p) ys [] zs e = inr (b, p, refl, sym e)
two_cuts (b ∷ p) ys (x ∷ xs) zs e = ⊎_elim
    (λ (h : Within p xs). inl (h.0, cons_same (sym (head_same e)) h.1))
    (λ (h : Beyond p ys xs zs). inr (h.0, h.1, cons_same (head_same e) h.2, h.3))
    (two_cuts p ys xs zs (tail_same e))

-- ---- readers

-- what may follow by Q may follow by P
pub stop_on : (P Q : ℕ → Type 0) → ((b : ℕ) → Q b → P b) → (r : List ℕ) → Stop Q r → Stop P r
stop_on P Q f [] h = h
stop_on P Q f (b ∷ r) h = f b h

-- An answer with its value turned by f, where f turns the language's words into those of another.
pub outcome_by : {A B : Type 0} {L : A → List ℕ → Type 0} {M : B → List ℕ → Type 0} {at : ℕ} {t : List ℕ} {k : Took A} (f : A → B)
    → ((a : A) (xs : List ℕ) → L a xs → M (f a) xs) → Outcome A L at t k → Outcome B M at t (turned_into f k)
outcome_by {k} f to o = record {
  used = o.used;
  cut = o.cut;
  stands = o.stands;
  good = λ w. to k.value o.used (o.good w);
  some = f o.some;
  more = o.more;
  begins = to o.some (o.used ++ o.more) o.begins;
}
