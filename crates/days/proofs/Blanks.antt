-- The search for the next place that a mask marks, and a day set that is filled from mark to mark.
-- Assumes nothing.
use Prim.Native.Nat.{ℕ, zero, suc, ◌+◌, ◌-◌, ◌≤◌, ◌<◌}
use mathlib.Core.Path.{◌≡◌, refl, sym, ap, ◌∙◌}
use mathlib.Core.Bool.{Bool, true, false, ◌||◌}
use mathlib.Core.List.{List}
use lib.ListN.{get_or}
use native.Mathlib.Omega.{arith}
use native.Mathlib.Decide.{dec_lt}
use Rattle.rule.proofs.GivenLaws.{neither}
use Rattle.days.specs.DaySets.{some_of_four, has_every, FirstMarked}
use Rattle.plain.proofs.Filling.{Filling, fill_no}

-- no place is marked from `from` up to `at`
pub record Searched (marks : List Bool) (from to at : ℕ) : Type 0 where
  pub low : from ≤ at
  pub high : at ≤ to
  pub blank : (i : ℕ) → from ≤ i → i < at → get_or marks i false ≡ false

module _ (marks : List Bool) (from to : ℕ) where
  pub search_begins : from ≤ to → Searched marks from to from
  search_begins h = record { low = omega arith; high = h; blank = λ i a b. absurd (omega arith) }

  -- so many more are not marked
  pub search_on : (at n : ℕ) → Searched marks from to at → at + n ≤ to → ((i : ℕ) → at ≤ i → i < at + n → get_or marks i false ≡ false)
      → Searched marks from to (at + n)
  search_on at n s h f = record {
    low = omega (arith, s.low);
    high = h;
    blank = λ i a b. go i a b (dec_lt i at);
  }
    where
      go : (i : ℕ) → from ≤ i → i < at + n → Dec (i < at) → get_or marks i false ≡ false
      go i a b (yes l) = s.blank i a l
      go i a b (no l) = f i (omega arith) b

  pub search_one : (at : ℕ) → Searched marks from to at → at < to → get_or marks at false ≡ false → Searched marks from to (at + 1)
  search_one at s h e =
      search_on at 1 s (omega arith) (λ i a b. let q : i ≡ at = omega arith in ap (λ (k : ℕ). get_or marks k false) q ∙ e)

  pub search_finds : (at : ℕ) → Searched marks from to at → get_or marks at false ≡ true → FirstMarked marks from to at
  search_finds at s e = record { low = s.low; high = s.high; blank = s.blank; marked = λ h. e }

  pub search_ends : (at : ℕ) → Searched marks from to at → to ≤ at → FirstMarked marks from to at
  search_ends at s h = record { low = s.low; high = s.high; blank = s.blank; marked = λ l. absurd (omega arith) }

  -- what is found from `at` on is found from `from` on
  pub search_joins : (at r : ℕ) → Searched marks from to at → FirstMarked marks at to r → FirstMarked marks from to r
  search_joins at r s f = record {
    low = omega (arith, s.low, f.low);
    high = f.high;
    blank = λ i a b. go i a b (dec_lt i at);
    marked = f.marked;
  }
    where
      go : (i : ℕ) → from ≤ i → i < r → Dec (i < at) → get_or marks i false ≡ false
      go i a b (yes l) = s.blank i a l
      go i a b (no l) = f.blank i (omega arith) b

-- seven flags are twice four: one of them is seen twice
pub every_by_fours : (s : List Bool) → (some_of_four s 371 || some_of_four s 374) ≡ has_every s
every_by_fours s = go (get_or s 371 false) (get_or s 372 false) (get_or s 373 false) (get_or s 374 false) _
  where
    go : (a b c d e : Bool) → ((a || (b || (c || d))) || (d || e)) ≡ (a || (b || (c || (d || e))))
    go true b c d e = refl
    go false true c d e = refl
    go false false true d e = refl
    go false false false true e = refl
    go false false false false e = refl

-- four places that aren't marked, and twice four, one by one
four_blank : (marks : List Bool) (at : ℕ) → some_of_four marks at ≡ false → (i : ℕ) → at ≤ i → i < at + 4 → get_or marks i false ≡ false
four_blank marks at h i l r =
    let a = neither (get_or marks at false) (get_or marks (at + 1) false || (get_or marks (at + 2) false || get_or marks (at + 3) false)) h in
    let b = neither (get_or marks (at + 1) false) (get_or marks (at + 2) false || get_or marks (at + 3) false) a.1 in
    let c = neither (get_or marks (at + 2) false) (get_or marks (at + 3) false) b.1 in
    let q : at + (i - at) ≡ i = omega (arith, l) in
    ap (λ (k : ℕ). get_or marks k false) (sym q) ∙ go (i - at) (omega (arith, l, r)) a.0 b.0 c.0 c.1
  where
    go : (k : ℕ) → k < 4 → get_or marks at false ≡ false → get_or marks (at + 1) false ≡ false → get_or marks (at + 2) false ≡ false
        → get_or marks (at + 3) false ≡ false → get_or marks (at + k) false ≡ false
    go zero l a b c d = ap (λ (k : ℕ). get_or marks k false) (omega arith) ∙ a
    go (suc zero) l a b c d = b
    go (suc (suc zero)) l a b c d = c
    go (suc (suc (suc zero))) l a b c d = d
    go (suc (suc (suc (suc k)))) l a b c d = absurd (omega arith)

pub eight_blank : (marks : List Bool) (at : ℕ) → (some_of_four marks at || some_of_four marks (at + 4)) ≡ false
    → (i : ℕ) → at ≤ i → i < at + 8 → get_or marks i false ≡ false
eight_blank marks at h i l r = go (dec_lt i (at + 4))
  where
    both : (some_of_four marks at ≡ false) × (some_of_four marks (at + 4) ≡ false)
    both = neither (some_of_four marks at) (some_of_four marks (at + 4)) h

    go : Dec (i < at + 4) → get_or marks i false ≡ false
    go (yes k) = four_blank marks at both.0 i l k
    go (no k) = four_blank marks (at + 4) both.1 i (omega arith) (omega arith)

-- a day set goes on over places that don't pass
module _ (p : ℕ → Bool) (end : ℕ) (xs b₀ b : List ℕ) (count : ℕ) where
  fill_on : (n place : ℕ) → place + n ≤ end → ((i : ℕ) → place ≤ i → i < place + n → p i ≡ false) → Filling p end xs b₀ b count place
      → Filling p end xs b₀ b count (place + n)
  fill_on zero place h f x = let q : place + 0 ≡ place = omega arith in rw q x
  fill_on (suc n) place h f x =
      let q : place + 1 + n ≡ place + suc n = omega arith in
      let y = fill_on n (place + 1) (omega arith) (λ i a l. f i (omega arith) (omega arith))
      (fill_no p end xs b₀ b count place (omega arith) (f place (omega arith) (omega arith)) x) in
      rw q at y

  pub fill_skips : (place r : ℕ) → place ≤ r → r ≤ end → ((i : ℕ) → place ≤ i → i < r → p i ≡ false) → Filling p end xs b₀ b count place
      → Filling p end xs b₀ b count r
  fill_skips place r l h f x =
      let q : place + (r - place) ≡ r = omega arith in
      let y = fill_on (r - place) place (omega arith) (λ i a b. f i a (omega arith)) x in
      rw q at y
