-- The laws of blocks, and by them the candidates of a period by days and times.
-- Assumes nothing.
use Prim.Native.Nat.{ℕ, zero, suc, ◌+◌, ◌-◌, ◌*◌, ◌/◌, ◌%◌, ◌≤◌, ◌<◌}
use mathlib.Core.Path.{◌≡◌, refl, sym, ◌∙◌, ap}
use mathlib.Core.Logic.{⊎_elim}
use mathlib.Core.Bool.{Bool, true, false}
use mathlib.Core.List.{List, [], ◌∷◌, ◌++◌, map}
use native.Mathlib.Nat.{div-eq_of_lt, mod-eq_of_lt, div-eq-sub-div, mod-eq-sub-mod, mod-lt, suc-mul}
use native.Mathlib.Numerals.{add-one}
use native.Mathlib.Omega.{arith}
use lib.ListN.{length, get_or, length-append, length-map, get_or-append}
use lib.Seq.{get_or-append-add}
use Rattle.rule.specs.declared.rrule.Rule.{Rule}
use Rattle.rule.specs.Instants.{day_of}
use Rattle.rule.specs.Days.{day_passes}
use Rattle.rule.specs.Periods.{Period, period}
use Rattle.rule.specs.Candidates.{gather, only, times, on_days, candidates_of, candidates}
use Rattle.rule.proofs.Order.{below_or}
use Rattle.clocks.specs.Blocks.{blocks, passing, passing_days}

positive : (j t n : ℕ) → t ≤ j → j < suc n * t → 0 < t
positive j zero n b h = absurd (omega arith)
positive j (suc t) n b h = omega arith

-- what is gathered of those that pass is the blocks of those that pass
pub gather_blocks : (p : ℕ → Bool) (f : ℕ → List ℕ) (n i : ℕ) → gather (λ j. only (p j) (f j)) n i ≡ blocks f (passing p n i)
unfolding gather blocks passing
gather_blocks p f zero i = refl
gather_blocks p f (suc n) i = step (p i) (gather_blocks p f n (i + 1))
  where
    step : (b : Bool) → gather (λ j. only (p j) (f j)) n (i + 1) ≡ blocks f (passing p n (i + 1)) →
        only b (f i) ++ gather (λ j. only (p j) (f j)) n (i + 1) ≡ blocks f (only b (i ∷ []) ++ passing p n (i + 1))
    step true e = ap (λ (l : List ℕ). f i ++ l) e
    step false e = e

-- each of those that pass lies among the n from i on, and passes
pub record Passes (p : ℕ → Bool) (n i x : ℕ) : Type 0 where
  pub low : i ≤ x
  pub high : x < i + n
  pub passes : p x ≡ true

passes_up : (p : ℕ → Bool) (n i x : ℕ) → Passes p n (i + 1) x → Passes p (suc n) i x
passes_up p n i x w = record { low = omega arith; high = omega arith; passes = w.passes }

pub passing_in : (p : ℕ → Bool) (n i j d : ℕ) → j < length (passing p n i) → Passes p n i (get_or (passing p n i) j d)
unfolding passing gather
passing_in p zero i j d h = absurd (omega arith)
passing_in p (suc n) i j d h = step (p i) refl j h (passing_in p n (i + 1))
  where
    step : (b : Bool) → p i ≡ b → (j : ℕ) → j < length (only b (i ∷ []) ++ passing p n (i + 1))
        → ((k e : ℕ) → k < length (passing p n (i + 1)) → Passes p n (i + 1) (get_or (passing p n (i + 1)) k e))
        → Passes p (suc n) i (get_or (only b (i ∷ []) ++ passing p n (i + 1)) j d)
    step true e zero h f = record { low = omega arith; high = omega arith; passes = e }
    step true e (suc j) h f = passes_up p n i _ (f j d (omega arith))
    step false e j h f = passes_up p n i _ (f j d h)

-- there are at most n
only_short : (b : Bool) (x : ℕ) → length (only b (x ∷ [])) ≤ 1
only_short true x = omega arith
only_short false x = omega arith

pub passing_short : (p : ℕ → Bool) (n i : ℕ) → length (passing p n i) ≤ n
unfolding passing gather
passing_short p zero i = omega arith
passing_short p (suc n) i =
    let b : length (passing p n (i + 1)) ≤ n = passing_short p n (i + 1) in
    omega (arith, only_short (p i) i, length-append (only (p i) (i ∷ [])) (passing p n (i + 1)))

module _ (f : ℕ → List ℕ) (t : ℕ) (even : (x : ℕ) → length (f x) ≡ t) where
  -- blocks of one length
  pub blocks_length : (xs : List ℕ) → length (blocks f xs) ≡ length xs * t
  unfolding blocks
  blocks_length [] = omega arith
  blocks_length (x ∷ xs) =
      let a : length (f x ++ blocks f xs) ≡ length (f x) + length (blocks f xs) = length-append (f x) (blocks f xs) in
      let b : length (blocks f xs) ≡ length xs * t = blocks_length xs in
      omega (arith, even x, suc-mul (length xs) t)

  -- number j of the whole is number j % t of block j / t
  pub blocks_at : (xs : List ℕ) (j d e : ℕ) → j < length xs * t → get_or (blocks f xs) j d ≡ get_or (f (get_or xs (j / t) e)) (j % t) d
  unfolding blocks
  blocks_at [] j d e h = absurd (let z : zero * t ≡ 0 = omega arith in omega arith)
  blocks_at (x ∷ xs) j d e h =
      let s : suc (length xs) * t ≡ length xs * t + t = suc-mul (length xs) t in
      let l : length (f x) ≡ t = even x in
      ⊎_elim
      (λ (b : j < t).
      let k : j < length (f x) = omega arith in
      rw (div-eq_of_lt b, mod-eq_of_lt b) (get_or-append (f x) (blocks f xs) d j k))
      (λ (b : t ≤ j).
      let k : j - t < length xs * t = omega arith in
      let pos : 0 < t = positive j t (length xs) b h in
      let g : length (f x) + (j - t) ≡ j = omega arith in
      let q : j / t ≡ suc ((j - t) / t) = div-eq-sub-div pos b ∙ add-one ((j - t) / t) in
      rw (q, mod-eq-sub-mod b)
      (ap (λ (i : ℕ). get_or (f x ++ blocks f xs) i d) (sym g) ∙ get_or-append-add (f x) (blocks f xs) (j - t) d ∙ blocks_at xs (j - t) d e k))
      (below_or j t)

-- a mapped list within its length
get_d_map_below : (f : ℕ → ℕ) (xs : List ℕ) (j d e : ℕ) → j < length xs → get_or (map f xs) j d ≡ f (get_or xs j e)
get_d_map_below f [] j d e h = absurd (omega arith)
get_d_map_below f (x ∷ xs) zero d e h = refl
get_d_map_below f (x ∷ xs) (suc j) d e h = get_d_map_below f xs j d e (omega arith)

-- j % t stands within a block of t, where there is any number at all
pub within_block : (n t j : ℕ) → j < n * t → j % t < t
within_block n zero j h = absurd (omega arith)
within_block n (suc t) j h = mod-lt j (omega arith)

-- The times ts of the passing days: as many as days by times, and number j is the time j % t of the day j / t.
module _ (r : Rule) (ts : List ℕ) (n d : ℕ) where
  pub on_days_length : length (on_days r ts n d) ≡ length (passing (day_passes r) n d) * length ts
  unfolding on_days
  on_days_length =
      ap (λ (l : List ℕ). length l) (gather_blocks (day_passes r) (λ e. map (λ t. e * 86400 + t) ts) n d)
      ∙ blocks_length (λ e. map (λ t. e * 86400 + t) ts) (length ts) (λ e. length-map ts (λ t. e * 86400 + t)) (passing (day_passes r) n d)

  pub on_days_at : (j : ℕ) → j < length (passing (day_passes r) n d) * length ts →
      get_or (on_days r ts n d) j 0 ≡ get_or (passing (day_passes r) n d) (j / length ts) 0 * 86400 + get_or ts (j % length ts) 0
  unfolding on_days
  on_days_at j h =
      ap (λ (l : List ℕ). get_or l j 0) (gather_blocks (day_passes r) (λ e. map (λ t. e * 86400 + t) ts) n d)
      ∙ blocks_at (λ e. map (λ t. e * 86400 + t) ts) (length ts) (λ e. length-map ts (λ t. e * 86400 + t)) (passing (day_passes r) n d) j 0 0 h
      ∙ get_d_map_below (λ t. get_or (passing (day_passes r) n d) (j / length ts) 0 * 86400 + t) ts (j % length ts) 0 0
      (within_block (length (passing (day_passes r) n d)) (length ts) j h)

-- The same of a period's candidates.
module _ (r : Rule) (p : Period) where
  pub candidates_of_length : length (candidates_of r p) ≡ length (passing_days r p) * length (times r p.begins)
  unfolding candidates_of passing_days
  candidates_of_length = on_days_length r (times r p.begins) ((p.ends + 86399) / 86400 - day_of p.begins) (day_of p.begins)

  pub candidates_of_at : (j : ℕ) → j < length (passing_days r p) * length (times r p.begins) →
      get_or (candidates_of r p) j 0
      ≡ get_or (passing_days r p) (j / length (times r p.begins)) 0 * 86400 + get_or (times r p.begins) (j % length (times r p.begins)) 0
  unfolding candidates_of passing_days
  candidates_of_at j h = on_days_at r (times r p.begins) ((p.ends + 86399) / 86400 - day_of p.begins) (day_of p.begins) j h

-- The same of the candidates of period k.
module _ (r : Rule) (k : ℕ) where
  pub candidates_length : length (candidates r k) ≡ length (passing_days r (period r k)) * length (times r (period r k).begins)
  unfolding candidates
  candidates_length = candidates_of_length r (period r k)

  pub candidates_at : (j : ℕ) → j < length (passing_days r (period r k)) * length (times r (period r k).begins) →
      get_or (candidates r k) j 0
      ≡ get_or (passing_days r (period r k)) (j / length (times r (period r k).begins)) 0 * 86400
      + get_or (times r (period r k).begins) (j % length (times r (period r k).begins)) 0
  unfolding candidates
  candidates_at j h = candidates_of_at r (period r k) j h
