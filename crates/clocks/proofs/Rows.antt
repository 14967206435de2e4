-- Rows: what is written into them, and what is read.
-- Assumes nothing.
use Rattle.std.specs.Prelude.{if◌then◌else◌}
use Prim.Native.Nat.{ℕ, zero, suc, ◌+◌, ◌≤◌, ◌<◌}
use mathlib.Core.Path.{◌≡◌, refl, sym, ◌∙◌, ap}
use mathlib.Core.Bool.{Bool, true, false, ◌||◌}
use mathlib.Core.List.{List, [], ◌∷◌, ◌++◌, append_assoc, append-nil}
use native.Mathlib.Numerals.{add-one}
use native.Mathlib.Omega.{arith}
use lib.ListN.{length, get_or, set, take, replicate, length-set, length-append, length-replicate, get_or-replicate}
use lib.Seq.{get_or-set_same, get_or-set_other, take-suc, take_all, length-take-le}
use Rattle.rule.specs.Lists.{is_empty}
use Rattle.rule.specs.Candidates.{gather, only}
use Rattle.clocks.specs.Blocks.{passing}
use Rattle.clocks.specs.Clocks.{written, row_of, or_all, flagged}
use Rattle.clocks.proofs.Blocks.{passing_short}

module _ {A : Type 0} where
  -- a row keeps its length
  pub written_length : (xs row : List A) (i : ℕ) → length (written row i xs) ≡ length row
  unfolding written
  written_length [] row i = refl
  written_length (x ∷ xs) row i = written_length xs (set row i x) (i + 1) ∙ length-set row i x

  -- one more is written behind the last
  pub written_more : (xs row : List A) (i : ℕ) (x : A) → set (written row i xs) (i + length xs) x ≡ written row i (xs ++ (x ∷ []))
  unfolding written
  written_more [] row i x = let e : i + 0 ≡ i = omega arith in ap (λ (k : ℕ). set row k x) e
  written_more (y ∷ ys) row i x =
      let e : i + suc (length ys) ≡ i + 1 + length ys = omega arith in
      ap (λ (k : ℕ). set (written (set row i y) (i + 1) ys) k x) e ∙ written_more ys (set row i y) (i + 1) x

  -- a list is written entry by entry
  pub written_next : (xs row : List A) (i j : ℕ) (d : A) → j < length xs
      → set (written row i (take j xs)) (i + j) (get_or xs j d) ≡ written row i (take (j + 1) xs)
  written_next xs row i j d h =
      let l : length (take j xs) ≡ j = length-take-le j xs (omega arith) in
      let e : take (j + 1) xs ≡ take j xs ++ (get_or xs j d ∷ []) = rw add-one (take-suc xs j d h) in
      ap (λ (k : ℕ). set (written row i (take j xs)) (i + k) (get_or xs j d)) (sym l)
      ∙ written_more (take j xs) row i (get_or xs j d)
      ∙ ap (λ (ys : List A). written row i ys) (sym e)

  -- what is read before the place, and from it on
  pub written_before : (xs row : List A) (i k : ℕ) (d : A) → k < i → get_or (written row i xs) k d ≡ get_or row k d
  unfolding written
  written_before [] row i k d h = refl
  written_before (x ∷ xs) row i k d h =
      written_before xs (set row i x) (i + 1) k d (omega arith) ∙ get_or-set_other row i k x d (λ (e : k ≡ i). omega arith)

  pub written_in : (xs row : List A) (i j : ℕ) (d : A) → i + length xs ≤ length row → j < length xs → get_or (written row i xs) (i + j) d ≡ get_or xs j d
  unfolding written
  written_in [] row i j d h l = absurd (omega arith)
  written_in (x ∷ xs) row i zero d h l =
      let e : i + 0 ≡ i = omega arith in
      rw e (written_before xs (set row i x) (i + 1) i d (omega arith) ∙ get_or-set_same row i x d (omega arith))
  written_in (x ∷ xs) row i (suc j) d h l =
      let e : i + suc j ≡ i + 1 + j = omega arith in
      rw e (written_in xs (set row i x) (i + 1) j d (simp length-set (omega arith)) (omega arith))

  -- what is read of a row of hours, minutes and seconds
  module _ (z : A) (hs ms ss : List A) (few_hours : length hs ≤ 24) (few_minutes : length ms ≤ 60) (few_seconds : length ss ≤ 60) where
    pub row_hour : (j : ℕ) (d : A) → j < length hs → get_or (row_of z hs ms ss) (0 + j) d ≡ get_or hs j d
    unfolding row_of
    row_hour j d h =
        written_before ss (written (written (replicate 144 z) 0 hs) 24 ms) 84 (0 + j) d (omega arith)
        ∙ written_before ms (written (replicate 144 z) 0 hs) 24 (0 + j) d (omega arith)
        ∙ written_in hs (replicate 144 z) 0 j d (rw (length-replicate 144 z) (omega arith)) h

    pub row_minute : (j : ℕ) (d : A) → j < length ms → get_or (row_of z hs ms ss) (24 + j) d ≡ get_or ms j d
    unfolding row_of
    row_minute j d h =
        written_before ss (written (written (replicate 144 z) 0 hs) 24 ms) 84 (24 + j) d (omega arith)
        ∙ written_in ms (written (replicate 144 z) 0 hs) 24 j d (rw (written_length hs (replicate 144 z) 0, length-replicate 144 z) (omega arith)) h

    pub row_second : (j : ℕ) (d : A) → j < length ss → get_or (row_of z hs ms ss) (84 + j) d ≡ get_or ss j d
    unfolding row_of
    row_second j d h =
        written_in ss (written (written (replicate 144 z) 0 hs) 24 ms) 84 j d
        (rw (written_length ms (written (replicate 144 z) 0 hs) 24, written_length hs (replicate 144 z) 0, length-replicate 144 z) (omega arith)) h

-- a set, or all of it, flag by flag
pub or_all_length : (s : List Bool) → length (or_all (length s) s) ≡ length s
unfolding or_all
or_all_length s = go (is_empty s)
  where
    go : (b : Bool) → length (if b then replicate (length s) true else s) ≡ length s
    go true = length-replicate (length s) true
    go false = refl

pub or_all_at : (s : List Bool) (i : ℕ) → i < length s → get_or (or_all (length s) s) i false ≡ get_or s i false || is_empty s
unfolding or_all
or_all_at s i h = go (is_empty s) (get_or s i false) refl
  where
    go : (b c : Bool) → get_or s i false ≡ c → get_or (if b then replicate (length s) true else s) i false ≡ c || b
    go true true e = get_or-replicate (length s) i true false h
    go true false e = get_or-replicate (length s) i true false h
    go false true e = e
    go false false e = e

-- a set, or all of it, written flag by flag into a row
pub put_none : (s row : List Bool) (i : ℕ) → row ≡ written row i (take 0 (or_all (length s) s))
unfolding written
put_none s row i = refl

pub put_next : (s row flags : List Bool) (i j : ℕ) → j < length s → flags ≡ written row i (take j (or_all (length s) s))
    → set flags (i + j) (get_or s j false || is_empty s) ≡ written row i (take (j + 1) (or_all (length s) s))
put_next s row flags i j h e =
    rw (e, ← or_all_at s j h) (written_next (or_all (length s) s) row i j false (rw (or_all_length s) h))

pub put_all : (s row : List Bool) (i j : ℕ) → length s ≤ j → written row i (take j (or_all (length s) s)) ≡ written row i (or_all (length s) s)
put_all s row i j h = ap (λ (xs : List Bool). written row i xs) (take_all j (or_all (length s) s) (rw (or_all_length s) h))

-- one part more, at the end
gather_last : (g : ℕ → List ℕ) (n i : ℕ) → gather g (suc n) i ≡ gather g n i ++ g (i + n)
unfolding gather
gather_last g zero i = let e : i + 0 ≡ i = omega arith in rw e (append-nil (g i))
gather_last g (suc n) i =
    let e : i + 1 + n ≡ i + suc n = omega arith in
    ap (λ (l : List ℕ). g i ++ l) (gather_last g n (i + 1) ∙ ap (λ (k : ℕ). gather g n (i + 1) ++ g k) e)
    ∙ sym (append_assoc (g i) (gather g n (i + 1)) (g (i + suc n)))

passing_last : (p : ℕ → Bool) (n : ℕ) → passing p (n + 1) 0 ≡ passing p n 0 ++ only (p n) (n ∷ [])
unfolding passing
passing_last p n =
    let e : 0 + n ≡ n = omega arith in
    rw add-one (gather_last (λ j. only (p j) (j ∷ [])) n 0 ∙ ap (λ (k : ℕ). passing p n 0 ++ only (p k) (k ∷ [])) e)

-- the values of set flags, past one more flag
flagged_skip : (from n : ℕ) (s : List Bool) → get_or s (from + n) false ≡ false → flagged from (n + 1) s ≡ flagged from n s
unfolding flagged
flagged_skip from n s e =
    passing_last (λ i. get_or s (from + i) false) n ∙ ap (λ (b : Bool). passing (λ i. get_or s (from + i) false) n 0 ++ only b (n ∷ [])) e ∙ append-nil _

flagged_take : (from n : ℕ) (s : List Bool) → get_or s (from + n) false ≡ true → flagged from (n + 1) s ≡ flagged from n s ++ (n ∷ [])
unfolding flagged
flagged_take from n s e = passing_last (λ i. get_or s (from + i) false) n ∙ ap (λ (b : Bool). passing (λ i. get_or s (from + i) false) n 0 ++ only b (n ∷ [])) e

-- there are no more of them than flags
pub flagged_short : (from n : ℕ) (s : List Bool) → length (flagged from n s) ≤ n
unfolding flagged
flagged_short from n s = passing_short (λ i. get_or s (from + i) false) n 0

-- The list and the count past n flags; at no flag; past a flag that is not set; past one that is.
pub record Past (row : List ℕ) (from : ℕ) (s : List Bool) (n : ℕ) (xs : List ℕ) (count : ℕ) : Type 0 where
  pub counts : count ≡ length (flagged from n s)
  pub lists : xs ≡ written row from (flagged from n s)

pub past_none : (row : List ℕ) (from : ℕ) (s : List Bool) → Past row from s 0 row 0
unfolding written flagged passing gather
past_none row from s = record { counts = refl; lists = refl }

pub past_skip : (row : List ℕ) (from : ℕ) (s : List Bool) (n : ℕ) (xs : List ℕ) (count : ℕ) → get_or s (from + n) false ≡ false
    → Past row from s n xs count → Past row from s (n + 1) xs count
past_skip row from s n xs count e w = record { counts = rw (flagged_skip from n s e) w.counts; lists = rw (flagged_skip from n s e) w.lists }

pub past_take : (row : List ℕ) (from : ℕ) (s : List Bool) (n : ℕ) (xs : List ℕ) (count : ℕ) → get_or s (from + n) false ≡ true
    → Past row from s n xs count → Past row from s (n + 1) (set xs (from + count) n) (count + 1)
past_take row from s n xs count e w = record {
  counts = rw (flagged_take from n s e, w.counts) (sym (length-append (flagged from n s) (n ∷ [])));
  lists = rw (flagged_take from n s e, w.counts, w.lists) (written_more (flagged from n s) row from n);
}

pub past_length : (row : List ℕ) (from : ℕ) (s : List Bool) (n : ℕ) (xs : List ℕ) (count : ℕ) → Past row from s n xs count → length xs ≡ length row
past_length row from s n xs count w = rw w.lists (written_length (flagged from n s) row from)

pub past_few : (row : List ℕ) (from : ℕ) (s : List Bool) (n : ℕ) (xs : List ℕ) (count : ℕ) → Past row from s n xs count → count ≤ n
past_few row from s n xs count w = rw w.counts (flagged_short from n s)
