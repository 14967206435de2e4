-- A year's mask, week by week.
-- Assumes nothing.
use mathlib.Core.Path.{◌≡◌, refl, sym, ap, ◌∙◌}
use mathlib.Core.Bool.{Bool, true, false, ◌&&◌, ◌||◌, or-false, and-false, and_comm}
use mathlib.Core.List.{List}
use Prim.Native.Nat.{ℕ, zero, suc, ◌+◌, ◌-◌, ◌*◌, min, ◌≤◌, ◌<◌}
use native.Mathlib.Omega.{arith}
use native.Mathlib.Decide.{dec_le, dec_lt}
use lib.Dec.{ltb, leb}
use lib.ListN.{length, get_or, replicate, length-replicate, get_or-replicate, get_or-eq_default}
use lib.Seq.{ext_get_or}
use borrow.Author.Tests.{lt-ltb, le-ltb, le-leb, lt-leb, leb-true}
use Rattle.calendar.specs.Calendar.{year_length, new_year}
use Rattle.rule.specs.Lists.{flags}
use Rattle.rule.specs.Days.{week1}
use Rattle.rule.proofs.SetLaws.{flags_at_lem}
use Rattle.weeks.specs.declared.yearinfo.Weeks.{Weeks}
use Rattle.weeks.specs.Weeks.{has_mask, mask_at, week_mask, weeks_around, Counted, passes_around, Marked}
use Rattle.weeks.specs.Claims.{MaskSize, MaskEnds}
use Rattle.weeks.proofs.Numbers.{First, first_week, counted, passes_around_lem}

-- a year and a week start that have a mask
pub record Asked (w y : ℕ) : Type 0 where
  pub start : w ≤ 6
  pub low : 3 ≤ y
  pub high : y ≤ 9999

pub asked : (w y : ℕ) → has_mask w y ≡ true → Asked w y
asked w y h = go (leb 3 y) (leb y 9999) (leb w 6) refl refl refl h
  where
    go : (a b c : Bool) → leb 3 y ≡ a → leb y 9999 ≡ b → leb w 6 ≡ c → (a && (b && c)) ≡ true → Asked w y
    go true true true p q r e = record { start = leb-true w 6 r; low = leb-true 3 y p; high = leb-true y 9999 q }
    go true true false p q r e = absurd (let z : ◌≡◌ {A = ℕ} 0 1 = cc in omega arith)
    go true false c p q r e = absurd (let z : ◌≡◌ {A = ℕ} 0 1 = cc in omega arith)
    go false b c p q r e = absurd (let z : ◌≡◌ {A = ℕ} 0 1 = cc in omega arith)

pub is_asked : (w y : ℕ) → w ≤ 6 → 3 ≤ y → y ≤ 9999 → has_mask w y ≡ true
is_asked w y a b c = rw (le-leb 3 y b, le-leb y 9999 c, le-leb w 6 a)

length_flags : (f : ℕ → Bool) (n i : ℕ) → length (flags f n i) ≡ n
unfolding flags
length_flags f zero i = refl
length_flags f (suc n) i = ap suc (length_flags f n (i + 1))

-- a mask that has these entries is the year's
pub mask_from : (w : ℕ) (s : List Bool) (y : ℕ) (m : List Bool) → length m ≡ 373 → ((k : ℕ) → k < 373 → get_or m k false ≡ mask_at w s y k) → m ≡ week_mask w s y
unfolding week_mask
mask_from w s y m l h =
    ext_get_or false m (flags (mask_at w s y) 373 0) (l ∙ sym (length_flags (mask_at w s y) 373 0))
    (λ k b. h k (omega arith) ∙ sym (flags_at_lem (mask_at w s y) 373 k (omega arith)))

pub mask_at_lem : (w : ℕ) (s : List Bool) (y k : ℕ) → k < 373 → get_or (week_mask w s y) k false ≡ mask_at w s y k
unfolding week_mask
mask_at_lem w s y k h = flags_at_lem (mask_at w s y) 373 k h

pub mask_size : MaskSize
unfolding week_mask
mask_size w s y = length_flags (mask_at w s y) 373 0

pub mask_ends : MaskEnds
unfolding mask_at
mask_ends w s y i h = go (dec_lt i 373)
  where
    go : Dec (i < 373) → get_or (week_mask w s y) i false ≡ false
    go (yes l) = mask_at_lem w s y i l ∙ rw (le-ltb i (year_length y + 7) h) (and-false (has_mask w y))
    go (no l) = get_or-eq_default (week_mask w s y) false (omega (arith, mask_size w s y))

-- where there is none, no entry is set
pub no_mask_lem : (w : ℕ) (s : List Bool) (y : ℕ) → has_mask w y ≡ false → replicate 373 false ≡ week_mask w s y
unfolding mask_at
no_mask_lem w s y h = mask_from w s y (replicate 373 false) (length-replicate 373 false) (λ k b. get_or-replicate 373 k false false b ∙ rw h)

-- the weeks before week j are done, where the first week begins so many days before the year
pub record Upto (w : ℕ) (s : List Bool) (y skipped j : ℕ) (m : List Bool) : Type 0 where
  pub size : length m ≡ 373
  pub at : (k : ℕ) → k < 373 → get_or m k false ≡ (ltb (k + skipped) (7 * j) && mask_at w s y k)

pub none_done : (w : ℕ) (s : List Bool) (y skipped : ℕ) → Upto w s y skipped 0 (replicate 373 false)
none_done w s y skipped =
    record {
      size = length-replicate 373 false;
      at = λ k h. get_or-replicate 373 k false false h ∙ rw (le-ltb (k + skipped) (7 * 0) (omega arith));
    }

-- a stretch that is cut at e is cut at its end alone
begins : (k a b e : ℕ) → (leb (min a e) k && ltb k (min b e)) ≡ (leb a k && ltb k (min b e))
begins k a b e = go (dec_le a k) (dec_lt k e)
  where
    go : Dec (a ≤ k) → Dec (k < e) → (leb (min a e) k && ltb k (min b e)) ≡ (leb a k && ltb k (min b e))
    go (yes l) q = rw (le-leb a k l, le-leb (min a e) k (omega arith))
    go (no l) (yes q) = rw (lt-leb a k (omega arith), lt-leb (min a e) k (omega arith))
    go (no l) (no q) = rw (le-ltb k (min b e) (omega arith), and-false (leb (min a e) k), and-false (leb a k))

-- One week more, over numbers and tests alone: place k has the flag b, a mask has e days, and t says whether week j passes.
module _ (k skipped j e : ℕ) (b t : Bool) (in_week : 7 * j ≤ k + skipped → k + skipped < 7 * j + 7 → b ≡ (ltb k e && t)) where
  cut : k + skipped < 7 * j + 7 → Dec (k < e) → ltb k (min (7 * j + 7 - skipped) e) ≡ ltb k e
  cut u (yes l) = rw (lt-ltb k (min (7 * j + 7 - skipped) e) (omega arith), lt-ltb k e l)
  cut u (no l) = rw (le-ltb k (min (7 * j + 7 - skipped) e) (omega arith), le-ltb k e (omega arith))

  one_more : ((ltb (k + skipped) (7 * j) && b) || (t && (leb (7 * j - skipped) k && ltb k (min (7 * j + 7 - skipped) e))))
      ≡ (ltb (k + skipped) (7 * (j + 1)) && b)
  one_more = go (dec_lt (k + skipped) (7 * j)) (dec_lt (k + skipped) (7 * j + 7))
    where
      go : Dec (k + skipped < 7 * j) → Dec (k + skipped < 7 * j + 7)
          → ((ltb (k + skipped) (7 * j) && b) || (t && (leb (7 * j - skipped) k && ltb k (min (7 * j + 7 - skipped) e))))
          ≡ (ltb (k + skipped) (7 * (j + 1)) && b)
      go (yes l) q =
          rw (lt-ltb (k + skipped) (7 * j) l, lt-ltb (k + skipped) (7 * (j + 1)) (omega arith), lt-leb (7 * j - skipped) k (omega arith), and-false t)
          (or-false b)
      go (no l) (yes q) =
          rw (le-ltb (k + skipped) (7 * j) (omega arith), lt-ltb (k + skipped) (7 * (j + 1)) (omega arith), le-leb (7 * j - skipped) k (omega arith))
          (rw (cut q (dec_lt k e)) (and_comm t (ltb k e) ∙ sym (in_week (omega arith) q)))
      go (no l) (no q) =
          rw (le-ltb (k + skipped) (7 * j) (omega arith), le-ltb (k + skipped) (7 * (j + 1)) (omega arith), le-ltb k (min (7 * j + 7 - skipped) e) (omega arith))
          (rw (and-false (leb (7 * j - skipped) k)) (and-false t))

module _ (w : ℕ) (s : List Bool) (y : ℕ) (x : Weeks) (around : x ≡ weeks_around w y) (has : has_mask w y ≡ true) where
  sizes : Counted x
  sizes = rw around (counted w y (asked w y has).start (asked w y has).low)

  -- within week j
  in_week : (k j : ℕ) → 7 * j ≤ k + x.skipped → k + x.skipped < 7 * j + 7 → mask_at w s y k ≡ (ltb k (year_length y + 7) && passes_around s x j)
  unfolding mask_at weeks_around
  in_week k j l u =
      let a : Asked w y = asked w y has in
      let f : First w (new_year y) (week1 w y) = first_week w y a.start (omega arith) in
      let e : x.skipped ≡ new_year y + 7 - week1 w y = ap (λ (v : Weeks). v.skipped) around in
      rw has (
      ap (λ (b : Bool). ltb k (year_length y + 7) && b)
      (passes_around_lem w s y (new_year y + k) j a.start a.low (omega arith) (omega arith) ∙ ap (λ (v : Weeks). passes_around s v j) (sym around)))

  -- a week that doesn't pass
  pub skip_week : (j : ℕ) (m : List Bool) → passes_around s x j ≡ false → Upto w s y x.skipped j m → Upto w s y x.skipped (j + 1) m
  skip_week j m p u =
      record {
        size = u.size;
        at = λ k h. u.at k h ∙ sym (or-false (ltb (k + x.skipped) (7 * j) && mask_at w s y k))
            ∙ one_more k x.skipped j (year_length y + 7) (mask_at w s y k) false (λ l q. rw p at (in_week k j l q));
      }

  -- a week that passes, and whose days in the mask are marked
  pub mark_week : (j from to : ℕ) (m n : List Bool) → passes_around s x j ≡ true → Upto w s y x.skipped j m → from ≡ min (7 * j - x.skipped) (year_length y + 7)
      → to ≡ min (7 * j + 7 - x.skipped) (year_length y + 7) → Marked from to m n → Upto w s y x.skipped (j + 1) n
  mark_week j from to m n p u e f t =
      record {
        size = t.same ∙ u.size;
        at = λ k h. t.at k (omega (arith, u.size)) ∙ rw (e, f, u.at k h, begins k (7 * j - x.skipped) (7 * j + 7 - x.skipped) (year_length y + 7))
            (one_more k x.skipped j (year_length y + 7) (mask_at w s y k) true (λ l q. rw p at (in_week k j l q)));
      }

  -- all weeks are done
  pub all_done : (j : ℕ) (m : List Bool) → 55 ≤ j → Upto w s y x.skipped j m → m ≡ week_mask w s y
  all_done j m l u =
      mask_from w s y m u.size (λ k h. u.at k h ∙ rw (lt-ltb (k + x.skipped) (7 * j) (omega (arith, sizes.skipped_high))))
