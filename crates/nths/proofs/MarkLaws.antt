-- The mask of the nth weekdays, written weekday by weekday; a weekday with no entry is left out.
-- Assumes nothing.
use Prim.Native.Nat.{ℕ, ◌+◌, ◌-◌, ◌*◌, ◌/◌, ◌≤◌, ◌<◌}
use mathlib.Core.Path.{◌≡◌, refl, sym, ap, ◌∙◌}
use mathlib.Core.Bool.{Bool, true, false, ◌||◌}
use mathlib.Core.List.{List}
use lib.ListN.{length, get_or, set, replicate, length-set, length-replicate, get_or-replicate}
use lib.Seq.{ext_get_or, get_or-set_same, get_or-set_other}
use native.Mathlib.Omega.{arith}
use native.Mathlib.Decide.{dec_lt, ℕ_discrete}
use borrow.Author.Tests.{lt-ltb, le-ltb}
use Rattle.calendar.specs.Calendar.{days_of, MonthDay, table_day, from_end, weekday}
use Rattle.rule.specs.Lists.{flags}
use Rattle.rule.specs.Days.{nth_passes}
use Rattle.rule.proofs.SetLaws.{flags_at_lem}
use Rattle.weeks.specs.declared.yearinfo.Year.{Year}
use Rattle.nths.specs.Masks.{year_day_at, year_length_at, nth_at, nth_mask}
use Rattle.nths.specs.Marks.{NoEntry, Marked, rows_of}
use Rattle.nths.proofs.Rows.{row, year_day_lem}
use Rattle.nths.proofs.Slots.{nth_slots}
use Rattle.nths.proofs.NthLaws.{nth_past, nth_in_year, nth_in_month}

-- no row is read yet; one more is; all are
pub no_rows : (s : List Bool) (w from : ℕ) → NoEntry s w from from
unfolding NoEntry
no_rows s w from row l h = absurd (omega arith)

pub one_row_more : (s : List Bool) (w from n : ℕ) (b : Bool) → (b ≡ false → NoEntry s w from n) → (b || get_or s (n * 7 + w) false) ≡ false
    → NoEntry s w from (n + 1)
unfolding NoEntry
one_row_more s w from n true f e row l h = absurd (let z : ◌≡◌ {A = ℕ} 0 1 = cc in omega arith)
one_row_more s w from n false f e row l h = go (dec_lt row n)
  where
    go : Dec (row < n) → get_or s (row * 7 + w) false ≡ false
    go (yes k) = f refl row l k
    go (no k) = let q : row ≡ n = omega arith in ap (λ (m : ℕ). get_or s (m * 7 + w) false) q ∙ e

pub all_rows : (s : List Bool) (w from n to : ℕ) → to ≤ n → NoEntry s w from n → NoEntry s w from to
unfolding NoEntry
all_rows s w from n to h f row l k = f row l (omega arith)

-- the rows lie in the set
pub rows_in : (inyear : Bool) → ((rows_of inyear).0 ≤ (rows_of inyear).1) × ((rows_of inyear).1 ≤ 107)
rows_in true = (omega arith, omega arith)
rows_in false = (omega arith, omega arith)

-- Without an entry no day passes: a month's days ask for the rows 48 to 58.
none_passes : (s : List Bool) (w p l from to : ℕ) → w < 7 → 1 ≤ p → p ≤ 366 → 1 ≤ l → l ≤ 366
    → from ≤ 52 - (l - 1) / 7 → (p - 1) / 7 + 54 < to → NoEntry s w from to → nth_passes s w p (p + l - 1) ≡ false
unfolding NoEntry
none_passes s w p l from to hw a b c d x y f =
    nth_slots s w p l hw a b c d ∙ (rw (f ((p - 1) / 7 + 54) (omega arith) y, f (52 - (l - 1) / 7) x (omega arith)))

none_in_month : (y : Year) (s : List Bool) (i : ℕ) → i < days_of y.long + 7 → NoEntry s (weekday (y.first + i)) 48 59 → nth_at false y s i ≡ false
none_in_month y s i h n =
    let p : MonthDay = table_day y.long i in
    let m = row y.long i h in
    sym (nth_in_month y s i (weekday (y.first + i)) p.day (from_end p) (lt-ltb i (days_of y.long + 7) h) refl refl refl)
    ∙ none_passes s (weekday (y.first + i)) p.day (from_end p) 48 59 (omega arith) (omega arith) (omega arith) (omega arith) (omega arith)
    (omega arith) (omega arith) n

none_in_year : (y : Year) (s : List Bool) (i : ℕ) → i < days_of y.long + 7 → NoEntry s (weekday (y.first + i)) 0 107 → nth_at true y s i ≡ false
none_in_year y s i h n =
    let p : ℕ = year_day_at y.long i in
    let l : ℕ = year_length_at y.long y.nextlong i + 1 - year_day_at y.long i in
    let r = year_day_lem y.long y.nextlong i h in
    sym (nth_in_year y s i (weekday (y.first + i)) p l (lt-ltb i (days_of y.long + 7) h) refl refl refl)
    ∙ none_passes s (weekday (y.first + i)) p l 0 107 (omega arith) (omega arith) (omega arith) (omega arith) (omega arith)
    (omega arith) (omega arith) n

-- The days of one weekday: none is marked before the first of them; one more is; all are, where the place has passed the end.
module _ (f : ℕ → Bool) (first w : ℕ) (was : List Bool) where
  pub none_marked : (i : ℕ) → length was ≡ 373 → i < 7 → weekday (first + i) ≡ w → Marked f first w i was was
  none_marked i l h e = record { size = l; marks = λ k b q. absurd (omega arith); stays = λ k _. refl }

  pub one_marked : (i : ℕ) (mask : List Bool) (b : Bool) → i < 373 → weekday (first + i) ≡ w → b ≡ f i → Marked f first w i was mask
      → Marked f first w (i + 7) was (set mask i b)
  one_marked i mask b h e q m = record {
    size = simp length-set m.size;
    marks = λ k l d. go k l d (ℕ_discrete k i);
    stays = λ k z. let n : k ≡ i → ⊥ = other k z in get_or-set_other mask i k b false n ∙ m.stays k (λ l d. z (omega arith) d);
  }
    where
      go : (k : ℕ) → k < i + 7 → weekday (first + k) ≡ w → Dec (k ≡ i) → get_or (set mask i b) k false ≡ f k
      go k l d (yes x) = rw x (get_or-set_same mask i b false (let n : length mask ≡ 373 = m.size in omega arith) ∙ q)
      go k l d (no x) = get_or-set_other mask i k b false x ∙ m.marks k (omega arith) d

      other : (k : ℕ) → (k < i + 7 → weekday (first + k) ≡ w → ⊥) → k ≡ i → ⊥
      other k z x = z (omega arith) (ap (λ (j : ℕ). weekday (first + j)) x ∙ e)

  pub all_marked : (n i : ℕ) (mask : List Bool) → n ≤ i → i < n + 7 → weekday (first + i) ≡ w → Marked f first w i was mask → Marked f first w n was mask
  all_marked n i mask h l e m = record {
    size = m.size;
    marks = λ k b d. m.marks k (omega arith) d;
    stays = λ k z. m.stays k (λ b d. z (omega arith) d);
  }

-- While the weekdays below w are gone through: their days have what f says, and the other places are blank.
pub record Through (f : ℕ → Bool) (first n w : ℕ) (mask : List Bool) : Type 0 where
  pub size : length mask ≡ 373
  pub done : (k : ℕ) → k < n → weekday (first + k) < w → get_or mask k false ≡ f k
  pub blank : (k : ℕ) → k < 373 → (k < n → weekday (first + k) < w → ⊥) → get_or mask k false ≡ false

module _ (f : ℕ → Bool) (first n : ℕ) where
  pub none_through : Through f first n 0 (replicate 373 false)
  none_through = record { size = length-replicate 373 false; done = λ k l h. absurd (omega arith); blank = λ k h _. get_or-replicate 373 k false false h }

  -- one weekday more, marked or left out
  pub one_through : (w : ℕ) (was is : List Bool) → Marked f first w n was is → Through f first n w was → Through f first n (w + 1) is
  one_through w was is m t = record {
    size = m.size;
    done = λ k l h. go k l h (ℕ_discrete (weekday (first + k)) w);
    blank = λ k h z. m.stays k (λ l e. z l (omega arith)) ∙ t.blank k h (λ l e. z l (omega arith));
  }
    where
      go : (k : ℕ) → k < n → weekday (first + k) < w + 1 → Dec (weekday (first + k) ≡ w) → get_or is k false ≡ f k
      go k l h (yes e) = m.marks k l e
      go k l h (no e) = m.stays k (λ _ d. e d) ∙ t.done k l (omega arith)

  pub one_left_out : (w : ℕ) (mask : List Bool) → n ≤ 373 → ((k : ℕ) → k < n → weekday (first + k) ≡ w → f k ≡ false)
      → Through f first n w mask → Through f first n (w + 1) mask
  one_left_out w mask b z t = one_through w mask mask (record {
    size = t.size;
    marks = λ k l e. t.blank k (omega arith) (λ _ d. (omega arith)) ∙ sym (z k l e);
    stays = λ k _. refl;
  }) t

  pub all_through : (mask : List Bool) → ((k : ℕ) → n ≤ k → f k ≡ false) → Through f first n 7 mask → mask ≡ flags f 373 0
  unfolding flags
  all_through mask z t = ext_get_or false mask (flags f 373 0) t.size (λ k h. at k (let l : length mask ≡ 373 = t.size in omega arith) (dec_lt k n))
    where
      at : (k : ℕ) → k < 373 → Dec (k < n) → get_or mask k false ≡ get_or (flags f 373 0) k false
      at k h (yes l) = t.done k l (omega arith) ∙ sym (flags_at_lem f 373 k h)
      at k h (no l) = t.blank k h (λ m _. (omega arith)) ∙ sym (z k (omega arith)) ∙ sym (flags_at_lem f 373 k h)

-- the mask of a year: a weekday with no entry, and the whole
module _ (y : Year) (s : List Bool) where
  pub left_out : (inyear : Bool) (w : ℕ) → NoEntry s w (rows_of inyear).0 (rows_of inyear).1 → (k : ℕ) → k < days_of y.long + 7 → weekday (y.first + k) ≡ w
      → nth_at inyear y s k ≡ false
  left_out true w n k h e = none_in_year y s k h (rw e n)
  left_out false w n k h e = none_in_month y s k h (rw e n)

  pub mask_is : (inyear : Bool) (mask : List Bool) → Through (nth_at inyear y s) y.first (days_of y.long + 7) 7 mask → mask ≡ nth_mask inyear y s
  unfolding nth_mask
  mask_is inyear mask t =
      all_through (nth_at inyear y s) y.first (days_of y.long + 7) mask
      (λ k l. sym (nth_past y s k inyear (le-ltb k (days_of y.long + 7) l))) t
