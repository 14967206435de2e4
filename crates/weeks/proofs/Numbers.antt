-- Week numbers around a year: 52 or 53 weeks each, and which number a day's week has.
-- Assumes nothing.
use Rattle.std.specs.Prelude.{if◌then◌else◌}
use mathlib.Core.Path.{◌≡◌, refl, ap, ◌∙◌}
use mathlib.Core.Bool.{Bool, true, false}
use mathlib.Core.List.{List}
use Prim.Native.Nat.{ℕ, zero, suc, ◌+◌, ◌-◌, ◌*◌, ◌/◌, ◌%◌, ◌≤◌, ◌<◌}
use native.Mathlib.Omega.{arith}
use native.Mathlib.Decide.{dec_le, dec_lt}
use lib.Dec.{leb}
use lib.ListN.{get_or}
use lib.IntN.{pos, negsuc, ◌-ℤ◌}
use borrow.Author.Tests.{lt-ltb, le-ltb, le-leb, lt-leb, ne_eqb, leb-true, leb-false}
use Rattle.calendar.specs.Calendar.{leap, days_of, year_length, new_year}
use Rattle.calendar.proofs.Years.{years_follow, years_rise}
use Rattle.rule.specs.Lists.{weeknos, slot_of, is_in}
use Rattle.rule.specs.Days.{week_of, week1, week_year, week_number, weeks_in, number_passes}
use Rattle.weeks.specs.declared.yearinfo.Weeks.{Weeks}
use Rattle.weeks.specs.Weeks.{week_passes_in, weeks_around, Counted, passes_around, slots_pass}

-- a year has 365 or 366 days
pub record Gap (y : ℕ) : Type 0 where
  pub low : new_year y + 365 ≤ new_year (y + 1)
  pub high : new_year (y + 1) ≤ new_year y + 366

lengths : (b : Bool) → (365 ≤ days_of b) × (days_of b ≤ 366)
lengths true = (omega arith, omega arith)
lengths false = (omega arith, omega arith)

pub longest : (y : ℕ) → year_length y ≤ 366
longest y = (lengths (leap y)).1

pub gap : (y : ℕ) → 1 ≤ y → Gap y
gap y h =
    let e : new_year (y + 1) ≡ new_year y + year_length y = years_follow y h in
    let l : (365 ≤ year_length y) × (year_length y ≤ 366) = lengths (leap y) in
    record { low = omega arith; high = omega arith }

second_year : new_year 2 ≡ 365
unfolding new_year
second_year = refl

pub late : (y : ℕ) → 2 ≤ y → 365 ≤ new_year y
late y h = omega (arith, second_year, years_rise 2 y (omega arith) h)

-- week 1 begins on the week start, at most three days before or after 1 January
pub record First (w j b : ℕ) : Type 0 where
  pub start : b % 7 ≡ w
  pub low : j ≤ b + 3
  pub high : b ≤ j + 3

-- over the test's outcome
first_by : (w j : ℕ) (t : Bool) → w ≤ 6 → 7 ≤ j → leb (j + 4) (week_of w j + 7) ≡ t → First w j (if t then week_of w j else week_of w j + 7)
first_by w j true hw hj e =
    let l : j + 4 ≤ week_of w j + 7 = leb-true (j + 4) (week_of w j + 7) e in
    record { start = omega arith; low = omega arith; high = omega arith }
first_by w j false hw hj e =
    let l : week_of w j + 7 < j + 4 = leb-false (j + 4) (week_of w j + 7) e in
    record { start = omega arith; low = omega arith; high = omega arith }

pub first_week : (w y : ℕ) → w ≤ 6 → 2 ≤ y → First w (new_year y) (week1 w y)
unfolding week1
first_week w y hw hy = let l : 365 ≤ new_year y = late y hy in first_by w (new_year y) (leb (new_year y + 4) (week_of w (new_year y) + 7)) hw (omega arith) refl

-- the same, as the code finds it
pub early_is : (w y : ℕ) → (new_year y + 7 - w) % 7 < 4 → 7 ≤ new_year y → new_year y - (new_year y + 7 - w) % 7 ≡ week1 w y
unfolding week1
early_is w y h l = rw (le-leb (new_year y + 4) (new_year y - (new_year y + 7 - w) % 7 + 7) (omega arith))

pub late_is : (w y : ℕ) → 4 ≤ (new_year y + 7 - w) % 7 → 7 ≤ new_year y → new_year y - (new_year y + 7 - w) % 7 + 7 ≡ week1 w y
unfolding week1
late_is w y h l = rw (lt-leb (new_year y + 4) (new_year y - (new_year y + 7 - w) % 7 + 7) (omega arith))

-- the weeks of a week year: 52 or 53, and they fill it
pub record Count (w y : ℕ) : Type 0 where
  pub low : 52 ≤ weeks_in w y
  pub high : weeks_in w y ≤ 53
  pub fill : week1 w y + 7 * weeks_in w y ≡ week1 w (y + 1)

-- over numbers alone
spread : (w a e b c : ℕ) → a + 365 ≤ e → e ≤ a + 366 → First w a b → First w e c → (52 ≤ (c - b) / 7) × ((c - b) / 7 ≤ 53) × (b + 7 * ((c - b) / 7) ≡ c)
spread w a e b c l u p q = omega arith

pub count : (w y : ℕ) → w ≤ 6 → 2 ≤ y → Count w y
unfolding weeks_in
count w y hw hy =
    let g = gap y (omega arith) in
    let f : First w (new_year (y + 1)) (week1 w (y + 1)) = first_week w (y + 1) hw (omega arith) in
    let s = spread w (new_year y) (new_year (y + 1)) (week1 w y) (week1 w (y + 1)) g.low g.high (first_week w y hw hy) f in
    record { low = s.0; high = s.1; fill = s.2 }

-- the slot of week v of n, and that of v - n - 1
slot_of_lem : (s : List Bool) (v : ℕ) → 1 ≤ v → v ≤ 53 → is_in weeknos s (pos v) ≡ get_or s (52 + v) false
unfolding is_in slot_of
slot_of_lem s zero l h = absurd (omega arith)
slot_of_lem s (suc v) l h = rw (le-leb (suc v) 53 h) (ap (λ (i : ℕ). get_or s i false) (omega arith))

back : (v n : ℕ) → 1 ≤ v → v ≤ n → pos v -ℤ pos n -ℤ pos 1 ≡ negsuc (n - v)
back v zero l h = absurd (omega arith)
back v (suc n) l h = go (dec_lt v (suc n))
  where
    go : Dec (v < suc n) → pos v -ℤ pos (suc n) -ℤ pos 1 ≡ negsuc (suc n - v)
    go (yes p) = rw (lt-ltb v (suc n) p) (ap negsuc (omega arith))
    go (no p) = rw (le-ltb v (suc n) (omega arith), lt-ltb (v - suc n) 1 (omega arith)) (ap negsuc (omega arith))

slot_back : (s : List Bool) (v n : ℕ) → 1 ≤ v → v ≤ n → n ≤ 53 → is_in weeknos s (pos v -ℤ pos n -ℤ pos 1) ≡ get_or s (52 + v - n) false
unfolding is_in slot_of
slot_back s v n l m h = rw (back v n l m, le-leb (suc (n - v)) 53 (omega arith)) (ap (λ (i : ℕ). get_or s i false) (omega arith))

pub slots_are : (s : List Bool) (v n : ℕ) → 1 ≤ v → v ≤ n → n ≤ 53 → slots_pass s v n ≡ number_passes s v n
unfolding slots_pass
slots_are s v n l m h = rw (slot_of_lem s v l (omega arith), slot_back s v n l m h)

pub counted : (w y : ℕ) → w ≤ 6 → 3 ≤ y → Counted (weeks_around w y)
unfolding weeks_around
counted w y hw hy =
    let f : First w (new_year y) (week1 w y) = first_week w y hw (omega arith) in
    let a : Count w (y - 1) = count w (y - 1) hw (omega arith) in
    let b : Count w y = count w y hw (omega arith) in
    let c : Count w (y + 1) = count w (y + 1) hw (omega arith) in
    record {
      skipped_low = omega arith;
      skipped_high = omega arith;
      last_low = a.low;
      last_high = a.high;
      own_low = b.low;
      own_high = b.high;
      next_low = c.low;
      next_high = c.high;
    }

-- the same, from 1 January and the first days of four years' week 1
pub around_from : (w y j b f s t : ℕ) → 1 ≤ y → j ≡ new_year y → b ≡ week1 w (y - 1) → f ≡ week1 w y → s ≡ week1 w (y + 1) → t ≡ week1 w (y + 2)
    → record { skipped = j + 7 - f; last = (f - b) / 7; own = (s - f) / 7; next = (t - s) / 7 } ≡ weeks_around w y
unfolding weeks_around weeks_in
around_from w y j b f s t h p q r u v =
    let back : y ≡ y - 1 + 1 = omega arith in
    let on : y + 2 ≡ y + 1 + 1 = omega arith in
    let skipped : j + 7 - f ≡ new_year y + 7 - week1 w y = rw (p, r) in
    let last : (f - b) / 7 ≡ weeks_in w (y - 1) = rw (q, r ∙ ap (week1 w) back) in
    let own : (s - f) / 7 ≡ weeks_in w y = rw (r, u) in
    let next : (t - s) / 7 ≡ weeks_in w (y + 1) = rw (u, v ∙ ap (week1 w) on) in
    λ k. record { skipped = skipped k; last = last k; own = own k; next = next k }

-- the three cases of a week around a year: week v of n
module _ (s : List Bool) (x : Weeks) (h : Counted x) (v n : ℕ) where
  pub around_last : v ≡ x.last → n ≡ x.last → slots_pass s v n ≡ passes_around s x 0
  unfolding passes_around
  around_last p q = rw (p, q) (slots_are s x.last x.last (omega arith) (omega arith) h.last_high)

  pub around_own : (j : ℕ) → 1 ≤ j → j ≤ x.own → v ≡ j → n ≡ x.own → slots_pass s v n ≡ passes_around s x j
  unfolding passes_around
  around_own j l u p q = rw (p, q, ne_eqb j 0 (λ e. omega arith), le-leb j x.own u) (slots_are s j x.own l u h.own_high)

  pub around_next : (j : ℕ) → x.own < j → j ≤ 54 → v ≡ j - x.own → n ≡ x.next → slots_pass s v n ≡ passes_around s x j
  unfolding passes_around
  around_next j l u p q =
      rw (p, q, ne_eqb j 0 (λ e. omega arith), lt-leb j x.own l)
      (slots_are s (j - x.own) x.next (omega arith) (omega arith) h.next_high)

-- the weeks of the year before, of the year and of the next fill them
pub record Filled (w y : ℕ) : Type 0 where
  pub last : week1 w (y - 1) + 7 * weeks_in w (y - 1) ≡ week1 w y
  pub own : week1 w y + 7 * weeks_in w y ≡ week1 w (y + 1)
  pub next : week1 w (y + 1) + 7 * weeks_in w (y + 1) ≡ week1 w (y + 2)

pub filled : (w y : ℕ) → w ≤ 6 → 3 ≤ y → Filled w y
filled w y hw hy =
    let e : y - 1 + 1 ≡ y = omega arith in
    let f : y + 1 + 1 ≡ y + 2 = omega arith in
    record {
      last = (count w (y - 1) hw (omega arith)).fill ∙ ap (week1 w) e;
      own = (count w y hw (omega arith)).fill;
      next = (count w (y + 1) hw (omega arith)).fill ∙ ap (week1 w) f;
    }

-- the number of the day d's week, over numbers alone: it lies in week m from the day f on
number_is : (f d m : ℕ) → 1 ≤ m → f + 7 * m ≤ d + 7 → d + 7 < f + 7 * m + 7 → (d - f) / 7 + 1 ≡ m
number_is f d m h l u = omega arith

-- a day of the year y, or of the days after it, from its own week year
passes_in : (w : ℕ) (s : List Bool) (y d o v : ℕ) → week_year w y d ≡ o → (d - week1 w o) / 7 + 1 ≡ v → week_passes_in w s y d ≡ number_passes s v (weeks_in w o)
unfolding week_passes_in week_number
passes_in w s y d o v e f =
    ap (λ (x : ℕ). number_passes s ((d - week1 w x) / 7 + 1) (weeks_in w x)) e ∙ ap (λ (x : ℕ). number_passes s x (weeks_in w o)) f

pub in_last : (w y d : ℕ) → d < week1 w y → week_year w y d ≡ y - 1
unfolding week_year
in_last w y d h = rw (lt-ltb d (week1 w y) h)

pub in_own : (w y d : ℕ) → week1 w y ≤ d → d < week1 w (y + 1) → week_year w y d ≡ y
unfolding week_year
in_own w y d h k = rw (le-ltb d (week1 w y) h, lt-leb (week1 w (y + 1)) d k)

pub in_next : (w y d : ℕ) → week1 w y ≤ d → week1 w (y + 1) ≤ d → week_year w y d ≡ y + 1
unfolding week_year
in_next w y d h k = rw (le-ltb d (week1 w y) h, le-leb (week1 w (y + 1)) d k)

-- A day passes exactly where its week around the year does: it lies in week j from the last week of the year before on.
pub passes_around_lem : (w : ℕ) (s : List Bool) (y d j : ℕ) → w ≤ 6 → 3 ≤ y → week1 w y + 7 * j ≤ d + 7 → d + 7 < week1 w y + 7 * j + 7
    → week_passes_in w s y d ≡ passes_around s (weeks_around w y) j
unfolding passes_around weeks_around
passes_around_lem w s y d j hw hy l u = go (dec_le 1 j) (dec_le j (weeks_in w y)) (filled w y hw hy) (count w (y - 1) hw (omega arith))
  where
    go : Dec (1 ≤ j) → Dec (j ≤ weeks_in w y) → Filled w y → Count w (y - 1) → week_passes_in w s y d ≡ passes_around s (weeks_around w y) j
    go (no p) q f g =
        let e : j ≡ 0 = omega arith in
        let v : ℕ = weeks_in w (y - 1) in
        rw e (passes_in w s y d (y - 1) v (in_last w y d (omega arith)) (number_is (week1 w (y - 1)) d v (omega arith) (omega arith) (omega arith)))
    go (yes p) (yes q) f g =
        rw (ne_eqb j 0 (λ e. omega arith), le-leb j (weeks_in w y) q)
        (passes_in w s y d y j (in_own w y d (omega arith) (omega arith)) (number_is (week1 w y) d j p l u))
    go (yes p) (no q) f g =
        rw (ne_eqb j 0 (λ e. omega arith), lt-leb j (weeks_in w y) (omega arith))
        (passes_in w s y d (y + 1) (j - weeks_in w y) (in_next w y d (omega arith) (omega arith))
        (number_is (week1 w (y + 1)) d (j - weeks_in w y) (omega arith) (omega arith) (omega arith)))
