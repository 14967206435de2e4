-- How large what is spelled can be: a moment lies in the range of instants, an entry has three digits, a list 749 entries.
-- Assumes nothing.
use Rattle.std.specs.Prelude.{if◌then◌else◌}
use Prim.Native.Nat.{ℕ, zero, suc, ◌+◌, ◌-◌, ◌*◌, ◌≤◌, ◌<◌}
use native.Mathlib.Omega.{arith}
use mathlib.Core.Path.{◌≡◌, refl, sym, ap, subst}
use mathlib.Core.Bool.{Bool, true, false}
use mathlib.Core.List.{List, [], ◌∷◌, map}
use lib.ListN.{length, length-map}
use lib.Dec.{eqb, leb}
use lib.IntN.{ℤ, pos, nat_abs}
use borrow.Author.Tests.{leb-true}
use Rattle.calendar.specs.declared.utils.Date.{Date}
use Rattle.calendar.specs.Calendar.{leap, new_year, year_of, month_length, day_of_date, date_of}
use Rattle.calendar.proofs.Table.{same_below}
use Rattle.calendar.proofs.Years.{years_rise, year_of_is}
use Rattle.calendar.proofs.Dates.{date_of_its_day}
use Rattle.rule.specs.Instants.{last_instant, range_end}
use Rattle.symbols.specs.Languages.{Perhaps, Perhaps.missing, Perhaps.there, Joined, Joined.one, Joined.more}
use Rattle.symbols.specs.Counts.{Three, ten_to}
use Rattle.symbols.proofs.Numerals.{number_most}
use Rattle.recur.specs.Grammar.{minus, below, Signed, Entry, comma, stays, ListOf, Moment}
use Rattle.recur.specs.Claims.{EachWithin, ListInRange}

-- ---- moments

-- the first day after 9999
ten_thousand : new_year 10000 ≡ range_end
unfolding new_year
ten_thousand = refl

-- a date's day lies in the date's year
in_date_range : (y m d : ℕ) → 1 ≤ y → y ≤ 9999 → 1 ≤ m → m ≤ 12 → 1 ≤ d → d ≤ month_length (leap y) m → day_of_date y m d < range_end
unfolding date_of
in_date_range y m d a b e f g h =
    let x : Date = record { year = y; month = m; day = d; length = month_length (leap y) m } in
    let p : year_of (day_of_date y m d) ≡ y = ap (λ (z : Date). z.year) (date_of_its_day x
    (record { year_low = a; month_low = e; month_high = f; day_low = g; day_high = h; length_is = refl })) in
    let q : day_of_date y m d < new_year (y + 1) = subst (λ (z : ℕ). day_of_date y m d < new_year (z + 1)) p (year_of_is (day_of_date y m d)).to in
    omega (arith, years_rise (y + 1) 10000 (omega arith) (omega arith), ten_thousand)

instant_in : (day h m s : ℕ) → day < range_end → h ≤ 23 → m ≤ 59 → s ≤ 59 → day * 86400 + (h * 3600 + m * 60 + s) - 719162 * 86400 ≤ last_instant
instant_in day h m s a b c d = omega arith

pub moment_most : (t : ℕ) (bs : List ℕ) → Moment t bs → t ≤ last_instant
moment_most t bs d =
    let y = d.spelled.left.left in
    let m = d.spelled.left.right.left in
    let n = d.spelled.left.right.right.left in
    let h = d.spelled.right.left in
    let i = d.spelled.right.right.left in
    let s = d.spelled.right.right.right.left in
    subst (λ (z : ℕ). z ≤ last_instant) (sym d.turned)
    (instant_in _ _ _ _ (in_date_range _ _ _ (omega (arith, y.least)) y.greatest m.least m.greatest n.least n.greatest)
    h.greatest i.greatest s.greatest)

-- ---- entries

ten_most : (n : ℕ) → n ≤ 3 → ten_to n ≤ 1000
unfolding ten_to
ten_most n h = leb-true _ _ (same_below (λ (n : ℕ). leb (ten_to n) 1000) (λ (n : ℕ). true) true 4 refl n (omega arith))

three_most : (low v : ℕ) (bs : List ℕ) → Three low v bs → v ≤ 999
three_most low v bs d = omega (arith, number_most 0 bs d.numeral.digits, ten_most (length bs) d.few, d.numeral.number)

-- a negative number's size is told less one, so no bound is passed
size_below : (n : ℕ) → nat_abs (below n) ≤ n
size_below zero = omega arith
size_below (suc n) = omega arith

sign_most : (b : Bool) (n : ℕ) → n ≤ 999 → nat_abs (if b then below n else pos n) ≤ 999
sign_most true n h = omega (arith, size_below n)
sign_most false n h = h

signed_most : (low : ℕ) (z : ℤ) (bs : List ℕ) → Signed low z bs → nat_abs z ≤ 999
signed_most low z bs d =
    subst (λ (x : ℤ). nat_abs x ≤ 999) (sym d.turned) (sign_most (eqb d.from.first minus) d.from.second (three_most low _ _ d.spelled.right))

pub entry_most : (signs : Bool) (z : ℤ) (bs : List ℕ) → Entry signs z bs → nat_abs z ≤ 999
entry_most true z bs d = signed_most 0 z bs d
entry_most false z bs d = subst (λ (x : ℤ). nat_abs x ≤ 999) (sym d.turned) (three_most 0 _ _ d.spelled)

pub nth_most : (z : ℤ) (bs : List ℕ) → Perhaps ℤ (pos 0) (Signed 1) z bs → nat_abs z ≤ 999
nth_most z bs (missing e) = omega arith
nth_most z bs (there d) = signed_most 1 z bs d

-- ---- lists

module _ (A : Type 0) (L : A → List ℕ → Type 0) (f : A → ℤ) (most : (a : A) (bs : List ℕ) → L a bs → nat_abs (f a) ≤ 999) where
  each_in : (n : ℕ) (u : Unit {0}) (vs : List A) (zs : List ℕ) → Joined (Unit {0}) A stays (λ (u : Unit {0}). L) comma n u vs zs
      → (length vs ≤ suc n) × EachWithin 999 (map f vs)
  unfolding EachWithin
  each_in n u [] zs j = elim j [ ]
  each_in n u (a ∷ []) zs (one l) = (omega arith, (most a zs l, tt))
  each_in (suc n) u (a ∷ vs) zs (more xs ys l j e) =
      let k = each_in n u vs ys j in
      (omega arith, (most a xs l, k.1))

  pub list_in_lem : (vs : List A) (zs : List ℕ) → ListOf A L vs zs → ListInRange (map f vs)
  list_in_lem vs zs j =
      let k = each_in 748 tt vs zs j in
      record { few = subst (λ (n : ℕ). n ≤ 749) (sym (length-map vs f)) k.0; each = k.1 }
