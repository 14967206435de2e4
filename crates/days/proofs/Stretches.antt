-- A day set where one list is asked: its test alone decides, and the stretch ends with the year's tables.
-- Assumes nothing.
use Rattle.std.specs.Prelude.{if◌then◌else◌}
use Prim.Native.Nat.{ℕ, zero, suc, ◌+◌, ◌-◌, ◌%◌, min, ◌≤◌, ◌<◌}
use mathlib.Core.Path.{◌≡◌, refl, sym, ap, ◌∙◌}
use mathlib.Core.Bool.{Bool, true, false, not, ◌&&◌, ◌||◌}
use mathlib.Core.List.{List, []}
use lib.ListN.{length, get_or}
use lib.Seq.{sets}
use native.Mathlib.Omega.{arith}
use native.Mathlib.Decide.{dec_lt}
use borrow.Author.Tests.{lt-ltb, le-ltb, not-true, not-false}
use Rattle.calendar.specs.Calendar.{days_of}
use Rattle.rule.specs.Candidates.{gather}
use Rattle.rule.proofs.GivenLaws.{neither}
use Rattle.clocks.specs.Blocks.{passing}
use Rattle.clocks.proofs.Tied.{passing_same}
use Rattle.years.specs.declared.lists.Asked.{Asked}
use Rattle.years.specs.declared.iterinfo.IterInfo.{IterInfo}
use Rattle.nths.specs.Masks.{in_tables}
use Rattle.plain.specs.DaySets.{is_plain, is_month_alone, is_mixed, month_at, all_days, month_days}
use Rattle.days.specs.Filters.{DayLists, yearday_at, weekday_at, place_passes}
use Rattle.days.specs.DaySets.{day_set, has_every, marked_days, year_days, weekday_days, sole_days}
use Rattle.nths.proofs.Rows.{days_high}
use Rattle.nths.proofs.Slots.{every_slot}
use Rattle.plain.proofs.Filling.{passing_done}
use Rattle.days.proofs.FilterLaws.{past_fails}

-- two tests that agree below e, of which one passes nothing from e on
module _ (p q : ℕ → Bool) (e : ℕ) (below : (i : ℕ) → i < e → p i ≡ q i) (past : (i : ℕ) → e ≤ i → p i ≡ false) where
  none_past : (n i : ℕ) → e ≤ i → passing p n i ≡ []
  unfolding passing gather
  none_past zero i h = refl
  none_past (suc n) i h = rw (past i h) (none_past n (i + 1) (omega arith))

  pub cut : (end n i : ℕ) → n ≡ end - i → passing p n i ≡ passing q (min end e - i) i
  unfolding passing gather
  cut end zero i h = let z : min end e - i ≡ 0 = omega arith in rw z
  cut end (suc n) i h = go (dec_lt i e) (cut end n (i + 1) (omega arith))
    where
      go : Dec (i < e) → passing p n (i + 1) ≡ passing q (min end e - (i + 1)) (i + 1) → passing p (suc n) i ≡ passing q (min end e - i) i
      go (yes l) r = let s : min end e - i ≡ suc (min end e - (i + 1)) = omega arith in rw (s, below i l, r)
      go (no l) r = let z : min end e - i ≡ 0 = omega arith in rw (z, past i (omega arith), none_past n (i + 1) (omega arith))

-- without an entry for every weekday, no day passes by one
no_every : (s : List Bool) (w : ℕ) → has_every s ≡ false → w < 7 → get_or s (371 + w) false ≡ false
no_every s w h k =
    let a = neither _ _ h in
    let b = neither _ _ a.1 in
    let c = neither _ _ b.1 in
    let d = neither _ _ c.1 in
    let e = neither _ _ d.1 in
    let f = neither _ _ e.1 in
    go w k a.0 b.0 c.0 d.0 e.0 f.0 f.1
  where
    go : (w : ℕ) → w < 7 → get_or s 371 false ≡ false → get_or s 372 false ≡ false → get_or s 373 false ≡ false → get_or s 374 false ≡ false
        → get_or s 375 false ≡ false → get_or s 376 false ≡ false → get_or s 377 false ≡ false → get_or s (371 + w) false ≡ false
    go zero k a b c d e f g = a
    go (suc zero) k a b c d e f g = b
    go (suc (suc zero)) k a b c d e f g = c
    go (suc (suc (suc zero))) k a b c d e f g = d
    go (suc (suc (suc (suc zero)))) k a b c d e f g = e
    go (suc (suc (suc (suc (suc zero))))) k a b c d e f g = f
    go (suc (suc (suc (suc (suc (suc zero)))))) k a b c d e f g = g
    go (suc (suc (suc (suc (suc (suc (suc w))))))) k a b c d e f g = absurd (omega arith)

module _ (a : Asked) (info : IterInfo) (l : DayLists) (from to : ℕ) where
  -- one test decides in the tables
  by_test : (q : ℕ → Bool) → ((i : ℕ) → in_tables info.year.long i ≡ true → place_passes a info l i ≡ q i)
      → day_set a info l from to ≡ passing q (min to (days_of info.year.long + 7) - from) from
  unfolding day_set
  by_test q f =
      let high = days_high info.year.long in
      let e : ℕ = days_of info.year.long + 7 in
      let m : min (min to 373) e - from ≡ min to e - from = omega arith in
      cut (place_passes a info l) q e
      (λ i h. f i (lt-ltb i e h))
      (λ i h. not-true _ (sym (past_fails a info l i (le-ltb i e h))))
      (min to 373) (min to 373 - from) from refl
      ∙ ap (λ (n : ℕ). passing q n from) m

  -- all the filters are asked no further than the tables go
  pub by_all : day_set a info l from to ≡ passing (place_passes a info l) (min to (days_of info.year.long + 7) - from) from
  by_all = by_test (place_passes a info l) (λ i t. refl)

  -- where lists are not mixed, what is asked beside one that is asked
  record Sole : Type 0 where
    pub monthday : a.monthday ≡ false
    pub beside_month : (a.month && (a.yearday || (a.weekno || a.day))) ≡ false
    pub beside_yearday : (a.yearday && (a.weekno || a.day)) ≡ false
    pub beside_week : (a.weekno && a.day) ≡ false

  sole : is_mixed a ≡ false → Sole
  sole h =
      let x = neither a.monthday
      ((a.month && (a.yearday || (a.weekno || a.day))) || ((a.yearday && (a.weekno || a.day)) || (a.weekno && a.day))) h in
      let v = neither (a.month && (a.yearday || (a.weekno || a.day))) ((a.yearday && (a.weekno || a.day)) || (a.weekno && a.day)) x.1 in
      let w = neither (a.yearday && (a.weekno || a.day)) (a.weekno && a.day) v.1 in
      record { monthday = x.0; beside_month = v.0; beside_yearday = w.0; beside_week = w.1 }

  and-true : (b : Bool) → (b && true) ≡ b
  and-true true = refl
  and-true false = refl

  pub by_month : is_mixed a ≡ false → a.month ≡ true
      → day_set a info l from to ≡ month_days info.months l.bymonth from (min to (days_of info.year.long + 7))
  unfolding month_days place_passes
  by_month h k =
      let u = sole h in
      let r : (a.yearday || (a.weekno || a.day)) ≡ false = rw k at u.beside_month in
      let b = neither a.yearday (a.weekno || a.day) r in
      let c = neither a.weekno a.day b.1 in
      by_test (month_at info.months l.bymonth) (λ i t. rw (t, k, u.monthday, b.0, c.0, c.1) (and-true (month_at info.months l.bymonth i)))

  -- alone, it is not mixed with another list
  pub by_month_alone : is_month_alone a ≡ true → day_set a info l from to ≡ month_days info.months l.bymonth from (min to (days_of info.year.long + 7))
  by_month_alone e = let u = alone a.month a.monthday a.yearday a.weekno a.day e in by_month u.1 u.0
    where
      alone : (m d n w b : Bool) → (m && not (d || (n || (w || b)))) ≡ true
          → (m ≡ true) × ((d || ((m && (n || (w || b))) || ((n && (w || b)) || (w && b)))) ≡ false)
      alone true false false false false e = (refl, refl)
      alone true false false false true e = absurd (let z : ◌≡◌ {A = ℕ} 0 1 = cc in omega arith)
      alone true false false true b e = absurd (let z : ◌≡◌ {A = ℕ} 0 1 = cc in omega arith)
      alone true false true w b e = absurd (let z : ◌≡◌ {A = ℕ} 0 1 = cc in omega arith)
      alone true true n w b e = absurd (let z : ◌≡◌ {A = ℕ} 0 1 = cc in omega arith)
      alone false d n w b e = absurd (let z : ◌≡◌ {A = ℕ} 0 1 = cc in omega arith)

  pub by_year_day : is_mixed a ≡ false → a.month ≡ false → a.yearday ≡ true
      → day_set a info l from to ≡ year_days info.year.long info.year.nextlong l.byyearday from (min to (days_of info.year.long + 7))
  unfolding year_days place_passes
  by_year_day h m k =
      let u = sole h in
      let r : (a.weekno || a.day) ≡ false = rw k at u.beside_yearday in
      let c = neither a.weekno a.day r in
      by_test (yearday_at info.year.long info.year.nextlong l.byyearday)
      (λ i t. rw (t, m, u.monthday, k, c.0, c.1) (and-true (yearday_at info.year.long info.year.nextlong l.byyearday i)))

  pub by_weeks : is_mixed a ≡ false → a.month ≡ false → a.yearday ≡ false → a.weekno ≡ true
      → day_set a info l from to ≡ marked_days info.weeks from (min to (days_of info.year.long + 7))
  unfolding marked_days place_passes
  by_weeks h m x k =
      let u = sole h in
      let d : a.day ≡ false = rw k at u.beside_week in
      by_test (λ i. get_or info.weeks i false) (λ i t. rw (t, m, u.monthday, x, k, d) (and-true (get_or info.weeks i false)))

  pub by_none : is_plain a ≡ true → day_set a info l from to ≡ all_days from (min to (days_of info.year.long + 7))
  unfolding all_days place_passes
  by_none h =
      let x = neither a.month (a.monthday || (a.yearday || (a.weekno || a.day))) (not-true _ h) in
      let v = neither a.monthday (a.yearday || (a.weekno || a.day)) x.1 in
      let w = neither a.yearday (a.weekno || a.day) v.1 in
      let z = neither a.weekno a.day w.1 in
      by_test (λ _. true) (λ i t. rw (t, x.0, v.0, w.0, z.0, z.1))

  -- where some list is asked, and none of the others, it is BYDAY
  day_asked : is_plain a ≡ false → is_mixed a ≡ false → a.month ≡ false → a.yearday ≡ false → a.weekno ≡ false → a.day ≡ true
  day_asked p h m x k = let d : not a.day ≡ false = rw (m, (sole h).monthday, x, k) at p in not-false a.day d

  pub by_weekday : is_plain a ≡ false → is_mixed a ≡ false → a.month ≡ false → a.yearday ≡ false → a.weekno ≡ false
      → day_set a info l from to ≡ weekday_days a.nth info.year.first l.byday info.nths from (min to (days_of info.year.long + 7))
  unfolding weekday_days place_passes
  by_weekday p h m x k =
      by_test (weekday_at a.nth info.year.first l.byday info.nths) (λ i t. rw (t, m, (sole h).monthday, x, k, day_asked p h m x k))

  -- where nothing else is asked, the first of three lists decides
  pub by_sole : is_plain a ≡ false → is_mixed a ≡ false → a.month ≡ false
      → day_set a info l from to ≡ sole_days a info l from (min to (days_of info.year.long + 7))
  unfolding sole_days
  by_sole p h m = go a.yearday a.weekno refl refl
    where
      end : ℕ
      end = min to (days_of info.year.long + 7)

      go : (x k : Bool) → a.yearday ≡ x → a.weekno ≡ k
          → day_set a info l from to ≡ (if x then year_days info.year.long info.year.nextlong l.byyearday from end
          else if k then marked_days info.weeks from end
          else weekday_days a.nth info.year.first l.byday info.nths from end)
      go true k e f = by_year_day h m e
      go false true e f = by_weeks h m e f
      go false false e f = by_weekday p h m e f

module _ (a : Asked) (info : IterInfo) (l : DayLists) (from end : ℕ) where
  pub sole_none : end ≤ from → sole_days a info l from end ≡ []
  unfolding sole_days
  sole_none h = go a.yearday a.weekno
    where
      go : (x k : Bool) → (if x then year_days info.year.long info.year.nextlong l.byyearday from end
          else if k then marked_days info.weeks from end
          else weekday_days a.nth info.year.first l.byday info.nths from end) ≡ []
      go true k = passing_done (yearday_at info.year.long info.year.nextlong l.byyearday) end from h
      go false true = passing_done (λ i. get_or info.weeks i false) end from h
      go false false = passing_done (weekday_at a.nth info.year.first l.byday info.nths) end from h

  pub sole_year_days : a.yearday ≡ true → sole_days a info l from end ≡ year_days info.year.long info.year.nextlong l.byyearday from end
  unfolding sole_days
  sole_year_days h = rw h

  pub sole_weeks : a.yearday ≡ false → a.weekno ≡ true → sole_days a info l from end ≡ marked_days info.weeks from end
  unfolding sole_days
  sole_weeks x h = rw (x, h)

  pub sole_weekdays : a.yearday ≡ false → a.weekno ≡ false
      → sole_days a info l from end ≡ weekday_days a.nth info.year.first l.byday info.nths from end
  unfolding sole_days
  sole_weekdays x h = rw (x, h)

-- without an entry for every weekday, the mask of the nths decides
pub by_nths : (nth : Bool) (first : ℕ) (s nths : List Bool) (from end : ℕ) → nth ≡ true → has_every s ≡ false
    → weekday_days nth first s nths from end ≡ marked_days nths from end
unfolding weekday_days marked_days weekday_at
by_nths nth first s nths from end n e =
    passing_same (weekday_at nth first s nths) (λ i. get_or nths i false) (end - from) from
    (λ i a b. rw (n, every_slot s ((first + i) % 7) (omega arith), no_every s ((first + i) % 7) e (omega arith)))

-- what is written of one list is written of the same list by another name
pub as_set : (xs ys b b₀ : List ℕ) (n : ℕ) → xs ≡ ys → n ≡ length ys → b ≡ sets b₀ 0 ys → (n ≡ length xs) × (b ≡ sets b₀ 0 xs)
as_set xs ys b b₀ n e f g = rw e (f, g)
