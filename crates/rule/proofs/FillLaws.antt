-- Filling in: where it changes nothing, and that twice is once.
-- Assumes nothing.
use Rattle.std.specs.Prelude.{if◌then◌else◌, Option, Some, None}
use mathlib.Core.Path.{◌≡◌, refl, ap, sym, ◌∙◌}
use mathlib.Core.Bool.{Bool, true, false, not, ◌&&◌, ◌||◌, and-true}
use mathlib.Core.List.{List, [], ◌∷◌}
use Prim.Native.Nat.{ℕ, zero, suc, ◌+◌, ◌-◌, ◌/◌, ◌%◌, ◌<◌}
use native.Mathlib.Omega.{arith}
use lib.Dec.{eqb, ltb}
use lib.ListN.{length, set}
use lib.Seq.{set-set}
use Rattle.calendar.specs.declared.utils.Date.{Date}
use Rattle.calendar.specs.Calendar.{leap, date_of}
use Rattle.calendar.proofs.Dates.{date_is}
use Rattle.calendar.proofs.Months.{at_most_31}
use Rattle.rule.specs.declared.rrule.Frequency.{Frequency}
use Rattle.rule.specs.declared.rrule.Rule.{Rule}
use Rattle.rule.specs.Instants.{second}
use Rattle.rule.specs.Lists.{is_empty, mark}
use Rattle.rule.specs.Filling.{frequency_number, takes, no_days, fill}
use Rattle.rule.specs.Records.{same_set, same_sets, is_unfilled, Sized}
use Rattle.rule.specs.Claims.{FillOnce}
use Rattle.rule.proofs.SetLaws.{take_no, take_full, take_yes}
use Rattle.rule.proofs.RuleLaws.{rule_of, fill_by_parts}

-- a set is the same as itself, and another with a flag more
pub same_itself : (s : List Bool) → same_set s s ≡ true
unfolding same_set
same_itself [] = refl
same_itself (true ∷ bs) = same_itself bs
same_itself (false ∷ bs) = same_itself bs

same_marked : (s : List Bool) (i : ℕ) → i < length s → is_empty s ≡ true → same_set (set s i true) s ≡ false
unfolding same_set is_empty
same_marked [] i h e = absurd (omega arith)
same_marked (true ∷ bs) i h e = absurd (let z : ◌≡◌ {A = ℕ} 0 1 = cc in omega arith)
same_marked (false ∷ bs) zero h e = refl
same_marked (false ∷ bs) (suc i) h e = same_marked bs i (omega arith) e

same_taken : (b : Bool) (s : List Bool) (i : ℕ) → i < length s → same_set (takes b s (Some i)) s ≡ not (b && is_empty s)
unfolding takes
same_taken true s i h = go (is_empty s) refl
  where
    go : (t : Bool) → is_empty s ≡ t → same_set (if t then mark s (Some i) else s) s ≡ not t
    go true e = same_marked s i h e
    go false e = same_itself s
same_taken false s i h = same_itself s

-- the record filled in, by its fields
abbrev pub filled_by : Rule → ℕ → ℕ → Date → Bool → Rule
filled_by r s n date free =
    rule_of r.freq r.interval r.count r.until r.wkst r.start
    (takes (free && eqb n 0) r.bymonth (Some (date.month - 1)))
    (takes (free && (eqb n 0 || eqb n 1)) r.bymonthday (Some (date.day + 30)))
    r.byyearday
    r.byweekno
    (takes (free && eqb n 2) r.byday (Some (371 + s / 86400 % 7)))
    (takes (ltb n 4) r.byhour (Some (s % 86400 / 3600)))
    (takes (ltb n 5) r.byminute (Some (s % 3600 / 60)))
    (takes (ltb n 6) r.bysecond (Some (s % 60)))
    r.bysetpos

pub filled_by_lem : (r : Rule) → filled_by r (second r.start) (frequency_number r.freq) (date_of (second r.start / 86400)) (no_days r) ≡ fill r
filled_by_lem r =
    fill_by_parts r (second r.start) (frequency_number r.freq) (date_of (second r.start / 86400)) (no_days r) refl refl refl refl refl refl
    refl refl refl refl

-- which lists take nothing, where each is empty or not: those of the days; and all
days_take : (f : Frequency) (w y d b m rest : Bool)
    → (not (((w && (y && (d && b))) && eqb (frequency_number f) 0) && m)
    && (not (((w && (y && (d && b))) && (eqb (frequency_number f) 0 || eqb (frequency_number f) 1)) && d)
    && (not (((w && (y && (d && b))) && eqb (frequency_number f) 2) && b) && rest)))
    ≡ (not ((w && (y && (d && b))) && ltb (frequency_number f) 3) && rest)
days_take f false y d b m rest = refl
days_take f true false d b m rest = refl
days_take f true true false b m rest = refl
days_take f true true true false m rest = refl
days_take Frequency.Yearly true true true true true rest = refl
days_take Frequency.Yearly true true true true false rest = refl
days_take Frequency.Monthly true true true true m rest = refl
days_take Frequency.Weekly true true true true m rest = refl
days_take Frequency.Daily true true true true m rest = refl
days_take Frequency.Hourly true true true true m rest = refl
days_take Frequency.Minutely true true true true m rest = refl
days_take Frequency.Secondly true true true true m rest = refl

none_takes : (a b c d : Bool) → (not a && (not b && (not c && not d))) ≡ not (a || (b || (c || d)))
none_takes true b c d = refl
none_takes false true c d = refl
none_takes false false true d = refl
none_takes false false false d = refl

date_low : (d : ℕ) → ((date_of d).month - 1 < 12) × ((date_of d).day + 30 < 62)
date_low d =
    let h = date_is d in
    let l = at_most_31 (leap (date_of d).year) (date_of d).month h.month_high in
    (omega arith, omega arith)

pub unfilled_is : (r : Rule) → Sized r → same_sets (fill r) r ≡ not (is_unfilled r)
unfolding same_sets is_unfilled no_days
unfilled_is r z =
    let s : ℕ = second r.start in
    let n : ℕ = frequency_number r.freq in
    let d = date_low (s / 86400) in
    ap (λ (q : Rule). same_sets q r) (sym (filled_by_lem r))
    ∙ rw (
      same_taken (no_days r && eqb n 0) r.bymonth ((date_of (s / 86400)).month - 1) (omega (arith, z.bymonth)),
      same_taken (no_days r && (eqb n 0 || eqb n 1)) r.bymonthday ((date_of (s / 86400)).day + 30) (omega (arith, z.bymonthday)),
      same_itself r.byyearday,
      same_itself r.byweekno,
      same_taken (no_days r && eqb n 2) r.byday (371 + s / 86400 % 7) (omega (arith, z.byday)),
      same_taken (ltb n 4) r.byhour (s % 86400 / 3600) (omega (arith, z.byhour)),
      same_taken (ltb n 5) r.byminute (s % 3600 / 60) (omega (arith, z.byminute)),
      same_taken (ltb n 6) r.bysecond (s % 60) (omega (arith, z.bysecond)),
      same_itself r.bysetpos,
      and-true (not (ltb n 6 && is_empty r.bysecond)),
    )
    (days_take r.freq (is_empty r.byweekno) (is_empty r.byyearday) (is_empty r.bymonthday) (is_empty r.byday) (is_empty r.bymonth) _
    ∙ none_takes (no_days r && ltb n 3) (ltb n 4 && is_empty r.byhour) (ltb n 5 && is_empty r.byminute) (ltb n 6 && is_empty r.bysecond))

-- a set that took an entry takes nothing more, where the second test is no wider than the first
mark_twice : (s : List Bool) (e : Option ℕ) → mark (mark s e) e ≡ mark s e
mark_twice s (Some i) = set-set s i true true
mark_twice s None = refl

pub empty_before : (b : Bool) (s : List Bool) (e : Option ℕ) → is_empty (takes b s e) ≡ true → is_empty s ≡ true
unfolding takes
empty_before true s e h = go (is_empty s) refl h
  where
    go : (t : Bool) → is_empty s ≡ t → is_empty (if t then mark s e else s) ≡ true → is_empty s ≡ true
    go true p q = p
    go false p q = q
empty_before false s e h = h

take_again : (b c : Bool) (s : List Bool) (e : Option ℕ) → (c ≡ true → b ≡ true) → takes c (takes b s e) e ≡ takes b s e
take_again b false s e h = take_no false (takes b s e) e refl
take_again b true s e h = rw (h refl) (go (is_empty s) (is_empty (mark s e)) refl refl)
  where
    go : (t u : Bool) → is_empty s ≡ t → is_empty (mark s e) ≡ u → takes true (takes true s e) e ≡ takes true s e
    go false u p q = ap (λ (x : List Bool). takes true x e) (take_full true s e p)
    go true u p q =
        ap (λ (x : List Bool). takes true x e) (take_yes true s e refl p) ∙ marked u q ∙ sym (take_yes true s e refl p)
      where
        marked : (u : Bool) → is_empty (mark s e) ≡ u → takes true (mark s e) e ≡ mark s e
        marked false q = take_full true (mark s e) e q
        marked true q = take_yes true (mark s e) e refl q ∙ mark_twice s e

narrower : (f g t : Bool) → (g ≡ true → f ≡ true) → (g && t) ≡ true → (f && t) ≡ true
narrower f true t h e = rw (h refl) e
narrower f false t h e = absurd (let z : ◌≡◌ {A = ℕ} 0 1 = cc in omega arith)

refill : (r : Rule) (s n : ℕ) (date : Date) (free again : Bool) → (again ≡ true → free ≡ true)
    → filled_by (filled_by r s n date free) s n date again ≡ filled_by r s n date free
refill r s n date free again h =
    rw (
      take_again (free && eqb n 0) (again && eqb n 0) r.bymonth (Some (date.month - 1)) (narrower free again (eqb n 0) h),
      take_again (free && (eqb n 0 || eqb n 1)) (again && (eqb n 0 || eqb n 1)) r.bymonthday (Some (date.day + 30))
          (narrower free again (eqb n 0 || eqb n 1) h),
      take_again (free && eqb n 2) (again && eqb n 2) r.byday (Some (371 + s / 86400 % 7)) (narrower free again (eqb n 2) h),
      take_again (ltb n 4) (ltb n 4) r.byhour (Some (s % 86400 / 3600)) (λ e. e),
      take_again (ltb n 5) (ltb n 5) r.byminute (Some (s % 3600 / 60)) (λ e. e),
      take_again (ltb n 6) (ltb n 6) r.bysecond (Some (s % 60)) (λ e. e),
    )

-- both of two tests passed
pub both : (a b : Bool) → (a && b) ≡ true → (a ≡ true) × (b ≡ true)
both true b e = (refl, e)
both false b e = absurd (let z : ◌≡◌ {A = ℕ} 0 1 = cc in omega arith)

pub no_days_before : (r : Rule) (s n : ℕ) (date : Date) (free : Bool) → no_days (filled_by r s n date free) ≡ true → no_days r ≡ true
unfolding no_days
no_days_before r s n date free h =
    let a = both (is_empty r.byweekno) _ h in
    let b = both (is_empty r.byyearday) _ a.1 in
    let c = both (is_empty (takes (free && (eqb n 0 || eqb n 1)) r.bymonthday (Some (date.day + 30)))) _ b.1 in
    rw (a.0, b.0, empty_before _ _ _ c.0, empty_before _ _ _ c.1)

pub fill_once : FillOnce
fill_once r =
    let s : ℕ = second r.start in
    let n : ℕ = frequency_number r.freq in
    let date : Date = date_of (s / 86400) in
    let q : Rule = filled_by r s n date (no_days r) in
    ap fill (sym (filled_by_lem r)) ∙ sym (filled_by_lem q) ∙ refill r s n date (no_days r) (no_days q) (no_days_before r s n date (no_days r)) ∙ filled_by_lem r
