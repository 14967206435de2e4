-- Filling in keeps the sizes of a record's sets, and each row of the table that the record keeps.
-- Assumes nothing.
use Rattle.std.specs.Prelude.{if◌then◌else◌, Option, Some}
use mathlib.Core.Path.{◌≡◌, refl, ap, sym, ◌∙◌, subst}
use mathlib.Core.Bool.{Bool, true, false, not, ◌&&◌, ◌||◌, and-false}
use mathlib.Core.List.{List}
use Prim.Native.Nat.{ℕ, ◌+◌, ◌/◌, ◌%◌, ◌≤◌, ◌<◌}
use native.Mathlib.Omega.{arith}
use lib.ListN.{length}
use lib.Seq.{take-set-le, drop-set-lt}
use lib.Dec.{eqb}
use borrow.Author.Tests.{not-true, eqb-true}
use Rattle.calendar.specs.declared.utils.Date.{Date}
use Rattle.calendar.specs.Calendar.{date_of}
use Rattle.rule.specs.declared.rrule.Refusal.{Refusal}
use Rattle.rule.specs.declared.rrule.Rule.{Rule}
use Rattle.rule.specs.Instants.{second}
use Rattle.rule.specs.Lists.{is_empty, mark}
use Rattle.rule.specs.Filling.{frequency_number, takes, no_days, fill}
use Rattle.rule.specs.Records.{has_every, has_nth, no_other, breaks, Sized}
use Rattle.rule.specs.Refusals.{misplaces}
use Rattle.rule.proofs.EntryLaws.{length_mark}
use Rattle.rule.proofs.SetLaws.{take_no}
use Rattle.rule.proofs.DayParts.{empty_in_parts}
use Rattle.rule.proofs.FillLaws.{filled_by, filled_by_lem, both, empty_before, no_days_before}
use Rattle.rule.proofs.GivenLaws.{neither}

length_takes : (b : Bool) (s : List Bool) (e : Option ℕ) → length (takes b s e) ≡ length s
unfolding takes
length_takes b s e = go (b && is_empty s)
  where
    go : (t : Bool) → length (if t then mark s e else s) ≡ length s
    go true = length_mark s e
    go false = refl

sized_by : (r : Rule) (s n : ℕ) (date : Date) (free : Bool) → Sized r → Sized (filled_by r s n date free)
sized_by r s n date free z = record {
  bymonth = length_takes _ _ _ ∙ z.bymonth;
  bymonthday = length_takes _ _ _ ∙ z.bymonthday;
  byyearday = z.byyearday;
  byweekno = z.byweekno;
  byday = length_takes _ _ _ ∙ z.byday;
  byhour = length_takes _ _ _ ∙ z.byhour;
  byminute = length_takes _ _ _ ∙ z.byminute;
  bysecond = length_takes _ _ _ ∙ z.bysecond;
  bysetpos = z.bysetpos;
}

pub fill_sized : (r : Rule) → Sized r → Sized (fill r)
fill_sized r z =
    subst Sized (filled_by_lem r)
    (sized_by r (second r.start) (frequency_number r.freq) (date_of (second r.start / 86400)) (no_days r) z)

-- a test that is not wider than another that fails
narrower : (a b x y : Bool) → (x ≡ true → a ≡ true) → (y ≡ true → b ≡ true) → (a && b) ≡ false → (x && y) ≡ false
narrower a b true true f g h = let p : a ≡ true = f refl in let q : b ≡ true = g refl in absurd (let z : ◌≡◌ {A = ℕ} 0 1 = cc in omega arith)
narrower a b true false f g h = refl
narrower a b false y f g h = refl

untaken : (b : Bool) (s : List Bool) (e : Option ℕ) → (b && is_empty s) ≡ false → takes b s e ≡ s
unfolding takes
untaken b s e h = rw h

-- BYDAY's set that takes a weekday, where it is empty and is to: n not 0 is as before
module _ (b : Bool) (s : List Bool) (i : ℕ) (low : 371 ≤ i) (high : i < 378) where
  pub nth_kept : has_nth (takes b s (Some i)) ≡ has_nth s
  unfolding takes has_nth
  nth_kept = go (b && is_empty s)
    where
      go : (t : Bool) → has_nth (if t then mark s (Some i) else s) ≡ has_nth s
      go true = rw (take-set-le 371 s i true low, drop-set-lt 378 s i true high)
      go false = refl

  pub mixed_kept : length s ≡ 749 → (has_every s && has_nth s) ≡ false → (has_every (takes b s (Some i)) && has_nth (takes b s (Some i))) ≡ false
  mixed_kept sized h = rw nth_kept (go (b && is_empty s) refl)
    where
      none : is_empty s ≡ true → has_nth s ≡ false
      none e = (neither (has_every s) (has_nth s) (not-true (has_every s || has_nth s) (empty_in_parts s sized ∙ e))).1

      go : (t : Bool) → (b && is_empty s) ≡ t → (has_every (takes b s (Some i)) && has_nth s) ≡ false
      go true e = ap (λ (x : Bool). has_every (takes b s (Some i)) && x) (none (both b (is_empty s) e).1) ∙ and-false (has_every (takes b s (Some i)))
      go false e = ap (λ (x : List Bool). has_every x && has_nth s) (untaken b s (Some i) e) ∙ h

others_before : (r : Rule) (s n : ℕ) (date : Date) (free : Bool) → no_other (filled_by r s n date free) ≡ true → no_other r ≡ true
unfolding no_other
others_before r s n date free h =
    let q : Rule = filled_by r s n date free in
    let a = both (is_empty q.bymonth) _ h in
    let b = both (no_days q) _ a.1 in
    let c = both (is_empty q.byhour) _ b.1 in
    let d = both (is_empty q.byminute) (is_empty q.bysecond) c.1 in
    rw (
      empty_before _ _ _ a.0,
      no_days_before r s n date free b.0,
      empty_before _ _ _ c.0,
      empty_before _ _ _ d.0,
      empty_before _ _ _ d.1,
    )

-- WEEKLY takes no month day, and only with WEEKLY are month days misplaced
weekly_takes_none : (n : ℕ) (free : Bool) (s : List Bool) (e : Option ℕ) → eqb n 2 ≡ true → takes (free && (eqb n 0 || eqb n 1)) s e ≡ s
weekly_takes_none n free s e h = take_no (free && (eqb n 0 || eqb n 1)) s e (rw (eqb-true n 2 h) (and-false free))

only_where : (t : Bool) {x y : Bool} → (t ≡ true → x ≡ y) → (x && t) ≡ (y && t)
only_where true h = ap (λ (b : Bool). b && true) (h refl)
only_where false {x = x} {y = y} h = and-false x ∙ sym (and-false y)

misplaced_kept : (n : ℕ) (free weeknos yeardays : Bool) (s : List Bool) (e : Option ℕ)
    → misplaces n weeknos yeardays (not (is_empty (takes (free && (eqb n 0 || eqb n 1)) s e))) ≡ misplaces n weeknos yeardays (not (is_empty s))
misplaced_kept n free weeknos yeardays s e =
    ap (λ (b : Bool). weeknos && not (eqb n 0) || yeardays && (eqb n 3 || (eqb n 2 || eqb n 1)) || b)
    (only_where (eqb n 2) (λ h. ap (λ (l : List Bool). not (is_empty l)) (weekly_takes_none n free s e h)))

-- each row that a record keeps, it keeps filled in
keeps_by : (r : Rule) (s : ℕ) (date : Date) (free : Bool) → Sized r → (m : Refusal) → breaks m r ≡ false
    → breaks m (filled_by r s (frequency_number r.freq) date free) ≡ false
keeps_by r s date free z Refusal.FrequencyAbove h = refl
keeps_by r s date free z Refusal.WeekStartAbove h = h
keeps_by r s date free z Refusal.StartOut h = h
keeps_by r s date free z Refusal.UntilOut h = h
keeps_by r s date free z Refusal.EntryOut h = refl
keeps_by r s date free z Refusal.NotRising h = refl
keeps_by r s date free z Refusal.MixedDays h = mixed_kept _ r.byday (371 + s / 86400 % 7) (omega arith) (omega arith) z.byday h
keeps_by r s date free z Refusal.NthMisplaced h = rw (nth_kept _ r.byday (371 + s / 86400 % 7) (omega arith) (omega arith)) h
keeps_by r s date free z Refusal.PositionsAlone h =
    narrower (not (is_empty r.bysetpos)) (no_other r) (not (is_empty r.bysetpos)) (no_other (filled_by r s (frequency_number r.freq) date free))
    (λ e. e) (others_before r s (frequency_number r.freq) date free) h
keeps_by r s date free z Refusal.Nought h = h
keeps_by r s date free z Refusal.CountAndUntil h = h
keeps_by r s date free z Refusal.ListMisplaced h =
    misplaced_kept (frequency_number r.freq) free (not (is_empty r.byweekno)) (not (is_empty r.byyearday)) r.bymonthday (Some (date.day + 30)) ∙ h

pub fill_keeps : (r : Rule) → Sized r → (m : Refusal) → breaks m r ≡ false → breaks m (fill r) ≡ false
fill_keeps r z m h =
    ap (breaks m) (sym (filled_by_lem r)) ∙ keeps_by r (second r.start) (date_of (second r.start / 86400)) (no_days r) z m h
