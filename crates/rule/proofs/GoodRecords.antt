-- A record is good exactly when some raw rule's accepted check yields it.
-- Assumes nothing.
use Rattle.std.specs.Prelude.{Ok, Err}
use mathlib.Core.Path.{◌≡◌, refl, ap, sym, ◌∙◌}
use mathlib.Core.Bool.{Bool, true, false, not, ◌&&◌}
use mathlib.Core.List.{List, [], ◌∷◌}
use Prim.Native.Nat.{ℕ, ◌≤◌}
use native.Mathlib.Omega.{arith}
use lib.Dec.{eqb, ltb}
use lib.ListN.{length}
use lib.IntN.{ℤ}
use borrow.Author.Tests.{eqb-true, not-false, ltb-false}
use Rattle.rule.specs.declared.rrule.Refusal.{Refusal}
use Rattle.rule.specs.Refusals.{Verdict}
use Rattle.rule.specs.declared.rrule.Rule.{Rule}
use Rattle.rule.specs.Lists.{months, monthdays, yeardays, weeknos, nths, weekdays, hours, minutes, seconds, positions}
use Rattle.rule.specs.Raw.{RawLists, Raw, raw_lists, raw, entries, pairs}
use Rattle.rule.specs.Refusals.{strays, entry_out, rises, pairs_rise, not_rising, applies, verdict}
use Rattle.rule.specs.Filling.{frequency_number, frequency, given_as, given, fill_from, fill, answers, checked, Yields}
use Rattle.rule.specs.Records.{as_raw, accepts, same_set, same_sets, yielded, breaks, breaks_no_row, Sized}
use Rattle.rule.specs.Claims.{RuleReadBack, GoodRecords}
use Rattle.calendar.proofs.Table.{same_below}
use Rattle.rule.proofs.RuleLaws.{rule_of}
use Rattle.rule.proofs.RecordLaws.{breaks_is, accepted_is, given_back, frequency_back}
use Rattle.rule.proofs.RefusalLaws.{accepting, none_given, all_kept}
use Rattle.rule.proofs.FillLaws.{both, same_itself, fill_once}
use Rattle.rule.proofs.ValueLaws.{length_set_of}
use Rattle.rule.proofs.GivenLaws.{neither, list_back, pairs_back}
use Rattle.rule.proofs.FillKeeps.{fill_sized, fill_keeps}

-- Two records with the same sets, and the same in all else, are one.
same_sets_lem : (s t : List Bool) → same_set s t ≡ true → s ≡ t
unfolding same_set
same_sets_lem [] [] h = refl
same_sets_lem [] (b ∷ bs) h = absurd (let z : ◌≡◌ {A = ℕ} 0 1 = cc in omega arith)
same_sets_lem (a ∷ xs) [] h = absurd (let z : ◌≡◌ {A = ℕ} 0 1 = cc in omega arith)
same_sets_lem (true ∷ xs) (true ∷ bs) h = ap (λ (l : List Bool). true ∷ l) (same_sets_lem xs bs h)
same_sets_lem (true ∷ xs) (false ∷ bs) h = absurd (let z : ◌≡◌ {A = ℕ} 0 1 = cc in omega arith)
same_sets_lem (false ∷ xs) (true ∷ bs) h = absurd (let z : ◌≡◌ {A = ℕ} 0 1 = cc in omega arith)
same_sets_lem (false ∷ xs) (false ∷ bs) h = ap (λ (l : List Bool). false ∷ l) (same_sets_lem xs bs h)

abbrev fields : Rule → Rule
fields r =
    rule_of r.freq r.interval r.count r.until r.wkst r.start r.bymonth r.bymonthday r.byyearday r.byweekno r.byday r.byhour
    r.byminute r.bysecond r.bysetpos

one_record : (q r : Rule) → q.freq ≡ r.freq → q.interval ≡ r.interval → q.count ≡ r.count → q.until ≡ r.until → q.wkst ≡ r.wkst
    → q.start ≡ r.start → same_sets q r ≡ true → q ≡ r
unfolding same_sets
one_record q r e1 e2 e3 e4 e5 e6 h =
    let a = both (same_set q.bymonth r.bymonth) _ h in
    let b = both (same_set q.bymonthday r.bymonthday) _ a.1 in
    let c = both (same_set q.byyearday r.byyearday) _ b.1 in
    let d = both (same_set q.byweekno r.byweekno) _ c.1 in
    let e = both (same_set q.byday r.byday) _ d.1 in
    let f = both (same_set q.byhour r.byhour) _ e.1 in
    let g = both (same_set q.byminute r.byminute) _ f.1 in
    let i = both (same_set q.bysecond r.bysecond) (same_set q.bysetpos r.bysetpos) g.1 in
    let l1 : q.bymonth ≡ r.bymonth = same_sets_lem _ _ a.0 in
    let l2 : q.bymonthday ≡ r.bymonthday = same_sets_lem _ _ b.0 in
    let l3 : q.byyearday ≡ r.byyearday = same_sets_lem _ _ c.0 in
    let l4 : q.byweekno ≡ r.byweekno = same_sets_lem _ _ d.0 in
    let l5 : q.byday ≡ r.byday = same_sets_lem _ _ e.0 in
    let l6 : q.byhour ≡ r.byhour = same_sets_lem _ _ f.0 in
    let l7 : q.byminute ≡ r.byminute = same_sets_lem _ _ g.0 in
    let l8 : q.bysecond ≡ r.bysecond = same_sets_lem _ _ i.0 in
    let l9 : q.bysetpos ≡ r.bysetpos = same_sets_lem _ _ i.1 in
    let whole : fields q ≡ fields r = cc in
    whole

-- A good record: its own raw rule yields it.
yields : (w : Raw) (r : Rule) → verdict w ≡ Ok tt → fill (given w) ≡ r → Yields w r
unfolding checked answers
yields w r a e = rw (a, e)

given_again : (r : Rule) → same_sets (fill (given (as_raw r))) r ≡ true → fill (given (as_raw r)) ≡ r
unfolding fill fill_from given given_as as_raw
given_again r s = one_record (fill (given (as_raw r))) r (frequency_back r.freq) refl refl refl refl refl s

own_raw : (r : Rule) → yielded r ≡ true → Yields (as_raw r) r
unfolding yielded
own_raw r h =
    let b = both (accepts (verdict (as_raw r))) _ h in
    yields (as_raw r) r (accepting (verdict (as_raw r)) b.0) (given_again r b.1)

-- The lists of an accepted raw rule lie in their ranges, and rise.
pub record InRange (l : RawLists) : Type 0 where
  pub bymonth : strays months l.bymonth ≡ false
  pub bymonthday : strays monthdays l.bymonthday ≡ false
  pub byyearday : strays yeardays l.byyearday ≡ false
  pub byweekno : strays weeknos l.byweekno ≡ false
  pub bydays : length l.bydayn ≡ length l.bydayw
  pub bydayn : strays nths l.bydayn ≡ false
  pub bydayw : strays weekdays l.bydayw ≡ false
  pub byhour : strays hours l.byhour ≡ false
  pub byminute : strays minutes l.byminute ≡ false
  pub bysecond : strays seconds l.bysecond ≡ false
  pub bysetpos : strays positions l.bysetpos ≡ false

in_range_lem : (l : RawLists) → entry_out l ≡ false → InRange l
unfolding entry_out
in_range_lem l e =
    let k = neither _ (strays positions l.bysetpos) e in
    let j = neither _ (strays seconds l.bysecond) k.0 in
    let i = neither _ (strays minutes l.byminute) j.0 in
    let h = neither _ (strays hours l.byhour) i.0 in
    let g = neither _ (strays weekdays l.bydayw) h.0 in
    let f = neither _ (strays nths l.bydayn) g.0 in
    let d = neither _ (not (eqb (length l.bydayn) (length l.bydayw))) f.0 in
    let c = neither _ (strays weeknos l.byweekno) d.0 in
    let b = neither _ (strays yeardays l.byyearday) c.0 in
    let a = neither (strays months l.bymonth) (strays monthdays l.bymonthday) b.0 in
    record {
      bymonth = a.0;
      bymonthday = a.1;
      byyearday = b.1;
      byweekno = c.1;
      bydays = eqb-true _ _ (not-false _ d.1);
      bydayn = f.1;
      bydayw = g.1;
      byhour = h.1;
      byminute = i.1;
      bysecond = j.1;
      bysetpos = k.1;
    }

pub record Ordered (l : RawLists) : Type 0 where
  pub bymonth : rises l.bymonth ≡ true
  pub bymonthday : rises l.bymonthday ≡ true
  pub byyearday : rises l.byyearday ≡ true
  pub byweekno : rises l.byweekno ≡ true
  pub bydays : pairs_rise l.bydayn l.bydayw ≡ true
  pub byhour : rises l.byhour ≡ true
  pub byminute : rises l.byminute ≡ true
  pub bysecond : rises l.bysecond ≡ true
  pub bysetpos : rises l.bysetpos ≡ true

ordered : (l : RawLists) → not_rising l ≡ false → Ordered l
unfolding not_rising
ordered l e =
    let i = neither _ (not (rises l.bysetpos)) e in
    let h = neither _ (not (rises l.bysecond)) i.0 in
    let g = neither _ (not (rises l.byminute)) h.0 in
    let f = neither _ (not (rises l.byhour)) g.0 in
    let d = neither _ (not (pairs_rise l.bydayn l.bydayw)) f.0 in
    let c = neither _ (not (rises l.byweekno)) d.0 in
    let b = neither _ (not (rises l.byyearday)) c.0 in
    let a = neither (not (rises l.bymonth)) (not (rises l.bymonthday)) b.0 in
    record {
      bymonth = not-false _ a.0;
      bymonthday = not-false _ a.1;
      byyearday = not-false _ b.1;
      byweekno = not-false _ c.1;
      bydays = not-false _ d.1;
      byhour = not-false _ f.1;
      byminute = not-false _ g.1;
      bysecond = not-false _ h.1;
      bysetpos = not-false _ i.1;
    }

pub given_sized : (w : Raw) → Sized (given w)
unfolding given given_as
given_sized w = record {
  bymonth = length_set_of 12 (entries months w.lists.bymonth);
  bymonthday = length_set_of 62 (entries monthdays w.lists.bymonthday);
  byyearday = length_set_of 732 (entries yeardays w.lists.byyearday);
  byweekno = length_set_of 106 (entries weeknos w.lists.byweekno);
  byday = length_set_of 749 (pairs w.lists.bydayn w.lists.bydayw);
  byhour = length_set_of 24 (entries hours w.lists.byhour);
  byminute = length_set_of 60 (entries minutes w.lists.byminute);
  bysecond = length_set_of 60 (entries seconds w.lists.bysecond);
  bysetpos = length_set_of 732 (entries positions w.lists.bysetpos);
}

number_back : (n : ℕ) → ltb 6 n ≡ false → frequency_number (frequency n) ≡ n
unfolding frequency
number_back n h = same_below (λ (k : ℕ). frequency_number (frequency k)) (λ (k : ℕ). k) 0 7 refl n (let l : n ≤ 6 = ltb-false 6 n h in omega arith)

-- So it is read back from what it gives, and what it gives breaks no row.
same_raw : (w : Raw) {f : ℕ} {a1 a2 a3 a4 a5 a6 a7 a8 a9 a10 : List ℤ} → f ≡ w.freq
    → a1 ≡ w.lists.bymonth → a2 ≡ w.lists.bymonthday → a3 ≡ w.lists.byyearday → a4 ≡ w.lists.byweekno → a5 ≡ w.lists.bydayn
    → a6 ≡ w.lists.bydayw → a7 ≡ w.lists.byhour → a8 ≡ w.lists.byminute → a9 ≡ w.lists.bysecond → a10 ≡ w.lists.bysetpos
    → raw f w.interval w.count w.until w.wkst w.start (raw_lists a1 a2 a3 a4 a5 a6 a7 a8 a9 a10) ≡ w
same_raw w e e1 e2 e3 e4 e5 e6 e7 e8 e9 e10 = rw (e, e1, e2, e3, e4, e5, e6, e7, e8, e9, e10)

read_back : (w : Raw) → ((n : Refusal) → applies n w ≡ false) → as_raw (given w) ≡ w
unfolding as_raw given given_as
read_back w p =
    let l : RawLists = w.lists in
    let i = in_range_lem l (p Refusal.EntryOut) in
    let o = ordered l (p Refusal.NotRising) in
    let d = pairs_back l.bydayn l.bydayw i.bydays i.bydayn i.bydayw o.bydays in
    same_raw w
    (number_back w.freq (p Refusal.FrequencyAbove))
    (list_back months l.bymonth i.bymonth o.bymonth)
    (list_back monthdays l.bymonthday i.bymonthday o.bymonthday)
    (list_back yeardays l.byyearday i.byyearday o.byyearday)
    (list_back weeknos l.byweekno i.byweekno o.byweekno)
    d.0
    d.1
    (list_back hours l.byhour i.byhour o.byhour)
    (list_back minutes l.byminute i.byminute o.byminute)
    (list_back seconds l.bysecond i.bysecond o.bysecond)
    (list_back positions l.bysetpos i.bysetpos o.bysetpos)

pub rule_read_back : RuleReadBack
rule_read_back w e = read_back w ((none_given w).0 e)

rows_given : (w : Raw) → ((n : Refusal) → applies n w ≡ false) → (n : Refusal) → breaks n (given w) ≡ false
rows_given w p n = sym (breaks_is (given w) (given_sized w) n) ∙ ap (applies n) (read_back w p) ∙ p n

-- So an accepted raw rule, filled in, is a good record.
same_record : (r : Rule) → same_sets r r ≡ true
unfolding same_sets
same_record r =
    rw (
      same_itself r.bymonth,
      same_itself r.bymonthday,
      same_itself r.byyearday,
      same_itself r.byweekno,
      same_itself r.byday,
      same_itself r.byhour,
      same_itself r.byminute,
      same_itself r.bysecond,
      same_itself r.bysetpos,
    )

asked : (r : Rule) → yielded r ≡ (accepts (verdict (as_raw r)) && same_sets (fill (given (as_raw r))) r)
unfolding yielded
asked r = refl

both_pass : {a b : Bool} → a ≡ true → b ≡ true → (a && b) ≡ true
both_pass p q = rw (p, q)

good_if : (r : Rule) → Sized r → breaks_no_row r ≡ true → fill r ≡ r → yielded r ≡ true
good_if r z h e =
    asked r
    ∙ both_pass (accepted_is r z ∙ h)
    (ap (λ (x : Rule). same_sets (fill x) r) (given_back r z) ∙ ap (λ (x : Rule). same_sets x r) e ∙ same_record r)

filled_good : (w : Raw) → verdict w ≡ Ok tt → yielded (fill (given w)) ≡ true
filled_good w e =
    good_if (fill (given w)) (fill_sized (given w) (given_sized w))
    (all_kept (fill (given w)) (λ n. fill_keeps (given w) (given_sized w) n (rows_given w ((none_given w).0 e) n)))
    (fill_once (given w))

answered : (v : Verdict) (q r : Rule) → answers v q ≡ Ok r → (v ≡ Ok tt) × (q ≡ r)
unfolding answers
answered (Err n) q r e = absurd (let z : ◌≡◌ {A = ℕ} 0 1 = cc in omega arith)
answered (Ok tt) q r e = (refl, cc)

yielded_good : (w : Raw) (r : Rule) → Yields w r → yielded r ≡ true
unfolding checked
yielded_good w r y =
    let b = answered (verdict w) (fill (given w)) r y in
    ap yielded (sym b.1) ∙ filled_good w b.0

pub good_records : GoodRecords
good_records r = (λ h. (as_raw r, own_raw r h), λ y. yielded_good y.0 r y.1)
