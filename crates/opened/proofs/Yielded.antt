-- What a record has that an accepted check yields.
-- Assumes nothing.
use Rattle.std.specs.Prelude.{Option, Ok, Err}
use Prim.Native.Nat.{ℕ, zero, suc, ◌+◌, ◌≤◌}
use mathlib.Core.Path.{◌≡◌, refl, ap, subst, ◌∙◌}
use mathlib.Core.Bool.{Bool, true, false, not}
use mathlib.Core.List.{List}
use native.Mathlib.Omega.{arith}
use lib.ListN.{length}
use Rattle.std.proofs.lemmas.Bool.{and_parts}
use borrow.Author.Tests.{ltb-false}
use Rattle.rule.specs.declared.rrule.Refusal.{Refusal}
use Rattle.rule.specs.declared.rrule.Rule.{Rule}
use Rattle.rule.specs.Refusals.{Verdict}
use Rattle.rule.specs.Instants.{last_instant}
use Rattle.rule.specs.Lists.{flags, some_at, set_of, months, monthdays, yeardays, weeknos, hours, minutes, seconds, positions}
use Rattle.rule.specs.Raw.{Raw, entries, pairs}
use Rattle.rule.specs.Refusals.{until_out, verdict}
use Rattle.rule.specs.Filling.{given_as, given, fill, answers, checked, Yields}
use Rattle.rule.specs.Records.{breaks_no_row, is_unfilled, yielded, Sized}
use Rattle.rule.proofs.FillKeeps.{fill_sized}
use Rattle.rule.proofs.GoodRecords.{good_records}
use Rattle.rule.proofs.RecordsComputed.{records_computed}
use Rattle.rule.proofs.RefusalLaws.{none_broken}

length_flags : (f : ℕ → Bool) (n i : ℕ) → length (flags f n i) ≡ n
unfolding flags
length_flags f zero i = refl
length_flags f (suc n) i = ap suc (length_flags f n (i + 1))

length_set_of : (n : ℕ) (es : List (Option ℕ)) → length (set_of n es) ≡ n
unfolding set_of
length_set_of n es = length_flags (λ i. some_at i es) n 0

-- what a raw rule gives has its sets' sizes, and so has the filled record
given_sized : (w : Raw) → Sized (given w)
unfolding given given_as
given_sized w = record {
  bymonth = length_set_of 12 (entries months w.lists.bymonth);
  bymonthday = length_set_of 62 (entries monthdays w.lists.bymonthday);
  byyearday = length_set_of 732 (entries yeardays w.lists.byyearday);
  byweekno = length_set_of 106 (entries weeknos w.lists.byweekno);
  byday = length_set_of 749 (pairs w.lists.bydayn w.lists.bydayw);
  byhour = length_set_of 24 (entries hours w.lists.byhour);
  byminute = length_set_of 60 (entries minutes w.lists.byminute);
  bysecond = length_set_of 60 (entries seconds w.lists.bysecond);
  bysetpos = length_set_of 732 (entries positions w.lists.bysetpos);
}

answered : (v : Verdict) (q r : Rule) → answers v q ≡ Ok r → q ≡ r
unfolding answers
answered (Err n) q r e = absurd (let z : ◌≡◌ {A = ℕ} 0 1 = cc in omega arith)
answered (Ok tt) q r e = cc

yields_sized : (w : Raw) (r : Rule) → Yields w r → Sized r
unfolding checked
yields_sized w r y = subst (λ (q : Rule). Sized q) (answered (verdict w) (fill (given w)) r y) (fill_sized (given w) (given_sized w))

pub record Good (r : Rule) : Type 0 where
  pub sized : Sized r
  pub wkst : r.wkst ≤ 6
  pub start : r.start ≤ last_instant
  pub until : until_out r.until ≡ false

pub good : (r : Rule) → yielded r ≡ true → Good r
good r h =
    let w = (good_records r).0 h in
    let z : Sized r = yields_sized w.0 r w.1 in
    let kept = none_broken r (and_parts (breaks_no_row r) (not (is_unfilled r)) (records_computed r z ∙ h)).0 in
    record {
      sized = z;
      wkst = ltb-false 6 r.wkst (kept Refusal.WeekStartAbove);
      start = ltb-false last_instant r.start (kept Refusal.StartOut);
      until = kept Refusal.UntilOut;
    }
