-- What refusal 20 asks of a record, asked of its sets; and from the answers that the code has.
-- Assumes nothing.
use mathlib.Core.Path.{◌≡◌, refl, ap, sym, ◌∙◌}
use mathlib.Core.Bool.{Bool, true, false, not, ◌&&◌, ◌||◌, or_assoc}
use Prim.Native.Nat.{ℕ}
use lib.Dec.{ltb}
use Rattle.rule.specs.declared.rrule.Refusal.{Refusal}
use Rattle.rule.specs.declared.rrule.Rule.{Rule}
use Rattle.rule.specs.Instants.{last_instant}
use Rattle.rule.specs.Lists.{is_empty}
use Rattle.rule.specs.Refusals.{refusals, until_out, some, nought, count_and_until, misplaces}
use Rattle.rule.specs.Filling.{frequency_number, given, no_days, fill}
use Rattle.rule.specs.Records.{as_raw, same_sets, yielded, has_every, has_nth, no_other, breaks, breaks_no_row, is_unfilled, Sized}
use Rattle.rule.specs.Claims.{RecordsComputed}
use Rattle.rule.proofs.DayParts.{empty_in_parts}
use Rattle.rule.proofs.RecordLaws.{accepted_is, given_back}
use Rattle.rule.proofs.FillLaws.{unfilled_is}

pub records_computed : RecordsComputed
unfolding yielded
records_computed r z =
    sym (
    ap (λ (b : Bool). b && same_sets (fill (given (as_raw r))) r) (accepted_is r z)
    ∙ ap (λ (q : Rule). breaks_no_row r && same_sets (fill q) r) (given_back r z)
    ∙ ap (λ (b : Bool). breaks_no_row r && b) (unfilled_is r z)
    )

neither_is : (a b : Bool) → not (a || b) ≡ (not a && not b)
neither_is true b = refl
neither_is false b = refl

-- from what the code has of each list: n is the frequency's number, and the others say which lists are empty
pub record_by_parts : (r : Rule) → Sized r → {n : ℕ}
    {u zero both misplaced every nth months monthdays yeardays weeknos hours minutes seconds positions : Bool}
    → n ≡ frequency_number r.freq
    → u ≡ until_out r.until
    → every ≡ has_every r.byday
    → nth ≡ has_nth r.byday
    → months ≡ is_empty r.bymonth
    → monthdays ≡ is_empty r.bymonthday
    → yeardays ≡ is_empty r.byyearday
    → weeknos ≡ is_empty r.byweekno
    → hours ≡ is_empty r.byhour
    → minutes ≡ is_empty r.byminute
    → seconds ≡ is_empty r.bysecond
    → positions ≡ is_empty r.bysetpos
    → zero ≡ nought r.interval r.count
    → both ≡ count_and_until r.count r.until
    → misplaced ≡ misplaces n (not weeknos) (not yeardays) (not monthdays)
    → let days : Bool = weeknos && (yeardays && (monthdays && not (every || nth))) in
    not (ltb 6 r.wkst
    || ltb last_instant r.start
    || u
    || every && nth
    || nth && (not weeknos || ltb 1 n)
    || not positions && (months && (days && (hours && (minutes && seconds))))
    || zero
    || both
    || misplaced
    || (days && ltb n 3 || (ltb n 4 && hours || (ltb n 5 && minutes || ltb n 6 && seconds))))
    ≡ yielded r
unfolding some breaks_no_row is_unfilled no_other no_days
record_by_parts r z en eu ee eh e1 e2 e3 e4 e5 e6 e7 e8 e10 e11 e12 =
    rw (e12, e11, e10, en, eu, ee, eh, e1, e2, e3, e4, e5, e6, e7, e8, empty_in_parts r.byday z.byday)
    (simp or_assoc (simp or_assoc at (neither_is (some (λ (n : Refusal). breaks n r) refusals) (is_unfilled r) ∙ records_computed r z)))
