-- Demand 3, from the machine's theorem and the laws of the rule's own periods.
-- Assumes nothing.
use Rattle.std.specs.Prelude.{Option, Some, None, Ok, Err}
use Prim.Native.Nat.{ℕ, suc, ◌-◌, ◌*◌, ◌≤◌, ◌<◌}
use mathlib.Core.Path.{◌≡◌, refl, sym, ◌∙◌, ap, subst}
use mathlib.Core.Logic.{inl, inr, ⊎_elim}
use mathlib.Core.Bool.{Bool, true, false, ◌&&◌}
use mathlib.Core.List.{List, [], ◌∷◌, map}
use native.Mathlib.Omega.{arith}
use lib.ListN.{length}
use borrow.Author.Tests.{lt-ltb}
use Rattle.machine.specs.declared.Cause.{Cause}
use Rattle.machine.specs.Rising.{◌∈◌, Rises}
use Rattle.machine.specs.Given.{Bound.present, AtMost}
use Rattle.machine.specs.Given.{Satisfies as SecondSatisfies}
use Rattle.machine.specs.Run.{Call}
use Rattle.machine.specs.Promises.{All, Says}
use Rattle.machine.specs.Promises.{Lists as MachineLists}
use Rattle.machine.proofs.Theorems.{chain_lists}
use Rattle.rule.specs.Refusals.{Verdict}
use Rattle.rule.specs.declared.rrule.Rule.{Rule}
use Rattle.rule.specs.Instants.{second, instant, last_instant, range_end}
use Rattle.rule.specs.Refusals.{verdict}
use Rattle.rule.specs.Filling.{given, fill, answers, checked}
use Rattle.rule.specs.Records.{as_raw, yielded}
use Rattle.rule.specs.Periods.{period, in_range}
use Rattle.rule.specs.Candidates.{Kept}
use Rattle.rule.specs.Satisfies.{NotAfter, Satisfies}
use Rattle.rule.specs.Run.{count_of, until_of, periods, fresh_of}
use Rattle.rule.specs.Meaning.{RisesFrom}
use Rattle.rule.specs.Demand.{told_by, Handed, EndedBy, Lists, GoodRecordsList, DemandThree, IntervalFollows, DemandThreeBefore, NeverByInterval}
use Rattle.rule.proofs.CheckLaws.{start_in_range, wkst_in_range, interval_above}
use Rattle.rule.proofs.Chosen.{kept_are}
use Rattle.rule.proofs.GoodRecords.{good_records}
use Rattle.rule.proofs.RefusalLaws.{accepting}
use Rattle.rule.proofs.SoundPeriods.{kept_candidate, ends, sound}

-- what is known of a good record
both_left : (a b : Bool) → a && b ≡ true → a ≡ true
both_left true b e = refl
both_left false b e = e

pub passes : (r : Rule) → yielded r ≡ true → verdict (as_raw r) ≡ Ok tt
unfolding yielded
passes r e = accepting (verdict (as_raw r)) (both_left _ _ e)

pub good_start : (r : Rule) → yielded r ≡ true → r.start ≤ last_instant
unfolding as_raw
good_start r e = start_in_range (as_raw r) (passes r e)

pub good_wkst : (r : Rule) → yielded r ≡ true → r.wkst ≤ 6
unfolding as_raw
good_wkst r e = wkst_in_range (as_raw r) (passes r e)

pub good_interval : (r : Rule) → yielded r ≡ true → 1 ≤ r.interval
unfolding as_raw
good_interval r e = interval_above (as_raw r) (passes r e)

-- instants and seconds
back : (s : ℕ) → 719162 * 86400 ≤ s → second (instant s) ≡ s
back s h = omega arith

not_after : (u : Option ℕ) (s : ℕ) → 719162 * 86400 ≤ s → AtMost (until_of u) s → NotAfter u (instant s)
not_after None s h p = tt
not_after (Some t) s h p = omega arith

at_most : (u : Option ℕ) (t : ℕ) → NotAfter u t → AtMost (until_of u) (second t)
at_most None t p = tt
at_most (Some u) t p = omega arith

module _ (r : Rule) (good : yielded r ≡ true) where
  abbrev one : 1 ≤ r.interval
  one = good_interval r good

  abbrev wk : r.wkst ≤ 6
  wk = good_wkst r good

  abbrev st : r.start ≤ last_instant
  st = good_start r good

  -- a second satisfies as the machine says exactly where its instant satisfies as document 01 says
  low : (s : ℕ) → SecondSatisfies (periods r) s → 719162 * 86400 ≤ s
  unfolding periods
  low s p = let l : second r.start ≤ s = p.started in omega arith

  to_instant : (s : ℕ) → SecondSatisfies (periods r) s → Satisfies r (instant s)
  unfolding periods
  to_instant s p =
      let l : 719162 * 86400 ≤ s = low s p in
      let q : Kept r p.k s = ((kept_are r p.k).1 s).0 p.kept in
      let c = kept_candidate r p.k s q in
      let e : (period r p.k).ends ≤ range_end * 86400 = ends r one wk st p.k p.in_range in
      let b : second r.start ≤ s = p.started in
      record {
        instant = omega arith;
        k = p.k;
        kept = subst (λ (x : ℕ). Kept r p.k x) (sym (back s l)) q;
        from_start = omega arith;
        to_until = not_after r.until s l p.within;
      }

  to_second : (t : ℕ) → Satisfies r t → SecondSatisfies (periods r) (second t)
  unfolding periods in_range
  to_second t p =
      let c = kept_candidate r p.k (second t) p.kept in
      let i : t ≤ last_instant = p.instant in
      let f : r.start ≤ t = p.from_start in
      let b : (period r p.k).begins < range_end * 86400 = omega arith in
      record {
        k = p.k;
        in_range = lt-ltb (period r p.k).begins (range_end * 86400) b;
        kept = ((kept_are r p.k).1 (second t)).1 p.kept;
        started = omega arith;
        within = at_most r.until t p.to_until;
      }

-- what is written of seconds that are not before 1970
in_map : (xs : List ℕ) (t : ℕ) → ((s : ℕ) → s ∈ xs → 719162 * 86400 ≤ s) → t ∈ map instant xs → second t ∈ xs
in_map [] t h m = absurd m
in_map (x ∷ xs) t h m =
    ⊎_elim (λ (e : t ≡ instant x). inl (let l : 719162 * 86400 ≤ x = h x (inl refl) in let f : second t ≡ x = omega arith in f))
    (λ (n : t ∈ map instant xs). inr (in_map xs t (λ s i. h s (inr i)) n)) m

into_map : (xs : List ℕ) (t : ℕ) → second t ∈ xs → t ∈ map instant xs
into_map [] t m = absurd m
into_map (x ∷ xs) t m =
    ⊎_elim (λ (e : second t ≡ x). inl (let f : t ≡ instant x = omega arith in f)) (λ (n : second t ∈ xs). inr (into_map xs t n)) m

map_rises : (a high : ℕ) (xs : List ℕ) → Rises a xs high → ((s : ℕ) → s ∈ xs → 719162 * 86400 ≤ s) → RisesFrom (a - 719162 * 86400) (map instant xs)
map_rises a high [] p h = tt
map_rises a high (x ∷ xs) p h =
    let l : 719162 * 86400 ≤ x = h x (inl refl) in
    let q : a ≤ x = p.0 in
    let e : suc x - 719162 * 86400 ≡ suc (x - 719162 * 86400) = omega arith in
    (omega arith, subst (λ (y : ℕ). RisesFrom y (map instant xs)) e (map_rises (suc x) high xs p.1 (λ s i. h s (inr i))))

length_instants : (xs : List ℕ) → length (map instant xs) ≡ length xs
length_instants [] = refl
length_instants (x ∷ xs) = ap suc (length_instants xs)

times_of : (c : Option ℕ) (n : ℕ) → count_of c ≡ present n → c ≡ Some n
times_of None n e = absurd (let z : ◌≡◌ {A = ℕ} 0 1 = cc in omega arith)
times_of (Some m) n e = let f : m ≡ n = cc in ap Some f

module _ (r : Rule) (good : yielded r ≡ true) (calls : List (Call ℕ)) where
  abbrev L : List ℕ
  L = (told_by r calls).listed

  machine : MachineLists (periods r) (told_by r calls)
  unfolding fresh_of
  machine = (chain_lists (periods r) (λ h. sound r h (wk r good) (st r good)) (yielded r) good calls).1

  abbrev xs : List ℕ
  xs = machine.seconds

  written : L ≡ map instant xs
  unfolding periods
  written = machine.written

  late : (s : ℕ) → s ∈ xs → 719162 * 86400 ≤ s
  late s i = low r good s (machine.only s i)

  seconds_of : (t : ℕ) → Handed r calls t → second t ∈ xs
  seconds_of t h = in_map xs t late (subst (λ (l : List ℕ). t ∈ l) written h)

  handed_of : (t : ℕ) → second t ∈ xs → Handed r calls t
  handed_of t i = subst (λ (l : List ℕ). t ∈ l) (sym written) (into_map xs t i)

  same_instant : (t : ℕ) → instant (second t) ≡ t
  same_instant t = omega arith

  satisfies : (t : ℕ) → second t ∈ xs → Satisfies r t
  satisfies t i = subst (Satisfies r) (same_instant t) (to_instant r good (second t) (machine.only (second t) i))

  count_length : length L ≡ length xs
  count_length = ap length written ∙ length_instants xs

  -- an end other than by Count or Interval leaves nothing
  whole : (cause : Cause) → (cause ≡ Cause.Count → ⊥) → Says (periods r) xs cause → All (periods r) xs
  unfolding periods
  whole Cause.Count n p = absurd (n refl)
  whole Cause.Interval n p = absurd (let e : r.interval ≡ 0 = p in omega (arith, good_interval r good))
  whole Cause.Until n p = p
  whole Cause.NoTick n p = p
  whole Cause.Range n p = p

  each_call : Lists r calls
  unfolding periods fresh_of
  each_call = record {
    each = (chain_lists (periods r) (λ h. sound r h (wk r good) (st r good)) (yielded r) good calls).0;
    rises = subst (RisesFrom 0) (sym written) (map_rises 0 _ xs machine.rises late);
    only = λ t h. satisfies t (seconds_of t h);
    all = λ t u h p l. handed_of t (machine.none_skipped (second t) (second u) (seconds_of u h) (to_second r good t p) (omega arith));
    exactly = λ t. (
      λ h. (satisfies t (seconds_of t h), ((machine.exactly (good_interval r good) (second t)).0 (seconds_of t h)).1),
      λ p. handed_of t ((machine.exactly (good_interval r good) (second t)).1 (to_second r good t p.0, p.1)),
    );
    number = machine.number ∙ sym count_length;
    counted = subst (AtMost (count_of r.count)) (sym count_length) machine.counted;
    by_count = λ e. times_of r.count (length L) (machine.ended Cause.Count e ∙ ap present (sym count_length));
    none_left = λ cause e n t p. handed_of t (whole cause n (machine.ended cause e) (second t) (to_second r good t p));
  }

  never_interval : EndedBy r calls Cause.Interval → ⊥
  unfolding periods
  never_interval e = let z : r.interval ≡ 0 = machine.ended Cause.Interval e in omega (arith, good_interval r good)

pub good_records_list : GoodRecordsList
good_records_list r good calls = each_call r good calls

pub never_by_interval : NeverByInterval
never_by_interval r good calls = never_interval r good calls

pub demand_three : DemandThree
demand_three w r e calls = good_records_list r ((good_records r).1 (w, e)) calls

-- INTERVAL follows from the check, and with it demand 3 as it was said before
pub answered_verdict : (v : Verdict) (q r : Rule) → answers v q ≡ Ok r → v ≡ Ok tt
unfolding answers
answered_verdict (Ok tt) q r e = refl
answered_verdict (Err n) q r e = absurd (let z : ◌≡◌ {A = ℕ} 0 1 = cc in omega arith)

pub interval_follows : IntervalFollows
unfolding checked
interval_follows w r e = interval_above w (answered_verdict (verdict w) (fill (given w)) r e)

pub demand_three_before : DemandThreeBefore
demand_three_before w r e _ calls = demand_three w r e calls
