-- The check from its parts: the verdict row by row, and the answer.
-- Assumes nothing.
use Rattle.std.specs.Prelude.{Ok, Err}
use mathlib.Core.Path.{◌≡◌, refl, ap, sym, ◌∙◌}
use mathlib.Core.Bool.{Bool, true, false, not, ◌&&◌, ◌||◌}
use mathlib.Core.List.{List, [], ◌∷◌}
use Prim.Native.Nat.{ℕ, suc, ◌≤◌}
use native.Mathlib.Omega.{arith}
use lib.ListN.{length}
use lib.Dec.{eqb, ltb}
use lib.IntN.{ℤ}
use borrow.Author.Tests.{eqb-false, ne_eqb, ltb-false}
use Rattle.rule.specs.declared.rrule.Frequency.{Frequency}
use Rattle.rule.specs.declared.rrule.Refusal.{Refusal}
use Rattle.rule.specs.Refusals.{Verdict}
use Rattle.rule.specs.declared.rrule.Rule.{Rule}
use Rattle.rule.specs.Instants.{last_instant}
use Rattle.rule.specs.Raw.{RawLists, Raw}
use Rattle.rule.specs.Refusals.{refusals, lacks, some_every, some_nth, mixed_days, nth_misplaced, count_nought, misplaces, list_misplaced, applies, first_of}
use Rattle.rule.specs.Refusals.{verdict}
use Rattle.rule.specs.Filling.{frequency, given_as, given, fill, answers, checked}
use Rattle.rule.specs.Entries.{or_refused}
use Rattle.rule.proofs.GivenLaws.{neither}
use Rattle.rule.proofs.RefusalLaws.{none_given}

pub lacks_is : (l : List ℤ) → eqb (length l) 0 ≡ lacks l
lacks_is [] = refl
lacks_is (x ∷ xs) = ne_eqb (suc (length xs)) 0 (λ (e : suc (length xs) ≡ 0). omega arith)

-- The verdict row by row, as the code comes to it: from that of the rows before, through the rows that are left.
unfoldable pub judged : Raw → Verdict → List Refusal → Verdict
unfolding or_refused
judged w v [] = v
judged w v (n ∷ ns) = judged w (or_refused v n (applies n w)) ns

refused_stays : (w : Raw) (m : Refusal) (ns : List Refusal) → judged w (Err m) ns ≡ Err m
unfolding judged or_refused
refused_stays w m [] = refl
refused_stays w m (n ∷ ns) = refused_stays w m ns

first_judged : (w : Raw) (ns : List Refusal) → judged w (Ok tt) ns ≡ first_of (λ (n : Refusal). applies n w) ns
unfolding judged or_refused first_of
first_judged w [] = refl
first_judged w (n ∷ ns) = go (applies n w) (first_judged w ns)
  where
    go : (t : Bool) → judged w (Ok tt) ns ≡ first_of (λ (m : Refusal). applies m w) ns
        → judged w (or_refused (Ok tt) n t) ns ≡ elim t [ true ↦ Err n | false ↦ first_of (λ (m : Refusal). applies m w) ns ]
    go true e = refused_stays w n ns
    go false e = e

-- the rule's verdict comes of v, that of the rows before, and the rows that are left
pub record Judged (w : Raw) (v : Verdict) (ns : List Refusal) : Type 0 where
  pub is : judged w v ns ≡ verdict w

-- before the first row, over a row, and behind the last
pub no_row : (w : Raw) → Judged w (Ok tt) refusals
unfolding verdict
no_row w = record { is = first_judged w refusals }

pub row : {w : Raw} {v x : Verdict} {n : Refusal} {ns : List Refusal} {b : Bool} → Judged w v (n ∷ ns) → x ≡ or_refused v n b → b ≡ applies n w → Judged w x ns
unfolding judged
row {w = w} {v = v} {n = n} {ns = ns} j f g = record { is = ap (λ (y : Verdict). judged w y ns) (f ∙ ap (or_refused v n) g) ∙ j.is }

pub all_rows : {w : Raw} {v : Verdict} → Judged w v [] → v ≡ verdict w
unfolding judged
all_rows j = j.is

-- three rows whose tests the code has in parts
pub mixed_by : (l : RawLists) {v n : Bool} → v ≡ some_every l.bydayn → n ≡ some_nth l.bydayn → (v && n) ≡ mixed_days l
unfolding mixed_days
mixed_by l e f = rw (e, f)

pub misplaced_by : (freq : ℕ) (l : RawLists) {n : Bool} → n ≡ some_nth l.bydayn
    → (n && (not (eqb (length l.byweekno) 0) || ltb 1 freq)) ≡ nth_misplaced freq l
unfolding nth_misplaced
misplaced_by freq l e = rw (e, lacks_is l.byweekno)

pub list_misplaced_by : (freq : ℕ) (l : RawLists) {m : Bool}
    → m ≡ misplaces freq (not (eqb (length l.byweekno) 0)) (not (eqb (length l.byyearday) 0)) (not (eqb (length l.bymonthday) 0))
    → m ≡ list_misplaced freq l
list_misplaced_by freq l e = e ∙ rw (lacks_is l.byweekno, lacks_is l.byyearday, lacks_is l.bymonthday)

pub start_in_range : (w : Raw) → verdict w ≡ Ok tt → w.start ≤ last_instant
start_in_range w e = ltb-false last_instant w.start ((none_given w).0 e Refusal.StartOut)

pub wkst_in_range : (w : Raw) → verdict w ≡ Ok tt → w.wkst ≤ 6
wkst_in_range w e = ltb-false 6 w.wkst ((none_given w).0 e Refusal.WeekStartAbove)

pub interval_above : (w : Raw) → verdict w ≡ Ok tt → 1 ≤ w.interval
interval_above w e =
    let n : w.interval ≡ 0 → ⊥ = eqb-false w.interval 0 (neither (eqb w.interval 0) _ ((none_given w).0 e Refusal.Nought)).0 in
    omega arith

pub count_above : (w : Raw) → verdict w ≡ Ok tt → count_nought w.count ≡ false
count_above w e = (neither (eqb w.interval 0) (count_nought w.count) ((none_given w).0 e Refusal.Nought)).1

pub refused : (w : Raw) (v : Verdict) (n : Refusal) → v ≡ verdict w → v ≡ Err n → Err n ≡ checked w
unfolding checked answers
refused w v n e h = ap (λ (x : Verdict). answers x (fill (given w))) (sym h ∙ e)

pub accepted : (w : Raw) (v : Verdict) (f : Frequency) (g r : Rule) → v ≡ verdict w → v ≡ Ok tt → f ≡ frequency w.freq
    → g ≡ given_as f w.interval w.count w.until w.wkst w.start w.lists → r ≡ fill g → Ok r ≡ checked w
unfolding checked given answers
accepted w v f g r e h ef eg er =
    ap (λ (x : Rule). Ok x)
    (er ∙ ap fill (eg ∙ ap (λ (x : Frequency). given_as x w.interval w.count w.until w.wkst w.start w.lists) ef))
    ∙ ap (λ (x : Verdict). answers x (fill (given w))) (sym h ∙ e)
