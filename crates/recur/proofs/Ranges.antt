-- What is read lies in its ranges.
-- Assumes nothing.
use Rattle.std.specs.Prelude.{if◌then◌else◌, Err}
use Prim.Native.Nat.{ℕ, suc, ◌≤◌}
use native.Mathlib.Omega.{arith}
use mathlib.Core.Path.{◌≡◌, refl, sym, ◌∙◌, subst}
use mathlib.Core.Logic.{◌⊎◌, inl, inr}
use mathlib.Core.Bool.{Bool, true, false}
use mathlib.Core.List.{List, [], ◌∷◌, map, map-id}
use lib.ListN.{length, length-map}
use lib.Dec.{eqb, ltb}
use lib.IntN.{ℤ}
use borrow.Author.Tests.{ltb-true, ltb-false, eqb-true}
use Rattle.rule.specs.Raw.{Raw}
use Rattle.symbols.specs.Languages.{Spelled, Both, Turned, Joined, Joined.one, Joined.more}
use Rattle.recur.specs.Grammar.{none_used, Entry, Day, Value, absent, Part, Kind, entries, day_entries, kind_of, ValueText, PartText, with_used, semicolon}
use Rattle.recur.specs.Grammar.{value_in, number_or, as_count, as_until, as_list, as_days, nth_of, weekday_of, rule_by, rule_of, Good}
use Rattle.recur.specs.Reading.{longest, read_of}
use Rattle.recur.specs.Claims.{EachWithin, ListInRange, CountInRange, UntilInRange, InRange, ReadInRange}
use Rattle.recur.proofs.Bounds.{moment_most, entry_most, nth_most, list_in_lem}
use Rattle.recur.proofs.Decided.{too_long, read_decides}

-- ---- the value behind a name: there is none, or it is spelled as the name asks

abbrev Found : Kind → Value → Type 0
Found k v = (v ≡ absent) ⊎ ((bs : List ℕ) × ValueText k v bs)

found_first : (i : ℕ) (s : List Bool) (p : Part) (ps : List Part) (xs : List ℕ) → PartText s p xs → Found (kind_of i) (value_in i ps)
    → Found (kind_of i) (value_in i (p ∷ ps))
unfolding value_in
found_first i s p ps xs d f = go (eqb p.first i) refl
  where
    go : (b : Bool) → eqb p.first i ≡ b → Found (kind_of i) (if b then p.second else value_in i ps)
    go true e = inr (d.ys, subst (λ (j : ℕ). ValueText (kind_of j) p.second d.ys) (eqb-true p.first i e) d.right)
    go false e = f

found : (n : ℕ) (s : List Bool) (ps : List Part) (zs : List ℕ) → Joined (List Bool) Part with_used PartText semicolon n s ps zs
    → (i : ℕ) → Found (kind_of i) (value_in i ps)
unfolding value_in
found n s [] zs j i = elim j [ ]
found n s (p ∷ []) zs (one l) i = found_first i s p [] zs l (inl refl)
found (suc n) s (p ∷ ps) zs (more xs ys l j e) i = found_first i s p ps xs l (found n (with_used s p) ps ys j i)

-- what holds of an absent value and of each that may be spelled
module _ {A : Type 0} {c : A → Value} {L : A → List ℕ → Type 0} {R : A → Type 0} (P : Value → Type 0) (every : (a : A) (bs : List ℕ) → L a bs → R a)
    (without : P absent) (with-one : (a : A) → R a → P (c a)) where
  of_found : (v : Value) → (v ≡ absent) ⊎ ((bs : List ℕ) × Turned A Value c L v bs) → P v
  of_found v (inl e) = subst P (sym e) without
  of_found v (inr d) = subst P (sym d.1.turned) (with-one d.1.from (every d.1.from d.0 d.1.spelled))

-- ---- lists

no_entry : ListInRange []
unfolding EachWithin
no_entry = record { few = omega arith; each = tt }

abbrev DaysIn : List (Both ℤ ℕ) → Type 0
DaysIn ds = ListInRange (map nth_of ds) × ListInRange (map weekday_of ds)

-- ---- the rule

-- a table of seven words has none above 6
word_most : {words : List (List ℕ)} {seen : List Bool} (high : ℕ) → length words ≤ suc high → (a : ℕ) (bs : List ℕ) → Spelled words seen a bs → a ≤ high
word_most high h a bs d = omega (arith, d.there)

list_found : (signs : Bool) (u : Value) → Found (entries signs) u → ListInRange (as_list u)
list_found signs =
    of_found (λ (u : Value). ListInRange (as_list u))
    (λ vs bs j. subst ListInRange (map-id vs) (list_in_lem ℤ (Entry signs) (λ (z : ℤ). z) (entry_most signs) vs bs j)) no_entry (λ vs h. h)

days_found : (u : Value) → Found day_entries u → DaysIn (as_days u)
days_found =
    of_found (λ (u : Value). DaysIn (as_days u))
    (λ ds bs j. (
      list_in_lem (Both ℤ ℕ) Day nth_of (λ d bs l. nth_most d.first l.xs l.left) ds bs j,
      list_in_lem (Both ℤ ℕ) Day weekday_of (λ d bs l. omega (arith, l.right.there)) ds bs j,
    )) (no_entry, no_entry) (λ ds h. h)

-- a rule by its values: each is absent or spelled
ranges : (v : ℕ → Value) → ((i : ℕ) → Found (kind_of i) (v i)) → InRange (rule_by v)
unfolding rule_by
ranges v f = record {
  freq = of_found (λ (u : Value). number_or 0 u ≤ 6) (word_most 6 (omega arith)) (omega arith) (λ x h. h) (v 0) (f 0);
  interval = of_found (λ (u : Value). number_or 1 u ≤ 65535) (λ x bs d. d.high_enough) (omega arith) (λ x h. h) (v 1) (f 1);
  count = of_found (λ (u : Value). CountInRange (as_count u)) (λ x bs d. d.high_enough) tt (λ x h. h) (v 2) (f 2);
  until = of_found (λ (u : Value). UntilInRange (as_until u)) moment_most tt (λ x h. h) (v 3) (f 3);
  wkst = of_found (λ (u : Value). number_or 0 u ≤ 6) (word_most 6 (omega arith)) (omega arith) (λ x h. h) (v 4) (f 4);
  start = refl;
  lists = record {
    bymonth = list_found false (v 5) (f 5);
    bymonthday = list_found true (v 6) (f 6);
    byyearday = list_found true (v 7) (f 7);
    byweekno = list_found true (v 8) (f 8);
    bydayn = (days_found (v 9) (f 9)).0;
    bydayw = (days_found (v 9) (f 9)).1;
    paired = length-map (as_days (v 9)) nth_of ∙ sym (length-map (as_days (v 9)) weekday_of);
    byhour = list_found false (v 10) (f 10);
    byminute = list_found false (v 11) (f 11);
    bysecond = list_found false (v 12) (f 12);
    bysetpos = list_found true (v 13) (f 13);
  };
}

pub good_ranges : (t : List ℕ) (w : Raw) → Good t w → InRange w
unfolding rule_of
good_ranges t w g = subst InRange (sym g.rule) (ranges (λ i. value_in i g.parts) (found 13 (none_used 14) g.parts t g.joined))

pub read_in_range : ReadInRange
read_in_range t w e = go (ltb longest (length t)) refl
  where
    go : (b : Bool) → ltb longest (length t) ≡ b → InRange w
    go true h = absurd (let r : read_of t ≡ Err longest = too_long t (ltb-true longest (length t) h) in let z : ◌≡◌ {A = ℕ} 0 1 = cc in omega arith)
    go false h = good_ranges t w ((read_decides t w (ltb-false longest (length t) h)).0 e)
