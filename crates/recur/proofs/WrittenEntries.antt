-- Entries of lists as they are written: those of an accepted rule lie in their ranges, and are entries of the grammar with few bytes.
-- Assumes nothing.
use Rattle.std.specs.Prelude.{Option}
use Prim.Native.Nat.{ℕ, zero, suc, ◌+◌, ◌≤◌, ◌<◌}
use native.Mathlib.Omega.{arith}
use mathlib.Core.Path.{◌≡◌, refl, ap, sym, ◌∙◌}
use mathlib.Core.Bool.{Bool, true, false}
use mathlib.Core.List.{List, [], ◌∷◌, map}
use lib.ListN.{length, length-append, length-map}
use lib.Dec.{leb}
use lib.IntN.{ℤ, pos, negsuc, nat_abs}
use borrow.Author.Tests.{leb-true}
use Rattle.rule.specs.declared.rrule.Range.{Range}
use Rattle.rule.specs.Lists.{within, slots, slot_of, nths, weekdays, set_of}
use Rattle.rule.specs.Raw.{entries, pairs}
use Rattle.rule.specs.Refusals.{some, is_outside, stray_in, strays, rises, pairs_rise}
use Rattle.rule.specs.Records.{value_of, slots_from}
use Rattle.rule.proofs.ValueLaws.{length_set_of, nth_at}
use Rattle.rule.proofs.GivenLaws.{neither, list_back, pairs_back}
use Rattle.symbols.specs.Languages.{word_at, Both, both, Perhaps, missing, there}
use Rattle.symbols.specs.Counts.{ten_to}
use Rattle.recur.specs.Grammar.{weekday_names, Signed, Entry, Day, nth_of, weekday_of}
use Rattle.recur.specs.Writing.{decimal, signed_text, nth_text, day_text, weekday_number, paired}
use Rattle.recur.proofs.DecimalLaws.{decimal_few, decimal_three}
use Rattle.recur.proofs.WrittenSymbols.{Short, follows, weekday_written, Each}

-- a value lies between a range's ends
abbrev pub Inside : Range → ℤ → Type 0
Inside g (pos n) = n ≤ g.positives
Inside g (negsuc n) = suc n ≤ g.negatives

-- an entry that isn't outside has passed its range's test
within_holds : (b : Bool) (i : ℕ) → is_outside (within b i) ≡ false → b ≡ true
within_holds true i e = refl
within_holds false i e = absurd (let z : ◌≡◌ {A = ℕ} 0 1 = cc in omega arith)

inside : (g : Range) (v : ℤ) → stray_in g v ≡ false → Inside g v
unfolding slot_of
inside g (pos zero) e = omega arith
inside g (pos (suc n)) e = leb-true (suc n) g.positives (within_holds (leb (suc n) g.positives) _ e)
inside g (negsuc n) e = leb-true (suc n) g.negatives (within_holds (leb (suc n) g.negatives) _ e)

pub each_inside : (g : Range) (l : List ℤ) → strays g l ≡ false → Each (Inside g) l
unfolding strays some Each
each_inside g [] e = tt
each_inside g (v ∷ vs) e = let n = neither (stray_in g v) (strays g vs) e in (inside g v n.0, each_inside g vs n.1)

-- what rises within a range has at most as many entries as the range has slots
few_slots : (i : ℕ) (s : List Bool) → length (slots_from i s) ≤ length s
unfolding slots_from
few_slots i [] = omega arith
few_slots i (true ∷ bs) = omega (arith, few_slots (i + 1) bs)
few_slots i (false ∷ bs) = omega (arith, few_slots (i + 1) bs)

few_read : (f : ℕ → ℤ) (n : ℕ) (es : List (Option ℕ)) (l : List ℤ) → map f (slots_from 0 (set_of n es)) ≡ l → length l ≤ n
few_read f n es l e =
    let s : length l ≡ length (slots_from 0 (set_of n es)) = sym (ap length e) ∙ length-map (slots_from 0 (set_of n es)) f in
    omega (arith, few_slots 0 (set_of n es), length_set_of n es)

pub few_entries : (g : Range) (l : List ℤ) → strays g l ≡ false → rises l ≡ true → length l ≤ slots g
few_entries g l h r = few_read (value_of g) (slots g) (entries g l) l (list_back g l h r)

pub few_pairs : (ns ws : List ℤ) → length ns ≡ length ws → strays nths ns ≡ false → strays weekdays ws ≡ false → pairs_rise ns ws ≡ true → length ns ≤ 749
few_pairs ns ws l h k r = few_read nth_at 749 (pairs ns ws) ns (pairs_back ns ws l h k r).0

-- ---- an entry of a list of numbers

-- a range's values have k digits at most, and k is at most three
pub record Digits (k : ℕ) (g : Range) : Type 0 where
  pub some : 1 ≤ k
  pub three : ten_to k ≤ 1000
  pub low : g.negatives < ten_to k
  pub high : g.positives < ten_to k

-- with a minus before it where it is below 0; and without a sign, in two digits
pub signed_entry : (low k : ℕ) (g : Range) (v : ℤ) → Digits k g → low ≤ nat_abs v → Inside g v → Short ℤ (Signed low) signed_text (suc k) v
unfolding signed_text
signed_entry low k g (pos n) d l h = record {
  spelled = record { from = both 43 n; spelled = follows [] (decimal n) (missing refl) (decimal_three low n (omega arith) l); turned = refl };
  short = omega (arith, decimal_few k n d.some (omega arith));
}
signed_entry low k g (negsuc n) d l h = record {
  spelled = record {
    from = both 45 (suc n);
    spelled = follows (45 ∷ []) (decimal (suc n)) (there (record { passes = refl; alone = refl })) (decimal_three low (suc n) (omega arith) l);
    turned = refl;
  };
  short = omega (arith, decimal_few k (suc n) d.some (omega arith));
}

pub plain_entry : (g : Range) (v : ℤ) → g.negatives ≡ 0 → g.positives < 100 → Inside g v → Short ℤ (Entry false) signed_text 2 v
unfolding signed_text ten_to
plain_entry g (pos n) a b h = record {
  spelled = record { from = n; spelled = decimal_three 0 n (omega arith) (omega arith); turned = refl };
  short = decimal_few 2 n (omega arith) (omega arith);
}
plain_entry g (negsuc n) a b h = absurd (omega arith)

-- ---- an entry of BYDAY

-- the number before a weekday, where there is one, and the weekday behind it
nth_written : (n : ℤ) → Inside nths n → Short ℤ (Perhaps ℤ (pos 0) (Signed 1)) nth_text 3 n
unfolding ten_to
nth_written (pos zero) h = record { spelled = missing refl; short = omega arith }
nth_written (pos (suc n)) h =
    let s = signed_entry 1 2 nths (pos (suc n)) (omega arith) (omega arith) h in record { spelled = there s.spelled; short = s.short }
nth_written (negsuc n) h =
    let s = signed_entry 1 2 nths (negsuc n) (omega arith) (omega arith) h in record { spelled = there s.spelled; short = s.short }

day_written : (n : ℤ) (k : ℕ) → k < 7 → Inside nths n → Short (Both ℤ ℕ) Day day_text 5 (both n k)
unfolding day_text
day_written n k l h =
    let s = nth_written n h in
    let t = weekday_written k l in
    record { spelled = follows (nth_text n) (word_at weekday_names k) s.spelled t.spelled; short = rw length-append (omega (arith, s.short, t.short)) }

-- a weekday has a number, and comes back from it
record IsDay (w : ℤ) : Type 0 where
  low : weekday_number w < 7
  back : pos (weekday_number w) ≡ w

is_day : (w : ℤ) → Inside weekdays w → IsDay w
is_day (pos n) h = record { low = omega arith; back = refl }
is_day (negsuc n) h = absurd (omega arith)

-- BYDAY's two lists, paired
pub each_day : (ns ws : List ℤ) → Each (Inside nths) ns → Each (Inside weekdays) ws → Each (Short (Both ℤ ℕ) Day day_text 5) (paired ns ws)
unfolding Each paired
each_day [] ws a b = tt
each_day (n ∷ ns) [] a b = tt
each_day (n ∷ ns) (w ∷ ws) a b = (day_written n (weekday_number w) (is_day w b.0).low a.0, each_day ns ws a.1 b.1)

pub nths_paired : (ns ws : List ℤ) → length ns ≡ length ws → map nth_of (paired ns ws) ≡ ns
unfolding paired
nths_paired [] ws e = refl
nths_paired (n ∷ ns) [] e = absurd (omega arith)
nths_paired (n ∷ ns) (w ∷ ws) e = ap (λ (l : List ℤ). n ∷ l) (nths_paired ns ws (omega arith))

pub weekdays_paired : (ns ws : List ℤ) → length ns ≡ length ws → Each (Inside weekdays) ws → map weekday_of (paired ns ws) ≡ ws
unfolding Each paired
weekdays_paired [] [] e a = refl
weekdays_paired [] (w ∷ ws) e a = absurd (omega arith)
weekdays_paired (n ∷ ns) [] e a = absurd (omega arith)
weekdays_paired (n ∷ ns) (w ∷ ws) e a = rw ((is_day w a.0).back, weekdays_paired ns ws (omega arith) a.1)

pub length_paired : (ns ws : List ℤ) → length (paired ns ws) ≤ length ns
unfolding paired
length_paired [] ws = omega arith
length_paired (n ∷ ns) [] = omega arith
length_paired (n ∷ ns) (w ∷ ws) = omega (arith, length_paired ns ws)
