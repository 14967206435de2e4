-- A text that is read as a rule: the lists have its entries in their first slots, and cut to their counts they are the rule's.
-- Assumes nothing.
use Rattle.std.specs.Prelude.{Ok, Err}
use Prim.Native.Nat.{ℕ, ◌+◌, ◌≤◌}
use native.Mathlib.Omega.{arith}
use mathlib.Core.Path.{◌≡◌, refl, sym, ap, ◌∙◌, subst⁻¹}
use mathlib.Core.List.{List}
use lib.ListN.{length, take, drop}
use lib.Seq.{take-append_seam, sets, length-sets, sets-eq}
use lib.IntN.{ℤ}
use Rattle.rule.specs.Raw.{RawLists, Raw, raw, raw_lists}
use Rattle.rule.specs.declared.rrule.Refusal.{Refusal}
use Rattle.rule.specs.declared.rrule.Rule.{Rule}
use Rattle.rule.specs.Filling.{checked}
use Rattle.recur.specs.declared.Outline.{Outline}
use Rattle.recur.specs.declared.Unparsed.{Unparsed}
use Rattle.recur.specs.Reading.{Read, read_of}
use Rattle.recur.specs.Shown.{outline_of, reading_of, filled_with, lists_left}
use Rattle.recur.specs.Parsed.{with_start, parsed_as, parsed_by, parsed_of}
use Rattle.recur.specs.Claims.{InRange}
use Rattle.recur.proofs.Ranges.{read_in_range}
use Rattle.parsed.specs.Outlined.{Full, LongEnough, rule_with}

-- ---- one list

module _ (l v : List ℤ) (h : length v ≤ 749) (f : length l ≡ 749) where
  cut : (n : ℕ) → n ≡ length v → take n (sets l 0 v) ≡ v
  cut n e =
      let g : 0 + length v ≤ length l = omega arith in
      ap (λ (k : ℕ). take k (sets l 0 v)) e ∙ ap (take (length v)) (sets-eq v l 0 g) ∙ take-append_seam v (drop (0 + length v) l)

  fits : (n : ℕ) → n ≡ length v → n ≤ length (sets l 0 v)
  fits n e = rw length-sets (omega arith)

-- ---- all of them

-- lists by their fields
same_lists : {a b c d e f g h i j k l m n o p q r s t : List ℤ} → a ≡ k → b ≡ l → c ≡ m → d ≡ n → e ≡ o → f ≡ p → g ≡ q → h ≡ r → i ≡ s → j ≡ t
    → raw_lists a b c d e f g h i j ≡ raw_lists k l m n o p q r s t
same_lists a b c d e f g h i j = cc

-- ---- a rule in its ranges

module _ (w : Raw) (r : InRange w) (l : RawLists) (f : Full l) where
  -- the lists have room for its entries
  long_of : LongEnough (outline_of w) (filled_with l w.lists)
  long_of = record {
    bymonth = fits l.bymonth w.lists.bymonth r.lists.bymonth.few f.bymonth _ refl;
    bymonthday = fits l.bymonthday w.lists.bymonthday r.lists.bymonthday.few f.bymonthday _ refl;
    byyearday = fits l.byyearday w.lists.byyearday r.lists.byyearday.few f.byyearday _ refl;
    byweekno = fits l.byweekno w.lists.byweekno r.lists.byweekno.few f.byweekno _ refl;
    bydayn = fits l.bydayn w.lists.bydayn r.lists.bydayn.few f.bydayn _ refl;
    bydayw = fits l.bydayw w.lists.bydayw r.lists.bydayw.few f.bydayw _ r.lists.paired;
    byhour = fits l.byhour w.lists.byhour r.lists.byhour.few f.byhour _ refl;
    byminute = fits l.byminute w.lists.byminute r.lists.byminute.few f.byminute _ refl;
    bysecond = fits l.bysecond w.lists.bysecond r.lists.bysecond.few f.bysecond _ refl;
    bysetpos = fits l.bysetpos w.lists.bysetpos r.lists.bysetpos.few f.bysetpos _ refl;
  }

  -- and cut to their counts they are its own
  cuts_of : (start : ℕ) → rule_with (outline_of w) start (filled_with l w.lists) ≡ with_start start w
  unfolding rule_with
  cuts_of start =
      ap (λ (x : RawLists). raw w.freq w.interval w.count w.until w.wkst start x) (same_lists
      (cut l.bymonth w.lists.bymonth r.lists.bymonth.few f.bymonth _ refl)
      (cut l.bymonthday w.lists.bymonthday r.lists.bymonthday.few f.bymonthday _ refl)
      (cut l.byyearday w.lists.byyearday r.lists.byyearday.few f.byyearday _ refl)
      (cut l.byweekno w.lists.byweekno r.lists.byweekno.few f.byweekno _ refl)
      (cut l.bydayn w.lists.bydayn r.lists.bydayn.few f.bydayn _ refl)
      (cut l.bydayw w.lists.bydayw r.lists.bydayw.few f.bydayw _ r.lists.paired)
      (cut l.byhour w.lists.byhour r.lists.byhour.few f.byhour _ refl)
      (cut l.byminute w.lists.byminute r.lists.byminute.few f.byminute _ refl)
      (cut l.bysecond w.lists.bysecond r.lists.bysecond.few f.bysecond _ refl)
      (cut l.bysetpos w.lists.bysetpos r.lists.bysetpos.few f.bysetpos _ refl))

-- ---- what is read

rule_read : (k : Read) (o : Outline) → Ok o ≡ reading_of k → (w : Raw) × (k ≡ Ok w) × (o ≡ outline_of w)
rule_read (Ok w) o e = (w, refl, cc)
rule_read (Err n) o e = absurd (let z : ◌≡◌ {A = ℕ} 0 1 = cc in omega arith)

refused_read : (k : Read) (n : ℕ) → Err n ≡ reading_of k → k ≡ Err n
refused_read (Ok w) n e = absurd (let z : ◌≡◌ {A = ℕ} 0 1 = cc in omega arith)
refused_read (Err m) n e = cc

pub parsed_unread : (t : List ℕ) (n start : ℕ) → Err n ≡ reading_of (read_of t) → Err (Unparsed.Unread n) ≡ parsed_of t start
unfolding parsed_of
parsed_unread t n start e = sym (ap (λ (k : Read). parsed_by k start) (refused_read (read_of t) n e))

module _ (t : List ℕ) (l m : RawLists) (o : Outline) (f : Full l) (e : Ok o ≡ reading_of (read_of t)) (g : m ≡ lists_left (read_of t) l) where
  found : (w : Raw) × (read_of t ≡ Ok w) × (o ≡ outline_of w)
  found = rule_read (read_of t) o e

  range : InRange found.0
  range = read_in_range t found.0 found.1

  filled : m ≡ filled_with l found.0.lists
  filled = g ∙ ap (λ (k : Read). lists_left k l) found.1

  pub long_enough : LongEnough o m
  long_enough =
      subst⁻¹ (λ (x : Outline). LongEnough x m) found.2
      (subst⁻¹ (λ (x : RawLists). LongEnough (outline_of found.0) x) filled (long_of found.0 range l f))

  -- what the check says of it
  pub parsed_rule : (start : ℕ) → parsed_as (checked (rule_with o start m)) ≡ parsed_of t start
  unfolding parsed_of
  parsed_rule start =
      ap (λ (x : Outline). parsed_as (checked (rule_with x start m))) found.2
      ∙ ap (λ (x : RawLists). parsed_as (checked (rule_with (outline_of found.0) start x))) filled
      ∙ ap (λ (w : Raw). parsed_as (checked w)) (cuts_of found.0 range l f start)
      ∙ sym (ap (λ (k : Read). parsed_by k start) found.1)

  pub parsed_refused : (start : ℕ) (n : Refusal) → Err n ≡ checked (rule_with o start m) → Err (Unparsed.Refused n) ≡ parsed_of t start
  parsed_refused start n h = ap parsed_as h ∙ parsed_rule start

  pub parsed_accepted : (start : ℕ) (r : Rule) → Ok r ≡ checked (rule_with o start m) → Ok r ≡ parsed_of t start
  parsed_accepted start r h = ap parsed_as h ∙ parsed_rule start
