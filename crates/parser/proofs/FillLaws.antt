-- A rule's outline and its lists, from what the code has of each.
-- Assumes nothing.
use Rattle.std.specs.Prelude.{Option, Ok, Err}
use Prim.Native.Nat.{ℕ}
use mathlib.Core.Path.{◌≡◌, refl, ap}
use mathlib.Core.List.{List}
use lib.ListN.{length}
use lib.Seq.{sets}
use lib.IntN.{ℤ}
use Rattle.rule.specs.Raw.{RawLists, Raw, raw_lists}
use Rattle.recur.specs.declared.Outline.{Outline}
use Rattle.recur.specs.Reading.{read_of}
use Rattle.recur.specs.Shown.{outline_of, reading_of, filled_with, lists_left}

-- an outline has what the rule has
pub outline_is : (w : Raw) {freq interval : ℕ} {count until : Option ℕ} {wkst bymonth bymonthday byyearday byweekno byday byhour byminute bysecond bysetpos : ℕ}
    → freq ≡ w.freq → interval ≡ w.interval → count ≡ w.count → until ≡ w.until → wkst ≡ w.wkst
    → bymonth ≡ length w.lists.bymonth → bymonthday ≡ length w.lists.bymonthday → byyearday ≡ length w.lists.byyearday
    → byweekno ≡ length w.lists.byweekno → byday ≡ length w.lists.bydayn → byhour ≡ length w.lists.byhour
    → byminute ≡ length w.lists.byminute → bysecond ≡ length w.lists.bysecond → bysetpos ≡ length w.lists.bysetpos
    → ◌≡◌ {A = Outline} (record {
      freq = freq;
      interval = interval;
      count = count;
      until = until;
      wkst = wkst;
      bymonth = bymonth;
      bymonthday = bymonthday;
      byyearday = byyearday;
      byweekno = byweekno;
      byday = byday;
      byhour = byhour;
      byminute = byminute;
      bysecond = bysecond;
      bysetpos = bysetpos;
    }) (outline_of w)
outline_is w a b c d e f g h i j k l m n = cc

-- each list has its entries in its first slots
module _ (w l : RawLists) {bymonth bymonthday byyearday byweekno bydayn bydayw byhour byminute bysecond bysetpos : List ℤ} where
  pub lists_are : bymonth ≡ sets l.bymonth 0 w.bymonth
      → bymonthday ≡ sets l.bymonthday 0 w.bymonthday
      → byyearday ≡ sets l.byyearday 0 w.byyearday
      → byweekno ≡ sets l.byweekno 0 w.byweekno
      → bydayn ≡ sets l.bydayn 0 w.bydayn
      → bydayw ≡ sets l.bydayw 0 w.bydayw
      → byhour ≡ sets l.byhour 0 w.byhour
      → byminute ≡ sets l.byminute 0 w.byminute
      → bysecond ≡ sets l.bysecond 0 w.bysecond
      → bysetpos ≡ sets l.bysetpos 0 w.bysetpos
      → raw_lists bymonth bymonthday byyearday byweekno bydayn bydayw byhour byminute bysecond bysetpos ≡ filled_with l w
  lists_are a b c d e f g h i j = cc

-- ---- what the reader answers and leaves

pub left_refused : (t : List ℕ) (n : ℕ) (l : RawLists) → read_of t ≡ Err n
    → (Err n ≡ reading_of (read_of t)) × (l ≡ lists_left (read_of t) l)
left_refused t n l e = rw e (refl, refl)

pub left_rule : (t : List ℕ) (w : Raw) (l m : RawLists) (o : Outline) → read_of t ≡ Ok w → (o ≡ outline_of w) × (m ≡ filled_with l w.lists)
    → (Ok o ≡ reading_of (read_of t)) × (m ≡ lists_left (read_of t) l)
left_rule t w l m o e f = rw e (ap (λ (x : Outline). Ok x) f.0, f.1)
