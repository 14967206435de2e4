-- A record and a cursor that are written and read part by part.
-- Assumes nothing.
use Rattle.std.specs.Prelude.{Option}
use Prim.Native.Nat.{ℕ, ◌+◌}
use mathlib.Core.Path.{◌≡◌, refl, sym, ap, ◌∙◌}
use mathlib.Core.Bool.{Bool, false, ◌&&◌}
use mathlib.Core.List.{List, [], ◌∷◌, ◌++◌}
use native.Mathlib.Omega.{arith}
use lib.Dec.{eqb, leb}
use lib.ListN.{length, get_or, set, drop, length-append, length-map}
use lib.Seq.{sets}
use borrow.Author.Tests.{eq-eqb, ne_eqb}
use Rattle.machine.specs.declared.State.{State}
use Rattle.machine.specs.declared.Cursor.{Cursor}
use Rattle.rule.specs.declared.rrule.Frequency.{Frequency}
use Rattle.rule.specs.declared.rrule.Rule.{Rule}
use Rattle.rule.specs.Filling.{frequency_number, frequency}
use Rattle.edge.specs.Bytes.{two_at, four_at, eight_at, two, four, eight, are_flags, flags_at, flag_byte, flag_bytes}
use Rattle.edge.specs.Layout.{record_version, cursor_version, tag_of, number_of, count_from, until_from, is_tagged}
use Rattle.edge.specs.Layout.{head_bytes, day_bytes, time_bytes, encode_record, record_in, is_record_bytes, state_number, state_of, encode_cursor}
use Rattle.edge.specs.Layout.{cursor_in, is_cursor_bytes}
use Rattle.edge.proofs.ByteLaws.{sets_behind, sets_whole, length_two, length_four, length_eight}

-- a part is written, and the rest behind it
behind : (l x y : List ℕ) (i k : ℕ) (part rest : List ℕ) → i + length part ≡ k → x ≡ sets l i part → y ≡ sets x k rest → y ≡ sets l i (part ++ rest)
behind l x y i k part rest e f g = g ∙ ap (λ (z : List ℕ). sets z k rest) f ∙ sets_behind l i k part rest e

length_flag_bytes : (s : List Bool) (n : ℕ) → length s ≡ n → length (flag_bytes s) ≡ n
length_flag_bytes s n e = length-map s flag_byte ∙ e

-- the 26 bytes behind the version
pub length_head : (freq : Frequency) (interval : ℕ) (count : Option ℕ) (until : Option ℕ) (wkst start : ℕ) → length (head_bytes freq interval count until wkst start) ≡ 26
unfolding head_bytes two four eight
length_head freq interval count until wkst start = refl

pub head_put : (freq : Frequency) (interval : ℕ) (count : Option ℕ) (until : Option ℕ) (wkst start f t n u m : ℕ) (l x1 x2 x3 x4 x5 x6 x7 x8 : List ℕ)
    → f ≡ frequency_number freq → t ≡ tag_of count → n ≡ number_of count → u ≡ tag_of until → m ≡ number_of until
    → x1 ≡ set l 1 f → x2 ≡ sets x1 2 (two interval) → x3 ≡ set x2 4 t → x4 ≡ sets x3 5 (four n) → x5 ≡ set x4 9 u
    → x6 ≡ sets x5 10 (eight m) → x7 ≡ set x6 18 wkst → x8 ≡ sets x7 19 (eight start) → x8 ≡ sets l 1 (head_bytes freq interval count until wkst start)
unfolding head_bytes
head_put freq interval count until wkst start f t n u m l x1 x2 x3 x4 x5 x6 x7 x8 ef et en eu em e1 e2 e3 e4 e5 e6 e7 e8 =
    rw (← ef, ← et, ← en, ← eu, ← em)
    (behind l x1 x8 1 2 (f ∷ []) (two interval ++ (t ∷ (four n ++ (u ∷ (eight m ++ (wkst ∷ eight start)))))) refl e1
    (behind x1 x2 x8 2 4 (two interval) (t ∷ (four n ++ (u ∷ (eight m ++ (wkst ∷ eight start))))) (omega (arith, length_two interval)) e2
    (behind x2 x3 x8 4 5 (t ∷ []) (four n ++ (u ∷ (eight m ++ (wkst ∷ eight start)))) refl e3
    (behind x3 x4 x8 5 9 (four n) (u ∷ (eight m ++ (wkst ∷ eight start))) (omega (arith, length_four n)) e4
    (behind x4 x5 x8 9 10 (u ∷ []) (eight m ++ (wkst ∷ eight start)) refl e5
    (behind x5 x6 x8 10 18 (eight m) (wkst ∷ eight start) (omega (arith, length_eight m)) e6
    (behind x6 x7 x8 18 19 (wkst ∷ []) (eight start) refl e7 e8)))))))

-- a byte and three parts that fill the bytes
put_three : (l x0 x y z : List ℕ) (v : ℕ) (h d t : List ℕ) → length l ≡ 2564 → length h ≡ 26 → length d ≡ 1661 → length t ≡ 876 → x0 ≡ set l 0 v
    → x ≡ sets x0 1 h → y ≡ sets x 27 d → z ≡ sets y 1688 t → z ≡ v ∷ (h ++ (d ++ t))
put_three l x0 x y z v h d t n lh ld lt e0 e f g =
    let w : length (v ∷ (h ++ (d ++ t))) ≡ length l = simp length-append (omega arith) in
    behind l x0 z 0 1 (v ∷ []) (h ++ (d ++ t)) refl e0 (behind x0 x z 1 27 h (d ++ t) (omega arith) e (behind x y z 27 1688 d t (omega arith) f g))
    ∙ sets_whole l (v ∷ (h ++ (d ++ t))) w

module _ (r : Rule) where
  -- the sets of days
  pub days_put : (l x1 x2 x3 x4 x5 : List ℕ) → length r.bymonth ≡ 12 → length r.bymonthday ≡ 62 → length r.byyearday ≡ 732
      → length r.byweekno ≡ 106
      → x1 ≡ sets l 27 (flag_bytes r.bymonth) → x2 ≡ sets x1 39 (flag_bytes r.bymonthday) → x3 ≡ sets x2 101 (flag_bytes r.byyearday)
      → x4 ≡ sets x3 833 (flag_bytes r.byweekno) → x5 ≡ sets x4 939 (flag_bytes r.byday) → x5 ≡ sets l 27 (day_bytes r)
  unfolding day_bytes
  days_put l x1 x2 x3 x4 x5 l1 l2 l3 l4 e1 e2 e3 e4 e5 =
      let a = flag_bytes r.bymonth in
      let b = flag_bytes r.bymonthday in
      let c = flag_bytes r.byyearday in
      let d = flag_bytes r.byweekno in
      let e = flag_bytes r.byday in
      behind l x1 x5 27 39 a (b ++ (c ++ (d ++ e))) (omega (arith, length_flag_bytes r.bymonth 12 l1)) e1
      (behind x1 x2 x5 39 101 b (c ++ (d ++ e)) (omega (arith, length_flag_bytes r.bymonthday 62 l2)) e2
      (behind x2 x3 x5 101 833 c (d ++ e) (omega (arith, length_flag_bytes r.byyearday 732 l3)) e3
      (behind x3 x4 x5 833 939 d e (omega (arith, length_flag_bytes r.byweekno 106 l4)) e4 e5)))

  pub length_days : length r.bymonth ≡ 12 → length r.bymonthday ≡ 62 → length r.byyearday ≡ 732 → length r.byweekno ≡ 106
      → length r.byday ≡ 749 → length (day_bytes r) ≡ 1661
  unfolding day_bytes
  length_days l1 l2 l3 l4 l5 = simp (length-append, length-map, l1, l2, l3, l4, l5)

  -- the sets of times, and the positions
  pub times_put : (l x1 x2 x3 x4 : List ℕ) → length r.byhour ≡ 24 → length r.byminute ≡ 60 → length r.bysecond ≡ 60
      → x1 ≡ sets l 1688 (flag_bytes r.byhour) → x2 ≡ sets x1 1712 (flag_bytes r.byminute) → x3 ≡ sets x2 1772 (flag_bytes r.bysecond)
      → x4 ≡ sets x3 1832 (flag_bytes r.bysetpos) → x4 ≡ sets l 1688 (time_bytes r)
  unfolding time_bytes
  times_put l x1 x2 x3 x4 l1 l2 l3 e1 e2 e3 e4 =
      let a = flag_bytes r.byhour in
      let b = flag_bytes r.byminute in
      let c = flag_bytes r.bysecond in
      let d = flag_bytes r.bysetpos in
      behind l x1 x4 1688 1712 a (b ++ (c ++ d)) (omega (arith, length_flag_bytes r.byhour 24 l1)) e1
      (behind x1 x2 x4 1712 1772 b (c ++ d) (omega (arith, length_flag_bytes r.byminute 60 l2)) e2
      (behind x2 x3 x4 1772 1832 c d (omega (arith, length_flag_bytes r.bysecond 60 l3)) e3 e4))

  pub length_times : length r.byhour ≡ 24 → length r.byminute ≡ 60 → length r.bysecond ≡ 60 → length r.bysetpos ≡ 732
      → length (time_bytes r) ≡ 876
  unfolding time_bytes
  length_times l1 l2 l3 l4 = simp (length-append, length-map, l1, l2, l3, l4)

  -- the whole record
  pub record_put : (l x0 x y z : List ℕ) → length l ≡ 2564 → length (day_bytes r) ≡ 1661 → length (time_bytes r) ≡ 876 → x0 ≡ set l 0 record_version
      → x ≡ sets x0 1 (head_bytes r.freq r.interval r.count r.until r.wkst r.start) → y ≡ sets x 27 (day_bytes r)
      → z ≡ sets y 1688 (time_bytes r) → z ≡ encode_record r
  unfolding encode_record
  record_put l x0 x y z n days times e0 e f g =
      put_three l x0 x y z record_version (head_bytes r.freq r.interval r.count r.until r.wkst r.start) (day_bytes r) (time_bytes r) n
      (length_head r.freq r.interval r.count r.until r.wkst r.start) days times e0 e f g

module _ (bytes : List ℕ) where
  -- the record that is read
  pub record_read : (freq : Frequency) (interval : ℕ) (count : Option ℕ) (until : Option ℕ) (wkst start n m : ℕ)
      (s1 s2 s3 s4 s5 s6 s7 s8 s9 : List Bool) → freq ≡ frequency (get_or bytes 1 0) → interval ≡ two_at bytes 2 → n ≡ four_at bytes 5
      → count ≡ count_from (get_or bytes 4 0) n → m ≡ eight_at bytes 10 → until ≡ until_from (get_or bytes 9 0) m → wkst ≡ get_or bytes 18 0
      → start ≡ eight_at bytes 19 → s1 ≡ flags_at bytes 27 12 → s2 ≡ flags_at bytes 39 62 → s3 ≡ flags_at bytes 101 732 → s4 ≡ flags_at bytes 833 106
      → s5 ≡ flags_at bytes 939 749 → s6 ≡ flags_at bytes 1688 24 → s7 ≡ flags_at bytes 1712 60 → s8 ≡ flags_at bytes 1772 60
      → s9 ≡ flags_at bytes 1832 732
      → record { freq = freq; interval = interval; count = count; until = until; wkst = wkst; start = start; bymonth = s1; bymonthday = s2; byyearday = s3; byweekno = s4; byday = s5; byhour = s6; byminute = s7; bysecond = s8; bysetpos = s9 }
      ≡ record_in bytes
  unfolding record_in
  record_read freq interval count until wkst start n m s1 s2 s3 s4 s5 s6 s7 s8 s9 ef ei en ec em eu ew es e1 e2 e3 e4 e5 e6 e7 e8 e9 = λ i. record {
    freq = ef i;
    interval = ei i;
    count = (ec ∙ ap (λ (k : ℕ). count_from (get_or bytes 4 0) k) en) i;
    until = (eu ∙ ap (λ (k : ℕ). until_from (get_or bytes 9 0) k) em) i;
    wkst = ew i;
    start = es i;
    bymonth = e1 i;
    bymonthday = e2 i;
    byyearday = e3 i;
    byweekno = e4 i;
    byday = e5 i;
    byhour = e6 i;
    byminute = e7 i;
    bysecond = e8 i;
    bysetpos = e9 i;
  }

  -- bytes of another length are no record's, and of this length they are judged part by part
  pub record_length_lem : (length bytes ≡ 2564 → ⊥) → false ≡ is_record_bytes bytes
  unfolding is_record_bytes
  record_length_lem h = rw (ne_eqb (length bytes) 2564 h)

  pub record_judged : (n m : ℕ) (t u f : Bool) → length bytes ≡ 2564 → n ≡ four_at bytes 5 → m ≡ eight_at bytes 10 → t ≡ is_tagged (get_or bytes 4 0) n
      → u ≡ is_tagged (get_or bytes 9 0) m → f ≡ are_flags (drop 27 bytes)
      → eqb (get_or bytes 0 0) record_version && (leb (get_or bytes 1 0) 6 && (t && (u && f))) ≡ is_record_bytes bytes
  unfolding is_record_bytes
  record_judged n m t u f l en em et eu ef = rw (et, eu, ef, en, em, eq-eqb (length bytes) 2564 l)

  -- the same of a cursor
  pub cursor_read : (state : State) (k place number : ℕ) → state ≡ state_of (get_or bytes 1 0) → k ≡ eight_at bytes 2 → place ≡ four_at bytes 10
      → number ≡ eight_at bytes 14 → record { state = state; k = k; place = place; number = number } ≡ cursor_in bytes
  unfolding cursor_in
  cursor_read state k place number es ek ep en = λ i. record { state = es i; k = ek i; place = ep i; number = en i }

  pub cursor_length_lem : (length bytes ≡ 22 → ⊥) → false ≡ is_cursor_bytes bytes
  unfolding is_cursor_bytes
  cursor_length_lem h = rw (ne_eqb (length bytes) 22 h)

  pub cursor_judged : length bytes ≡ 22 → eqb (get_or bytes 0 0) cursor_version && leb (get_or bytes 1 0) 5 ≡ is_cursor_bytes bytes
  unfolding is_cursor_bytes
  cursor_judged l = rw (eq-eqb (length bytes) 22 l)

pub cursor_put : (c : Cursor) (s : ℕ) (l x0 x1 x2 x3 x4 : List ℕ) → length l ≡ 22 → s ≡ state_number c.state → x0 ≡ set l 0 cursor_version → x1 ≡ set x0 1 s
    → x2 ≡ sets x1 2 (eight c.k) → x3 ≡ sets x2 10 (four c.place) → x4 ≡ sets x3 14 (eight c.number) → x4 ≡ encode_cursor c
unfolding encode_cursor
cursor_put c s l x0 x1 x2 x3 x4 n e e0 e1 e2 e3 e4 =
    let a = eight c.k in
    let b = four c.place in
    let d = eight c.number in
    let la : length a ≡ 8 = length_eight c.k in
    let lb : length b ≡ 4 = length_four c.place in
    rw (← e)
    (behind l x0 x4 0 1 (cursor_version ∷ []) (s ∷ (a ++ (b ++ d))) refl e0
    (behind x0 x1 x4 1 2 (s ∷ []) (a ++ (b ++ d)) refl e1
    (behind x1 x2 x4 2 10 a (b ++ d) (omega arith) e2 (behind x2 x3 x4 10 14 b d (omega arith) e3 e4)))
    ∙ sets_whole l (cursor_version ∷ (s ∷ (a ++ (b ++ d)))) (sym n))
