-- What the calls from C answer, case by case.
-- Assumes nothing.
use Rattle.std.specs.Prelude.{Option, Some, None, Ok, Err, if◌then◌else◌}
use Prim.Native.Nat.{ℕ}
use mathlib.Core.Path.{◌≡◌, refl, sym, ap, ◌∙◌}
use mathlib.Core.Bool.{Bool, true, false, ◌&&◌}
use mathlib.Core.List.{List}
use native.Mathlib.Omega.{arith}
use lib.Dec.{eqb}
use lib.ListN.{length}
use borrow.Author.Tests.{eqb-true, eq-eqb, ne_eqb}
use Rattle.machine.specs.declared.Cursor.{Cursor}
use Rattle.machine.specs.declared.Answer.{Answer}
use Rattle.machine.specs.Calls.{beside}
use Rattle.rule.specs.declared.rrule.Refusal.{Refusal}
use Rattle.rule.specs.Filling.{Checked}
use Rattle.rule.specs.declared.rrule.Rule.{Rule}
use Rattle.rule.specs.Raw.{RawLists, raw}
use Rattle.rule.specs.Refusals.{refusal_number}
use Rattle.rule.specs.Filling.{checked}
use Rattle.rule.specs.Records.{yielded}
use Rattle.rule.specs.Run.{fresh_of, run_of}
use Rattle.edge.specs.Layout.{encode_record, record_in, is_record_bytes, decode_record}
use Rattle.edge.specs.Layout.{state_number, encode_cursor, cursor_in, is_cursor_bytes, decode_cursor}
use Rattle.edge.specs.Edge.{said, said_of, check_says, fresh_says, shown, stop_number, is_refused, unreadable, run_says}

and_left : (a b : Bool) → a && b ≡ true → a ≡ true
and_left true b e = refl
and_left false b e = e

-- bytes that are taken have their length
pub record_size : (bytes : List ℕ) → is_record_bytes bytes ≡ true → length bytes ≡ 2564
unfolding is_record_bytes
record_size bytes e = eqb-true (length bytes) 2564 (and_left (eqb (length bytes) 2564) _ e)

pub cursor_size : (bytes : List ℕ) → is_cursor_bytes bytes ≡ true → length bytes ≡ 22
unfolding is_cursor_bytes
cursor_size bytes e = eqb-true (length bytes) 22 (and_left (eqb (length bytes) 22) _ e)

-- what bytes hold
pub no_record : (bytes : List ℕ) → is_record_bytes bytes ≡ false → decode_record bytes ≡ None
unfolding decode_record
no_record bytes e = rw e

pub record_held : (bytes : List ℕ) (r : Rule) → is_record_bytes bytes ≡ true → r ≡ record_in bytes → decode_record bytes ≡ Some r
unfolding decode_record
record_held bytes r e f = rw (e, f)

pub no_cursor : (bytes : List ℕ) → is_cursor_bytes bytes ≡ false → decode_cursor bytes ≡ None
unfolding decode_cursor
no_cursor bytes e = rw e

pub cursor_held : (bytes : List ℕ) (c : Cursor) → is_cursor_bytes bytes ≡ true → c ≡ cursor_in bytes → decode_cursor bytes ≡ Some c
unfolding decode_cursor
cursor_held bytes c e f = rw (e, f)

pub held_size : (bytes : List ℕ) (c : Cursor) → decode_cursor bytes ≡ Some c → length bytes ≡ 22
unfolding decode_cursor
held_size bytes c e = cursor_size bytes (go (is_cursor_bytes bytes) e)
  where
    go : (t : Bool) → (if t then Some (cursor_in bytes) else None) ≡ Some c → t ≡ true
    go true f = refl
    go false f = absurd (let z : ◌≡◌ {A = ℕ} 0 1 = cc in omega arith)

-- the check
module _ (freq interval : ℕ) (count count' : Option ℕ) (until until' : Option ℕ) (wkst start : ℕ) (lists : RawLists) (v : Checked) (bytes : List ℕ)
    (ec : count ≡ count') (eu : until ≡ until') (ev : v ≡ checked (raw freq interval count until wkst start lists)) where
  pub check_refused : (refusal : Refusal) (n : ℕ) → v ≡ Err refusal → n ≡ refusal_number refusal
      → said n bytes ≡ check_says (raw freq interval count' until' wkst start lists) bytes
  unfolding check_says
  check_refused refusal n e f =
      rw (← ec, ← eu, ← ev) (ap (λ (k : ℕ). said k bytes) f ∙ ap (λ (a : Checked). said_of a bytes) (sym e))

  pub check_length : (r : Rule) (x : List ℕ) → v ≡ Ok r → (length bytes ≡ 2564 → ⊥) → x ≡ bytes
      → said 20 x ≡ check_says (raw freq interval count' until' wkst start lists) bytes
  unfolding check_says
  check_length r x e h f = rw (← ec, ← eu, ← ev, e, ne_eqb (length bytes) 2564 h) (ap (λ (y : List ℕ). said 20 y) f)

  pub check_accepted : (r : Rule) (x : List ℕ) → v ≡ Ok r → length bytes ≡ 2564 → x ≡ encode_record r
      → said 0 x ≡ check_says (raw freq interval count' until' wkst start lists) bytes
  unfolding check_says
  check_accepted r x e l f = rw (← ec, ← eu, ← ev, e, eq-eqb (length bytes) 2564 l) (ap (λ (y : List ℕ). said 0 y) f)

module _ (rulebytes cursorbytes : List ℕ) where
  -- the fresh cursor
  pub fresh_no_record : decode_record rulebytes ≡ None → said 20 cursorbytes ≡ fresh_says rulebytes cursorbytes
  unfolding fresh_says
  fresh_no_record e = rw e

  module _ (r : Rule) (held : decode_record rulebytes ≡ Some r) where
    pub fresh_bad_record : yielded r ≡ false → said 20 cursorbytes ≡ fresh_says rulebytes cursorbytes
    unfolding fresh_says
    fresh_bad_record e = rw (held, e)

    pub fresh_length : (x : List ℕ) → yielded r ≡ true → (length cursorbytes ≡ 22 → ⊥) → x ≡ cursorbytes → said 21 x ≡ fresh_says rulebytes cursorbytes
    unfolding fresh_says
    fresh_length x e h f = rw (held, e, ne_eqb (length cursorbytes) 22 h) (ap (λ (y : List ℕ). said 21 y) f)

    pub fresh_made : (c : Cursor) (x : List ℕ) → yielded r ≡ true → length cursorbytes ≡ 22 → c ≡ fresh_of r → x ≡ encode_cursor c
        → said 0 x ≡ fresh_says rulebytes cursorbytes
    unfolding fresh_says
    fresh_made c x e l f g = rw (held, e, eq-eqb (length cursorbytes) 22 l) (ap (λ (y : List ℕ). said 0 y) (g ∙ ap encode_cursor f))

  -- the run
  module _ (buffer : List ℕ) (m : ℕ) where
    pub run_no_record : decode_record rulebytes ≡ None → shown 20 cursorbytes buffer 0 0 0 ≡ run_says rulebytes cursorbytes buffer m
    unfolding run_says
    run_no_record e = rw e

    module _ (r : Rule) (held : decode_record rulebytes ≡ Some r) where
      pub run_no_cursor : (n : ℕ) → decode_cursor cursorbytes ≡ None → n ≡ unreadable (yielded r)
          → shown n cursorbytes buffer 0 0 0 ≡ run_says rulebytes cursorbytes buffer m
      unfolding run_says
      run_no_cursor n e f = rw (held, e) (ap (λ (k : ℕ). shown k cursorbytes buffer 0 0 0) f)

      module _ (c : Cursor) (from : decode_cursor cursorbytes ≡ Some c) (a : Answer) (left : List ℕ) (ran : beside a left ≡ run_of r c buffer m) where
        pub run_refused : (n : ℕ) → n ≡ stop_number a.stop → is_refused a.stop ≡ true
            → shown n cursorbytes left 0 0 0 ≡ run_says rulebytes cursorbytes buffer m
        unfolding run_says
        run_refused n e f = rw (held, from, ← ran, f) (ap (λ (k : ℕ). shown k cursorbytes left 0 0 0) e)

        pub run_answers : (n s : ℕ) (x : List ℕ) → n ≡ stop_number a.stop → is_refused a.stop ≡ false → x ≡ encode_cursor a.cursor
            → s ≡ state_number a.cursor.state → shown n x left a.moves a.handed s ≡ run_says rulebytes cursorbytes buffer m
        unfolding run_says
        run_answers n s x e f g h = rw (held, from, ← ran, f)
            (λ i. shown (e i) (g i) left a.moves a.handed (h i))
