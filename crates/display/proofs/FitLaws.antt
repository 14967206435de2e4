-- What is answered, and what stands in the buffer then.
-- Assumes nothing.
use Rattle.std.specs.Option.{unwrap_or}
use Rattle.std.specs.Prelude.{Option, Some, None, Ok, Err}
use Prim.Native.Nat.{ℕ, ◌≤◌, ◌<◌}
use mathlib.Core.Path.{◌≡◌, sym, ap, ◌∙◌}
use mathlib.Core.Bool.{Bool}
use mathlib.Core.List.{List, [], ◌++◌}
use native.Mathlib.Omega.{arith}
use lib.ListN.{length}
use lib.Dec.{leb}
use lib.Seq.{sets}
use borrow.Author.Tests.{ltb-false, le-leb, lt-leb}
use Rattle.rule.specs.declared.rrule.Refusal.{Refusal}
use Rattle.rule.specs.Instants.{last_instant}
use Rattle.rule.specs.Raw.{Raw}
use Rattle.rule.specs.Refusals.{until_out, verdict}
use Rattle.rule.proofs.RefusalLaws.{none_given}
use Rattle.recur.specs.declared.Unwritten.{Unwritten}
use Rattle.recur.specs.Writing.{text_of, Written, fitted, left_by, written_of, text_left}
use Rattle.recur.specs.Claims.{CountInRange, UntilInRange}
use Rattle.recur.proofs.WrittenTexts.{written_fits}
use Rattle.puts.specs.Put.{Room}
use Rattle.puts.proofs.PutLaws.{sets_out}
use Rattle.display.specs.Parts.{FittedIn}

module _ (xs buffer part : List ℕ) (k : ℕ) (p : part ≡ sets [] 0 xs) (e : k ≡ length xs) where
  -- what is written into nothing leaves the buffer as it was
  untouched : part ++ buffer ≡ buffer
  untouched = ap (λ (l : List ℕ). l ++ buffer) (p ∙ sets_out [] 0 xs (omega arith))

  pub short : length (part ++ buffer) < k → FittedIn xs buffer (part ++ buffer) (Err (Unwritten.Short k))
  short h =
      let u : length (part ++ buffer) ≡ length buffer = ap length untouched in
      let t : leb (length xs) (length buffer) ≡ Bool.false = lt-leb (length xs) (length buffer) (omega arith) in
      record { answer = rw (t, e); stands = rw t untouched }

  pub long : (left : List ℕ) (j : ℕ) → k ≤ length (part ++ buffer) → left ≡ sets (part ++ buffer) 0 xs → j ≡ length xs → FittedIn xs buffer left (Ok j)
  long left j h q f =
      let u : length (part ++ buffer) ≡ length buffer = ap length untouched in
      let t : leb (length xs) (length buffer) ≡ Bool.true = le-leb (length xs) (length buffer) (omega arith) in
      record { answer = rw (t, f); stands = rw t (q ∙ ap (λ (l : List ℕ). sets l 0 xs) untouched) }

-- the answers of the whole writer
written_refused : (w : Raw) (n : Refusal) (size : ℕ) → verdict w ≡ Err n → written_of w size ≡ Err (Unwritten.Refused n)
unfolding written_of
written_refused w n size e = rw (e, written_of)

written_accepted : (w : Raw) (size : ℕ) → verdict w ≡ Ok tt → written_of w size ≡ fitted (length (text_of w)) size
unfolding written_of
written_accepted w size e = rw (e, written_of)

left_is : (w : Raw) (buffer : List ℕ) (told : Written) → written_of w (length buffer) ≡ told → left_by told (text_of w) buffer ≡ text_left w buffer
unfolding text_left
left_is w buffer told e = ap (λ (x : Written). left_by x (text_of w) buffer) (sym e)

pub told_refused : (w : Raw) (n : Refusal) (buffer : List ℕ) → verdict w ≡ Err n
    → (Err (Unwritten.Refused n) ≡ written_of w (length buffer)) × (buffer ≡ text_left w buffer)
told_refused w n buffer e =
    let r : written_of w (length buffer) ≡ Err (Unwritten.Refused n) = written_refused w n (length buffer) e in
    (sym r, left_is w buffer (Err (Unwritten.Refused n)) r)

pub told_accepted : (w : Raw) (buffer left : List ℕ) (told : Written) → verdict w ≡ Ok tt → FittedIn (text_of w) buffer left told
    → (told ≡ written_of w (length buffer)) × (left ≡ text_left w buffer)
told_accepted w buffer left told e f =
    let size : ℕ = length buffer in
    let r : written_of w size ≡ fitted (length (text_of w)) size = written_accepted w size e in
    (f.answer ∙ sym r, f.stands ∙ left_is w buffer (fitted (length (text_of w)) size) r)

-- an accepted rule: its UNTIL is in range, and there is room for its text
until_in_range : (u : Option ℕ) → until_out u ≡ Bool.false → UntilInRange u
until_in_range None h = tt
until_in_range (Some t) h = ltb-false last_instant t h

count_in_range : (k : Option ℕ) (n : ℕ) → n ≡ unwrap_or k 0 → n ≤ 4294967295 → CountInRange k
count_in_range None n e h = tt
count_in_range (Some m) n e h = omega arith

pub room : (w : Raw) (n : ℕ) → verdict w ≡ Ok tt → w.start ≡ 0 → w.interval ≤ 65535 → n ≡ unwrap_or w.count 0 → n ≤ 4294967295
    → UntilInRange w.until × Room 0 (text_of w)
room w n a s i e c =
    let k = count_in_range w.count n e c in
    let h : length (text_of w) ≤ 13117 = written_fits w (record { accepted = a; start = s; interval = i; count = k }) in
    (until_in_range w.until ((none_given w).0 a Refusal.UntilOut), record { fits = omega arith })
