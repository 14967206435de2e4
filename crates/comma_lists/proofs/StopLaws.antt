-- Where a list stops, an entry at a time.
-- Assumes nothing.
use Rattle.std.specs.Prelude.{if◌then◌else◌, Ok, Err}
use Prim.Native.Nat.{ℕ, zero, suc, ◌+◌, ◌≤◌}
use native.Mathlib.Omega.{arith}
use mathlib.Core.Path.{◌≡◌, sym, ap, ◌∙◌}
use mathlib.Core.Bool.{Bool, true, false, ◌&&◌, and-false}
use mathlib.Core.List.{List}
use lib.ListN.{length, drop}
use Rattle.symbols.specs.Takes.{Took}
use Rattle.symbols.specs.Readers.{head_is, single}
use Rattle.symbols.proofs.Cuts.{and_both}
use Rattle.recur.specs.Grammar.{comma}
use Rattle.recur.specs.Shown.{shown, stopped}
use Rattle.recur.proofs.ShownLaws.{not_whole, stop_is}
use Rattle.comma_lists.proofs.ListLaws.{Lists, Seen, next, ends, none_left, past_comma}

-- The list from the first place on stops where it stops from this place on, with so many entries left behind the next.
pub record Stops {A : Type 0} (list : ℕ → ℕ → List ℕ → Took (List A)) (t : List ℕ) (at place left : ℕ) : Type 0 where
  pub inside : place ≤ length t
  pub same : stopped (list left place (drop place t)) ≡ stopped (list 748 at (drop at t))

pub stops_first : {A : Type 0} (list : ℕ → ℕ → List ℕ → Took (List A)) (t : List ℕ) (at left : ℕ) → at ≤ length t → left ≡ 748 → Stops list t at at left
stops_first list t at left h e = record { inside = h; same = ap (λ (n : ℕ). stopped (list n at (drop at t))) e }

module _ {A : Type 0} {take : ℕ → List ℕ → Took A} {list : ℕ → ℕ → List ℕ → Took (List A)} (x : Lists take list) {t : List ℕ} {at place left : ℕ}
    (st : Stops list t at place left) {whole : Bool} {stop : ℕ} (s : Seen take t place whole stop) where
  -- behind the comma
  pub stops_on : {more : Bool} → more ≡ head_is comma (drop stop t) → (whole && more) ≡ true → (m : ℕ) → left ≡ m + 1 → Stops list t at (stop + 1) m
  stops_on {more} e b m d = record {
    inside = omega (arith, past_comma t stop e (and_both whole more b).1);
    same = sym (ap stopped (next x t place st.inside s e left m d b)) ∙ st.same;
  }

  stops_here : list left place (drop place t) ≡ single (take place (drop place t)) → whole ≡ true → Ok stop ≡ stopped (list 748 at (drop at t))
  stops_here o w =
      ap (λ (b : Bool). if b then Ok stop else Err stop) (sym w ∙ s.whole_is)
      ∙ ap (λ (p : ℕ). if (take place (drop place t)).whole then Ok p else Err p) s.place_is
      ∙ sym (ap stopped o) ∙ st.same

  -- no entry follows, or none may
  pub stops_off : {more : Bool} → whole ≡ true → more ≡ head_is comma (drop stop t) → more ≡ false → Ok stop ≡ stopped (list 748 at (drop at t))
  stops_off {more} w e b = stops_here (ends x t place st.inside s e left (ap (λ (c : Bool). whole && c) b ∙ and-false whole)) w

  pub stops_last : whole ≡ true → left ≡ 0 → Ok stop ≡ stopped (list 748 at (drop at t))
  stops_last w d = stops_here (none_left x t place st.inside left d) w

-- an entry isn't whole
module _ {A : Type 0} {take : ℕ → List ℕ → Took A} {list : ℕ → ℕ → List ℕ → Took (List A)} (x : Lists take list) {t : List ℕ} {at place left : ℕ}
    (st : Stops list t at place left) where
  pub stops_short : {p : ℕ} → Err p ≡ shown (take place (drop place t)) → Err p ≡ stopped (list 748 at (drop at t))
  stops_short {p} e =
      let k = take place (drop place t) in
      let n : k.whole ≡ false = not_whole (λ (v : A). v) k p e in
      ap (λ (q : ℕ). Err q) (stop_is (λ (v : A). v) k p e)
      ∙ sym (ap (λ (b : Bool). if b then Ok k.place else Err k.place) n)
      ∙ sym (ap stopped (short left n)) ∙ st.same
    where
      short : (n : ℕ) → (take place (drop place t)).whole ≡ false → list n place (drop place t) ≡ single (take place (drop place t))
      short zero f = x.last place (drop place t)
      short (suc n) f = x.off n place (drop place t) (ap (λ (b : Bool). b && head_is comma (take place (drop place t)).rest) f)
