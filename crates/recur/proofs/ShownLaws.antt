-- What a reader's answer tells of what it came to: a symbol is whole, with its place and its value, and without one the reader stopped at the place.
-- Assumes nothing.
use Rattle.std.specs.Prelude.{if◌then◌else◌, Result, Ok, Err, IsOk, is_ok}
use Prim.Native.Nat.{ℕ}
use native.Mathlib.Omega.{arith}
use mathlib.Core.Path.{◌≡◌, refl, sym, ap, ◌∙◌}
use mathlib.Core.Bool.{Bool, true, false}
use Rattle.symbols.specs.Takes.{Took, took}
use Rattle.symbols.specs.Readers.{turned_into}
use Rattle.recur.specs.declared.Symbol.{Symbol}
use Rattle.recur.specs.Shown.{shown, stopped}

abbrev pub symbol : {B : Type 0} → ℕ → B → Symbol B
symbol place value = record { place = place; value = value }

-- the answer to a reader that came to k, whose value g turns into another
module _ {A B : Type 0} (g : A → B) (k : Took A) where
  abbrev by : Bool → Result (Symbol B) ℕ
  by w = if w then Ok (symbol k.place (g k.value)) else Err k.place

  -- a symbol is answered
  module _ (s : Symbol B) (e : Ok s ≡ shown (turned_into g k)) where
    record Told (w : Bool) : Type 0 where
      whole : w ≡ true
      place : s.place ≡ k.place
      value : s.value ≡ g k.value

    told_by : (w : Bool) → Ok s ≡ by w → Told w
    told_by true f = record { whole = refl; place = cc; value = cc }
    told_by false f = absurd (let z : ◌≡◌ {A = ℕ} 0 1 = cc in omega arith)

    pub whole_is : k.whole ≡ true
    whole_is = (told_by k.whole e).whole

    pub place_is : s.place ≡ k.place
    place_is = (told_by k.whole e).place

    pub value_is : s.value ≡ g k.value
    value_is = (told_by k.whole e).value

    -- it tells as well what that value is turned into
    pub turned_whole : {C : Type 0} (f : B → C) → Ok (symbol s.place (f s.value)) ≡ shown (turned_into (λ (a : A). f (g a)) k)
    turned_whole f =
        ap (λ (n : ℕ). Ok (symbol n (f s.value))) place_is
        ∙ ap (λ (v : B). Ok (symbol k.place (f v))) value_is
        ∙ sym (ap (λ (x : Bool). if x then Ok (symbol k.place (f (g k.value))) else Err k.place) whole_is)

  -- a place is answered
  module _ (p : ℕ) (e : Err p ≡ shown (turned_into g k)) where
    record Halted (w : Bool) : Type 0 where
      not_whole : w ≡ false
      place : p ≡ k.place

    halted_by : (w : Bool) → Err p ≡ by w → Halted w
    halted_by true f = absurd (let z : ◌≡◌ {A = ℕ} 0 1 = cc in omega arith)
    halted_by false f = record { not_whole = refl; place = cc }

    pub not_whole : k.whole ≡ false
    not_whole = (halted_by k.whole e).not_whole

    pub stop_is : p ≡ k.place
    stop_is = (halted_by k.whole e).place

    pub turned_stopped : {C : Type 0} (f : A → C) → Err p ≡ shown (turned_into f k)
    turned_stopped f =
        ap (λ (n : ℕ). Err n) stop_is ∙ sym (ap (λ (x : Bool). if x then Ok (symbol k.place (f k.value)) else Err k.place) not_whole)

-- ---- where a list or a value stops

abbrev stop_by : {A : Type 0} → Took A → Bool → Result ℕ ℕ
stop_by k w = if w then Ok k.place else Err k.place

module _ {A : Type 0} (k : Took A) (p : ℕ) where
  record Ends (w b : Bool) : Type 0 where
    is_whole : w ≡ b
    place : p ≡ k.place

  ends : (w : Bool) → Ok p ≡ stop_by k w → Ends w true
  ends true f = record { is_whole = refl; place = cc }
  ends false f = absurd (let z : ◌≡◌ {A = ℕ} 0 1 = cc in omega arith)

  halts : (w : Bool) → Err p ≡ stop_by k w → Ends w false
  halts true f = absurd (let z : ◌≡◌ {A = ℕ} 0 1 = cc in omega arith)
  halts false f = record { is_whole = refl; place = cc }

  pub ends_whole : Ok p ≡ stopped k → k.whole ≡ true
  ends_whole e = (ends k.whole e).is_whole

  pub ends_there : Ok p ≡ stopped k → p ≡ k.place
  ends_there e = (ends k.whole e).place

  pub halts_short : Err p ≡ stopped k → k.whole ≡ false
  halts_short e = (halts k.whole e).is_whole

  pub halts_there : Err p ≡ stopped k → p ≡ k.place
  halts_there e = (halts k.whole e).place

-- a whole symbol is answered
pub is_shown : {A : Type 0} (k : Took A) → k.whole ≡ true → IsOk (shown k)
is_shown {A} k w = ap (λ (b : Bool). is_ok (shown (took b k.place k.rest k.value))) w
