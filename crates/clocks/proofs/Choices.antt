-- What a period has to choose from, and by it the times of a period by number.
-- Assumes nothing.
use Prim.Native.Nat.{ℕ, zero, suc, ◌+◌, ◌*◌, ◌/◌, ◌%◌, ◌≤◌, ◌<◌}
use mathlib.Core.Path.{◌≡◌, refl, sym, ◌∙◌, ap}
use mathlib.Core.Bool.{Bool, true, false}
use mathlib.Core.List.{List, [], ◌∷◌, append-nil}
use native.Mathlib.Nat.{div-div-eq-div-mul, div-lt_iff_lt-mul, mul-pos, mul_comm, mod-lt, mod-one, div-one, mul-one, mul-le-mul}
use native.Mathlib.Omega.{arith}
use lib.Arith.{digits_div, digits_mod, mod-mul}
use lib.ListN.{length, get_or}
use Rattle.rule.specs.declared.rrule.Frequency.{Frequency}
use Rattle.rule.specs.declared.rrule.Rule.{Rule}
use Rattle.rule.specs.Instants.{hour_of, minute_of, second_of}
use Rattle.rule.specs.Filling.{is_below}
use Rattle.rule.specs.Times.{hour_passes, minute_passes, second_passes}
use Rattle.rule.specs.Candidates.{only, covered, times}
use Rattle.clocks.specs.Blocks.{blocks, passing}
use Rattle.clocks.proofs.Blocks.{Passes, gather_blocks, passing_in, passing_short, blocks_length, blocks_at, within_block}

-- the hours, minutes or seconds that a period has to choose from: all that pass of n, or v alone, if it passes
unfoldable pub choices : Bool → ℕ → ℕ → (ℕ → Bool) → List ℕ
unfolding covered
choices b n v p = covered b n v (λ i. only (p i) (i ∷ []))

only_blocks : (b : Bool) (v : ℕ) (f : ℕ → List ℕ) → only b (f v) ≡ blocks f (only b (v ∷ []))
unfolding blocks
only_blocks true v f = sym (append-nil (f v))
only_blocks false v f = refl

-- what is covered is the blocks of the choices
pub covered_blocks : (b : Bool) (n v : ℕ) (p : ℕ → Bool) (f : ℕ → List ℕ) → covered b n v (λ i. only (p i) (f i)) ≡ blocks f (choices b n v p)
unfolding covered choices passing
covered_blocks true n v p f = gather_blocks p f n 0
covered_blocks false n v p f = only_blocks (p v) v f

module _ (b : Bool) (n v : ℕ) (p : ℕ → Bool) (f : ℕ → List ℕ) (t : ℕ) (even : (x : ℕ) → length (f x) ≡ t) where
  pub covered_length : length (covered b n v (λ i. only (p i) (f i))) ≡ length (choices b n v p) * t
  covered_length = ap (λ (l : List ℕ). length l) (covered_blocks b n v p f) ∙ blocks_length f t even (choices b n v p)

  pub covered_at : (j : ℕ) → j < length (choices b n v p) * t →
      get_or (covered b n v (λ i. only (p i) (f i))) j 0 ≡ get_or (f (get_or (choices b n v p) (j / t) 0)) (j % t) 0
  covered_at j h = ap (λ (l : List ℕ). get_or l j 0) (covered_blocks b n v p f) ∙ blocks_at f t even (choices b n v p) j 0 0 h

-- there are at most n choices, each below n
pub choices_short : (b : Bool) (n v : ℕ) (p : ℕ → Bool) → v < n → length (choices b n v p) ≤ n
unfolding choices covered passing
choices_short true n v p h = passing_short p n 0
choices_short false n v p h = go (p v)
  where
    go : (b : Bool) → length (only b (v ∷ [])) ≤ n
    go true = omega arith
    go false = omega arith

pub choices_below : (b : Bool) (n v : ℕ) (p : ℕ → Bool) (j : ℕ) → v < n → j < length (choices b n v p) → get_or (choices b n v p) j 0 < n
unfolding choices covered passing
choices_below true n v p j h l = let w : Passes p n 0 (get_or (passing p n 0) j 0) = passing_in p n 0 j 0 l in omega arith
choices_below false n v p j h l = go (p v) j l
  where
    go : (b : Bool) (j : ℕ) → j < length (only b (v ∷ [])) → get_or (only b (v ∷ [])) j 0 < n
    go true zero l = h
    go true (suc j) l = absurd (omega arith)
    go false j l = absurd (omega arith)

-- number j by hours, minutes and seconds, two ways: off the front, or off the back
record Digits (m s j : ℕ) : Type 0 where
  hour : j / (m * s) ≡ j / s / m
  minute : j % (m * s) / s ≡ j / s % m
  second : j % (m * s) % s ≡ j % s

digits : (h m s j : ℕ) → j < h * (m * s) → Digits m s j
digits h zero s j l = absurd (let z : zero * s ≡ 0 = omega arith in let y : h * (zero * s) ≡ 0 = rw z (omega arith) in omega arith)
digits h (suc m) zero j l = absurd (let z : suc m * zero ≡ 0 = omega arith in let y : h * (suc m * zero) ≡ 0 = rw z (omega arith) in omega arith)
digits h (suc m) (suc s) j l =
    let q : 0 < suc m = omega arith in
    let p : 0 < suc s = omega arith in
    let e : j % (suc m * suc s) ≡ j / suc s % suc m * suc s + j % suc s = mod-mul j q p in
    record {
      hour = rw (mul_comm (suc m) (suc s)) (sym (div-div-eq-div-mul j (suc s) (suc m)));
      minute = rw e (digits_div (j / suc s % suc m) (mod-lt j p));
      second = rw e (digits_mod (j / suc s % suc m) (mod-lt j p));
    }

-- each place lies within its list
pub record Places (h m s j : ℕ) : Type 0 where
  pub hour : j / s / m < h
  pub minute : j / s % m < m
  pub second : j % s < s

pub places : (h m s j : ℕ) → j < h * (m * s) → Places h m s j
places h zero s j l = absurd (let z : zero * s ≡ 0 = omega arith in let y : h * (zero * s) ≡ 0 = rw z (omega arith) in omega arith)
places h (suc m) zero j l = absurd (let z : suc m * zero ≡ 0 = omega arith in let y : h * (suc m * zero) ≡ 0 = rw z (omega arith) in omega arith)
places h (suc m) (suc s) j l =
    let p : 0 < suc s = omega arith in
    let q : 0 < suc m = omega arith in
    record {
      hour = rw (← (digits h (suc m) (suc s) j l).hour) ((div-lt_iff_lt-mul (mul-pos q p)).1 l);
      minute = mod-lt (j / suc s) q;
      second = mod-lt j p;
    }

-- The times of a period by its choices: seconds go round first, then minutes, then hours.
module _ (r : Rule) (b : ℕ) where
  abbrev pub hour_choices : List ℕ
  hour_choices = choices (is_below r.freq Frequency.Hourly) 24 (hour_of b) (hour_passes r)

  abbrev pub minute_choices : List ℕ
  minute_choices = choices (is_below r.freq Frequency.Minutely) 60 (minute_of b) (minute_passes r)

  abbrev pub second_choices : List ℕ
  second_choices = choices (is_below r.freq Frequency.Secondly) 60 (second_of b) (second_passes r)

  abbrev second_part : ℕ → ℕ → ℕ → List ℕ
  second_part h m s = (h * 3600 + m * 60 + s) ∷ []

  abbrev minute_part : ℕ → ℕ → List ℕ
  minute_part h m = covered (is_below r.freq Frequency.Secondly) 60 (second_of b) (λ s. only (second_passes r s) (second_part h m s))

  abbrev hour_part : ℕ → List ℕ
  hour_part h = covered (is_below r.freq Frequency.Minutely) 60 (minute_of b) (λ m. only (minute_passes r m) (minute_part h m))

  minute_length : (h m : ℕ) → length (minute_part h m) ≡ length second_choices
  minute_length h m =
      covered_length (is_below r.freq Frequency.Secondly) 60 (second_of b) (second_passes r) (second_part h m) 1 (λ s. refl) ∙ mul-one (length second_choices)

  hour_length : (h : ℕ) → length (hour_part h) ≡ length minute_choices * length second_choices
  hour_length h = covered_length (is_below r.freq Frequency.Minutely) 60 (minute_of b) (minute_passes r) (minute_part h) (length second_choices) (minute_length h)

  pub times_length : length (times r b) ≡ length hour_choices * (length minute_choices * length second_choices)
  unfolding times
  times_length =
      covered_length (is_below r.freq Frequency.Hourly) 24 (hour_of b) (hour_passes r) hour_part (length minute_choices * length second_choices) hour_length

  minute_at : (h m j : ℕ) → j < length second_choices → get_or (minute_part h m) j 0 ≡ h * 3600 + m * 60 + get_or second_choices j 0
  minute_at h m j l =
      let k : j < length second_choices * 1 = omega arith in
      covered_at (is_below r.freq Frequency.Secondly) 60 (second_of b) (second_passes r) (second_part h m) 1 (λ s. refl) j k
      ∙ rw (div-one j, mod-one j)

  hour_at : (h j : ℕ) → j < length minute_choices * length second_choices →
      get_or (hour_part h) j 0 ≡ h * 3600 + get_or minute_choices (j / length second_choices) 0 * 60 + get_or second_choices (j % length second_choices) 0
  hour_at h j l =
      covered_at (is_below r.freq Frequency.Minutely) 60 (minute_of b) (minute_passes r) (minute_part h) (length second_choices) (minute_length h) j l
      ∙ minute_at h _ (j % length second_choices) (within_block (length minute_choices) (length second_choices) j l)

  pub times_at_lem : (j : ℕ) → j < length hour_choices * (length minute_choices * length second_choices) →
      get_or (times r b) j 0
      ≡ get_or hour_choices (j / length second_choices / length minute_choices) 0 * 3600
      + (get_or minute_choices (j / length second_choices % length minute_choices) 0 * 60 + get_or second_choices (j % length second_choices) 0)
  unfolding times
  times_at_lem j l =
      let w : Digits (length minute_choices) (length second_choices) j = digits (length hour_choices) (length minute_choices) (length second_choices) j l in
      covered_at (is_below r.freq Frequency.Hourly) 24 (hour_of b) (hour_passes r) hour_part (length minute_choices * length second_choices) hour_length j l
      ∙ hour_at _ (j % (length minute_choices * length second_choices)) (within_block (length hour_choices) (length minute_choices * length second_choices) j l)
      ∙ rw (w.hour, w.minute, w.second) (let x = get_or hour_choices (j / length second_choices / length minute_choices) 0 in omega arith)

  -- a period has at most the 86,400 times of a day, and each is one of them
  pub times_at_most : length (times r b) ≤ 86400
  times_at_most =
      let h : length hour_choices ≤ 24 = choices_short (is_below r.freq Frequency.Hourly) 24 (hour_of b) (hour_passes r) (omega arith) in
      let m : length minute_choices ≤ 60 = choices_short (is_below r.freq Frequency.Minutely) 60 (minute_of b) (minute_passes r) (omega arith) in
      let s : length second_choices ≤ 60 = choices_short (is_below r.freq Frequency.Secondly) 60 (second_of b) (second_passes r) (omega arith) in
      let p : length minute_choices * length second_choices ≤ 60 * 60 = mul-le-mul m s in
      let q : length hour_choices * (length minute_choices * length second_choices) ≤ 24 * (60 * 60) = mul-le-mul h p in
      omega (arith, times_length)

  pub times_below : (j : ℕ) → j < length (times r b) → get_or (times r b) j 0 < 86400
  times_below j l =
      let k : j < length hour_choices * (length minute_choices * length second_choices) = omega (arith, times_length) in
      let w : Places (length hour_choices) (length minute_choices) (length second_choices) j = places _ _ _ j k in
      let h : get_or hour_choices (j / length second_choices / length minute_choices) 0 < 24
      = choices_below (is_below r.freq Frequency.Hourly) 24 (hour_of b) (hour_passes r) _ (omega arith) w.hour in
      let m : get_or minute_choices (j / length second_choices % length minute_choices) 0 < 60
      = choices_below (is_below r.freq Frequency.Minutely) 60 (minute_of b) (minute_passes r) _ (omega arith) w.minute in
      let s : get_or second_choices (j % length second_choices) 0 < 60
      = choices_below (is_below r.freq Frequency.Secondly) 60 (second_of b) (second_passes r) _ (omega arith) w.second in
      rw (times_at_lem j k) (omega arith)
