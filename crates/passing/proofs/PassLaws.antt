-- Days that are passed at one go: a law for each branch of the loop, and that the walk comes to the same.
-- Assumes nothing.
use Prim.Native.Nat.{ℕ, suc, ◌+◌, ◌-◌, ◌*◌, ◌/◌, ◌%◌, ◌≤◌, ◌<◌}
use mathlib.Core.Path.{◌≡◌, refl, sym, ◌∙◌}
use mathlib.Core.Bool.{Bool, true, false}
use mathlib.Core.List.{List}
use lib.Dec.{eqb}
use mir.Syntax.{w32}
use mir.Val.{Fits}
use native.Mathlib.Nat.{suc-mul, mul-le-mul, div-mul-le_self, mod-eq-sub-div-mul}
use native.Mathlib.Omega.{arith}
use borrow.Author.Tests.{eq-eqb, ne_eqb, eqb-true, eqb-false}
use Rattle.walks.specs.declared.rrule_iter.Held.{Held}
use Rattle.walks.specs.declared.rrule_iter.Bounds.{Bounds}
use Rattle.walks.specs.declared.rrule_iter.Frame.{Frame}
use Rattle.walks.specs.Walks.{is_framed}
use Rattle.passing.specs.Passing.{is_passed, last_of, passable, held_at, passed_days}
use Rattle.walks.proofs.SecondLaws.{next_day_lem}

-- a test and its outcome
by_test : {A : Type 0} (t : Bool) → (t ≡ true → A) → (t ≡ false → A) → A
by_test true f g = f refl
by_test false f g = g refl

-- a day on, the place still fits
pub day_on_fits : (n d t p : ℕ) → n ≤ 373 → t < 131072 → d < n → p ≡ d * t → Fits w32 (p + t)
day_on_fits n d t p a b h e =
    let c : d + 1 ≤ 373 = omega arith in
    let l : t ≤ 131072 = omega arith in
    let m : (d + 1) * t ≤ 373 * 131072 = mul-le-mul c l in
    record { fits = omega (arith, next_day_lem d t) }

-- the place is at a day's beginning, by the quotient and by what is left
at_beginning : (p d t : ℕ) → d ≡ p / t → eqb (d * t) p ≡ eqb (p % t) 0
at_beginning p d t e =
    let l : p / t * t ≤ p = div-mul-le_self p t in
    let m : p % t ≡ p - p / t * t = mod-eq-sub-div-mul p t in
    rw e
    (by_test (eqb (p / t * t) p)
    (λ (q : eqb (p / t * t) p ≡ true).
    let a : p / t * t ≡ p = eqb-true _ _ q in
    let z : p % t ≡ 0 = omega arith in
    q ∙ sym (eq-eqb (p % t) 0 z))
    (λ (q : eqb (p / t * t) p ≡ false).
    let a : p / t * t ≡ p → ⊥ = eqb-false _ _ q in
    q ∙ sym (ne_eqb (p % t) 0 (λ (z : p % t ≡ 0). a (omega arith)))))

-- where the buffer is full, none is passed
pub full_passes_none : (full : Bool) (f : Frame) (b : Bounds) (h : Held) (days : List ℕ) → full ≡ true → h ≡ passed_days full f b h days
unfolding passed_days
full_passes_none full f b h days t = rw (t, passed_days)

-- nor where a sum could wrap
pub unframed_passes_none : (full : Bool) (f : Frame) (b : Bounds) (h : Held) (days : List ℕ) → full ≡ false → is_framed f ≡ false
    → h ≡ passed_days full f b h days
unfolding passed_days
unframed_passes_none full f b h days t g = rw (t, g, passed_days)

-- where the days from number d on lead, of n in all
unfoldable pub Leads : Bounds → Frame → List ℕ → (n d place : ℕ) → ℕ
Leads b f days n d place = place + passable b f days d (n - d) * f.times

module _ (full : Bool) (f : Frame) (b : Bounds) (h : Held) (days : List ℕ) (d : ℕ) (e : d ≡ h.cursor.place / f.times) (t : full ≡ false)
    (g : is_framed f ≡ true) where
  pub none_passed : (d * f.times ≡ h.cursor.place → ⊥) → passed_days full f b h days ≡ h
  unfolding passed_days
  none_passed q =
      let z : eqb (h.cursor.place % f.times) 0 ≡ false = sym (at_beginning h.cursor.place d f.times e) ∙ ne_eqb _ _ q in
      rw (t, g, z, passed_days)

  pub days_passed : d * f.times ≡ h.cursor.place → passed_days full f b h days ≡ held_at h (Leads b f days f.days d h.cursor.place)
  unfolding passed_days Leads
  days_passed q =
      let z : eqb (h.cursor.place % f.times) 0 ≡ true = sym (at_beginning h.cursor.place d f.times e) ∙ eq-eqb _ _ q in
      rw (t, g, z, passed_days, e)

module _ (b : Bounds) (f : Frame) (days : List ℕ) (n d place : ℕ) where
  pub leads_on : d < n → is_passed b (last_of f days d) ≡ true → Leads b f days n d place ≡ Leads b f days n (d + 1) (place + f.times)
  unfolding Leads passable
  leads_on h e =
      let s : n - d ≡ suc (n - (d + 1)) = omega arith in
      rw (s, e, passable) (omega (arith, suc-mul (passable b f days (d + 1) (n - (d + 1))) f.times))

  pub leads_off : d < n → is_passed b (last_of f days d) ≡ false → Leads b f days n d place ≡ place
  unfolding Leads passable
  leads_off h e =
      let s : n - d ≡ suc (n - (d + 1)) = omega arith in
      rw (s, e, passable) (omega arith)

  pub leads_over : n ≤ d → Leads b f days n d place ≡ place
  unfolding Leads passable
  leads_over h =
      let s : n - d ≡ 0 = omega arith in
      rw s (omega arith)
