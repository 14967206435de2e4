-- A year is what its number says, and its mask says of each day whether it passes in its own year.
-- Assumes nothing.
use mathlib.Core.Path.{◌≡◌, refl, sym, ap, ◌∙◌}
use mathlib.Core.Bool.{Bool}
use mathlib.Core.List.{List}
use Prim.Native.Nat.{ℕ, ◌+◌, ◌-◌, ◌≤◌, ◌<◌}
use native.Mathlib.Omega.{arith}
use native.Mathlib.Decide.{dec_lt}
use borrow.Author.Tests.{lt-ltb, le-leb}
use Rattle.calendar.specs.Calendar.{year_length, new_year, year_of}
use Rattle.calendar.proofs.Years.{years_follow, same_year, year_of_is}
use Rattle.rule.specs.declared.rrule.Rule.{Rule}
use Rattle.rule.specs.Days.{week1, week_year, week_number, weeks_in, number_passes, week_passes}
use Rattle.weeks.specs.Weeks.{year_info, week_passes_in, mask_at}
use Rattle.weeks.specs.Claims.{YearIs, MaskIs, MaskOfRule}
use Rattle.weeks.proofs.Numbers.{Gap, gap, longest, First, first_week, in_last, in_own, in_next}
use Rattle.weeks.proofs.Masks.{is_asked, mask_at_lem}

pub year_is : YearIs
unfolding year_info
year_is y h = rw (le-leb y 9999 h)

-- The first seven days of the next year have the same week year, whether they count as days of y or of y + 1.
one_week_year : (w y d : ℕ) → w ≤ 6 → 2 ≤ y → new_year (y + 1) ≤ d → d < new_year (y + 1) + 7 → week_year w y d ≡ week_year w (y + 1) d
one_week_year w y d hw hy l u = go (dec_lt d (week1 w (y + 1)))
  where
    this : First w (new_year y) (week1 w y)
    this = first_week w y hw hy

    after : First w (new_year (y + 1 + 1)) (week1 w (y + 1 + 1))
    after = first_week w (y + 1 + 1) hw (omega arith)

    begun : week1 w y ≤ d
    begun = omega (arith, this.high, (gap y (omega arith)).low)

    go : Dec (d < week1 w (y + 1)) → week_year w y d ≡ week_year w (y + 1) d
    go (yes p) = let e : y ≡ y + 1 - 1 = omega arith in in_own w y d begun p ∙ e ∙ sym (in_last w (y + 1) d p)
    go (no p) =
        let h : week1 w (y + 1) ≤ d = omega arith in
        in_next w y d begun h ∙ sym (in_own w (y + 1) d h (omega (arith, after.low, (gap (y + 1) (omega arith)).low)))

in_next_year : (w : ℕ) (s : List Bool) (y d : ℕ) → w ≤ 6 → 2 ≤ y → new_year (y + 1) ≤ d → d < new_year (y + 1) + 7
    → week_passes_in w s y d ≡ week_passes_in w s (y + 1) d
unfolding week_passes_in
in_next_year w s y d hw hy l u = ap (λ (o : ℕ). number_passes s (week_number w o d) (weeks_in w o)) (one_week_year w y d hw hy l u)

pub mask_is : MaskIs
unfolding mask_at
mask_is w s y i z hw hy hz h at =
    mask_at_lem w s y i (omega (arith, longest y)) ∙ rw (is_asked w y hw hy hz, lt-ltb i (year_length y + 7) h) (go (dec_lt (new_year y + i) (new_year (y + 1))))
  where
    follow : new_year (y + 1) ≡ new_year y + year_length y
    follow = years_follow y (omega arith)

    go : Dec (new_year y + i < new_year (y + 1)) → week_passes_in w s y (new_year y + i) ≡ week_passes_in w s z (new_year y + i)
    go (yes p) =
        let e : y ≡ z = same_year (new_year y + i) y z (record { low = omega arith; from = omega arith; to = p }) at in
        ap (λ (x : ℕ). week_passes_in w s x (new_year y + i)) e
    go (no p) =
        let g : Gap (y + 1) = gap (y + 1) (omega arith) in
        let f : new_year (y + 1) ≡ new_year y + year_length y = follow in
        let e : y + 1 ≡ z = same_year (new_year y + i) (y + 1) z (record { low = omega arith; from = omega arith; to = omega arith }) at in
        in_next_year w s y (new_year y + i) hw (omega arith) (omega arith) (omega arith) ∙ ap (λ (x : ℕ). week_passes_in w s x (new_year y + i)) e

-- the rule's own test is the list's
rule_passes : (r : Rule) (y d : ℕ) → week_passes_in r.wkst r.byweekno y d ≡ week_passes r y d
unfolding week_passes_in week_passes
rule_passes r y d = refl

pub mask_of_rule : MaskOfRule
mask_of_rule r y i hw hy hz h =
    mask_is r.wkst r.byweekno y i (year_of (new_year y + i)) hw hy hz h (year_of_is (new_year y + i))
    ∙ rule_passes r (year_of (new_year y + i)) (new_year y + i)
