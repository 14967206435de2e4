-- A frame of which no sum wraps: the test in words, and what its candidates then are.
-- Assumes nothing.
use Prim.Native.Nat.{ℕ, ◌%◌, ◌≤◌, ◌<◌}
use mathlib.Core.Path.{◌≡◌, ap}
use mathlib.Core.Bool.{true}
use mathlib.Core.List.{List}
use lib.Dec.{leb, ltb}
use native.Mathlib.Nat.{mod-eq_of_lt}
use native.Mathlib.Omega.{arith}
use borrow.Author.Tests.{leb-true, le-leb, ltb-true, lt-ltb}
use Rattle.rule.proofs.FillLaws.{both}
use Rattle.walks.specs.declared.rrule_iter.Frame.{Frame}
use Rattle.walks.specs.Walks.{is_framed, Framed, in_year, second_at, candidate_at}

-- a frame that passes the test
pub record Small (f : Frame) : Type 0 where
  pub days : f.days ≤ 373
  pub times : f.times < 131072
  pub first : f.first < 4194304

pub framed_told : (f : Frame) → is_framed f ≡ true → Small f
unfolding is_framed
framed_told f e =
    let p = both (leb f.days 373) _ e in
    let q = both (ltb f.times 131072) _ p.1 in
    record { days = leb-true _ _ p.0; times = ltb-true _ _ q.0; first = ltb-true _ _ q.1 }

pub is_framed_lem : (f : Frame) → Framed f → is_framed f ≡ true
unfolding is_framed
is_framed_lem f w = rw (le-leb _ _ w.days, lt-ltb f.times 131072 (omega (arith, w.times)), lt-ltb f.first 4194304 (omega (arith, w.first)))

-- and of such a frame the candidate of any number is told
pub candidate_told : (f : Frame) (days lists : List ℕ) (j : ℕ) → Framed f → candidate_at f days lists j ≡ second_at f days lists j
unfolding candidate_at
candidate_told f days lists j w = rw (is_framed_lem f w, candidate_at)

-- its year's first day has no more than 32 bits
pub year_kept : (f : Frame) (days lists : List ℕ) (j : ℕ) → is_framed f ≡ true
    → second_at (in_year f (f.first % 4294967296)) days lists j ≡ second_at f days lists j
year_kept f days lists j e =
    let p = framed_told f e in
    let l : f.first < 4294967296 = omega (arith, p.first) in
    ap (λ (x : ℕ). second_at (in_year f x) days lists j) (mod-eq_of_lt l)
