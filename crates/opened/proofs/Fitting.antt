-- A cursor fits its period, which is opened, exactly where it is well formed.
-- Assumes nothing.
use Rattle.std.specs.Prelude.{if◌then◌else◌}
use Prim.Native.Nat.{ℕ, ◌+◌, ◌-◌, ◌≤◌, ◌<◌}
use mathlib.Core.Path.{◌≡◌, refl, sym, ap, ◌∙◌}
use mathlib.Core.Bool.{Bool, true, false, ◌&&◌}
use mathlib.Core.List.{List}
use native.Mathlib.Omega.{arith}
use lib.Dec.{leb, ltb}
use lib.ListN.{length, get_or, get_or-eq_default}
use borrow.Author.Tests.{le-leb, lt-leb, ltb-true, ltb-false}
use Rattle.machine.specs.declared.Cursor.{Cursor}
use Rattle.machine.specs.Given.{below}
use Rattle.machine.specs.Cursors.{poised}
use Rattle.rule.specs.declared.rrule.Rule.{Rule}
use Rattle.rule.specs.Instants.{second}
use Rattle.rule.specs.Periods.{period, in_range}
use Rattle.rule.specs.Candidates.{kept}
use Rattle.rule.specs.Run.{count_of, periods}
use Rattle.periods.specs.Counters.{counter_at}
use Rattle.clocks.specs.Clocks.{sets_in}
use Rattle.walks.specs.declared.rrule_iter.Frame.{Frame}
use Rattle.walks.specs.Walks.{Framed, second_at, candidate_at, second_chosen, tabled}
use Rattle.walks.proofs.Walkable.{candidate_told}
use Rattle.opening.specs.declared.period.Period.{Period}
use Rattle.opening.specs.Opening.{second_kept}
use Rattle.opened.specs.Opened.{span_of, is_positioned}
use Rattle.fitting.specs.Fitting.{end_in, candidate_of, next_of, fits_period, is_fit}
use Rattle.plans.specs.Plans.{bounds_of, shape_of}
use Rattle.units.proofs.Units.{few_ticks}
use Rattle.opened.proofs.Spans.{tick_below, ends_are, span_to_high}
use Rattle.opened.proofs.Tables.{tabled_at}
use Rattle.opened.proofs.Yielded.{Good}

-- kept number i is the candidate of its number
kept_second : (p : Bool) (f : Frame) (days lists places : List ℕ) (i : ℕ) → second_kept p f days lists places i ≡ second_at f days lists (candidate_of p places i)
unfolding second_kept second_chosen
kept_second true f days lists places i = refl
kept_second false f days lists places i = refl

module _ (r : Rule) (fit : Good r) (k : ℕ) (inside : in_range r k ≡ true) (p : Period) (days places : List ℕ)
    (told : kept r k ≡ tabled (second_kept (is_positioned r) p.frame days (sets_in r).lists places) 0 p.kept)
    (counted : length (kept r k) ≡ p.kept) (framed : Framed p.frame) where
  -- the first second after the period
  end_is : end_in r.freq (span_of r k).to (counter_at r k).tick ≡ (period r k).ends
  unfolding end_in
  end_is =
      let t : (counter_at r k).tick < 86400 = omega (arith, tick_below r k, few_ticks r.freq) in
      let o : (span_of r k).to < 4194304 = omega (arith, span_to_high r fit k inside) in
      rw (lt-leb 4194304 (span_of r k).to o, lt-leb 86400 (counter_at r k).tick t) (sym (ends_are r fit k inside))

  abbrev kept_number : ℕ → ℕ
  kept_number = second_kept (is_positioned r) p.frame days (sets_in r).lists places

  -- what comes next
  next_is : (i e : ℕ) → next_of (is_positioned r) p e i days (sets_in r).lists places ≡ get_or (kept r k) i e
  unfolding next_of
  next_is i e = go (ltb i p.kept) refl
    where
      go : (b : Bool) → ltb i p.kept ≡ b
          → (if b then candidate_at p.frame days (sets_in r).lists (candidate_of (is_positioned r) places i) else e) ≡ get_or (kept r k) i e
      go true h =
          let z : 0 + i ≡ i = omega arith in
          candidate_told p.frame days (sets_in r).lists (candidate_of (is_positioned r) places i) framed
          ∙ sym (
          ap (λ (l : List ℕ). get_or l i e) told
          ∙ tabled_at kept_number 0 p.kept i e (ltb-true _ _ h)
          ∙ ap kept_number z
          ∙ kept_second (is_positioned r) p.frame days (sets_in r).lists places i
          )
      go false h = sym (get_or-eq_default (kept r k) e {n = i} (let l : p.kept ≤ i = ltb-false _ _ h in omega (arith, counted)))

  -- so the test is the test of a cursor
  fitting : (c : Cursor) → is_fit (shape_of r) (span_of r k) (counter_at r k).tick (bounds_of r) p c days (sets_in r).lists places
      ≡ (leb c.place (length (kept r k))
      && (below (count_of r.count) c.number && leb c.number (get_or (kept r k) c.place (period r k).ends - second r.start)))
  unfolding is_fit fits_period shape_of bounds_of
  fitting c =
      ap (λ (e : ℕ). test p.kept (next_of (is_positioned r) p e c.place days (sets_in r).lists places)) end_is
      ∙ ap (test p.kept) (next_is c.place (period r k).ends)
      ∙ ap (λ (m : ℕ). test m (get_or (kept r k) c.place (period r k).ends)) (sym counted)
    where
      test : ℕ → ℕ → Bool
      test m next = leb c.place m && (below (count_of r.count) c.number && leb c.number (next - second r.start))

  pub fit_poised : 1 ≤ r.interval → (c : Cursor) → c.k ≡ k
      → is_fit (shape_of r) (span_of r k) (counter_at r k).tick (bounds_of r) p c days (sets_in r).lists places ≡ poised (periods r) c
  unfolding periods
  fit_poised one c e = fitting c ∙ rw (e, inside, le-leb 1 r.interval one)
