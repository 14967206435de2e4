-- BYDAY's set in three parts: n below 0, n = 0, n above 0.
-- Assumes nothing.
use mathlib.Core.Path.{◌≡◌, refl, ap, sym, ◌∙◌}
use mathlib.Core.Bool.{Bool, true, false, not, ◌&&◌, ◌||◌, or-false}
use mathlib.Core.List.{List, [], ◌∷◌, ◌++◌, map}
use Prim.Native.Nat.{ℕ, ◌+◌, ◌-◌, ◌/◌, ◌≤◌, ◌<◌}
use native.Mathlib.Omega.{arith}
use lib.ListN.{length, take, drop, take-append-drop, length-drop}
use lib.Seq.{length-take-le, take_all, drop-drop}
use lib.IntN.{ℤ}
use borrow.Author.Tests.{lt-ltb, le-ltb, ne_eqb}
use Rattle.rule.specs.Lists.{is_empty}
use Rattle.rule.specs.Refusals.{some, is_zero, is_nth, some_every, some_nth}
use Rattle.rule.specs.Records.{slots_from, has_every, has_nth}
use Rattle.rule.proofs.ValueLaws.{nth_at, some_never, some_always, some_append}

-- n of a slot is 0 in the middle part and nowhere else
zero_low : (j : ℕ) → j < 371 → is_zero (nth_at j) ≡ false
zero_low j h = rw (lt-ltb (j / 7) 53 (omega arith))

zero_middle : (j : ℕ) → 371 ≤ j → j < 378 → is_zero (nth_at j) ≡ true
zero_middle j h k = let e : j / 7 ≡ 53 = omega arith in rw e

zero_high : (j : ℕ) → 378 ≤ j → is_zero (nth_at j) ≡ false
zero_high j h = rw (le-ltb (j / 7) 53 (omega arith)) (ne_eqb (j / 7 - 53) 0 (λ (e : j / 7 - 53 ≡ 0). omega arith))

module _ (s : List Bool) (sized : length s ≡ 749) where
  in_parts : take 371 s ++ (take 7 (drop 371 s) ++ take 371 (drop 378 s)) ≡ s
  in_parts =
      ap (λ (t : List Bool). take 371 s ++ (take 7 (drop 371 s) ++ t)) (take_all 371 (drop 378 s) (simp length-drop (omega arith)) ∙ sym (drop-drop 7 371 s))
      ∙ ap (λ (t : List Bool). take 371 s ++ t) (take-append-drop 7 (drop 371 s))
      ∙ take-append-drop 371 s

  length_low : length (take 371 s) ≡ 371
  length_low = length-take-le 371 s (omega arith)

  length_middle : length (take 7 (drop 371 s)) ≡ 7
  length_middle = length-take-le 7 (drop 371 s) (simp length-drop (omega arith))

  length_high : length (take 371 (drop 378 s)) ≡ 371
  length_high = length-take-le 371 (drop 378 s) (simp length-drop (omega arith))

  some_in_parts : (p : ℤ → Bool) → some p (map nth_at (slots_from 0 s))
      ≡ (some p (map nth_at (slots_from 0 (take 371 s)))
      || (some p (map nth_at (slots_from 371 (take 7 (drop 371 s)))) || some p (map nth_at (slots_from 378 (take 371 (drop 378 s))))))
  some_in_parts p =
      ap (λ (t : List Bool). some p (map nth_at (slots_from 0 t))) (sym in_parts)
      ∙ some_append p nth_at 0 (take 371 s) (take 7 (drop 371 s) ++ take 371 (drop 378 s))
      ∙ ap (λ (i : ℕ). low || some p (map nth_at (slots_from (0 + i) (take 7 (drop 371 s) ++ take 371 (drop 378 s))))) length_low
      ∙ ap (λ (b : Bool). low || b) (some_append p nth_at 371 (take 7 (drop 371 s)) (take 371 (drop 378 s)))
      ∙ ap (λ (i : ℕ). low || (middle || some p (map nth_at (slots_from (371 + i) (take 371 (drop 378 s)))))) length_middle
    where
      low : Bool
      low = some p (map nth_at (slots_from 0 (take 371 s)))

      middle : Bool
      middle = some p (map nth_at (slots_from 371 (take 7 (drop 371 s))))

  pub every_is : some_every (map nth_at (slots_from 0 s)) ≡ has_every s
  unfolding some_every has_every
  every_is =
      some_in_parts is_zero
      ∙ rw (
        some_never is_zero nth_at 371 0 (take 371 s) (omega (arith, length_low)) (λ j a b. zero_low j b),
        some_always is_zero nth_at 378 371 (take 7 (drop 371 s)) (omega (arith, length_middle)) zero_middle,
        some_never is_zero nth_at 749 378 (take 371 (drop 378 s)) (omega (arith, length_high)) (λ j a b. zero_high j a),
      )
      (or-false _)

  pub nth_is : some_nth (map nth_at (slots_from 0 s)) ≡ has_nth s
  unfolding some_nth has_nth
  nth_is =
      some_in_parts is_nth
      ∙ rw (
        some_always is_nth nth_at 371 0 (take 371 s) (omega (arith, length_low)) (λ j a b. ap not (zero_low j b)),
        some_never is_nth nth_at 378 371 (take 7 (drop 371 s)) (omega (arith, length_middle)) (λ j a b. ap not (zero_middle j a b)),
        some_always is_nth nth_at 749 378 (take 371 (drop 378 s)) (omega (arith, length_high)) (λ j a b. ap not (zero_high j a)),
      )

-- a set is empty where its parts are
pub empty_append : (s t : List Bool) → is_empty (s ++ t) ≡ (is_empty s && is_empty t)
unfolding is_empty
empty_append [] t = refl
empty_append (true ∷ bs) t = refl
empty_append (false ∷ bs) t = empty_append bs t

pub empty_in_parts : (s : List Bool) → length s ≡ 749 → not (has_every s || has_nth s) ≡ is_empty s
unfolding has_every has_nth
empty_in_parts s sized =
    by_parts (is_empty (take 371 s)) (is_empty (take 7 (drop 371 s))) (is_empty (take 371 (drop 378 s)))
    ∙ sym (
    ap is_empty (sym (in_parts s sized))
    ∙ empty_append (take 371 s) (take 7 (drop 371 s) ++ take 371 (drop 378 s))
    ∙ ap (λ (b : Bool). is_empty (take 371 s) && b) (empty_append (take 7 (drop 371 s)) (take 371 (drop 378 s)))
    )
  where
    by_parts : (a b c : Bool) → not (not b || (not a || not c)) ≡ (a && (b && c))
    by_parts true true true = refl
    by_parts true true false = refl
    by_parts true false c = refl
    by_parts false true c = refl
    by_parts false false c = refl
