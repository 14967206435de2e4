-- Slots and values: a value in a range and its slot go back and forth, in the same order.
-- Assumes nothing.
use Rattle.std.specs.Prelude.{if◌then◌else◌, Option, Some, None}
use mathlib.Core.Path.{◌≡◌, refl, ap, sym, ◌∙◌}
use mathlib.Core.Bool.{Bool, true, false, not, ◌&&◌, ◌||◌}
use Prim.Native.Nat.{ℕ, zero, suc, ◌+◌, ◌-◌, ◌*◌, ◌/◌, ◌%◌, ◌≤◌, ◌<◌}
use native.Mathlib.Omega.{arith}
use native.Mathlib.Numerals.{add-one}
use lib.Dec.{leb, ltb}
use lib.IntN.{ℤ, pos, negsuc}
use borrow.Author.Tests.{leb-true, lt-ltb, le-ltb, le-leb, ltb-true, ltb-false}
use Rattle.rule.specs.declared.rrule.Range.{Range}
use Rattle.rule.specs.Lists.{within, zeros, slots, slot_of, nths, weekdays, beside, pair_slot}
use Rattle.rule.specs.Records.{value_of}
use Rattle.rule.specs.Claims.{SlotOfItsValue, ValueOfItsSlot, SlotOrder, PairOrder}

pub record Within (b : Bool) (k i : ℕ) : Type 0 where
  pub holds : b ≡ true
  pub slot : k ≡ i

within_at : (b : Bool) (k i : ℕ) → within b k ≡ Some i → Within b k i
within_at true k i e = record { holds = refl; slot = cc }
within_at false k i e = absurd (let z : ◌≡◌ {A = ℕ} 0 1 = cc in omega arith)

one_zero : (g : Range) → g.zeroin ≡ true → zeros g ≡ 1
one_zero g e = ap (λ (b : Bool). if b then 1 else 0) e

no_zero : (g : Range) → g.zeroin ≡ false → zeros g ≡ 0
no_zero g e = ap (λ (b : Bool). if b then 1 else 0) e

-- what a value's slot is
pub record Below (g : Range) (n i : ℕ) : Type 0 where
  pub fits : suc n ≤ g.negatives
  pub slot : i + suc n ≡ g.negatives

pub record Middle (g : Range) (i : ℕ) : Type 0 where
  pub fits : zeros g ≡ 1
  pub slot : i ≡ g.negatives

pub record Above (g : Range) (n i : ℕ) : Type 0 where
  pub fits : suc n ≤ g.positives
  pub slot : i ≡ g.negatives + zeros g + n

below : (g : Range) (n i : ℕ) → slot_of g (negsuc n) ≡ Some i → Below g n i
unfolding slot_of
below g n i e =
    let w = within_at (leb (suc n) g.negatives) (g.negatives - suc n) i e in
    let h : suc n ≤ g.negatives = leb-true _ _ w.holds in
    record { fits = h; slot = omega (arith, w.slot) }

middle : (g : Range) (i : ℕ) → slot_of g (pos zero) ≡ Some i → Middle g i
unfolding slot_of
middle g i e = let w = within_at g.zeroin g.negatives i e in record { fits = one_zero g w.holds; slot = sym w.slot }

above : (g : Range) (n i : ℕ) → slot_of g (pos (suc n)) ≡ Some i → Above g n i
unfolding slot_of
above g n i e =
    let w = within_at (leb (suc n) g.positives) (g.negatives + zeros g + n) i e in record { fits = leb-true _ _ w.holds; slot = sym w.slot }

-- a value of a range has a slot of it
pub slot_low : (g : Range) (v : ℤ) (i : ℕ) → slot_of g v ≡ Some i → i < slots g
slot_low g (negsuc n) i e = let b = below g n i e in omega arith
slot_low g (pos zero) i e = let b = middle g i e in omega arith
slot_low g (pos (suc n)) i e = let b = above g n i e in omega arith

-- from 0 up, or from 1 up
up_from_zero : (g : Range) (k i : ℕ) → g.zeroin ≡ true → i ≡ g.negatives + k → k ≤ g.positives → slot_of g (pos k) ≡ Some i
unfolding slot_of
up_from_zero g zero i z e h = rw z (ap Some (omega arith))
up_from_zero g (suc k) i z e h = rw (le-leb (suc k) g.positives h) (ap Some (omega (arith, one_zero g z)))

pub slot_of_its_value : SlotOfItsValue
unfolding slot_of
slot_of_its_value g i h = go (ltb i g.negatives) g.zeroin refl refl
  where
    go : (b z : Bool) → ltb i g.negatives ≡ b → g.zeroin ≡ z
        → slot_of g (if b then negsuc (g.negatives - i - 1) else if z then pos (i - g.negatives) else pos (i - g.negatives + 1)) ≡ Some i
    go true z p q =
        let l : i < g.negatives = ltb-true _ _ p in
        rw (le-leb (suc (g.negatives - i - 1)) g.negatives (omega arith)) (ap Some (omega arith))
    go false true p q =
        let l : g.negatives ≤ i = ltb-false _ _ p in
        let o : zeros g ≡ 1 = one_zero g q in
        up_from_zero g (i - g.negatives) i q (omega arith) (omega arith)
    go false false p q =
        let l : g.negatives ≤ i = ltb-false _ _ p in
        let o : zeros g ≡ 0 = no_zero g q in
        rw (add-one, le-leb (suc (i - g.negatives)) g.positives (omega arith)) (ap Some (omega arith))

pub value_of_its_slot : ValueOfItsSlot
value_of_its_slot g (negsuc n) i e =
    let b = below g n i e in
    rw (lt-ltb i g.negatives (omega arith)) (ap negsuc (omega arith))
value_of_its_slot g (pos zero) i e = go g.zeroin refl
  where
    b : Middle g i
    b = middle g i e

    go : (z : Bool) → g.zeroin ≡ z → value_of g i ≡ pos zero
    go true q = rw (le-ltb i g.negatives (omega (arith, b.slot)), q) (ap pos (omega (arith, b.slot)))
    go false q = absurd (omega (arith, no_zero g q, b.fits))
value_of_its_slot g (pos (suc n)) i e = go g.zeroin refl
  where
    b : Above g n i
    b = above g n i e

    go : (z : Bool) → g.zeroin ≡ z → value_of g i ≡ pos (suc n)
    go true q = rw (le-ltb i g.negatives (omega (arith, b.slot)), q) (ap pos (omega (arith, b.slot, one_zero g q)))
    go false q = rw (le-ltb i g.negatives (omega (arith, b.slot)), q) (ap pos (omega (arith, b.slot, no_zero g q)))

-- over numbers alone: the tests of two pairs of numbers in one order agree
one_order : (a b x y : ℕ) → (a < b → x < y) → (b ≤ a → y ≤ x) → ltb x y ≡ ltb a b
one_order a b x y f g = go (ltb a b) refl
  where
    go : (t : Bool) → ltb a b ≡ t → ltb x y ≡ t
    go true e = lt-ltb x y (f (ltb-true a b e))
    go false e = le-ltb x y (g (ltb-false a b e))

pub slot_order : SlotOrder
slot_order g (negsuc m) (negsuc n) i j p q =
    let a = below g m i p in let b = below g n j q in one_order i j n m (λ l. omega arith) (λ l. omega arith)
slot_order g (negsuc m) (pos zero) i j p q = let a = below g m i p in let b = middle g j q in sym (lt-ltb i j (omega arith))
slot_order g (negsuc m) (pos (suc n)) i j p q = let a = below g m i p in let b = above g n j q in sym (lt-ltb i j (omega arith))
slot_order g (pos zero) (negsuc n) i j p q = let a = middle g i p in let b = below g n j q in sym (le-ltb i j (omega arith))
slot_order g (pos (suc m)) (negsuc n) i j p q = let a = above g m i p in let b = below g n j q in sym (le-ltb i j (omega arith))
slot_order g (pos zero) (pos zero) i j p q =
    let a = middle g i p in let b = middle g j q in one_order i j 0 0 (λ l. omega arith) (λ l. omega arith)
slot_order g (pos zero) (pos (suc n)) i j p q =
    let a = middle g i p in let b = above g n j q in one_order i j 0 (suc n) (λ l. omega arith) (λ l. omega arith)
slot_order g (pos (suc m)) (pos zero) i j p q =
    let a = above g m i p in let b = middle g j q in one_order i j (suc m) 0 (λ l. omega arith) (λ l. omega arith)
slot_order g (pos (suc m)) (pos (suc n)) i j p q =
    let a = above g m i p in let b = above g n j q in one_order i j (suc m) (suc n) (λ l. omega arith) (λ l. omega arith)

-- a pair's slot, from those of its halves
pub record Halves (n w : ℤ) (i : ℕ) : Type 0 where
  pub a : ℕ
  pub b : ℕ
  pub first : slot_of nths n ≡ Some a
  pub second : slot_of weekdays w ≡ Some b
  pub short : b < 7
  pub slot : i ≡ a * 7 + b

pub halves : (n w : ℤ) (i : ℕ) → pair_slot n w ≡ Some i → Halves n w i
unfolding pair_slot
halves n w i e = go (slot_of nths n) (slot_of weekdays w) refl refl e
  where
    go : (x y : Option ℕ) → slot_of nths n ≡ x → slot_of weekdays w ≡ y → beside x y ≡ Some i → Halves n w i
    go (Some a) (Some b) p q r =
        record { a = a; b = b; first = p; second = q; short = slot_low weekdays w b q; slot = let z : a * 7 + b ≡ i = cc in sym z }
    go (Some a) None p q r = absurd (let z : ◌≡◌ {A = ℕ} 0 1 = cc in omega arith)
    go None y p q r = absurd (let z : ◌≡◌ {A = ℕ} 0 1 = cc in omega arith)

-- numbers in base 7, by their two digits
by_digits : (a b c d : ℕ) → b < 7 → d < 7 → (ltb a c || (not (ltb c a) && ltb b d)) ≡ ltb (a * 7 + b) (c * 7 + d)
by_digits a b c d h k = go (ltb a c) (ltb c a) refl refl
  where
    go : (s t : Bool) → ltb a c ≡ s → ltb c a ≡ t → (s || (not t && ltb b d)) ≡ ltb (a * 7 + b) (c * 7 + d)
    go true t p q = sym (lt-ltb (a * 7 + b) (c * 7 + d) (omega (arith, ltb-true a c p)))
    go false true p q = sym (le-ltb (a * 7 + b) (c * 7 + d) (omega (arith, ltb-true c a q)))
    go false false p q =
        let e : a ≡ c = omega (arith, ltb-false a c p, ltb-false c a q) in
        one_order (a * 7 + b) (c * 7 + d) b d (λ l. omega arith) (λ l. omega arith)

pub pair_order : PairOrder
pair_order n w m v i j p q =
    let x = halves n w i p in
    let y = halves m v j q in
    rw (
      slot_order nths n m x.a y.a x.first y.first,
      slot_order nths m n y.a x.a y.first x.first,
      slot_order weekdays w v x.b y.b x.second y.second,
    )
    (by_digits x.a x.b y.a y.b x.short y.short
    ∙ ap (λ (k : ℕ). ltb k (y.a * 7 + y.b)) (sym x.slot)
    ∙ ap (λ (k : ℕ). ltb i k) (sym y.slot))

-- the pair of a slot
pub pair_of_its_slot : (i : ℕ) → i < 749 → pair_slot (value_of nths (i / 7)) (value_of weekdays (i % 7)) ≡ Some i
unfolding pair_slot
pair_of_its_slot i h =
    rw (slot_of_its_value nths (i / 7) (omega arith), slot_of_its_value weekdays (i % 7) (omega arith)) (ap Some (omega arith))
