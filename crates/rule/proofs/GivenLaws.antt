-- Lists whose entries lie in their ranges and rise are read back from their sets.
-- Assumes nothing.
use Rattle.std.specs.Prelude.{Option, Some, None}
use mathlib.Core.Path.{◌≡◌, refl, ap, sym, ◌∙◌, subst}
use mathlib.Core.Bool.{Bool, true, false, ◌||◌}
use mathlib.Core.List.{List, [], ◌∷◌, map}
use Prim.Native.Nat.{ℕ, zero, suc, ◌+◌, ◌*◌, ◌/◌, ◌%◌, ◌≤◌, ◌<◌}
use native.Mathlib.Omega.{arith}
use lib.Dec.{eqb}
use lib.ListN.{length}
use lib.IntN.{ℤ}
use lib.Signed.{lt_z}
use borrow.Author.Tests.{eqb-true, eqb-false, ne_eqb, ltb-true}
use Rattle.machine.specs.Rising.{Rises}
use Rattle.rule.specs.declared.rrule.Range.{Range}
use Rattle.rule.specs.Lists.{slots, slot_of, nths, weekdays, pair_slot, flags, some_at, set_of}
use Rattle.rule.specs.Raw.{entries, pairs}
use Rattle.rule.specs.Refusals.{some, is_outside, strays, rises_from, rises, pair_below, pairs_rise_from, pairs_rise}
use Rattle.rule.specs.Records.{value_of, slots_from, values}
use Rattle.rule.proofs.SlotLaws.{slot_low, value_of_its_slot, slot_order, halves, pair_order}
use Rattle.rule.proofs.ValueLaws.{nth_at, day_at}

-- neither of two tests passed
pub neither : (a b : Bool) → (a || b) ≡ false → (a ≡ false) × (b ≡ false)
neither true b e = absurd (let z : ◌≡◌ {A = ℕ} 0 1 = cc in omega arith)
neither false b e = (refl, e)

-- the first of two tests passed, and what it opens
passes_on : (a b : Bool) → elim a [ true ↦ b | false ↦ false ] ≡ true → (a ≡ true) × (b ≡ true)
passes_on true b e = (refl, e)
passes_on false b e = absurd (let z : ◌≡◌ {A = ℕ} 0 1 = cc in omega arith)

-- Slots that rise are the slots of their set.
begins : (low : ℕ) (xs : List ℕ) (high : ℕ) → Rises low xs high → low ≤ high
begins low [] high h = h
begins low (x ∷ xs) high h = let l = begins (suc x) xs high h.1 in let k : low ≤ x = h.0 in omega arith

lower : (low a : ℕ) (xs : List ℕ) (high : ℕ) → a ≤ low → Rises low xs high → Rises a xs high
lower low a [] high l h = omega arith
lower low a (x ∷ xs) high l h = let k : low ≤ x = h.0 in (omega arith, h.1)

not_yet : (i low : ℕ) (xs : List ℕ) (high : ℕ) → i < low → Rises low xs high → some_at i (map Some xs) ≡ false
unfolding some_at
not_yet i low [] high l h = refl
not_yet i low (x ∷ xs) high l h =
    let k : low ≤ x = h.0 in
    rw (ne_eqb i x (λ (e : i ≡ x). omega arith)) (not_yet i (suc x) xs high (omega arith) h.1)

slots_back : (f : ℕ → Bool) (n i : ℕ) (xs : List ℕ) → Rises i xs (i + n) → ((k : ℕ) → i ≤ k → f k ≡ some_at k (map Some xs))
    → slots_from i (flags f n i) ≡ xs
unfolding slots_from flags some_at
slots_back f zero i [] h e = refl
slots_back f zero i (x ∷ xs) h e = absurd (let l = begins (suc x) xs (i + 0) h.1 in let k : i ≤ x = h.0 in omega arith)
slots_back f (suc n) i [] h e = rw (e i (omega arith), slots_from) (slots_back f n (i + 1) [] (omega arith) (λ k l. e k (omega arith)))
slots_back f (suc n) i (x ∷ xs) h e = go (eqb i x) refl (slots_back f n (i + 1))
  where
    low : i ≤ x
    low = h.0

    sum : i + suc n ≡ i + 1 + n
    sum = omega arith

    go : (t : Bool) → eqb i x ≡ t
        → ((ys : List ℕ) → Rises (i + 1) ys (i + 1 + n) → ((k : ℕ) → i + 1 ≤ k → f k ≡ some_at k (map Some ys)) → slots_from (i + 1) (flags f n (i + 1)) ≡ ys)
        → slots_from i (f i ∷ flags f n (i + 1)) ≡ x ∷ xs
    go true q again =
        let s : i ≡ x = eqb-true i x q in
        rw (e i (omega arith), q, slots_from)
        (ap (λ (j : ℕ). j ∷ slots_from (i + 1) (flags f n (i + 1))) s
        ∙ ap (λ (l : List ℕ). x ∷ l)
        (again xs (subst (λ (m : ℕ). Rises (i + 1) xs m) sum (lower (suc x) (i + 1) xs (i + suc n) (omega arith) h.1))
        (λ k l. e k (omega arith) ∙ ap (λ (b : Bool). b || some_at k (map Some xs)) (ne_eqb k x (λ (z : k ≡ x). omega arith)))))
    go false q again =
        let d : i < x = let z : i ≡ x → ⊥ = eqb-false i x q in omega arith in
        rw (e i (omega arith), q, not_yet i (suc x) xs (i + suc n) (omega arith) h.1, slots_from)
        (again (x ∷ xs) (omega arith, subst (λ (m : ℕ). Rises (suc x) xs m) sum h.1) (λ k l. e k (omega arith)))

set_back : (n : ℕ) (xs : List ℕ) → Rises 0 xs n → slots_from 0 (set_of n (map Some xs)) ≡ xs
unfolding set_of
set_back n xs h =
    slots_back (λ (i : ℕ). some_at i (map Some xs)) n 0 xs (subst (λ (m : ℕ). Rises 0 xs m) (let z : n ≡ 0 + n = omega arith in z) h) (λ k l. refl)

-- an entry in its range has a slot
pub record Placed (g : Range) (v : ℤ) : Type 0 where
  pub i : ℕ
  pub slot : slot_of g v ≡ Some i

placed : (g : Range) (v : ℤ) → is_outside (slot_of g v) ≡ false → Placed g v
placed g v h = go (slot_of g v) refl h
  where
    go : (e : Option ℕ) → slot_of g v ≡ e → is_outside e ≡ false → Placed g v
    go (Some i) p q = record { i = i; slot = p }
    go None p q = absurd (let z : ◌≡◌ {A = ℕ} 0 1 = cc in omega arith)

-- A list's slots rise from low on, and its entries are their values.
pub record Slotted (g : Range) (low : ℕ) (l : List ℤ) : Type 0 where
  pub at : List ℕ
  pub slots_are : entries g l ≡ map Some at
  pub rise : Rises low at (slots g)
  pub back : map (value_of g) at ≡ l

slotted_next : (g : Range) (x : ℤ) (xs : List ℤ) (low j : ℕ) → low ≤ j → slot_of g x ≡ Some j → Slotted g (suc j) xs → Slotted g low (x ∷ xs)
slotted_next g x xs low j l s t = record {
  at = j ∷ t.at;
  slots_are = rw (s, t.slots_are);
  rise = (l, t.rise);
  back = rw (value_of_its_slot g x j s, t.back);
}

slotted_from : (g : Range) (a : ℤ) (i : ℕ) (l : List ℤ) → slot_of g a ≡ Some i → strays g l ≡ false → rises_from a l ≡ true → Slotted g (suc i) l
unfolding strays some rises_from
slotted_from g a i [] s h r = record { at = []; slots_are = refl; rise = slot_low g a i s; back = refl }
slotted_from g a i (x ∷ xs) s h r =
    let b = neither (is_outside (slot_of g x)) (strays g xs) h in
    let p = placed g x b.0 in
    let c = passes_on (lt_z a x) (rises_from x xs) r in
    slotted_next g x xs (suc i) p.i (ltb-true i p.i (sym (slot_order g a x i p.i s p.slot) ∙ c.0)) p.slot
    (slotted_from g x p.i xs p.slot b.1 c.1)

slotted : (g : Range) (l : List ℤ) → strays g l ≡ false → rises l ≡ true → Slotted g 0 l
unfolding strays some rises
slotted g [] h r = record { at = []; slots_are = refl; rise = omega arith; back = refl }
slotted g (x ∷ xs) h r =
    let b = neither (is_outside (slot_of g x)) (strays g xs) h in
    let p = placed g x b.0 in
    slotted_next g x xs 0 p.i (omega arith) p.slot (slotted_from g x p.i xs p.slot b.1 r)

pub list_back : (g : Range) (l : List ℤ) → strays g l ≡ false → rises l ≡ true → values g (set_of (slots g) (entries g l)) ≡ l
list_back g l h r =
    let t = slotted g l h r in
    ap (λ (es : List (Option ℕ)). values g (set_of (slots g) es)) t.slots_are ∙ ap (map (value_of g)) (set_back (slots g) t.at t.rise) ∙ t.back

-- The same of BYDAY's pairs.
pub record PairPlaced (n w : ℤ) : Type 0 where
  pub i : ℕ
  pub slot : pair_slot n w ≡ Some i

pair_placed : (n w : ℤ) → is_outside (slot_of nths n) ≡ false → is_outside (slot_of weekdays w) ≡ false → PairPlaced n w
unfolding pair_slot
pair_placed n w h k =
    let p = placed nths n h in
    let q = placed weekdays w k in
    record { i = p.i * 7 + q.i; slot = rw (p.slot, q.slot) }

pair_low : (n w : ℤ) (i : ℕ) → pair_slot n w ≡ Some i → i < 749
pair_low n w i e =
    let h = halves n w i e in
    let a : h.a < 107 = slot_low nths n h.a h.first in
    omega (arith, h.slot, h.short)

pair_back : (n w : ℤ) (j : ℕ) → pair_slot n w ≡ Some j → (nth_at j ≡ n) × (day_at j ≡ w)
pair_back n w j e =
    let h = halves n w j e in
    let b : h.b < 7 = h.short in (
      ap (value_of nths) (let d : j / 7 ≡ h.a = omega (arith, h.slot) in d) ∙ value_of_its_slot nths n h.a h.first,
      ap (value_of weekdays) (let d : j % 7 ≡ h.b = omega (arith, h.slot) in d) ∙ value_of_its_slot weekdays w h.b h.second,
    )

pub record Paired (low : ℕ) (ns ws : List ℤ) : Type 0 where
  pub at : List ℕ
  pub slots_are : pairs ns ws ≡ map Some at
  pub rise : Rises low at 749
  pub nths_back : map nth_at at ≡ ns
  pub days_back : map day_at at ≡ ws

paired_next : (n w : ℤ) (ns ws : List ℤ) (low j : ℕ) → low ≤ j → pair_slot n w ≡ Some j → Paired (suc j) ns ws → Paired low (n ∷ ns) (w ∷ ws)
unfolding pairs
paired_next n w ns ws low j l s t = record {
  at = j ∷ t.at;
  slots_are = rw (s, t.slots_are);
  rise = (l, t.rise);
  nths_back = rw ((pair_back n w j s).0, t.nths_back);
  days_back = rw ((pair_back n w j s).1, t.days_back);
}

paired_from : (n w : ℤ) (i : ℕ) (ns ws : List ℤ) → pair_slot n w ≡ Some i → length ns ≡ length ws → strays nths ns ≡ false → strays weekdays ws ≡ false
    → pairs_rise_from n w ns ws ≡ true → Paired (suc i) ns ws
unfolding strays some pairs pairs_rise_from
paired_from n w i [] [] s e h k r = record { at = []; slots_are = refl; rise = pair_low n w i s; nths_back = refl; days_back = refl }
paired_from n w i [] (v ∷ ws) s e h k r = absurd (omega arith)
paired_from n w i (m ∷ ns) [] s e h k r = absurd (omega arith)
paired_from n w i (m ∷ ns) (v ∷ ws) s e h k r =
    let b = neither (is_outside (slot_of nths m)) (strays nths ns) h in
    let d = neither (is_outside (slot_of weekdays v)) (strays weekdays ws) k in
    let p = pair_placed m v b.0 d.0 in
    let c = passes_on (pair_below n w m v) (pairs_rise_from m v ns ws) r in
    paired_next m v ns ws (suc i) p.i (ltb-true i p.i (sym (pair_order n w m v i p.i s p.slot) ∙ c.0)) p.slot
    (paired_from m v p.i ns ws p.slot (omega arith) b.1 d.1 c.1)

paired : (ns ws : List ℤ) → length ns ≡ length ws → strays nths ns ≡ false → strays weekdays ws ≡ false → pairs_rise ns ws ≡ true → Paired 0 ns ws
unfolding strays some pairs pairs_rise
paired [] [] e h k r = record { at = []; slots_are = refl; rise = omega arith; nths_back = refl; days_back = refl }
paired [] (w ∷ ws) e h k r = absurd (omega arith)
paired (n ∷ ns) [] e h k r = absurd (omega arith)
paired (n ∷ ns) (w ∷ ws) e h k r =
    let b = neither (is_outside (slot_of nths n)) (strays nths ns) h in
    let d = neither (is_outside (slot_of weekdays w)) (strays weekdays ws) k in
    let p = pair_placed n w b.0 d.0 in
    paired_next n w ns ws 0 p.i (omega arith) p.slot (paired_from n w p.i ns ws p.slot (omega arith) b.1 d.1 r)

pub pairs_back : (ns ws : List ℤ) → length ns ≡ length ws → strays nths ns ≡ false → strays weekdays ws ≡ false → pairs_rise ns ws ≡ true
    → (map nth_at (slots_from 0 (set_of 749 (pairs ns ws))) ≡ ns) × (map day_at (slots_from 0 (set_of 749 (pairs ns ws))) ≡ ws)
pairs_back ns ws e h k r =
    let t = paired ns ws e h k r in
    let s = ap (λ (es : List (Option ℕ)). slots_from 0 (set_of 749 es)) t.slots_are ∙ set_back 749 t.at t.rise in
    (ap (map nth_at) s ∙ t.nths_back, ap (map day_at) s ∙ t.days_back)
