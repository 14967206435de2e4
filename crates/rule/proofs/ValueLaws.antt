-- The values of a set: they lie in their range and rise strictly, and their set is the set again.
-- Assumes nothing.
use Rattle.std.specs.Prelude.{Option, Some}
use mathlib.Core.Path.{◌≡◌, refl, ap, sym, ◌∙◌}
use mathlib.Core.Bool.{Bool, true, false, not, ◌||◌, or_assoc}
use mathlib.Core.List.{List, [], ◌∷◌, ◌++◌, map}
use Prim.Native.Nat.{ℕ, zero, suc, ◌+◌, ◌/◌, ◌%◌, ◌≤◌, ◌<◌}
use native.Mathlib.Omega.{arith}
use native.Mathlib.Nat.{add-zero, zero-add}
use lib.ListN.{length, get_or}
use lib.Seq.{ext_get_or}
use lib.IntN.{ℤ}
use lib.Signed.{lt_z}
use borrow.Author.Tests.{lt-ltb, eq-eqb, ne_eqb}
use Rattle.rule.specs.declared.rrule.Range.{Range}
use Rattle.rule.specs.Lists.{slots, slot_of, nths, weekdays, pair_slot, is_empty, flags, some_at, set_of}
use Rattle.rule.specs.Raw.{entries, pairs}
use Rattle.rule.specs.Refusals.{lacks, some, is_outside, strays, rises_from, rises, pair_below, pairs_rise_from, pairs_rise}
use Rattle.rule.specs.Records.{value_of, slots_from, values}
use Rattle.rule.proofs.SetLaws.{flags_at_lem}
use Rattle.rule.proofs.SlotLaws.{slot_of_its_value, slot_order, pair_order, pair_of_its_slot}

-- a list read off the slots of a set, by a function of the slot: it is empty where the set is
pub lacks_values : (f : ℕ → ℤ) (i : ℕ) (s : List Bool) → lacks (map f (slots_from i s)) ≡ is_empty s
unfolding slots_from is_empty
lacks_values f i [] = refl
lacks_values f i (true ∷ bs) = refl
lacks_values f i (false ∷ bs) = lacks_values f (i + 1) bs

-- some entry passes a test: none, where no slot's does; one, where all do
pub some_never : (p : ℤ → Bool) (f : ℕ → ℤ) (n i : ℕ) (s : List Bool) → i + length s ≤ n → ((j : ℕ) → i ≤ j → j < n → p (f j) ≡ false)
    → some p (map f (slots_from i s)) ≡ false
unfolding slots_from some
some_never p f n i [] h e = refl
some_never p f n i (true ∷ bs) h e = rw (e i (omega arith) (omega arith)) (some_never p f n (i + 1) bs (omega arith) (λ j a b. e j (omega arith) b))
some_never p f n i (false ∷ bs) h e = some_never p f n (i + 1) bs (omega arith) (λ j a b. e j (omega arith) b)

pub some_always : (p : ℤ → Bool) (f : ℕ → ℤ) (n i : ℕ) (s : List Bool) → i + length s ≤ n → ((j : ℕ) → i ≤ j → j < n → p (f j) ≡ true)
    → some p (map f (slots_from i s)) ≡ not (is_empty s)
unfolding slots_from some is_empty
some_always p f n i [] h e = refl
some_always p f n i (true ∷ bs) h e = rw (e i (omega arith) (omega arith))
some_always p f n i (false ∷ bs) h e = some_always p f n (i + 1) bs (omega arith) (λ j a b. e j (omega arith) b)

pub some_append : (p : ℤ → Bool) (f : ℕ → ℤ) (i : ℕ) (s t : List Bool)
    → some p (map f (slots_from i (s ++ t))) ≡ (some p (map f (slots_from i s)) || some p (map f (slots_from (i + length s) t)))
unfolding slots_from some
some_append p f i [] t = ap (λ (k : ℕ). some p (map f (slots_from k t))) (sym (add-zero i))
some_append p f i (true ∷ bs) t =
    let k : i + 1 + length bs ≡ i + suc (length bs) = omega arith in
    ap (λ (b : Bool). p (f i) || b) (some_append p f (i + 1) bs t ∙ ap (λ (k : ℕ). some p (map f (slots_from (i + 1) bs)) || some p (map f (slots_from k t))) k)
    ∙ sym (or_assoc (p (f i)) (some p (map f (slots_from (i + 1) bs))) (some p (map f (slots_from (i + suc (length bs)) t))))
some_append p f i (false ∷ bs) t =
    let k : i + 1 + length bs ≡ i + suc (length bs) = omega arith in
    some_append p f (i + 1) bs t ∙ ap (λ (k : ℕ). some p (map f (slots_from (i + 1) bs)) || some p (map f (slots_from k t))) k

-- a list rises where its function of the slot does, from a slot a before its own
rises_after : (f : ℕ → ℤ) (n a i : ℕ) (s : List Bool) → a < i → i + length s ≤ n → ((j k : ℕ) → j < k → k < n → lt_z (f j) (f k) ≡ true)
    → rises_from (f a) (map f (slots_from i s)) ≡ true
unfolding slots_from rises_from
rises_after f n a i [] l h e = refl
rises_after f n a i (true ∷ bs) l h e = rw (e a i l (omega arith), rises_from) (rises_after f n i (i + 1) bs (omega arith) (omega arith) e)
rises_after f n a i (false ∷ bs) l h e = rises_after f n a (i + 1) bs (omega arith) (omega arith) e

rises_by : (f : ℕ → ℤ) (n i : ℕ) (s : List Bool) → i + length s ≤ n → ((j k : ℕ) → j < k → k < n → lt_z (f j) (f k) ≡ true)
    → rises (map f (slots_from i s)) ≡ true
unfolding slots_from rises
rises_by f n i [] h e = refl
rises_by f n i (true ∷ bs) h e = rises_after f n i (i + 1) bs (omega arith) (omega arith) e
rises_by f n i (false ∷ bs) h e = rises_by f n (i + 1) bs (omega arith) e

pairs_after : (f g : ℕ → ℤ) (n a i : ℕ) (s : List Bool) → a < i → i + length s ≤ n → ((j k : ℕ) → j < k → k < n → pair_below (f j) (g j) (f k) (g k) ≡ true)
    → pairs_rise_from (f a) (g a) (map f (slots_from i s)) (map g (slots_from i s)) ≡ true
unfolding slots_from pairs_rise_from
pairs_after f g n a i [] l h e = refl
pairs_after f g n a i (true ∷ bs) l h e = rw (e a i l (omega arith), pairs_rise_from) (pairs_after f g n i (i + 1) bs (omega arith) (omega arith) e)
pairs_after f g n a i (false ∷ bs) l h e = pairs_after f g n a (i + 1) bs (omega arith) (omega arith) e

pairs_by : (f g : ℕ → ℤ) (n i : ℕ) (s : List Bool) → i + length s ≤ n → ((j k : ℕ) → j < k → k < n → pair_below (f j) (g j) (f k) (g k) ≡ true)
    → pairs_rise (map f (slots_from i s)) (map g (slots_from i s)) ≡ true
unfolding slots_from pairs_rise
pairs_by f g n i [] h e = refl
pairs_by f g n i (true ∷ bs) h e = pairs_after f g n i (i + 1) bs (omega arith) (omega arith) e
pairs_by f g n i (false ∷ bs) h e = pairs_by f g n (i + 1) bs (omega arith) e

-- the slots of the values are the slots
entries_by : (f : ℕ → ℤ) (g : Range) (n i : ℕ) (s : List Bool) → i + length s ≤ n → ((j : ℕ) → j < n → slot_of g (f j) ≡ Some j)
    → entries g (map f (slots_from i s)) ≡ map Some (slots_from i s)
unfolding slots_from
entries_by f g n i [] h e = refl
entries_by f g n i (true ∷ bs) h e = rw (e i (omega arith), entries_by f g n (i + 1) bs (omega arith) e)
entries_by f g n i (false ∷ bs) h e = entries_by f g n (i + 1) bs (omega arith) e

pairs_are : (f g : ℕ → ℤ) (n i : ℕ) (s : List Bool) → i + length s ≤ n → ((j : ℕ) → j < n → pair_slot (f j) (g j) ≡ Some j)
    → pairs (map f (slots_from i s)) (map g (slots_from i s)) ≡ map Some (slots_from i s)
unfolding slots_from pairs
pairs_are f g n i [] h e = refl
pairs_are f g n i (true ∷ bs) h e = rw (e i (omega arith), pairs_are f g n (i + 1) bs (omega arith) e)
pairs_are f g n i (false ∷ bs) h e = pairs_are f g n (i + 1) bs (omega arith) e

-- and their set is the set
before_all : (k i : ℕ) (s : List Bool) → k < i → some_at k (map Some (slots_from i s)) ≡ false
unfolding slots_from some_at
before_all k i [] h = refl
before_all k i (true ∷ bs) h = rw (ne_eqb k i (λ (e : k ≡ i). omega arith)) (before_all k (i + 1) bs (omega arith))
before_all k i (false ∷ bs) h = before_all k (i + 1) bs (omega arith)

at_flag : (i k : ℕ) (s : List Bool) → some_at (i + k) (map Some (slots_from i s)) ≡ get_or s k false
unfolding slots_from some_at
at_flag i k [] = refl
at_flag i zero (true ∷ bs) = rw (eq-eqb (i + 0) i (omega arith))
at_flag i zero (false ∷ bs) = before_all (i + 0) (i + 1) bs (omega arith)
at_flag i (suc k) (true ∷ bs) =
    rw (ne_eqb (i + suc k) i (λ (e : i + suc k ≡ i). omega arith))
    (ap (λ (j : ℕ). some_at j (map Some (slots_from (i + 1) bs))) (let e : i + suc k ≡ i + 1 + k = omega arith in e) ∙ at_flag (i + 1) k bs)
at_flag i (suc k) (false ∷ bs) =
    ap (λ (j : ℕ). some_at j (map Some (slots_from (i + 1) bs))) (let e : i + suc k ≡ i + 1 + k = omega arith in e) ∙ at_flag (i + 1) k bs

length_flags : (f : ℕ → Bool) (n i : ℕ) → length (flags f n i) ≡ n
unfolding flags
length_flags f zero i = refl
length_flags f (suc n) i = ap suc (length_flags f n (i + 1))

pub length_set_of : (n : ℕ) (es : List (Option ℕ)) → length (set_of n es) ≡ n
unfolding set_of
length_set_of n es = length_flags (λ (i : ℕ). some_at i es) n 0

pub set_of_at : (n : ℕ) (es : List (Option ℕ)) (k : ℕ) → k < n → get_or (set_of n es) k false ≡ some_at k es
unfolding set_of
set_of_at n es k h = flags_at_lem (λ (i : ℕ). some_at i es) n k h

same_set : (n : ℕ) (s : List Bool) → length s ≡ n → set_of n (map Some (slots_from 0 s)) ≡ s
same_set n s l =
    ext_get_or false (set_of n (map Some (slots_from 0 s))) s (length_set_of n (map Some (slots_from 0 s)) ∙ sym l)
    (λ k h. at k (let e : length (set_of n (map Some (slots_from 0 s))) ≡ n = length_set_of n (map Some (slots_from 0 s)) in omega arith))
  where
    at : (k : ℕ) → k < n → get_or (set_of n (map Some (slots_from 0 s))) k false ≡ get_or s k false
    at k h =
        set_of_at n (map Some (slots_from 0 s)) k h
        ∙ ap (λ (j : ℕ). some_at j (map Some (slots_from 0 s))) (sym (zero-add k))
        ∙ at_flag 0 k s

-- of a set with a flag for each slot of a range
module _ (g : Range) (s : List Bool) (sized : length s ≡ slots g) where
  pub values_stay : strays g (values g s) ≡ false
  unfolding strays
  values_stay =
      some_never (λ (v : ℤ). is_outside (slot_of g v)) (value_of g) (slots g) 0 s (omega arith) (λ j a b. ap is_outside (slot_of_its_value g j b))

  pub values_rise : rises (values g s) ≡ true
  values_rise =
      rises_by (value_of g) (slots g) 0 s (omega arith)
      (λ j k l h. slot_order g (value_of g j) (value_of g k) j k (slot_of_its_value g j (omega arith)) (slot_of_its_value g k h) ∙ lt-ltb j k l)

  pub values_set : set_of (slots g) (entries g (values g s)) ≡ s
  values_set =
      ap (set_of (slots g)) (entries_by (value_of g) g (slots g) 0 s (omega arith) (slot_of_its_value g)) ∙ same_set (slots g) s sized

-- of BYDAY's set
abbrev pub nth_at : ℕ → ℤ
nth_at i = value_of nths (i / 7)

abbrev pub day_at : ℕ → ℤ
day_at i = value_of weekdays (i % 7)

module _ (s : List Bool) (sized : length s ≡ 749) where
  pub nths_stay : strays nths (map nth_at (slots_from 0 s)) ≡ false
  unfolding strays
  nths_stay =
      some_never (λ (v : ℤ). is_outside (slot_of nths v)) nth_at 749 0 s (omega arith)
      (λ j a b. ap is_outside (slot_of_its_value nths (j / 7) (omega arith)))

  pub days_stay : strays weekdays (map day_at (slots_from 0 s)) ≡ false
  unfolding strays
  days_stay =
      some_never (λ (v : ℤ). is_outside (slot_of weekdays v)) day_at 749 0 s (omega arith)
      (λ j a b. ap is_outside (slot_of_its_value weekdays (j % 7) (omega arith)))

  pub pairs_rise_lem : pairs_rise (map nth_at (slots_from 0 s)) (map day_at (slots_from 0 s)) ≡ true
  pairs_rise_lem =
      pairs_by nth_at day_at 749 0 s (omega arith)
      (λ j k l h. pair_order (nth_at j) (day_at j) (nth_at k) (day_at k) j k (pair_of_its_slot j (omega arith)) (pair_of_its_slot k h) ∙ lt-ltb j k l)

  pub pairs_set : set_of 749 (pairs (map nth_at (slots_from 0 s)) (map day_at (slots_from 0 s))) ≡ s
  pairs_set = ap (set_of 749) (pairs_are nth_at day_at 749 0 s (omega arith) pair_of_its_slot) ∙ same_set 749 s sized
