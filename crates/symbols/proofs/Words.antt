-- A word of a table is found, or its longest beginning.
-- Assumes nothing.
use Rattle.std.specs.Prelude.{Option, Some, None, is_some, unwrap_or}
use Prim.Native.Nat.{ℕ, zero, suc, ◌+◌, ◌≤◌, ◌<◌}
use native.Mathlib.Nat.{eq-or-lt_of_le}
use native.Mathlib.Omega.{arith}
use mathlib.Core.Path.{◌≡◌, refl, sym, ap, ◌∙◌, subst}
use mathlib.Core.Logic.{◌⊎◌, inl, inr, ⊎_elim}
use mathlib.Core.Bool.{Bool, true, false}
use mathlib.Core.List.{List, [], ◌∷◌, ◌++◌, map, append_assoc, append-nil}
use lib.ListN.{length, take, drop, length-append, length-map, take-append-drop}
use lib.Dec.{eqb, ltb}
use lib.Seq.{drop-append_seam, length-take-le, take-length}
use borrow.Author.Tests.{eqb-true, eqb-false, ltb-true, ltb-false}
use Rattle.symbols.specs.Languages.{pick, upper, is_used, word_at, Spelled}
use Rattle.symbols.specs.Takes.{took, Outcome, Takes}
use Rattle.symbols.specs.declared.Best.{Best}
use Rattle.symbols.specs.Readers.{common, best, has_word, number_of, offer, choose, chosen, word}
use Rattle.symbols.proofs.Cuts.{head_same, tail_same, cons_same, not_empty, Within, Beyond, two_cuts}

-- ---- how much of a word begins the text

common_on : (c b : ℕ) (w t : List ℕ) → eqb (upper b) c ≡ true → common (c ∷ w) (b ∷ t) ≡ suc (common w t)
unfolding common
common_on c b w t e = rw (e, common)

common_off : (c b : ℕ) (w t : List ℕ) → eqb (upper b) c ≡ false → common (c ∷ w) (b ∷ t) ≡ 0
unfolding common
common_off c b w t e = rw (e, common)

common_le : (w t : List ℕ) → (common w t ≤ length w) × (common w t ≤ length t)
unfolding common
common_le [] t = omega arith
common_le (c ∷ w) [] = omega arith
common_le (c ∷ w) (b ∷ t) = go (eqb (upper b) c) refl (common_le w t)
  where
    go : (x : Bool) → eqb (upper b) c ≡ x → (common w t ≤ length w) × (common w t ≤ length t)
        → (common (c ∷ w) (b ∷ t) ≤ length (c ∷ w)) × (common (c ∷ w) (b ∷ t) ≤ length (b ∷ t))
    go true e h = omega (arith, common_on c b w t e)
    go false e h = omega (arith, common_off c b w t e)

common_same : (w t : List ℕ) → map upper (take (common w t) t) ≡ take (common w t) w
unfolding common
common_same [] t = refl
common_same (c ∷ w) [] = refl
common_same (c ∷ w) (b ∷ t) = go (eqb (upper b) c) refl (common_same w t)
  where
    go : (x : Bool) → eqb (upper b) c ≡ x → map upper (take (common w t) t) ≡ take (common w t) w
        → map upper (take (common (c ∷ w) (b ∷ t)) (b ∷ t)) ≡ take (common (c ∷ w) (b ∷ t)) (c ∷ w)
    go true e h = rw (common_on c b w t e) (cons_same (eqb-true (upper b) c e) h)
    go false e h = rw (common_off c b w t e) refl

common_far : (w p ys r : List ℕ) → map upper (p ++ ys) ≡ w → length p ≤ common w (p ++ r)
common_far w [] ys r e = omega arith
common_far [] (b ∷ p) ys r e = absurd (not_empty e)
common_far (c ∷ w) (b ∷ p) ys r e = go (eqb (upper b) c) refl (common_far w p ys r (tail_same e))
  where
    go : (x : Bool) → eqb (upper b) c ≡ x → length p ≤ common w (p ++ r) → length (b ∷ p) ≤ common (c ∷ w) (b ∷ (p ++ r))
    go true f h = omega (arith, common_on c b w (p ++ r) f)
    go false f h = absurd (eqb-false (upper b) c f (head_same e))

pub map-append : (a b : List ℕ) → map upper (a ++ b) ≡ map upper a ++ map upper b
map-append [] b = refl
map-append (x ∷ a) b = ap (λ (z : List ℕ). upper x ∷ z) (map-append a b)

map_drop : (n : ℕ) (w : List ℕ) → map upper (drop n w) ≡ drop n (map upper w)
map_drop zero w = refl
map_drop (suc n) [] = refl
map_drop (suc n) (x ∷ w) = map_drop n w

module _ (words : List (List ℕ)) (seen : List Bool)
    (capitals : (a : ℕ) → a < length words → map upper (word_at words a) ≡ word_at words a)
    (free : (a b c : ℕ) (xs ys : List ℕ) → Spelled words seen a xs → Spelled words seen b (xs ++ c ∷ ys) → ⊥)
    (alone : (a b : ℕ) (xs : List ℕ) → Spelled words seen a xs → Spelled words seen b xs → a ≡ b)
    (o : ℕ) (o-there : o < length words) (o-open : is_used seen o ≡ false) where
  abbrev Spells : ℕ → List ℕ → Type 0
  Spells a xs = Spelled words seen a xs

  abbrev size : ℕ → ℕ
  size i = length (word_at words i)

  -- how much of the word i begins the text
  abbrev shared : ℕ → List ℕ → ℕ
  shared i t = common (word_at words i) t

  -- ---- one word more

  -- what the best match comes to, with the word i looked at
  data Offered (i : ℕ) (t : List ℕ) (k : Best) : Best → Type 0 where
    over : has_word k ≡ true → Offered i t k k
    used_up : has_word k ≡ false → is_used seen i ≡ true → Offered i t k k
    whole : is_used seen i ≡ false → shared i t ≡ size i → Offered i t k (best (Some i) (shared i t))
    longer : has_word k ≡ false → is_used seen i ≡ false → shared i t < size i → k.count < shared i t → Offered i t k (best None (shared i t))
    shorter : has_word k ≡ false → is_used seen i ≡ false → shared i t < size i → shared i t ≤ k.count → Offered i t k k

  offered : (i : ℕ) (t : List ℕ) (k : Best) → Offered i t k (offer words seen i k t)
  unfolding offer
  offered i t k = go (has_word k) refl (is_used seen i) refl (eqb (shared i t) (size i)) refl (ltb k.count (shared i t)) refl
    where
      less : eqb (shared i t) (size i) ≡ false → shared i t < size i
      less s = omega (arith, (common_le (word_at words i) t).0, eqb-false (shared i t) (size i) s)

      go : (x : Bool) → has_word k ≡ x → (y : Bool) → is_used seen i ≡ y → (z : Bool) → eqb (shared i t) (size i) ≡ z
          → (v : Bool) → ltb k.count (shared i t) ≡ v
          → Offered i t k (pick x k (pick y k (pick z (best (Some i) (shared i t)) (pick v (best None (shared i t)) k))))
      go true e y u z s v l = over e
      go false e true u z s v l = used_up e u
      go false e false u true s v l = whole u (eqb-true _ _ s)
      go false e false u false s true l = longer e u (less s) (ltb-true _ _ l)
      go false e false u false s false l = shorter e u (less s) (ltb-false _ _ l)

  -- ---- the best match spells a word where it is found, and begins one in any case

  record Held (t : List ℕ) (k : Best) : Type 0 where
    fits : k.count ≤ length t
    spells : has_word k ≡ true → Spells (number_of k) (take k.count t)
    some : ℕ
    more : List ℕ
    begins : Spells some (take k.count t ++ more)

  -- what the text and the word i share begins the word
  begun : (i : ℕ) → i < length words → is_used seen i ≡ false → (t : List ℕ) → Spells i (take (shared i t) t ++ drop (shared i t) (word_at words i))
  begun i h u t = record { there = h; unused = u; same = same_as (word_at words i) (capitals i h) }
    where
      same_as : (w : List ℕ) → map upper w ≡ w → map upper (take (common w t) t ++ drop (common w t) w) ≡ w
      same_as w c = rw (map-append, common_same w t, map_drop, c) (take-append-drop (common w t) w)

  found_at : (i : ℕ) → i < length words → is_used seen i ≡ false → (t : List ℕ) → shared i t ≡ size i → Spells i (take (shared i t) t)
  found_at i h u t e = record { there = h; unused = u; same = common_same (word_at words i) t ∙ rw e (take-length (word_at words i)) }

  now_held : (i : ℕ) → i < length words → is_used seen i ≡ false → (t : List ℕ) (w : Option ℕ)
      → (is_some w ≡ true → Spells (unwrap_or w 0) (take (shared i t) t)) → Held t (best w (shared i t))
  now_held i h u t w s = record {
    fits = (common_le (word_at words i) t).1;
    spells = s;
    some = i;
    more = drop (shared i t) (word_at words i);
    begins = begun i h u t;
  }

  offer_held : (i : ℕ) → i < length words → (t : List ℕ) (k r : Best) → Held t k → Offered i t k r → Held t r
  offer_held i h t k r d (over e) = d
  offer_held i h t k r d (used_up e u) = d
  offer_held i h t k r d (whole u e) = now_held i h u t (Some i) (λ z. found_at i h u t e)
  offer_held i h t k r d (longer e u l m) = now_held i h u t None (λ z. absurd (let q : ◌≡◌ {A = ℕ} 0 1 = cc in omega arith))
  offer_held i h t k r d (shorter e u l m) = d

  choose_held : (n i : ℕ) → i + n ≤ length words → (t : List ℕ) (k : Best) → Held t k → Held t (choose words seen n i k t)
  unfolding choose
  choose_held zero i h t k d = d
  choose_held (suc n) i h t k d =
      choose_held n (i + 1) (omega arith) t (offer words seen i k t) (offer_held i (omega arith) t k (offer words seen i k t) d (offered i t k))

  -- ---- where none is found, no open word has more in common

  abbrev Short : List ℕ → ℕ → ℕ → Type 0
  Short t m a = (shared a t ≤ m) × (shared a t < size a)

  -- from the match k to the match r with the word i looked at, and with n words from i on
  record Passed (i : ℕ) (t : List ℕ) (k r : Best) : Type 0 where
    was : has_word k ≡ false
    rises : k.count ≤ r.count
    this : is_used seen i ≡ false → Short t r.count i

  record Least (i n : ℕ) (t : List ℕ) (k r : Best) : Type 0 where
    was : has_word k ≡ false
    rises : k.count ≤ r.count
    each : (a : ℕ) → i ≤ a → a < i + n → is_used seen a ≡ false → Short t r.count a

  offer_passed : (i : ℕ) (t : List ℕ) (k r : Best) → Offered i t k r → has_word r ≡ false → Passed i t k r
  offer_passed i t k r (over e) f = absurd (let q : ◌≡◌ {A = ℕ} 0 1 = cc in omega arith)
  offer_passed i t k r (used_up e u) f = record {
    was = e;
    rises = omega arith;
    this = λ h. absurd (let q : ◌≡◌ {A = ℕ} 0 1 = cc in omega arith);
  }
  offer_passed i t k r (whole u e) f = absurd (let q : ◌≡◌ {A = ℕ} 0 1 = cc in omega arith)
  offer_passed i t k r (longer e u l m) f = record { was = e; rises = omega arith; this = λ h. omega arith }
  offer_passed i t k r (shorter e u l m) f = record { was = e; rises = omega arith; this = λ h. omega arith }

  least_on : (n i : ℕ) (t : List ℕ) (k m r : Best) → Passed i t k m → Least (i + 1) n t m r → Least i (suc n) t k r
  least_on n i t k m r p d = record { was = p.was; rises = omega (arith, p.rises, d.rises); each = each_of }
    where
      first_of : (a : ℕ) → i ≡ a → is_used seen a ≡ false → Short t r.count a
      first_of a e u =
          let q : Short t m.count i = p.this (rw e u) in
          subst (λ (z : ℕ). Short t r.count z) e (omega (arith, q.0, d.rises), q.1)

      each_of : (a : ℕ) → i ≤ a → a < i + suc n → is_used seen a ≡ false → Short t r.count a
      each_of a h l u = ⊎_elim (λ (e : i ≡ a). first_of a e u) (λ (e : i < a). d.each a (omega arith) (omega arith) u) (eq-or-lt_of_le h)

  least : (n i : ℕ) (t : List ℕ) (k : Best) → has_word (choose words seen n i k t) ≡ false → Least i n t k (choose words seen n i k t)
  unfolding choose
  least zero i t k f = record { was = f; rises = omega arith; each = λ a h l u. absurd (omega arith) }
  least (suc n) i t k f = go (offer words seen i k t) (offered i t k) (least n (i + 1) t (offer words seen i k t) f)
    where
      go : (m : Best) → Offered i t k m → Least (i + 1) n t m (choose words seen n (i + 1) m t) → Least i (suc n) t k (choose words seen n (i + 1) m t)
      go m q d = least_on n i t k m (choose words seen n (i + 1) m t) (offer_passed i t k m q d.was) d

  -- ---- the reader

  abbrev all : List ℕ → Best
  all t = choose words seen (length words) 0 (best None 0) t

  -- the bytes that match
  abbrev used : List ℕ → List ℕ
  used t = take (all t).count t

  reads : (at : ℕ) (t : List ℕ) → word words seen at t ≡ chosen (all t) at t
  unfolding word
  reads at t = refl

  all_held : (t : List ℕ) → Held t (all t)
  all_held t = choose_held (length words) 0 (omega arith) t (best None 0) (record {
    fits = omega arith;
    spells = λ z. absurd (let q : ◌≡◌ {A = ℕ} 0 1 = cc in omega arith);
    some = o;
    more = word_at words o;
    begins = record { there = o-there; unused = o-open; same = capitals o o-there };
  })

  length_used : (t : List ℕ) → length (used t) ≡ (all t).count
  length_used t = length-take-le (all t).count t (all_held t).fits

  -- where none is found, whatever begins an open word is shared with it
  unfound : (a : ℕ) (p ys r : List ℕ) → Spells a (p ++ ys) → has_word (all (p ++ r)) ≡ false → (length p ≤ (all (p ++ r)).count) × (length p < size a)
  unfound a p ys r d e =
      let m : Least 0 (length words) (p ++ r) (best None 0) (all (p ++ r)) = least (length words) 0 (p ++ r) (best None 0) e in
      let l : Short (p ++ r) (all (p ++ r)).count a = m.each a (omega arith) (omega (arith, d.there)) d.unused in
      let f : length p ≤ shared a (p ++ r) = common_far (word_at words a) p ys r d.same in
      omega arith

  -- where one is found, it spells all that begins an open word, and perhaps more
  abbrev Further : List ℕ → List ℕ → Type 0
  Further p t = (c : ℕ) × (q : List ℕ) × (used t ≡ p ++ c ∷ q)

  found_far : (a : ℕ) (p ys r : List ℕ) → Spells a (p ++ ys) → has_word (all (p ++ r)) ≡ true → (p ≡ used (p ++ r)) ⊎ Further p (p ++ r)
  found_far a p ys r d e = ⊎_elim
      (λ (h : Within (used (p ++ r)) p). inl (within h.0 h.1))
      (λ (h : Beyond (used (p ++ r)) (drop (all (p ++ r)).count (p ++ r)) p r). inr (h.0, h.1, h.2))
      (two_cuts (used (p ++ r)) (drop (all (p ++ r)).count (p ++ r)) p r (take-append-drop (all (p ++ r)).count (p ++ r)))
    where
      within : (q : List ℕ) → p ≡ used (p ++ r) ++ q → p ≡ used (p ++ r)
      within [] f = f ∙ append-nil (used (p ++ r))
      within (c ∷ q) f = absurd (free (number_of (all (p ++ r))) a c (used (p ++ r)) (q ++ ys) ((all_held (p ++ r)).spells e)
          (subst (λ (z : List ℕ). Spells a z) (ap (λ (z : List ℕ). z ++ ys) f ∙ append_assoc (used (p ++ r)) (c ∷ q) ys) d))

  -- a word that stands there is found
  is_found : (a : ℕ) (xs r : List ℕ) → Spells a xs → has_word (all (xs ++ r)) ≡ true
  is_found a xs r d = go (has_word (all (xs ++ r))) refl
    where
      go : (x : Bool) → has_word (all (xs ++ r)) ≡ x → has_word (all (xs ++ r)) ≡ true
      go true e = e
      go false e =
          let l : length xs ≡ size a = sym (length-map xs upper) ∙ ap length d.same in
          absurd (omega (arith, (unfound a xs [] r (rw append-nil d) e).1))

  it_is : (a : ℕ) (xs r : List ℕ) → Spells a xs → (xs ≡ used (xs ++ r)) × (number_of (all (xs ++ r)) ≡ a)
  it_is a xs r d = ⊎_elim
      (λ (h : xs ≡ used (xs ++ r)). (h, alone (number_of (all (xs ++ r))) a xs (found_is (sym h)) d))
      (λ (h : Further xs (xs ++ r)). absurd (free a (number_of (all (xs ++ r))) h.0 xs h.1 d (found_is h.2)))
      (found_far a xs [] r (rw append-nil d) (is_found a xs r d))
    where
      found_is : {zs : List ℕ} → used (xs ++ r) ≡ zs → Spells (number_of (all (xs ++ r))) zs
      found_is e = subst (λ (z : List ℕ). Spells (number_of (all (xs ++ r))) z) e ((all_held (xs ++ r)).spells (is_found a xs r d))

  fulls : (at a : ℕ) (xs r : List ℕ) → Spells a xs → word words seen at (xs ++ r) ≡ took true (at + length xs) r a
  fulls at a xs r d =
      let f : has_word (all (xs ++ r)) ≡ true = is_found a xs r d in
      let i : number_of (all (xs ++ r)) ≡ a = (it_is a xs r d).1 in
      let c : (all (xs ++ r)).count ≡ length xs = sym (length_used (xs ++ r)) ∙ ap length (sym (it_is a xs r d).0) in
      let s : drop (all (xs ++ r)).count (xs ++ r) ≡ r = ap (λ (n : ℕ). drop n (xs ++ r)) c ∙ drop-append_seam xs r in
      let p : at + (all (xs ++ r)).count ≡ at + length xs = ap (λ (n : ℕ). at + n) c in
      reads at (xs ++ r) ∙ cc

  fars : (at a : ℕ) (p ys r : List ℕ) → Spells a (p ++ ys) → at + length p ≤ (word words seen at (p ++ r)).place
  fars at a p ys r d = rw (reads at (p ++ r)) (go (has_word (all (p ++ r))) refl)
    where
      go : (x : Bool) → has_word (all (p ++ r)) ≡ x → at + length p ≤ at + (all (p ++ r)).count
      go true e = ⊎_elim
          (λ (h : p ≡ used (p ++ r)). omega (arith, ap length h, length_used (p ++ r)))
          (λ (h : Further p (p ++ r)). omega (arith, ap length h.2, length-append p (h.0 ∷ h.1), length_used (p ++ r)))
          (found_far a p ys r d e)
      go false e = omega (arith, (unfound a p ys r d e).0)

  outcomes : (at : ℕ) (t : List ℕ) → Outcome ℕ (Spelled words seen) at t (word words seen at t)
  outcomes at t = rw (reads at t) (record {
    used = used t;
    cut = sym (take-append-drop (all t).count t);
    stands = omega (arith, length_used t);
    good = (all_held t).spells;
    some = (all_held t).some;
    more = (all_held t).more;
    begins = (all_held t).begins;
  })

  pub takes_word : Takes ℕ (word words seen) (Spelled words seen) (λ (b : ℕ). Unit {0})
  takes_word = record { outcome = outcomes; full = λ at a xs r d h. fulls at a xs r d; far = fars }
