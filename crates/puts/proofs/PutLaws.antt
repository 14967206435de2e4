-- Bytes that are put one part behind the other.
-- Assumes nothing.
use Prim.Native.Nat.{ℕ, suc, ◌+◌, ◌-◌, ◌≤◌, ◌<◌}
use mathlib.Core.Path.{◌≡◌, refl, sym, ap, ◌∙◌}
use mathlib.Core.List.{List, [], ◌∷◌, ◌++◌, append_assoc}
use native.Mathlib.Omega.{arith}
use borrow.Rule.Slice.PartMut.{put_mid}
use lib.ListN.{length, set, take, drop, length-append, length-drop, take-append-drop}
use lib.Seq.{sets, set_out, sets-eq, length-sets, length-take-le, drop-drop}
use Rattle.puts.specs.declared.bytes.Text.{Text}
use Rattle.puts.specs.Put.{Puts, Room}

-- a list in two parts: the second is stored behind the first
pub sets_append : (l : List ℕ) (i : ℕ) (xs ys : List ℕ) → sets l i (xs ++ ys) ≡ sets (sets l i xs) (i + length xs) ys
sets_append l i [] ys = let z : i ≡ i + 0 = omega arith in ap (λ (k : ℕ). sets l k ys) z
sets_append l i (x ∷ xs) ys =
    let z : suc i + length xs ≡ i + suc (length xs) = omega arith in
    sets_append (set l i x) (suc i) xs ys ∙ ap (λ (k : ℕ). sets (sets (set l i x) (suc i) xs) k ys) z

-- past the end nothing is stored
pub sets_out : (l : List ℕ) (i : ℕ) (xs : List ℕ) → length l ≤ i → sets l i xs ≡ l
sets_out l i [] h = refl
sets_out l i (x ∷ xs) h = ap (λ (z : List ℕ). sets z (suc i) xs) (set_out l i x h) ∙ sets_out l (suc i) xs (omega arith)

-- a word is copied as far as the list reaches: n bytes of it, and what is left lies past the end
pub copied : (l w ys : List ℕ) (i k n : ℕ) → i + n ≤ length l → n ≤ length w → (n < length w → length l ≤ i + n) → k ≡ n → ys ≡ take n w
    → put_mid i k l ys ≡ sets l i w
copied l w ys i k n fits few rest e f =
    let t : length (take n w) ≡ n = length-take-le n w few in
    let d : length (drop n w) ≡ length w - n = length-drop n w in
    let is : length (sets l i (take n w)) ≡ length l = length-sets l i (take n w) in
    ap (λ (j : ℕ). put_mid i j l ys) e ∙ ap (λ (zs : List ℕ). put_mid i n l zs) f
    ∙ sym (append_assoc (take i l) (take n w) (drop n (drop i l)))
    ∙ ap (λ (zs : List ℕ). take i l ++ take n w ++ zs) (drop-drop n i l ∙ ap (λ (j : ℕ). drop j l) (let z : i + n ≡ i + length (take n w) = omega arith in z))
    ∙ sym (sets-eq (take n w) l i (omega arith))
    ∙ sym (past (drop n w) (sets l i (take n w)) (i + length (take n w)) (λ h. let r = rest (omega arith) in omega arith))
    ∙ sym (sets_append l i (take n w) (drop n w))
    ∙ ap (λ (zs : List ℕ). sets l i zs) (take-append-drop n w)
  where
    past : (xs m : List ℕ) (j : ℕ) → (0 < length xs → length m ≤ j) → sets m j xs ≡ m
    past [] m j h = refl
    past (x ∷ xs) m j h = sets_out m j (x ∷ xs) (h (omega arith))

-- nothing is put
pub put_none : (t : Text) → Puts t [] t
put_none t = record { stands = refl; behind = omega arith; same_buffer = refl }

-- the same bytes, said otherwise
pub room_of : {i : ℕ} {xs ys : List ℕ} → xs ≡ ys → Room i xs → Room i ys
room_of e h = rw e at h

pub put_of : {t u : Text} {xs ys : List ℕ} → xs ≡ ys → Puts t xs u → Puts t ys u
put_of e p = rw e at p

-- Bytes in two parts: there is room for the first, then for the second, and together they are put.
pub first_room : {i : ℕ} {xs zs : List ℕ} (ys : List ℕ) → xs ++ ys ≡ zs → Room i zs → Room i xs
first_room {i} {xs} {zs} ys e h =
    let w : length xs + length ys ≡ length zs = sym (length-append xs ys) ∙ ap length e in
    record { fits = omega arith }

pub next_room : {t u : Text} {xs ys zs : List ℕ} → xs ++ ys ≡ zs → Room t.place zs → Puts t xs u → Room u.place ys
next_room {t} {u} {xs} {ys} {zs} e h p =
    let w : length xs + length ys ≡ length zs = sym (length-append xs ys) ∙ ap length e in
    record { fits = omega arith }

pub put_both : {t u v : Text} {xs ys zs : List ℕ} → xs ++ ys ≡ zs → Puts t xs u → Puts u ys v → Puts t zs v
put_both {t} {u} {v} {xs} {ys} {zs} e p q =
    let w : length xs + length ys ≡ length zs = sym (length-append xs ys) ∙ ap length e in
    record {
      stands =
          q.stands
          ∙ ap (λ (z : List ℕ). sets z u.place ys) p.stands
          ∙ ap (λ (x : ℕ). sets (sets t.bytes.now t.place xs) x ys) p.behind
          ∙ sym (sets_append t.bytes.now t.place xs ys)
          ∙ ap (λ (z : List ℕ). sets t.bytes.now t.place z) e;
      behind = omega arith;
      same_buffer = q.same_buffer ∙ p.same_buffer;
    }

-- What is left to put completes the bytes: of a loop that puts them part by part.
pub record Left (text : Text) (rest : List ℕ) (from : Text) (bytes : List ℕ) : Type 0 where
  pub stands : sets text.bytes.now text.place rest ≡ sets from.bytes.now from.place bytes
  pub behind : text.place + length rest ≡ from.place + length bytes
  pub same_buffer : text.bytes.ghost_name ≡ from.bytes.ghost_name

pub left_all : (t : Text) (xs : List ℕ) → Left t xs t xs
left_all t xs = record { stands = refl; behind = refl; same_buffer = refl }

module _ {t from : Text} {xs bytes : List ℕ} (h : Left t xs from bytes) where
  pub left_room : Room from.place bytes → Room t.place xs
  left_room r = record { fits = omega arith }

  pub left_next : {u : Text} {ys : List ℕ} (zs : List ℕ) → ys ++ zs ≡ xs → Puts t ys u → Left u zs from bytes
  left_next {u} {ys} zs e p =
      let w : length ys + length zs ≡ length xs = sym (length-append ys zs) ∙ ap length e in
      record {
        stands =
            ap (λ (z : List ℕ). sets z u.place zs) p.stands
            ∙ ap (λ (x : ℕ). sets (sets t.bytes.now t.place ys) x zs) p.behind
            ∙ sym (sets_append t.bytes.now t.place ys zs)
            ∙ ap (λ (z : List ℕ). sets t.bytes.now t.place z) e
            ∙ h.stands;
        behind = omega arith;
        same_buffer = p.same_buffer ∙ h.same_buffer;
      }

  pub left_none : xs ≡ [] → Puts from bytes t
  left_none e =
      let w : length xs ≡ 0 = ap length e in
      record { stands = ap (λ (z : List ℕ). sets t.bytes.now t.place z) (sym e) ∙ h.stands; behind = omega arith; same_buffer = h.same_buffer }
