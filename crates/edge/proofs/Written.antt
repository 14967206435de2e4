-- Numbers and flags, written and read back, and read and written again.
-- Assumes nothing.
use Prim.Native.Nat.{ℕ, zero, suc, ◌+◌, ◌-◌, ◌*◌, ◌/◌, ◌%◌, ◌≤◌, ◌<◌}
use mathlib.Core.Path.{◌≡◌, refl, sym, ap, ◌∙◌}
use mathlib.Core.Bool.{Bool, true, false, ◌&&◌}
use mathlib.Core.List.{List, [], ◌∷◌, ◌++◌}
use native.Mathlib.Omega.{arith}
use lib.Dec.{eqb, leb}
use lib.ListN.{length, get_or, drop, length-map, get_or-append}
use lib.Seq.{drop-cons, get_or-append-add, get_or-drop}
use borrow.Author.Tests.{leb-true, eqb-true, eqb-false}
use Rattle.rule.specs.Lists.{flags}
use Rattle.edge.specs.Bytes.{two_at, four_at, eight_at, two, four, eight, are_flags, flags_at, flag_byte, flag_bytes}
use Rattle.edge.specs.Claims.{AreBytes}

-- read again
module _ (n : ℕ) where
  pub two_read : n % 256 + 256 * (n / 256) ≡ n
  two_read = omega arith

  pub four_read : n % 65536 + 65536 * (n / 65536) ≡ n
  four_read = omega arith

  pub eight_read : n % 4294967296 + 4294967296 * (n / 4294967296) ≡ n
  eight_read = omega arith

-- written again
two_again : (a b : ℕ) → a < 256 → two (a + 256 * b) ≡ a ∷ b ∷ []
unfolding two
two_again a b h =
    let p : (a + 256 * b) % 256 ≡ a = omega arith in
    let q : (a + 256 * b) / 256 ≡ b = omega arith in
    λ i. p i ∷ q i ∷ []

four_again : (a b : ℕ) → a < 65536 → four (a + 65536 * b) ≡ two a ++ two b
unfolding four
four_again a b h =
    let p : (a + 65536 * b) % 65536 ≡ a = omega arith in
    let q : (a + 65536 * b) / 65536 ≡ b = omega arith in
    λ i. two (p i) ++ two (q i)

eight_again : (a b : ℕ) → a < 4294967296 → eight (a + 4294967296 * b) ≡ four a ++ four b
unfolding eight
eight_again a b h =
    let p : (a + 4294967296 * b) % 4294967296 ≡ a = omega arith in
    let q : (a + 4294967296 * b) / 4294967296 ≡ b = omega arith in
    λ i. four (p i) ++ four (q i)

-- the bytes of a list, one by one
unfoldable pub each : List ℕ → ℕ → ℕ → List ℕ
each bytes zero i = []
each bytes (suc n) i = get_or bytes i 0 ∷ each bytes n (suc i)

-- a list goes on with its next bytes
pub goes_on : (bytes : List ℕ) (n i : ℕ) → i + n ≤ length bytes → drop i bytes ≡ each bytes n i ++ drop (i + n) bytes
unfolding each
goes_on bytes zero i h = let z : i + 0 ≡ i = omega arith in rw z
goes_on bytes (suc n) i h =
    let z : suc i + n ≡ i + suc n = omega arith in
    drop-cons bytes i 0 (omega arith)
    ∙ ap (λ (l : List ℕ). get_or bytes i 0 ∷ l) (goes_on bytes n (suc i) (omega arith) ∙ ap (λ (k : ℕ). each bytes n (suc i) ++ drop k bytes) z)

module _ (bytes : List ℕ) (are : AreBytes bytes) where
  two_small : (i : ℕ) → two_at bytes i < 65536
  unfolding two_at
  two_small i = omega (arith, are i, are (i + 1))

  four_small : (i : ℕ) → four_at bytes i < 4294967296
  unfolding four_at
  four_small i = omega (arith, two_small i, two_small (i + 2))

  pub two_at_lem : (i : ℕ) → two (two_at bytes i) ≡ get_or bytes i 0 ∷ get_or bytes (i + 1) 0 ∷ []
  unfolding two_at
  two_at_lem i = two_again (get_or bytes i 0) (get_or bytes (i + 1) 0) (are i)

  pub four_at_lem : (i : ℕ) → four (four_at bytes i) ≡ two (two_at bytes i) ++ two (two_at bytes (i + 2))
  unfolding four_at
  four_at_lem i = four_again (two_at bytes i) (two_at bytes (i + 2)) (two_small i)

  pub eight_at_lem : (i : ℕ) → eight (eight_at bytes i) ≡ four (four_at bytes i) ++ four (four_at bytes (i + 4))
  unfolding eight_at
  eight_at_lem i = eight_again (four_at bytes i) (four_at bytes (i + 4)) (four_small i)

-- flags: a byte that is 0 or 1 is the byte of its flag
flag_again : (b : ℕ) → b ≤ 1 → flag_byte (eqb b 1) ≡ b
flag_again b h = go (eqb b 1) refl
  where
    go : (t : Bool) → eqb b 1 ≡ t → flag_byte t ≡ b
    go true e = sym (eqb-true b 1 e)
    go false e = let n : b ≡ 1 → ⊥ = eqb-false b 1 e in omega arith

pub flags_again : (bytes : List ℕ) (i n s : ℕ) → ((j : ℕ) → i ≤ j → get_or bytes j 0 ≤ 1)
    → flag_bytes (flags (λ slot. eqb (get_or bytes (i + slot) 0) 1) n s) ≡ each bytes n (i + s)
unfolding flags each
flags_again bytes i zero s h = refl
flags_again bytes i (suc n) s h =
    let z : i + (s + 1) ≡ suc (i + s) = omega arith in
    λ d. flag_again (get_or bytes (i + s) 0) (h (i + s) (omega arith)) d ∷ (flags_again bytes i n (s + 1) h ∙ ap (λ (k : ℕ). each bytes n k) z) d

and_both : (a b : Bool) → a && b ≡ true → (a ≡ true) × (b ≡ true)
and_both true b e = (refl, e)
and_both false b e = absurd (let z : ◌≡◌ {A = ℕ} 0 1 = cc in omega arith)

flag_small : (l : List ℕ) → are_flags l ≡ true → (j : ℕ) → get_or l j 0 ≤ 1
unfolding are_flags
flag_small [] e j = omega arith
flag_small (b ∷ l) e zero = leb-true b 1 (and_both (leb b 1) (are_flags l) e).0
flag_small (b ∷ l) e (suc j) = flag_small l (and_both (leb b 1) (are_flags l) e).1 j

pub flags_small : (bytes : List ℕ) (k : ℕ) → are_flags (drop k bytes) ≡ true → (j : ℕ) → k ≤ j → get_or bytes j 0 ≤ 1
flags_small bytes k e j h =
    let z : k + (j - k) ≡ j = omega arith in
    let p : get_or (drop k bytes) (j - k) 0 ≡ get_or bytes j 0 = get_or-drop k bytes (j - k) 0 ∙ ap (λ (i : ℕ). get_or bytes i 0) z in
    omega (arith, p, flag_small (drop k bytes) e (j - k))

-- flags that are written are flags, and are read back
pub are_written : (s : List Bool) → are_flags (flag_bytes s) ≡ true
unfolding are_flags
are_written [] = refl
are_written (true ∷ s) = are_written s
are_written (false ∷ s) = are_written s

pub are_both : (a b : List ℕ) → are_flags a ≡ true → are_flags b ≡ true → are_flags (a ++ b) ≡ true
unfolding are_flags
are_both [] b e f = f
are_both (x ∷ a) b e f =
    let p = and_both (leb x 1) (are_flags a) e in rw (p.0, are_both a b p.1 f)

flag_read : (b : Bool) → eqb (flag_byte b) 1 ≡ b
flag_read true = refl
flag_read false = refl

flags_from : (e : List ℕ) (f : ℕ → ℕ) (s : List Bool) (i : ℕ) → ((j : ℕ) → j < length s → get_or e (f (i + j)) 0 ≡ get_or (flag_bytes s) j 0)
    → flags (λ slot. eqb (get_or e (f slot) 0) 1) (length s) i ≡ s
unfolding flags
flags_from e f [] i h = refl
flags_from e f (b ∷ s) i h =
    let z : i + 0 ≡ i = omega arith in
    let p : get_or e (f i) 0 ≡ flag_byte b = ap (λ (k : ℕ). get_or e (f k) 0) (sym z) ∙ h 0 (omega arith) in
    let q : (j : ℕ) → j < length s → get_or e (f (i + 1 + j)) 0 ≡ get_or (flag_bytes s) j 0 =
    λ j l. (let y : i + 1 + j ≡ i + suc j = omega arith in ap (λ (k : ℕ). get_or e (f k) 0) y ∙ h (suc j) (omega arith)) in
    λ d. (ap (λ (k : ℕ). eqb k 1) p ∙ flag_read b) d ∷ flags_from e f s (i + 1) q d

-- a set that stands behind i other bytes
pub set_read : (e before after : List ℕ) (s : List Bool) (i n : ℕ) → e ≡ before ++ (flag_bytes s ++ after) → length before ≡ i → length s ≡ n
    → flags_at e i n ≡ s
unfolding flags_at
set_read e before after s i n p q l =
    ap (λ (k : ℕ). flags (λ slot. eqb (get_or e (i + slot) 0) 1) k 0) (sym l)
    ∙ flags_from e (λ slot. i + slot) s 0 (λ j h. at j h)
  where
    at : (j : ℕ) → j < length s → get_or e (i + (0 + j)) 0 ≡ get_or (flag_bytes s) j 0
    at j h =
        let z : i + (0 + j) ≡ length before + j = omega arith in
        let m : j < length (flag_bytes s) = omega (arith, length-map s flag_byte) in
        ap (λ (k : ℕ). get_or e k 0) z ∙ ap (λ (x : List ℕ). get_or x (length before + j) 0) p ∙ get_or-append-add before (flag_bytes s ++ after) j 0
        ∙ get_or-append (flag_bytes s) after 0 j m
