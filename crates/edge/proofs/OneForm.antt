-- Bytes that hold a record, or a cursor, are those that are written of it.
-- Assumes nothing.
use Rattle.std.specs.Prelude.{if◌then◌else◌, Some, None}
use Prim.Native.Nat.{ℕ, ◌+◌, ◌≤◌, ◌<◌}
use mathlib.Core.Path.{◌≡◌, refl, sym, ap, ◌∙◌}
use mathlib.Core.Bool.{Bool, true, false, ◌&&◌, ◌||◌}
use mathlib.Core.List.{List, [], ◌∷◌, ◌++◌, append_assoc, append-nil}
use native.Mathlib.Omega.{arith}
use lib.Dec.{eqb, leb}
use lib.ListN.{length, get_or, drop, drop_of_length-le}
use borrow.Author.Tests.{leb-true, eqb-true}
use Rattle.calendar.proofs.Table.{same_below}
use Rattle.rule.specs.Filling.{frequency_number, frequency}
use Rattle.edge.specs.Bytes.{two_at, four_at, eight_at, four, eight, are_flags, flags_at, flag_bytes}
use Rattle.edge.specs.Layout.{record_version, cursor_version, tag_of, number_of}
use Rattle.edge.specs.Layout.{option_of, count_from, until_from, is_tagged, head_bytes, day_bytes, time_bytes, encode_record, record_in, is_record_bytes}
use Rattle.edge.specs.Layout.{decode_record, state_number, state_of, encode_cursor, cursor_in, is_cursor_bytes, decode_cursor}
use Rattle.edge.specs.Claims.{AreBytes, RecordOneForm, CursorOneForm}
use Rattle.edge.proofs.EdgeLaws.{record_size, cursor_size}
use Rattle.edge.proofs.Written.{each, goes_on, two_at_lem, four_at_lem, eight_at_lem, flags_again, flags_small}

and_both : (a b : Bool) → a && b ≡ true → (a ≡ true) × (b ≡ true)
and_both true b e = (refl, e)
and_both false b e = absurd (let z : ◌≡◌ {A = ℕ} 0 1 = cc in omega arith)

-- numbers of tags
frequency_again : (n : ℕ) → n < 7 → frequency_number (frequency n) ≡ n
unfolding frequency
frequency_again n h = same_below (λ k. frequency_number (frequency k)) (λ k. k) 0 7 refl n h

state_again : (n : ℕ) → n < 6 → state_number (state_of n) ≡ n
unfolding state_of
state_again n h = same_below (λ k. state_number (state_of k)) (λ k. k) 0 6 refl n h

or-false : (b : Bool) → b || false ≡ b
or-false true = refl
or-false false = refl

-- a tag with its number is 0 with 0, or 1
tag_cases : (P : ℕ → ℕ → Type 0) (tag n : ℕ) → is_tagged tag n ≡ true → P 0 0 → ((m : ℕ) → P 1 m) → P tag n
tag_cases P tag n h none given = go (eqb tag 0) refl
  where
    go : (t : Bool) → eqb tag 0 ≡ t → P tag n
    go true e =
        let p : tag ≡ 0 = eqb-true tag 0 e in
        let g : is_tagged 0 n ≡ true = rw p at h in
        let q : n ≡ 0 = eqb-true n 0 g in
        rw (p, q) none
    go false e =
        let g : eqb tag 1 || (false && eqb n 0) ≡ true = rw e at h in
        let p : tag ≡ 1 = eqb-true tag 1 (sym (or-false (eqb tag 1)) ∙ g) in
        rw p (given n)

option_again : (tag n : ℕ) → is_tagged tag n ≡ true → (tag_of (option_of tag n) ≡ tag) × (number_of (option_of tag n) ≡ n)
option_again tag n h = tag_cases (λ t m. (tag_of (option_of t m) ≡ t) × (number_of (option_of t m) ≡ m)) tag n h (refl, refl) (λ m. (refl, refl))

-- parts one behind the other, however they are put together
regroup : (a b c d e f g h i j z : List ℕ) → z ≡ []
    → a ++ ((b ++ (c ++ (d ++ (e ++ f)))) ++ (g ++ (h ++ (i ++ j)))) ≡ a ++ (b ++ (c ++ (d ++ (e ++ (f ++ (g ++ (h ++ (i ++ (j ++ z)))))))))
regroup a b c d e f g h i j z p = rw p (simp (append_assoc, append-nil))

module _ (bytes : List ℕ) (are : AreBytes bytes) where
  abbrev at : ℕ → ℕ
  at i = get_or bytes i 0

  four_bytes : (i : ℕ) → four (four_at bytes i) ≡ (at i ∷ at (i + 1) ∷ []) ++ (at (i + 2) ∷ at (i + 2 + 1) ∷ [])
  four_bytes i = four_at_lem bytes are i ∙ (λ d. two_at_lem bytes are i d ++ two_at_lem bytes are (i + 2) d)

  eight_bytes : (i : ℕ) → eight (eight_at bytes i)
      ≡ ((at i ∷ at (i + 1) ∷ []) ++ (at (i + 2) ∷ at (i + 2 + 1) ∷ [])) ++ ((at (i + 4) ∷ at (i + 4 + 1) ∷ []) ++ (at (i + 4 + 2) ∷ at (i + 4 + 2 + 1) ∷ []))
  eight_bytes i = eight_at_lem bytes are i ∙ (λ d. four_bytes i d ++ four_bytes (i + 4) d)

  head_again : at 0 ≡ record_version → at 1 < 7 → is_tagged (at 4) (four_at bytes 5) ≡ true → is_tagged (at 9) (eight_at bytes 10) ≡ true
      → record_version ∷ head_bytes (frequency (at 1)) (two_at bytes 2) (count_from (at 4) (four_at bytes 5)) (until_from (at 9) (eight_at bytes 10)) (at 18)
      (eight_at bytes 19)
      ≡ each bytes 27 0
  unfolding head_bytes each
  head_again w f t u =
      let c = option_again (at 4) (four_at bytes 5) t in
      let v = option_again (at 9) (eight_at bytes 10) u in
      λ d. sym w d ∷ (frequency_again (at 1) f d ∷ (two_at_lem bytes are 2 d
      ++ (c.0 d ∷ ((ap four c.1 ∙ four_bytes 5) d
      ++ (v.0 d ∷ ((ap eight v.1 ∙ eight_bytes 10) d
      ++ (at 18 ∷ eight_bytes 19 d)))))))

  sets_again : are_flags (drop 27 bytes) ≡ true → (i n : ℕ) → 27 ≤ i → flag_bytes (flags_at bytes i n) ≡ each bytes n i
  unfolding flags_at
  sets_again f i n h =
      let z : i + 0 ≡ i = omega arith in
      flags_again bytes i n 0 (λ j k. flags_small bytes 27 f j (omega arith)) ∙ ap (λ (k : ℕ). each bytes n k) z

  all_parts : length bytes ≡ 2564
      → bytes ≡ each bytes 27 0 ++ (each bytes 12 27 ++ (each bytes 62 39 ++ (each bytes 732 101 ++ (each bytes 106 833 ++ (each bytes 749 939
      ++ (each bytes 24 1688 ++ (each bytes 60 1712 ++ (each bytes 60 1772 ++ (each bytes 732 1832 ++ drop 2564 bytes)))))))))
  all_parts l =
      goes_on bytes 27 0 (omega arith)
      ∙ ap (λ (x : List ℕ). each bytes 27 0 ++ x) (goes_on bytes 12 27 (omega arith)
      ∙ ap (λ (x : List ℕ). each bytes 12 27 ++ x) (goes_on bytes 62 39 (omega arith)
      ∙ ap (λ (x : List ℕ). each bytes 62 39 ++ x) (goes_on bytes 732 101 (omega arith)
      ∙ ap (λ (x : List ℕ). each bytes 732 101 ++ x) (goes_on bytes 106 833 (omega arith)
      ∙ ap (λ (x : List ℕ). each bytes 106 833 ++ x) (goes_on bytes 749 939 (omega arith)
      ∙ ap (λ (x : List ℕ). each bytes 749 939 ++ x) (goes_on bytes 24 1688 (omega arith)
      ∙ ap (λ (x : List ℕ). each bytes 24 1688 ++ x) (goes_on bytes 60 1712 (omega arith)
      ∙ ap (λ (x : List ℕ). each bytes 60 1712 ++ x) (goes_on bytes 60 1772 (omega arith)
      ∙ ap (λ (x : List ℕ). each bytes 60 1772 ++ x) (goes_on bytes 732 1832 (omega arith))))))))))

  record_judged : is_record_bytes bytes ≡ true
      → (at 0 ≡ record_version) × (at 1 < 7) × (is_tagged (at 4) (four_at bytes 5) ≡ true) × (is_tagged (at 9) (eight_at bytes 10) ≡ true)
      × (are_flags (drop 27 bytes) ≡ true)
  unfolding is_record_bytes
  record_judged e =
      let a = and_both (eqb (length bytes) 2564) _ e in
      let v = and_both (eqb (at 0) record_version) _ a.1 in
      let b = and_both (leb (at 1) 6) _ v.1 in
      let c = and_both (is_tagged (at 4) (four_at bytes 5)) _ b.1 in
      let d = and_both (is_tagged (at 9) (eight_at bytes 10)) _ c.1 in
      (eqb-true (at 0) record_version v.0, omega (arith, leb-true (at 1) 6 b.0), c.0, d.0, d.1)

  record_again : is_record_bytes bytes ≡ true → encode_record (record_in bytes) ≡ bytes
  unfolding encode_record day_bytes time_bytes record_in
  record_again e =
      let j = record_judged e in
      let f = j.4 in
      let l = record_size bytes e in
      let z : length bytes ≤ 2564 = omega arith in
      (λ d. head_again j.0 j.1 j.2 j.3 d
      ++ ((sets_again f 27 12 (omega arith) d ++ (sets_again f 39 62 (omega arith) d ++ (sets_again f 101 732 (omega arith) d
      ++ (sets_again f 833 106 (omega arith) d ++ sets_again f 939 749 (omega arith) d))))
      ++ (sets_again f 1688 24 (omega arith) d ++ (sets_again f 1712 60 (omega arith) d ++ (sets_again f 1772 60 (omega arith) d
      ++ sets_again f 1832 732 (omega arith) d)))))
      ∙ regroup (each bytes 27 0) (each bytes 12 27) (each bytes 62 39) (each bytes 732 101) (each bytes 106 833) (each bytes 749 939) (each bytes 24 1688)
      (each bytes 60 1712) (each bytes 60 1772) (each bytes 732 1832) (drop 2564 bytes) (drop_of_length-le bytes z)
      ∙ sym (all_parts l)

  cursor_again : is_cursor_bytes bytes ≡ true → encode_cursor (cursor_in bytes) ≡ each bytes 22 0
  unfolding encode_cursor cursor_in each is_cursor_bytes
  cursor_again e =
      let a = and_both (eqb (length bytes) 22) _ e in
      let s = and_both (eqb (at 0) cursor_version) (leb (at 1) 5) a.1 in
      λ d. sym (eqb-true (at 0) cursor_version s.0) d
      ∷ (state_again (at 1) (omega (arith, leb-true (at 1) 5 s.1)) d ∷ (eight_bytes 2 d ++ (four_bytes 10 d ++ eight_bytes 14 d)))

held : {A : Type 0} (t : Bool) (v x : A) → (if t then Some v else None) ≡ Some x → (t ≡ true) × (v ≡ x)
held true v x e = (refl, (cc))
held false v x e = absurd (let z : ◌≡◌ {A = ℕ} 0 1 = cc in omega arith)

pub record_one_form : RecordOneForm
unfolding decode_record
record_one_form bytes r are e =
    let h = held (is_record_bytes bytes) (record_in bytes) r e in
    ap encode_record (sym h.1) ∙ record_again bytes are h.0

pub cursor_one_form : CursorOneForm
unfolding decode_cursor
cursor_one_form bytes c are e =
    let h = held (is_cursor_bytes bytes) (cursor_in bytes) c e in
    let l : length bytes ≡ 22 = cursor_size bytes h.0 in
    let z : length bytes ≤ 22 = omega arith in
    ap encode_cursor (sym h.1) ∙ cursor_again bytes are h.0
    ∙ sym (append-nil (each bytes 22 0)) ∙ ap (λ (x : List ℕ). each bytes 22 0 ++ x) (sym (drop_of_length-le bytes z))
    ∙ sym (goes_on bytes 22 0 (omega arith))
