-- The candidates of a period, as a list, are the candidates in words.
-- Assumes nothing.
use Prim.Native.Nat.{ℕ, zero, suc, ◌+◌, ◌-◌, ◌*◌, ◌/◌, ◌≤◌, ◌<◌}
use mathlib.Core.Path.{◌≡◌, refl, ap, subst, subst⁻¹}
use mathlib.Core.Logic.{◌⊎◌, ◌↔◌, inl, inr, ⊎_elim}
use mathlib.Core.Bool.{Bool, true, false, ◌&&◌}
use mathlib.Core.List.Memᴰ
use mathlib.Core.List.{List, [], ◌∷◌, ◌++◌, map, append-nil, Memᴰ}
use lib.Dec.{T, ltb}
use native.Mathlib.Omega.{arith}
use borrow.Author.Tests.{ltb-true, ltb-false}
use Rattle.rule.specs.declared.rrule.Frequency.{Frequency}
use Rattle.rule.specs.declared.rrule.Rule.{Rule}
use Rattle.rule.specs.Instants.{second, day_of, hour_of, minute_of, second_of}
use Rattle.rule.specs.Filling.{is_below}
use Rattle.rule.specs.Days.{day_passes}
use Rattle.rule.specs.Times.{hour_passes, minute_passes, second_passes, time_passes}
use Rattle.rule.specs.Periods.{of_days, period, period_after}
use Rattle.rule.specs.Candidates.{Candidate, gather, only, covered, times, on_days, candidates_of, candidates}
use Rattle.machine.specs.Rising.{◌∈◌}
use Rattle.rule.specs.Meaning.{RisesFrom, CandidatesAre}
use Rattle.rule.proofs.Members.{yes, holds, in_list, member}

-- strictly rising within lo .. hi
abbrev In : ℕ → List ℕ → ℕ → Type 0
In lo [] hi = lo ≤ hi
In lo (x ∷ xs) hi = (lo ≤ x) × In (suc x) xs hi

-- xs lists what P tells of lo .. hi
record Lists (lo hi : ℕ) (P : ℕ → Type 0) (xs : List ℕ) : Type 0 where
  rises : In lo xs hi
  sound : (s : ℕ) → Memᴰ s xs → P s
  whole : (s : ℕ) → lo ≤ s → s < hi → P s → Memᴰ s xs

in_le : (lo : ℕ) (xs : List ℕ) (hi : ℕ) → In lo xs hi → lo ≤ hi
in_le lo [] hi p = p
in_le lo (x ∷ xs) hi p = let q : suc x ≤ hi = in_le (suc x) xs hi p.1 in omega arith

in_down : (lo lo' : ℕ) (xs : List ℕ) (hi : ℕ) → lo ≤ lo' → In lo' xs hi → In lo xs hi
in_down lo lo' [] hi h p = omega arith
in_down lo lo' (x ∷ xs) hi h p = (omega arith, p.1)

in_append : (lo mid hi : ℕ) (xs ys : List ℕ) → In lo xs mid → In mid ys hi → In lo (xs ++ ys) hi
in_append lo mid hi [] ys p q = in_down lo mid ys hi p q
in_append lo mid hi (x ∷ xs) ys p q = (p.0, in_append (suc x) mid hi xs ys p.1 q)

-- where a member lies
in_low : (lo hi : ℕ) (xs : List ℕ) → In lo xs hi → (s : ℕ) → Memᴰ s xs → lo ≤ s
in_low lo hi [] p s m = absurd (Memᴰ.not-nil m)
in_low lo hi (x ∷ xs) p s m = ⊎_elim (λ (e : s ≡ x). omega arith) (λ (n : Memᴰ s xs). let q : suc x ≤ s = in_low (suc x) hi xs p.1 s n in omega arith) (Memᴰ.cases_cons m)

in_high : (lo hi : ℕ) (xs : List ℕ) → In lo xs hi → (s : ℕ) → Memᴰ s xs → s < hi
in_high lo hi [] p s m = absurd (Memᴰ.not-nil m)
in_high lo hi (x ∷ xs) p s m = ⊎_elim (λ (e : s ≡ x). let q : suc x ≤ hi = in_le (suc x) xs hi p.1 in omega arith) (λ (n : Memᴰ s xs). in_high (suc x) hi xs p.1 s n) (Memᴰ.cases_cons m)

below_or : (a b : ℕ) → (a < b) ⊎ (b ≤ a)
below_or a b = go (ltb a b) refl
  where
    go : (t : Bool) → ltb a b ≡ t → (a < b) ⊎ (b ≤ a)
    go true e = inl (ltb-true a b e)
    go false e = inr (ltb-false a b e)

module _ (P : ℕ → Type 0) where
  joined : (lo mid hi : ℕ) (xs ys : List ℕ) → Lists lo mid P xs → Lists mid hi P ys → Lists lo hi P (xs ++ ys)
  joined lo mid hi xs ys a b = record {
    rises = in_append lo mid hi xs ys a.rises b.rises;
    sound = λ s m. ⊎_elim (a.sound s) (b.sound s) (Memᴰ.append_cases xs m);
    whole = λ s l h p. ⊎_elim (λ (q : s < mid). Memᴰ.append_left ys (a.whole s l q p)) (λ (q : mid ≤ s). Memᴰ.append_right xs (b.whole s q h p)) (below_or s mid);
  }

  gathered : (a u : ℕ) (g : ℕ → List ℕ) (n i : ℕ) → ((j : ℕ) → i ≤ j → j < i + n → Lists (a + j * u) (a + (j + 1) * u) P (g j)) → Lists (a + i * u) (a + (i + n) * u) P (gather g n i)
  unfolding gather
  gathered a u g zero i f = record { rises = omega arith; sound = λ s m. absurd (Memᴰ.not-nil m); whole = λ s l h p. absurd (let q : i + 0 ≡ i = omega arith in let z : s < a + i * u = subst (λ (x : ℕ). s < a + x * u) q h in omega arith) }
  gathered a u g (suc n) i f =
      joined (a + i * u) (a + (i + 1) * u) (a + (i + suc n) * u) (g i) (gather g n (i + 1)) (f i (omega arith) (omega arith))
      (let q : i + 1 + n ≡ i + suc n = omega arith in
      subst (λ (x : ℕ). Lists (a + (i + 1) * u) (a + x * u) P (gather g n (i + 1))) q (gathered a u g n (i + 1) (λ j l h. f j (omega arith) (omega arith))))

  -- a part that a test lets through
  tested : (Q : ℕ → Bool) (b : Bool) (lo hi : ℕ) (xs : List ℕ) → lo ≤ hi → ((s : ℕ) → lo ≤ s → s < hi → Q s ≡ b) → Lists lo hi P xs → Lists lo hi (λ s. T (Q s) × P s) (only b xs)
  tested Q true lo hi xs h q w = record {
    rises = w.rises;
    sound = λ s m. (subst⁻¹ (λ (b : Bool). T b) (q s (in_low lo hi xs w.rises s m) (in_high lo hi xs w.rises s m)) tt, w.sound s m);
    whole = λ s l k p. w.whole s l k p.1;
  }
  tested Q false lo hi xs h q w = record {
    rises = h;
    sound = λ s m. absurd (Memᴰ.not-nil m);
    whole = λ s l k p. absurd (subst (λ (b : Bool). T b) (q s l k) p.0);
  }

  -- one alone
  single : (t lo hi : ℕ) → lo ≡ t → hi ≡ t + 1 → P t → Lists lo hi P (t ∷ [])
  single t lo hi x y p = record {
    rises = (omega arith, omega arith);
    sound = λ s m. ⊎_elim (λ (e : s ≡ t). subst⁻¹ P e p) (λ (n : Memᴰ s []). absurd (Memᴰ.not-nil n)) (Memᴰ.cases_cons m);
    whole = λ s l h q. let e : s ≡ t = omega arith in Memᴰ.head e;
  }

  -- the same under other names of its ends
  between : (lo hi lo' hi' : ℕ) (xs : List ℕ) → lo ≡ lo' → hi ≡ hi' → Lists lo hi P xs → Lists lo' hi' P xs
  between lo hi lo' hi' xs x y w = subst (λ (l : ℕ). Lists l hi' P xs) x (subst (λ (h : ℕ). Lists lo h P xs) y w)

  -- the hours, minutes or seconds that are covered
  covers : (b : Bool) (a u n v : ℕ) (g : ℕ → List ℕ) → v < n → ((j : ℕ) → j < n → Lists (a + j * u) (a + (j + 1) * u) P (g j))
      → Lists (elim b [ true ↦ a | false ↦ a + v * u ]) (elim b [ true ↦ a + n * u | false ↦ a + (v + 1) * u ]) P (covered b n v g)
  unfolding covered
  covers true a u n v g h f =
      let z : a + 0 * u ≡ a = omega arith in
      let y : 0 + n ≡ n = omega arith in
      subst (λ (x : ℕ). Lists x (a + n * u) P (gather g n 0)) z (subst (λ (x : ℕ). Lists (a + 0 * u) (a + x * u) P (gather g n 0)) y (gathered a u g n 0 (λ j l k. f j (omega arith))))
  covers false a u n v g h f = f v h

-- times: what passes, by second, minute and hour
module _ (r : Rule) where
  abbrev P₀ : ℕ → Type 0
  P₀ t = Unit {0}

  abbrev P₃ : ℕ → Type 0
  P₃ t = T (second_passes r (second_of t)) × P₀ t

  abbrev P₂ : ℕ → Type 0
  P₂ t = T (minute_passes r (minute_of t)) × P₃ t

  abbrev P₁ : ℕ → Type 0
  P₁ t = T (hour_passes r (hour_of t)) × P₂ t

  abbrev second_part_lem : ℕ → ℕ → ℕ → List ℕ
  second_part_lem h m s = only (second_passes r s) ((h * 3600 + m * 60 + s) ∷ [])

  abbrev minute_part_lem : Bool → ℕ → ℕ → ℕ → List ℕ
  minute_part_lem c w h m = only (minute_passes r m) (covered c 60 w (second_part_lem h m))

  abbrev hour_part_lem : Bool → Bool → ℕ → ℕ → ℕ → List ℕ
  hour_part_lem b c v w h = only (hour_passes r h) (covered b 60 v (minute_part_lem c w h))

  seconds_are : (h m s : ℕ) → h < 24 → m < 60 → s < 60 → Lists (h * 3600 + m * 60 + s * 1) (h * 3600 + m * 60 + (s + 1) * 1) P₃ (second_part_lem h m s)
  seconds_are h m s x y z =
      tested P₀ (λ t. second_passes r (second_of t)) (second_passes r s) _ _ _ (omega arith)
      (λ t l k. let e : second_of t ≡ s = omega arith in ap (second_passes r) e)
      (single P₀ (h * 3600 + m * 60 + s) (h * 3600 + m * 60 + s * 1) (h * 3600 + m * 60 + (s + 1) * 1) (omega arith) (omega arith) tt)

  minute_is : (c : Bool) (w h m lo hi : ℕ) → h < 24 → m < 60 → lo ≤ hi → h * 3600 + m * 60 ≤ lo → hi ≤ h * 3600 + m * 60 + 60 → Lists lo hi P₃ (covered c 60 w (second_part_lem h m)) → Lists lo hi P₂ (minute_part_lem c w h m)
  minute_is c w h m lo hi x y le a b p =
      tested P₃ (λ t. minute_passes r (minute_of t)) (minute_passes r m) lo hi _ le (λ t l k. let e : minute_of t ≡ m = omega arith in ap (minute_passes r) e) p

  hour_is : (b c : Bool) (v w h lo hi : ℕ) → h < 24 → lo ≤ hi → h * 3600 ≤ lo → hi ≤ h * 3600 + 3600 → Lists lo hi P₂ (covered b 60 v (minute_part_lem c w h)) → Lists lo hi P₁ (hour_part_lem b c v w h)
  hour_is b c v w h lo hi x le a z p =
      tested P₂ (λ t. hour_passes r (hour_of t)) (hour_passes r h) lo hi _ le (λ t l k. let e : hour_of t ≡ h = omega arith in ap (hour_passes r) e) p

  -- a whole minute, a whole hour, a whole day
  minute_whole : (w h m : ℕ) → h < 24 → m < 60 → w < 60 → Lists (h * 3600 + m * 60) (h * 3600 + (m + 1) * 60) P₂ (minute_part_lem true w h m)
  minute_whole w h m x y z =
      minute_is true w h m (h * 3600 + m * 60) (h * 3600 + (m + 1) * 60) x y (omega arith) (omega arith) (omega arith)
      (between P₃ _ (h * 3600 + m * 60 + 60 * 1) _ (h * 3600 + (m + 1) * 60) _ refl (omega arith) (covers P₃ true (h * 3600 + m * 60) 1 60 w (second_part_lem h m) z (λ j k. seconds_are h m j x y k)))

  hour_whole : (v w h : ℕ) → h < 24 → v < 60 → w < 60 → Lists (0 + h * 3600) (0 + (h + 1) * 3600) P₁ (hour_part_lem true true v w h)
  hour_whole v w h x y z =
      between P₁ (h * 3600) (h * 3600 + 60 * 60) (0 + h * 3600) (0 + (h + 1) * 3600) _ (omega arith) (omega arith)
      (hour_is true true v w h (h * 3600) (h * 3600 + 60 * 60) x (omega arith) (omega arith) (omega arith)
      (covers P₂ true (h * 3600) 60 60 v (minute_part_lem true w h) y (λ j k. minute_whole w h j x k z)))

  -- the four kinds of period: of days, of an hour, of a minute, of a second
  of_days_lem : (b : ℕ) → Lists 0 86400 P₁ (covered true 24 (hour_of b) (hour_part_lem true true (minute_of b) (second_of b)))
  of_days_lem b = between P₁ 0 (0 + 24 * 3600) 0 86400 _ refl (omega arith) (covers P₁ true 0 3600 24 (hour_of b) _ (omega arith) (λ j k. hour_whole (minute_of b) (second_of b) j k (omega arith) (omega arith)))

  of_hour : (b : ℕ) → Lists (hour_of b * 3600) ((hour_of b + 1) * 3600) P₁ (covered false 24 (hour_of b) (hour_part_lem true true (minute_of b) (second_of b)))
  unfolding covered
  of_hour b = between P₁ _ _ _ _ _ (omega arith) (omega arith) (hour_whole (minute_of b) (second_of b) (hour_of b) (omega arith) (omega arith) (omega arith))

  of_minute : (b : ℕ) → Lists (hour_of b * 3600 + minute_of b * 60) (hour_of b * 3600 + (minute_of b + 1) * 60) P₁ (covered false 24 (hour_of b) (hour_part_lem false true (minute_of b) (second_of b)))
  unfolding covered
  of_minute b =
      hour_is false true (minute_of b) (second_of b) (hour_of b) _ _ (omega arith) (omega arith) (omega arith) (omega arith)
      (minute_whole (second_of b) (hour_of b) (minute_of b) (omega arith) (omega arith) (omega arith))

  of_second : (b : ℕ) → Lists (hour_of b * 3600 + minute_of b * 60 + second_of b * 1) (hour_of b * 3600 + minute_of b * 60 + (second_of b + 1) * 1) P₁ (covered false 24 (hour_of b) (hour_part_lem false false (minute_of b) (second_of b)))
  unfolding covered
  of_second b =
      hour_is false false (minute_of b) (second_of b) (hour_of b) _ _ (omega arith) (omega arith) (omega arith) (omega arith)
      (minute_is false (second_of b) (hour_of b) (minute_of b) _ _ (omega arith) (omega arith) (omega arith) (omega arith) (omega arith)
      (seconds_are (hour_of b) (minute_of b) (second_of b) (omega arith) (omega arith) (omega arith)))

  -- the times of one day
  abbrev shift : ℕ → List ℕ → List ℕ
  shift d ts = map (λ t. d * 86400 + t) ts

  shift_in : (d lo hi : ℕ) (ts : List ℕ) → In lo ts hi → In (d * 86400 + lo) (shift d ts) (d * 86400 + hi)
  shift_in d lo hi [] p = omega arith
  shift_in d lo hi (t ∷ ts) p = (omega arith, in_down _ _ (shift d ts) _ (omega arith) (shift_in d (suc t) hi ts p.1))

  shift_mem : (d : ℕ) (ts : List ℕ) (t : ℕ) → Memᴰ t ts → Memᴰ (d * 86400 + t) (shift d ts)
  shift_mem d [] t m = absurd (Memᴰ.not-nil m)
  shift_mem d (u ∷ ts) t m = ⊎_elim (λ (e : t ≡ u). let f : d * 86400 + t ≡ d * 86400 + u = omega arith in Memᴰ.head f) (λ (n : Memᴰ t ts). Memᴰ.tail (shift_mem d ts t n)) (Memᴰ.cases_cons m)

  shift_back : (d : ℕ) (ts : List ℕ) (s : ℕ) → Memᴰ s (shift d ts) → (t : ℕ) × Memᴰ t ts × (s ≡ d * 86400 + t)
  shift_back d [] s m = absurd (Memᴰ.not-nil m)
  shift_back d (u ∷ ts) s m =
      ⊎_elim (λ (e : s ≡ d * 86400 + u). (u, Memᴰ.head refl, e))
      (λ (n : Memᴰ s (shift d ts)). let q : (t : ℕ) × Memᴰ t ts × (s ≡ d * 86400 + t) = shift_back d ts s n in (q.0, Memᴰ.tail q.1, q.2))
      (Memᴰ.cases_cons m)

  same_time : (s t : ℕ) → hour_of s ≡ hour_of t → minute_of s ≡ minute_of t → second_of s ≡ second_of t → P₁ t → P₁ s
  same_time s t a b c p = (subst⁻¹ (λ (x : ℕ). T (hour_passes r x)) a p.0, (subst⁻¹ (λ (x : ℕ). T (minute_passes r x)) b p.1.0, (subst⁻¹ (λ (x : ℕ). T (second_passes r x)) c p.1.1.0, tt)))

  shifted : (d lo hi : ℕ) (ts : List ℕ) → hi ≤ 86400 → Lists lo hi P₁ ts → Lists (d * 86400 + lo) (d * 86400 + hi) P₁ (shift d ts)
  shifted d lo hi ts h w = record {
    rises = shift_in d lo hi ts w.rises;
    sound = λ s m. let q : (t : ℕ) × Memᴰ t ts × (s ≡ d * 86400 + t) = shift_back d ts s m in
        let e : s ≡ d * 86400 + q.0 = q.2 in
        same_time s q.0 (omega arith) (omega arith) (omega arith) (w.sound q.0 q.1);
    whole = λ s l k p. let e : s ≡ d * 86400 + (s - d * 86400) = omega arith in
        Memᴰ.cast e (shift_mem d ts (s - d * 86400) (w.whole (s - d * 86400) (omega arith) (omega arith) (same_time (s - d * 86400) s (omega arith) (omega arith) (omega arith) p)));
  }

  abbrev P : ℕ → Type 0
  P s = T (day_passes r (day_of s)) × P₁ s

  on_day : (d lo hi : ℕ) (ts : List ℕ) → hi ≤ 86400 → Lists lo hi P₁ ts → Lists (d * 86400 + lo) (d * 86400 + hi) P (only (day_passes r d) (shift d ts))
  on_day d lo hi ts h w =
      let k : lo ≤ hi = in_le lo ts hi w.rises in
      tested P₁ (λ s. day_passes r (day_of s)) (day_passes r d) _ _ _ (omega arith)
      (λ s l m. let e : day_of s ≡ d = omega arith in ap (day_passes r) e) (shifted d lo hi ts h w)

  -- a period of days, and one within a day
  days_are : (a n : ℕ) (ts : List ℕ) → Lists 0 86400 P₁ ts → Lists (a * 86400) ((a + n) * 86400) P (on_days r ts n a)
  unfolding on_days
  days_are a n ts w =
      between P (0 + a * 86400) (0 + (a + n) * 86400) _ _ _ (omega arith) (omega arith)
      (gathered P 0 86400 _ n a (λ j l k. between P (j * 86400 + 0) (j * 86400 + 86400) _ _ _ (omega arith) (omega arith) (on_day j 0 86400 ts (omega arith) w)))

  day_is : (d lo hi : ℕ) (ts : List ℕ) → hi ≤ 86400 → Lists lo hi P₁ ts → Lists (d * 86400 + lo) (d * 86400 + hi) P (on_days r ts 1 d)
  unfolding on_days gather
  day_is d lo hi ts h w = rw append-nil (on_day d lo hi ts h w)

-- what is claimed of a list: it rises, and holds what P tells of lo .. hi
record Listed (lo hi : ℕ) (P : ℕ → Type 0) (xs : List ℕ) : Type 0 where
  rises : RisesFrom 0 xs
  sound : (s : ℕ) → Memᴰ s xs → (lo ≤ s) × (s < hi) × P s
  whole : (s : ℕ) → lo ≤ s → s < hi → P s → Memᴰ s xs

rises_in : (lo hi : ℕ) (xs : List ℕ) → In lo xs hi → RisesFrom lo xs
rises_in lo hi [] p = tt
rises_in lo hi (x ∷ xs) p = (p.0, rises_in (suc x) hi xs p.1)

listed : (P : ℕ → Type 0) (lo hi : ℕ) (xs : List ℕ) → Lists lo hi P xs → Listed lo hi P xs
listed P lo hi xs w = record {
  rises = rises_in 0 hi xs (in_down 0 lo xs hi (omega arith) w.rises);
  sound = λ s m. (in_low lo hi xs w.rises s m, in_high lo hi xs w.rises s m, w.sound s m);
  whole = w.whole;
}

module _ (r : Rule) where
  abbrev At : ℕ → ℕ → List ℕ → Type 0
  At b e ts = Listed b e (P r) (on_days r ts ((e + 86399) / 86400 - day_of b) (day_of b))

  coarse : (a b : ℕ) (ts : List ℕ) → Lists 0 86400 (P₁ r) ts → At (a * 86400) (b * 86400) ts
  unfolding on_days gather
  coarse a b ts w =
      let x : day_of (a * 86400) ≡ a = omega arith in
      let y : (b * 86400 + 86399) / 86400 ≡ b = omega arith in
      rw (x, y) (⊎_elim (λ (h : b < a). let z : b - a ≡ 0 = omega arith in rw z (record { rises = tt; sound = λ s m. absurd (Memᴰ.not-nil m); whole = λ s l k p. absurd (let q : b * 86400 ≤ a * 86400 = omega arith in omega arith) }))
      (λ (h : a ≤ b). listed (P r) _ _ _ (between (P r) (a * 86400) ((a + (b - a)) * 86400) _ _ _ refl (omega arith) (days_are r a (b - a) ts w))) (below_or b a))

  fine : (b e lo hi : ℕ) (ts : List ℕ) → (e + 86399) / 86400 - day_of b ≡ 1 → day_of b * 86400 + lo ≡ b → day_of b * 86400 + hi ≡ e → hi ≤ 86400 → Lists lo hi (P₁ r) ts → At b e ts
  fine b e lo hi ts n x y h w = rw n (listed (P r) b e _ (between (P r) (day_of b * 86400 + lo) (day_of b * 86400 + hi) b e _ x y (day_is r (day_of b) lo hi ts h w)))

  abbrev times_at : Frequency → ℕ → List ℕ
  times_at f b = covered (is_below f Frequency.Hourly) 24 (hour_of b) (hour_part_lem r (is_below f Frequency.Minutely) (is_below f Frequency.Secondly) (minute_of b) (second_of b))

  all : (f : Frequency) (wkst s n : ℕ) → At (period_after f wkst s n).begins (period_after f wkst s n).ends (times_at f (period_after f wkst s n).begins)
  unfolding period_after
  all Frequency.Yearly wkst s n = coarse _ _ _ (of_days_lem r _)
  all Frequency.Monthly wkst s n = coarse _ _ _ (of_days_lem r _)
  all Frequency.Weekly wkst s n = coarse _ _ _ (of_days_lem r _)
  all Frequency.Daily wkst s n = coarse (s / 86400 + n) (s / 86400 + n + 1) _ (of_days_lem r _)
  all Frequency.Hourly wkst s n = let t : ℕ = s / 3600 + n in fine (t * 3600) ((t + 1) * 3600) _ _ _ (omega arith) (omega arith) (omega arith) (omega arith) (of_hour r (t * 3600))
  all Frequency.Minutely wkst s n = let t : ℕ = s / 60 + n in fine (t * 60) ((t + 1) * 60) _ _ _ (omega arith) (omega arith) (omega arith) (omega arith) (of_minute r (t * 60))
  all Frequency.Secondly wkst s n = let t : ℕ = s + n in fine (t * 1) ((t + 1) * 1) _ _ _ (omega arith) (omega arith) (omega arith) (omega arith) (of_second r (t * 1))

  -- the same of any days, where the periods are weeks
  any_days : (f : Frequency) → f ≡ Frequency.Weekly → (a b : ℕ) → At (a * 86400) (b * 86400) (times_at f (a * 86400))
  any_days f e a b = rw e (coarse a b _ (of_days_lem r _))

and_in : (a b : Bool) → T a → T b → T (a && b)
and_in true b x y = y
and_in false b x y = x

and_left : (a b : Bool) → T (a && b) → T a
and_left true b x = tt
and_left false b x = x

and_right : (a b : Bool) → T (a && b) → T b
and_right true b x = x
and_right false b x = absurd x

module _ (r : Rule) (s : ℕ) where
  abbrev h : Bool
  h = hour_passes r (hour_of s)

  abbrev m : Bool
  m = minute_passes r (minute_of s)

  abbrev c : Bool
  c = second_passes r (second_of s)

  time_in_lem : P₁ r s → T (time_passes r s)
  unfolding time_passes
  time_in_lem p = and_in (h && m) c (and_in h m p.0 p.1.0) p.1.1.0

  time_out : T (time_passes r s) → P₁ r s
  unfolding time_passes
  time_out p = (and_left h m (and_left (h && m) c p), (and_right h m (and_left (h && m) c p), (and_right (h && m) c p, tt)))

-- what is listed from lo up to hi, in words
abbrev pub Inside : Rule → (lo hi s : ℕ) → Type 0
Inside r lo hi s = (lo ≤ s) × (s < hi) × (day_passes r (day_of s) ≡ true) × (time_passes r s ≡ true)

inside : (r : Rule) (lo hi : ℕ) (xs : List ℕ) → Listed lo hi (P r) xs → (s : ℕ) → (s ∈ xs) ↔ Inside r lo hi s
inside r lo hi xs w s = (
  λ m. let q : (lo ≤ s) × (s < hi) × P r s = w.sound s (member s _ m) in (q.0, q.1, yes _ q.2.0, yes _ (time_in_lem r s q.2.1)),
  λ q. in_list s _ (w.whole s q.0 q.1 (holds q.2, time_out r s (holds q.3))),
)

pub week_days_are : (r : Rule) → r.freq ≡ Frequency.Weekly → (a b s : ℕ) → (s ∈ candidates_of r (of_days a b)) ↔ Inside r (a * 86400) (b * 86400) s
unfolding candidates_of times
week_days_are r e a b s = inside r (a * 86400) (b * 86400) _ (any_days r r.freq e a b) s

whole_period : (r : Rule) (k : ℕ) → Listed (period r k).begins (period r k).ends (P r) (candidates r k)
unfolding candidates candidates_of times period
whole_period r k = all r r.freq r.wkst (second r.start) (k * r.interval)

pub candidates_are : CandidatesAre
candidates_are r k = ((whole_period r k).rises, λ s. (into s, out_of s))
  where
    own : (s : ℕ) → (s ∈ candidates r k) ↔ Inside r (period r k).begins (period r k).ends s
    own s = inside r _ _ _ (whole_period r k) s

    into : (s : ℕ) → s ∈ candidates r k → Candidate r k s
    into s m = let q = (own s).0 m in record { begun = q.0; before_end = q.1; day = q.2; time = q.3 }

    out_of : (s : ℕ) → Candidate r k s → s ∈ candidates r k
    out_of s c = (own s).1 (c.begun, c.before_end, c.day, c.time)
