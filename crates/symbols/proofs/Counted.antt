-- A number in digits is read as far as it may go.
-- Assumes nothing.
use Prim.Native.Nat.{ℕ, ◌+◌, ◌-◌, ◌*◌, ◌≤◌}
use native.Mathlib.Omega.{arith}
use mathlib.Core.Path.{◌≡◌, refl, ap, ◌∙◌}
use mathlib.Core.Bool.{Bool, true, false}
use mathlib.Core.List.{List, [], ◌∷◌, ◌++◌}
use lib.ListN.{length}
use Rattle.symbols.specs.Takes.{Took, took, Stop, Outcome, Takes}
use Rattle.symbols.specs.Readers.{Counting, may_take, Digits, digits}

-- the value v with the digit b behind it
abbrev grown : ℕ → ℕ → ℕ
grown v b = v * 10 + (b - 48)

module _ (g : Counting) (P : ℕ → Type 0) (Reached : ℕ → ℕ → Type 0)
    (on : (n v b : ℕ) → Reached n v → may_take g n v b ≡ true → Reached (n + 1) (v * 10 + (b - 48)))
    (ended : (n v : ℕ) → Reached n v → (w : ℕ) × (xs : List ℕ) × Digits g n v w xs)
    (stops : (n v b : ℕ) → Reached n v → g.enough n v ≡ true → P b → may_take g n v b ≡ false) where
  abbrev D : ℕ → ℕ → ℕ → List ℕ → Type 0
  D n v = Digits g n v

  abbrev halted : ℕ → ℕ → ℕ → List ℕ → Took ℕ
  halted n v at t = took (g.enough n v) at t v

  -- one step of the reader
  at_end : (n v at : ℕ) → digits g n v at [] ≡ halted n v at []
  unfolding digits
  at_end n v at = refl

  step : (n v at b : ℕ) (t : List ℕ) → may_take g n v b ≡ true → digits g n v at (b ∷ t) ≡ digits g (n + 1) (grown v b) (at + 1) t
  unfolding digits
  step n v at b t e = rw (e, digits)

  halt : (n v at b : ℕ) (t : List ℕ) → may_take g n v b ≡ false → digits g n v at (b ∷ t) ≡ halted n v at (b ∷ t)
  unfolding digits
  halt n v at b t e = rw (e, digits)

  here : (n v at : ℕ) (t : List ℕ) → Reached n v → Outcome ℕ (D n v) at t (halted n v at t)
  unfolding Digits
  here n v at t i = record {
    used = [];
    cut = refl;
    stands = omega arith;
    good = λ w. (w, refl);
    some = (ended n v i).0;
    more = (ended n v i).1;
    begins = (ended n v i).2;
  }

  longer : (n v at b : ℕ) (t : List ℕ) (k : Took ℕ) → may_take g n v b ≡ true → Outcome ℕ (D (n + 1) (grown v b)) (at + 1) t k
      → Outcome ℕ (D n v) at (b ∷ t) k
  unfolding Digits
  longer n v at b t k e o = record {
    used = b ∷ o.used;
    cut = ap (λ (x : List ℕ). b ∷ x) o.cut;
    stands = o.stands ∙ (omega arith);
    good = λ w. (e, o.good w);
    some = o.some;
    more = o.more;
    begins = (e, o.begins);
  }

  outcomes : (t : List ℕ) (n v at : ℕ) → Reached n v → Outcome ℕ (D n v) at t (digits g n v at t)
  outcomes [] n v at i = rw at_end (here n v at [] i)
  outcomes (b ∷ t) n v at i = go (may_take g n v b) refl (outcomes t (n + 1) (grown v b) (at + 1))
    where
      go : (x : Bool) → may_take g n v b ≡ x
          → (Reached (n + 1) (grown v b) → Outcome ℕ (D (n + 1) (grown v b)) (at + 1) t (digits g (n + 1) (grown v b) (at + 1) t))
          → Outcome ℕ (D n v) at (b ∷ t) (digits g n v at (b ∷ t))
      go true e q = rw (step n v at b t e) (longer n v at b t (digits g (n + 1) (grown v b) (at + 1) t) e (q (on n v b i e)))
      go false e q = rw (halt n v at b t e) (here n v at (b ∷ t) i)

  ended_here : (n v at w : ℕ) (r : List ℕ) → D n v w [] → halted n v at r ≡ took true (at + 0) r w
  unfolding Digits
  ended_here n v at w r d = rw (d.0, d.1) (ap (λ (m : ℕ). took true m r v) (omega arith))

  fulls : (xs : List ℕ) (n v at w : ℕ) (r : List ℕ) → Reached n v → D n v w xs → Stop P r
      → digits g n v at (xs ++ r) ≡ took true (at + length xs) r w
  unfolding Digits
  fulls [] n v at w [] i d h = at_end n v at ∙ ended_here n v at w [] d
  fulls [] n v at w (b ∷ r) i d h = halt n v at b r (stops n v b i d.0 h) ∙ ended_here n v at w (b ∷ r) d
  fulls (b ∷ xs) n v at w r i d h =
      step n v at b (xs ++ r) d.0
      ∙ fulls xs (n + 1) (grown v b) (at + 1) w r (on n v b i d.0) d.1 h
      ∙ ap (λ (m : ℕ). took true m r w) (omega arith)

  fars : (p : List ℕ) (n v at w : ℕ) (ys r : List ℕ) → Reached n v → D n v w (p ++ ys) → at + length p ≤ (digits g n v at (p ++ r)).place
  unfolding Digits
  fars [] n v at w ys r i d = omega (arith, (outcomes r n v at i).stands)
  fars (b ∷ p) n v at w ys r i d =
      rw (step n v at b (p ++ r) d.0) (omega (arith, fars p (n + 1) (grown v b) (at + 1) w ys r (on n v b i d.0) d.1))

  pub takes_digits : (n v : ℕ) → Reached n v → Takes ℕ (digits g n v) (D n v) P
  takes_digits n v i = record {
    outcome = λ at t. outcomes t n v at i;
    full = λ at w xs r d h. fulls xs n v at w r i d h;
    far = λ at w p ys r d. fars p n v at w ys r i d;
  }
