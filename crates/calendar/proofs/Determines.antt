-- When a promise determines the answer, and what is left in a lent buffer. For functions of any crate.
-- Assumes nothing.
use Prim.Native.Nat.{ℕ}
use mathlib.Core.Path.{◌≡◌, sym, ◌∙◌}
use mathlib.Core.List.{List}
use contract.Lifetimes.{Lfts}
use denote.Triple.Clauses.{AtExit}
use borrow.Fn.Kinds.{ParamKind, ResultKind, Out, Dens, res_t, ended_of}

-- a promise that allows one answer for each input
abbrev pub Determines : (n : ℕ) (ps : List (ParamKind n)) (r : ResultKind n) → Out n ps r → Type 0
Determines n ps r P =
    (κs : Lfts n) (a : Dens κs ps) (x y : (res_t r κs).Denot) (e f : AtExit (ended_of n ps r) κs) → P κs a x e → P κs a y f → x ≡ y

-- what a function leaves, read off its parameters at exit: of a lent buffer, its whole list
abbrev pub Left : (n : ℕ) (ps : List (ParamKind n)) (r : ResultKind n) → Type 0 → Type 0
Left n ps r B = (κs : Lfts n) → AtExit (ended_of n ps r) κs → B

-- a promise that allows one answer and one thing left for each input
abbrev pub DeterminesBuffer : (n : ℕ) (ps : List (ParamKind n)) (r : ResultKind n) (B : Type 0) → Left n ps r B → Out n ps r → Type 0
DeterminesBuffer n ps r B left P =
    (κs : Lfts n) (a : Dens κs ps) (x y : (res_t r κs).Denot) (e f : AtExit (ended_of n ps r) κs) → P κs a x e → P κs a y f
    → (x ≡ y) × (left κs e ≡ left κs f)

-- two values that equal a third are equal
pub one_answer : {A : Type 0} {x y z : A} → x ≡ z → y ≡ z → x ≡ y
one_answer p q = p ∙ sym q
