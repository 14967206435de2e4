-- When a function asks nothing of its callers. For functions of any crate.
-- Assumes nothing.
use Prim.Native.Nat.{ℕ}
use mathlib.Core.List.{List}
use base.Logic.{ent, emp, id⊢}
use contract.Lifetimes.{Lfts}
use borrow.Fn.Kinds.{ParamKind, Dens}
use borrow.Fn.World.{World, Pr}

-- a `requires` as the source states it, of the arguments: what is claimed of them, and what is held
abbrev pub Required : (n : ℕ) (ps : List (ParamKind n)) → Type 2
Required n ps = (κs : Lfts n) → Dens κs ps → Unit {0} → (w : World) → Pr w

-- whatever the arguments, it follows from nothing
abbrev pub AsksNothing : (n : ℕ) (ps : List (ParamKind n)) → Required n ps → Type 2
AsksNothing n ps required = (κs : Lfts n) (a : Dens κs ps) (w : World) → ent w.𝓤 (emp w.𝓤) (required κs a tt w)

-- so it is where no `requires` is written
pub nothing_asked : (w : World) → ent w.𝓤 (emp w.𝓤) (emp w.𝓤)
nothing_asked w = id⊢ w.𝓤 (emp w.𝓤)
