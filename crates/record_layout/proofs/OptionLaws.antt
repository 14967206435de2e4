-- A flag as a byte, and an option as a tag and a number.
-- Assumes nothing.
use Rattle.std.proofs.Common.{◌≡◌, refl, ℕ, Bool, true, false, Option, Some, None, is_some, unwrap_or, not, eqb, if◌then◌else◌}
use Rattle.std.specs.Bool.{then_some}
use mir.Val.{bool_byte}
use Rattle.edge.specs.Bytes.{flag_byte}
use Rattle.edge.specs.Layout.{tag_of, number_of, option_of}

pub bit_is : (b : Bool) → bool_byte b ≡ flag_byte b
bit_is true = refl
bit_is false = refl

pub tag_is : (o : Option ℕ) → bool_byte (is_some o) ≡ tag_of o
tag_is None = refl
tag_is (Some n) = refl

pub number_is : (o : Option ℕ) → unwrap_or o 0 ≡ number_of o
number_is None = refl
number_is (Some n) = refl

pub option_is : {A : Type 0} (tag : ℕ) (x : A) → then_some (not (eqb tag 0)) x ≡ option_of tag x
option_is {A} tag x = go (eqb tag 0)
  where
    go : (b : Bool) → then_some (not b) x ≡ (if b then None else Some x)
    go true = refl
    go false = refl
