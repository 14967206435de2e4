-- The entries of BYDAY, as they are put.
-- Assumes nothing.
use Prim.Native.Nat.{ℕ, suc, ◌<◌, ◌≤◌}
use mathlib.Core.Path.{◌≡◌, refl, sym}
use mathlib.Core.List.{List, [], ◌∷◌, ◌++◌}
use native.Mathlib.Omega.{arith}
use mathlib.Core.Logic.{◌⊎◌, inl, inr}
use lib.ListN.{length, get_or}
use lib.IntN.{ℤ, pos}
use Rattle.symbols.specs.Languages.{both, word_at}
use Rattle.recur.specs.Grammar.{names, weekday_names}
use Rattle.recur.specs.Writing.{nth_text, day_text, weekday_number, paired, day_part}
use Rattle.recur.specs.Pieces.{parts_behind, entries_behind}
use Rattle.recur.proofs.WrittenPieces.{behind_days}
use Rattle.display.proofs.PartLaws.{rest_of, rest_is}

-- an entry of BYDAY
pub day_parts : (n : ℤ) (w : ℕ) → nth_text n ++ word_at weekday_names w ≡ day_text (both n w)
unfolding day_text
day_parts n w = refl

-- an entry of the two lists
abbrev pub day : ℤ → ℤ → List ℕ
day n w = day_text (both n (weekday_number w))

abbrev pub days_behind : List ℤ → List ℤ → List ℕ
days_behind ns ws = entries_behind day_text (paired ns ws)

-- no entry; and the first entry
pub no_days_lem : (ns ws : List ℤ) → length ns < 1 → [] ≡ parts_behind (day_part (paired ns ws))
unfolding parts_behind paired
no_days_lem [] ws h = refl
no_days_lem (n ∷ ns) ws h = absurd (omega arith)

pub no_weekdays : (ns ws : List ℤ) → length ws < 1 → [] ≡ parts_behind (day_part (paired ns ws))
unfolding parts_behind paired
no_weekdays [] ws h = refl
no_weekdays (n ∷ ns) [] h = refl
no_weekdays (n ∷ ns) (w ∷ ws) h = absurd (omega arith)

pub days_here : (ns ws : List ℤ) (n w : ℤ) → 1 ≤ length ns → 1 ≤ length ws → n ≡ get_or ns 0 (pos 0) → w ≡ get_or ws 0 (pos 0)
    → 59 ∷ (word_at names 9 ++ (day n w ++ days_behind (rest_of ns) (rest_of ws))) ≡ parts_behind (day_part (paired ns ws))
unfolding paired
days_here [] ws n w h g e f = absurd (omega arith)
days_here (m ∷ ns) [] n w h g e f = absurd (omega arith)
days_here (m ∷ ns) (v ∷ ws) n w h g e f = rw (e, f, rest_is m ns, rest_is v ws) (sym (behind_days (both m (weekday_number v)) (paired ns ws)))

-- an entry more; and no more
pub day_next : {ns ws ms vs : List ℤ} {n w : ℤ} (m v : ℤ) → m ≡ n → v ≡ w → ns ≡ n ∷ ms → ws ≡ w ∷ vs
    → 44 ∷ (day m v ++ days_behind ms vs) ≡ days_behind ns ws
unfolding entries_behind paired
day_next m v e f g h = rw (e, f, g, h)

pub days_over : {I : Type 0} {P Q : I → Type 0} (ns ws : List ℤ)
    → ((x : I) × ((length ns ≡ 0) × P x)) ⊎ ((x : I) × ((length ws ≡ 0) × Q x)) → days_behind ns ws ≡ []
unfolding entries_behind paired
days_over [] ws h = refl
days_over (n ∷ ns) [] h = refl
days_over (n ∷ ns) (w ∷ ws) (inl h) = let e : suc (length ns) ≡ 0 = h.1.0 in absurd (omega arith)
days_over (n ∷ ns) (w ∷ ws) (inr h) = let e : suc (length ws) ≡ 0 = h.1.0 in absurd (omega arith)
