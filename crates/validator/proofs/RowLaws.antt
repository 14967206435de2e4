-- The rows of the table one after the other: the verdict of those before, and then a row's.
-- Assumes nothing.
use Rattle.std.proofs.Common.{◌≡◌, refl, ap, ◌∙◌, Bool, List, ◌∷◌, Ok, Err}
use Rattle.std.specs.Result.{result_and}
use Rattle.rule.specs.declared.rrule.Refusal.{Refusal}
use Rattle.rule.specs.Raw.{Raw}
use Rattle.rule.specs.Refusals.{Verdict, applies}
use Rattle.rule.specs.Entries.{or_refused}
use Rattle.rule.proofs.CheckLaws.{Judged, row}

and_row : (v : Verdict) (n : Refusal) (b : Bool) → result_and v (or_refused (Ok tt) n b) ≡ or_refused v n b
unfolding or_refused
and_row (Err m) n b = refl
and_row (Ok u) n b = refl

pub row_behind : {w : Raw} {v x y : Verdict} {n : Refusal} {ns : List Refusal} {b : Bool} → Judged w v (n ∷ ns) → x ≡ result_and v y
    → y ≡ or_refused (Ok tt) n b → b ≡ applies n w → Judged w x ns
row_behind {v = v} {n = n} {b = b} j e f g = row j (e ∙ ap (result_and v) f ∙ and_row v n b) g
