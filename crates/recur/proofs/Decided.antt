-- What is read is what is good, and a refused text is refused at its longest good beginning.
-- Assumes nothing.
use Rattle.std.specs.Prelude.{if◌then◌else◌, Ok, Err}
use Prim.Native.Nat.{ℕ, ◌+◌, ◌≤◌}
use native.Mathlib.Omega.{arith}
use mathlib.Core.Path.{◌≡◌, refl, sym, ap, ◌∙◌, subst}
use mathlib.Core.Bool.{Bool, true, false, ◌&&◌}
use mathlib.Core.List.{List, [], ◌∷◌, ◌++◌, append-nil, append_assoc}
use lib.ListN.{length, take, drop, length-append, take-append-drop}
use lib.Seq.{length-take-le, take_at}
use borrow.Author.Tests.{lt-ltb, le-ltb}
use Rattle.rule.specs.Raw.{Raw}
use Rattle.symbols.specs.Takes.{Took, took, Outcome, Takes}
use Rattle.symbols.proofs.Cuts.{and_both}
use Rattle.recur.specs.Grammar.{none_used, Part, Parts, value_in, rule_of, is_there, Good, Begins}
use Rattle.recur.specs.Reading.{parts_at, Read, is_none, is_whole, judged, longest, read_of}
use Rattle.recur.specs.Claims.{ReadDecides, OneReading, LongestBeginning, RefusedAt, TooLong, BeginsDown}
use Rattle.recur.proofs.Flags.{left_all}
use Rattle.recur.proofs.Taken.{takes_parts}
use Rattle.recur.proofs.FreqAdded.{begins_parts}

-- the parts of a text
abbrev parts_in : List ℕ → Took (List Part)
parts_in t = parts_at 13 (none_used 14) 0 t

taken : Takes (List Part) (parts_at 13 (none_used 14)) Parts (λ (b : ℕ). ⊥)
taken = takes_parts 13 (none_used 14) left_all

-- ---- what is read, by the text's length

pub too_long : TooLong
unfolding read_of
too_long t h = ap (λ (b : Bool). elim b as (λ (x : Bool). Read) [ true ↦ Err longest | false ↦ judged (parts_in t) ]) (lt-ltb longest (length t) h)

pub read_by : (t : List ℕ) → length t ≤ longest → read_of t ≡ judged (parts_in t)
unfolding read_of
read_by t h = ap (λ (b : Bool). elim b as (λ (x : Bool). Read) [ true ↦ Err longest | false ↦ judged (parts_in t) ]) (le-ltb longest (length t) h)

-- ---- a rule

-- nothing stands behind the parts
full_parts : (t : List ℕ) (ps : List Part) → Parts ps t → parts_in t ≡ took true (0 + length t) [] ps
full_parts t ps j = ap (λ (x : List ℕ). parts_in x) (sym (append-nil t)) ∙ taken.full 0 ps t [] j tt

-- where the parts are whole, nothing is left and FREQ is there, the text is good
whole_good : (t : List ℕ) (k : Took (List Part)) → Outcome (List Part) Parts 0 t k → is_whole k ≡ true → Good t (rule_of k.value)
whole_good t k o e =
    let a : (k.whole ≡ true) × ((is_none k.rest && is_there (value_in 0 k.value)) ≡ true) = and_both _ _ e in
    let b : (is_none k.rest ≡ true) × (is_there (value_in 0 k.value) ≡ true) = and_both _ _ a.1 in
    record {
      parts = k.value;
      joined = subst (λ (x : List ℕ). Parts k.value x) (all_used k.rest b.0 o.cut) (o.good a.0);
      freq_there = b.1;
      rule = refl;
    }
  where
    all_used : (r : List ℕ) → is_none r ≡ true → t ≡ o.used ++ r → o.used ≡ t
    all_used [] e f = sym (f ∙ append-nil o.used)
    all_used (b ∷ r) e f = absurd (let z : ◌≡◌ {A = ℕ} 0 1 = cc in omega arith)

judged_good : (t : List ℕ) (w : Raw) (k : Took (List Part)) → Outcome (List Part) Parts 0 t k → judged k ≡ Ok w → Good t w
judged_good t w k o e = go (is_whole k) refl e
  where
    go : (b : Bool) → is_whole k ≡ b → (if b then Ok (rule_of k.value) else Err k.place) ≡ Ok w → Good t w
    go true f g = subst (λ (v : Raw). Good t v) (let z : rule_of k.value ≡ w = cc in z) (whole_good t k o f)
    go false f g = absurd (let z : ◌≡◌ {A = ℕ} 0 1 = cc in omega arith)

judged_whole : (n : ℕ) (ps : List Part) → is_there (value_in 0 ps) ≡ true → judged (took true n [] ps) ≡ Ok (rule_of ps)
judged_whole n ps e = ap (λ (b : Bool). if b then Ok (rule_of ps) else Err n) e

pub read_decides : ReadDecides
read_decides t w h = (
  λ e. judged_good t w (parts_in t) (taken.outcome 0 t) (sym (read_by t h) ∙ e),
  λ g. read_by t h ∙ ap (λ (k : Took (List Part)). judged k) (full_parts t g.parts g.joined) ∙ judged_whole (0 + length t) g.parts g.freq_there
      ∙ ap (λ (v : Raw). Ok v) (sym g.rule),
)

pub one_reading : OneReading
one_reading t w v g h =
    let e : g.parts ≡ h.parts = ap (λ (k : Took (List Part)). k.value) (sym (full_parts t g.parts g.joined) ∙ full_parts t h.parts h.joined) in
    g.rule ∙ ap rule_of e ∙ sym h.rule

-- ---- a refusal

judged_place : (n : ℕ) (k : Took (List Part)) → judged k ≡ Err n → k.place ≡ n
judged_place n k e = go (is_whole k) e
  where
    go : (b : Bool) → (if b then Ok (rule_of k.value) else Err k.place) ≡ Err n → k.place ≡ n
    go true f = absurd (let z : ◌≡◌ {A = ℕ} 0 1 = cc in omega arith)
    go false f = cc

-- whatever begins a good text begins parts, and the reader goes as far as these
none_further : (t : List ℕ) (m : ℕ) → m ≤ length t → Begins (take m t) → m ≤ (parts_in t).place
none_further t m h b =
    let f : 0 + length (take m t) ≤ (parts_in t).place =
    subst (λ (x : List ℕ). 0 + length (take m t) ≤ (parts_in x).place) (take-append-drop m t)
    (taken.far 0 b.good.parts (take m t) b.more (drop m t) b.good.joined) in
    let l : length (take m t) ≡ m = length-take-le m t h in
    omega arith

-- where the reader stopped, whole or not
stops_at : (t : List ℕ) → Outcome (List Part) Parts 0 t (parts_in t) → LongestBeginning t (parts_in t).place
stops_at t o =
    let l : length t ≡ length o.used + length (parts_in t).rest = ap length o.cut ∙ length-append o.used (parts_in t).rest in
    let s : length o.used ≡ (parts_in t).place = omega (arith, o.stands) in
    let u : take (parts_in t).place t ≡ o.used =
    ap (λ (x : List ℕ). take (parts_in t).place x) o.cut ∙ take_at o.used (parts_in t).rest (parts_in t).place s in
    record {
      inside = omega arith;
      begins = subst (λ (x : List ℕ). Begins x) (sym u) (begins_parts o.some o.used o.more o.begins);
      none_longer = none_further t;
    }

pub refused_at : RefusedAt
refused_at t n h e =
    subst (λ (m : ℕ). LongestBeginning t m) (judged_place n (parts_in t) (sym (read_by t h) ∙ e)) (stops_at t (taken.outcome 0 t))

pub begins_down : BeginsDown
begins_down p q b =
    let g : Good ((p ++ q) ++ b.more) b.rule = b.good in
    record { more = q ++ b.more; rule = b.rule; good = subst (λ (x : List ℕ). Good x b.rule) (append_assoc p q b.more) g }
