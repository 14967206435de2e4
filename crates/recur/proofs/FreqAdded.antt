-- Parts that lack FREQ can have it behind them. So whatever begins a list of parts begins a good text.
-- Assumes nothing.
use Rattle.std.specs.Prelude.{if◌then◌else◌}
use Prim.Native.Nat.{ℕ, zero, suc}
use native.Mathlib.Omega.{arith}
use mathlib.Core.Path.{◌≡◌, refl, sym, ap, ◌∙◌, subst}
use mathlib.Core.Bool.{Bool, true, false}
use mathlib.Core.List.{List, [], ◌∷◌, ◌++◌, append_assoc}
use lib.Dec.{eqb}
use lib.Seq.{get_or-set_other}
use borrow.Author.Tests.{eqb-false}
use Rattle.symbols.specs.Languages.{is_used, word_at, both, Joined, Joined.one, Joined.more}
use Rattle.recur.specs.Grammar.{names, frequencies, none_used, Value, number, Part, Kind, frequency, up_to_high, moment, weekday, entries, day_entries}
use Rattle.recur.specs.Grammar.{kind_of, ValueText, PartText, with_used, semicolon, Parts, value_in, rule_of, is_there, Begins}
use Rattle.recur.proofs.Flags.{open_in, one_less, Left, left_all, left_less}

-- FREQ=DAILY
abbrev freq_daily : List ℕ
freq_daily = word_at names 0 ++ word_at frequencies 3

abbrev daily : Part
daily = both 0 (number 3)

daily_text : (s : List Bool) → is_used s 0 ≡ false → PartText s daily freq_daily
unfolding none_used
daily_text s u = record {
  xs = word_at names 0;
  ys = word_at frequencies 3;
  left = record { there = omega arith; unused = u; same = refl };
  right = record { from = 3; spelled = record { there = omega arith; unused = refl; same = refl }; turned = refl };
  whole = refl;
}

-- what is spelled is there, whatever the kind
value_there : (k : Kind) (v : Value) (bs : List ℕ) → ValueText k v bs → is_there v ≡ true
value_there frequency v bs d = ap is_there d.turned
value_there (up_to_high high) v bs d = ap is_there d.turned
value_there moment v bs d = ap is_there d.turned
value_there weekday v bs d = ap is_there d.turned
value_there (entries signs) v bs d = ap is_there d.turned
value_there day_entries v bs d = ap is_there d.turned

-- A part of a list that lacks FREQ: it isn't FREQ's, and so FREQ stays open behind it.
record Other (s : List Bool) (p : Part) (ps : List Part) : Type 0 where
  other : eqb p.first 0 ≡ false
  rest : is_there (value_in 0 ps) ≡ false
  still : is_used (with_used s p) 0 ≡ false

lacks : (s : List Bool) (p : Part) (ps : List Part) (xs : List ℕ) → PartText s p xs → is_used s 0 ≡ false → is_there (value_in 0 (p ∷ ps)) ≡ false
    → Other s p ps
unfolding value_in
lacks s p ps xs d u e = go (eqb p.first 0) refl e
  where
    go : (b : Bool) → eqb p.first 0 ≡ b → is_there (if b then p.second else value_in 0 ps) ≡ false → Other s p ps
    go true f g =
        let h : is_there p.second ≡ true = value_there (kind_of p.first) p.second d.ys d.right in
        absurd (let z : ◌≡◌ {A = ℕ} 0 1 = cc in omega arith)
    go false f g = record { other = f; rest = g; still = get_or-set_other s p.first 0 true true (λ z. eqb-false p.first 0 f (sym z)) ∙ u }

-- the parts with FREQ behind them
record Added (n : ℕ) (s : List Bool) (zs : List ℕ) : Type 0 where
  parts : List Part
  joined : Joined (List Bool) Part with_used PartText semicolon n s parts (zs ++ semicolon ∷ freq_daily)
  there : is_there (value_in 0 parts) ≡ true

pass_by : (p : Part) (ps : List Part) → eqb p.first 0 ≡ false → is_there (value_in 0 ps) ≡ true → is_there (value_in 0 (p ∷ ps)) ≡ true
unfolding value_in
pass_by p ps e f = ap (λ (b : Bool). is_there (if b then p.second else value_in 0 ps)) e ∙ f

-- behind the last part FREQ is open, so it isn't the fourteenth
freq_added : (n : ℕ) (s : List Bool) (ps : List Part) (zs : List ℕ) → Joined (List Bool) Part with_used PartText semicolon n s ps zs → Left n s
    → is_used s 0 ≡ false → is_there (value_in 0 ps) ≡ false → Added n s zs
unfolding value_in
freq_added zero s [] zs j i u e = elim j [ ]
freq_added zero s (p ∷ (q ∷ qs)) zs j i u e = elim j [ ]
freq_added (suc n) s [] zs j i u e = elim j [ ]
freq_added zero s (p ∷ []) zs (one l) i u e =
    let o : Other s p [] = lacks s p [] zs l u e in
    let a : open_in s ≡ suc (open_in (with_used s p)) = one_less s p.first l.left.unused in
    let b : open_in (with_used s p) ≡ suc _ = one_less (with_used s p) 0 o.still in
    absurd (omega arith)
freq_added (suc n) s (p ∷ []) zs (one l) i u e =
    let o : Other s p [] = lacks s p [] zs l u e in
    record {
      parts = p ∷ daily ∷ [];
      joined = more zs freq_daily l (one (daily_text (with_used s p) o.still)) refl;
      there = pass_by p (daily ∷ []) o.other refl;
    }
freq_added (suc n) s (p ∷ ps) zs (more xs ys l j w) i u e =
    let o : Other s p ps = lacks s p ps xs l u e in
    let k : Added n (with_used s p) ys = freq_added n (with_used s p) ps ys j (left_less n s p.first l.left.unused i) o.still o.rest in
    record {
      parts = p ∷ k.parts;
      joined = more xs (ys ++ semicolon ∷ freq_daily) l k.joined (ap (λ (x : List ℕ). x ++ semicolon ∷ freq_daily) w ∙ append_assoc xs (semicolon ∷ ys) _);
      there = pass_by p k.parts o.other k.there;
    }

-- Where FREQ is there the text is good as it stands, else with FREQ behind it.
pub begins_parts : (ps : List Part) (p q : List ℕ) → Parts ps (p ++ q) → Begins p
unfolding none_used
begins_parts ps p q j = go (is_there (value_in 0 ps)) refl
  where
    go : (b : Bool) → is_there (value_in 0 ps) ≡ b → Begins p
    go true e = record { more = q; rule = rule_of ps; good = record { parts = ps; joined = j; freq_there = e; rule = refl } }
    go false e =
        let k : Added 13 (none_used 14) (p ++ q) = freq_added 13 (none_used 14) ps (p ++ q) j left_all refl e in
        record {
          more = q ++ semicolon ∷ freq_daily;
          rule = rule_of k.parts;
          good = record {
            parts = k.parts;
            joined = subst (λ (x : List ℕ). Parts k.parts x) (append_assoc p q (semicolon ∷ freq_daily)) k.joined;
            freq_there = k.there;
            rule = refl;
          };
        }
