-- What is claimed of written texts: they are good texts of their rules, fit, and read back.
-- Assumes nothing.
use Rattle.std.specs.Prelude.{Ok}
use Prim.Native.Nat.{◌<◌}
use native.Mathlib.Omega.{arith}
use mathlib.Core.Path.{◌≡◌, refl, ap, sym, ◌∙◌}
use mathlib.Core.List.{List, ◌∷◌, ◌++◌}
use lib.ListN.{length-append}
use borrow.Author.Tests.{ltb-false}
use Rattle.rule.specs.declared.rrule.Refusal.{Refusal}
use Rattle.rule.specs.Raw.{Raw}
use Rattle.rule.specs.Refusals.{verdict}
use Rattle.rule.proofs.RefusalLaws.{none_given}
use Rattle.symbols.specs.Languages.{both}
use Rattle.recur.specs.Grammar.{none_used, number, Part, PartText, value_in}
use Rattle.recur.specs.Reading.{read_of}
use Rattle.recur.specs.Writing.{part_text, text_of}
use Rattle.recur.specs.Claims.{Writable, WrittenIsGood, WrittenFits, ReadsBack, WrittenOnce}
use Rattle.recur.proofs.Decided.{read_decides}
use Rattle.recur.specs.Pieces.{parts_behind}
use Rattle.recur.proofs.WrittenPieces.{text_first}
use Rattle.recur.proofs.WrittenSymbols.{none_used_lem}
use Rattle.recur.proofs.WrittenParts.{parts_from, rule_by_lem, part_written, free_next, parts_joined, room_from, parts_fit}
use Rattle.recur.proofs.WrittenValues.{sound_lists, rest_values, rest_parts, rule_back, freq_fits, all_fit}

-- FREQ, and the parts behind it
abbrev freq_part : Raw → Part
freq_part w = both 0 (number w.freq)

freq_low : (w : Raw) → verdict w ≡ Ok tt → w.freq < 7
freq_low w e = omega (arith, ltb-false 6 w.freq ((none_given w).0 e Refusal.FrequencyAbove))

text_is : (w : Raw) → text_of w ≡ part_text (freq_part w) ++ parts_behind (parts_from 1 (rest_values w))
text_is w = text_first w ∙ ap (λ (ps : List Part). part_text (freq_part w) ++ parts_behind ps) (rest_parts w)

-- FREQ's part is the first, and no name is used up before it
freq_text : (w : Raw) → Writable w → PartText (none_used 14) (freq_part w) (part_text (freq_part w))
freq_text w a =
    part_written (none_used 14) 0 (number w.freq) (omega arith) (λ j l h. none_used_lem 14 j h) (freq_fits w.freq (freq_low w a.accepted) refl).spelled

-- the claims
pub written_is_good : WrittenIsGood
unfolding value_in parts_from
written_is_good w a = rw (text_is w) record {
  parts = freq_part w ∷ parts_from 1 (rest_values w);
  joined = parts_joined (rest_values w) 1 (freq_part w) (none_used 14) 13 (freq_text w a)
      (free_next (none_used 14) 0 (number w.freq) (λ j l h. none_used_lem 14 j h)) (all_fit w a) (omega arith) (omega arith);
  freq_there = refl;
  rule = sym (rule_by_lem (number w.freq ∷ rest_values w) ∙ rule_back w a.start (sound_lists w a.accepted));
}

pub written_fits : WrittenFits
unfolding room_from part_text
written_fits w a =
    rw (text_is w, length-append)
    (omega (arith, parts_fit (rest_values w) 1 (all_fit w a), (freq_fits w.freq (freq_low w a.accepted) refl).short))

-- what is written reads back as the rule
pub reads_back : ReadsBack
reads_back w a = (read_decides (text_of w) w (omega (arith, written_fits w a))).1 (written_is_good w a)

pub written_once : WrittenOnce
written_once w v a b e =
    let p : Ok w ≡ Ok v = sym (reads_back w a) ∙ ap read_of e ∙ reads_back v b in
    cc
