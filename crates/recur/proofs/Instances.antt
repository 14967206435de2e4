-- The readers of words, of numbers with a sign, of days and of lists keep to the grammar.
-- Assumes nothing.
use Prim.Native.Nat.{ℕ, ◌≤◌}
use native.Mathlib.Omega.{arith}
use mathlib.Core.Path.{◌≡◌, refl, sym, ap, ◌∙◌, subst}
use mathlib.Core.Bool.{Bool, true, false, ◌||◌, or-true}
use mathlib.Core.List.{List}
use lib.Dec.{eqb}
use lib.IntN.{ℤ, pos}
use Rattle.symbols.specs.Languages.{is_digit, Byte, Both, Perhaps, Joined}
use Rattle.symbols.specs.Takes.{Took, Takes}
use Rattle.symbols.specs.Readers.{joined}
use Rattle.symbols.specs.Counts.{NoDigit}
use Rattle.symbols.proofs.Tables.{apart_all, capital_all, takes_table}
use Rattle.symbols.proofs.Behind.{takes_followed}
use Rattle.symbols.proofs.Joined.{takes_joined}
use Rattle.symbols.proofs.Single.{takes_byte}
use Rattle.symbols.proofs.Turning.{takes_turned, takes_perhaps}
use Rattle.symbols.proofs.Numerals.{takes_three}
use Rattle.recur.specs.Grammar.{frequencies, weekday_names, none_used, Freq, Weekday, plus, is_sign, Signed, Entry, Day, comma, stays, semicolon}
use Rattle.recur.specs.Reading.{freq_at, weekday_at, sign_at, signed_at, entry_at, is_numbered, nth_at, day_at, entries_at, days_at}
use Rattle.recur.proofs.Heads.{Filled, Heads, filled_followed, heads_followed, heads_perhaps, filled_turned, heads_turned, filled_joined}
use Rattle.recur.proofs.Heads.{filled_byte, heads_byte, filled_three, heads_three, digit_no_sign, all_begun, filled_word, heads_word, above_no_number}

-- whatever may follow
abbrev pub Any : ℕ → Type 0
Any b = Unit {0}

-- what may stand behind a part's value
abbrev pub Ends : ℕ → Type 0
Ends b = b ≡ semicolon

-- ---- words

pub takes_freq : Takes ℕ freq_at Freq Any
unfolding apart_all capital_all none_used
takes_freq = takes_table frequencies refl refl (none_used 7) 0 (omega arith) refl

pub filled_freq : Filled Freq
unfolding all_begun
filled_freq = filled_word frequencies refl (none_used 7)

pub takes_weekday : Takes ℕ weekday_at Weekday Any
unfolding apart_all capital_all none_used
takes_weekday = takes_table weekday_names refl refl (none_used 7) 0 (omega arith) refl

pub filled_weekday : Filled Weekday
unfolding all_begun
filled_weekday = filled_word weekday_names refl (none_used 7)

-- ---- numbers with a sign

abbrev NoSign : ℕ → Type 0
NoSign b = is_sign b ≡ false

takes_sign : Takes ℕ sign_at (Perhaps ℕ plus (Byte is_sign)) NoSign
takes_sign = takes_perhaps _ _ _ _ _ Any NoSign (takes_byte is_sign plus refl) (heads_byte is_sign) (filled_byte is_sign) (λ b h. tt) (λ b h. h)

module _ (low : ℕ) where
  pub takes_signed : low ≤ 1 → Takes ℤ (signed_at low) (Signed low) NoDigit
  takes_signed h =
      takes_turned _ _ _ _ _ _
      (takes_followed _ _ _ _ _ _ _ NoSign NoDigit takes_sign (λ s xs l. takes_three low h) (λ s. filled_three low)
      (λ s v c zs d. digit_no_sign c (heads_three low v c zs d)))

  filled_signed : Filled (Signed low)
  filled_signed = filled_turned _ _ _ _ (filled_followed _ _ _ _ (λ s. filled_three low))

  heads_signed : Heads (Signed low) (λ (c : ℕ). is_numbered c ≡ true)
  heads_signed =
      heads_turned _ _ _ _ _
      (heads_followed _ _ _ _ _
      (heads_perhaps _ (λ s c zs d. ap (λ (x : Bool). is_digit c || x) (heads_byte is_sign s c zs d) ∙ or-true (is_digit c)))
      (λ s v c zs d. ap (λ (x : Bool). x || is_sign c) (heads_three low v c zs d)))

-- ---- entries and days

pub takes_entry : (signs : Bool) → Takes ℤ (entry_at signs) (Entry signs) NoDigit
unfolding entry_at
takes_entry true = takes_signed 0 (omega arith)
takes_entry false = takes_turned _ _ _ _ _ _ (takes_three 0 (omega arith))

filled_entry : (signs : Bool) → Filled (Entry signs)
filled_entry true = filled_signed 0
filled_entry false = filled_turned _ _ _ _ (filled_three 0)

first_false : (a b : Bool) → (a || b) ≡ false → a ≡ false
first_false true b e = e
first_false false b e = refl

abbrev NoNumber : ℕ → Type 0
NoNumber b = is_numbered b ≡ false

takes_nth : Takes ℤ nth_at (Perhaps ℤ (pos 0) (Signed 1)) NoNumber
takes_nth =
    takes_perhaps _ _ _ _ _ NoDigit NoNumber (takes_signed 1 (omega arith)) (heads_signed 1) (filled_signed 1)
    (λ b h. first_false (is_digit b) (is_sign b) h) (λ b h. h)

pub takes_day : Takes (Both ℤ ℕ) day_at Day Any
unfolding day_at all_begun
takes_day =
    takes_followed _ _ _ _ _ _ _ NoNumber Any takes_nth (λ n xs l. takes_weekday) (λ n. filled_weekday)
    (λ n w c zs d. above_no_number c (heads_word weekday_names refl (none_used 7) w c zs d))

filled_day : Filled Day
filled_day = filled_followed _ _ _ _ (λ n. filled_weekday)

-- ---- lists: behind an entry stands a comma, and behind the list a semicolon

-- n more at most behind the first
abbrev pub Listed : (A : Type 0) → (A → List ℕ → Type 0) → ℕ → List A → List ℕ → Type 0
Listed A L n = Joined (Unit {0}) A stays (λ (u : Unit {0}). L) comma n tt

module _ (A : Type 0) (take : ℕ → List ℕ → Took A) (L : A → List ℕ → Type 0) (P : ℕ → Type 0) (x : Takes A take L P) (on : P comma) (off : P semicolon) where
  takes_list : (n : ℕ) → Takes (List A) (joined (λ (u : Unit {0}). take) stays comma n tt) (Listed A L n) Ends
  takes_list n =
      takes_joined _ _ _ _ _ _ P Ends (λ (n : ℕ) (u : Unit {0}). Unit {0}) (λ n u i. x) (λ n u a xs i l. tt) on (λ b e. subst P (sym e) off)
      (λ b e. ap (λ (y : ℕ). eqb y comma) e) n tt tt

pub takes_entries : (signs : Bool) (n : ℕ) → Takes (List ℤ) (entries_at signs n) (Listed ℤ (Entry signs) n) Ends
unfolding entries_at
takes_entries signs n = takes_list _ _ _ _ (takes_entry signs) refl refl n

pub takes_days : (n : ℕ) → Takes (List (Both ℤ ℕ)) (days_at n) (Listed (Both ℤ ℕ) Day n) Ends
unfolding days_at
takes_days n = takes_list _ _ _ _ takes_day tt tt n

pub filled_entries : (signs : Bool) (n : ℕ) → Filled (Listed ℤ (Entry signs) n)
filled_entries signs n = filled_joined _ _ _ _ _ (λ u. filled_entry signs) n tt

pub filled_days : (n : ℕ) → Filled (Listed (Both ℤ ℕ) Day n)
filled_days n = filled_joined _ _ _ _ _ (λ u. filled_day) n tt
