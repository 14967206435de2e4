-- Texts with their answers: those of the request's page, its traps, and each way of writing.
-- Assumes nothing.
use Rattle.std.specs.Prelude.{ℕ, zero, suc, List, [], ◌∷◌, ◌++◌, ℤ, pos, negsuc, Some, None}
use Prim.Native.String.{String}
use Rattle.rule.specs.Raw.{RawLists, Raw, raw, raw_lists}
use Rattle.symbols.specs.Bytes.{bytes}

-- a text, and the place where it is refused
pub record Place : Type 0 where
  pub text : List ℕ
  pub place : ℕ

abbrev pub at : String → ℕ → Place
at text place = record { text = bytes text; place = place }

-- n times a text
abbrev pub times : ℕ → List ℕ → List ℕ
times zero t = []
times (suc n) t = t ++ times n t

-- thirteen of the fourteen parts
abbrev pub all_but_freq : List ℕ
all_but_freq =
    bytes "INTERVAL=1;COUNT=1;UNTIL=19700101T000000Z;WKST=MO;BYMONTH=1;BYMONTHDAY=1;BYYEARDAY=1;"
    ++ bytes "BYWEEKNO=1;BYDAY=MO;BYHOUR=1;BYMINUTE=1;BYSECOND=1;BYSETPOS=1"

unfoldable pub places : List Place
places =
    -- no text, no part, no name
    at "" 0 ∷
    at ";FREQ=DAILY" 0 ∷
    at "RRULE:FREQ=DAILY" 0 ∷
    at "X-A=1;FREQ=DAILY" 0 ∷
    at "FREQ=DAILY;" 11 ∷
    at "FREQ=DAILY;;" 11 ∷
    at "FREQ=DAILY " 10 ∷
    at "FREQ]DAILY" 4 ∷
    record { text = bytes "FREQ" ++ (29 ∷ bytes "DAILY"); place = 4 } ∷
    record { text = bytes "FREQ=DAILY" ++ (10 ∷ []); place = 10 } ∷
    -- words: the longest beginning, not the word's place
    at "FREQ=DAIL;" 9 ∷
    at "FREQ=M" 6 ∷
    at "FREQ=MX" 6 ∷
    at "FREQ=DAILY;BYWEEKDAY=MO" 17 ∷
    -- FREQ is missing
    at "COUNT=3" 7 ∷
    at "BYHOUR=1" 8 ∷
    -- a name that is used up
    at "FREQ=DAILY;F" 11 ∷
    at "BYMONTH=1;BYMONTH=2" 17 ∷
    at "BYMONTH=1;BYMONTHDAY=1;BYMONTH" 26 ∷
    record { text = bytes "FREQ=DAILY;" ++ (all_but_freq ++ bytes ";"); place = 157 } ∷
    record { text = all_but_freq ++ bytes ";C"; place = 147 } ∷
    -- INTERVAL and COUNT
    at "INTERVAL=65536" 13 ∷
    at "INTERVAL=+5" 9 ∷
    at "COUNT=4294967296" 15 ∷
    at "FREQ=DAILY;COUNT=18446744073709551617" 27 ∷
    -- entries
    at "FREQ=DAILY;BYHOUR=" 18 ∷
    at "FREQ=DAILY;BYHOUR=;" 18 ∷
    at "FREQ=DAILY;BYHOUR=0008" 21 ∷
    at "FREQ=DAILY;BYHOUR=+8" 18 ∷
    at "FREQ=DAILY;BYMONTH=-1" 19 ∷
    at "FREQ=DAILY;BYDAY=0MO" 18 ∷
    at "FREQ=DAILY;BYDAY=000MO" 19 ∷
    at "FREQ=DAILY;BYDAY=+MO" 18 ∷
    at "FREQ=DAILY;BYDAY=abMO" 17 ∷
    at "FREQ=DAILY;BYDAY=99999MO" 20 ∷
    at "FREQ=MONTHLY;BYDAY=1" 20 ∷
    -- UNTIL
    at "UNTIL=0" 6 ∷
    at "UNTIL=196" 8 ∷
    at "UNTIL=1969" 8 ∷
    at "UNTIL=2023023" 12 ∷
    at "UNTIL=20230229" 13 ∷
    at "UNTIL=21000229" 13 ∷
    at "UNTIL=20240101" 14 ∷
    at "UNTIL=20240101;" 14 ∷
    at "UNTIL=20240101t" 14 ∷
    at "UNTIL=20240101T000000z" 21 ∷
    at "UNTIL=20240101T235960Z" 19 ∷
    -- too many entries: the comma behind the 749th; and texts that are too long
    record { text = bytes "FREQ=DAILY;BYHOUR=1" ++ times 749 (bytes ",1"); place = 1515 } ∷
    record { text = times 16384 (bytes "x"); place = 0 } ∷
    record { text = times 16385 (bytes "x"); place = 16384 } ∷
    []

-- a text, its rule, and how the rule is written
pub record Sample : Type 0 where
  pub text : List ℕ
  pub reads : Raw
  pub writes : List ℕ

abbrev pub no_lists : RawLists
no_lists = raw_lists [] [] [] [] [] [] [] [] [] []

abbrev pub sample : String → Raw → String → Sample
sample text reads writes = record { text = bytes text; reads = reads; writes = bytes writes }

abbrev pub daily : RawLists → Raw
daily l = raw 3 1 None None 0 0 l

abbrev pub hour_list : List ℤ → RawLists
hour_list l = raw_lists [] [] [] [] [] [] l [] [] []

-- some of these the check refuses: the reader reads them all the same
unfoldable pub samples : List Sample
samples =
    sample "FREQ=DAILY" (daily no_lists) "FREQ=DAILY" ∷
    sample "fReQ=dAiLy;BYDAY=mo" (daily (raw_lists [] [] [] [] (pos 0 ∷ []) (pos 0 ∷ []) [] [] [] [])) "FREQ=DAILY;BYDAY=MO" ∷
    sample "COUNT=3;FREQ=DAILY" (raw 3 1 (Some 3) None 0 0 no_lists) "FREQ=DAILY;COUNT=3" ∷
    sample "COUNT=10;FREQ=WEEKLY;INTERVAL=2" (raw 2 2 (Some 10) None 0 0 no_lists) "FREQ=WEEKLY;INTERVAL=2;COUNT=10" ∷
    sample "FREQ=DAILY;INTERVAL=00065535" (raw 3 65535 None None 0 0 no_lists) "FREQ=DAILY;INTERVAL=65535" ∷
    sample "FREQ=DAILY;INTERVAL=0" (raw 3 0 None None 0 0 no_lists) "FREQ=DAILY;INTERVAL=0" ∷
    sample "FREQ=DAILY;INTERVAL=000001" (daily no_lists) "FREQ=DAILY" ∷
    sample "FREQ=DAILY;COUNT=1;UNTIL=19700101T000000Z" (raw 3 1 (Some 1) (Some 0) 0 0 no_lists) "FREQ=DAILY;COUNT=1;UNTIL=19700101T000000Z" ∷
    sample "UNTIL=99991231T235959Z;FREQ=SECONDLY" (raw 6 1 None (Some 253402300799) 0 0 no_lists) "FREQ=SECONDLY;UNTIL=99991231T235959Z" ∷
    sample "FREQ=YEARLY;UNTIL=20240229T120304Z" (raw 0 1 None (Some 1709208184) 0 0 no_lists) "FREQ=YEARLY;UNTIL=20240229T120304Z" ∷
    sample "FREQ=DAILY;BYHOUR=008" (daily (hour_list (pos 8 ∷ []))) "FREQ=DAILY;BYHOUR=8" ∷
    sample "FREQ=DAILY;BYHOUR=999" (daily (hour_list (pos 999 ∷ []))) "FREQ=DAILY;BYHOUR=999" ∷
    sample "FREQ=DAILY;BYHOUR=9,8" (daily (hour_list (pos 9 ∷ pos 8 ∷ []))) "FREQ=DAILY;BYHOUR=9,8" ∷
    sample "FREQ=DAILY;BYHOUR=8,8" (daily (hour_list (pos 8 ∷ pos 8 ∷ []))) "FREQ=DAILY;BYHOUR=8,8" ∷
    sample "FREQ=DAILY;BYMONTHDAY=+1,-1,-0" (daily (raw_lists [] (pos 1 ∷ negsuc 0 ∷ pos 0 ∷ []) [] [] [] [] [] [] [] [])) "FREQ=DAILY;BYMONTHDAY=1,-1,0" ∷
    sample "byday=1mo;freq=monthly;interval=001;wkst=mo" (raw 1 1 None None 0 0 (raw_lists [] [] [] [] (pos 1 ∷ []) (pos 0 ∷ []) [] [] [] []))
    "FREQ=MONTHLY;BYDAY=1MO" ∷
    sample "FREQ=MONTHLY;BYDAY=001MO,-2FR;WKST=SU"
    (raw 1 1 None None 6 0 (raw_lists [] [] [] [] (pos 1 ∷ negsuc 1 ∷ []) (pos 0 ∷ pos 4 ∷ []) [] [] [] []))
    "FREQ=MONTHLY;WKST=SU;BYDAY=1MO,-2FR" ∷
    sample "FREQ=YEARLY;INTERVAL=2;BYMONTH=1;BYDAY=SU;BYHOUR=8,9;BYMINUTE=30"
    (raw 0 2 None None 0 0 (raw_lists (pos 1 ∷ []) [] [] [] (pos 0 ∷ []) (pos 6 ∷ []) (pos 8 ∷ pos 9 ∷ []) (pos 30 ∷ []) [] []))
    "FREQ=YEARLY;INTERVAL=2;BYMONTH=1;BYDAY=SU;BYHOUR=8,9;BYMINUTE=30" ∷
    sample "bysetpos=-1;bysecond=0;byminute=59;byhour=23;byweekno=-53;byyearday=366;bymonthday=31;bymonth=12;wkst=su;freq=yearly"
    (raw 0 1 None None 6 0
    (raw_lists (pos 12 ∷ []) (pos 31 ∷ []) (pos 366 ∷ []) (negsuc 52 ∷ []) [] [] (pos 23 ∷ []) (pos 59 ∷ []) (pos 0 ∷ []) (negsuc 0 ∷ [])))
    "FREQ=YEARLY;WKST=SU;BYMONTH=12;BYMONTHDAY=31;BYYEARDAY=366;BYWEEKNO=-53;BYHOUR=23;BYMINUTE=59;BYSECOND=0;BYSETPOS=-1" ∷
    []
