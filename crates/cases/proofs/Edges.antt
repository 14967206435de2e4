-- The edges: fifty-third weekdays, cut weeks, sets of positions, filling in, the first and the last year.
-- Assumes nothing.
use Rattle.std.specs.Prelude.{Some, None, Ok}
use mathlib.Core.Path.{◌≡◌, refl}
use mathlib.Core.List.{[], ◌∷◌}
use lib.IntN.{pos, negsuc}
use Rattle.machine.specs.declared.Cause.{Cause}
use Rattle.machine.specs.declared.State.{State}
use Rattle.machine.specs.declared.Stop.{Stop}
use Rattle.calendar.specs.Calendar.{leap, new_year, days_before_month}
use Rattle.machine.specs.Compute.{runs, after, walk}
use Rattle.machine.specs.Run.{at_candidate, counted, move_on}
use Rattle.rule.specs.Raw.{raw, raw_lists}
use Rattle.cases.specs.Play.{of, at, told, play, play_from}

-- 53MO in 2024
edge_53a :
    play (raw 0 1 None None 0 1704067200 (raw_lists [] [] [] [] (pos 53 ∷ []) (pos 0 ∷ []) [] [] [] [])) (of 1 1 ∷ [])
    ≡ Ok (told Stop.More (at State.Running 0 1 1) 0 1 (1735516800 ∷ []) ∷ [])
unfolding play play_from runs after walk at_candidate counted move_on leap new_year days_before_month
edge_53a = refl

-- -53MO in 2024
edge_53b :
    play (raw 0 1 None None 0 1704067200 (raw_lists [] [] [] [] (negsuc 52 ∷ []) (pos 0 ∷ []) [] [] [] [])) (of 1 1 ∷ [])
    ≡ Ok (told Stop.More (at State.Running 0 1 1) 0 1 (1704067200 ∷ []) ∷ [])
unfolding play play_from runs after walk at_candidate counted move_on leap new_year days_before_month
edge_53b = refl

-- 53TU in 2024 (day 366)
edge_53c :
    play (raw 0 1 None None 0 1704067200 (raw_lists [] [] [] [] (pos 53 ∷ []) (pos 1 ∷ []) [] [] [] [])) (of 1 1 ∷ [])
    ≡ Ok (told Stop.More (at State.Running 0 1 1) 0 1 (1735603200 ∷ []) ∷ [])
unfolding play play_from runs after walk at_candidate counted move_on leap new_year days_before_month
edge_53c = refl

-- 53WE: none in 2024, 2025-12-31 in a common year
edge_53d :
    play (raw 0 1 None None 0 1704067200 (raw_lists [] [] [] [] (pos 53 ∷ []) (pos 2 ∷ []) [] [] [] [])) (of 1 3 ∷ [])
    ≡ Ok (told Stop.More (at State.Running 1 1 1) 1 1 (1767139200 ∷ []) ∷ [])
unfolding play play_from runs after walk at_candidate counted move_on leap new_year days_before_month
edge_53d = refl

-- YEARLY;BYMONTH=3;BYDAY=-1MO
edge_mar :
    play (raw 0 1 None None 0 1704067200 (raw_lists (pos 3 ∷ []) [] [] [] (negsuc 0 ∷ []) (pos 0 ∷ []) [] [] [] [])) (of 1 1 ∷ [])
    ≡ Ok (told Stop.More (at State.Running 0 1 1) 0 1 (1711324800 ∷ []) ∷ [])
unfolding play play_from runs after walk at_candidate counted move_on leap new_year days_before_month
edge_mar = refl

-- WEEKLY;BYDAY=FR,SA from 253402214400: one, then Range
edge_week :
    play (raw 2 1 None None 0 253402214400 (raw_lists [] [] [] [] (pos 0 ∷ pos 0 ∷ []) (pos 4 ∷ pos 5 ∷ []) [] [] [] [])) (of 4 9 ∷ [])
    ≡ Ok (told Stop.Ended (at (State.Ended Cause.Range) 0 1 1) 0 1 (253402214400 ∷ 101 ∷ 102 ∷ 103 ∷ []) ∷ [])
unfolding play play_from runs after walk at_candidate counted move_on leap new_year days_before_month
edge_week = refl

-- the cut of 9999 cuts the set that BYSETPOS counts: FR 31 December is the last
edge_week_pos :
    play (raw 2 1 None None 0 253401696000 (raw_lists [] [] [] [] (pos 0 ∷ pos 0 ∷ pos 0 ∷ []) (pos 3 ∷ pos 4 ∷ pos 5 ∷ []) [] [] [] (negsuc 0 ∷ []))) (of 4 9 ∷ [])
    ≡ Ok (told Stop.Ended (at (State.Ended Cause.Range) 1 1 2) 1 2 (253401696000 ∷ 253402214400 ∷ 102 ∷ 103 ∷ []) ∷ [])
unfolding play play_from runs after walk at_candidate counted move_on leap new_year days_before_month
edge_week_pos = refl

-- 400 candidates, positions -366 (number 35) and 366
edge_set1 :
    play (raw 0 1 None None 0 1704067200 (raw_lists [] [] (pos 1 ∷ pos 2 ∷ pos 3 ∷ pos 4 ∷ pos 5 ∷ pos 6 ∷ pos 7 ∷ pos 8 ∷ pos 9 ∷ pos 10 ∷ pos 11 ∷ pos 12 ∷ pos 13 ∷ pos 14 ∷ pos 15 ∷ pos 16 ∷ pos 17 ∷ pos 18 ∷ pos 19 ∷ pos 20 ∷ pos 21 ∷ pos 22 ∷ pos 23 ∷ pos 24 ∷ pos 25 ∷ pos 26 ∷ pos 27 ∷ pos 28 ∷ pos 29 ∷ pos 30 ∷ pos 31 ∷ pos 32 ∷ pos 33 ∷ pos 34 ∷ pos 35 ∷ pos 36 ∷ pos 37 ∷ pos 38 ∷ pos 39 ∷ pos 40 ∷ pos 41 ∷ pos 42 ∷ pos 43 ∷ pos 44 ∷ pos 45 ∷ pos 46 ∷ pos 47 ∷ pos 48 ∷ pos 49 ∷ pos 50 ∷ pos 51 ∷ pos 52 ∷ pos 53 ∷ pos 54 ∷ pos 55 ∷ pos 56 ∷ pos 57 ∷ pos 58 ∷ pos 59 ∷ pos 60 ∷ pos 61 ∷ pos 62 ∷ pos 63 ∷ pos 64 ∷ pos 65 ∷ pos 66 ∷ pos 67 ∷ pos 68 ∷ pos 69 ∷ pos 70 ∷ pos 71 ∷ pos 72 ∷ pos 73 ∷ pos 74 ∷ pos 75 ∷ pos 76 ∷ pos 77 ∷ pos 78 ∷ pos 79 ∷ pos 80 ∷ pos 81 ∷ pos 82 ∷ pos 83 ∷ pos 84 ∷ pos 85 ∷ pos 86 ∷ pos 87 ∷ pos 88 ∷ pos 89 ∷ pos 90 ∷ pos 91 ∷ pos 92 ∷ pos 93 ∷ pos 94 ∷ pos 95 ∷ pos 96 ∷ pos 97 ∷ pos 98 ∷ pos 99 ∷ pos 100 ∷ pos 101 ∷ pos 102 ∷ pos 103 ∷ pos 104 ∷ pos 105 ∷ pos 106 ∷ pos 107 ∷ pos 108 ∷ pos 109 ∷ pos 110 ∷ pos 111 ∷ pos 112 ∷ pos 113 ∷ pos 114 ∷ pos 115 ∷ pos 116 ∷ pos 117 ∷ pos 118 ∷ pos 119 ∷ pos 120 ∷ pos 121 ∷ pos 122 ∷ pos 123 ∷ pos 124 ∷ pos 125 ∷ pos 126 ∷ pos 127 ∷ pos 128 ∷ pos 129 ∷ pos 130 ∷ pos 131 ∷ pos 132 ∷ pos 133 ∷ pos 134 ∷ pos 135 ∷ pos 136 ∷ pos 137 ∷ pos 138 ∷ pos 139 ∷ pos 140 ∷ pos 141 ∷ pos 142 ∷ pos 143 ∷ pos 144 ∷ pos 145 ∷ pos 146 ∷ pos 147 ∷ pos 148 ∷ pos 149 ∷ pos 150 ∷ pos 151 ∷ pos 152 ∷ pos 153 ∷ pos 154 ∷ pos 155 ∷ pos 156 ∷ pos 157 ∷ pos 158 ∷ pos 159 ∷ pos 160 ∷ pos 161 ∷ pos 162 ∷ pos 163 ∷ pos 164 ∷ pos 165 ∷ pos 166 ∷ pos 167 ∷ pos 168 ∷ pos 169 ∷ pos 170 ∷ pos 171 ∷ pos 172 ∷ pos 173 ∷ pos 174 ∷ pos 175 ∷ pos 176 ∷ pos 177 ∷ pos 178 ∷ pos 179 ∷ pos 180 ∷ pos 181 ∷ pos 182 ∷ pos 183 ∷ pos 184 ∷ pos 185 ∷ pos 186 ∷ pos 187 ∷ pos 188 ∷ pos 189 ∷ pos 190 ∷ pos 191 ∷ pos 192 ∷ pos 193 ∷ pos 194 ∷ pos 195 ∷ pos 196 ∷ pos 197 ∷ pos 198 ∷ pos 199 ∷ pos 200 ∷ []) [] [] [] (pos 0 ∷ pos 12 ∷ []) [] [] (negsuc 365 ∷ pos 366 ∷ []))) (of 3 1 ∷ [])
    ≡ Ok (told Stop.More (at State.Running 1 1 3) 1 3 (1705536000 ∷ 1719835200 ∷ 1737158400 ∷ []) ∷ [])
unfolding play play_from runs after walk at_candidate counted move_on leap new_year days_before_month
edge_set1 = refl

-- 365 candidates: +-366 choose nothing; in 2024 both
edge_set2 :
    play (raw 0 1 None None 0 1672531200 (raw_lists (pos 1 ∷ pos 2 ∷ pos 3 ∷ pos 4 ∷ pos 5 ∷ pos 6 ∷ pos 7 ∷ pos 8 ∷ pos 9 ∷ pos 10 ∷ pos 11 ∷ pos 12 ∷ []) [] [] [] (pos 0 ∷ pos 0 ∷ pos 0 ∷ pos 0 ∷ pos 0 ∷ pos 0 ∷ pos 0 ∷ []) (pos 0 ∷ pos 1 ∷ pos 2 ∷ pos 3 ∷ pos 4 ∷ pos 5 ∷ pos 6 ∷ []) [] [] [] (negsuc 365 ∷ pos 366 ∷ []))) (of 4 2 ∷ [])
    ≡ Ok (told Stop.Limited (at State.Running 2 0 2) 2 2 (1704067200 ∷ 1735603200 ∷ 102 ∷ 103 ∷ []) ∷ [])
unfolding play play_from runs after walk at_candidate counted move_on leap new_year days_before_month
edge_set2 = refl

-- two positions that choose one candidate give it once
edge_set3 :
    play (raw 2 1 None None 0 1704067200 (raw_lists [] [] [] [] (pos 0 ∷ pos 0 ∷ []) (pos 0 ∷ pos 2 ∷ []) [] [] [] (negsuc 1 ∷ negsuc 0 ∷ pos 1 ∷ pos 2 ∷ []))) (of 4 2 ∷ [])
    ≡ Ok (told Stop.More (at State.Running 1 2 4) 1 4 (1704067200 ∷ 1704240000 ∷ 1704672000 ∷ 1704844800 ∷ []) ∷ [])
unfolding play play_from runs after walk at_candidate counted move_on leap new_year days_before_month
edge_set3 = refl

-- buffer full with a period's last candidate and m = 0: More, then Limited
edge_fill1 :
    play (raw 2 1 None None 0 1704067200 (raw_lists [] [] [] [] (pos 0 ∷ pos 0 ∷ []) (pos 0 ∷ pos 2 ∷ []) [] [] [] [])) (of 2 0 ∷ of 2 0 ∷ of 1 1 ∷ [])
    ≡ Ok (told Stop.More (at State.Running 0 2 2) 0 2 (1704067200 ∷ 1704240000 ∷ []) ∷ told Stop.Limited (at State.Running 0 2 2) 0 0 (100 ∷ 101 ∷ []) ∷ told Stop.More (at State.Running 1 1 3) 1 1 (1704672000 ∷ []) ∷ [])
unfolding play play_from runs after walk at_candidate counted move_on leap new_year days_before_month
edge_fill1 = refl

-- full comes before the budget
edge_fill2 :
    play (raw 3 1 None None 0 1704067200 (raw_lists [] [] [] [] [] [] [] [] [] [])) (of 1 0 ∷ of 0 0 ∷ of 1 0 ∷ of 1 1 ∷ [])
    ≡ Ok (told Stop.More (at State.Running 0 1 1) 0 1 (1704067200 ∷ []) ∷ told Stop.More (at State.Running 0 1 1) 0 0 ([]) ∷ told Stop.Limited (at State.Running 0 1 1) 0 0 (100 ∷ []) ∷ told Stop.More (at State.Running 1 1 2) 1 1 (1704153600 ∷ []) ∷ [])
unfolding play play_from runs after walk at_candidate counted move_on leap new_year days_before_month
edge_fill2 = refl

-- the last second of the range
edge_last1 :
    play (raw 6 1 None None 0 253402300799 (raw_lists [] [] [] [] [] [] [] [] [] [])) (of 2 5 ∷ [])
    ≡ Ok (told Stop.Ended (at (State.Ended Cause.Range) 0 1 1) 0 1 (253402300799 ∷ 101 ∷ []) ∷ [])
unfolding play play_from runs after walk at_candidate counted move_on leap new_year days_before_month
edge_last1 = refl

-- the last second, YEARLY
edge_last2 :
    play (raw 0 1 None None 0 253402300799 (raw_lists (pos 12 ∷ []) (negsuc 0 ∷ []) [] [] [] [] (pos 23 ∷ []) (pos 59 ∷ []) (pos 58 ∷ pos 59 ∷ []) [])) (of 3 5 ∷ [])
    ≡ Ok (told Stop.Ended (at (State.Ended Cause.Range) 0 2 1) 0 1 (253402300799 ∷ 101 ∷ 102 ∷ []) ∷ [])
unfolding play play_from runs after walk at_candidate counted move_on leap new_year days_before_month
edge_last2 = refl

-- UNTIL at the last instant never ends
edge_until :
    play (raw 6 1 None (Some 253402300799) 0 253402300798 (raw_lists [] [] [] [] [] [] [] [] [] [])) (of 3 5 ∷ [])
    ≡ Ok (told Stop.Ended (at (State.Ended Cause.Range) 1 1 2) 1 2 (253402300798 ∷ 253402300799 ∷ 102 ∷ []) ∷ [])
unfolding play play_from runs after walk at_candidate counted move_on leap new_year days_before_month
edge_until = refl

-- 1970-01-01 (Thursday) in week 1 of 1970 with weeks from Monday
edge_1970a :
    play (raw 0 1 None None 0 0 (raw_lists [] [] [] (pos 1 ∷ []) [] [] [] [] [] [])) (of 4 0 ∷ [])
    ≡ Ok (told Stop.More (at State.Running 0 4 4) 0 4 (0 ∷ 86400 ∷ 172800 ∷ 259200 ∷ []) ∷ [])
unfolding play play_from runs after walk at_candidate counted move_on leap new_year days_before_month
edge_1970a = refl

-- weeks from Sunday: 1970-01-01
edge_1970b :
    play (raw 0 1 None None 6 0 (raw_lists [] [] [] (pos 53 ∷ []) [] [] [] [] [] [])) (of 4 0 ∷ [])
    ≡ Ok (told Stop.Limited (at State.Running 0 3 3) 0 3 (0 ∷ 86400 ∷ 172800 ∷ 103 ∷ []) ∷ [])
unfolding play play_from runs after walk at_candidate counted move_on leap new_year days_before_month
edge_1970b = refl

-- weeks from Friday: 1970-01-01 (Thursday) is in the last week of 1969
edge_1970c :
    play (raw 0 1 None None 4 0 (raw_lists [] [] [] (negsuc 0 ∷ []) [] [] [] [] [] [])) (of 2 0 ∷ [])
    ≡ Ok (told Stop.More (at State.Running 0 2 2) 0 2 (0 ∷ 30931200 ∷ []) ∷ [])
unfolding play play_from runs after walk at_candidate counted move_on leap new_year days_before_month
edge_1970c = refl

-- the same by its number
edge_1970d :
    play (raw 0 1 None None 4 0 (raw_lists [] [] [] (pos 52 ∷ pos 53 ∷ []) [] [] [] [] [] [])) (of 2 0 ∷ [])
    ≡ Ok (told Stop.More (at State.Running 0 2 2) 0 2 (0 ∷ 30931200 ∷ []) ∷ [])
unfolding play play_from runs after walk at_candidate counted move_on leap new_year days_before_month
edge_1970d = refl

-- WEEKLY from 1970-01-01, weeks from Thursday
edge_1970e :
    play (raw 2 1 None None 3 0 (raw_lists [] [] [] [] [] [] [] [] [] [])) (of 2 2 ∷ [])
    ≡ Ok (told Stop.More (at State.Running 1 1 2) 1 2 (0 ∷ 604800 ∷ []) ∷ [])
unfolding play play_from runs after walk at_candidate counted move_on leap new_year days_before_month
edge_1970e = refl

-- 27 December 9999 (Monday) to the 31st: week 52 of 9999
edge_9999a :
    play (raw 0 1 None None 0 253401868800 (raw_lists [] [] [] (pos 52 ∷ pos 53 ∷ []) [] [] [] [] [] [])) (of 6 2 ∷ [])
    ≡ Ok (told Stop.Ended (at (State.Ended Cause.Range) 0 8 5) 0 5 (253401868800 ∷ 253401955200 ∷ 253402041600 ∷ 253402128000 ∷ 253402214400 ∷ 105 ∷ []) ∷ [])
unfolding play play_from runs after walk at_candidate counted move_on leap new_year days_before_month
edge_9999a = refl

-- weeks from Thursday: the last days of 9999
edge_9999b :
    play (raw 0 1 None None 3 253402128000 (raw_lists [] [] [] (pos 1 ∷ []) [] [] [] [] [] [])) (of 6 2 ∷ [])
    ≡ Ok (told Stop.Ended (at (State.Ended Cause.Range) 0 8 2) 0 2 (253402128000 ∷ 253402214400 ∷ 102 ∷ 103 ∷ 104 ∷ 105 ∷ []) ∷ [])
unfolding play play_from runs after walk at_candidate counted move_on leap new_year days_before_month
edge_9999b = refl

-- weeks from Wednesday: 29 to 31 December 9999 are in week 1 of 10000
edge_9999c :
    play (raw 0 1 None None 2 253401868800 (raw_lists [] [] [] (pos 1 ∷ []) [] [] [] [] [] [])) (of 6 2 ∷ [])
    ≡ Ok (told Stop.Ended (at (State.Ended Cause.Range) 0 8 3) 0 3 (253402041600 ∷ 253402128000 ∷ 253402214400 ∷ 103 ∷ 104 ∷ 105 ∷ []) ∷ [])
unfolding play play_from runs after walk at_candidate counted move_on leap new_year days_before_month
edge_9999c = refl

-- the same, counted from the end of the week year 10000
edge_9999d :
    play (raw 0 1 None None 2 253401868800 (raw_lists [] [] [] (negsuc 52 ∷ negsuc 51 ∷ []) [] [] [] [] [] [])) (of 6 2 ∷ [])
    ≡ Ok (told Stop.Ended (at (State.Ended Cause.Range) 0 8 3) 0 3 (253402041600 ∷ 253402128000 ∷ 253402214400 ∷ 103 ∷ 104 ∷ 105 ∷ []) ∷ [])
unfolding play play_from runs after walk at_candidate counted move_on leap new_year days_before_month
edge_9999d = refl
