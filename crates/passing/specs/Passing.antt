-- When a call is ready to walk. And days that are passed at one go: those at the head that lie before the start.
-- Assumes nothing.
use Rattle.std.specs.Prelude.{ℕ, zero, suc, ◌+◌, ◌-◌, ◌*◌, ◌/◌, ◌%◌, ◌≤◌, ◌<◌, ◌^◌, Bool, true, false, not, ◌&&◌, List, length, get_or, eqb, leb, ltb}
use Rattle.machine.specs.declared.Cursor.{Cursor}
use Rattle.machine.specs.Given.{above}
use Rattle.walks.specs.declared.rrule_iter.Held.{Held}
use Rattle.walks.specs.declared.rrule_iter.Bounds.{Bounds}
use Rattle.walks.specs.declared.rrule_iter.Frame.{Frame}
use Rattle.walks.specs.Walks.{bound_of, is_framed}

-- A call is ready to walk: the start is not before 1970, the buffer has room for what was handed out, and the count of all is far from its limit.
pub record Ready (b : Bounds) (h : Held) (buffer : List ℕ) : Type 0 where
  pub start : 62135596800 ≤ b.start
  pub handed : h.handed ≤ length buffer
  pub number : h.cursor.number < 2 ^ 63

-- the same as a test
unfoldable pub is_ready : Bounds → Held → (room : ℕ) → Bool
is_ready b h room = leb 62135596800 b.start && (leb h.handed room && ltb h.cursor.number 9223372036854775808)

-- A day may be passed, by its last second: that is before the start, and not above UNTIL.
abbrev pub is_passed : Bounds → ℕ → Bool
is_passed b last = ltb last b.start && not (above (bound_of b.until) last)

-- the last second of day number d
abbrev pub last_of : Frame → List ℕ → ℕ → ℕ
last_of f days d = (f.first + get_or days d 0) * 86400 + 86399

-- how many days at the head may be passed, of n from number d on
unfoldable pub passable : Bounds → Frame → List ℕ → (d n : ℕ) → ℕ
passable b f days d zero = 0
passable b f days d (suc n) = elim (is_passed b (last_of f days d)) [
  | true ↦ suc (passable b f days (d + 1) n)
  | false ↦ 0
]

-- the same, at another place
abbrev pub at_place : Cursor → ℕ → Cursor
at_place c place = record { state = c.state; k = c.k; place = place; number = c.number }

abbrev pub held_at : Held → ℕ → Held
held_at h place = record { cursor = at_place h.cursor place; moves = h.moves; handed = h.handed }

-- What a call holds when those days are passed. None is where the buffer is full, a sum could wrap, or the place is within a day.
unfoldable pub passed_days : Bool → Frame → Bounds → Held → List ℕ → Held
passed_days full f b h days = elim (not full && (is_framed f && eqb (h.cursor.place % f.times) 0)) [
  | true ↦ held_at h (h.cursor.place + passable b f days (h.cursor.place / f.times) (f.days - h.cursor.place / f.times) * f.times)
  | false ↦ h
]
