-- Cursors: a fresh one, well-formed ones, and what becomes of one.
-- Assumes nothing.
use Rattle.std.specs.Prelude.{ℕ, ◌+◌, ◌-◌, ◌≤◌, ◌≡◌, Bool, true, false, ◌&&◌, List, length, get_or, drop, eqb, leb}
use Rattle.machine.specs.declared.Cause.{Cause}
use Rattle.machine.specs.declared.State.{State}
use Rattle.machine.specs.declared.Cursor.{Cursor}
use Rattle.machine.specs.Given.{Below, below, reaches, Given, InRange}

-- A fresh cursor is ended by Count if COUNT is 0, else by Interval if INTERVAL is 0, else running; k, place and number begin at zero.
unfoldable pub fresh : {A : Type 0} → Given A → Cursor
fresh g = record {
  state = elim (reaches g.count 0) [
    | true ↦ State.Ended Cause.Count
    | false ↦ elim (eqb g.interval 0) [
      | true ↦ State.Ended Cause.Interval
      | false ↦ State.Running
    ]
  ];
  k = 0;
  place = 0;
  number = 0;
}

-- the kept candidates of its period that a cursor has not passed
abbrev pub remaining : {A : Type 0} → Given A → Cursor → List ℕ
remaining g c = drop c.place (g.kept c.k)

-- the next kept candidate, or the first second after period k if none remains
abbrev pub next : {A : Type 0} → Given A → Cursor → ℕ
next g c = get_or (g.kept c.k) c.place (g.ends c.k)

-- Well formed: ended, or running with INTERVAL at least 1, period k beginning in range, place at most its kept candidates, and handed out below
-- COUNT where given and never above the seconds from the start to `next` (0 if that is before the start).
pub record Poised {A : Type 0} (g : Given A) (c : Cursor) : Type 0 where
  pub interval : 1 ≤ g.interval
  pub in_range : InRange g c.k
  pub place : c.place ≤ length (g.kept c.k)
  pub below : Below g.count c.number
  pub number : c.number ≤ next g c - g.start

abbrev pub WellFormed : {A : Type 0} → Given A → Cursor → Type 0
WellFormed g c = c.state ≡ State.Running → Poised g c

-- the same as a test
abbrev pub poised : {A : Type 0} → Given A → Cursor → Bool
poised g c =
    leb 1 g.interval
    && (g.in_range c.k && (leb c.place (length (g.kept c.k)) && (below g.count c.number && leb c.number (next g c - g.start))))

abbrev pub formed_in : {A : Type 0} → State → Given A → Cursor → Bool
formed_in (State.Ended cause) g c = true
formed_in State.Running g c = poised g c

unfoldable pub well_formed : {A : Type 0} → Given A → Cursor → Bool
well_formed g c = formed_in c.state g c

-- what becomes of a cursor: it ends, passes a candidate, hands one out, moves
abbrev pub end_by : Cause → Cursor → Cursor
end_by cause c = record { state = State.Ended cause; k = c.k; place = c.place; number = c.number }

abbrev pub pass : Cursor → Cursor
pass c = record { state = c.state; k = c.k; place = c.place + 1; number = c.number }

abbrev pub hand_out : Cursor → Cursor
hand_out c = record { state = c.state; k = c.k; place = c.place; number = c.number + 1 }

abbrev pub move_to : ℕ → Cursor → Cursor
move_to k c = record { state = c.state; k = k; place = 0; number = c.number }
