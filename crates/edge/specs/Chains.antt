-- Runs from C one after the other: what each keeps to, and what they list together. The proofs are in proofs/Chains.
-- Assumes nothing.
use Rattle.std.specs.Prelude.{ℕ, ◌≤◌, ◌<◌, ◌≡◌, ◌⊎◌, List, [], ◌∷◌, ◌++◌, length, take, drop, Some}
use Rattle.machine.specs.Rising.{◌∈◌}
use Rattle.machine.specs.Given.{AtMost}
use Rattle.machine.specs.Run.{Call}
use Rattle.rule.specs.declared.rrule.Rule.{Rule}
use Rattle.rule.specs.Raw.{Raw}
use Rattle.rule.specs.Filling.{Yields}
use Rattle.rule.specs.Satisfies.{Satisfies}
use Rattle.rule.specs.Meaning.{RisesFrom}
use Rattle.rule.specs.Run.{count_of, fresh_of}
use Rattle.edge.specs.Layout.{cursor_length, encode_cursor}
use Rattle.edge.specs.Edge.{said, check_says, fresh_says, Shown, shown, run_says}

-- why a run has stopped: its buffer is full, it has made every move allowed, or the listing is at its end and the cause is given
abbrev pub StoppedFor : Call ℕ → Shown → Type 0
StoppedFor x s =
    ((s.stop ≡ 100) × (s.handed ≡ length x.buffer) × (s.cause ≡ 0))
    ⊎ (((s.stop ≡ 101) × (s.moves ≡ x.budget) × (s.cause ≡ 0)) ⊎ ((s.stop ≡ 102) × (0 < s.cause)))

-- what a run that isn't refused keeps to
pub record RunKept (x : Call ℕ) (s : Shown) : Type 0 where
  pub stopped : StoppedFor x s
  pub budget : s.moves ≤ x.budget
  pub room : s.handed ≤ length x.buffer
  -- slots past those handed out are as they were
  pub rest : drop s.handed s.buffer ≡ drop s.handed x.buffer

abbrev pub RunKeeps : Type 0
RunKeeps = (rulebytes cursorbytes : List ℕ) (x : Call ℕ)
    → 100 ≤ (run_says rulebytes cursorbytes x.buffer x.budget).stop → RunKept x (run_says rulebytes cursorbytes x.buffer x.budget)

-- From where a run has ended, every run ends at once for the same cause, and hands out nothing.
abbrev pub EndedStays : Type 0
EndedStays = (rulebytes cursorbytes : List ℕ) (x y : Call ℕ) → (run_says rulebytes cursorbytes x.buffer x.budget).stop ≡ 102
    → let s = run_says rulebytes cursorbytes x.buffer x.budget in
    run_says rulebytes s.cursor y.buffer y.budget ≡ shown 102 s.cursor y.buffer 0 0 s.cause

-- what runs tell C together: all that was handed out, and the cause shown last
pub record ToldC : Type 0 where
  pub listed : List ℕ
  pub cause : ℕ

abbrev pub after_run : Shown → ToldC → ToldC
after_run s t = record { listed = take s.handed s.buffer ++ t.listed; cause = t.cause }

-- runs one after the other, each from the cursor's bytes that the one before it left; the number is the cause before them, 0 where there is none
unfoldable pub runs_tell : (rulebytes cursorbytes : List ℕ) → ℕ → List (Call ℕ) → ToldC
unfolding run_says
runs_tell rulebytes cursorbytes cause [] = record { listed = []; cause = cause }
runs_tell rulebytes cursorbytes cause (x ∷ xs) =
    let s = run_says rulebytes cursorbytes x.buffer x.budget in after_run s (runs_tell rulebytes s.cursor s.cause xs)

-- none of them is refused
abbrev pub NoneRefused : (rulebytes cursorbytes : List ℕ) → List (Call ℕ) → Type 0
NoneRefused rulebytes cursorbytes [] = Unit {0}
NoneRefused rulebytes cursorbytes (x ∷ xs) =
    let s = run_says rulebytes cursorbytes x.buffer x.budget in (100 ≤ s.stop) × NoneRefused rulebytes s.cursor xs

-- what is told is the listing of a record, as far as it goes
pub record ListsC (r : Rule) (t : ToldC) : Type 0 where
  -- the instants strictly rise
  pub rises : RisesFrom 0 t.listed
  -- they satisfy the rule, and none up to one that is handed out is missing
  pub only : (u : ℕ) → u ∈ t.listed → Satisfies r u
  pub all : (u v : ℕ) → v ∈ t.listed → Satisfies r u → u ≤ v → u ∈ t.listed
  -- never more than COUNT; cause 1 means exactly that many, and any other cause that none remains
  pub counted : AtMost (count_of r.count) (length t.listed)
  pub by_count : t.cause ≡ 1 → r.count ≡ Some (length t.listed)
  pub none_left : 1 < t.cause → (u : ℕ) → Satisfies r u → u ∈ t.listed

-- After an accepted check, which yields a record, the fresh cursor is made, of bytes of its length.
abbrev pub FreshOfChecked : Type 0
FreshOfChecked = (w : Raw) (bytes cursor : List ℕ) → (check_says w bytes).number ≡ 0 → length cursor ≡ cursor_length
    → (r : Rule) × Yields w r × (fresh_says (check_says w bytes).bytes cursor ≡ said 0 (encode_cursor (fresh_of r)))

-- From an accepted check on: the record's bytes that it left, the fresh cursor's bytes, and any runs, of any buffers and budgets. None is refused,
-- together they list the record that the check yields, and cause 2, Interval, is never shown.
pub record ChainListed (w : Raw) (rulebytes cursorbytes : List ℕ) (calls : List (Call ℕ)) : Type 0 where
  pub rule : Rule
  pub yields : Yields w rule
  pub taken : NoneRefused rulebytes cursorbytes calls
  pub lists : ListsC rule (runs_tell rulebytes cursorbytes 0 calls)
  pub never : (runs_tell rulebytes cursorbytes 0 calls).cause ≡ 2 → ⊥

abbrev pub ChainOverBytes : Type 0
ChainOverBytes = (w : Raw) (bytes cursor : List ℕ) → (check_says w bytes).number ≡ 0 → length cursor ≡ cursor_length
    → (calls : List (Call ℕ)) → ChainListed w (check_says w bytes).bytes (fresh_says (check_says w bytes).bytes cursor).bytes calls
