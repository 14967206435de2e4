-- An outcome of a walk, read back: why it has stopped, and what it then held.
-- Assumes nothing.
use Prim.Native.Nat.{ℕ}
use mathlib.Core.Path.{◌≡◌, refl, sym, ap, ◌∙◌}
use mathlib.Core.List.{List}
use Rattle.machine.specs.declared.Cause.{Cause}
use Rattle.machine.specs.declared.State.{State}
use Rattle.machine.specs.declared.Stop.{Stop}
use Rattle.machine.specs.Run.{Now}
use Rattle.machine.specs.Compute as compute
use Rattle.walks.specs.declared.rrule_iter.Why.{Why}
use Rattle.walks.specs.declared.rrule_iter.Held.{Held}
use Rattle.walks.specs.declared.rrule_iter.Walked.{Walked}
use Rattle.walks.specs.Walks.{in_state, walked_by}

-- why a walk has stopped, read back off its outcome
unfoldable pub why_in : State → Why
why_in (State.Ended Cause.Until) = Why.Until
why_in (State.Ended Cause.Count) = Why.Count
why_in (State.Ended Cause.Interval) = Why.Through
why_in (State.Ended Cause.NoTick) = Why.Through
why_in (State.Ended Cause.Range) = Why.Through
why_in State.Running = Why.Through

unfoldable pub why_by : Stop → State → Why
unfolding why_in
why_by Stop.More state = Why.Full
why_by Stop.Ended state = why_in state
why_by Stop.Limited state = Why.Through
why_by (Stop.Refused fault) state = Why.Through

unfoldable pub why_of : compute.Walked ℕ → Why
unfolding why_by
why_of (compute.stopped o) = why_by o.stop o.now.cursor.state
why_of (compute.through s) = Why.Through

-- what it then held
unfoldable pub now_in : compute.Walked ℕ → Now ℕ
now_in (compute.stopped o) = o.now
now_in (compute.through s) = s

unfoldable pub held_in : State → Now ℕ → Held
held_in state s = record { cursor = in_state state s.cursor; moves = s.made; handed = s.handed }

pub read_back : (why : Why) (held : Held) (buffer : List ℕ) →
    let w = walked_by (record { why = why; held = held }) buffer in
    (why_of w ≡ why) × (held_in held.cursor.state (now_in w) ≡ held) × ((now_in w).buffer ≡ buffer)
unfolding walked_by why_in why_by why_of now_in held_in
read_back Why.Full held buffer = (refl, refl, refl)
read_back Why.Until held buffer = (refl, refl, refl)
read_back Why.Count held buffer = (refl, refl, refl)
read_back Why.Through held buffer = (refl, refl, refl)

-- an outcome is of one answer with one buffer, where the cursor's state is told
pub one_walked : (x y : Walked) (b c : List ℕ) (state : State) → walked_by x b ≡ walked_by y c → x.held.cursor.state ≡ state → y.held.cursor.state ≡ state
    → (x ≡ y) × (b ≡ c)
one_walked x y b c state e s t =
    let p = read_back x.why x.held b in
    let q = read_back y.why y.held c in
    let w : x.why ≡ y.why = sym p.0 ∙ ap why_of e ∙ q.0 in
    let h : x.held ≡ y.held =
    sym p.1 ∙ ap (λ (o : compute.Walked ℕ). held_in x.held.cursor.state (now_in o)) e
    ∙ ap (λ (a : State). held_in a (now_in (walked_by y c))) (s ∙ sym t) ∙ q.1 in (
      ap (λ (a : Why). record { why = a; held = x.held }) w ∙ ap (λ (a : Held). record { why = y.why; held = a }) h,
      sym p.2 ∙ ap (λ (o : compute.Walked ℕ). (now_in o).buffer) e ∙ q.2,
    )
