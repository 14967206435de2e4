-- The claims of specs/Claims, each proved.
-- Assumes nothing.
use Rattle.machine.specs.Given.{Given}
use Rattle.machine.specs.Cursors.{fresh}
use Rattle.machine.specs.Compute.{run}
use Rattle.machine.specs.Claims.{Answers, EndedReturns, RunKeeps, Tests, RecordRefused, CursorRefused, RefusedAsGiven, Accepted, NothingAtZero, Cutting}
use Rattle.machine.specs.Claims.{OneCall, FirstOfTwo, FirstOfEnded, InTurn, Progress, MovesAreSteps, OneWhole, SatisfiesWithin, FreshWellFormed}
use Rattle.machine.specs.Claims.{StaysWellFormed, NeverRefused, ListsBetween, ChainLists, FirstPartOfWhole, TheWhole, MovesShow, ComesToEnd, Ample}
use Rattle.machine.specs.Claims.{SoundByLeast, SoundByNext}
use Rattle.machine.proofs.Steps.{one_answer, run_ends}
use Rattle.machine.proofs.Kept.{call_kept, chain_append}
use Rattle.machine.proofs.Listed.{fresh_formed}
use Rattle.machine.proofs.Refusals as Refusals
use Rattle.machine.proofs.Chains.{each_kept, same_chain, fresh_lists}
use Rattle.machine.proofs.Chains as Chains
use Rattle.machine.proofs.Finish as Finish
use Rattle.machine.proofs.Enough as Enough

module _ {A : Type 0} (g : Given A) where
  pub answers : Answers g
  answers c x o = ((λ e. one_answer g x.budget e (run_ends g c x)), (λ e. rw e (run_ends g c x)))

  pub ended_returns : EndedReturns g
  ended_returns = Finish.ended_returns g

  pub run_keeps : RunKeeps g
  run_keeps = call_kept g

  pub tests : Tests g
  tests = Refusals.tests g

  pub record_refused : RecordRefused g
  record_refused = Refusals.record_refused g

  pub cursor_refused : CursorRefused g
  cursor_refused = Refusals.cursor_refused g

  pub refused_as_given : RefusedAsGiven g
  refused_as_given = Refusals.refused_as_given g

  pub accepted : Accepted g
  accepted = Refusals.accepted g

  pub nothing_at_zero : NothingAtZero g
  nothing_at_zero = Chains.nothing_at_zero g

  pub cutting : Cutting g
  cutting = Chains.cutting g

  pub one_call : OneCall g
  one_call = Chains.one_call g

  pub first_of_two : FirstOfTwo g
  first_of_two = Chains.first_of_two g

  pub first_of_ended : FirstOfEnded g
  first_of_ended = Chains.first_of_ended g

  pub in_turn : InTurn g
  in_turn = chain_append (run g)

  pub progress : Progress g
  progress = Finish.progress g

  pub moves_are_steps : MovesAreSteps g
  moves_are_steps = Finish.moves_are_steps g

  pub one_whole : OneWhole g
  one_whole = Finish.one_whole g

  pub satisfies_within : SatisfiesWithin g
  satisfies_within = Enough.satisfies_within g

  pub fresh_well_formed : FreshWellFormed g
  fresh_well_formed = fresh_formed g

  pub stays_well_formed : StaysWellFormed g
  stays_well_formed = Chains.stays_well_formed g

  pub never_refused : NeverRefused g
  never_refused lawful good e c xs f = (each_kept g lawful good e c xs f, same_chain g lawful good e c xs f)

  pub lists_between : ListsBetween g
  lists_between = Chains.lists_between g

  pub chain_lists : ChainLists g
  chain_lists lawful good e calls =
      let f = fresh_formed g lawful in
      (each_kept g lawful good e (fresh g) calls f, rw (same_chain g lawful good e (fresh g) calls f) (fresh_lists g lawful calls))

  pub first_part_of_whole : FirstPartOfWhole g
  first_part_of_whole = Finish.first_part_of_whole g

  pub the_whole : TheWhole g
  the_whole = Finish.the_whole g

  pub moves_show : MovesShow g
  moves_show = Finish.moves_show g

  pub comes_to_end : ComesToEnd g
  comes_to_end = Finish.comes_to_end g

  pub ample : Ample g
  ample = Finish.ample g

  pub sound_by_least : SoundByLeast g
  sound_by_least = Enough.sound_by_least g

  pub sound_by_next : SoundByNext g
  sound_by_next = Enough.sound_by_next g
