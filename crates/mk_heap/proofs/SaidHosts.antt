-- What the host's engine says at each close, in parts of the host's turns.
use Rattle.mk_alloc.proofs.Below.Laws.Vocabulary.{Config, None, Step, World, ap, arith, false, is_close, not}
use Rattle.mk_alloc.proofs.Below.{Laws.Vocabulary.{not-true, ◌≡◌}, Words.Doing.does_step}
use Rattle.mk_alloc.proofs.Below.Words.{Sweeping.{only_seen, only_seen_by}, TakesAlone.taking_does}
use Rattle.mk_alloc.{proofs.SaidCloses.{does_say_none, said_then}, specs.Below.Words.TurnSteps.{TakesTurn, is_take}}
use Rattle.mk_alloc.specs.{Below.Words.{States.PassState, Steps.Makes}, TurnCycles.EachIsSaid}
use Rattle.mk_heap.{proofs.MovedHosts.{idle_moves, taken_own, turn_moves}, specs.Ending.{TakesIdleTurn}}

module _ {V : Type 0} (tells : V → Config → World → Type 0) where
  -- one step that is no close
  pub step_says_none : {p q : PassState} {x : Step} → Makes p x q → is_close x ≡ false → EachIsSaid tells p q
  step_says_none {p} {q} {x} m none =
      does_say_none tells (λ (y : Step). not (is_close y)) p q (λ y h. not-true (is_close y) h)
      (does_step (λ (y : Step). not (is_close y)) p q x m (ap not none))

  pub step_then_says : {p q r : PassState} {x : Step} → Makes p x q → is_close x ≡ false → EachIsSaid tells q r
      → EachIsSaid tells p r
  step_then_says {p} {q} {r} {x} m none rest = said_then tells p q r (only_seen_by p q x m) (step_says_none m none) rest

  -- It takes the turn, and then its parts are so.
  pub taken_then_says : {p taken q : PassState} → TakesTurn p None taken → EachIsSaid tells taken q
      → EachIsSaid tells p q
  taken_then_says {p} {taken} {q} takes rest =
      let m = turn_moves p taken takes in
      said_then tells p taken q (only_seen p taken m.more m.is) (does_say_none tells is_take p taken
      (λ x h. grind arith) (taking_does p None taken (taken_own takes) takes)) rest

  -- with no cycle on
  pub idle_then_says : {p idle q : PassState} → TakesIdleTurn p idle → EachIsSaid tells p idle
      → EachIsSaid tells idle q → EachIsSaid tells p q
  idle_then_says {p} {idle} {q} takes one two =
      let m = idle_moves p idle takes in said_then tells p idle q (only_seen p idle m.more m.is) one two
