use Rattle.mk_caller.proofs.Below.Laws.Vocabulary.{arith, ◌+◌}
use Rattle.mk_alloc.proofs.{ObjectVocabulary.{PassState, is_settling}, SetGates.{all_yet_held, caller_within}}
use Rattle.mk_alloc.proofs.SetGates.{opened_next, opened_so_far, opens_none, set_acting, set_held, set_phase, set_seat}
use Rattle.mk_alloc.proofs.gates.open_gates.Goals as goal
use Rattle.mk_alloc.proofs.{SetGates.{sets_more, sets_named}, JoinedLooks.{reached_table, reached_there}}

pub loop-caller-init : goal.loop-caller-init
loop-caller-init c = record { sets = opens_none c.args.turn.now.pass c.requires.held; gone = c.requires.may.gone }

pub open_other-requires-clause-may : goal.open_other-requires-clause-may
open_other-requires-clause-may c = grind (arith, reached_table, set_acting, set_phase)

pub open_other-requires-clause-within : goal.open_other-requires-clause-within
open_other-requires-clause-within c = grind (arith, reached_there, caller_within)

pub open_other-requires-clause-held : goal.open_other-requires-clause-held
open_other-requires-clause-held c = grind (arith, set_held, caller_within, all_yet_held, set_seat)

pub loop-caller-preserved : goal.loop-caller-preserved
loop-caller-preserved c =
    let p : PassState = c.args.turn.now.pass in
    let q : PassState = c.loop-caller.turn.pass in
    let n = c.loop-caller.caller in
    record {
      sets = sets_more is_settling p q _ _ _ n _ c.loop-caller.invariant.sets c.open_other.ensures.sets (λ j ne.
          opened_next p.seat n j ne) (opened_so_far _ (n + 1) n (omega arith));
      gone = c.open_other.ensures.gone;
    }

pub returns-clause-sets : goal.returns-clause-sets
returns-clause-sets c = grind (arith, sets_named, opened_so_far)
