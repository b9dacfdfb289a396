use Rattle.mk_caller.proofs.Below.Laws.Vocabulary.{Step, Word, refl}
use Rattle.mk_alloc.proofs.{ObjectVocabulary.{PassState, call_of}, Looks.{acting_caller, acting_now, found_quarantine}}
use Rattle.mk_alloc.proofs.{FreeSteps.{see_keeps, see_reaches}, LoadedFrees.{free_step_admits, loaded_undecided}}
use Rattle.mk_alloc.proofs.targets.look_at_quarantine.Goals as goal
use Rattle.mk_alloc.proofs.MayAct.{free_is_acting, may_look_quarantine}

pub look-requires-clause-enabled : goal.look-requires-clause-enabled
look-requires-clause-enabled c =
    let p : PassState = c.args.turn.now.pass in
    let free = loaded_undecided c.requires.loaded.value c.requires.loaded.free c.requires.loaded.some in
    may_look_quarantine (acting_now c.args.turn.now.in_order (free_is_acting (call_of p) free))
    c.args.cell.page c.requires.within

pub look-requires-clause-admitted : goal.look-requires-clause-admitted
look-requires-clause-admitted c =
    let p : PassState = c.args.turn.now.pass in
    let free = loaded_undecided c.requires.loaded.value c.requires.loaded.free c.requires.loaded.some in
    λ decides. free_step_admits (Step.Look (Word.Quar c.args.cell.page))
    (acting_caller p (free_is_acting (call_of p) free)) c.args.turn.now.in_order
    c.requires.loaded.free refl

pub returns-clause-seen : goal.returns-clause-seen
returns-clause-seen c =
    let free = loaded_undecided c.requires.loaded.value c.requires.loaded.free c.requires.loaded.some in
    see_reaches c.args.cell c.args.turn.now.in_order free c.requires.cell c.look.ensures.acts

pub returns-clause-finds : goal.returns-clause-finds
returns-clause-finds c = found_quarantine c.args.turn.now.in_order c.look.ensures.finds

pub returns-clause-keeps : goal.returns-clause-keeps
returns-clause-keeps c =
    let free = loaded_undecided c.requires.loaded.value c.requires.loaded.free c.requires.loaded.some in
    λ live r lt. see_keeps r c.args.cell lt c.args.turn.now.in_order free c.requires.cell live c.look.ensures.acts
