-- Each cycle that the host begins is finished at once.
use Rattle.mk_alloc.proofs.Below.Laws.Vocabulary.{Step, ap, false, refl, ◌∙◌}
use Rattle.mk_alloc.proofs.Below.Cycles.Begun.{finish_begins_none, has_on, step_begins_none}
use Rattle.mk_alloc.proofs.{Below.Words.Sweeping.only_seen, FinishedCycles.{Never, begun_and_finished, finished_then}}
use Rattle.mk_alloc.proofs.FinishedCycles.{unbegun_finished}
use Rattle.mk_alloc.specs.{Below.Words.Steps.Makes, TurnCycles.EachIsFinished}
use Rattle.mk_alloc.specs.Below.Cycles.{BeginCycle.BeginsCycle, Stops.IsClosedBy}
use Rattle.mk_alloc.specs.Below.{Cycles.FinishCycle.FinishesCycle, Words.States.PassState}
use Rattle.mk_heap.{proofs.{BegunHosts.idle_begun, MovedHosts.{idle_moves, taken_own}}, specs.Ending.{TakesIdleTurn}}

pub cycle_finished : {V : Type 0} (closes : V → PassState → PassState → Type 0) (engine : V)
    {p idle begun ended q : PassState} → TakesIdleTurn p idle → BeginsCycle idle begun → FinishesCycle begun ended
    → IsClosedBy (closes engine) begun ended → Makes ended Step.Give q → EachIsFinished closes p q
cycle_finished closes engine {p} {idle} {begun} {ended} {q} takes law finishes closed gives =
    let m = idle_moves p idle takes in
    let same = only_seen p idle m.more m.is in
    let own_idle = has_on p idle same (taken_own takes.takes) in
    let own_begun = has_on idle begun law.pass own_idle in
    let same_ended = finishes.pass ∙ ap (λ (x : PassState). record x { seen = ended.seen }) law.pass in
    let whole = begun_and_finished closes engine own_idle law closed
    (finish_begins_none Never begun ended own_begun finishes) in
    let given = unbegun_finished closes
    (step_begins_none Never {yet = false} ended q Step.Give (has_on begun ended finishes.pass own_begun) gives refl) in
    finished_then closes p idle q same (unbegun_finished closes (idle_begun Never takes))
    (finished_then closes idle ended q same_ended whole given)
