use Rattle.std.{proofs.Common.{Result}, specs.Result.{IfErr, IsErrAnd}}
use Rattle.mk_replay.proofs.{Vocabulary.{Err, Ok, history_of, rules}, UnderWay.{next_under_way, over, refused_here}}
use Rattle.mk_replay.proofs.{UnderWay.room_of, AdmittedSchedules.{schedule_is_history, schedule_keeps_all_promises}}
use Rattle.mk_laws.proofs.Vocabulary.{Some, subst, sym, ◌≡◌, ◌≢◌}
use Rattle.mk_check.specs.Laws.{IsChecked}
use Rattle.mk_replay.specs.{Replays.refusal_of, declared.replaying.ReplayStop.TheVariants.NoMemory}
use Rattle.mk_replay.proofs.replaying.replay.Goals as goal

-- what holds of the stop that a `?` hands on
handed_on : {X Stop : Type 0} (found : Result X Stop) (stop : Stop) (P : Stop → Type 0)
    → IsErrAnd found (λ handed. handed ≡ stop) → P stop → IfErr found P
handed_on (Ok x) stop P is told = absurd is
handed_on (Err handed) stop P is told = subst P (sym is) told

pub step-requires : goal.step-requires
step-requires c = room_of c.loop-entry.invariant (search rules)

pub returns-in_err-step-clause-not_enabled : goal.returns-in_err-step-clause-not_enabled
returns-in_err-step-clause-not_enabled c =
    let h = c.loop-entry.invariant in
    let stop = c.in_err-step.field-0.0 in
    let refused : stop ≢ NoMemory → refusal_of c.args.program.now c.args.schedule.now ≡ Some stop =
    λ ne. refused_here c.entries-entry-items.result.now _ c.entries-entry-items.ensures c.loop-entry-test.true h
    (c.in_err-step.ensures.stop c.args.program.now h.events h.is_run ne) in
    handed_on c.from_residual-in_err-step.result stop (λ stop'. stop' ≢ NoMemory
    → refusal_of c.args.program.now c.args.schedule.now ≡ Some stop') c.from_residual-in_err-step.ensures.1 refused

pub loop-entry-preserved : goal.loop-entry-preserved
loop-entry-preserved c =
    let h = c.loop-entry.invariant in
    next_under_way c.entries-entry-items.result.now _ c.entries-entry-items.ensures c.loop-entry-test.true h
    (c.in_ok-step.ensures.ok c.args.program.now h.events h.is_run)

pub returns-clause-enabled : goal.returns-clause-enabled
returns-clause-enabled c =
    (over c.entries-entry-items.result.now
    c.entries-entry-items.ensures c.loop-entry-test.false c.loop-entry.invariant).refusal

pub returns-clause-history : goal.returns-clause-history
returns-clause-history c =
    (over c.entries-entry-items.result.now
    c.entries-entry-items.ensures c.loop-entry-test.false c.loop-entry.invariant).enabled

pub returns-clause-texts : goal.returns-clause-texts
returns-clause-texts c =
    c.in_ok-texts.ensures c.args.program.now (history_of c.args.program.now c.args.schedule.now)
    (over c.entries-entry-items.result.now
    c.entries-entry-items.ensures c.loop-entry-test.false c.loop-entry.invariant).is_run

-- The scripts of a checked program ask for nothing that isn't admitted.

pub returns-clause-admitted : goal.returns-clause-admitted
returns-clause-admitted c =
    let known = c.program-well_typed.ensures in
    let checked : IsChecked c.args.program.now =
    record { well_typed = known.well_typed; of_some_text = known.of_some_text } in
    (schedule_is_history c.args.schedule.now checked (over c.entries-entry-items.result.now
    c.entries-entry-items.ensures c.loop-entry-test.false c.loop-entry.invariant).enabled).admitted

pub returns-clause-promises : goal.returns-clause-promises
returns-clause-promises c =
    let known = c.program-well_typed.ensures in
    let checked : IsChecked c.args.program.now =
    record { well_typed = known.well_typed; of_some_text = known.of_some_text } in
    schedule_keeps_all_promises c.args.schedule.now checked (over c.entries-entry-items.result.now
    c.entries-entry-items.ensures c.loop-entry-test.false c.loop-entry.invariant).enabled
