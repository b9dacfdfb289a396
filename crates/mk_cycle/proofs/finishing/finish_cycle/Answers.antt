use Rattle.mk_words.proofs.Below.Laws.Vocabulary.{Config, Step, ap, is_end, refl, subst, ◌<◌, ◌∙◌}
use Rattle.mk_cycle.{proofs.Vocabulary.{PassState, does_step, only_seen_by}, specs.Stops.{ClosesAsPromised}}
use Rattle.mk_cycle.proofs.FinishedCycles.{ended_free, finishes_cycle, gives_call, gives_free, has_released}
use Rattle.mk_cycle.proofs.{finishing.finish_cycle.Goals.After-count_cycle, ClosedBy.promised_later}
use Rattle.mk_cycle.proofs.{EndSteps.end_allowed, KeptInParts.same_config}
use Rattle.mk_cycle.proofs.finishing.finish_cycle.Goals as goal

pub end-requires-clause-enabled : goal.end-requires-clause-enabled
end-requires-clause-enabled g c =
    let gives = c.give_all_back-turn.ensures.gives in
    end_allowed c.give_all_back-turn.result.0.in_order (gives_free gives c.requires.free) gives.phase
    (λ page lt. gives.settled page
    (subst (λ (x : Config). page < x.pages) (same_config c.args.turn.pass c.give_all_back-turn.result.0.pass
    (gives_call gives).pass) lt))

pub count_cycle-requires-clause-free : goal.count_cycle-requires-clause-free
count_cycle-requires-clause-free g c =
    ended_free c.give_all_back-turn.ensures.gives.phase c.end.ensures
    (gives_free c.give_all_back-turn.ensures.gives c.requires.free)

pub returns-clause-law : goal.returns-clause-law
returns-clause-law g c =
    let give = c.give_all_back-turn.ensures in
    finishes_cycle give.gives c.requires.free c.end.ensures _ c.count_cycle.ensures give.told give.held

pub returns-clause-released : goal.returns-clause-released
returns-clause-released g c =
    let give = c.give_all_back-turn.ensures in
    has_released give.gives c.requires.free c.end.ensures _ c.count_cycle.ensures give.told give.held

promised : (g : _) (c : After-count_cycle g)
    → ClosesAsPromised g.E.Engine.ways.sweeps (g.E.Engine.ways.tells c.give_all_back-turn.new.engine)
    (g.E.Engine.ways.closes c.give_all_back-turn.new.engine) c.args.turn.pass c.count_cycle.new.turn.pass
promised g c =
    let same = (gives_call c.give_all_back-turn.ensures.gives).pass in
    let end = c.end.ensures.makes in
    let e = c.end.new.self.pass in
    promised_later (λ page v. refl) (only_seen_by _ e Step.End end ∙ ap
    (λ (x : PassState). record x { seen = e.seen }) same) c.count_cycle.ensures.does (promised_later
    (λ page v. refl) same (does_step is_end _ e Step.End end refl) c.give_all_back-turn.ensures.promised)

pub returns-clause-reached : goal.returns-clause-reached
returns-clause-reached g c = (promised g (goal.at.returns-clause-reached g c).After-count_cycle).reached

pub returns-clause-told : goal.returns-clause-told
returns-clause-told g c = (promised g (goal.at.returns-clause-told g c).After-count_cycle).told

pub returns-clause-closed : goal.returns-clause-closed
returns-clause-closed g c = (promised g (goal.at.returns-clause-closed g c).After-count_cycle).closed
