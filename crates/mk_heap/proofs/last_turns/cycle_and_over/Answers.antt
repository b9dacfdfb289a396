use Rattle.mk_alloc.proofs.{Below.Laws.Vocabulary.{ap, arith, subst, sym, ◌∙◌}, UnsweptTurns.keeps_then}
use Rattle.mk_alloc.proofs.FinishedCycles.{Never, unbegun_finished}
use Rattle.mk_alloc.specs.Below.Words.States.{HasCallers, WordsState}
use Rattle.mk_heap.proofs.{HostTurns.both_begin, LastTurns.{last_turns, still_behind_both}, BegunHosts.over_begun}
use Rattle.mk_heap.{proofs.ClientSteps.{has_said_over}, specs.Hosts.{HostState, with_seen}}
use Rattle.mk_heap.proofs.last_turns.cycle_and_over.Goals as goal

pub over-requires-clause-joined : goal.over-requires-clause-joined
over-requires-clause-joined g c x2 within = grind arith

pub returns : goal.returns
returns g c =
    let at = c.requires.all_home in
    let h = c.args.host.now in
    let cycled = c.cycle.new.self in
    let over = c.over.new.self in
    let told = c.cycle.ensures.cycle in
    record {
      host = record {
        is = c.over.ensures.host ∙ ap (λ (x : HostState). with_seen x over.pass.seen) c.cycle.ensures.host;
        still = still_behind_both c.args.heap.now h cycled over at.seat c.cycle.ensures.host told c.over.ensures.over;
        keeps = keeps_then (ap (λ (x : HostState). x.pass) c.cycle.ensures.host)
            (record {
              reached = c.cycle.ensures.reached;
              begun = c.cycle.ensures.begun;
              said = c.cycle.ensures.said;
              finished = λ off. c.cycle.ensures.finished;
            })
            (record {
              reached = c.over.ensures.reached;
              begun = over_begun _ _ _ c.over.ensures.over;
              said = c.over.ensures.said;
              finished = λ off. unbegun_finished g.E.Engine.ways.closes (over_begun Never _ _ c.over.ensures.over);
            });
      };
      turns =
          rw (c.over.ensures.engine c.cycle.ensures.idle) (last_turns c.args.heap.now h cycled over at.seat
          c.cycle.ensures.host told c.over.ensures.over at.table at.callers c.cycle.ensures.own c.over.ensures.host);
      cycles =
          both_begin h cycled over at.own
          (subst (λ (w : WordsState). HasCallers w.config h.pass.seats) (sym at.table) at.callers)
          c.cycle.ensures.host told.makes c.over.ensures.over;
      over = has_said_over c.over.ensures.over;
    }
