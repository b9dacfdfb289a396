use Rattle.mk_alloc.proofs.{Below.Laws.Vocabulary.{false, subst, sym, ◌≡◌}, FinishedCycles.{Never, unbegun_finished}}
use Rattle.mk_alloc.specs.Below.Words.States.{HasCallers, WordsState}
use Rattle.mk_heap.proofs.{HostTurns.over_begins, LastTurns.still_behind_over, BegunHosts.over_begun}
use Rattle.mk_heap.proofs.ClientSteps.{has_said_over}
use Rattle.std.proofs.Common.{rules}
use Rattle.mk_heap.proofs.last_turns.take_last_turns.Goals as goal

pub returns-else-with_cycle-clause-host : goal.returns-else-with_cycle-clause-host
returns-else-with_cycle-clause-host g c =
    let at = c.requires.all_home in
    let p = c.args.host.now.pass in
    let q = c.over.new.self.pass in
    record {
      is = c.over.ensures.host;
      still = still_behind_over at.seat c.over.ensures.over;
      keeps = record {
        reached = c.over.ensures.reached;
        begun = over_begun g.E.Engine.ways.begins p q c.over.ensures.over;
        said = c.over.ensures.said;
        finished = λ off. unbegun_finished g.E.Engine.ways.closes (over_begun Never p q c.over.ensures.over);
      };
    }

pub returns-else-with_cycle-clause-cycles : goal.returns-else-with_cycle-clause-cycles
returns-else-with_cycle-clause-cycles g c =
    let at = c.requires.all_home in
    let unasked : c.args.with_cycle ≡ false = search rules in
    rw unasked (over_begins at.own (subst (λ (w : WordsState). HasCallers w.config c.args.host.now.pass.seats)
    (sym at.table) at.callers) c.over.ensures.over)

pub returns-else-with_cycle-clause-over : goal.returns-else-with_cycle-clause-over
returns-else-with_cycle-clause-over g c = has_said_over c.over.ensures.over
