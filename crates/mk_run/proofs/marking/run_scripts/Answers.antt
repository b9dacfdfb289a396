use Rattle.std.proofs.lemmas.Result.{IfOk-weaker}
use Rattle.mk_heap.proofs.Below.Laws.Vocabulary.{Host, ap, arith, subst, sym, ◌∙◌, ◌≡◌}
use Rattle.mk_run.proofs.Vocabulary.{AreTextsFrom, Has, HasJoined, HostState}
use Rattle.mk_run.proofs.WholeRuns.{all_callers_home, all_callers_joined, still_joined, still_texts}
use Rattle.mk_run.proofs.KeptScripts.{host_on, scripts_on, unseen_keeps}
use Rattle.mk_heap.proofs.HostTurns.{comes_last}
use Rattle.mk_run.proofs.marking.run_scripts.Goals as goal

pub take_last_turns-requires-clause-all_home : goal.take_last_turns-requires-clause-all_home
take_last_turns-requires-clause-all_home g c κs within =
    let joined = c.run_from-host.ensures.joined in
    record {
      table = joined.is_host.table;
      seat = joined.is_host.seat;
      own = joined.own;
      joined = grind (arith, all_callers_joined);
      callers = grind (arith, all_callers_home);
      before_over = joined.before_over;
    }

pub returns : goal.returns
returns g c =
    let on = g.E.Engine.ways.on in
    let program = c.args.run.now.program.now in
    let w = c.args.run.now.heap.now in
    let joined = c.run_from-host.ensures.joined in
    let h = c.run_from-host.result.host in
    let new = c.take_last_turns.new.host in
    let last = c.take_last_turns.ensures in
    let count : new.markers ≡ c.args.run.now.markers =
    ap (λ (x : HostState). x.markers) last.host.is ∙ joined.same_markers in
    record {
      over = record {
        is_host =
            subst (λ (x : HostState). HasJoined on program w 0 x) (sym last.host.is)
            (still_joined new.pass.seen joined.is_host last.host.still);
        own = subst (λ (x : HostState). Has x.pass.seats Host) (sym last.host.is) joined.own;
        last =
            comes_last w.config h.pass (all_callers_home c.args.run.now.markers c.args.run.now.made_for joined.is_host)
            joined.without_host last.host.still last.cycles;
        over = last.over;
        same_markers = count;
        texts =
            IfOk-weaker c.run_from-host.result.texts (λ texts. AreTextsFrom program 0 w.config h.pass.seen texts.items)
            (λ texts. AreTextsFrom program 0 w.config new.pass.seen texts.items)
            (λ texts t. still_texts new.pass.seen joined.is_host last.host.still t) joined.texts;
      };
      turns = last.turns;
      keep = record {
        scripts = scripts_on new.pass.seen (λ j le is. last.host.still j (joined.is_host.seats j le is))
            c.run_from-host.ensures.keep;
        host = host_on w joined.is_host.table joined.is_host.seat last.host.keeps
            (unseen_keeps w.config Host h.pass.seen joined.without_host);
      };
    }
