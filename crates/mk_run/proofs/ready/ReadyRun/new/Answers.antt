use Rattle.std.proofs.Common.{slice_get}
use Rattle.mk_heap.proofs.Below.Laws.Vocabulary.{Some, arith, length, subst, ◌+◌, ◌≡◌}
use Rattle.mk_run.proofs.Vocabulary.{IsReadyScript}
use Rattle.mk_run.{proofs.ReadyScripts.one_more, specs.declared.ready.ReadyScript.ReadyScript}
use Rattle.mk_run.proofs.ready.ReadyRun.new.Goals as goal

pub loop-script-preserved : goal.loop-script-preserved
loop-script-preserved g c =
    let made_for = g.E.Engine.made_for in
    let program = c.args.program.now in
    let pages = c.args.config.now.pages in
    let old = c.loop-script.scripts in
    let new = c.push_back.new.self in
    let invariant = c.loop-script.invariant in
    let last : ReadyScript g.row.E.Denot = record { feed = c.in_ok-feed.feed; engine = c.in_ok-engine.engine } in
    let is : IsReadyScript made_for program pages (0 + length old.items) last = grind arith in
    record {
      count = omega (arith, c.in_ok-push_back.ensures, invariant.count, old.ok, new.ok);
      each = λ i ready at. one_more made_for program pages 0 old.items last invariant.each is i ready
          (subst (λ scripts. slice_get scripts i ≡ Some ready) c.in_ok-push_back.ensures.items at);
    }

pub returns : goal.returns
returns g c = grind arith
