use Rattle.mk_heap.proofs.Below.Laws.Vocabulary.{Caller, Config, Host, ap, arith, length, subst, sym, ◌+◌, ◌∙◌, ◌≡◌}
use Rattle.mk_run.proofs.Vocabulary.{AreReadyFrom, Grows, HasMade, HostState, IsFirstPass, IsReadyScript, IsScript}
use Rattle.mk_run.{proofs.Vocabulary.{has_left, rules, script_names, with_joined}, specs.Joining.{AreJoined, HasRun}}
use Rattle.mk_run.proofs.{JoinedScripts.{one_joined, texts_joined}, KeptScripts.{none_joined, script_joined}}
use Rattle.mk_run.proofs.{KeptScripts.scripts_on, LaterLists.of_one, ReadyScripts.ready_first}
use Rattle.mk_heap.proofs.HostTurns.{host_is_still, unseen_by_host}
use denote.Param.Send.{Quiet-if}
use mir.Syntax.{of_param}
use Rattle.mk_heap.proofs.Crews.{caller_made, first_pass}
use Rattle.mk_run.proofs.joining.+fn-run_from-join+arg3+run_from.Goals as goal

pub join-ran-requires-after_bounds : goal.join-ran-requires-after_bounds
join-ran-requires-after_bounds g t c κs within =
    let w = c.args.run.now.heap.now in
    let k = c.args.k in
    let rest = c.pop_front.new.self.items in
    let host = c.args.host in
    let made_for = g.E.Engine.made_for in
    let program = c.args.run.now.program.now in
    let made = ready_first made_for program w.config k c.in-Some.ready rest
    (subst (λ scripts. AreReadyFrom made_for program w.config k scripts) c.in-Some.ensures.items c.requires.scripts) in
    let ready : IsReadyScript made_for program w.config.pages k c.in-Some.ready = made.0 in
    let left : AreReadyFrom made_for program w.config (k + 1) rest = made.1 in
    let scripts = ap (λ (x : Config). x.callers) c.args.run.now.made_for in
    let script : IsScript c.args.run.now.program.now k =
    omega (arith, c.in-Some.ensures.cases, c.args.scripts.ok, c.requires.scripts.count, scripts) in
    let first : IsFirstPass w k c.finish-pass.result = grind (arith, first_pass) in
    let markers = c.args.run.now.markers in
    let next : HasMade w markers (k + 1) c.caller.new.self =
    subst (λ (h : HostState). HasMade w markers (k + 1) h) (sym c.caller.ensures.host) (caller_made c.requires.host) in
    -- What the bounds of the type parameters say of the two closures: by hand, since a search doesn't look so far.
    let shared = c.requires.shared in (
      (
        (
          record { shared = shared.0.shared },
          record { shared = shared.1.shared },
          record { owned = shared.2.owned; leaving = λ k. Quiet-if (k (of_param 0)) _ _ (λ x w. tt) (λ x w. tt) },
        ),
        (
          script,
          (
            first,
            (
              ready,
              (
                record { owned = shared.2.owned; leaving = λ k. Quiet-if (k (of_param 0)) _ _ (λ x w. tt) (λ x w. tt) },
                record { shared = shared.1.shared },
                record { shared = shared.0.shared },
              ),
            ),
          ),
        ),
      ),
      (
        search rules,
        (
          λ a is. is,
          (
            λ a is. is,
            (
              λ a is. is,
              (
                shared,
                (
                  next,
                  (
                    left,
                    (shared.2, shared.1, shared.0),
                  ),
                ),
              ),
            ),
          ),
        ),
      ),
    )

pub returns : goal.returns
returns g t c =
    let on = g.E.Engine.ways.on in
    let program = c.args.run.now.program.now in
    let w = c.args.run.now.heap.now in
    let k = c.args.k in
    let ran : HasRun on program w k c.join-ran.result.0 = c.join-ran.ensures.first.0 in
    let joined : AreJoined on program w (k + 1) c.args.run.now.markers c.join-ran.result.1 =
    c.join-ran.ensures.second.0 in
    let pass = c.join-ran.result.0.pass in
    let old = c.join-ran.result.1.host in
    let new = c.join_caller.new.self in
    let is : new ≡ with_joined old pass new.pass.seen = c.join_caller.ensures.host in
    let own : Grows old.pass.seats old.pass.seen new.pass.seen = c.join_caller.ensures.own in
    let came : Grows pass.seats pass.seen new.pass.seen = c.join_caller.ensures.came in
    let scripts = ap (λ (x : Config). x.callers) c.args.run.now.made_for in
    let few : IsScript program k =
    omega (arith, c.in-Some.ensures.cases, c.args.scripts.ok, c.requires.scripts.count, scripts) in
    record {
      joined = record {
        is_host =
            rw is (one_joined k pass joined.is_host own ran.alone came ran.follows);
        own = rw is (has_left old.pass.seats pass.seats Host joined.own);
        without_host = host_is_still joined.own own joined.without_host;
        before_over = c.join_caller.ensures.overs ∙ joined.before_over;
        same_markers = ap (λ (h : HostState). h.markers) is ∙ joined.same_markers;
        texts =
            texts_joined k pass joined.is_host own ran.alone came (λ texts. texts.items)
            c.join-ran.result.0.text c.join-ran.result.1.texts c.with_first.result c.with_first.ensures.first
            c.with_first.ensures.others c.with_first.ensures.items ran.ends ran.is_text joined.texts few;
      };
      keep =
          script_joined ran.alone came c.join-ran.ensures.first.1 (scripts_on _
          (λ j le is. of_one (Caller j) (joined.is_host.seats j le is) own) c.join-ran.ensures.second.1);
    }

pub returns-in_default-clause-joined : goal.returns-in_default-clause-joined
returns-in_default-clause-joined g t c = grind (arith, unseen_by_host)

pub returns-in_default-clause-keep : goal.returns-in_default-clause-keep
returns-in_default-clause-keep g t c =
    let scripts = ap (λ (x : Config). x.callers) c.args.run.now.made_for in
    let all : c.args.k ≡ length (script_names c.args.run.now.program.now) =
    omega (arith, c.in_default.ensures.cases, c.args.scripts.ok, c.requires.scripts.count, scripts) in
    none_joined c.args.run.now.program.now c.args.k c.args.run.now.heap.now.config c.args.host.pass.seen
    c.requires.host.seen all
