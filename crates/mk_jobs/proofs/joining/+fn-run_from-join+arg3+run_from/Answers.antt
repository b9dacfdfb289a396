use Rattle.std.proofs.{Common.length-drop, Common.rules, lemmas.List.Elements.All-pop}
use Rattle.mk_jobs.proofs.RunVocabulary.{HasMade, HaveWorked, IsBetweenJobs, replied_to}
use Rattle.mk_jobs.proofs.JoinedJobs.{next_list, next_ready, next_unasked, no_lists, none_joined}
use Rattle.mk_jobs.specs.Joining.{AreCallersFrom, HasWorked}
use Rattle.mk_heap.proofs.Crews.{caller_made}
use Rattle.mk_heap.proofs.Below.Laws.Vocabulary.{Some, arith, drop, length, subst, sym, [], ◌+◌, ◌-◌, ◌<◌, ◌≡◌}
use Rattle.mk_jobs.proofs.joining.+fn-run_from-join+arg3+run_from.Goals as goal

pub join-worked-requires-after_bounds : goal.join-worked-requires-after_bounds
join-worked-requires-after_bounds g t c κs within =
    let on = g.E.Engine.ways.on in
    let w = c.args.run.now.heap.now in
    let k = c.args.k in
    let rest = c.pop.new.self.items in
    let given = c.requires.callers in
    let next : HasMade w c.args.run.now.markers (k + 1 + 1) c.caller.new.self =
    subst (HasMade w c.args.run.now.markers (k + 1 + 1)) (sym c.caller.ensures.host)
    (caller_made c.requires.host) in
    let made = All-pop (λ engine. g.E.Engine.made_for engine ≡ w.config.pages) c.args.callers.engines.others.items rest
    (Some c.in-Some.second) c.in-Some.ensures.items given.engines.others in
    let callers : AreCallersFrom on g.E.Engine.made_for w (k + 1) (record {
      pass = c.finish-next_pass.result;
      engines = record { first = c.in-Some.second; others = c.pop.new.self };
    }) = record {
      pass = subst (IsBetweenJobs on w (k + 1)) (sym c.finish-next_pass.ensures.pass)
          (next_ready on c.caller.result c.requires.host c.caller.ensures.caller);
      engines = record {
        count = omega (arith, c.in-Some.ensures.cases, given.engines.count);
        first = made.1;
        others = made.0;
      };
    } in
    let exists : k < w.config.callers = omega (arith, given.engines.count) in
    let pass : IsBetweenJobs on w k c.args.callers.pass = given.pass in
    let first : g.E.Engine.made_for c.args.callers.engines.first ≡ w.config.pages = given.engines.first in
    let shorter : length rest < t = omega (arith, c.in-Some.ensures.cases, c.decreases) in
    search rules

pub returns : goal.returns
returns g t c =
    let p = g.O.Object.plan in
    let on = g.E.Engine.ways.on in
    let w = c.args.run.now.heap.now in
    let k = c.args.k in
    let lists = c.args.run.now.lists.now in
    let first = replied_to c.args.callers.pass in
    let others = drop (k + 1) lists in
    let list = next_list lists k (omega (arith, c.args.run.now.one_each, c.requires.callers.engines.count)) in
    let begun : replied_to c.finish-next_pass.result ≡ [] =
    cc (c.finish-next_pass.ensures.pass, next_unasked c.caller.result c.requires.host c.caller.ensures.caller) in
    let markers = c.args.run.now.markers in
    let one = rw list.there at c.join-worked.ensures.first in
    let joined : HaveWorked p on w markers (replied_to c.finish-next_pass.result) (k + 1) others
    c.join-worked.result.1 = c.join-worked.ensures.second in
    record {
      joined = rw list.rest (c.join_worked-2.ensures markers first k list.jobs others one (rw begun at joined));
    }

-- the last caller
pub returns-in_default : goal.returns-in_default
returns-in_default g t c =
    let p = g.O.Object.plan in
    let on = g.E.Engine.ways.on in
    let w = c.args.run.now.heap.now in
    let k = c.args.k in
    let markers = c.args.run.now.markers in
    let lists = c.args.run.now.lists.now in
    let first = replied_to c.args.callers.pass in
    let others = drop (k + 1) lists in
    let count = c.requires.callers.engines.count in
    let list = next_list lists k (omega (arith, c.args.run.now.one_each, count)) in
    let left : length others ≡ length lists - (k + 1) = length-drop (k + 1) lists in
    let none : others ≡ [] =
    no_lists others (omega (arith, left, c.args.run.now.one_each, count, c.in_default.ensures.cases)) in
    let alone : HaveWorked p on w markers [] (k + 1) others _ =
    rw none (none_joined p (record { host = c.args.host; dones = _ }) c.requires.host c.new.ensures.items) in
    let one : HasWorked p on w first k list.jobs.list.items c.work_alone-worked.result =
    rw list.there at c.work_alone-worked.ensures.worked in
    record { joined = rw list.rest (c.join_worked.ensures markers first k list.jobs others one alone) }

-- What the bounds of the type parameters say of the second closure: by hand, since a search doesn't look so far.
pub fn::run_from::join+arg3+FnOnce::call_once-join+arg3-requires :
    goal.fn::run_from::join+arg3+FnOnce::call_once-join+arg3-requires
fn::run_from::join+arg3+FnOnce::call_once-join+arg3-requires g t c κs within =
    let asked = c.requires.1.1.1.1.1.1.1 in
    let bounds = asked.1.1.1.1 in (
      search rules,
      (
        search rules,
        (
          search rules,
          (
            search rules,
            (
              search rules,
              (
                search rules,
                (
                  search rules,
                  (
                    search rules,
                    (
                      bounds.0,
                      (
                        bounds.1,
                        (
                          bounds.2,
                          (
                            bounds.3,
                            (
                              bounds.4,
                              (
                                bounds.5,
                                (
                                  bounds.6,
                                  (
                                    asked.0,
                                    (
                                      asked.1.0,
                                      (
                                        asked.1.1.0,
                                        asked.1.1.1.0,
                                      ),
                                    ),
                                  ),
                                ),
                              ),
                            ),
                          ),
                        ),
                      ),
                    ),
                  ),
                ),
              ),
            ),
          ),
        ),
      ),
    )
