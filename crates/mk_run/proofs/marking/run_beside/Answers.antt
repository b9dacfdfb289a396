use Rattle.mk_heap.proofs.Below.Laws.Vocabulary.{Caller, Host}
use Rattle.mk_run.proofs.{KeptScripts.{others_on, scripts_on}, LaterLists.of_one}
use Rattle.mk_run.proofs.MarkersBeside.{all_joined, over_joined}
use Rattle.mk_heap.proofs.LastTurns.{last_turns_joined}
use Rattle.mk_run.proofs.marking.run_beside.Goals as goal

pub returns : goal.returns
returns g c =
    let run = c.args.run.now in
    let beside = c.beside_markers.ensures in
    let over = beside.does.1.0 in
    let joins = beside.joins in
    record {
      over = over_joined run.markers run.made_for over joins;
      joined = all_joined run.markers run.made_for over joins;
      turns = λ asked. last_turns_joined joins (beside.does.1.1.0 asked);
      keep = record {
        scripts = scripts_on _ (λ j le is. of_one (Caller j) (over.is_host.seats j le is) joins.behind)
            beside.does.1.1.1.scripts;
        host = others_on _ Host _ _ _ over.own joins.behind beside.does.1.1.1.host;
      };
    }
