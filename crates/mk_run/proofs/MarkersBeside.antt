-- Scripts that are over stay so as markers are joined.
use Rattle.std.proofs.lemmas.Result.{IfOk-weaker}
use Rattle.mk_heap.proofs.Below.Laws.Vocabulary.{Bool, Caller, Host, IsHistory, List, arith, subst, ℕ, ◌∙◌, ◌≡◌}
use Rattle.mk_run.proofs.Vocabulary.{AreTextsFrom, CallersAreStill, HostState, IsOver, Item, WordsState, config_of}
use Rattle.mk_run.proofs.WholeRuns.{all_callers_home, all_callers_joined, still_follows_on, still_texts}
use Rattle.mk_run.{proofs.LaterLists.{of_one}, specs.declared.marking.Done.{Done}}
use Rattle.mk_heap.{proofs.HostTurns.{still_last}, specs.{Hosts.JoinsMarkers, Hosts.AllAreJoined}}

module _ {E : Type 0} {on with_cycle : Bool} {program : List Item} (markers : ℕ) {w : WordsState} {n : ℕ}
    {h g : HostState} {done : Done E} (made : w.config ≡ config_of program markers)
    (over : IsOver on with_cycle program w n h done) (joins : JoinsMarkers 0 h g) where
  still : CallersAreStill h.pass g.pass.seen
  still k has = of_one (Caller k) has joins.behind

  pub over_joined : IsOver on with_cycle program w n g done
  over_joined =
      let table : g.pass.table ≡ w = joins.table ∙ over.is_host.table in
      record {
        is_host = record {
          table = table;
          seat = joins.seat ∙ over.is_host.seat;
          count = joins.callers ∙ over.is_host.count;
          seats = λ k le is. joins.home (Caller k) (over.is_host.seats k le is);
          follow = still_follows_on g.pass.seen over.is_host still;
        };
        own = joins.home Host over.own;
        last =
            still_last w.config h.pass over.own (all_callers_home markers made over.is_host) joins.behind
            (subst (λ (t : WordsState). IsHistory t.config g.pass.seen) table joins.history) over.last;
        over = joins.overs ∙ over.over;
        same_markers = joins.same_markers ∙ over.same_markers;
        texts =
            IfOk-weaker done.texts (λ texts. AreTextsFrom program 0 w.config h.pass.seen texts.items)
            (λ texts. AreTextsFrom program 0 w.config g.pass.seen texts.items)
            (λ texts t. still_texts g.pass.seen over.is_host still t) over.texts;
      }

  pub all_joined : AllAreJoined g
  all_joined = record {
    callers = all_callers_joined over_joined.is_host;
    markers = λ i lt. joins.markers i (omega arith) lt;
  }
