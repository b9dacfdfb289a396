-- The host's last turns, when the scripts are joined: the callers are still, and so they stay as markers are joined.
use Rattle.mk_alloc.proofs.Below.Laws.Vocabulary.{Caller, Config, Host, Seat, Step, World, ap, append-nil, append_assoc}
use Rattle.mk_alloc.proofs.Below.Laws.Vocabulary.{subst, sym, ℕ, [], ◌++◌, ◌∙◌, ◌∷◌, ◌≡◌}
use Rattle.mk_alloc.proofs.Below.Words.Seats.{others_append, others_none, others_fewer}
use Rattle.mk_alloc.specs.Below.Words.States.{Has, HasCallers, PassState, WordsState}
use Rattle.mk_heap.specs.{Ending.{CallersAreStill, TakesLastTurns}, Hosts.{HostState, with_seen}}
use Rattle.mk_heap.specs.{Hosts.JoinsMarkers, Ending.{SaysOver, MakesCycle, MakesToldCycle}}
use Rattle.mk_core.specs.History.{is_same_seat}
use Rattle.mk_heap.proofs.MovedHosts.{MovesOn, begin_moves, finish_moves, idle_moves, moves_more}

-- Callers whose seats are home make no step in the host's turns.

moved_still : {p q : PassState} → p.seat ≡ Host → MovesOn p q → CallersAreStill p q.seen
moved_still seat moves = λ k has. record {
  more = moves.more;
  is = ap (λ (r : PassState). r.seen) moves.is;
  of_others = moves.leaves (Caller k) has (ap (λ (s : Seat). is_same_seat (Caller k) s) seat);
}

pub over_moves : (p q : PassState) → SaysOver p q → MovesOn p q
over_moves p q over =
    let idle = idle_moves p over.idle over.idles in
    moves_more p over.said q Step.Give (moves_more p over.idle over.said Step.Over idle over.says) over.gives

pub cycle_moves : {p q : PassState} → MakesCycle p q → MovesOn p q
cycle_moves {p} {q} m =
    let idle = idle_moves p m.idle m.idles in
    let ended = finish_moves p m.begun m.ended (begin_moves p m.idle m.begun idle m.begins) m.finishes in
    moves_more p m.ended q Step.Give ended m.gives

pub still_behind_over : {p q : PassState} → p.seat ≡ Host → SaysOver p q → CallersAreStill p q.seen
still_behind_over {p} {q} seat over = moved_still seat (over_moves p q over)

module _ {tells : Config → World → Type 0} (w : WordsState) (h g i : HostState) (seat : h.pass.seat ≡ Host) (is : g
    ≡ with_seen h g.pass.seen) (cycle : MakesToldCycle tells h.pass g.pass) (over : SaysOver g.pass i.pass) where
  pub still_behind_both : CallersAreStill h.pass i.pass.seen
  still_behind_both k has =
      let first = moved_still seat (cycle_moves cycle.makes) k has in
      let second = still_behind_over (ap (λ (x : HostState). x.pass.seat) is ∙ seat) over k
      (subst (λ (x : HostState). Has x.pass.seats (Caller k)) (sym is) has) in
      record {
        more = first.more ++ second.more;
        is = cc (second.is, first.is, append_assoc h.pass.seen first.more second.more);
        of_others = others_append (Caller k ∷ []) first.more second.more first.of_others second.of_others;
      }

  pub last_turns : h.pass.table ≡ w → HasCallers w.config h.pass.seats → Has g.pass.seats Host
      → i ≡ with_seen g i.pass.seen → TakesLastTurns tells w i.pass
  last_turns table callers own is' = record {
    joined = h.pass;
    cycled = g.pass;
    said = i.pass;
    table = table;
    seat = seat;
    own = subst (λ (x : HostState). Has x.pass.seats Host) is own;
    callers = callers;
    cycle = cycle;
    over = over;
    home = λ s has. rw is' (subst (λ (x : HostState). Has x.pass.seats s) (sym is) has);
    behind = record { more = []; is = sym (append-nil i.pass.seen); of_others = others_none h.pass.seats };
  }

-- They stay the last as markers are joined.
pub last_turns_joined : {tells : Config → World → Type 0} {w : WordsState} {j : ℕ} {h g : HostState}
    → JoinsMarkers j h g → TakesLastTurns tells w h.pass → TakesLastTurns tells w g.pass
last_turns_joined joins t = record {
  joined = t.joined;
  cycled = t.cycled;
  said = t.said;
  table = t.table;
  seat = t.seat;
  own = t.own;
  callers = t.callers;
  cycle = t.cycle;
  over = t.over;
  home = λ s has. joins.home s (t.home s has);
  behind = record {
    more = t.behind.more ++ joins.behind.more;
    is = cc (joins.behind.is, t.behind.is, append_assoc t.said.seen t.behind.more joins.behind.more);
    of_others =
        others_append _ t.behind.more joins.behind.more t.behind.of_others
        (others_fewer _ _ joins.behind.more t.home joins.behind.of_others);
  };
}
