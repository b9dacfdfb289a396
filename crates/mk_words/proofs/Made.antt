-- What is known of a step that was made, of whatever kind.
use Rattle.mk_laws.proofs.Vocabulary.{AreOfOthers, Config, Event, IsHistory, IsLeft, List, MeetsAll, Protocol, Step, ap}
use Rattle.mk_laws.proofs.Vocabulary.{arith, earlier_part_is_history, enabled_meets, first_world, left, left_more}
use Rattle.mk_laws.proofs.Vocabulary.{subst, word_accessed, world_behind, [], ◌++◌, ◌∙◌, ◌∷◌, ◌≡◌}
use Rattle.mk_core.{proofs.Histories.last_enabled, specs.Layout.IsOfTable}
use Rattle.mk_laws.proofs.{Known.{Known, known_left}, ProtocolFrames.others_leave, Protocols.protocol_of}
use Rattle.mk_laws.proofs.{Reaching.events_reach_the_table, SeatFrames.admitted_others_leave}
use Rattle.mk_words.{proofs.Seats.others_own, specs.{Laws.StepsStandBehindOthers, States.{Has, IsPass}}}
use Rattle.mk_words.specs.{States.{PassState, event_of, world_of}, Steps.Makes}

-- The events of others leave the seat its own; the event met its conditions after them, and the new list leaves what
-- it leaves there.
pub record Made (p : PassState) (s : Step) (q : PassState) (m : Makes p s q) : Type 0 where
  pub others : AreOfOthers (p.seat ∷ []) m.others
  pub history : IsHistory p.table.config (p.seen ++ m.others)
  pub whole : IsHistory p.table.config (p.seen ++ m.others ++ event_of p s ∷ [])
  pub frame : IsLeft p.table.config p.seat p.seen (p.seen ++ m.others)
  pub known : Known p.table.config (left p.table.config (p.seen ++ m.others)).now
  pub protocol : Protocol p.table.config (left p.table.config (p.seen ++ m.others)).now
  pub meets : MeetsAll p.table.config (left p.table.config (p.seen ++ m.others)).now (event_of p s)
  pub of_table : IsOfTable p.table.config.pages
      (word_accessed p.table.config (left p.table.config (p.seen ++ m.others)).now (event_of p s))
  pub world : world_of q ≡ world_behind p.table.config (left p.table.config (p.seen ++ m.others)) (event_of p s)
  pub seat : q.seat ≡ p.seat

-- The pass's seat was one of its seats before the step too.
pub own_before : {p : PassState} {s : Step} {q : PassState} → Makes p s q → Has p.seats p.seat
own_before m = subst (λ (r : PassState). Has r.seats r.seat) m.is m.pass.own

pub made : (p : PassState) (s : Step) (q : PassState) (m : Makes p s q) → Made p s q m
made p s q m =
    let c : Config = p.table.config in
    let es : List Event = p.seen ++ m.others in
    let e : Event = event_of p s in
    let whole : IsHistory c (es ++ e ∷ []) = subst (λ (r : PassState). IsHistory r.table.config r.seen) m.is
    m.pass.history in
    let before : IsHistory c es = earlier_part_is_history c es (e ∷ []) whole in
    let others = others_own p.seats p.seat m.others (own_before m) m.of_others in
    let known = known_left c es before.within_limits before.enabled in
    let on = last_enabled c (first_world c) es e whole.enabled in
    record {
      others = others;
      history = before;
      whole = whole;
      frame = others_leave c p.seen m.others p.seat before.within_limits before.enabled others;
      known = known;
      protocol = protocol_of c (left c es).now known;
      meets = enabled_meets c (left c es).now e on;
      of_table = events_reach_the_table c es e before.within_limits before.enabled on;
      world = ap (λ (r : PassState). world_of r) m.is ∙ left_more c (first_world c) es e;
      seat = ap (λ (r : PassState). r.seat) m.is;
    }

-- What the pass had seen before the step was a history.
pub pass_before : {p : PassState} {s : Step} {q : PassState} → Makes p s q → IsPass p
pass_before m = grind (arith, own_before, earlier_part_is_history, made)

pub stands_behind_others : StepsStandBehindOthers
stands_behind_others p q s m =
    let d = made p s q m in
    record {
      others = d.others;
      history = d.history;
      left = d.frame;
      admitted = admitted_others_leave p.table.config p.seen m.others p.seat d.history d.others;
      meets = d.meets;
      world = d.world;
    }
