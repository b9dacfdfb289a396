-- The host's last cycle, by the events of the whole list: where its turn and its cycle stand, and that no other `close`
-- stands after.
use Rattle.mk_alloc.proofs.Below.Laws.Vocabulary.{AreOfOthers, Caller, Config, Cycle, Event, Host, IsHistory, List}
use Rattle.mk_alloc.proofs.Below.Laws.Vocabulary.{None, Seat, Step, TurnOf, World, ℕ, ap, append-nil, append_assoc}
use Rattle.mk_alloc.proofs.Below.Laws.Vocabulary.{arith, is_begin, is_close, left, refl, subst, sym, [], ◌++◌, ◌<◌, ◌∙◌}
use Rattle.mk_alloc.proofs.{Below.Laws.Vocabulary.{◌∷◌, ◌≡◌}, ListParts.{Lacks, IsAt, lacks_append, lacks_first}}
use Rattle.mk_alloc.proofs.{ListParts.{lacks_second, only_at}, CycleParts.{finish_does, finish_in, BeginIn, FinishIn}}
use Rattle.mk_alloc.proofs.{CycleParts.{begin_does, begin_in, begins_held}, Parts.{has_then, history_before}}
use Rattle.mk_alloc.proofs.{Parts.{in_turn_then, others_lack, seen_behind}, Below.Words.Made.pass_before}
use Rattle.mk_alloc.proofs.{Below.Words.Seats.{others_append, others_none}, OwnGives.{GivesNone, doing_gives}}
use Rattle.mk_alloc.proofs.{OwnGives.{gives_append, others_give}, Below.Words.Doing.does_then}
use Rattle.mk_alloc.specs.Below.Words.States.{Has, HasCallers, PassState, IsTurn, event_of}
use Rattle.mk_alloc.specs.Below.{Words.{TurnSteps.turn_stays, Steps.Does}, Cycles.Stops.IsToldAtClose}
use Rattle.mk_heap.proofs.MovedHosts.{turn_moves, MovesOn, moves_does, moves_more}
use Rattle.mk_heap.proofs.HostTurnParts.{behind_first, closes_no_more, finish_stays, idle_own, idle_turn, stays}
use Rattle.mk_heap.proofs.HostTurnParts.{to_idle, unfinished_unclosed}
use Rattle.mk_heap.specs.Ending.{MakesLastCycle, give_of, MakesCycle}
use Rattle.std.proofs.lemmas.List.{append_cancel_left}
use Rattle.mk_core.specs.History.{is_same_seat}

module _ {p q : PassState} (m : MakesCycle p q) where
  abbrev taken : PassState
  taken = m.idles.taken

  abbrev idle : PassState
  idle = m.idle

  abbrev begun : PassState
  begun = m.begun

  abbrev ended : PassState
  ended = m.ended

  taken_moves : MovesOn p taken
  taken_moves = turn_moves p taken m.idles.takes

  d_idle : Does turn_stays taken idle
  d_idle = to_idle m.idles.takes m.idles.ends

  own_idle : Has idle.seats idle.seat
  own_idle = idle_own m.idles.takes m.idles.ends

  d_begun : Does turn_stays idle begun
  d_begun = finish_stays (begin_does idle begun own_idle m.begins)

  own_begun : Has begun.seats begun.seat
  own_begun = has_then turn_stays idle begun d_begun own_idle

  d_ended : Does turn_stays begun ended
  d_ended = finish_stays (finish_does begun ended own_begun m.finishes)

  own_ended : Has ended.seats ended.seat
  own_ended = has_then turn_stays begun ended d_ended own_begun

  d_turn : Does turn_stays taken ended
  d_turn = does_then turn_stays taken idle ended d_idle (does_then turn_stays idle begun ended d_begun d_ended)

  h_ended : IsHistory ended.table.config ended.seen
  h_ended = (pass_before m.gives).history

  h_begun : IsHistory begun.table.config begun.seen
  h_begun = history_before turn_stays begun ended d_ended h_ended

  pub h_idle : IsHistory idle.table.config idle.seen
  h_idle = history_before turn_stays idle begun d_begun h_begun

  t_idle : IsTurn idle
  t_idle = idle_turn m.idles.takes m.idles.ends h_idle

  t_begun : IsTurn begun
  t_begun = in_turn_then turn_stays idle begun stays t_idle d_begun h_begun

  pub t_ended : IsTurn ended
  t_ended = in_turn_then turn_stays begun ended stays t_begun d_ended h_ended

  pub begins : BeginIn idle begun
  begins = begin_in idle begun own_idle m.begins t_idle h_begun

  pub ends : FinishIn begun ended
  ends = finish_in begun ended own_begun m.finishes t_begun h_ended

  -- the turn's events up to its `give`, and what the cycle's `close` is followed by in them

  abbrev to_end : List Event
  to_end = d_idle.more ++ ((begins.before ++ begins.begin ∷ begins.behind) ++ ends.more)

  abbrev given : List Event
  given = m.gives.others

  abbrev inside : List Event
  inside = to_end ++ given

  abbrev behind_close : List Event
  behind_close =
      ends.ends.to_release ++ ends.ends.release ∷ (ends.ends.to_end ++ ends.ends.end ∷ (ends.ends.behind ++ given))

  ended_is : ended.seen ≡ taken.seen ++ to_end
  ended_is =
      ends.is ∙ ap (λ (l : List Event). l ++ ends.more) begins.is
      ∙ ap (λ (l : List Event). (l ++ (begins.before ++ begins.begin ∷ begins.behind)) ++ ends.more)
      (seen_behind turn_stays taken idle d_idle)
      ∙ append_assoc (taken.seen ++ d_idle.more) (begins.before ++ begins.begin ∷ begins.behind) ends.more
      ∙ append_assoc taken.seen d_idle.more ((begins.before ++ begins.begin ∷ begins.behind) ++ ends.more)

  turn_is : d_turn.more ≡ to_end
  turn_is =
      append_cancel_left taken.seen d_turn.more to_end (sym (seen_behind turn_stays taken ended d_turn) ∙ ended_is)

  -- the turn

  abbrev before_take : List Event
  before_take = m.idles.takes.waited.seen ++ m.idles.takes.takes.makes.others

  abbrev take_event : Event
  take_event = record { seat = p.seat; step = Step.Take None }

  taken_is : taken.seen ≡ before_take ++ take_event ∷ []
  taken_is = cc (m.idles.takes.takes.makes.is, ap (λ (r : PassState). r.seat) m.idles.takes.waits.is)

  goes_on : GivesNone p.seat inside
  goes_on =
      gives_append p.seat to_end given
      (subst (λ (s : Seat). GivesNone s to_end) (ap (λ (r : PassState). r.seat) taken_moves.is)
      (subst (λ (l : List Event). GivesNone taken.seat l) turn_is (doing_gives taken ended d_turn)))
      (subst (λ (s : Seat). GivesNone s given) ended_seat (others_give ended.seat ended.seats given own_ended
      m.gives.of_others))
    where
      ended_seat : ended.seat ≡ p.seat
      ended_seat = ap (λ (r : PassState). r.seat) d_turn.is ∙ ap (λ (r : PassState). r.seat) taken_moves.is

  abbrev the_turn : TurnOf p.table.config p.seat (ended.seen ++ given)
  the_turn = record {
    before = before_take;
    op = None;
    behind = inside;
    is =
        ap (λ (l : List Event). l ++ given) ended_is ∙ ap (λ (l : List Event). (l ++ to_end) ++ given) taken_is
        ∙ append_assoc (before_take ++ take_event ∷ []) to_end given
        ∙ append_assoc before_take (take_event ∷ []) inside;
    took =
        sym (ap (λ (r : PassState). (left r.table.config before_take).now.words.turn) m.idles.takes.waits.is)
        ∙ sym m.idles.takes.takes.finds;
    goes_on = goes_on;
  }

  -- the cycle

  abbrev the_cycle : Cycle inside
  the_cycle = record {
    releasing = record {
      marking = record {
        begin = record {
          before = d_idle.more ++ begins.before;
          event = begins.begin;
          behind = (begins.behind ++ ends.ends.to_close) ++ ends.ends.close ∷ behind_close;
          is =
              ap (λ (l : List Event).
              (d_idle.more ++ ((begins.before ++ begins.begin ∷ begins.behind) ++ l)) ++ given) ends.ends.is
              ∙ simp append_assoc;
          of_kind = begins.begins;
        };
        close = record {
          at = record {
            before = begins.behind ++ ends.ends.to_close;
            event = ends.ends.close;
            behind = behind_close;
            is = refl;
            of_kind = ends.ends.closes;
          };
          none_before =
              lacks_append is_close begins.behind ends.ends.to_close
              (unfinished_unclosed begins.behind begins.finishes_none) ends.ends.none_closed;
        };
      };
      release = record {
        at = record {
          before = ends.ends.to_release;
          event = ends.ends.release;
          behind = ends.ends.to_end ++ ends.ends.end ∷ (ends.ends.behind ++ given);
          is = refl;
          of_kind = ends.ends.releases;
        };
        none_before = ends.ends.none_released;
      };
    };
    end = record {
      at = record {
        before = ends.ends.to_end;
        event = ends.ends.end;
        behind = ends.ends.behind ++ given;
        is = refl;
        of_kind = ends.ends.ends;
      };
      none_before = ends.ends.none_ended;
    };
  }

  -- No cycle is begun in the turn after this one's `close`.

  abbrev finished : List Event
  finished = ends.ends.to_release ++ ends.ends.release ∷ (ends.ends.to_end ++ ends.ends.end ∷ ends.ends.behind)

  finished_begins_none : Lacks is_begin finished
  finished_begins_none =
      behind_first is_begin ends.ends.close finished
      (lacks_second is_begin ends.ends.to_close (ends.ends.close ∷ finished)
      (subst (λ (l : List Event). Lacks is_begin l) ends.ends.is ends.begins_none))

  behind_is : finished ++ given ≡ behind_close
  behind_is = simp append_assoc

  behind_begins_none : Lacks is_begin behind_close
  behind_begins_none = rw behind_is at (lacks_append is_begin finished given finished_begins_none
      (others_lack is_begin ended q Step.Give begins_held t_ended m.gives m.gives.pass.history))

  ended_config : begun.table.config ≡ p.table.config
  ended_config =
      ap (λ (r : PassState). r.table.config) d_begun.is ∙ ap (λ (r : PassState). r.table.config) d_idle.is
      ∙ ap (λ (r : PassState). r.table.config) taken_moves.is

  finished_closes_none : Lacks is_close finished
  finished_closes_none =
      closes_no_more ended.table.config _ ends.ends.close finished (subst (λ (l : List Event). IsHistory
      ended.table.config l) (ends.is ∙ ap (λ (l : List Event). begun.seen ++ l) ends.ends.is ∙ sym (append_assoc
      begun.seen ends.ends.to_close (ends.ends.close ∷ finished))) h_ended) ends.ends.closes finished_begins_none

  -- No caller whose seat is home steps in the turn.

  ended_moves : MovesOn taken q
  ended_moves =
      moves_more taken ended q Step.Give
      (moves_does turn_stays taken taken ended
      (record {
        more = [];
        is = ap (λ (l : List Event). record taken { seen = l }) (sym (append-nil taken.seen));
        leaves = λ s has other. others_none (s ∷ []);
      }) d_turn) m.gives

  q_is : q.seen ≡ (ended.seen ++ given) ++ give_of p.seat ∷ []
  q_is = grind (arith, ended, given, d_turn, taken_moves)

  turn_moves_is : ended_moves.more ≡ inside ++ give_of p.seat ∷ []
  turn_moves_is =
      append_cancel_left taken.seen ended_moves.more (inside ++ give_of p.seat ∷ [])
      (sym (ap (λ (r : PassState). r.seen) ended_moves.is) ∙ q_is
      ∙ ap (λ (l : List Event). (l ++ given) ++ give_of p.seat ∷ []) ended_is ∙ simp append_assoc)

  module _ {tells : Config → World → Type 0} (told : IsToldAtClose tells begun ended) where
    -- The world before the `close` is that of which the engine says.

    told_there : IsAt ends.ends.to_close finished told.before told.behind
    told_there =
        only_at is_close ends.ends.to_close ends.ends.close finished ends.ends.none_closed finished_closes_none
        (record {
          before = told.before;
          event = event_of begun Step.Close;
          behind = told.behind;
          is =
              sym ends.ends.is ∙ append_cancel_left begun.seen ends.more _
              (sym ends.is ∙ told.is ∙ append_assoc begun.seen told.before (event_of begun Step.Close ∷ told.behind));
          of_kind = refl;
        })

    abbrev through_begin : List Event
    through_begin = (d_idle.more ++ begins.before) ++ begins.begin ∷ []

    close_is_there : begun.seen ++ told.before
        ≡ before_take ++ take_event ∷ (through_begin ++ (begins.behind ++ ends.ends.to_close))
    close_is_there =
        grind (arith, begun, told_there, ends, begins, seen_behind, taken, idle, d_idle, taken_is, append_assoc)

    -- So it is in a longer list, in which nobody begins a cycle and no caller steps after the turn.
    module _ (host : p.seat ≡ Host) (home : HasCallers p.table.config p.seats) (tail : List Event)
        (whole : IsHistory p.table.config (q.seen ++ tail)) (begins_no_more : Lacks is_begin tail)
        (still : (k : ℕ) → k < p.table.config.callers → AreOfOthers (Caller k ∷ []) tail) where
      list_is : q.seen ++ tail ≡ (ended.seen ++ given) ++ give_of p.seat ∷ tail
      list_is =
          ap (λ (l : List Event). l ++ tail) q_is ∙ append_assoc (ended.seen ++ given) (give_of p.seat ∷ []) tail

      abbrev behind_all : List Event
      behind_all = behind_close ++ give_of p.seat ∷ tail

      close_is_before : q.seen ++ tail ≡ (begun.seen ++ ends.ends.to_close) ++ ends.ends.close ∷ behind_all
      close_is_before =
          list_is
          ∙ ap (λ (l : List Event). (l ++ given) ++ give_of p.seat ∷ tail)
          (ends.is ∙ ap (λ (l : List Event). begun.seen ++ l) ends.ends.is)
          ∙ simp append_assoc

      closes_no_other : Lacks is_close behind_all
      closes_no_other =
          closes_no_more p.table.config (begun.seen ++ ends.ends.to_close) ends.ends.close behind_all
          (subst (λ (l : List Event). IsHistory p.table.config l) close_is_before whole) ends.ends.closes
          (lacks_append is_begin behind_close (give_of p.seat ∷ tail) behind_begins_none begins_no_more)

      pub last_cycle : MakesLastCycle p.seat tells p.table.config (q.seen ++ tail)
      last_cycle = record {
        before = ended.seen ++ given;
        behind = tail;
        is = list_is;
        turn = the_turn;
        callers = λ k lt. subst (λ (l : List Event). AreOfOthers (Caller k ∷ []) l) (append_assoc inside _ tail)
            (others_append (Caller k ∷ []) (inside ++ give_of p.seat ∷ []) tail
            (rw turn_moves_is at (ended_moves.leaves (Caller k) (subst (λ (r : PassState). Has r.seats (Caller k))
            (sym taken_moves.is) (home k lt)) (ap (λ (s : Seat). is_same_seat (Caller k) s)
            (ap (λ (r : PassState). r.seat) taken_moves.is ∙ host)))) (still k lt));
        cycle = the_cycle;
        last =
            lacks_append is_close behind_close tail
            (lacks_first is_close behind_close (give_of p.seat ∷ tail) closes_no_other)
            (lacks_second is_close behind_close (give_of p.seat ∷ tail) closes_no_other);
        told = subst (λ (l : List Event). tells p.table.config (left p.table.config l)) close_is_there
            (subst (λ (c : Config). tells c (left c (begun.seen ++ told.before))) ended_config told.told);
      }
