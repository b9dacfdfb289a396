use Rattle.mk_alloc.proofs.{Vocabulary.{cases_Bool, inl, inr}, OneCycles.{looks_begins_none, placed_begins_none}}
use Rattle.mk_alloc.proofs.{OneCycles.{looks_close_none, placed_closes_none}, SeekingTurns.{misfits_here, seeks_placed}}
use Rattle.mk_alloc.proofs.rooms.try_place.Goals as goal

pub returns-clause-tried : goal.returns-clause-tried
returns-clause-tried c =
    let room = c.requires in
    let turn = c.place_object.new.turn.in_order in
    record {
      placed = λ placed. seeks_placed room.turn room.unplaced room.quiet (c.place_object.ensures.placed placed)
          turn.history;
      misfits = λ none. misfits_here room (c.place_object.ensures.nowhere none) turn;
    }

pub returns-clause-closes : goal.returns-clause-closes
returns-clause-closes c =
    let history = c.place_object.new.turn.in_order.history in
    elim (cases_Bool c.place_object.result) [
      | inl placed ↦ placed_closes_none c.requires.turn (c.place_object.ensures.placed placed) history
      | inr misfits ↦
          looks_close_none c.requires.turn (c.place_object.ensures.nowhere misfits).looks.does history
    ]

pub returns-clause-begins : goal.returns-clause-begins
returns-clause-begins c =
    let history = c.place_object.new.turn.in_order.history in
    elim (cases_Bool c.place_object.result) [
      | inl placed ↦ placed_begins_none c.requires.turn (c.place_object.ensures.placed placed) history
      | inr misfits ↦
          looks_begins_none c.requires.turn (c.place_object.ensures.nowhere misfits).looks.does history
    ]
