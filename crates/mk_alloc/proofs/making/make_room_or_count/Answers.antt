use Rattle.mk_alloc.proofs.{UnsweptTurns.{part_then, unbegun_keeps}, OneCycles.one_then_none, SeekingTurns.seeks_then}
use Rattle.mk_alloc.proofs.making.make_room_or_count.Goals as goal

-- The object is placed, or it isn't.
pub returns-clause-seeks : goal.returns-clause-seeks
returns-clause-seeks g c =
    seeks_then (c.make_room-turn.ensures.tried.misfits c.if-placed.false).seeks
    c.answer_full.ensures.full.seeks

pub returns-clause-one : goal.returns-clause-one
returns-clause-one g c = one_then_none c.make_room-turn.ensures.one c.answer_full.ensures.begins

pub returns-clause-keeps : goal.returns-clause-keeps
returns-clause-keeps g c =
    let tried = c.make_room-turn.ensures in
    part_then (tried.tried.misfits c.if-placed.false).seeks.on.does tried.keeps
    (unbegun_keeps c.answer_full.ensures.begins c.answer_full.ensures.closes c.answer_full.ensures.reached)
