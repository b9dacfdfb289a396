use Rattle.mk_alloc.proofs.{SeekingTurns.{still_needs, tried_then}, OneCycles.{none_runs_one, none_then_one}}
use Rattle.mk_alloc.proofs.UnsweptTurns.{part_then}
use Rattle.mk_alloc.proofs.rooms.make_room.Goals as goal

pub returns-then-placed-clause-one : goal.returns-then-placed-clause-one
returns-then-placed-clause-one g c = none_runs_one c.place_behind_older-turn.ensures.begins

pub place_behind_cycle-requires-clause-needs : goal.place_behind_cycle-requires-clause-needs
place_behind_cycle-requires-clause-needs g c κs within =
    still_needs c.requires.needs c.place_behind_older-turn.ensures.made_for
    (c.place_behind_older-turn.ensures.tried.misfits c.if-placed.false)

pub returns-clause-tried : goal.returns-clause-tried
returns-clause-tried g c =
    tried_then (c.place_behind_older-turn.ensures.tried.misfits c.if-placed.false).seeks
    c.place_behind_cycle.ensures.tried

pub returns-clause-one : goal.returns-clause-one
returns-clause-one g c = none_then_one c.place_behind_older-turn.ensures.begins c.place_behind_cycle.ensures.one

pub returns-clause-keeps : goal.returns-clause-keeps
returns-clause-keeps g c =
    let older = c.place_behind_older-turn.ensures in
    part_then (older.tried.misfits c.if-placed.false).seeks.on.does older.keeps
    c.place_behind_cycle.ensures.keeps
