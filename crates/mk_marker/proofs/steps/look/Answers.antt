use Rattle.mk_words.proofs.Below.Laws.Vocabulary.{Step}
use Rattle.mk_marker.proofs.Moving.{look_shows, moves}
use Rattle.mk_marker.proofs.steps.look.Goals as goal

pub returns-clause-moves : goal.returns-clause-moves
returns-clause-moves c =
    let f = c.marker_look in
    moves c.args.pass.now (Step.Mlook c.args.x) f.result f.new.self f.ensures

pub returns-clause-shows : goal.returns-clause-shows
returns-clause-shows c =
    let f = c.marker_look in
    look_shows c.args.pass.now c.args.x f.result f.new.self f.ensures.finds
