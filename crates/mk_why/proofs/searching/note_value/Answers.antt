use Rattle.mk_why.proofs.{Vocabulary.view_by, Explored.{found_by, noted_by}, Pointed.begins_at}
use Rattle.mk_why.proofs.{Searches.{Notes, grows_nothing, notes}, searching.note_value.Goals.After-note}
use Rattle.mk_sweep.proofs.Below.Laws.Vocabulary.{arith}
use Rattle.mk_why.proofs.searching.note_value.Goals as goal

pub returns-in_default-clause-noted : goal.returns-in_default-clause-noted
returns-in_default-clause-noted c b points = absurd (c.in_default.ensures.points b points)

pub returns-in_default-clause-on : goal.returns-in_default-clause-on
returns-in_default-clause-on c = grind (arith, grows_nothing)

pub note-requires : goal.note-requires
note-requires c =
    let x = c.in-Some.ensures.points in
    let low = begins_at c.args.stop.now c.requires.still c.requires.one_table
    (record { number = x.number; unreleased = x.points.0; is = x.is }) in
    let size = c.requires.search.size in
    omega arith

-- what the note leaves
noted : (c : After-note) → Notes c.args.words.now.config
    (view_by c.args.stop.now.pass) c.args.tables.now c.note.new.self c.in-Some.base c.args.found.links
noted c =
    let x = c.in-Some.ensures.points in
    let low = begins_at c.args.stop.now c.requires.still c.requires.one_table
    (record { number = x.number; unreleased = x.points.0; is = x.is }) in
    let size = c.requires.search.size in
    notes c.note.new.self c.requires.search (omega arith)
    c.note.ensures.known c.note.ensures.noted c.note.ensures.last c.note.ensures.more c.note.ensures.room
    c.requires.shallow (found_by c.args.tables.now.found.items c.args.found x c.requires.way)

pub returns-clause-on : goal.returns-clause-on
returns-clause-on c =
    let n = noted (goal.at.returns-clause-on c).After-note in
    record { on = c.base_pointed.ensures.on; search = n.search; grows = n.grows }

pub returns-clause-noted : goal.returns-clause-noted
returns-clause-noted c = noted_by c.in-Some.ensures.points (noted (goal.at.returns-clause-noted c).After-note).within
