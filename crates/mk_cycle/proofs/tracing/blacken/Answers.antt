use Rattle.mk_words.proofs.Below.Laws.Vocabulary.{arith, histories_keep_lengths, sym, ◌∙◌, ◌≡◌}
use Rattle.mk_cycle.proofs.tracing.blacken.Goals as goal
use Rattle.mk_cycle.proofs.{Blackened.{black_now, blackens_one, cells_few}, Notes.blackened_left_out, StopSteps.on_then}
use Rattle.mk_cycle.specs.Stops.{still_words}

pub blacken_cell-requires-clause-index : goal.blacken_cell-requires-clause-index
blacken_cell-requires-clause-index c = grind (arith, cells_few)

pub returns-clause-on : goal.returns-clause-on
returns-clause-on c = on_then c.scan_if_due-last.ensures.marks.on c.blacken_cell.ensures.on

pub returns-clause-one : goal.returns-clause-one
returns-clause-one c = grind (arith, blackens_one)

pub returns-clause-noted : goal.returns-clause-noted
returns-clause-noted c noted =
    let p = c.scan_if_due-last.new.stop.pass in
    let sized : c.args.table.pages ≡ p.table.config.pages = grind arith in
    let black = black_now (still_words p) c.args.gray.cell c.requires.gray.gray
    (sized ∙ sym (histories_keep_lengths p.table.config p.seen).blacks) c.blacken_cell.ensures.words in
    blackened_left_out c.args.work.now c.args.gray c.blacken_cell.ensures.words black c.scan_if_due-last.ensures.marks
    noted
