use Rattle.mk_words.proofs.Below.Laws.Vocabulary.{sym}
use Rattle.mk_cycle.proofs.BesideSteps.{gates_for_cell, goes_for_cell, may_look_at_headers}
use Rattle.mk_cycle.proofs.values_beside.mark_value.Goals as goal
use Rattle.mk_cycle.proofs.MarksBeside.{gates_on, goes_then}
use Rattle.mk_core.proofs.PointedPages.{pointed_within}
use Rattle.mk_words.specs.States.{now_of}

pub cell_pointed-requires-clause-may : goal.cell_pointed-requires-clause-may
cell_pointed-requires-clause-may c = may_look_at_headers c.args.turn.now.in_order c.requires.beside

pub returns-in_default-clause-on : goal.returns-in_default-clause-on
returns-in_default-clause-on c = goes_for_cell c.cell_pointed.ensures.looks c.requires.beside

pub returns-in_default-clause-gates : goal.returns-in_default-clause-gates
returns-in_default-clause-gates c = gates_for_cell c.cell_pointed.ensures.looks

pub is_marked-requires-clause-beside : goal.is_marked-requires-clause-beside
is_marked-requires-clause-beside c = (goes_for_cell c.cell_pointed.ensures.looks c.requires.beside).beside

pub is_marked-requires-clause-page : goal.is_marked-requires-clause-page
is_marked-requires-clause-page c =
    (pointed_within c.args.words.now.config.pages
    (now_of c.cell_pointed.new.turn.pass).words c.args.value c.in-Some.cell (sym c.in-Some.ensures.points)).0

pub returns-then-is_marked-clause-on : goal.returns-then-is_marked-clause-on
returns-then-is_marked-clause-on c =
    goes_then (goes_for_cell c.cell_pointed.ensures.looks c.requires.beside) c.is_marked.ensures.on

pub returns-then-is_marked-clause-gates : goal.returns-then-is_marked-clause-gates
returns-then-is_marked-clause-gates c =
    gates_on c.is_marked.new.turn (goes_for_cell c.cell_pointed.ensures.looks c.requires.beside)
    (gates_for_cell c.cell_pointed.ensures.looks) c.is_marked.ensures.gates

pub returns-clause-on : goal.returns-clause-on
returns-clause-on c =
    goes_then (goes_then (goes_for_cell c.cell_pointed.ensures.looks c.requires.beside)
    c.is_marked.ensures.on) c.mark_cell.ensures.on

pub returns-clause-gates : goal.returns-clause-gates
returns-clause-gates c =
    gates_on c.mark_cell.new.turn (goes_for_cell c.cell_pointed.ensures.looks c.requires.beside)
    (gates_for_cell c.cell_pointed.ensures.looks)
    (gates_on c.mark_cell.new.turn c.is_marked.ensures.on c.is_marked.ensures.gates c.mark_cell.ensures.gates)
