use Rattle.mk_words.proofs.Below.Laws.Vocabulary.{head_page, refl, subst, sym, ◌<◌, ◌∙◌}
use Rattle.mk_cycle.proofs.{Vocabulary.{HoldsGates, WordsState, now_of}, ClosedBy.{promised_later, promised_when_held}}
use Rattle.mk_cycle.proofs.GivingAll.{all_held, all_told, gives_all_back}
use Rattle.mk_cycle.proofs.{SettledPages.{free_cells_stay, same_occupied}, FreeingSteps.frees_then}
use Rattle.mk_cycle.proofs.TracedMarks.{ready_of}
use Rattle.mk_cycle.proofs.giving.give_all_back.Goals.{After-settle_pages-settled}
use Rattle.mk_words.specs.States.{TurnState}
use Rattle.mk_cycle.proofs.giving.give_all_back.Goals as goal

pub settle_pages-settled-requires-clause-cells : goal.settle_pages-settled-requires-clause-cells
settle_pages-settled-requires-clause-cells g c page lt =
    let opens = c.open_gates-turn.ensures.frees in
    free_cells_stay page opens.frees (opens.same page) (c.release_unmarked.ensures.cells page)

pub settle_pages-settled-requires-clause-occupied : goal.settle_pages-settled-requires-clause-occupied
settle_pages-settled-requires-clause-occupied g c page =
    let opens = c.open_gates-turn.ensures.frees in
    same_occupied c.release_unmarked.new.stop.pass c.open_gates-turn.result.pass page (opens.same page) (opens.same
    (head_page (now_of c.release_unmarked.new.stop.pass).words page)) ∙ c.release_unmarked.ensures.occupied page

-- the gates that are held for the stop
holds_gates_at : (g : _) (c : After-settle_pages-settled g) → HoldsGates c.args.turn.pass c.stopped-stop.result.pass
holds_gates_at g c =
    subst (λ (t : TurnState). HoldsGates c.args.turn.pass t.pass) (sym c.stopped-stop.ensures)
    c.hold_gates.ensures.holds

pub returns-clause-gives : goal.returns-clause-gives
returns-clause-gives g c =
    let holds = holds_gates_at g (goal.at.returns-clause-gives g c).After-settle_pages-settled in
    gives_all_back
    holds c.release_unmarked.ensures.releases c.open_gates-turn.ensures.opens c.open_gates-turn.ensures.frees
    c.settle_pages-settled.ensures.frees c.open_gates-turn.ensures.gates
    (λ page lt. c.settle_pages-settled.ensures.settled page
    (subst (λ (w : WordsState). page < w.config.pages) c.requires.one_table lt))

pub returns-clause-told : goal.returns-clause-told
returns-clause-told g c =
    let holds = holds_gates_at g (goal.at.returns-clause-told g c).After-settle_pages-settled in
    all_told _ _ holds c.open_gates-turn.ensures.frees c.settle_pages-settled.ensures.frees
    c.release_unmarked.ensures.told c.settle_pages-settled.ensures.released

pub returns-clause-held : goal.returns-clause-held
returns-clause-held g c =
    let holds = holds_gates_at g (goal.at.returns-clause-held g c).After-settle_pages-settled in
    all_held _ _ holds c.open_gates-turn.ensures.frees c.settle_pages-settled.ensures.frees
    c.release_unmarked.ensures.held c.settle_pages-settled.ensures.held

pub returns-clause-promised : goal.returns-clause-promised
returns-clause-promised g c =
    let x = (goal.at.returns-clause-promised g c).After-settle_pages-settled in
    promised_when_held (holds_gates_at g x) (promised_later (λ page v. refl)
    c.release_unmarked.ensures.releases.call.pass
    (frees_then x.open_gates-turn.ensures.frees.frees x.settle_pages-settled.ensures.frees).does
    c.release_unmarked.ensures.promised)

pub hold_gates-requires-clause-ready : goal.hold_gates-requires-clause-ready
hold_gates-requires-clause-ready g c = ready_of c.args.turn.in_order c.requires.free
