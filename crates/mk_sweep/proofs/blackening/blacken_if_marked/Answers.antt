use Rattle.mk_sweep.proofs.{Vocabulary.{WordsState, still_words}, Blacks.{black_now, blacks_added, blacks_length}}
use Rattle.mk_sweep.proofs.{Blacks.blacks_same, SweepSteps.{on_black, sweeps_from}}
use Rattle.mk_sweep.proofs.blackening.blacken_if_marked.Goals.{After-black}
use Rattle.mk_cycle.proofs.{Below.Laws.Vocabulary.{arith, subst, sym, ◌<◌, ◌^◌, ◌≡◌}, MaySteps.may_black_cell}
use Rattle.mk_cycle.{proofs.Stilled.{black_words}, specs.Grays.{with_blacks}}
use Rattle.mk_sweep.proofs.blackening.blacken_if_marked.Goals as goal

pub returns-then-not-marked-clause-on : goal.returns-then-not-marked-clause-on
returns-then-not-marked-clause-on c = sweeps_from c.args.stop.now c.requires.sweeping

pub returns-then-not-marked-clause-more : goal.returns-then-not-marked-clause-more
returns-then-not-marked-clause-more c = grind (arith, blacks_same)

pub black-requires-clause-enabled : goal.black-requires-clause-enabled
black-requires-clause-enabled c = grind (arith, may_black_cell)

pub returns-clause-on : goal.returns-clause-on
returns-clause-on c = on_black c.requires.sweeping c.black.ensures

blackened : (c : After-black) → still_words c.black.new.self.pass
    ≡ with_blacks c.args.cell.page (2 ^ c.args.cell.index) (still_words c.args.stop.now.pass)
blackened c = grind (arith, black_words)

pub returns-clause-more : goal.returns-clause-more
returns-clause-more c = blacks_added _ _ _ _ (blackened (goal.at.returns-clause-more c).After-black)

pub returns-clause-black : goal.returns-clause-black
returns-clause-black c marked =
    let x = goal.at.returns-clause-black c in
    let p = c.args.stop.now.pass in
    black_now (still_words p) (still_words c.black.new.self.pass) c.args.cell
    (subst (λ n. c.args.cell.page < n) (sym (blacks_length p)) (subst
    (λ (t : WordsState). c.args.cell.page < t.config.pages) (sym c.requires.one_table) c.requires.page))
    (let small = c.requires.index in omega arith) (blackened x.After-black)
