use Rattle.mk_sweep.proofs.Vocabulary.{SweepsOn, Words, WordsState, now_of, pointed_cell, still_words}
use Rattle.mk_cycle.proofs.{Below.Laws.Vocabulary.{Some, ap, sym, [], ◌∙◌, ◌≡◌}, MoreMarks.{marks_length, more_same}}
use Rattle.mk_cycle.proofs.MoreMarks.{then_more, then_well}
use Rattle.mk_core.proofs.PointedPages.{pointed_within}
use Rattle.mk_sweep.proofs.SweepSteps.{hand_kept, may_look_at_headers, quiet_then, sweeps_for_cell, words_for_cell}
use Rattle.mk_sweep.proofs.values.mark_value.Goals.{After-cell_pointed, After-is_marked}
use Rattle.mk_sweep.proofs.values.mark_value.Goals as goal

pub cell_pointed-requires-clause-may : goal.cell_pointed-requires-clause-may
cell_pointed-requires-clause-may c = may_look_at_headers c.args.stop.now c.requires.sweeping

-- what looking for the cell leaves

looks : (c : After-cell_pointed) → SweepsOn c.args.stop.now c.cell_pointed.new.turn []
looks c = sweeps_for_cell c.cell_pointed.ensures.looks c.requires.sweeping

same : (c : After-cell_pointed) → still_words c.cell_pointed.new.turn.pass ≡ still_words c.args.stop.now.pass
same c = words_for_cell c.cell_pointed.ensures.looks c.requires.sweeping

pub returns-in_default-clause-on : goal.returns-in_default-clause-on
returns-in_default-clause-on c = looks (goal.at.returns-in_default-clause-on c).After-cell_pointed

pub returns-in_default-clause-more : goal.returns-in_default-clause-more
returns-in_default-clause-more c = more_same _ _ (same (goal.at.returns-in_default-clause-more c).After-cell_pointed)

pub is_marked-requires-clause-sweeping : goal.is_marked-requires-clause-sweeping
is_marked-requires-clause-sweeping c =
    (looks (goal.at.is_marked-requires-clause-sweeping c).After-cell_pointed).sweeping

pub is_marked-requires-clause-page : goal.is_marked-requires-clause-page
is_marked-requires-clause-page c =
    (pointed_within c.args.words.now.config.pages (now_of c.cell_pointed.new.turn.pass).words c.args.value
    c.in-Some.cell (sym c.in-Some.ensures.points)).0

-- what it leaves with the look at the marks, and the cell by the words as they were

seen : (c : After-is_marked) → SweepsOn c.args.stop.now c.is_marked.new.stop []
seen c =
    quiet_then (sweeps_for_cell c.cell_pointed.ensures.looks c.requires.sweeping) c.is_marked.ensures.on

unchanged : (c : After-is_marked) → still_words c.is_marked.new.stop.pass ≡ still_words c.args.stop.now.pass
unchanged c =
    c.is_marked.ensures.words ∙ words_for_cell c.cell_pointed.ensures.looks c.requires.sweeping

points : (c : After-is_marked) → pointed_cell c.args.words.now.config.pages
    (still_words c.args.stop.now.pass).pages c.args.value ≡ Some c.in-Some.cell
points c =
    ap (λ (w : Words). pointed_cell c.args.words.now.config.pages w.pages c.args.value)
    (sym (words_for_cell c.cell_pointed.ensures.looks c.requires.sweeping)) ∙ sym c.in-Some.ensures.points

pub returns-then-is_marked-clause-on : goal.returns-then-is_marked-clause-on
returns-then-is_marked-clause-on c = seen (goal.at.returns-then-is_marked-clause-on c).After-is_marked

pub returns-then-is_marked-clause-more : goal.returns-then-is_marked-clause-more
returns-then-is_marked-clause-more c =
    more_same _ _ (unchanged (goal.at.returns-then-is_marked-clause-more c).After-is_marked)

pub mark_cell-requires-clause-reached : goal.mark_cell-requires-clause-reached
mark_cell-requires-clause-reached c =
    let x = (goal.at.mark_cell-requires-clause-reached c).After-is_marked in
    record {
      value = c.args.value;
      in_hand = hand_kept (seen x) (c.is_marked.ensures.hand ∙ c.cell_pointed.ensures.hand) c.requires.hand;
      points = cc ((seen x).table, c.requires.one_table, unchanged x, points x);
    }

pub returns-clause-on : goal.returns-clause-on
returns-clause-on c = quiet_then (seen (goal.at.returns-clause-on c).After-is_marked) c.mark_cell.ensures.on

pub returns-clause-more : goal.returns-clause-more
returns-clause-more c =
    let x = (goal.at.returns-clause-more c).After-is_marked in
    let p = c.args.stop.now.pass in
    then_more c.args.words.now.config.pages c.args.value c.in-Some.cell (still_words p)
    (still_words c.is_marked.new.stop.pass) (still_words c.mark_cell.new.stop.pass) (unchanged x) (points x)
    (sym (marks_length p ∙ ap (λ (t : WordsState). t.config.pages) c.requires.one_table)) c.mark_cell.ensures.words

pub returns-clause-well : goal.returns-clause-well
returns-clause-well c =
    let x = (goal.at.returns-clause-well c).After-is_marked in
    let p = c.args.stop.now.pass in
    then_well c.args.words.now.config.pages c.args.value c.in-Some.cell (still_words p)
    (still_words c.is_marked.new.stop.pass) (still_words c.mark_cell.new.stop.pass) (unchanged x) (points x)
    (sym (marks_length p ∙ ap (λ (t : WordsState). t.config.pages) c.requires.one_table)) c.mark_cell.ensures.words
