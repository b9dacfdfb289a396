use Rattle.mk_words.proofs.Below.Laws.Vocabulary.{Cell, Words, arith, inl, subst, sym, ◌<◌, ◌^◌, ◌≡◌}
use Rattle.mk_cycle.proofs.MoreMarks.{marked_now, marks_length, more_marked, more_same, turns_gray}
use Rattle.mk_cycle.proofs.values.mark_white.Goals as goal
use Rattle.mk_cycle.proofs.{PointedCells.points_on, StopSteps.{on_then, reached_within}}
use Rattle.mk_cycle.specs.Grays.{IsGray, with_marks}

pub is_marked-requires-clause-page : goal.is_marked-requires-clause-page
is_marked-requires-clause-page c =
    let sized : c.args.table.pages ≡ c.args.stop.now.pass.table.config.pages = grind arith in
    rw sized (reached_within c.requires.reached).0

pub is_marked-requires-clause-index : goal.is_marked-requires-clause-index
is_marked-requires-clause-index c = (reached_within c.requires.reached).1

pub returns-then-is_marked-clause-more : goal.returns-then-is_marked-clause-more
returns-then-is_marked-clause-more c = more_same _ _ c.is_marked.ensures.looks.words

pub mark_cell-requires-clause-reached : goal.mark_cell-requires-clause-reached
mark_cell-requires-clause-reached c = points_on c.is_marked.ensures.looks c.is_marked.ensures.hand c.requires.reached

pub returns-clause-on : goal.returns-clause-on
returns-clause-on c = on_then c.is_marked.ensures.looks.on c.mark_cell.ensures.on

-- the words, by what the look left
marked_from : (w v x : Words) (cell : Cell) → v ≡ w → x ≡ with_marks cell.page (2 ^ cell.index) v
    → x ≡ with_marks cell.page (2 ^ cell.index) w
marked_from w v x cell same is = cc (is, same)

pub returns-clause-more : goal.returns-clause-more
returns-clause-more c =
    more_marked _ _ c.args.cell.page (2 ^ c.args.cell.index)
    (marked_from _ _ _ c.args.cell c.is_marked.ensures.looks.words c.mark_cell.ensures.words)

pub returns-then-is_marked-clause-one : goal.returns-then-is_marked-clause-one
returns-then-is_marked-clause-one c pages one gray =
    inl (subst (λ (y : Words). IsGray pages y one) c.is_marked.ensures.looks.words gray)

pub returns-clause-one : goal.returns-clause-one
returns-clause-one c =
    turns_gray _ _ c.args.cell
    (marked_from _ _ _ c.args.cell c.is_marked.ensures.looks.words c.mark_cell.ensures.words)

pub returns-clause-marked : goal.returns-clause-marked
returns-clause-marked c =
    let within = reached_within c.requires.reached in
    marked_now _ _ c.args.cell (subst (λ n. c.args.cell.page < n) (sym (marks_length c.args.stop.now.pass)) within.0)
    within.1 (marked_from _ _ _ c.args.cell c.is_marked.ensures.looks.words c.mark_cell.ensures.words)
