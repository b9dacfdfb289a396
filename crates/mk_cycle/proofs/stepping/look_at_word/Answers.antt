use Rattle.mk_words.proofs.Below.Laws.Vocabulary.{arith}
use Rattle.mk_cycle.proofs.StopSteps.{gray_word, looks_word, word_found, word_hand, word_named, word_near}
use Rattle.mk_cycle.proofs.stepping.look_at_word.Goals as goal
use Rattle.mk_cycle.proofs.{CellWords.page_of_word, MaySteps.may_look}

pub overflow_mul-word-2 : goal.overflow_mul-word-2
overflow_mul-word-2 c =
    let near = word_near c.args.stop.now c.args.table.pages (grind arith) c.args.i c.requires.due c.requires.within in
    omega arith

pub look_on_page-requires-clause-enabled : goal.look_on_page-requires-clause-enabled
look_on_page-requires-clause-enabled c =
    may_look c.args.stop.now c.requires.may.wanted _ (word_named c.args.stop.now c.args.table.pages (grind arith)
    c.args.i c.requires.due c.requires.within)

pub look_on_page-requires-clause-page : goal.look_on_page-requires-clause-page
look_on_page-requires-clause-page c = grind (arith, page_of_word)

pub returns-clause-looks : goal.returns-clause-looks
returns-clause-looks c =
    looks_word c.requires.may.wanted c.look_on_page.ensures.acts (gray_word c.args.stop.now c.args.table.pages
    (grind arith) c.args.i c.requires.due c.requires.within)

pub returns-clause-found : goal.returns-clause-found
returns-clause-found c =
    word_found c.args.stop.now c.args.table.pages (grind arith) c.args.i c.requires.due c.requires.within
    c.requires.may.wanted c.look_on_page.ensures.acts c.look_on_page.ensures.finds

pub returns-clause-hand : goal.returns-clause-hand
returns-clause-hand c =
    word_hand c.args.stop.now c.args.table.pages (grind arith) c.args.i c.requires.due c.requires.within
    c.requires.may.wanted c.look_on_page.ensures.acts c.look_on_page.ensures.finds
