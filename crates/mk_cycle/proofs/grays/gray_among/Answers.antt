use Rattle.mk_words.proofs.Below.Laws.Vocabulary.{ap, header_of, ◌∙◌}
use Rattle.mk_cycle.proofs.grays.gray_among.Goals as goal
use Rattle.mk_cycle.proofs.FirstBits.{gray_there, no_gray_under}
use Rattle.mk_cycle.specs.Stops.{still_words}
use Rattle.mk_core.specs.Cells.{words_scanned}

pub returns-in_default-clause-none : goal.returns-in_default-clause-none
returns-in_default-clause-none c =
    no_gray_under (still_words c.args.stop.now.pass) c.args.page c.look_at-header.result c.args.grays
    c.look_at-header.ensures.found c.requires.grays c.in_default.ensures.none

pub returns-clause-gray : goal.returns-clause-gray
returns-clause-gray c =
    record {
      gray = gray_there c.args.table.pages (still_words c.args.stop.now.pass) c.args.page c.in-Some.index
          c.look_at-header.result c.args.grays c.requires.page c.look_at-header.ensures.found c.requires.grays
          c.in-Some.ensures.known c.in-Some.ensures.one;
      words = c.words_scanned.ensures.exact ∙ ap (λ n. words_scanned (header_of n)) c.look_at-header.ensures.found;
    }
