use Rattle.std.proofs.lemmas.Grind.{div_ceil_times}
use Rattle.mk_books.proofs.{Vocabulary.arith, MovedPages.{all_moved, none_moved, one_more_moved}}
use Rattle.mk_books.proofs.runs.move_words.Goals as goal

pub loop-word-init : goal.loop-word-init
loop-word-init c = record { moves = none_moved c.args.sets.now c.args.from c.args.end c.args.free c.requires.sets }

pub loop-word-preserved : goal.loop-word-preserved
loop-word-preserved c = record {
  moves = one_more_moved c.args.from c.args.end c.loop-word.word c.loop-word.invariant.moves c.move_word.ensures
      c.bits_between-bits.ensures;
}

pub returns : goal.returns
returns c = all_moved c.args.from c.args.end c.loop-word.word (omega (
  arith,
  c.div_ceil-word-end.ensures,
  div_ceil_times c.args.end 64 (omega arith),
)) c.loop-word.invariant.moves
