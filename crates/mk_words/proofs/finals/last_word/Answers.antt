use Rattle.std.specs.Mem.Slots.{slots_items}
use Rattle.mk_words.proofs.Closing.{found_at}
use Rattle.mk_words.proofs.finals.last_word.Goals as goal

pub returns : goal.returns
returns c =
    let words = slots_items c.args.closed.now.words in
    cc (found_at words c.index_of.result c.word.result c.word.ensures, c.index_of.ensures)
