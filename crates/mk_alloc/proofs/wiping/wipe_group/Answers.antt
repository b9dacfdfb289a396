use Rattle.mk_caller.proofs.Below.Laws.Vocabulary.{arith}
use Rattle.mk_alloc.proofs.wiping.wipe_group.Goals as goal
use Rattle.mk_alloc.proofs.WipedRuns.{wipes_from, wipes_then}

pub returns-then-are_zero : goal.returns-then-are_zero
returns-then-are_zero c = c.are_zero.ensures.zero c.if-are_zero.true

pub wipe_words-requires : goal.wipe_words-requires
wipe_words-requires c =
    let from = wipes_from c.are_zero.ensures.still c.requires.from in
    grind arith

pub returns : goal.returns
returns c = wipes_then c.are_zero.ensures.still c.wipe_words.ensures
