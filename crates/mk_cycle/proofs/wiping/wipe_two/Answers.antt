use Rattle.mk_cycle.proofs.GivingSteps.{none_then, still_unmapped_word}
use Rattle.mk_cycle.proofs.wiping.wipe_two.Goals as goal

pub wipe_word-requires-clause-unmapped : goal.wipe_word-requires-clause-unmapped
wipe_word-requires-clause-unmapped c = still_unmapped_word c.are_both_zero.ensures.frees.frees c.requires.first

pub wipe_word-requires-2-clause-unmapped : goal.wipe_word-requires-2-clause-unmapped
wipe_word-requires-2-clause-unmapped c =
    still_unmapped_word c.wipe_word.ensures.frees.frees
    (still_unmapped_word c.are_both_zero.ensures.frees.frees c.requires.second)

pub returns-clause-frees : goal.returns-clause-frees
returns-clause-frees c =
    none_then c.are_both_zero.ensures.frees (none_then c.wipe_word.ensures.frees c.wipe_word-2.ensures.frees)

pub returns-clause-first : goal.returns-clause-first
returns-clause-first c =
    c.wipe_word-2.ensures.frees.frees.zeros _ (still_unmapped_word c.wipe_word.ensures.frees.frees
    (still_unmapped_word c.are_both_zero.ensures.frees.frees c.requires.first)).unmapped c.wipe_word.ensures.zero
