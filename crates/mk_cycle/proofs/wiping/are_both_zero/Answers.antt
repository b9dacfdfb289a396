use Rattle.mk_words.proofs.Below.Laws.Vocabulary.{sym, ◌∙◌}
use Rattle.mk_cycle.proofs.GivingSteps.{none_then, still_unmapped_word}
use Rattle.mk_cycle.proofs.wiping.are_both_zero.Goals as goal

pub returns-clause-frees : goal.returns-clause-frees
returns-clause-frees c = none_then c.look_at_heap-first.ensures.frees c.look_at_heap-second.ensures.frees

pub returns-clause-first : goal.returns-clause-first
returns-clause-first c zero =
    c.look_at_heap-second.ensures.frees.frees.zeros _
    (still_unmapped_word c.look_at_heap-first.ensures.frees.frees c.requires.first).unmapped
    (sym c.look_at_heap-first.ensures.reads ∙ c.are_zero.ensures.first zero)

pub returns-clause-second : goal.returns-clause-second
returns-clause-second c zero = sym c.look_at_heap-second.ensures.reads ∙ c.are_zero.ensures.second zero
