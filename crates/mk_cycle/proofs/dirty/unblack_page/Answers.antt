use Rattle.mk_words.proofs.Below.Laws.Vocabulary.{Words, ap, subst, sym, ◌∙◌}
use Rattle.mk_cycle.proofs.dirty.unblack_page.Goals as goal
use Rattle.mk_cycle.proofs.{Clearing.black_clear, StopSteps.on_then}
use Rattle.mk_cycle.specs.Grays.{HasDirtyPart, without_blacks}

pub clear_black-requires-clause-part : goal.clear_black-requires-clause-part
clear_black-requires-clause-part c =
    subst (λ (w : Words). HasDirtyPart w c.args.page) (sym c.look_at.ensures.looks.words) c.requires.part

pub returns-then-look_at-ne0-clause-on : goal.returns-then-look_at-ne0-clause-on
returns-then-look_at-ne0-clause-on c = on_then c.look_at.ensures.looks.on c.clear_black.ensures.on

pub returns-then-look_at-ne0-clause-words : goal.returns-then-look_at-ne0-clause-words
returns-then-look_at-ne0-clause-words c =
    c.clear_black.ensures.words ∙ ap (without_blacks c.args.page) c.look_at.ensures.looks.words

pub returns-else-look_at-ne0-clause-words : goal.returns-else-look_at-ne0-clause-words
returns-else-look_at-ne0-clause-words c =
    c.look_at.ensures.looks.words ∙ black_clear _ _ (sym c.look_at.ensures.found ∙ c.if-look_at-ne0.false)
