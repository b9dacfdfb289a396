use Rattle.mk_words.proofs.Below.Laws.Vocabulary.{ap, points_well, ◌∙◌}
use Rattle.mk_cycle.proofs.roots_beside.mark_root.Goals as goal
use Rattle.mk_cycle.proofs.MarksBeside.{root_looked, root_then}
use Rattle.mk_words.specs.States.{WordsState, now_of}

pub returns-clause-on : goal.returns-clause-on
returns-clause-on c =
    let value = c.look_at_root-value.result in
    root_then c.look_at_root-value.ensures.finds c.mark_value.ensures.on (ap (λ (w : WordsState). points_well
    w.config.pages (now_of c.mark_value.new.turn.pass).words value) c.requires.one_table ∙ c.mark_value.ensures.well)

pub returns-clause-looked : goal.returns-clause-looked
returns-clause-looked c = root_looked c.look_at_root-value.ensures.finds c.mark_value.ensures.on c.requires.root
