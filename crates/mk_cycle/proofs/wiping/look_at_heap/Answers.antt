use Rattle.mk_words.proofs.Below.Laws.Vocabulary.{Word, lt-ltb, refl, subst, sym, true, ◌*◌, ◌≡◌}
use Rattle.mk_cycle.proofs.{Vocabulary.WordsState, Allowed.look_allowed, GivingSteps.look_frees, MayAct.calm_admitted}
use Rattle.mk_core.specs.Conditions.{is_word}
use Rattle.mk_cycle.proofs.wiping.look_at_heap.Goals as goal

pub look_on_page-requires-clause-enabled : goal.look_on_page-requires-clause-enabled
look_on_page-requires-clause-enabled c =
    look_allowed c.args.turn.now.pass c.args.turn.now.in_order c.requires.turn.is_turn.free (Word.Heap c.args.word)
    (subst (λ (w : WordsState). is_word w.config (Word.Heap c.args.word) ≡ true) (sym c.requires.turn.is_turn.one_table)
    (lt-ltb c.args.word (64 * c.args.words.now.config.pages) c.requires.within)) refl

pub look_on_page-requires-clause-admitted : goal.look_on_page-requires-clause-admitted
look_on_page-requires-clause-admitted c may =
    calm_admitted c.args.turn.now.pass _ c.args.turn.now.in_order.history refl c.requires.turn.is_turn.free.decided

pub returns-clause-frees : goal.returns-clause-frees
returns-clause-frees c = look_frees c.requires.turn.is_turn c.look_on_page.ensures.acts
