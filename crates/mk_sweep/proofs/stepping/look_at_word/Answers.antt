use Rattle.mk_sweep.proofs.Vocabulary.{IsScannedWord, WordsState, world_of}
use Rattle.mk_cycle.proofs.{Below.Laws.Vocabulary.{Word, refl, subst, sym}, MaySteps.may_look, Stilled.look_finds}
use Rattle.mk_sweep.proofs.SweepSteps.{on_word, word_in_hand, word_named}
use Rattle.mk_sweep.proofs.stepping.look_at_word.Goals as goal

pub look-requires-clause-enabled : goal.look-requires-clause-enabled
look-requires-clause-enabled c =
    let t = c.args.stop.now in
    may_look t c.requires.sweeping.wanted (Word.Heap c.args.word) (word_named t c.args.word (subst
    (λ (k : WordsState). IsScannedWord k.config (world_of t.pass).allocations c.args.word) (sym c.requires.one_table)
    c.requires.scanned))

pub returns-clause-on : goal.returns-clause-on
returns-clause-on c =
    let p = c.args.stop.now.pass in
    on_word c.requires.sweeping c.look.ensures.acts
    (subst (λ (k : WordsState). IsScannedWord k.config (world_of p).allocations c.args.word)
    (sym c.requires.one_table) c.requires.scanned)

pub returns-clause-hand : goal.returns-clause-hand
returns-clause-hand c =
    let t = c.args.stop.now in
    word_in_hand t c.args.word (subst (λ (k : WordsState). IsScannedWord k.config
    (world_of t.pass).allocations c.args.word) (sym c.requires.one_table) c.requires.scanned) c.requires.sweeping
    c.look.ensures.acts c.look.ensures.finds

pub returns-clause-found : goal.returns-clause-found
returns-clause-found c = look_finds c.requires.sweeping.wanted c.look.ensures.acts c.look.ensures.finds refl
