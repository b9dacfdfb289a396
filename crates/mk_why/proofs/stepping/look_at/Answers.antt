use Rattle.mk_why.proofs.{Vocabulary.{WordsState, is_word}, Looks.{look_admitted, look_enabled, look_on, wanted_now}}
use Rattle.mk_sweep.proofs.{Below.Laws.Vocabulary.{subst, sym, true, ◌≡◌}, Below.Cycles.Stilled.look_finds}
use Rattle.mk_why.proofs.stepping.look_at.Goals as goal

pub look-requires-clause-enabled : goal.look-requires-clause-enabled
look-requires-clause-enabled c =
    look_enabled c.args.stop.now c.requires.still c.args.x
    (subst (λ (t : WordsState). is_word t.config c.args.x ≡ true) (sym c.requires.one_table) c.requires.word)

pub look-requires-clause-admitted : goal.look-requires-clause-admitted
look-requires-clause-admitted c x1 = look_admitted c.args.stop.now c.requires.still c.args.x

pub returns-clause-on : goal.returns-clause-on
returns-clause-on c = look_on c.args.stop.now c.look.new.self c.look.ensures.acts c.requires.still

pub returns-clause-found : goal.returns-clause-found
returns-clause-found c =
    look_finds (wanted_now c.args.stop.now c.requires.still) c.look.ensures.acts c.look.ensures.finds c.requires.name
