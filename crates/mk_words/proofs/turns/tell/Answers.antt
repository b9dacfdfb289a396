use Rattle.mk_laws.proofs.Vocabulary.{Step, refl}
use Rattle.mk_words.proofs.MapSteps.{follows_told, follows_untold, freed_so}
use Rattle.mk_words.proofs.turns.tell.Goals as goal

pub returns-in-Head : goal.returns-in-Head
returns-in-Head c =
    let told = c.header_stored.ensures in
    follows_told c.args.step (Step.Head c.in-Head.page c.in-Head.value) c.in-Head.is refl c.requires
    (record { shows = told.shows; this = told.this; others = told.others })

pub returns-in-Used : goal.returns-in-Used
returns-in-Used c =
    let told = c.used_stored.ensures in
    follows_told c.args.step (Step.Used c.in-Used.page c.in-Used.value) c.in-Used.is refl c.requires
    (record { shows = told.shows; uncleaned = told.uncleaned })

pub returns-in-Quar : goal.returns-in-Quar
returns-in-Quar c =
    let told = c.quarantine_stored.ensures in
    follows_told c.args.step (Step.Quar c.in-Quar.page c.in-Quar.value) c.in-Quar.is refl c.requires
    (record { shows = freed_so c.of.ensures.freed told.shows; uncleaned = told.uncleaned })

pub returns-in-Mark : goal.returns-in-Mark
returns-in-Mark c =
    let told = c.marked.ensures in
    follows_told c.args.step _ c.in-Mark.is refl c.requires
    (record { shows = told.shows; this = told.this; others = told.others })

pub returns-in_default : goal.returns-in_default
returns-in_default c =
    let n = c.in_default in
    follows_untold c.args.step c.args.map.now n.not-Head n.not-Used n.not-Quar n.not-Mark
