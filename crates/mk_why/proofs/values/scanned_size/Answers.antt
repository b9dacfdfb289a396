use Rattle.mk_sweep.proofs.Below.Laws.Vocabulary.{arith, lt-ltb, sym, ◌/◌, ◌∙◌}
use Rattle.mk_why.proofs.Pointed.{bare_at, begins_at, scanned_at, whole_at, within_at}
use Rattle.mk_why.proofs.values.scanned_size.Goals as goal

pub look_at-header-requires-clause-word : goal.look_at-header-requires-clause-word
look_at-header-requires-clause-word c =
    let low = begins_at c.args.stop.now c.requires.still c.requires.one_table c.requires.base in
    lt-ltb (c.args.base / 64) c.args.words.now.config.pages (omega arith)

pub returns-then-has_no_pointers-clause-scanned : goal.returns-then-has_no_pointers-clause-scanned
returns-then-has_no_pointers-clause-scanned c i lt = absurd (omega arith)

pub returns-then-has_no_pointers-clause-whole : goal.returns-then-has_no_pointers-clause-whole
returns-then-has_no_pointers-clause-whole c = grind (arith, bare_at)

pub returns-then-has_no_pointers-clause-within : goal.returns-then-has_no_pointers-clause-within
returns-then-has_no_pointers-clause-within c =
    let low = begins_at c.args.stop.now c.requires.still c.requires.one_table c.requires.base in
    omega arith

pub returns-clause-scanned : goal.returns-clause-scanned
returns-clause-scanned c =
    scanned_at c.args.stop.now c.requires.still c.requires.one_table c.requires.base c.look_at-header.ensures.found
    (sym c.has_no_pointers.ensures ∙ c.if-has_no_pointers.false) c.words_under.ensures.exact

pub returns-clause-whole : goal.returns-clause-whole
returns-clause-whole c =
    whole_at c.args.stop.now c.requires.still c.requires.one_table c.requires.base c.look_at-header.ensures.found
    c.words_under.ensures.exact

pub returns-clause-within : goal.returns-clause-within
returns-clause-within c =
    within_at c.args.stop.now c.requires.still c.requires.one_table c.requires.base c.look_at-header.ensures.found
    c.words_under.ensures.exact
