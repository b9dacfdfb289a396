use Rattle.mk_heap.proofs.Below.Laws.Vocabulary.{◌∙◌}
use Rattle.mk_clients.proofs.moves.first_register_is_null.Goals as goal
use Rattle.mk_clients.proofs.{Beginnings.{admits, given, idle, tells_null}, Sameness.told}

pub new-caller-requires-clause-idle : goal.new-caller-requires-clause-idle
new-caller-requires-clause-idle c =
    let w = c.args.words.now in
    idle c.split-pass.result w (given c.args.host.now c.split-pass.result w c.requires.one_table c.requires.first
    c.split-pass.ensures.made)

pub is_null-null-requires-clause-admitted : goal.is_null-null-requires-clause-admitted
is_null-null-requires-clause-admitted c =
    let w = c.args.words.now in
    let is = given c.args.host.now c.split-pass.result w c.requires.one_table c.requires.first
    c.split-pass.ensures.made in
    admits c.new-caller.result.pass w (c.new-caller.ensures.pass ∙ is)
    c.is_within_limits.ensures.callers.0

pub returns : goal.returns
returns c =
    let w = c.args.words.now in
    let is = given c.args.host.now c.split-pass.result w c.requires.one_table c.requires.first
    c.split-pass.ensures.made in
    told c.is_null-null.result _ c.is_null-null.ensures.tells (tells_null c.new-caller.result.pass w
    (c.new-caller.ensures.pass ∙ is))
