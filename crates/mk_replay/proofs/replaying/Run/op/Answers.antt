use Rattle.mk_replay.proofs.Vocabulary.{IsPlayerOf, config_of, rules, served_to}
use Rattle.mk_laws.proofs.Vocabulary.{ap, get_or, length, subst, ◌<◌, ◌∙◌, ◌≡◌}
use Rattle.mk_check.specs.Feeding.{first_op, script_scope}
use Rattle.mk_replay.proofs.replaying.Run.op.Goals as goal

pub returns : goal.returns
returns c = λ program es run exists.
    let k = c.in-Caller.caller in
    let players = c.args.self.now.players.items in
    let player = c.in_ok-get.field-0.now in
    let within : k < length players = search rules in
    let item : get_or players k player ≡ player = search rules in
    let fed = (subst (IsPlayerOf program k (served_to (config_of program 8) es k)) item
    (run.players k player within)).fed in
    rw c.in-Caller.is (c.op.ensures.next program k fed.taken fed.stands
    ∙ ap (λ state. first_op (script_scope program k) state state.left) fed.same)
