use Rattle.mk_heap.proofs.Below.Laws.Vocabulary.{ℕ, refl, subst, sym, ◌<◌}
use Rattle.mk_heap.specs.Below.Words.States.{PassState, WordsState}
use Rattle.mk_clients.proofs.TurnFacts.{given_back, hold_leaves, hold_may, look_leaves, miss_leaves, none_held_is}
use Rattle.mk_clients.proofs.turns.hold_once.Goals as goal
use Rattle.mk_clients.proofs.TurnFacts.{open_leaves, settled, settled_kept, tidy_kept}

pub try_hold-requires-clause-enabled : goal.try_hold-requires-clause-enabled
try_hold-requires-clause-enabled c =
    let p : PassState = c.args.turn.now.pass in
    let free = c.requires.free in
    hold_may p c.args.caller free.settled.seat c.args.turn.now.in_order.holds
    (subst (λ (t : WordsState). c.args.caller < t.config.callers) (sym c.requires.one_table) c.requires.caller)
    (none_held_is p free.gates)

pub returns-in-Ok-clause-free : goal.returns-in-Ok-clause-free
returns-in-Ok-clause-free c =
    let p : PassState = c.args.turn.now.pass in
    let j : ℕ = c.args.caller in
    let free = c.requires.free in
    let held = c.try_hold.ensures.acts in
    let looked = c.look.ensures.acts in
    let opened = c.open_gate.ensures in
    let only = look_leaves j looked (hold_leaves held (none_held_is p free.gates)) in
    given_back (settled_kept opened refl (settled_kept looked refl
    (settled_kept held refl (settled free)))) (open_leaves opened only)

pub returns-in-Ok-clause-tidy : goal.returns-in-Ok-clause-tidy
returns-in-Ok-clause-tidy c = λ tidy.
    let there = settled c.requires.free in
    let held = c.try_hold.ensures.acts in
    let looked = c.look.ensures.acts in
    let at_q = settled_kept held refl there in
    let at_r = settled_kept looked refl at_q in
    tidy_kept c.open_gate.ensures at_r.seat refl (tidy_kept looked at_q.seat refl (tidy_kept held there.seat refl tidy))

pub returns-in-Err-clause-free : goal.returns-in-Err-clause-free
returns-in-Err-clause-free c =
    let p : PassState = c.args.turn.now.pass in
    let j : ℕ = c.args.caller in
    let q : PassState = c.try_hold.new.self.pass in
    let free = c.requires.free in
    let missed = c.try_hold.ensures.acts in
    given_back (settled_kept missed refl (settled free))
    (miss_leaves missed c.in-Err.ensures.not_held (none_held_is p free.gates))

pub returns-in-Err-clause-tidy : goal.returns-in-Err-clause-tidy
returns-in-Err-clause-tidy c = λ tidy. tidy_kept c.try_hold.ensures.acts c.requires.free.settled.seat refl tidy
