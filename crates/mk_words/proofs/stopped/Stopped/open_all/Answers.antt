use Rattle.mk_laws.proofs.Vocabulary.{ap, arith, sym, ◌∙◌, ◌≡◌, ◌≤◌}
use Rattle.mk_words.{proofs.Opening.{all_opened, one_round, opens_none}, specs.States.{WordsState}}
use Rattle.mk_words.proofs.stopped.Stopped.open_all.Goals as goal

pub loop-caller-init : goal.loop-caller-init
loop-caller-init c = grind (arith, opens_none)

pub loop-caller-preserved : goal.loop-caller-preserved
loop-caller-preserved c =
    let inv = c.loop-caller.invariant in
    let o = c.open_other.ensures in
    let lt = c.loop-caller-test.true in
    let r = one_round c.args.self.pass c.loop-caller.turn.pass c.open_other.new.turn.pass c.loop-caller.caller inv.opens
    inv.may inv.opened o.opened o.same in
    record { within = omega arith; opens = r.opens; may = r.may; opened = r.opened }

pub returns-clause-gates : goal.returns-clause-gates
returns-clause-gates c =
    let inv = c.loop-caller.invariant in
    let callers : c.callers-callers.result ≡ c.args.self.pass.table.config.callers = c.callers-callers.ensures
    ∙ sym (ap (λ (w : WordsState). w.config.callers) c.requires.one_table) in
    let past : c.callers-callers.result ≤ c.loop-caller.caller = c.loop-caller-test.false in
    all_opened c.args.self.pass c.loop-caller.turn.pass inv.opens
    (λ j lt other. inv.opened j (omega arith) other) c.loop-caller.turn.in_order
