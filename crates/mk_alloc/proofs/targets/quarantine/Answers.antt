use Rattle.mk_caller.proofs.Below.Laws.Vocabulary.{Step, arith, bit_or, subst, sym, ℕ, ◌%◌, ◌*◌, ◌+◌, ◌/◌, ◌<◌, ◌^◌}
use Rattle.mk_caller.proofs.Below.Laws.Vocabulary.{◌≡◌}
use Rattle.mk_alloc.proofs.FreeSteps.{quarantine_half, quarantine_may, quarantine_once, quarantine_reaches}
use Rattle.mk_alloc.proofs.{LoadedFrees.{free_step_admits, loaded_undecided}, Looks.acting_caller}
use Rattle.mk_alloc.proofs.{ObjectVocabulary.{Acts, IsEnabledTo}, targets.quarantine.Goals.After-word}
use Rattle.mk_alloc.proofs.MayAct.{free_is_acting}
use Rattle.mk_alloc.proofs.targets.quarantine.Goals as goal

-- the word that is stored, of both halves of the one that was found
stored : (c : After-word) → c.word.result
    ≡ bit_or (c.args.quar % 4294967296) (1 * 2 ^ c.args.cell.index % 2 ^ 64) + 4294967296 * (c.args.quar / 4294967296)
stored c = cc (c.word.ensures, c.of-freed.ensures.freed, c.of-freed.ensures.snapshot)

pub word-requires-clause-freed : goal.word-requires-clause-freed
word-requires-clause-freed c =
    subst (λ (n : ℕ). bit_or n (1 * 2 ^ c.args.cell.index % 2 ^ 64) < 4294967296) (sym c.of-freed.ensures.freed)
    (quarantine_half c.requires.free c.args.turn.now.in_order)

pub quar-requires-clause-enabled : goal.quar-requires-clause-enabled
quar-requires-clause-enabled c =
    subst (λ (n : ℕ). IsEnabledTo c.args.turn.now.pass (Step.Quar c.args.cell.page n))
    (sym (stored (goal.at.quar-requires-clause-enabled c).After-word))
    (quarantine_may c.requires.free c.args.turn.now.in_order c.requires.gates)

pub quar-requires-clause-admitted : goal.quar-requires-clause-admitted
quar-requires-clause-admitted c = grind (arith, loaded_undecided, free_step_admits, acting_caller, free_is_acting)

pub returns-clause-freed : goal.returns-clause-freed
returns-clause-freed c =
    quarantine_reaches c.requires.free c.args.turn.now.in_order
    (subst (λ (n : ℕ). Acts c.args.turn.now.pass (Step.Quar c.args.cell.page n) c.quar.new.self.pass)
    (stored (goal.at.returns-clause-freed c).After-word) c.quar.ensures)

pub returns-clause-once : goal.returns-clause-once
returns-clause-once c =
    quarantine_once c.requires.free c.args.turn.now.in_order
    (subst (λ (n : ℕ). Acts c.args.turn.now.pass (Step.Quar c.args.cell.page n) c.quar.new.self.pass)
    (stored (goal.at.returns-clause-once c).After-word) c.quar.ensures)
