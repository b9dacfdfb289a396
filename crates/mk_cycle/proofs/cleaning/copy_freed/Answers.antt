use Rattle.mk_words.proofs.Below.Laws.Vocabulary.{ℕ, ap, arith, quarantine_word, refl, slice_index, sym, ◌∙◌, ◌≡◌}
use Rattle.mk_cycle.proofs.CleaningSteps.{cleans_nothing, halves, has_snapshot, snapshot_taken}
use Rattle.mk_cycle.proofs.{Allowed.snapshot_allowed, MayAct.calm_admitted, Vocabulary.now_of}
use Rattle.mk_cycle.proofs.cleaning.copy_freed.Goals.{After-word}
use Rattle.mk_cycle.proofs.cleaning.copy_freed.Goals as goal

copied : (c : After-word) → c.word.result
    ≡ quarantine_word (slice_index (now_of c.args.turn.now.pass).words.freed c.args.page)
    (slice_index (now_of c.args.turn.now.pass).words.freed c.args.page)
copied c =
    c.word.ensures ∙ ap (λ (n : ℕ). quarantine_word n n)
    (c.of-freed.ensures.freed ∙ (halves _ _ c.args.turn.now.in_order c.requires.found).freed)

pub quar_still_freed-requires-clause-freed : goal.quar_still_freed-requires-clause-freed
quar_still_freed-requires-clause-freed c =
    let half = halves _ _ c.args.turn.now.in_order c.requires.found in
    let low = c.of-freed.ensures.freed in
    let word = c.word.ensures in
    omega (arith, half.freed, low, word)

pub quar_still_freed-requires-clause-enabled : goal.quar_still_freed-requires-clause-enabled
quar_still_freed-requires-clause-enabled c =
    snapshot_allowed c.args.turn.now.in_order c.requires.turn.is_turn _ c.requires.within _
    (copied (goal.at.quar_still_freed-requires-clause-enabled c).After-word)

pub quar_still_freed-requires-clause-admitted : goal.quar_still_freed-requires-clause-admitted
quar_still_freed-requires-clause-admitted c =
    calm_admitted c.args.turn.now.pass _ c.args.turn.now.in_order.history refl c.requires.turn.is_turn.free.decided

pub returns-then-snapshot-freed-clause-cleans : goal.returns-then-snapshot-freed-clause-cleans
returns-then-snapshot-freed-clause-cleans c =
    snapshot_taken c.requires.turn.is_turn c.quar_still_freed.ensures c.requires.within
    (copied (goal.at.returns-then-snapshot-freed-clause-cleans c).After-word)

pub returns-then-snapshot-freed-clause-snapshot : goal.returns-then-snapshot-freed-clause-snapshot
returns-then-snapshot-freed-clause-snapshot c =
    has_snapshot c.requires.turn.is_turn c.quar_still_freed.ensures c.requires.within
    (copied (goal.at.returns-then-snapshot-freed-clause-snapshot c).After-word)

pub returns-else-snapshot-freed-clause-cleans : goal.returns-else-snapshot-freed-clause-cleans
returns-else-snapshot-freed-clause-cleans c = cleans_nothing c.args.turn.now.pass

pub returns-else-snapshot-freed-clause-snapshot : goal.returns-else-snapshot-freed-clause-snapshot
returns-else-snapshot-freed-clause-snapshot c =
    let half = halves _ _ c.args.turn.now.in_order c.requires.found in
    sym half.snapshot ∙ sym c.of-freed.ensures.snapshot ∙ c.if-snapshot-freed.false ∙ c.of-freed.ensures.freed
    ∙ half.freed
