use Rattle.mk_alloc.proofs.{Vocabulary.refl, CountedFulls.{answers_full, full_admitted, full_allowed, full_begins_none}}
use Rattle.mk_alloc.proofs.CountedFulls.{full_closes_none, tallied_ended, tallied_idle, tallied_nowhere}
use Rattle.mk_alloc.proofs.{CountedFulls.tallied_unplaced, UnsweptTurns.full_sweeps}
use Rattle.mk_alloc.proofs.fulls.answer_full.Goals as goal

pub full-requires-clause-enabled : goal.full-requires-clause-enabled
full-requires-clause-enabled c =
    let quiet = c.requires.quiet in
    let u = c.requires.unplaced in
    let look = c.look-count.ensures in
    let tallies = c.tally.ensures in
    full_allowed c.tally.new.self.in_order (tallied_unplaced quiet u look.acts look.finds tallies)
    (tallied_idle quiet u look.acts look.finds tallies c.requires.idle) (tallied_ended quiet u look.acts look.finds
    tallies c.requires.ended) (tallied_nowhere quiet u look.acts look.finds tallies c.requires.nowhere)

pub full-requires-clause-admitted : goal.full-requires-clause-admitted
full-requires-clause-admitted c =
    full_admitted c.tally.new.self.in_order (tallied_unplaced c.requires.quiet c.requires.unplaced
    c.look-count.ensures.acts c.look-count.ensures.finds c.tally.ensures)

pub returns-clause-full : goal.returns-clause-full
returns-clause-full c =
    answers_full c.requires.quiet c.requires.unplaced c.look-count.ensures.acts c.look-count.ensures.finds
    c.tally.ensures c.full.ensures c.saturating_add.ensures

pub returns-clause-begins : goal.returns-clause-begins
returns-clause-begins c =
    full_begins_none c.requires.quiet c.requires.unplaced c.look-count.ensures.acts c.look-count.ensures.finds
    c.tally.ensures c.full.ensures c.saturating_add.ensures

pub returns-clause-closes : goal.returns-clause-closes
returns-clause-closes c =
    full_closes_none c.requires.quiet c.requires.unplaced c.look-count.ensures.acts c.look-count.ensures.finds
    c.tally.ensures c.full.ensures c.saturating_add.ensures

pub returns-clause-reached : goal.returns-clause-reached
returns-clause-reached c = full_sweeps c.look-count.ensures.acts c.tally.ensures c.full.ensures refl refl refl
