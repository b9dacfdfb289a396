-- Where a cycle marks, the bits of the object are marked.
use Rattle.mk_caller.proofs.{Below.Laws.Vocabulary.{Object, ap, sym, ◌∙◌}, Below.Words.Sweeping.nothing_sweeps}
use Rattle.mk_alloc.proofs.{ObjectVocabulary.bits_made, PlacedNews.first_mark_sweeps, Serves.{knows_place, mark_may}}
use Rattle.mk_alloc.proofs.Serves.{marks_first, marks_none}
use Rattle.mk_alloc.proofs.placing.mark_place.Goals as goal

pub mark-requires-clause-enabled : goal.mark-requires-clause-enabled
mark-requires-clause-enabled c =
    mark_may (knows_place c.args.turn.now.in_order c.requires.goes.goes) c.requires.free
    (c.bits.ensures ∙ ap (λ (o : Object). bits_made o) c.requires.goes.shaped)
    (sym c.requires.marking ∙ c.if-marking.true)

pub returns-then-marking-clause-carved : goal.returns-then-marking-clause-carved
returns-then-marking-clause-carved c =
    marks_first (knows_place c.args.turn.now.in_order c.requires.goes.goes) c.requires.free
    (c.bits.ensures ∙ ap (λ (o : Object). bits_made o) c.requires.goes.shaped)
    (sym c.requires.marking ∙ c.if-marking.true) c.mark.ensures

pub returns-then-marking-clause-reached : goal.returns-then-marking-clause-reached
returns-then-marking-clause-reached c =
    first_mark_sweeps (knows_place c.args.turn.now.in_order c.requires.goes.goes) c.requires.free
    (c.bits.ensures ∙ ap (λ (o : Object). bits_made o) c.requires.goes.shaped)
    (sym c.requires.marking ∙ c.if-marking.true) c.mark.ensures

pub returns-else-marking-clause-carved : goal.returns-else-marking-clause-carved
returns-else-marking-clause-carved c =
    marks_none (knows_place c.args.turn.now.in_order c.requires.goes.goes) c.requires.free
    (sym c.requires.marking ∙ c.if-marking.false)

pub returns-else-marking-clause-reached : goal.returns-else-marking-clause-reached
returns-else-marking-clause-reached c = nothing_sweeps c.args.turn.now.pass
