use Rattle.mk_words.proofs.Below.Laws.Vocabulary.{Word, subst, ◌<◌}
use Rattle.mk_cycle.proofs.roots_beside.mark_roots.Goals as goal
use Rattle.mk_cycle.proofs.{MarksBeside.{all_looked, goes_then, looked_on, on_looked}, MarkedRoots.marks_roots}
use Rattle.mk_words.specs.States.{WordsState}

pub returns-clause-on : goal.returns-clause-on
returns-clause-on g c = goes_then c.mark_registers.ensures.on c.mark_globals.ensures.on

pub returns-clause-roots : goal.returns-clause-roots
returns-clause-roots g c =
    let t = c.args.turn.now in
    let v = c.mark_globals.new.turn in
    marks_roots (returns-clause-on g c).marks (all_looked t.pass v.pass (λ k r lt few. looked_on
    (Word.Reg k r) c.mark_registers.ensures.on c.mark_globals.ensures.on (c.mark_registers.ensures.looked k
    (subst (λ (w : WordsState). k < w.config.callers) c.requires.one_table lt) r few)) (λ i lt. on_looked
    (Word.Global i) c.mark_registers.ensures.on c.mark_globals.ensures.on (c.mark_globals.ensures.looked i lt)))
