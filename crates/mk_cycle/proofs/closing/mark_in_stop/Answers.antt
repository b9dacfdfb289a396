use Rattle.mk_words.proofs.Below.Laws.Vocabulary.{Words, ap, slice_index, sym, ◌∙◌}
use Rattle.mk_cycle.proofs.closing.mark_in_stop.Goals as goal
use Rattle.mk_cycle.proofs.{Closes.roots_more, Notes.{none_noted, noted_after}, StopSteps.on_then}

pub returns-clause-on : goal.returns-clause-on
returns-clause-on c =
    on_then (on_then c.clean_dirty-is_unmarked.ensures.on c.mark_roots.ensures.marks.on) c.trace.ensures.on

pub returns-clause-clean : goal.returns-clause-clean
returns-clause-clean c p lt =
    ap (λ (w : Words). slice_index w.dirty p) c.trace.ensures.more.is
    ∙ ap (λ (w : Words). slice_index w.dirty p) c.mark_roots.ensures.marks.more.is
    ∙ c.clean_dirty-is_unmarked.ensures.clean p lt

pub returns-clause-roots : goal.returns-clause-roots
returns-clause-roots c = roots_more c.trace.ensures.more c.mark_roots.ensures.roots

pub trace-requires-clause-noted : goal.trace-requires-clause-noted
trace-requires-clause-noted c =
    noted_after (none_noted c.forget.new.self c.forget.ensures.none
    (λ whole. c.clean_dirty-is_unmarked.ensures.unmarked (sym c.forget.ensures.whole
    ∙ whole))) c.mark_roots.ensures.marks
