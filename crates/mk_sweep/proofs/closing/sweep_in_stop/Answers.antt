use Rattle.mk_sweep.proofs.Vocabulary.{PointWell, SweepsOn, Words, still_words, words_below}
use Rattle.mk_cycle.proofs.Below.Laws.Vocabulary.{List, ℕ, ap, length, slice_index, subst, sym, ◌∙◌}
use Rattle.mk_sweep.proofs.Closed.{closed_behind, well_when_black}
use Rattle.mk_sweep.proofs.{Blacks.closed_kept, SweepSteps.quiet_then, SweepSteps.then_quiet}
use Rattle.mk_sweep.proofs.closing.sweep_in_stop.Goals as goal

pub blacken_all-requires-clause-closed : goal.blacken_all-requires-clause-closed
blacken_all-requires-clause-closed c =
    closed_behind _ c.mark_roots.new.stop c.sweep_pages-looks.new.stop (sym (c.sweep_pages-looks.ensures.sweeps.on.table
    ∙ c.mark_roots.ensures.on.table ∙ c.undirty_all.ensures.on.table ∙ c.unblack_all.ensures.on.table
    ∙ c.requires.one_table)) c.sweep_pages-looks.ensures.sweeps.on.sweeping.settled
    c.sweep_pages-looks.ensures.sweeps.more c.mark_roots.ensures.roots c.sweep_pages-looks.ensures.sweeps.well

pub returns-clause-on : goal.returns-clause-on
returns-clause-on c =
    let pages : ℕ = c.args.words.now.config.pages in
    let ns : List ℕ = words_below (still_words c.mark_roots.new.stop.pass) pages in
    let early = quiet_then (quiet_then c.unblack_all.ensures.on c.undirty_all.ensures.on) c.mark_roots.ensures.on in
    subst (λ ms. SweepsOn c.args.stop.now c.blacken_all.new.stop ms)
    (ap (λ (x : Words). words_below x pages) c.mark_roots.ensures.more.is ∙ ap (λ (x : Words). words_below x pages)
    c.undirty_all.ensures.fewer.is ∙ ap (λ (x : Words). words_below x pages) c.unblack_all.ensures.fewer.is)
    (then_quiet (quiet_then early c.sweep_pages-looks.ensures.sweeps.on) c.blacken_all.ensures.on)

pub returns-clause-looks : goal.returns-clause-looks
returns-clause-looks c =
    let pages : ℕ = c.args.words.now.config.pages in
    c.sweep_pages-looks.ensures.looks ∙ ap (λ (x : Words). length (words_below x pages)) c.mark_roots.ensures.more.is
    ∙ ap (λ (x : Words). length (words_below x pages)) c.undirty_all.ensures.fewer.is
    ∙ ap (λ (x : Words). length (words_below x pages)) c.unblack_all.ensures.fewer.is

pub returns-clause-clean : goal.returns-clause-clean
returns-clause-clean c p lt =
    ap (λ (x : Words). slice_index x.dirty p) c.blacken_all.ensures.more.is
    ∙ ap (λ (x : Words). slice_index x.dirty p) c.sweep_pages-looks.ensures.sweeps.more.is
    ∙ ap (λ (x : Words). slice_index x.dirty p) c.mark_roots.ensures.more.is ∙ c.undirty_all.ensures.clean p lt

pub returns-clause-closed : goal.returns-clause-closed
returns-clause-closed c =
    closed_kept c.blacken_all.ensures.more (closed_behind _ c.mark_roots.new.stop c.sweep_pages-looks.new.stop
    (sym (c.sweep_pages-looks.ensures.sweeps.on.table ∙ c.mark_roots.ensures.on.table ∙ c.undirty_all.ensures.on.table
    ∙ c.unblack_all.ensures.on.table ∙ c.requires.one_table))
    c.sweep_pages-looks.ensures.sweeps.on.sweeping.settled c.sweep_pages-looks.ensures.sweeps.more
    c.mark_roots.ensures.roots c.sweep_pages-looks.ensures.sweeps.well)

pub returns-clause-well : goal.returns-clause-well
returns-clause-well c =
    let pages : ℕ = c.args.words.now.config.pages in
    well_when_black pages _ c.blacken_all.ensures.more (subst
    (λ ns. PointWell pages (still_words c.sweep_pages-looks.new.stop.pass) ns) (ap (λ (x : Words). words_below x pages)
    c.mark_roots.ensures.more.is ∙ ap (λ (x : Words). words_below x pages) c.undirty_all.ensures.fewer.is ∙ ap
    (λ (x : Words). words_below x pages) c.unblack_all.ensures.fewer.is) c.sweep_pages-looks.ensures.sweeps.well)
