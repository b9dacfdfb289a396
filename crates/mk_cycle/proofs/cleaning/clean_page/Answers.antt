use Rattle.mk_words.proofs.Below.Laws.Vocabulary.{cases_eq, inl, inr, sym, ◌∙◌, ◌≡◌}
use Rattle.mk_cycle.proofs.{Vocabulary.{Cleans, WasUndirty}, CleanedPages.{clean_bare, no_quarantine}}
use Rattle.mk_cycle.proofs.{Undirty.{undirty_earlier, undirty_later, undirty_now}, CleaningSteps.cleans_then}
use Rattle.mk_cycle.proofs.cleaning.clean_page.Goals.{After-look_before-quarantine}
use Rattle.mk_cycle.proofs.cleaning.clean_page.Goals as goal

-- up to the look at the dirty word, which was 0 then if it was found to be
to_dirty : (c : After-look_before-quarantine) → Cleans c.args.turn.now.pass c.look_before-dirty.new.turn.pass
to_dirty c = cleans_then c.clear_colours.ensures.cleans c.look_before-dirty.ensures.cleans

undirty : (c : After-look_before-quarantine) → c.look_before-dirty.result ≡ 0
    → WasUndirty c.args.page c.args.turn.now.pass c.look_before-dirty.new.turn.pass
undirty c none = undirty_now c.args.page (to_dirty c) (sym c.look_before-dirty.ensures.reads ∙ none)

-- and with both looks
looks : (c : After-look_before-quarantine) → Cleans c.args.turn.now.pass c.look_before-quarantine.new.turn.pass
looks c = cleans_then (to_dirty c) c.look_before-quarantine.ensures.cleans

pub returns-then-are_zero-clause-cleans : goal.returns-then-are_zero-clause-cleans
returns-then-are_zero-clause-cleans c =
    looks (goal.at.returns-then-are_zero-clause-cleans c).After-look_before-quarantine

pub returns-then-are_zero-clause-ready : goal.returns-then-are_zero-clause-ready
returns-then-are_zero-clause-ready c =
    let last = c.look_before-quarantine.ensures in
    let found = c.are_zero.ensures in
    record {
      clean = clean_bare (cleans_then c.look_before-dirty.ensures.cleans last.cleans) c.clear_colours.ensures.bare
          (no_quarantine _ _ c.look_before-quarantine.new.turn.in_order last.reads
          (found.second c.if-are_zero.true));
      undirty = undirty_later (undirty (goal.at.returns-then-are_zero-clause-ready c).After-look_before-quarantine
          (found.first c.if-are_zero.true)) last.cleans;
    }

pub returns-clause-cleans : goal.returns-clause-cleans
returns-clause-cleans c =
    cleans_then (looks (goal.at.returns-clause-cleans c).After-look_before-quarantine)
    (cleans_then c.copy_freed.ensures.cleans c.clear_dirty.ensures.cleans)

pub returns-clause-ready : goal.returns-clause-ready
returns-clause-ready c =
    let x = (goal.at.returns-clause-ready c).After-look_before-quarantine in
    let last = c.clear_dirty.ensures in
    let then = cleans_then c.look_before-quarantine.ensures.cleans c.copy_freed.ensures.cleans in
    record {
      clean = clean_bare (cleans_then c.look_before-dirty.ensures.cleans (cleans_then then last.cleans))
          c.clear_colours.ensures.bare (last.cleans.snapshot _ c.copy_freed.ensures.snapshot);
      undirty = elim (cases_eq c.look_before-dirty.result 0) [
        | inl none ↦ undirty_later (undirty x none) (cleans_then then last.cleans)
        | inr some ↦ undirty_earlier (cleans_then (to_dirty x) then) (last.undirty some)
      ];
    }
