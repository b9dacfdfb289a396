use Rattle.mk_cycle.proofs.{CleaningSteps.undirtied, Undirty.undirty_behind, Undirty.undirty_now}
use Rattle.mk_cycle.proofs.cleaning.clear_dirty.Goals as goal

pub returns-then-dirty-ne0-clause-cleans : goal.returns-then-dirty-ne0-clause-cleans
returns-then-dirty-ne0-clause-cleans c = undirtied c.requires.turn c.undirty.ensures

pub returns-then-dirty-ne0-clause-undirty : goal.returns-then-dirty-ne0-clause-undirty
returns-then-dirty-ne0-clause-undirty c some =
    undirty_now _ (returns-then-dirty-ne0-clause-cleans c) (undirty_behind c.undirty.ensures)
