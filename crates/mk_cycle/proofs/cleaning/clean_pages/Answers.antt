use Rattle.mk_cycle.proofs.{CleanedPages.ready_earlier, CleaningSteps.cleans_then}
use Rattle.mk_cycle.proofs.cleaning.clean_pages.Goals as goal

pub returns-clause-cleans : goal.returns-clause-cleans
returns-clause-cleans c = cleans_then c.clean_free_pages.ensures.cleans c.clean_pages_in_use.ensures.cleans

pub returns-clause-ready : goal.returns-clause-ready
returns-clause-ready c page lt =
    ready_earlier c.clean_free_pages.ensures.cleans (c.clean_pages_in_use.ensures.ready page lt)
