use Rattle.mk_trace.proofs.Vocabulary.{HostOnlyLooks, left, nat_tests, pointed_cell}
use Rattle.mk_heap.proofs.Below.Laws.Vocabulary.{arith, slice_index, ◌≡◌}
use Rattle.mk_trace.proofs.FoundCells.{cell_within, freed_looked, freed_object, header_looked, looks_twice, no_object}
use Rattle.mk_trace.proofs.FoundCells.{pointed_looked, unfreed_object}
use Rattle.mk_trace.proofs.looking.object_of_slot.Goals.{After-cell_at, After-is_quarantined}
use Rattle.mk_trace.proofs.looking.object_of_slot.Goals as goal

-- Between the looks nothing changes, so the cell that was found is the one that the slot points into.

found : (g : _) (c : After-cell_at g) → c.cell_at.result ≡ pointed_cell c.args.heap.now.config.pages
    (left c.args.heap.now.config c.args.host.now.pass.seen).now.words.pages
    (slice_index (left c.args.heap.now.config c.args.host.now.pass.seen).now.words.globals c.args.slot)
found g c = grind (arith, pointed_looked)

looked : (g : _) (c : After-cell_at g)
    → HostOnlyLooks c.args.heap.now.config c.args.host.now.pass.seen c.cell_at.new.host.pass.seen
looked g c = looks_twice c.look-address.ensures.looks c.cell_at.ensures.looks

looked_last : (g : _) (c : After-is_quarantined g)
    → HostOnlyLooks c.args.heap.now.config c.args.host.now.pass.seen c.look-header.new.host.pass.seen
looked_last g c =
    looks_twice (looks_twice c.look-address.ensures.looks c.cell_at.ensures.looks) c.look-header.ensures.looks

pub returns-in-None-clause-finds : goal.returns-in-None-clause-finds
returns-in-None-clause-finds g c = grind (arith, no_object, c.requires.home.history, found)

pub look-header-requires-clause-word : goal.look-header-requires-clause-word
look-header-requires-clause-word g c = grind (arith, cell_within, c.requires.home.history, found, nat_tests)

pub returns-then-is_quarantined-clause-finds : goal.returns-then-is_quarantined-clause-finds
returns-then-is_quarantined-clause-finds g c =
    grind (arith, freed_object, c.requires.home.history, found, freed_looked, looked_last)

pub returns-else-is_quarantined-clause-finds : goal.returns-else-is_quarantined-clause-finds
returns-else-is_quarantined-clause-finds g c =
    grind (arith, unfreed_object, c.requires.home.history, found, freed_looked, looked_last, header_looked, looked)
