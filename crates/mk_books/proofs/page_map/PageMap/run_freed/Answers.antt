use Rattle.mk_books.proofs.Vocabulary.{List, Nothing, Page, PartOfRun, false}
use Rattle.mk_books.proofs.RunsTold.{MapIsTold, freed_stored, moved_map_told}
use Rattle.mk_books.proofs.Showing.{written_in}
use Rattle.mk_books.proofs.page_map.PageMap.run_freed.Goals as goal
use Rattle.mk_books.proofs.page_map.PageMap.run_freed.Goals.{After-move_pages}
use Rattle.mk_books.specs.KnownPages.{StandsOn}

told : (c : After-move_pages) → MapIsTold c.args.self.now c.args.first c.args.count (λ _. 0)
    (written_in c.clear_headers.new.pages c.self.inside.pages.items c.self.inside.pages.len)
    (written_in c.move_pages.new.sets c.self.inside.sets.items c.self.inside.sets.len) c.self.inside.resident
told c =
    moved_map_told (λ (ps : List Page). StandsOn (PartOfRun false) ps c.args.first c.args.count) (λ _. 0) Nothing
    c.self.view_is c.self.invariant c.self.inside.pages.ok.0 c.deref_mut.ensures.value c.clear_headers.ensures
    c.self.inside.sets.ok.0 c.deref_mut-2.ensures.value c.move_pages.ensures c.requires.within c.requires.some
    c.requires.before (freed_stored c.move_pages.new.sets c.args.first c.args.count c.self.invariant)

pub invariant_of-self : goal.invariant_of-self
invariant_of-self c = (told (goal.at.invariant_of-self c).After-move_pages).fits

pub returns : goal.returns
returns c = (told (goal.at.returns c).After-move_pages).told
