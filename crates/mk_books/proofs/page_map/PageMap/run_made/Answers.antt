use Rattle.mk_books.proofs.Vocabulary.{List, Page, ◌+◌}
use Rattle.mk_books.proofs.RunsTold.{MapIsTold, made_stored, moved_map_told}
use Rattle.mk_books.proofs.Showing.{written_in}
use Rattle.mk_books.proofs.page_map.PageMap.run_made.Goals as goal
use Rattle.mk_books.proofs.page_map.PageMap.run_made.Goals.{After-move_pages}
use Rattle.mk_books.specs.KnownPages.{AreBare, run_word}
use Rattle.mk_geom.specs.PageUses.{PartOfRun}
use Rattle.std.specs.Prelude.{true}

told : (c : After-move_pages)
    → MapIsTold c.args.self.now c.args.first c.args.count (run_word c.args.head c.args.next)
    (written_in c.store_headers.new.pages c.self.inside.pages.items c.self.inside.pages.len)
    (written_in c.move_pages.new.sets c.self.inside.sets.items c.self.inside.sets.len)
    (c.self.inside.resident + c.args.count)
told c =
    let headers = run_word c.args.head c.args.next in
    moved_map_told (λ (ps : List Page). AreBare ps c.args.first c.args.count) headers (PartOfRun true) c.self.view_is
    c.self.invariant c.self.inside.pages.ok.0 c.deref_mut.ensures.value c.store_headers.ensures
    c.self.inside.sets.ok.0 c.deref_mut-2.ensures.value c.move_pages.ensures c.requires.within c.requires.some
    c.requires.before
    (made_stored c.move_pages.new.sets c.args.first c.args.count headers c.self.invariant c.requires.after)

pub invariant_of-self : goal.invariant_of-self
invariant_of-self c = (told (goal.at.invariant_of-self c).After-move_pages).fits

pub returns : goal.returns
returns c = (told (goal.at.returns c).After-move_pages).told
