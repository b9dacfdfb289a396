use Rattle.mk_books.proofs.Vocabulary.{List, Page, PartOfRun, false, length, refl, true, ◌+◌, ◌-◌, ◌≤◌}
use Rattle.mk_books.proofs.RunsTold.{MapIsTold, map_told, unmapped_enough, unmapped_stored}
use Rattle.mk_books.proofs.Showing.{written_in}
use Rattle.mk_books.proofs.page_map.PageMap.run_unmapped.Goals as goal
use Rattle.mk_books.proofs.page_map.PageMap.run_unmapped.Goals.{After-store_headers}
use Rattle.mk_books.specs.KnownPages.{StandsOn, run_word}

told : (c : After-store_headers)
    → MapIsTold c.args.self.now c.args.first c.args.count (run_word c.args.head c.args.next)
    (written_in c.store_headers.new.pages c.self.inside.pages.items c.self.inside.pages.len) c.self.inside.sets.items
    (c.self.inside.resident - c.args.count)
told c =
    let headers = run_word c.args.head c.args.next in
    map_told (λ (ps : List Page). (c.args.first + c.args.count ≤ length ps)
    × StandsOn (PartOfRun true) ps c.args.first c.args.count) headers (PartOfRun false) c.self.view_is
    c.self.invariant c.self.inside.pages.ok.0 c.deref_mut.ensures.value c.store_headers.ensures refl
    (c.requires.within, c.requires.before) (λ before. unmapped_stored c.args.first c.args.count headers
    c.self.invariant before.0 before.1 c.requires.after)

pub overflow_sub-self : goal.overflow_sub-self
overflow_sub-self c =
    let x = (goal.at.overflow_sub-self c).After-store_headers in
    unmapped_enough c.args.first c.args.count (run_word c.args.head c.args.next) x.self.view_is x.self.invariant
    x.requires.within x.requires.before x.requires.after

pub invariant_of-self : goal.invariant_of-self
invariant_of-self c = (told (goal.at.invariant_of-self c).After-store_headers).fits

pub returns : goal.returns
returns c = (told (goal.at.returns c).After-store_headers).told
