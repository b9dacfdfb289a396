use Rattle.mk_caller.proofs.Below.Laws.Vocabulary.{Page, ap, false, sym, ◌∙◌, ◌≡◌}
use Rattle.mk_alloc.proofs.{ObjectVocabulary.{now_of, option_map}, FoundPlaces.{cell_is_there, cell_told}}
use Rattle.mk_alloc.proofs.seeking.free_cell.Goals as goal
use Rattle.mk_alloc.proofs.seeking.free_cell.Goals.{After-lowest_free}
use Rattle.mk_core.specs.Below.Books.KnownPages.{free_cell_on}

-- the lowest free cell by the used word is that of the page
told : (c : After-lowest_free) → option_map (λ index. record { page = c.args.page; index = index; carve = false })
    c.lowest_free.result ≡ free_cell_on c.args.class c.args.leaf (now_of c.args.turn.now.pass).words.pages c.args.page
told c =
    cell_told (now_of c.args.turn.now.pass).words.pages _ c.args.class c.args.leaf c.requires.class (ap (λ (p : Page).
    p.used) c.page.ensures) c.requires.block c.lowest_free.ensures

pub unreachable-requires : goal.unreachable-requires
unreachable-requires c =
    let x = (goal.at.unreachable-requires c).After-lowest_free in
    let some = cell_is_there (now_of c.args.turn.now.pass).words.pages c.args.page c.args.class c.args.leaf
    c.lowest_free.result (told x) c.requires.block in
    c.in_default.not-Some some.0 some.1

pub returns-clause-cell : goal.returns-clause-cell
returns-clause-cell c =
    sym (told (goal.at.returns-clause-cell c).After-lowest_free)
    ∙ ap (option_map (λ index. record { page = c.args.page; index = index; carve = false })) c.in-Some.is
