use Rattle.mk_caller.proofs.Below.Laws.Vocabulary.{Cell, Flight, Option, Some, ap, header_at, lt-ltb, subst, sym, ℕ}
use Rattle.mk_caller.proofs.Below.Laws.Vocabulary.{◌<◌, ◌∙◌, ◌≡◌}
use Rattle.mk_alloc.proofs.{ObjectVocabulary.{PassState, now_of}, FreedObjects.{IsPointed, pointed_now, page_pointed}}
use Rattle.mk_alloc.proofs.{LoadedFrees.loaded_undecided, targets.find_cell.Goals.{After-lookup, Start}}
use Rattle.mk_alloc.proofs.targets.find_cell.Goals as goal

-- what the value points into
pointed : (c : Start) → IsPointed c.args.turn.now.pass c.args.value
pointed c =
    let l = c.requires.loaded in
    pointed_now c.args.turn.now.in_order (loaded_undecided l.value l.free l.some) c.requires.value

-- is the cell that was found
found : (c : After-lookup) (t : IsPointed c.args.turn.now.pass c.args.value) → c.lookup.result ≡ Some t.cell
found c t =
    let p : PassState = c.args.turn.now.pass in
    let pages : c.pages.result ≡ p.table.config.pages = cc (c.pages.ensures, c.requires.one_table) in
    cc (c.lookup.ensures, pages, c.look_at-header.ensures.finds, c.page_at-page.ensures, t.by_header)

same_cell : {x : Option Cell} {a b : Cell} → x ≡ Some a → x ≡ Some b → a ≡ b
same_cell one other = cc

pub look_at-header-requires-clause-in_range : goal.look_at-header-requires-clause-in_range
look_at-header-requires-clause-in_range c =
    let t = pointed (goal.at.look_at-header-requires-clause-in_range c).Start in
    lt-ltb _ _ (subst (λ n. n < c.args.turn.now.pass.table.config.pages) (sym c.page_at-page.ensures) t.page)

pub unreachable-requires : goal.unreachable-requires
unreachable-requires c =
    let x = goal.at.unreachable-requires c in
    c.in_default.not-Some _ (found x.After-lookup (pointed x.Start))

pub returns-clause-cell : goal.returns-clause-cell
returns-clause-cell c =
    let x = goal.at.returns-clause-cell c in
    let t = pointed x.Start in
    t.target ∙ sym (found x.After-lookup t) ∙ c.in-Some.is

pub returns-clause-within : goal.returns-clause-within
returns-clause-within c =
    let x = goal.at.returns-clause-within c in
    let t = pointed x.Start in
    rw (same_cell (found x.After-lookup t) c.in-Some.is) at t.within

pub returns-clause-index : goal.returns-clause-index
returns-clause-index c =
    let x = goal.at.returns-clause-index c in
    let t = pointed x.Start in
    subst (λ (y : Cell). y.index < 32) (same_cell (found x.After-lookup t) c.in-Some.is) t.index

-- The page that the value points into is the cell's.
pub returns-clause-header : goal.returns-clause-header
returns-clause-header c =
    let p : PassState = c.args.turn.now.pass in
    let l = c.requires.loaded in
    let value : l.value ≡ c.args.value = sym (ap (λ (f : Flight). f.p) l.free.call) ∙ c.requires.value in
    let page = page_pointed l.value c.args.turn.now.in_order l.free l.some (returns-clause-cell c) in
    c.look_at-header.ensures.finds
    ∙ ap (λ (n : ℕ). header_at (now_of p).words n) (cc (c.page_at-page.ensures, value, page))
