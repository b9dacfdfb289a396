use Rattle.mk_caller.proofs.Below.Laws.Vocabulary.{Some, arith, histories_keep_lengths, ltb-true, place_on_pages, ◌≡◌}
use Rattle.mk_alloc.proofs.{ObjectVocabulary.{PassState, now_of, object_for}, PlacedNews.{fit_found, fit_within}}
use Rattle.mk_alloc.{proofs.PlacedNews.{placed_there, shape_asked, type_asked}, specs.Placing.{object_shaped}}
use Rattle.mk_alloc.proofs.{placing.place_object.Goals.{After-shape_of-shape, In-Some}, JoinedLooks.goes_to}
use Rattle.mk_alloc.proofs.placing.place_object.Goals as goal

-- the shape is that of the object
shape_is : (c : After-shape_of-shape) → object_shaped c.shape_of-shape.result ≡ object_for c.args.turn.now.pass
shape_is c = let is = c.requires.requested.op in grind (arith, shape_asked)

-- the cell that was found is where it fits
fit : (c : In-Some) → object_shaped c.shape_of-shape.result ≡ object_for c.args.turn.now.pass
    → place_on_pages c.args.turn.now.pass.table.config.resident (now_of c.args.turn.now.pass).words.pages
    (object_for c.args.turn.now.pass) ≡ Some c.in-Some.place
fit c is = grind (arith, fit_found)

pub shape_of-shape-requires : goal.shape_of-shape-requires
shape_of-shape-requires c =
    let has = type_asked c.requires.one_table c.args.turn.now.in_order c.requires.requested.op in
    rw c.types.ensures (ltb-true c.args.request.ty _ has)

pub page-used-requires : goal.page-used-requires
page-used-requires c =
    let x = goal.at.page-used-requires c in
    let p : PassState = c.args.turn.now.pass in
    let within = fit_within c.in-Some.place c.args.turn.now.in_order c.requires.unplaced
    (fit x.In-Some (shape_is x.After-shape_of-shape)) in
    omega (arith, within, (histories_keep_lengths p.table.config p.seen).pages)

pub place_apart-requires-clause-shape : goal.place_apart-requires-clause-shape
place_apart-requires-clause-shape c = grind (arith, shape_is)

pub serve_now-requires : goal.serve_now-requires
serve_now-requires c = grind (arith, goes_to, fit, shape_is)

pub returns-in-Some-clause-placed : goal.returns-in-Some-clause-placed
returns-in-Some-clause-placed c =
    let x = goal.at.returns-in-Some-clause-placed c in
    λ h. placed_there c.args.turn.now.in_order c.requires.unplaced (fit x.In-Some (shape_is x.After-shape_of-shape))
    c.serve_now.ensures
