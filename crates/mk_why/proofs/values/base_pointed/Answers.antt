use Rattle.std.proofs.Math.Nat.{mul-le-mul}
use Rattle.mk_why.proofs.{Vocabulary.{Cell, LooksWhileStill, now_of, view_by}, Looks.{looks_for_cell, looks_then}}
use Rattle.mk_why.proofs.{Looks.may_look_at_headers, Pointed.{none_at, none_at_unused, some_at_used}}
use Rattle.mk_why.proofs.values.base_pointed.Goals.{After-cell_pointed, In-Some}
use Rattle.mk_sweep.proofs.Below.Laws.Vocabulary.{None, Option, arith, lt-ltb, pointed_cell, ◌*◌, ◌<◌, ◌≡◌, ◌≤◌}
use Rattle.mk_core.proofs.PointedPages.{pointed_within}
use Rattle.mk_why.proofs.values.base_pointed.Goals as goal

pub cell_pointed-requires-clause-may : goal.cell_pointed-requires-clause-may
cell_pointed-requires-clause-may c = may_look_at_headers c.args.stop.now c.requires.still

-- what looking for the cell leaves, and what the value points into by the view as it was

looks : (c : After-cell_pointed) → LooksWhileStill c.args.stop.now c.cell_pointed.new.turn
looks c = looks_for_cell c.cell_pointed.ensures.looks c.requires.still

here : (c : After-cell_pointed) (cell : Option Cell)
    → cell ≡ pointed_cell c.args.words.now.config.pages (now_of c.cell_pointed.new.turn.pass).words.pages c.args.value
    → cell ≡ pointed_cell c.args.words.now.config.pages (view_by c.args.stop.now.pass).words.pages c.args.value
here c cell is = grind (arith, looks)

pub returns-in_default-clause-on : goal.returns-in_default-clause-on
returns-in_default-clause-on c = looks (goal.at.returns-in_default-clause-on c).After-cell_pointed

pub returns-in_default-clause-points : goal.returns-in_default-clause-points
returns-in_default-clause-points c =
    let x = (goal.at.returns-in_default-clause-points c).After-cell_pointed in
    none_at c.args.stop.now c.requires.still c.requires.one_table c.args.value (here x None c.in_default.ensures.points)

-- where the cell lies
within : (c : In-Some) → (c.in-Some.cell.page < c.args.words.now.config.pages) × (c.in-Some.cell.index < 64)
within c = grind (arith, pointed_within)

pub look_at-used-requires-clause-still : goal.look_at-used-requires-clause-still
look_at-used-requires-clause-still c = (looks (goal.at.look_at-used-requires-clause-still c).After-cell_pointed).still

pub look_at-used-requires-clause-word : goal.look_at-used-requires-clause-word
look_at-used-requires-clause-word c =
    lt-ltb c.in-Some.cell.page c.args.words.now.config.pages
    (within (goal.at.look_at-used-requires-clause-word c).In-Some).0

pub look_at-header-requires-clause-word : goal.look_at-header-requires-clause-word
look_at-header-requires-clause-word c =
    lt-ltb c.in-Some.cell.page c.args.words.now.config.pages
    (within (goal.at.look_at-header-requires-clause-word c).In-Some).0

pub returns-then-not-has_bit-clause-on : goal.returns-then-not-has_bit-clause-on
returns-then-not-has_bit-clause-on c = grind (arith, looks_then, looks)

pub returns-then-not-has_bit-clause-points : goal.returns-then-not-has_bit-clause-points
returns-then-not-has_bit-clause-points c =
    grind (arith, none_at_unused c.args.stop.now c.requires.still c.requires.one_table, here, looks)

pub overflow_mul-result : goal.overflow_mul-result
overflow_mul-result c =
    let low = (within (goal.at.overflow_mul-result c).In-Some).0 in
    let few = c.is_within_limits.ensures.pages in
    omega arith

pub overflow_mul-result-2 : goal.overflow_mul-result-2
overflow_mul-result-2 c =
    let low = (within (goal.at.overflow_mul-result-2 c).In-Some).1 in
    let small = c.words_under.ensures.few in
    let top : c.in-Some.cell.index * c.words_under.result ≤ 64 * 4096 = grind (arith, mul-le-mul) in
    omega arith

pub overflow_add-result : goal.overflow_add-result
overflow_add-result c =
    let low = (within (goal.at.overflow_add-result c).In-Some).0 in
    let index = (within (goal.at.overflow_add-result c).In-Some).1 in
    let few = c.is_within_limits.ensures.pages in
    let small = c.words_under.ensures.few in
    let top : c.in-Some.cell.index * c.words_under.result ≤ 64 * 4096 = grind (arith, mul-le-mul) in
    omega arith

pub returns-clause-on : goal.returns-clause-on
returns-clause-on c =
    looks_then (looks_then (looks (goal.at.returns-clause-on c).After-cell_pointed) c.look_at-used.ensures.on)
    c.look_at-header.ensures.on

pub returns-clause-points : goal.returns-clause-points
returns-clause-points c =
    let x = (goal.at.returns-clause-points c).After-cell_pointed in
    grind (arith, some_at_used c.args.stop.now c.requires.still c.requires.one_table, here x, looks x)
