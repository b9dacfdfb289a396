-- The whole of a Free: its register is loaded, its cell found, and the quarantine word of that looked at.
use Rattle.mk_caller.proofs.Below.Laws.Vocabulary.{Cell, ℕ, arith, eq-eqb, false, is_freed, ne_eqb, sym, ◌∙◌, ◌≡◌}
use Rattle.mk_alloc.proofs.{ObjectVocabulary.{MayFree, now_of}, JoinedLooks.{reached_table, reached_world}}
use Rattle.mk_alloc.proofs.Retirements.{IsFound, comes_seeing, finds_freed, found_so, free, freed_by_word}
use Rattle.mk_alloc.proofs.Retirements.{is_never_freed, loaded_then, may_free, none_held_there, object_found, retires}
use Rattle.mk_alloc.proofs.Retirements.{retires_null}
use Rattle.mk_alloc.proofs.retirement.retire_object.Goals as goal
use Rattle.mk_alloc.proofs.retirement.retire_object.Goals.{After-find_cell-target, After-is_freed}

pub returns-then-value-eq0-clause-freed : goal.returns-then-value-eq0-clause-freed
returns-then-value-eq0-clause-freed g c =
    let none = eq-eqb c.load_freed-value.result 0 c.if-value-eq0.true in
    retires_null c.requires.unloaded c.load_freed-value.ensures.loaded none (c.load_freed-value.ensures.null none)
    c.requires.nothing_done c.requires.gates c.requires.exact c.args.turn.now.in_order
    c.load_freed-value.new.turn.in_order

pub find_cell-target-requires-clause-loaded : goal.find_cell-target-requires-clause-loaded
find_cell-target-requires-clause-loaded g c =
    let some = ne_eqb c.load_freed-value.result 0 c.if-value-eq0.false in
    loaded_then c.requires.unloaded c.load_freed-value.ensures.loaded some (c.load_freed-value.ensures.keeps some)

-- what the register points into
found : (g : _) (c : After-find_cell-target g) → IsFound c.args.turn.now.pass c.find_cell-target.new.turn.pass c.args.p
    c.load_freed-value.result c.find_cell-target.result.cell
found g c =
    let u : ℕ = c.load_freed-value.result in
    let some = ne_eqb u 0 c.if-value-eq0.false in
    found_so c.find_cell-target.result.cell c.load_freed-value.ensures.loaded some
    (c.load_freed-value.ensures.keeps some) c.find_cell-target.ensures.looks
    (c.find_cell-target.ensures.keeps c.args.p c.requires.unloaded.small)
    c.find_cell-target.ensures.cell c.find_cell-target.ensures.within c.find_cell-target.ensures.index

pub look_at_quarantine-quar-requires-clause-loaded : goal.look_at_quarantine-quar-requires-clause-loaded
look_at_quarantine-quar-requires-clause-loaded g c =
    let found = found g (goal.at.look_at_quarantine-quar-requires-clause-loaded g c).After-find_cell-target in
    record {
      register = c.args.p;
      value = c.load_freed-value.result;
      free = free c.requires.unloaded found;
      some = found.some;
    }

-- and whether that is freed
by_word : (g : _) (c : After-is_freed g)
    → is_freed (now_of c.find_cell-target.new.turn.pass).words c.find_cell-target.result.cell ≡ c.is_freed.result
by_word g c =
    sym (freed_by_word c.find_cell-target.result.cell c.find_cell-target.new.turn.in_order
    c.look_at_quarantine-quar.ensures.finds) ∙ sym c.is_freed.ensures

pub returns-then-is_freed-clause-double : goal.returns-then-is_freed-clause-double
returns-then-is_freed-clause-double g c =
    let x = goal.at.returns-then-is_freed-clause-double g c in
    let there = c.find_cell-target.new.turn.in_order in
    let found = found g x.After-find_cell-target in
    let bit = by_word g x.After-is_freed ∙ c.if-is_freed.true in
    finds_freed c.load_freed-value.result c.find_cell-target.result.cell c.requires.unloaded found.come
    c.look_at_quarantine-quar.ensures.seen bit c.requires.nothing_done c.requires.gates c.requires.exact
    (is_never_freed found.come c.args.turn.now.in_order there (object_found c.requires.unloaded found there)
    found.keeps c.requires.phase bit)

-- It isn't.
may : (g : _) (c : After-is_freed g)
    → IsFound c.args.turn.now.pass c.find_cell-target.new.turn.pass c.args.p c.load_freed-value.result
    c.find_cell-target.result.cell
    → is_freed (now_of c.find_cell-target.new.turn.pass).words c.find_cell-target.result.cell ≡ false
    → MayFree c.look_at_quarantine-quar.new.turn.pass c.args.p c.load_freed-value.result c.find_cell-target.result.cell
may g c found bit =
    may_free c.requires.unloaded found c.look_at_quarantine-quar.ensures.seen (c.look_at_quarantine-quar.ensures.keeps
    bit c.args.p c.requires.unloaded.small) bit c.requires.phase c.requires.nothing_done c.requires.exact

pub free_found-due-requires-clause-free : goal.free_found-due-requires-clause-free
free_found-due-requires-clause-free g c =
    let x = goal.at.free_found-due-requires-clause-free g c in
    record {
      one_table = grind (arith, reached_table);
      register = c.args.p;
      value = c.load_freed-value.result;
      may = may g x.After-is_freed (found g x.After-find_cell-target)
          (by_word g x.After-is_freed ∙ c.if-is_freed.false);
      found = grind (arith, reached_world);
    }

pub free_found-due-requires-clause-gates : goal.free_found-due-requires-clause-gates
free_found-due-requires-clause-gates g c =
    let x = goal.at.free_found-due-requires-clause-gates g c in
    none_held_there (comes_seeing c.find_cell-target.result.cell (found g x.After-find_cell-target).come
    c.look_at_quarantine-quar.ensures.seen (by_word g x.After-is_freed ∙ c.if-is_freed.false)) c.requires.gates

pub returns-clause-freed : goal.returns-clause-freed
returns-clause-freed g c =
    let x = goal.at.returns-clause-freed g c in
    let cell : Cell = c.find_cell-target.result.cell in
    let found = found g x.After-find_cell-target in
    let bit = by_word g x.After-is_freed ∙ c.if-is_freed.false in
    retires c.requires.unloaded (comes_seeing cell found.come c.look_at_quarantine-quar.ensures.seen bit)
    (may g x.After-is_freed found bit) (c.look_at_quarantine-quar.ensures.keeps bit c.args.p c.requires.unloaded.small
    ∙ found.keeps) c.requires.phase c.free_found-due.ensures c.args.turn.now.in_order
    c.look_at_quarantine-quar.new.turn.in_order
