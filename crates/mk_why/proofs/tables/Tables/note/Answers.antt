use Rattle.std.proofs.Common.{count_by}
use Rattle.mk_sweep.proofs.Below.Laws.Vocabulary.{List, Option, ap, arith, false, is_some, sym, ◌+◌, ◌∙◌, ◌≡◌}
use Rattle.mk_why.proofs.{Counts.{more_counted, room_left}, LazyTables.read_with, Vocabulary.{Found, entry_at}}
use Rattle.mk_why.proofs.tables.Tables.note.Goals.{Else-is_some}
use Rattle.mk_why.proofs.tables.Tables.note.Goals as goal

-- It wasn't found before.
new : (c : Else-is_some) → is_some (entry_at c.args.self.now.found.items c.args.base) ≡ false
new c =
    let r = c.args.self.now in
    ap is_some (read_with r.found.items c.args.base r.none_found c.get.ensures) ∙ sym c.is_some.ensures
    ∙ c.if-is_some.false

pub set-requires-2 : goal.set-requires-2
set-requires-2 c =
    let room = room_left c.args.self.now.found.items c.args.base c.args.found c.requires
    (new (goal.at.set-requires-2 c).Else-is_some) in
    let full = c.args.self.now.full in
    let queues = c.args.self.now.queues in
    omega arith

pub overflow_add-self : goal.overflow_add-self
overflow_add-self c =
    let room = room_left c.args.self.now.found.items c.args.base c.args.found c.requires
    (new (goal.at.overflow_add-self c).Else-is_some) in
    let full = c.args.self.now.full in
    let small = c.args.self.now.small in
    omega arith

pub invariant_of-self-clause-full : goal.invariant_of-self-clause-full
invariant_of-self-clause-full c =
    let r = c.args.self.now in
    ap (λ (xs : List (Option Found)). count_by is_some xs) c.set.ensures.items
    ∙ more_counted r.found.items c.args.base c.args.found c.requires
    (new (goal.at.invariant_of-self-clause-full c).Else-is_some) ∙ ap (λ n. n + 1) r.full
