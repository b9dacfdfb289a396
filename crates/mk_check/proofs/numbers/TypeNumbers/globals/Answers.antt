use Rattle.mk_check.proofs.{Vocabulary.{ap, arith, global_names, length, type_names}, NumberLemmas.room_left}
use Rattle.mk_check.proofs.numbers.TypeNumbers.globals.Goals as goal

pub add-requires : goal.add-requires
add-requires c =
    let items = c.self.inside.program.now in
    let room = room_left (type_names c.args.self.now) c.loop-item.globals items c.loop-item.item-index
    c.item-item.result c.loop-item-test.true c.item-item.is c.in-Global.is c.loop-item.invariant in
    omega (arith, room, ap (λ xs. length (global_names xs)) c.self.view_is)
