use Rattle.mk_laws.proofs.Vocabulary.{refl}
use Rattle.mk_words.proofs.{HandingCalls.give_call, Owed.same_id}
use Rattle.mk_words.proofs.handing.give_as.Goals as goal

pub store-requires : goal.store-requires
store-requires g c =
    let w = c.words.inside in
    let t = c.args.token.now in
    let r = c.requires in
    let k = give_call c.args.words.now w.table.shared.table_id t.table_id w.config w.table.shared.key t.me c.args.seat
    c.words.view_is r.one_table w.table.shared.table_id.words w.table.shared.table_id.slots t.id
    c.index_of-index.result r.slot.0 g.J.Making.event r.order c.words.invariant.key c.words.invariant.words
    c.words.invariant.slots r.picked r.may r.holds r.slot.1 r.slot.2 c.index_of-index.ensures in (
      same_id t.me c.args.seat c.words.view_is refl r.one_table,
      k.0,
      k.1,
    )
