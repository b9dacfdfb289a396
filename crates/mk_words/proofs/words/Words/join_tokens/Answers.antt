use Rattle.mk_laws.proofs.Vocabulary.{ap, ◌∙◌}
use Rattle.mk_words.{proofs.Owed.{join_call, joined, same_config, same_id, settle_call}, specs.Rule.{Mine}}
use Rattle.mk_words.proofs.words.Words.join_tokens.Goals as goal

pub join_seat-requires : goal.join_seat-requires
join_seat-requires c =
    let w = c.words.inside in
    let p = c.into.inside in
    let q = c.from.inside in
    let mine = same_id p.token.me p.seat c.words.view_is c.into.view_is c.requires.into in
    let theirs = same_id q.token.me q.seat c.words.view_is c.from.view_is c.requires.from in
    let t = join_call w.config w.table.shared.key w.table.shared.table_id.words p.token.id p.token.me q.token.id
    q.token.me p.seat q.seat c.into.invariant.order c.from.invariant.order c.words.invariant.key
    c.words.invariant.words in
    (mine, theirs, c.from.invariant.slots, t.0, t.1)

pub load-requires : goal.load-requires
load-requires c =
    let w = c.words.inside in
    let p = c.into.inside in
    let mine = same_id p.token.me p.seat c.words.view_is c.into.view_is c.requires.into in
    let same = same_config p.token.me p.seat c.words.view_is c.into.view_is c.requires.into in
    let t = settle_call w.config w.table.shared.key w.table.shared.table_id.words w.table.shared.table_id.slots
    c.join_seat.new.seat.id c.join_seat.new.seat.me
    (ap (λ (m : Mine). m.0.config) c.join_seat.ensures.2 ∙ same) c.words.invariant.key c.words.invariant.words in
    (c.join_seat.ensures.0 ∙ mine, t.0, t.1)

pub invariant_of-into : goal.invariant_of-into
invariant_of-into c =
    let p = c.into.inside in
    let j = joined p.token.table_id p.token.me c.from.inside.token.me c.join_seat.new.seat.me c.load.new.seat.me p.seat
    c.load.result c.into.invariant.order c.join_seat.ensures.2 c.load.ensures.2 in
    record {
      order = j.order;
      slots = c.load.ensures.2.0 ∙ ap (λ (m : Mine). m.1) c.join_seat.ensures.2 ∙ c.into.invariant.slots;
    }
