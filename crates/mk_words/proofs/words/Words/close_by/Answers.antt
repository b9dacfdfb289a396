use Rattle.std.specs.Mem.Slots.{slots_items}
use Rattle.mk_laws.proofs.Vocabulary.{Config, ap, subst, sym, ◌∙◌}
use Rattle.mk_words.proofs.{Closing.tallies_told, Owed.{close_call, copy_call, same_id}}
use Rattle.mk_words.specs.States.{PassState, WordsState}
use Rattle.mk_words.specs.{Rule.{state_of, Mine}, States.HasAll, declared.rule.View.View}
use Rattle.mk_words.proofs.words.Words.close_by.Goals as goal

pub split_seat-memory-requires : goal.split_seat-memory-requires
split_seat-memory-requires c =
    let w = c.words.inside in
    let p = c.own.inside in
    let id = same_id p.token.me p.seat c.words.view_is c.own.view_is c.requires.one_table in
    let t = copy_call w.config w.table.shared.key w.table.shared.table_id.words p.token.id p.token.me
    c.words.invariant.key c.words.invariant.words in
    (id, t.0, t.1)

pub returns-clause-tallies : goal.returns-clause-tallies
returns-clause-tallies c =
    let w = c.words.inside in
    let p = c.own.inside in
    let token = c.split_seat-memory.new.seat in
    let r = c.close_with-closed.result in
    let mine = ap (λ (m : Mine). m.0) c.split_seat-memory.ensures.2 in
    let view = ap (λ (v : View). state_of p.token.table_id (v, p.token.me.1) p.seat) mine ∙ c.own.view_is in
    let same = ap (λ (x : WordsState). x.config) c.words.view_is in
    let home = subst (λ (d : Config). HasAll d token.me.0.own.seats) (sym same)
    (subst (λ (q : PassState). HasAll c.args.words.config q.seats) (sym view) c.requires.home) in
    let ended = close_call w.config w.table.shared.key token.id token.me (slots_items r.words)
    (slots_items r.slots) c.words.invariant.key home c.close_with-closed.ensures.values.2 in
    tallies_told (ap (λ (x : WordsState). x.config) c.requires.one_table ∙ sym same) (sym same)
    (ap (λ (q : PassState). q.seen) (sym view)) ended.words (record {
      held = c.last_word.ensures;
      fresh = c.last_word-2.ensures;
      quarantined = c.freed_bits.ensures;
      cycles = c.last_word-3.ensures;
      released = c.last_word-4.ensures;
      full = c.last_word-5.ensures;
    })
