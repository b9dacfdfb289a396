use Rattle.mk_laws.proofs.Vocabulary.{Seat, ap, false, subst, sym, true, ◌∙◌, ◌≡◌}
use Rattle.mk_words.proofs.Owed.{kept_by_split, made_by_split, same_config, same_id, split_call}
use Rattle.mk_words.specs.{Rule.Mine, States.{Has, has_over, is_caller, PassState}}
use Rattle.mk_words.proofs.words.Words.split_as.Goals as goal

pub split_seat-requires : goal.split_seat-requires
split_seat-requires g c =
    let w = c.words.inside in
    let p = c.own.inside in
    let mine = ap (λ (r : PassState). r.seat) c.own.view_is ∙ c.requires.host in
    let id = same_id p.token.me p.seat c.words.view_is c.own.view_is c.requires.one_table in
    let same = same_config p.token.me p.seat c.words.view_is c.own.view_is c.requires.one_table in
    let t = split_call w.config w.table.shared.key w.table.shared.table_id.words p.token.id p.token.me p.seat
    c.args.seat g.J.Handing.seat c.own.invariant.order same c.words.invariant.key
    c.words.invariant.words c.requires.picked
    (subst (λ (r : PassState). Has r.seats c.args.seat) (sym c.own.view_is) c.requires.here)
    (subst (λ (s : Seat). Has p.token.me.0.own.seats s) mine c.own.invariant.order.own) c.requires.another
    (subst (λ (r : PassState). is_caller c.args.seat ≡ true
    → has_over r.seen ≡ false) (sym c.own.view_is) c.requires.before_over) in
    (id, t.0, t.1)

pub invariant_of-own : goal.invariant_of-own
invariant_of-own g c =
    let p = c.own.inside in
    let n = c.split_seat.new.seat.me in
    let mine = ap (λ (r : PassState). r.seat) c.own.view_is ∙ c.requires.host in
    record {
      slots = ap (λ (m : Mine). m.1) c.split_seat.ensures.2 ∙ c.own.invariant.slots;
      order = kept_by_split p.token.me n p.seat c.args.seat g.J.Handing.seat c.own.invariant.order c.requires.picked
          (rw mine c.requires.another) c.requires.another c.split_seat.ensures.2;
    }

pub invariant_of-result : goal.invariant_of-result
invariant_of-result g c =
    let p = c.own.inside in
    let n = c.split_seat.result.me in
    record {
      slots = ap (λ (m : Mine). m.1) c.split_seat.ensures.4;
      order = made_by_split p.token.me n p.seat c.args.seat g.J.Handing.seat c.own.invariant.order c.requires.picked
          (subst (λ (r : PassState). is_caller c.args.seat ≡ true
          → has_over r.seen ≡ false) (sym c.own.view_is) c.requires.before_over) c.split_seat.ensures.4;
    }
