use Rattle.mk_laws.proofs.Vocabulary.{Step, ap, subst, sym, [], ◌∙◌, ◌∷◌, ◌≡◌}
use Rattle.atomic_table.specs.Table.{rest}
use Rattle.mk_words.proofs.{HandingCalls.{give_makes, give_order, order_of_view, still_state, took}, Owed.same_id}
use Rattle.mk_words.{proofs.handing.TurnToken.give.Goals.{After-exchange-empty}, specs.Steps.{Makes}}
use Rattle.mk_words.specs.{Rule.{IsInOrder, state_of, Mine}, PageMaps.IsMapOf, States.{PassState, now_of}}
use Rattle.mk_words.proofs.handing.TurnToken.give.Goals as goal

pub exchange-empty-requires : goal.exchange-empty-requires
exchange-empty-requires c =
    let p = c.self.inside in
    let w = c.words.inside in
    let slot = c.self.invariant.slots in (
      same_id p.token.me p.seat c.words.view_is c.self.view_is c.requires.one_table,
      (slot.0, took p.token.me.1 [] slot.0 slot.1),
    )

-- After the exchange the token is in order, its pass is as before, and its slot has the map.

order_then : (c : After-exchange-empty) → IsInOrder c.exchange-empty.new.seat.me c.self.inside.seat
order_then c =
    order_of_view c.self.inside.token.me c.exchange-empty.new.seat.me c.self.inside.seat
    (ap (λ (m : Mine). m.0) c.exchange-empty.ensures.3) c.self.invariant.order

same_pass : (c : After-exchange-empty)
    → state_of c.exchange-empty.new.seat.table_id c.exchange-empty.new.seat.me c.self.inside.seat ≡ c.args.self
same_pass c =
    still_state c.self.inside.token.table_id c.exchange-empty.new.seat.table_id c.self.inside.token.me
    c.exchange-empty.new.seat.me c.self.inside.seat c.args.self c.exchange-empty.ensures.0
    (ap (λ (m : Mine). m.0) c.exchange-empty.ensures.3) c.self.view_is

slot_then : (c : After-exchange-empty) → c.exchange-empty.new.seat.me.1 ≡ (0, c.args.map.value) ∷ []
slot_then c = cc (c.exchange-empty.ensures.3, c.self.invariant.slots.1)

pub give_as-requires-clause-slot : goal.give_as-requires-clause-slot
give_as-requires-clause-slot c = (
  c.args.map.value,
  slot_then (goal.at.give_as-requires-clause-slot c).After-exchange-empty,
  subst (λ (r : PassState). IsMapOf c.args.map.value (now_of r).words) (sym (same_pass
      (goal.at.give_as-requires-clause-slot c).After-exchange-empty)) c.requires.map,
)

pub invariant_of-result : goal.invariant_of-result
invariant_of-result c =
    let x = c.exchange-empty.new.seat in
    let f = c.give_as in
    record {
      order =
          give_order x.me f.new.token.me c.self.inside.seat (order_then
          (goal.at.invariant_of-result c).After-exchange-empty) f.ensures.told;
      slots = f.ensures.told.0 ∙ ap rest (slot_then (goal.at.invariant_of-result c).After-exchange-empty);
    }

pub returns : goal.returns
returns c =
    let x = c.exchange-empty.new.seat in
    let f = c.give_as in
    subst (λ (r : PassState). Makes r Step.Give (state_of f.new.token.table_id f.new.token.me c.self.inside.seat))
    (same_pass (goal.at.returns c).After-exchange-empty) (give_makes x.table_id f.new.token.table_id x.me f.new.token.me
    c.self.inside.seat f.ensures.table (order_then (goal.at.returns c).After-exchange-empty) f.ensures.told)
