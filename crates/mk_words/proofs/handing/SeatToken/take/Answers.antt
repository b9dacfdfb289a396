use Rattle.mk_laws.proofs.Vocabulary.{List, Step, ℕ, ap, arith, subst, sym, ◌<◌, ◌∙◌, ◌∷◌, ◌≡◌}
use Rattle.mk_core.specs.Below.Books.KnownPages.{KnownPages}
use Rattle.atomic_table.specs.Table.{rest}
use Rattle.mk_words.proofs.HandingCalls.{order_of_view, take_access, take_order, take_tells, taken_learns, took}
use Rattle.mk_words.proofs.{MapSteps.page_known, Owed.same_id, handing.SeatToken.take.Goals.After-exchange-home}
use Rattle.mk_words.specs.States.{PassState, WordsState, now_of}
use Rattle.mk_words.specs.{PageMaps.{IsMapOf, no_map}, Rule.{state_of, Mine}, Steps.Tells}
use Rattle.mk_words.proofs.handing.SeatToken.take.Goals as goal

pub take_as-found-requires-clause-one_table : goal.take_as-found-requires-clause-one_table
take_as-found-requires-clause-one_table c = grind arith

pub take_as-found-requires-clause-may : goal.take_as-found-requires-clause-may
take_as-found-requires-clause-may c = grind arith

pub take_as-found-requires-clause-access : goal.take_as-found-requires-clause-access
take_as-found-requires-clause-access c = grind (arith, take_access)

pub exchange-home-requires : goal.exchange-home-requires
exchange-home-requires c = grind (arith, same_id, took)

-- what a token learns that has taken the map out of the slot
learns : (c : After-exchange-home) → Tells c.args.self (Step.Take c.args.op) 0 (state_of
    c.exchange-home.new.seat.table_id c.exchange-home.new.seat.me c.self.inside.seat) × IsMapOf c.exchange-home.result
    (now_of (state_of c.exchange-home.new.seat.table_id c.exchange-home.new.seat.me c.self.inside.seat)).words
learns c =
    let p = c.self.inside in
    let f = c.take_as-found in
    let x = c.exchange-home in
    taken_learns p.token.table_id f.new.token.table_id x.new.seat.table_id p.token.me f.new.token.me x.new.seat.me
    p.seat c.args.op c.turn_word-number.result f.result x.result c.args.self c.self.view_is f.ensures.table x.ensures.0
    (take_access p.token.table_id p.token.me p.seat c.args.op c.turn_word-number.result c.args.self c.self.view_is
    c.turn_word-number.ensures) c.self.invariant.order f.ensures.told c.if-found-eq0.true
    (ap (λ (m : Mine). m.0) x.ensures.3) x.ensures.2

pub invariant_of-taken : goal.invariant_of-taken
invariant_of-taken c =
    let p = c.self.inside in
    let f = c.take_as-found in
    let h = f.ensures.told.1 c.if-found-eq0.true in
    let x = c.exchange-home.ensures in
    record {
      order = order_of_view f.new.token.me c.exchange-home.new.seat.me p.seat (ap (λ (m : Mine). m.0) x.3)
          (take_order p.token.me f.new.token.me p.seat c.args.op f.result c.self.invariant.order f.ensures.told);
      slots = (
        no_map,
        ap (λ (m : Mine). m.1) x.3 ∙ ap (λ (l : List (ℕ × KnownPages)). (0, no_map) ∷ l)
            (ap rest h.1 ∙ c.self.invariant.slots),
      );
    }

pub into_map-requires : goal.into_map-requires
into_map-requires c =
    let x = c.exchange-home in
    let q = state_of x.new.seat.table_id x.new.seat.me c.self.inside.seat in
    let l = learns (goal.at.into_map-requires c).After-exchange-home in
    let same : q.table ≡ c.args.words.now = ap (λ (r : PassState). r.table) l.0.makes.is ∙ c.requires.one_table in
    let some = c.is_within_limits.ensures.pages.0 in
    page_known q 0 x.result (subst (λ (w : WordsState). 0 < w.config.pages) (sym same) (omega (arith, some))) l.1

pub returns-then-found-eq0-clause-taken : goal.returns-then-found-eq0-clause-taken
returns-then-found-eq0-clause-taken c = grind (arith, learns)

pub returns-then-found-eq0-clause-map : goal.returns-then-found-eq0-clause-map
returns-then-found-eq0-clause-map c = grind (arith, learns)

pub invariant_of-back : goal.invariant_of-back
invariant_of-back c =
    let p = c.self.inside in
    let f = c.take_as-found in
    record {
      order = take_order p.token.me f.new.token.me p.seat c.args.op f.result c.self.invariant.order f.ensures.told;
      slots = f.ensures.told.2 c.if-found-eq0.false ∙ c.self.invariant.slots;
    }

pub returns-else-found-eq0-clause-missed : goal.returns-else-found-eq0-clause-missed
returns-else-found-eq0-clause-missed c =
    let p = c.self.inside in
    let f = c.take_as-found in
    subst (λ (r : PassState). Tells r (Step.Take c.args.op) f.result
    (state_of f.new.token.table_id f.new.token.me p.seat)) c.self.view_is (take_tells p.token.table_id
    f.new.token.table_id p.token.me f.new.token.me p.seat c.args.op c.turn_word-number.result f.result f.ensures.table
    (take_access p.token.table_id p.token.me p.seat c.args.op c.turn_word-number.result c.args.self c.self.view_is
    c.turn_word-number.ensures) c.self.invariant.order f.ensures.told)
