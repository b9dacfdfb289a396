use Rattle.mk_caller.proofs.Below.Laws.Vocabulary.{IsSized, Object, ap, arith, refl, subst, sym, words_made}
use Rattle.mk_caller.proofs.Below.Laws.Vocabulary.{words_within, ◌∙◌}
use Rattle.mk_alloc.proofs.Takes.{counted, counted_held, few_held, grant_address, grant_admits, grant_may, grant_on}
use Rattle.mk_alloc.proofs.Takes.{grant_register, one_bit_more, served, small_index, tally_may, used_may, used_on}
use Rattle.mk_alloc.proofs.placing.serve.Goals as goal
use Rattle.mk_alloc.proofs.{PlacedNews.serving_sweeps, Serves.{knows_place, place_unused}}

pub overflow_shl-place : goal.overflow_shl-place
overflow_shl-place c = small_index (knows_place c.args.turn.now.in_order c.requires.may.object.goes)

pub used-requires-clause-enabled : goal.used-requires-clause-enabled
used-requires-clause-enabled c = grind (arith, knows_place, place_unused, one_bit_more, small_index, used_may)

pub grant-requires-clause-enabled : goal.grant-requires-clause-enabled
grant-requires-clause-enabled c = grind (arith, knows_place, grant_may, used_on)

pub grant-requires-clause-admitted : goal.grant-requires-clause-admitted
grant-requires-clause-admitted c =
    let k = knows_place c.args.turn.now.in_order c.requires.may.object.goes in
    grant_admits k (used_on k c.make_ready.ensures.ready c.used.ensures) c.used.ensures.makes.pass.history

pub grant-requires-clause-register : goal.grant-requires-clause-register
grant-requires-clause-register c = grind (arith, knows_place, grant_register, used_on)

pub grant-requires-clause-address : goal.grant-requires-clause-address
grant-requires-clause-address c = grind (arith, knows_place, grant_address, used_on)

pub address-requires-clause-page : goal.address-requires-clause-page
address-requires-clause-page c =
    let k = knows_place c.args.turn.now.in_order c.requires.may.object.goes in
    omega (arith, k.within, k.history.within_limits.pages.1)

pub address-requires-clause-index : goal.address-requires-clause-index
address-requires-clause-index c = small_index (knows_place c.args.turn.now.in_order c.requires.may.object.goes)

pub storage-requires : goal.storage-requires
storage-requires c =
    subst (λ (o : Object). IsSized o) (sym c.requires.may.object.shaped)
    (knows_place c.args.turn.now.in_order c.requires.may.object.goes).sized

pub overflow_add-held : goal.overflow_add-held
overflow_add-held c = grind (arith, knows_place, few_held, words_within)

pub tally-requires-clause-enabled : goal.tally-requires-clause-enabled
tally-requires-clause-enabled c =
    let k = knows_place c.args.turn.now.in_order c.requires.may.object.goes in
    tally_may k _ (grant_on k (used_on k c.make_ready.ensures.ready c.used.ensures) c.grant.ensures)

-- the last step, and the tally

pub returns : goal.returns
returns c =
    let k = knows_place c.args.turn.now.in_order c.requires.may.object.goes in
    let reached = served k c.make_ready.ensures.ready c.used.ensures c.grant.ensures c.tally.ensures in
    record {
      granted = counted k reached;
      held = counted_held k (c.requires.held ∙ c.requires.may.exact) (c.storage.ensures ∙ ap (λ (o : Object).
          words_made o) c.requires.may.object.shaped) reached;
      reached = serving_sweeps c.make_ready.ensures.ready c.make_ready.ensures.reached c.used.ensures
          c.grant.ensures c.tally.ensures refl refl refl;
    }
