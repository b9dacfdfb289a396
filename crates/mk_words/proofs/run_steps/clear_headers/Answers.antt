use Rattle.mk_laws.proofs.Vocabulary.{arith, subst, suc, ℕ, ◌+◌, ◌∙◌, ◌≡◌}
use Rattle.mk_words.proofs.run_steps.clear_headers.Goals as goal
use Rattle.mk_words.proofs.StoredHeads.{heads_keep_table, heads_keep_turn}
use Rattle.mk_words.specs.TurnSteps.{StoresHeads}

pub store_header-requires-clause-one_table : goal.store_header-requires-clause-one_table
store_header-requires-clause-one_table c = heads_keep_table c.args.pass.now c.args.first c.loop-distance.distance
    (λ _. 0) c.loop-distance.pass c.loop-distance.invariant.stores ∙ c.requires.one_table

pub store_header-requires-clause-turn : goal.store_header-requires-clause-turn
store_header-requires-clause-turn c = heads_keep_turn c.args.pass.now c.args.first c.loop-distance.distance (λ _. 0)
    c.loop-distance.pass c.loop-distance.invariant.stores c.requires.turn

pub store_header-requires-clause-enabled : goal.store_header-requires-clause-enabled
store_header-requires-clause-enabled c = c.requires.may c.loop-distance.distance c.loop-distance.pass
    (omega (arith, c.loop-distance-test.true)) c.loop-distance.invariant.stores

next : (n : ℕ) → suc n ≡ n + 1
next n = omega arith

pub loop-distance-preserved : goal.loop-distance-preserved
loop-distance-preserved c = record {
  stores = subst (λ (n : ℕ). StoresHeads c.args.pass.now c.args.first n (λ _. 0) c.store_header.new.pass)
      (next c.loop-distance.distance)
      (c.loop-distance.pass, c.loop-distance.invariant.stores, c.store_header.ensures);
}
