use Rattle.mk_laws.proofs.Vocabulary.{sym}
use Rattle.mk_core.specs.Below.Books.KnownPages.{run_word}
use Rattle.mk_words.proofs.{MapSteps.map_that, RunMaps.{run_goes_on, run_within}, StoredHeads.heads_keep_turn}
use Rattle.mk_words.proofs.turns.TurnAt.make_run.Goals as goal

pub run_made-requires-clause-within : goal.run_made-requires-clause-within
run_made-requires-clause-within g c =
    run_within c.args.first c.args.count c.requires.within (rw (sym c.self.view_is) at c.requires.one_table)
    (map_that c.deref_mut.ensures.value c.self.invariant)

pub invariant_of-self-inside : goal.invariant_of-self-inside
invariant_of-self-inside g c = (
  heads_keep_turn c.self.inside.pass c.args.first c.args.count (run_word c.args.head c.args.next)
      c.store_headers.new.pass c.store_headers.ensures c.self.inside.in_order,
  tt,
)

pub invariant_of-self : goal.invariant_of-self
invariant_of-self g c =
    run_goes_on c.args.first c.args.count (run_word c.args.head c.args.next) c.requires.within
    (rw (sym c.self.view_is) at c.requires.one_table) c.store_headers.ensures
    (map_that c.deref_mut.ensures.value c.self.invariant) c.run_made.ensures
