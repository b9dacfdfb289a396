use Rattle.mk_words.proofs.Below.Laws.Vocabulary.{ℕ, arith, subst, ◌*◌, ◌+◌}
use Rattle.mk_cycle.proofs.{Vocabulary.IsZero, GivingSteps.{none_at_once, none_then}}
use Rattle.mk_cycle.proofs.WipedPairs.{pair_more, unmapped_still}
use Rattle.mk_cycle.proofs.wiping.wipe_over_pages.Goals as goal

pub loop-i-init : goal.loop-i-init
loop-i-init c = record { frees = none_at_once c.args.turn.now.pass; zeros = λ k lt. absurd (omega arith) }

pub wipe_two-requires-clause-first : goal.wipe_two-requires-clause-first
wipe_two-requires-clause-first c =
    unmapped_still (2 * c.args.first) c.args.pairs c.loop-i.invariant.frees c.requires.unmapped (2 * c.loop-i.i) _
    (omega (arith, c.loop-i-test.true)) (omega arith)

pub wipe_two-requires-clause-second : goal.wipe_two-requires-clause-second
wipe_two-requires-clause-second c =
    unmapped_still (2 * c.args.first) c.args.pairs c.loop-i.invariant.frees c.requires.unmapped (2 * c.loop-i.i + 1) _
    (omega (arith, c.loop-i-test.true)) (omega arith)

pub loop-i-preserved : goal.loop-i-preserved
loop-i-preserved c =
    let before = c.loop-i.invariant in
    let now = c.wipe_two.ensures in
    record {
      frees = none_then before.frees now.frees;
      zeros = pair_more (2 * c.args.first) c.args.pairs c.loop-i.i before.frees now.frees c.requires.unmapped
          c.loop-i-test.true before.zeros
          (subst (λ (n : ℕ). IsZero c.wipe_two.new.turn.pass n) (omega arith) now.first)
          (subst (λ (n : ℕ). IsZero c.wipe_two.new.turn.pass n) (omega arith) now.second);
    }
