use Rattle.mk_sweep.proofs.{Vocabulary.{has_bit, still_words}, Blacks.{blacks_same, blacks_then, cells_then}}
use Rattle.mk_sweep.proofs.{Blacks.{closed_kept, may_turn}, SweepSteps.{quiet_then, sweeps_from}}
use Rattle.mk_cycle.proofs.Below.Laws.Vocabulary.{arith, slice_index, true, ◌∙◌, ◌≡◌}
use Rattle.mk_sweep.proofs.blackening.blacken_cells.Goals as goal

pub loop-index-init : goal.loop-index-init
loop-index-init c = grind (arith, sweeps_from, blacks_same)

pub blacken_if_marked-requires-clause-turns : goal.blacken_if_marked-requires-clause-turns
blacken_if_marked-requires-clause-turns c marked = grind (arith, may_turn, closed_kept)

pub loop-index-preserved : goal.loop-index-preserved
loop-index-preserved c =
    let v = still_words c.loop-index.stop.pass in
    let x = still_words c.blacken_if_marked.new.stop.pass in
    record {
      on = quiet_then c.loop-index.invariant.on c.blacken_if_marked.ensures.on;
      more = blacks_then c.loop-index.invariant.more c.blacken_if_marked.ensures.more;
      black = cells_then (λ k. has_bit c.args.marks k ≡ true → has_bit (slice_index v.blacks c.args.page) k ≡ true)
          (λ k. has_bit c.args.marks k ≡ true → has_bit (slice_index x.blacks c.args.page) k ≡ true)
          c.loop-index.index (λ k was h. c.blacken_if_marked.ensures.more.grow c.args.page k (was h))
          c.loop-index.invariant.black (λ h. c.blacken_if_marked.ensures.black (c.has_bit.ensures ∙ h));
    }

pub returns-clause-black : goal.returns-clause-black
returns-clause-black c k lt marked = grind arith
