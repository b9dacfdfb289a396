use Rattle.mk_words.proofs.Below.Laws.Vocabulary.{Words, arith, slice_index, subst, sym, ◌≡◌}
use Rattle.mk_cycle.proofs.Clearing.{cleaner_nothing, cleaner_then, no_bit_of_either, no_mark_found, range_then}
use Rattle.mk_cycle.proofs.{Clearing.unmarked_kept, StopSteps.{on_from, on_then}}
use Rattle.mk_cycle.proofs.dirty.clean_range.Goals as goal
use Rattle.mk_cycle.specs.{Grays.{IsCleaner, IsUnmarked}, Stops.still_words}

pub loop-page-init : goal.loop-page-init
loop-page-init c = record {
  on = on_from c.requires.may.wanted;
  fewer = cleaner_nothing (still_words c.args.stop.now.pass);
  clean = λ p low high. absurd (omega arith);
  unmarked = λ none p low high. absurd (omega arith);
}

pub loop-page-preserved : goal.loop-page-preserved
loop-page-preserved c =
    let i = c.loop-page.invariant in
    let page = c.loop-page.page in
    let look = c.look_at-marks.ensures in
    let w = still_words c.loop-page.stop.pass in
    let v = still_words c.look_at-marks.new.stop.pass in
    let cleaner = subst (λ (y : Words). IsCleaner w y) (sym look.looks.words) c.clean_if_dirty.ensures.fewer in
    let clean = subst (λ (y : Words). slice_index y.dirty page ≡ 0) (sym look.looks.words)
    c.clean_if_dirty.ensures.clean in
    record {
      on = on_then (on_then i.on c.clean_if_dirty.ensures.on) look.looks.on;
      fewer = cleaner_then i.fewer cleaner;
      clean = range_then (λ p. slice_index w.dirty p ≡ 0) (λ p. slice_index v.dirty p ≡ 0) c.args.from page
          cleaner.fewer i.clean clean;
      unmarked = λ none.
          let each = no_bit_of_either c.loop-page.marks c.look_at-marks.result none in
          range_then (IsUnmarked w) (IsUnmarked v) c.args.from page (λ p. unmarked_kept p cleaner)
          (i.unmarked each.0) (no_mark_found page look.looks.words look.found each.1);
    }

pub returns-clause-clean : goal.returns-clause-clean
returns-clause-clean c p low high =
    let end = c.loop-page-test.false in c.loop-page.invariant.clean p low (omega arith)

pub returns-clause-unmarked : goal.returns-clause-unmarked
returns-clause-unmarked c none p low high =
    let end = c.loop-page-test.false in c.loop-page.invariant.unmarked none p low (omega arith)
