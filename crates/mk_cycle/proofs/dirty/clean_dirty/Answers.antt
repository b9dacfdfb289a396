use Rattle.mk_words.proofs.Below.Laws.Vocabulary.{arith, eqb-true, slice_index, subst, ℕ, ◌+◌, ◌≡◌}
use Rattle.mk_core.specs.Below.Books.KnownPages.{IsNext, is_free}
use Rattle.mk_words.specs.States.{now_of}
use Rattle.mk_cycle.proofs.Clearing.{no_bit_of_either, range_past, unmarked_kept}
use Rattle.mk_cycle.proofs.dirty.clean_dirty.Goals.{After-unwrap_or-end}
use Rattle.mk_cycle.proofs.dirty.clean_dirty.Goals as goal
use Rattle.mk_cycle.proofs.{FreePages.{clean_past, unmarked_past}, RangeEnds.{IsRangeEnd, range_ends}}
use Rattle.mk_cycle.proofs.{StopSteps.{on_from, on_then}}
use Rattle.mk_cycle.specs.{Grays.IsUnmarked, Stops.still_words}

-- where the range ends that begins with the next page in use
ends : (c : After-unwrap_or-end) → IsRangeEnd (c.in-Some.page + 1) c.args.table.pages c.unwrap_or-end.result
ends c =
    let pages : c.loop-page.stop.pass.table.config.pages ≡ c.args.table.pages = grind arith in
    let next = c.in-Some.ensures.1 in
    range_ends _ (c.in-Some.page + 1) c.args.table.pages c.unwrap_or-end.result c.next_free.result (omega arith)
    (subst (λ (n : ℕ). IsNext (is_free (now_of c.loop-page.stop.pass).words.pages) (c.in-Some.page + 1) n
    c.next_free.result) pages c.next_free.ensures) c.unwrap_or-end.ensures

pub loop-page-init : goal.loop-page-init
loop-page-init c = record {
  on = on_from c.requires.may.wanted;
  clean = λ p lt. absurd (omega arith);
  unmarked = λ none p lt. absurd (omega arith);
}

pub clean_range-marks-requires-clause-within : goal.clean_range-marks-requires-clause-within
clean_range-marks-requires-clause-within c =
    (ends (goal.at.clean_range-marks-requires-clause-within c).After-unwrap_or-end).within

pub loop-page-preserved : goal.loop-page-preserved
loop-page-preserved c =
    let t = c.loop-page.stop in
    let i = c.loop-page.invariant in
    let page = c.in-Some.page in
    let x = c.clean_range-marks.ensures in
    let w = still_words t.pass in
    let v = still_words c.clean_range-marks.new.stop.pass in
    let end = c.unwrap_or-end.result in
    record {
      on = on_then i.on x.on;
      clean = range_past (λ p. slice_index w.dirty p ≡ 0) (λ p. slice_index v.dirty p ≡ 0) page end x.fewer.fewer
          (clean_past t c.loop-page.from page i.clean c.in-Some.ensures.3) x.clean;
      unmarked = λ none.
          let each = no_bit_of_either c.loop-page.marks c.clean_range-marks.result none in
          range_past (IsUnmarked w) (IsUnmarked v) page end (λ p. unmarked_kept p x.fewer)
          (unmarked_past t c.loop-page.from page (i.unmarked each.0) c.in-Some.ensures.3) (x.unmarked each.1);
    }

pub loop-page-smaller : goal.loop-page-smaller
loop-page-smaller c =
    let end = ends (goal.at.loop-page-smaller c).After-unwrap_or-end in
    let next = c.in-Some.ensures in
    omega (arith, end.begun, end.within, next.0)

pub returns-clause-clean : goal.returns-clause-clean
returns-clause-clean c =
    let t = c.loop-page.stop in
    let pages : t.pass.table.config.pages ≡ c.args.table.pages = grind arith in
    clean_past t c.loop-page.from c.args.table.pages
    c.loop-page.invariant.clean (λ n low high. c.in_default.ensures n low (omega (arith, high, pages)))

pub returns-clause-unmarked : goal.returns-clause-unmarked
returns-clause-unmarked c is =
    let t = c.loop-page.stop in
    let pages : t.pass.table.config.pages ≡ c.args.table.pages = grind arith in
    unmarked_past t c.loop-page.from c.args.table.pages (c.loop-page.invariant.unmarked (eqb-true _ 0 is))
    (λ n low high. c.in_default.ensures n low (omega (arith, high, pages)))
