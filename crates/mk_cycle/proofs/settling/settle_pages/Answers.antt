use Rattle.mk_words.proofs.Below.Laws.Vocabulary.{Page, ℕ, ap, arith, header_in, in_a_word, run_count, ◌+◌, ◌<◌, ◌∙◌}
use Rattle.mk_words.proofs.Below.Laws.Vocabulary.{sym, ◌≡◌}
use Rattle.mk_cycle.proofs.{Vocabulary.{PassState, now_of}, PageByPage.{AreSettledBelow, settled_more, settled_none}}
use Rattle.mk_cycle.proofs.PageByPage.{settled_rest, settled_to}
use Rattle.mk_cycle.proofs.settling.settle_pages.Goals.{After-page-word, In_default}
use Rattle.mk_cycle.proofs.{FreeingSteps.{freed_table, freed_turn}, PageSteps.page_then}
use Rattle.mk_cycle.proofs.SettledPages.{head_before, none_at}
use Rattle.mk_cycle.proofs.settling.settle_pages.Goals as goal

pub loop-page-init : goal.loop-page-init
loop-page-init c = record {
  begun = omega arith;
  settled = settled_none _ _ c.requires.cells c.requires.occupied;
  count = omega arith;
  words = omega arith;
  kept = omega arith;
  few = omega arith;
}

-- up to the next page that may be unsettled
to_next : (c : After-page-word) → AreSettledBelow c.args.turn.now.pass c.loop-page.turn.pass
    c.args.words.now.config.pages c.in-Some.page c.loop-page.end c.loop-page.all c.loop-page.held
to_next c =
    let next = c.in-Some.ensures in
    let i = c.loop-page.invariant in
    let same_pages : c.loop-page.turn.pass.table.config.pages ≡ c.args.words.now.config.pages =
    grind (arith, freed_table) in
    let within = next.1 in
    settled_to _ c.loop-page.turn.in_order c.loop-page.from c.in-Some.page c.loop-page.end _ next.0
    (omega (arith, within, same_pages)) next.3 i.settled

pub free_emptied-from-requires : goal.free_emptied-from-requires
free_emptied-from-requires c =
    let before = to_next (goal.at.free_emptied-from-requires c).After-page-word in
    let gives = c.release_cells-here.ensures.gives in
    let same_pages : c.loop-page.turn.pass.table.config.pages ≡ c.args.words.now.config.pages =
    grind (arith, freed_table) in
    let within = c.in-Some.ensures.1 in
    let h = c.of-header.ensures ∙ ap (λ (y : Page). y.header) c.page-word.ensures in
    record {
      gave = record {
        turn = record {
          is_turn = freed_turn gives.frees.frees (freed_turn before.frees c.requires.turn);
          count = c.pages-pages.ensures;
        };
        within = omega (arith, within, same_pages);
        is_header = h ∙ sym gives.header;
        none_left = gives.none_left;
        none_at_head = none_at _ gives (head_before _ _) before.settled;
      };
    }

pub loop-page-preserved : goal.loop-page-preserved
loop-page-preserved c =
    let i = c.loop-page.invariant in
    let x = c.release_cells-here.ensures in
    let p : PassState = c.args.turn.now.pass in
    let q : PassState = c.loop-page.turn.pass in
    let n : ℕ = c.in-Some.page in
    let pages : ℕ = c.args.words.now.config.pages in
    let before = to_next (goal.at.loop-page-preserved c).After-page-word in
    let after = c.in-Some.ensures.0 in
    let same_pages : q.table.config.pages ≡ pages = grind (arith, freed_table) in
    let within : n < q.table.config.pages = c.in-Some.ensures.1 in
    let known = c.of-header.ensures ∙ ap (λ (y : Page). y.header) c.page-word.ensures in
    let end : c.run_end.result ≡ in_a_word (n + run_count (header_in (now_of q).words n)) = grind arith in
    let furthest = c.max-end.ensures in
    let limits = c.is_within_limits.ensures in
    let emptied = c.free_emptied-from.ensures in
    let past = emptied.begun in
    let run = emptied.frees in
    record {
      begun = emptied.ends;
      settled = settled_rest p run.turn (n + 1) c.free_emptied-from.result
          (omega (arith, past)) run.frees_rest (settled_more p pages (page_then x.gives.frees run.frees_head)
          c.loop-page.turn.in_order c.max-end.result
          (omega (arith, furthest)) (λ s far lt few. omega (arith, end, furthest, far, few, limits))
          c.release_cells-here.result.released c.release_cells-here.result.held before run.settled x.told.released
          x.told.held);
      count = omega (arith, i.count, x.told.few.count, after, past);
      words = omega (arith, i.words, x.told.few.words, after, past);
      kept = omega (arith, i.kept, x.told.few.kept, after, past);
      few = omega (arith, i.few, x.told.part, x.told.few.words, after, past);
    }

same_pages : (c : In_default) → c.loop-page.turn.pass.table.config.pages ≡ c.args.words.now.config.pages
same_pages c = grind (arith, freed_table)

-- and where there is none, up to the end
to_end : (c : In_default) → AreSettledBelow c.args.turn.now.pass c.loop-page.turn.pass c.args.words.now.config.pages
    c.args.words.now.config.pages c.loop-page.end c.loop-page.all c.loop-page.held
to_end c =
    settled_to _ c.loop-page.turn.in_order c.loop-page.from _ c.loop-page.end _
    c.loop-page.invariant.begun (omega arith) (λ r le lt. c.in_default.ensures r le (omega (
      arith,
      lt,
      same_pages c,
    ))) c.loop-page.invariant.settled

pub returns-clause-settled : goal.returns-clause-settled
returns-clause-settled c = (to_end (goal.at.returns-clause-settled c).In_default).settled

pub returns-clause-released : goal.returns-clause-released
returns-clause-released c = (to_end (goal.at.returns-clause-released c).In_default).counted

pub returns-clause-held : goal.returns-clause-held
returns-clause-held c = (to_end (goal.at.returns-clause-held c).In_default).holds
