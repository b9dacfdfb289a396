use Rattle.std.proofs.Common.{length-append}
use Rattle.mk_sweep.proofs.{Vocabulary.{still_words, words_below, words_on}, SweptWords.{no_words, same_words}}
use Rattle.mk_sweep.{proofs.{SweptWords.words_then, WordLists.{page_more, words_kept}}, specs.Sweeps.{SweepsWords}}
use Rattle.mk_cycle.proofs.Below.Laws.Vocabulary.{List, ℕ, arith, refl, subst, ◌++◌, ◌+◌, ◌≡◌}
use Rattle.mk_sweep.proofs.sweeping.sweep_pages.Goals as goal

pub loop-page-init : goal.loop-page-init
loop-page-init c = record { sweeps = no_words c.requires.sweeping; looks = refl; few = omega arith }

pub loop-page-preserved : goal.loop-page-preserved
loop-page-preserved c =
    let w = still_words c.args.stop.now.pass in
    let before : List ℕ = words_below w c.loop-page.page in
    let here : List ℕ = words_on w c.loop-page.page in
    let same : words_on (still_words c.loop-page.stop.pass) c.loop-page.page ≡ here =
    words_kept c.loop-page.page c.loop-page.invariant.sweeps.more in
    let more : before ++ here ≡ words_below w (c.loop-page.page + 1) = page_more w c.loop-page.page in
    record {
      sweeps = same_words more
          (words_then c.loop-page.invariant.sweeps (same_words same c.sweep_page-looks.ensures.sweeps));
      looks = cc (c.loop-page.invariant.looks, c.sweep_page-looks.ensures.looks, same, length-append before here, more);
      few = omega arith;
    }

pub returns-clause-sweeps : goal.returns-clause-sweeps
returns-clause-sweeps c =
    let pages : ℕ = c.args.words.now.config.pages in
    let at : c.loop-page.page ≡ pages = omega arith in
    subst (λ (k : ℕ). SweepsWords pages c.args.stop.now c.loop-page.stop
    (words_below (still_words c.args.stop.now.pass) k)) at c.loop-page.invariant.sweeps

pub returns-clause-looks : goal.returns-clause-looks
returns-clause-looks c = grind arith
