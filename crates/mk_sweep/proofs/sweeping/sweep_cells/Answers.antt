use Rattle.std.proofs.Common.{length-append}
use Rattle.mk_sweep.proofs.Vocabulary.{IsScannedWord, WordsState, has_bit, header_in, header_of, still_words, words_if}
use Rattle.mk_sweep.proofs.{Vocabulary.{words_of_cells, words_under, world_of}, ScannedCells.used_word}
use Rattle.mk_sweep.proofs.{SweepSteps.word_alike, SweptWords.{no_words, same_words, words_then}}
use Rattle.mk_sweep.{proofs.WordLists.{cell_more, words_of_scanned}, specs.Sweeps.{SweepsWords}}
use Rattle.mk_cycle.proofs.Below.Laws.Vocabulary.{Bool, List, ℕ, ap, arith, length, refl, subst, sym, ◌*◌, ◌++◌, ◌+◌}
use Rattle.mk_cycle.proofs.Below.Laws.Vocabulary.{◌<◌, ◌∙◌, ◌≡◌}
use Rattle.mk_sweep.proofs.sweeping.sweep_cells.Goals as goal

pub loop-index-init : goal.loop-index-init
loop-index-init c = record { sweeps = no_words c.requires.sweeping; looks = refl; few = omega arith }

pub sweep_if_used-looks-requires-clause-scanned : goal.sweep_if_used-looks-requires-clause-scanned
sweep_if_used-looks-requires-clause-scanned c used i lt =
    let p = c.args.stop.now.pass in
    let w = still_words p in
    let size : words_under (header_in w c.args.page) ≡ c.words_under-size.result =
    sym (c.words_under-size.ensures.exact ∙ ap (λ h. words_under (header_of h)) c.requires.header) in
    let word = used_word p.table.config p.seen c.args.stop.now.in_order.history c.requires.sweeping.settled c.args.page
    c.loop-index.index i (ap (λ n. has_bit n c.loop-index.index) (sym c.requires.used) ∙ sym c.has_bit.ensures ∙ used)
    c.requires.scanned (subst (λ k. i < k) (sym size) lt) in
    word_alike c.args.words.now.config (world_of p) (world_of c.loop-index.stop.pass)
    (sym c.loop-index.invariant.sweeps.on.traces.untouched) (64 * c.args.page + c.loop-index.index
    * c.words_under-size.result + i) (subst (λ (t : WordsState). IsScannedWord t.config (world_of p).allocations (64
    * c.args.page + c.loop-index.index * c.words_under-size.result + i)) c.requires.one_table (subst (λ k. IsScannedWord
    p.table.config (world_of p).allocations (64 * c.args.page + c.loop-index.index * k + i)) size word))

pub loop-index-preserved : goal.loop-index-preserved
loop-index-preserved c =
    let size : ℕ = c.words_under-size.result in
    let before : List ℕ = words_of_cells c.args.page size c.args.used c.loop-index.index in
    let if_used : Bool → List ℕ = λ b. words_if b (64 * c.args.page + c.loop-index.index * size) size in
    let here : List ℕ = if_used (has_bit c.args.used c.loop-index.index) in
    let more : before ++ here ≡ words_of_cells c.args.page size c.args.used (c.loop-index.index + 1) =
    cell_more c.args.page size c.args.used c.loop-index.index in
    let one : SweepsWords c.args.words.now.config.pages c.loop-index.stop c.sweep_if_used-looks.new.stop here =
    subst (λ (b : Bool). SweepsWords c.args.words.now.config.pages c.loop-index.stop c.sweep_if_used-looks.new.stop
    (if_used b)) c.has_bit.ensures c.sweep_if_used-looks.ensures.sweeps in
    record {
      sweeps = same_words more (words_then c.loop-index.invariant.sweeps one);
      looks =
          ap (λ k. k + c.sweep_if_used-looks.result) c.loop-index.invariant.looks ∙ ap (λ k. length before + k)
          (c.sweep_if_used-looks.ensures.looks ∙ ap (λ (b : Bool). length (if_used b)) c.has_bit.ensures)
          ∙ sym (length-append before here) ∙ ap length more;
      few = omega arith;
    }

pub returns-clause-sweeps : goal.returns-clause-sweeps
returns-clause-sweeps c =
    let end = c.loop-index-test.false in
    let at : c.loop-index.index ≡ c.cells_under-index-end.result = let most = c.loop-index.auto.index-end in omega
    arith in
    same_words (ap (λ k. words_of_cells c.args.page c.words_under-size.result c.args.used k) at ∙ words_of_scanned
    (still_words c.args.stop.now.pass) c.args.page c.args.header c.args.used c.words_under-size.result
    c.cells_under-index-end.result c.requires.header c.requires.used c.words_under-size.ensures.exact
    c.cells_under-index-end.ensures.exact c.requires.scanned) c.loop-index.invariant.sweeps

pub returns-clause-looks : goal.returns-clause-looks
returns-clause-looks c = grind (arith, words_of_scanned)
