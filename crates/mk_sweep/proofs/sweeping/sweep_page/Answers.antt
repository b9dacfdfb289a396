use Rattle.mk_sweep.proofs.Vocabulary.{Words, has_no_pointers, header_at, header_in, header_of, still_words, used_at}
use Rattle.mk_sweep.proofs.{Vocabulary.words_on, SweptWords.{quiet_words, same_words, words_then}}
use Rattle.mk_sweep.proofs.WordLists.{words_of_bare}
use Rattle.mk_cycle.proofs.Below.Laws.Vocabulary.{ap, length, sym, ◌∙◌}
use Rattle.mk_sweep.proofs.sweeping.sweep_page.Goals as goal

pub returns-then-has_no_pointers-clause-sweeps : goal.returns-then-has_no_pointers-clause-sweeps
returns-then-has_no_pointers-clause-sweeps c =
    same_words (words_of_bare (still_words c.args.stop.now.pass) c.args.page
    (ap (λ h. has_no_pointers (header_of h)) (sym c.look_at-header.ensures.found) ∙ sym c.has_no_pointers.ensures
    ∙ c.if-has_no_pointers.true)) (quiet_words c.look_at-header.ensures.on c.look_at-header.ensures.words)

pub returns-then-has_no_pointers-clause-looks : goal.returns-then-has_no_pointers-clause-looks
returns-then-has_no_pointers-clause-looks c =
    ap length (words_of_bare (still_words c.args.stop.now.pass) c.args.page (ap (λ h. has_no_pointers (header_of h))
    (sym c.look_at-header.ensures.found) ∙ sym c.has_no_pointers.ensures ∙ c.if-has_no_pointers.true))

pub sweep_cells-requires-clause-header : goal.sweep_cells-requires-clause-header
sweep_cells-requires-clause-header c =
    c.look_at-header.ensures.found
    ∙ sym (ap (λ (x : Words). header_at x c.args.page) (c.look_at-used.ensures.words ∙ c.look_at-header.ensures.words))

pub sweep_cells-requires-clause-used : goal.sweep_cells-requires-clause-used
sweep_cells-requires-clause-used c =
    c.look_at-used.ensures.found ∙ sym (ap (λ (x : Words). used_at x c.args.page) c.look_at-used.ensures.words)

pub sweep_cells-requires-clause-scanned : goal.sweep_cells-requires-clause-scanned
sweep_cells-requires-clause-scanned c =
    ap (λ (x : Words). has_no_pointers (header_in x c.args.page)) (c.look_at-used.ensures.words
    ∙ c.look_at-header.ensures.words) ∙ ap (λ h. has_no_pointers (header_of h)) (sym c.look_at-header.ensures.found)
    ∙ sym c.has_no_pointers.ensures ∙ c.if-has_no_pointers.false

pub returns-clause-sweeps : goal.returns-clause-sweeps
returns-clause-sweeps c =
    let header = c.look_at-header.ensures in
    let used = c.look_at-used.ensures in
    same_words (ap (λ (x : Words). words_on x c.args.page) (used.words ∙ header.words)) (words_then
    (quiet_words header.on header.words) (words_then (quiet_words used.on used.words) c.sweep_cells.ensures.sweeps))

pub returns-clause-looks : goal.returns-clause-looks
returns-clause-looks c = cc (c.sweep_cells.ensures.looks, c.look_at-used.ensures.words, c.look_at-header.ensures.words)
