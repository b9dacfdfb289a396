use Rattle.mk_trace.proofs.Vocabulary.{WordsState, cell_at, header_at, is_heap_address, left}
use Rattle.mk_heap.proofs.Below.Laws.Vocabulary.{ℕ, ap, false, subst, ◌∙◌, ◌≡◌}
use Rattle.mk_trace.proofs.FoundCells.{cell_found, nothing_found}
use Rattle.mk_trace.proofs.looking.cell_at.Goals as goal

pub returns-in_err-page-clause-finds : goal.returns-in_err-page-clause-finds
returns-in_err-page-clause-finds g c =
    let w = (left c.args.heap.now.config c.args.host.now.pass.seen).now.words in
    let pages = c.pages-pages.ensures ∙ ap (λ (x : WordsState). x.config.pages) c.words.ensures in
    c.from_residual.ensures ∙ nothing_found c.args.heap.now.config.pages w c.args.address
    (subst (λ (n : ℕ). is_heap_address n c.args.address ≡ false) pages c.in_err-page.ensures.outside)

pub returns-clause-finds : goal.returns-clause-finds
returns-clause-finds g c =
    let w = (left c.args.heap.now.config c.args.host.now.pass.seen).now.words in
    let pages = c.pages-pages.ensures ∙ ap (λ (x : WordsState). x.config.pages) c.words.ensures in
    cell_found _ w c.args.address c.look-header.result c.lookup.result (c.look-header.ensures.tells ∙ ap (header_at w)
    c.in_ok-page.ensures.page) (c.lookup.ensures ∙ ap (λ (n : ℕ). cell_at n c.look-header.result c.args.address) pages)
