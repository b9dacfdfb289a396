use Rattle.mk_caller.proofs.Below.Laws.Vocabulary.{Header, arith, false, subst, sym, word_of, ℕ}
use Rattle.mk_caller.specs.Below.Words.TurnSteps.{MayStoreHeads, StoresHeads}
use Rattle.mk_core.specs.Below.Books.KnownPages.{run_word}
use Rattle.mk_alloc.proofs.WipedRuns.{may_unmap_all, unmapped_all, unmaps_to}
use Rattle.mk_alloc.proofs.unmapping.unmap_run.Goals as goal

pub unmap_run-requires-clause-may : goal.unmap_run-requires-clause-may
unmap_run-requires-clause-may c =
    let p = c.args.turn.now.pass in
    let run = c.args.run in
    subst (λ (h : ℕ). MayStoreHeads p run.page run.count (run_word h c.encode-next.result))
    (sym c.encode-head.ensures.exact)
    (subst (λ (n : ℕ). MayStoreHeads p run.page run.count (run_word (word_of (Header.Run run.count false)) n))
    (sym c.encode-next.ensures.exact)
    (may_unmap_all c.args.turn.now.in_order c.requires.may c.requires.stopped))

pub returns : goal.returns
returns c =
    let p = c.args.turn.now.pass in
    let q = c.unmap_run.new.self.pass in
    let run = c.args.run in
    let stores = subst (λ (n : ℕ). StoresHeads p run.page run.count
    (run_word (word_of (Header.Run run.count false)) n) q) c.encode-next.ensures.exact
    (subst (λ (h : ℕ). StoresHeads p run.page run.count (run_word h c.encode-next.result) q)
    c.encode-head.ensures.exact c.unmap_run.ensures) in
    unmapped_all c.args.turn.now.in_order c.requires.may
    (unmaps_to c.args.turn.now.in_order c.requires.may run.count q (omega arith) stores)
