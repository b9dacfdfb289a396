use Rattle.mk_trace.proofs.{Vocabulary.{Words, left, rules}, SettledLedgers.settles_anew}
use Rattle.mk_heap.proofs.Below.Laws.Vocabulary.{ap, refl, ◌≡◌}
use Rattle.mk_trace.proofs.settling.settle.Goals as goal

pub returns-clause-settles : goal.returns-clause-settles
returns-clause-settles g c =
    let d = c.args.heap.now.config in
    let all : c.as_slice.result.now ≡ c.args.freed.now.quarantine.items = search rules in
    settles_anew (left d c.args.host.now.pass.seen).now.words.freed (left d
    c.look-count.new.host.pass.seen).now.words.freed c.look-count.result _ _ c.keep.new.self _ c.in_ok-kept.kept.items
    (ap (λ (w : Words). w.freed) c.look-count.ensures.looks.words) (c.look-count.ensures.counts refl)
    c.if-count-freed.false all c.in_ok-kept.ensures.kept c.keep.ensures.quarantined c.keep.ensures.reserved
    c.keep.ensures.objects (search rules) c.keep.ensures.ends
