use Rattle.mk_caller.proofs.Below.Laws.Vocabulary.{Steady, ap, sym, ◌+◌, ◌-◌, ◌^◌, ◌∙◌, ◌≡◌}
use Rattle.mk_alloc.proofs.retirement.free_small.Goals as goal
use Rattle.mk_alloc.proofs.{ObjectVocabulary.{min, now_of}, JoinedLooks.looks_left, SmallFrees.{freed_now, frees_small}}

pub returns : goal.returns
returns c =
    let found : c.look_at.result ≡ (now_of c.args.turn.now.pass).words.fresh =
    c.look_at.ensures.finds ∙ ap (λ (x : Steady). x.fresh) (freed_now c.quarantine.ensures.freed).steady in
    frees_small c.requires.free.may c.args.turn.now.in_order c.quarantine.ensures.freed c.look_at.ensures.looks
    c.set_tally.ensures c.look_at-held.ensures.looks c.requires.gates c.requires.small
    c.due.result c.quarantine.ensures.once c.quarantine.new.turn.in_order c.look_at-held.new.turn.in_order found
    (c.saturating_add-fresh.ensures ∙ ap (λ n. min (c.look_at.result + n) (2 ^ 64 - 1)) c.requires.size)
    (c.look_at-held.ensures.finds ∙ sym (ap (λ (x : Steady). x.held) (looks_left c.look_at-held.ensures.looks).steady))
    c.look_at-held.type_inv c.due.ensures
