use Rattle.mk_alloc.proofs.Below.Laws.Vocabulary.{Config, Host, ap, subst, sym, [], ◌∙◌}
use Rattle.mk_alloc.specs.Below.Words.States.{all_seats, PassState, WordsState}
use Rattle.mk_heap.{proofs.HostsKept.first_is_host, specs.Hosts.IsHost}
use Rattle.mk_heap.proofs.heaps.Heap.new.Goals as goal

pub invariant_of-result : goal.invariant_of-result
invariant_of-result c =
    let w : WordsState = c.in_ok-words.words in
    let pass = c.in_ok-words.ensures.pass ∙ ap (λ (x : Config). record
    { table = w; seat = Host; seats = all_seats x; seen = [] }) (sym c.in_ok-words.ensures.config) in
    subst (λ (p : PassState). IsHost (record { pass = p; callers = 0; markers = 0 })) (sym pass) (first_is_host w)
