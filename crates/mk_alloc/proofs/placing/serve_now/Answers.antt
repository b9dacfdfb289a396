use Rattle.mk_caller.proofs.Below.Laws.Vocabulary.{arith}
use Rattle.mk_alloc.proofs.JoinedLooks.{granted_behind_looks, looks_call, looks_exact, looks_joined, looks_object}
use Rattle.mk_alloc.proofs.placing.serve_now.Goals as goal
use Rattle.mk_alloc.proofs.{JoinedLooks.{looks_pages, looks_table}, PlacedNews.{goes_on, looks_then_sweep}}

pub serve-requires-clause-may : goal.serve-requires-clause-may
serve-requires-clause-may c =
    let looks = looks_joined c.look_at-held.ensures.looks c.is_marking-marking.ensures.looks in
    grind (arith, looks, goes_on, looks_table, looks_pages, looks_object, looks_call, looks_exact)

pub returns : goal.returns
returns c =
    let looks = looks_joined c.look_at-held.ensures.looks c.is_marking-marking.ensures.looks in
    record {
      granted = granted_behind_looks looks c.serve.ensures.granted;
      held = c.serve.ensures.held;
      reached = looks_then_sweep looks c.serve.ensures.reached;
    }
