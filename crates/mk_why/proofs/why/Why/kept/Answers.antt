use Rattle.std.proofs.lemmas.Result.{IfOk-weaker}
use Rattle.mk_why.proofs.{Vocabulary.view_of, Scans.kept_of}
use Rattle.mk_why.proofs.why.Why.kept.Goals as goal

pub returns-clause-kept : goal.returns-clause-kept
returns-clause-kept g c =
    rw (← c.self.view_is) (λ k w tells. IfOk-weaker c.list_entries.result _ _
    (λ entries below. kept_of k w tells.1 (below k (view_of w) tells.1)) c.list_entries.ensures.kept)

pub returns-clause-none : goal.returns-clause-none
returns-clause-none g c = rw (← c.self.view_is) c.list_entries.ensures.none
