-- Which steps are admitted: those whose operation is, where the call is decided.
use Rattle.mk_heap.proofs.Below.Laws.Vocabulary.{Answer, AreAdmitted, Config, Decided, Event, IsAdmitted, IsHistory}
use Rattle.mk_heap.proofs.Below.Laws.Vocabulary.{List, None}
use Rattle.mk_heap.proofs.Below.Laws.Vocabulary.{Op, Option, Some, Step, admitted_in_parts, answer_decided, append-nil}
use Rattle.mk_heap.proofs.Below.Laws.Vocabulary.{append_assoc, arith, asked, call_decided, caller_number, entry_of}
use Rattle.mk_heap.proofs.Below.Laws.Vocabulary.{flagged, left}
use Rattle.mk_heap.proofs.Below.Laws.Vocabulary.{never_behind, subst, sym, [], ◌∷◌, ◌≡◌}
use Rattle.mk_core.specs.History.{calls_from}
use Rattle.mk_heap.specs.Below.Words.States.{PassState, call_of, event_of, now_of}
use Rattle.mk_heap.specs.Below.Words.Steps.{IsAdmittedTo, Makes}
use Rattle.mk_clients.specs.Clients.{StaysAdmitted}

one_call : (c : Config) (es : List Event) (e : Event)
    → calls_from c (left c es) (e ∷ []) ≡ call_decided c (left c es).now e
unfolding calls_from
one_call c es e = append-nil _

pub op_step : (p : PassState) (s : Step) → IsHistory p.table.config p.seen
    → ((a : Answer) → IsAdmitted p.table.config.globals (never_behind p.table.config p.seen) (caller_number p.seat)
    (flagged (call_of p).op a)) → IsAdmittedTo p s
op_step p s h admitted =
    let c : Config = p.table.config in
    let e : Event = event_of p s in
    (admitted_in_parts c p.seen (e ∷ [])).1 (
      h.admitted,
      subst (λ (ds : List Decided). AreAdmitted c.globals (never_behind c p.seen) (asked ds))
          (sym (one_call c p.seen e)) (by (answer_decided c (now_of p) e)),
    )
  where
    by : (a : Option Answer) → AreAdmitted p.table.config.globals (never_behind p.table.config p.seen)
        (asked (entry_of (caller_number p.seat) (call_of p).op a))
    by (Some a) = (admitted a, tt)
    by None = tt

-- after a step of its own, where the call has that operation and the answer's flag doesn't matter
pub own_step : {p : PassState} {t : Step} {q : PassState} (s : Step) (o : Op) → StaysAdmitted p o → Makes p t q
    → IsHistory q.table.config q.seen → (call_of q).op ≡ o → ((a : Answer) → flagged o a ≡ o) → IsAdmittedTo q s
own_step s o stays m h op_is plain = grind (arith, append_assoc, op_step)
