-- What quarantine costs where the host comes last and the turns of all callers are exact.
use Rattle.std.proofs.Common.{⊎_elim}
use Rattle.mk_alloc.proofs.Below.Laws.Vocabulary.{AreOfOthers, Bool, Caller, Config, Event, Host, IsHistory, List, Seat}
use Rattle.mk_alloc.proofs.Below.Laws.Vocabulary.{is_one_of, subst, sym, true, true≢false, ℕ, [], ◌<◌, ◌∙◌, ◌∷◌, ◌≡◌}
use Rattle.mk_alloc.proofs.{Below.Laws.Vocabulary.false, Bounds.quarantines_are_bounded}
use Rattle.mk_alloc.proofs.{EndedCycles.{others_at, others_behind}, ListParts.{InFirst, InSecond, stands}}
use Rattle.mk_alloc.specs.{Bounds.{HostBeginsLast, QuarantineIsBounded}, TurnCycles.TurnsOfAreExact}
use Rattle.mk_heap.specs.Ending.{HostComesLast}

-- Where the host comes last, so does each of its cycles.
host_begins_last : (c : Config) {with_cycle : Bool} {es : List Event} → HostComesLast c.callers with_cycle es
    → HostBeginsLast c es
host_begins_last c h before e behind is begins host k lt =
    ⊎_elim (λ (f : InFirst h.scripts before e). (let others = others_at (Host ∷ []) before e f.behind
    (subst (λ (l : List Event). AreOfOthers (Host ∷ []) l) f.is h.without_host) in
    let none : true ≡ false = subst (λ (s : Seat). is_one_of (Host ∷ []) s ≡ false) host others in
    absurd (true≢false none))) (λ (s : InSecond h.scripts h.last before e behind). others_behind (Caller k ∷ []) s.rest
    e behind (subst (λ (l : List Event). AreOfOthers (Caller k ∷ []) l) s.is (h.without_callers k lt)))
    (stands h.scripts h.last before e behind (sym h.is ∙ is))

pub quarantine_is_bounded : {on with_cycle : Bool} {c : Config} {es : List Event} → IsHistory c es
    → ((k : ℕ) → k < c.callers → TurnsOfAreExact on c (Caller k) es) → HostComesLast c.callers with_cycle es
    → QuarantineIsBounded on c es
quarantine_is_bounded {on} {c = c} {es = es} history exact last =
    quarantines_are_bounded on c es history exact (host_begins_last c last)
