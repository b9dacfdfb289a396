-- The calls that events of others decide: none is a seat's own, so they leave its registers in the heap that never
-- reuses storage.
use Rattle.mk_laws.proofs.Vocabulary.{AreOfOthers, Call, Caller, Config, Continues, Decided, Event, IsHistory}
use Rattle.mk_laws.proofs.Vocabulary.{KeepsRegisters, List, Seat, Step, World, ℕ, admitted_in_parts, admitted_keep}
use Rattle.mk_laws.proofs.Vocabulary.{answer_decided, asked, call_decided, calls_from, left, map-append, never_behind}
use Rattle.mk_laws.proofs.Vocabulary.{never_in_parts, subst, sym, world_behind, [], ◌++◌, ◌∷◌, ◌≢◌}
use Rattle.mk_never.{proofs.Later.calls_stay, specs.Laws.AreNotBy}
use Rattle.mk_laws.proofs.{FreedRuns.not_by, ProtocolFrames.other_seat}

-- one event of another seat
pub call_not_by : (c : Config) (w : World) (seat : Seat) (x : Step) (k : ℕ) → seat ≢ Caller k
    → AreNotBy k (asked (call_decided c w.now (record { seat = seat; step = x })))
call_not_by c w (Caller j) x k ne =
    not_by j k _ (answer_decided c w.now (record { seat = Caller j; step = x })) (λ e. ne (rw e))
call_not_by c w _ x k ne = tt

both_not_by : (k : ℕ) (xs ys : List Call) → AreNotBy k xs → AreNotBy k ys → AreNotBy k (xs ++ ys)
both_not_by k [] ys a b = b
both_not_by k (x ∷ xs) ys a b = (a.0, both_not_by k xs ys a.1 b)

calls_not_by : (c : Config) (w : World) (es : List Event) (k : ℕ) → AreOfOthers (Caller k ∷ []) es
    → AreNotBy k (asked (calls_from c w es))
unfolding calls_from AreOfOthers
calls_not_by c w [] k others = tt
calls_not_by c w (e ∷ es) k others = subst (λ (xs : List Call). AreNotBy k xs)
    (sym (map-append (λ (x : Decided). record { caller = x.caller; op = x.op }) _ _)) (both_not_by k _ _
    (call_not_by c w e.seat e.step k (other_seat (Caller k) e.seat others.0))
    (calls_not_by c (world_behind c w e) es k others.1))

-- many
pub registers_are_left : (c : Config) (es more : List Event) (k : ℕ) → IsHistory c (es ++ more)
    → AreOfOthers (Caller k ∷ []) more → KeepsRegisters k (never_behind c es) (never_behind c (es ++ more))
registers_are_left c es more k h others = rw (never_in_parts c es more) (admitted_keep c.globals _ k _
    ((admitted_in_parts c es more).0 h.admitted).1 (calls_not_by c (left c es) more k others))

-- What was granted stays, whoever calls.
pub never_continues : (c : Config) (es more : List Event) → Continues (never_behind c es) (never_behind c (es ++ more))
never_continues c es more =
    rw (never_in_parts c es more) (calls_stay (never_behind c es) (asked (calls_from c (left c es) more)))
