-- Which calls grant nothing, and what is held before any event and at the end.
use Rattle.mk_trace.proofs.Vocabulary.{Answer, AreOfOthers, Caller, Config, Contents, Decided, Event, Grows, HostState}
use Rattle.mk_trace.proofs.Vocabulary.{IsHistory, Moment, Op, PassState, Seat, Stage, Step, WordsState, World}
use Rattle.mk_trace.proofs.Vocabulary.{call_decided, config_of, entry_of, first_host, flagged, has_step, is_grant}
use Rattle.mk_trace.proofs.Vocabulary.{most_held, pass_for, peaks_of, without_seat, world_behind}
use Rattle.mk_heap.proofs.Below.Laws.Vocabulary.{Bool, List, MeetsAll, Some, ℕ, ap, arith, comes_next, enabled_meets}
use Rattle.mk_heap.proofs.Below.Laws.Vocabulary.{false}
use Rattle.mk_heap.proofs.Below.Laws.Vocabulary.{false_from_ne_true, list_any, list_any-append, or_from, or_parts, refl}
use Rattle.mk_heap.proofs.Below.Laws.Vocabulary.{subst}
use Rattle.mk_heap.proofs.Below.Laws.Vocabulary.{sym, true, true≢false, [], ◌&&◌, ◌<◌, ◌∙◌, ◌∷◌, ◌≡◌}
use Rattle.mk_core.specs.History.{AreEnabledFrom, calls_from}
use Rattle.mk_heap.specs.{Hosts.with_caller_made, Below.Words.States.all_seats}
use Rattle.mk_heap.proofs.Below.Words.Seats.{has_all}
use Rattle.mk_trace.proofs.OwnPieces.{AreMine, all_again, are_mine, none_of_others}

-- A grant decides a New, so a call of another operation grants nothing.

abbrev pub is_new : Op → Bool
is_new (Op.New d ty full) = true
is_new _ = false

abbrev is_new_call : Decided → Bool
is_new_call x = is_new x.op

grants_new : (at : Stage) (o : Op) → comes_next at o Step.Grant ≡ true → is_new o ≡ true
grants_new x0 x1 h = grind arith

never : (b : Bool) → (b && false) ≡ true → ⊥
never x0 h = grind arith

flagged_new : (o : Op) (a : Answer) → is_new (flagged o a) ≡ is_new o
flagged_new o a = grind arith

decides_new : {c : Config} {m : Moment} (seat : Seat) → MeetsAll c m (record { seat = seat; step = Step.Grant })
    → list_any is_new_call (call_decided c m (record { seat = seat; step = Step.Grant })) ≡ true
decides_new x0 h = grind (arith, flagged_new, grants_new, never)

grants_decide : (c : Config) (w : World) (es : List Event) → AreEnabledFrom c w es
    → list_any is_new_call (calls_from c w es) ≡ false → has_step is_grant es ≡ false
unfolding AreEnabledFrom calls_from
grants_decide c w [] on none = refl
grants_decide c w (e ∷ es) on none =
    let first : List Decided = call_decided c w.now e in
    let later : List Decided = calls_from c (world_behind c w e) es in
    let parts = or_parts (list_any is_new_call first) (list_any is_new_call later)
    (sym (list_any-append is_new_call first later) ∙ none) in
    or_from (is_grant e.step) (has_step is_grant es) (false_from_ne_true (is_grant e.step)
    (λ is. true≢false (sym (grind (arith, is_new_call, decides_new, enabled_meets)) ∙ parts.0)))
    (grants_decide c (world_behind c w e) es on.1 parts.1)

-- Events in which one call was decided, which isn't a New, grant nothing.
pub others_grant_none : (c : Config) (w : World) (more : List Event) (o : Op) (a : Answer) → AreEnabledFrom c w more
    → calls_from c w more ≡ entry_of 0 o (Some a) → is_new o ≡ false → has_step is_grant more ≡ false
others_grant_none c w more o a on one other = grind (arith, grants_decide, is_new_call, flagged_new)

-- Of a heap that nobody has used there are no events.
nothing_seen : {c : Config} {es : List Event} → Grows (without_seat (Caller 0) (all_seats c)) [] es
    → Grows (Caller 0 ∷ []) [] es → IsHistory c es → es ≡ []
nothing_seen {c} {es} own came history =
    let elsewhere : List Seat = without_seat (Caller 0) (all_seats c) in
    let mine : AreMine c elsewhere es = grind (arith, are_mine) in
    none_of_others c elsewhere (Caller 0 ∷ []) es (all_again c (Caller 0) (all_seats c) (has_all c)) mine
    (subst (AreOfOthers (Caller 0 ∷ [])) (sym came.is) came.of_others)

pub opened_empty : (w : WordsState) (h made : HostState) (q : PassState) (k : HostState) (c : Config) → h ≡ first_host w
    → made ≡ with_caller_made h → Grows made.pass.seats made.pass.seen k.pass.seen → Grows q.seats q.seen k.pass.seen
    → q ≡ pass_for h (Caller h.callers) → w.config ≡ c → k.pass.table ≡ w
    → IsHistory k.pass.table.config k.pass.seen → k.pass.seen ≡ []
opened_empty w h made q k c first is own came pass config table history =
    let es : List Event = k.pass.seen in
    let from : made ≡ with_caller_made (first_host w) = is ∙ ap with_caller_made first in
    let pass_is : q ≡ pass_for (first_host w) (Caller 0) = grind arith in
    nothing_seen (subst (λ (x : HostState). Grows x.pass.seats x.pass.seen es) from own)
    (subst (λ (x : PassState). Grows x.seats x.seen es) pass_is came)
    (subst (λ (x : WordsState). IsHistory x.config es) table history)

-- The most that was held, where a word holds it.
pub most_told : (trace : Contents) (d : Config) (es fs : List Event) (held : ℕ) → fs ≡ es → d ≡ config_of trace
    → held ≡ most_held d es → held < 18446744073709551616 → held ≡ (peaks_of (config_of trace) fs).held
most_told trace d es fs held same config is few = grind arith
