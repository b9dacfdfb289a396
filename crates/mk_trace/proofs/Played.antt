-- What was played so far, with one event more, and at the end.
use Rattle.mk_trace.proofs.Vocabulary.{AllTurnsAreExact, Answer, AreNull, Caller, CallerState, Config, Contents}
use Rattle.mk_trace.proofs.Vocabulary.{Decided, Event}
use Rattle.mk_trace.proofs.Vocabulary.{Grows, HostState, IsEventOf, IsHistory, IsPlayable, PassState, TraceEvent}
use Rattle.mk_trace.proofs.Vocabulary.{WordsState, after_calls, answered, asked, begins_full, calls, calls_of_caller}
use Rattle.mk_trace.proofs.Vocabulary.{config_of, first_host, is_refusal, never_behind, one_if, pass_for}
use Rattle.mk_trace.proofs.{Vocabulary.{refused_events, take_all, take_more}, LaterOps.{ops-played_more, refused_more}}
use Rattle.mk_trace.proofs.OneCaller.{as_many, calls_are_own, never_then_calls, none_called}
use Rattle.mk_trace.proofs.{AdmittedEvents.{EventsAreAdmitted, events_are_admitted}, ExactPlays.play_is_unswept}
use Rattle.mk_heap.proofs.Below.Laws.Vocabulary.{Bool, List, ℕ, ap, arith, false, get_or, if◌then◌else◌, length}
use Rattle.mk_heap.proofs.Below.Laws.Vocabulary.{list_any}
use Rattle.mk_heap.proofs.Below.Laws.Vocabulary.{map-append, refl, subst, sym, take, [], ◌++◌, ◌+◌, ◌<◌, ◌∙◌, ◌∷◌, ◌≡◌}
use Rattle.mk_heap.proofs.Below.Laws.Vocabulary.{◌≤◌}
use Rattle.mk_heap.proofs.Below.Laws.Promises.{histories_keep_all_promises}
use Rattle.mk_core.specs.History.{calls_from}
use Rattle.mk_heap.specs.{Below.Callers.States.IsAtHome, Hosts.IsWhole}
use Rattle.mk_heap.proofs.Below.Objects.Bounds.{quarantine_of_one_is_bounded}
use Rattle.mk_heap.proofs.UnsweptHistories.{unswept_is_precise}
use Rattle.mk_trace.specs.Calls.{HasPlayed, MayBePlayed, PlaysEvent, SameCalls}
use Rattle.mk_trace.specs.{Playing.{IsPlayed, ops_played}, Grammar.slot_of}

-- Before the first event.
pub played_none : (trace : Contents) → HasPlayed trace [] 0 []
unfolding calls_from
played_none trace = grind arith

module _ (trace : Contents) (events : List TraceEvent) (refused : ℕ) (es : List Event)
    (h : HasPlayed trace events refused es) (event : TraceEvent) (is_refused : Bool) (fs : List Event)
    (p : PlaysEvent (config_of trace) es event is_refused fs) where
  abbrev c : Config
  c = config_of trace

  abbrev answers : List Answer
  answers = answered (calls c es)

  abbrev more : List Answer
  more = answered p.more

  answered_more : answered (calls c fs) ≡ answers ++ more
  answered_more = ap answered p.is ∙ map-append (λ (x : Decided). x.answer) (calls c es) p.more

  count : length (ops_played events answers) ≡ length answers
  count = as_many (calls c es) (ops_played events answers) h.ops

  ops : asked (calls c fs) ≡ calls_of_caller (ops_played (events ++ event ∷ []) (answered (calls c fs)))
  ops = grind (arith, map-append, answers, more, ops-played_more, count, answered_more)

  pub played_more : EventsAreAdmitted trace → IsHistory c es → IsEventOf trace.slots event
      → HasPlayed trace (events ++ event ∷ []) (refused + one_if is_refused) fs
  played_more admitted history of_slots = record {
    ops = ops;
    refuses =
        ap (λ (b : Bool). refused + one_if b) (sym p.refuses) ∙ ap (λ (n : ℕ). n + one_if (list_any is_refusal more))
        h.refuses ∙ sym (refused_more event more events answers count (sym (as_many p.more _ p.asks)))
        ∙ ap (refused_events (events ++ event ∷ [])) (sym answered_more);
    clear = λ r. rw (sym
        (never_then_calls c es fs p.more p.is ∙ ap (after_calls (never_behind c es)) p.asks)) at
        ((admitted es history h.clear event of_slots (begins_full more)).1 r);
  }

-- When the heap is closed.
is_played : (trace : Contents) (refused : ℕ) (es : List Event) → HasPlayed trace trace.events refused es
    → IsWhole (config_of trace) es → AllTurnsAreExact (config_of trace) es → IsPlayed trace es
is_played trace refused es h whole exact =
    let kept = histories_keep_all_promises (config_of trace) es whole.history in
    let unswept = play_is_unswept trace whole.history exact in
    record {
      whole = whole;
      promises = kept;
      ops = h.ops;
      cycles = exact.caller;
      host = exact.host;
      unswept = unswept;
      precise = unswept_is_precise (config_of trace) es kept unswept;
      bounded = quarantine_of_one_is_bounded false (config_of trace) es refl whole.history exact.caller exact.host;
    }

pub may_be_played : {trace : Contents} {c : Config} {es : List Event} (fs : List Event) (event : TraceEvent)
    → c ≡ config_of trace → IsPlayable trace → IsHistory c es → AreNull (never_behind c es)
    → IsEventOf trace.slots event → SameCalls c es fs → MayBePlayed c fs event
may_be_played fs event config playable history null of_slots same full = grind (arith, events_are_admitted)

-- A slot is a global.
pub slot_is_global : {trace : Contents} (event : TraceEvent) → IsPlayable trace → IsEventOf trace.slots event
    → slot_of event < 64
slot_is_global {trace} event playable h = grind arith

-- The caller was made, and joined at once: it made no call.
no_call_first : {c : Config} {es : List Event} → c.callers ≡ 1 → IsHistory c es → Grows (Caller 0 ∷ []) [] es
    → SameCalls c [] es
unfolding calls_from
no_call_first {c} one history g = sym (calls_are_own one history) ∙ none_called c g

pub played_first : (trace : Contents) (c : Config) (events : List TraceEvent) (es : List Event) → c ≡ config_of trace
    → SameCalls c [] es → HasPlayed trace (take 0 events) 0 es
played_first trace c events es config same = grind (arith, played_none)

-- The next event of some was played.
pub next_played : {trace : Contents} {c : Config} (events : List TraceEvent) (i : ℕ) {refused : ℕ}
    (count : ℕ) {es fs : List Event} {event : TraceEvent} {is_refused : Bool} → c ≡ config_of trace → IsPlayable trace
    → IsHistory c es → i < length events → event ≡ get_or events i event → IsEventOf trace.slots event
    → HasPlayed trace (take i events) refused es → PlaysEvent c es event is_refused fs
    → count ≡ refused + one_if is_refused → HasPlayed trace (take (i + 1) events) count fs
next_played {trace} events i {refused} count {es} {fs} {event} {is_refused} config playable history within here of_slots
    h p is =
    let plays : PlaysEvent (config_of trace) es event is_refused fs = grind arith in
    let of_trace : IsHistory (config_of trace) es = rw config at history in
    let next : take (i + 1) events ≡ take i events ++ event ∷ [] = grind (arith, take_more) in
    rw next (rw (← is) at (played_more trace
    (take i events) refused es h event is_refused fs plays (events_are_admitted playable) of_trace of_slots))

pub one_counted : (b : Bool) (n m : ℕ) → m ≡ (if b then n + 1 else n) → m ≡ n + one_if b
one_counted x0 n m is = grind arith

pub still_few : (b : Bool) (n m i : ℕ) → m ≡ (if b then n + 1 else n) → n ≤ i → m ≤ i + 1
still_few x0 n m i is few = grind arith

-- The registers are null between events.
pub null_between : {trace : Contents} (c : Config) {events : List TraceEvent} {refused : ℕ} {es : List Event}
    → c ≡ config_of trace → HasPlayed trace events refused es → AreNull (never_behind c es)
null_between c {es} config h = subst (λ (d : Config). AreNull (never_behind d es)) (sym config) h.clear

-- all of them
pub played_all : {trace : Contents} (events : List TraceEvent) (i : ℕ) {refused : ℕ} {es : List Event}
    → length events ≤ i
    → events ≡ trace.events → HasPlayed trace (take i events) refused es → HasPlayed trace trace.events refused es
played_all {trace} events i {refused} {es} past is h =
    subst (λ (l : List TraceEvent). HasPlayed trace l refused es) (take_all i events past ∙ is) h

-- The pass that the host made first.
first_pass : (w : WordsState) (h : HostState) (s : CallerState) (q : PassState) → h ≡ first_host w
    → IsAtHome s (pass_for h (Caller h.callers)) → q ≡ s.pass → q ≡ pass_for (first_host w) (Caller 0)
first_pass w h s q first made is = grind arith

pub first_seats : (w : WordsState) (h : HostState) (s : CallerState) (q : PassState) → h ≡ first_host w
    → IsAtHome s (pass_for h (Caller h.callers)) → q ≡ s.pass → q.seats ≡ Caller 0 ∷ []
first_seats w h s q first made is = ap (λ (p : PassState). p.seats) (first_pass w h s q first made is)

pub joined_first : (w : WordsState) (h : HostState) (s : CallerState) (q : PassState) (k : HostState) (c : Config)
    → h ≡ first_host w → IsAtHome s (pass_for h (Caller h.callers)) → q ≡ s.pass
    → Grows q.seats q.seen k.pass.seen → w.config ≡ c → c.callers ≡ 1 → k.pass.table ≡ w
    → IsHistory k.pass.table.config k.pass.seen → SameCalls c [] k.pass.seen
joined_first w h s q k c first made is came config one table history = grind (arith, no_call_first, first_pass)

-- The heap is closed.
pub closed : {trace : Contents} {refused : ℕ} {d : Config} {es fs : List Event} → fs ≡ es → d ≡ config_of trace
    → HasPlayed trace trace.events refused es → IsWhole d fs → AllTurnsAreExact (config_of trace) es → IsPlayed trace fs
closed {trace} {refused} {fs} same config h whole exact =
    is_played trace refused fs (subst (HasPlayed trace trace.events refused) (sym same) h)
    (subst (λ (x : Config). IsWhole x fs) config whole) (subst (AllTurnsAreExact (config_of trace)) (sym same) exact)

-- An event of the trace.
pub event_at : {trace : Contents} (events : List TraceEvent) (i : ℕ) (event : TraceEvent) → IsPlayable trace
    → events ≡ trace.events → i < length events → event ≡ get_or events i event → IsEventOf trace.slots event
event_at events i event playable is within here = grind arith

pub refused_at : {trace : Contents} {refused : ℕ} {es : List Event} (fs : List Event) → fs ≡ es
    → HasPlayed trace trace.events refused es
    → refused ≡ refused_events trace.events (answered (calls (config_of trace) fs))
refused_at {trace} {refused} fs same h = grind arith
