-- Tracing in the stop meets the law of engines. Most of it holds of each engine that marks in the stop alone.
use Rattle.mk_words.proofs.Below.Laws.Vocabulary.{Bool, Caller, Config, Holds, Host, Marker, MarksAreClosed, Moment}
use Rattle.mk_words.proofs.Below.Laws.Vocabulary.{Protocol, Seat, Step, Words, ap, arith, false, flight_of, is_run_gone}
use Rattle.mk_words.proofs.Below.Laws.Vocabulary.{refl, sym, true, ◌∙◌, ◌≡◌}
use Rattle.mk_words.proofs.{Below.Laws.Protocols.lists_keep_the_protocol, Doing.does_nothing}
use Rattle.mk_cycle.specs.TurnKeeps.{OnlyDoes, is_want, KeepsCall, LeavesTurn, but_phase, unchanged, begins_marking}
use Rattle.mk_cycle.specs.{EngineLaw.{ClosesMarks, IsFreeForCycle, WantsFirst, is_pending_free}, Grays.TracesReached}
use Rattle.mk_cycle.specs.{Stops.{HolderIsLoaded, IsWanted, is_loaded}, Tracing.{Counted, Traces, Untouched}}
use Rattle.mk_cycle.specs.Tracing.{is_tracing, untouched_of}
use Rattle.mk_words.specs.{Steps.{Does, IsEnabledTo}, States.{IsTurn, PassState, now_of, world_of}}
use Rattle.mk_core.specs.Frames.{CountsAreLeft}
use Rattle.mk_cycle.proofs.KeptInParts.{keeps_at_once}

-- A call that is free for a cycle has loaded what it loads.

loaded_of : {c : Config} {m : Moment} (seat : Seat) → Protocol c m → Holds c m seat
    → is_pending_free (flight_of m seat) ≡ false → is_loaded seat (flight_of m seat) ≡ true
loaded_of {m} (Caller k) p holds decided = grind arith
loaded_of (Marker k) p holds decided = refl
loaded_of Host p holds decided = refl

pub ready_of : {p : PassState} → IsTurn p → IsFreeForCycle p → HolderIsLoaded p
ready_of {p} t free =
    let protocol = lists_keep_the_protocol p.table.config p.seen t.history.within_limits t.history.enabled in
    record { loaded = loaded_of p.seat protocol t.holds free.decided }

-- What tracing doesn't touch is kept.

module _ (p q : PassState) (pass : q ≡ record p { seen = q.seen })
    (same : untouched_of (world_of q) ≡ untouched_of (world_of p)) where
  flights : (now_of q).seats.flights ≡ (now_of p).seats.flights
  flights = ap (λ (x : Untouched). x.flights) same

  gone_as : Words → Untouched → Bool
  gone_as w x = is_run_gone (record w { pages = x.steady.pages; heap = x.heap }) x.done.freed

  same_gone : is_run_gone (now_of q).words (now_of q).seats.holding.freed ≡ is_run_gone (now_of p).words
      (now_of p).seats.holding.freed
  unfolding gone_as
  same_gone = ap (λ (x : Untouched). gone_as (now_of q).words x) same

  pub keeps_call : KeepsCall p q
  keeps_call =
      let done = ap (λ (x : Untouched). x.done) same in
      grind (arith, same_gone, flights, done)

  pub keeps_turn : CountsAreLeft p.table.config p.seen q.seen → LeavesTurn but_phase p q
  keeps_turn counts = record { call = keeps_call; steady = ap (λ (x : Untouched). x.steady) same; counts = counts }

pub closes_by_tracing : {p q : PassState} → WantsFirst p q → Counted is_tracing TracesReached is_want p q 1
    → IsWanted q → IsEnabledTo q Step.Close → MarksAreClosed q.table.config (world_of q) → ClosesMarks p q
closes_by_tracing {p} {q} wants counted wanted close closed =
    let t : Traces is_tracing TracesReached p q = counted.traces in
    let d : Does is_tracing p q = t.does in
    let pass : q ≡ record p { seen = q.seen } = d.is ∙ ap (λ (x : PassState). record p { seen = x.seen }) (sym d.is) in
    record {
      does = d;
      wants = wants;
      one_want = counted.count;
      keeps = keeps_turn p q pass t.untouched t.counts;
      phase = wanted.phase;
      close = close;
      closed = closed;
    }

-- Nothing is a beginning of the marking.
pub begins_with_nothing : (p : PassState) → OnlyDoes begins_marking p p
begins_with_nothing p =
    record { does = does_nothing begins_marking p; keeps = keeps_at_once unchanged p; gates = λ j lt. refl }
