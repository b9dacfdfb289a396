-- Where the calls in flight at the end of a history are admitted, those at each earlier moment are.
use Rattle.mk_laws.proofs.Vocabulary.{Answer, AreAdmitted, AreOfOthers, Bool, Caller, Config, Event, Flight, Host}
use Rattle.mk_laws.proofs.Vocabulary.{IsAdmitted, IsHistory, List, Marker, Moment, None, Op, Option, Seat, Some, Stage}
use Rattle.mk_laws.proofs.Vocabulary.{Step, ℕ, append-nil, append_assoc, arith, asked, cases_eq}
use Rattle.mk_laws.proofs.Vocabulary.{earlier_part_is_history, entry_of, false, flight_of, found, inl, inr, is_one_of}
use Rattle.mk_laws.proofs.Vocabulary.{is_under_turn, left, never_behind, not, progress, refl, subst, sym, true}
use Rattle.mk_laws.proofs.Vocabulary.{NeverState, ne_eqb, ◌||◌, [], ◌&&◌, ◌++◌, ◌<◌, ◌∷◌, ◌≡◌, ap}
use Rattle.mk_laws.proofs.{AdmittedAlike.{admitted_alike, alike_back}, CallSorts.admitted_call, LastEvents.comes_last}
use Rattle.mk_laws.proofs.CallsGoOn.{InCallAt, IsFurther, in_call_at, further, next_at, next_is}
use Rattle.mk_laws.proofs.{Protocols.lists_keep_the_protocol, ProtocolFrames.others_leave}
use Rattle.mk_laws.proofs.StepsAside.{flight_then, never_then, others_show_alike}
use Rattle.mk_core.specs.{Calls.is_same_stage, Readings.{is_idle, is_in_call}}
use Rattle.mk_laws.specs.Waiting.{CallsInFlightAreAdmitted, is_undecided}

in_call_still : (s : Stage) (o : Op) → InCallAt s o → (not (is_idle s) && not (is_under_turn o)) ≡ true
in_call_still s o h = grind arith

not_last : (s : Stage) → is_undecided s ≡ true → is_same_stage s Stage.Leave ≡ false
not_last s h = grind arith

-- the step of another
before_others : (c : Config) (es : List Event) (e : Event) (k : ℕ) → IsHistory c (es ++ e ∷ [])
    → CallsInFlightAreAdmitted c (es ++ e ∷ []) → k < c.callers
    → is_in_call (flight_of (left c es).now (Caller k)) ≡ true
    → is_undecided (flight_of (left c es).now (Caller k)).stage ≡ true → is_one_of (Caller k ∷ []) e.seat ≡ false
    → IsAdmitted c.globals (never_behind c es) k (flight_of (left c es).now (Caller k)).op
unfolding AreOfOthers
before_others c es e k h ad lt call still other =
    let others : AreOfOthers (Caller k ∷ []) (e ∷ []) = (other, tt) in
    let same = (others_leave c es (e ∷ []) (Caller k) h.within_limits h.enabled others).own.flight in
    admitted_alike c.globals (never_behind c (es ++ e ∷ [])) (never_behind c es) k
    (alike_back (others_show_alike c es (e ∷ []) k h others))
    (rw same at (ad k lt (rw same call) (rw same still)))

-- its own
module _ (c : Config) (es : List Event) (k : ℕ) (x : Step)
    (h : IsHistory c (es ++ record { seat = Caller k; step = x } ∷ []))
    (ad : CallsInFlightAreAdmitted c (es ++ record { seat = Caller k; step = x } ∷ [])) (lt : k < c.callers)
    (call : is_in_call (flight_of (left c es).now (Caller k)) ≡ true)
    (still : is_undecided (flight_of (left c es).now (Caller k)).stage ≡ true) where
  abbrev event : Event
  event = record { seat = Caller k; step = x }

  abbrev m : Moment
  m = (left c es).now

  abbrev f : Flight
  f = flight_of m (Caller k)

  at : InCallAt f.stage f.op
  at =
      let before = earlier_part_is_history c es (event ∷ []) h in
      in_call_at f.stage f.op
      ((lists_keep_the_protocol c es before.within_limits before.enabled).stage k lt) call

  next : x ≡ next_at f.stage
  next = next_is f.stage f.op x at (comes_last c es event h).meets.order

  by : (a : Option Answer) → (progress c m f (found c m event) x).answer ≡ a
      → IsAdmitted c.globals (never_behind c es) k f.op
  by (Some a) is = admitted_call c.globals (never_behind c es) k f.op a at.outside
      (subst (λ (y : Option Answer). AreAdmitted c.globals (never_behind c es) (asked (entry_of k f.op y))) is
      (comes_last c es event h).admitted)
  by None is =
      let g : IsFurther f.stage f.op (progress c m f (found c m event) x).flight
      (progress c m f (found c m event) x).answer =
      subst (λ (y : Step). IsFurther f.stage f.op (progress c m f (found c m event) y).flight
      (progress c m f (found c m event) y).answer) (sym next)
      (further c m f (found c m event) at (not_last f.stage still)) in
      let then = flight_then c es k x h lt in
      let admitted : IsAdmitted c.globals (never_behind c (es ++ event ∷ [])) k
      (progress c m f (found c m event) x).flight.op =
      rw then at (ad k lt (rw then (in_call_still _ _ g.at)) (rw then (g.undecided.1 (still, is)))) in
      subst (λ (n : NeverState). IsAdmitted c.globals n k f.op) (never_then c es k x h lt is)
      (subst (λ (o : Op). IsAdmitted c.globals (never_behind c (es ++ event ∷ [])) k o) g.same admitted)

  pub before_own : IsAdmitted c.globals (never_behind c es) k f.op
  before_own = by (progress c m f (found c m event) x).answer refl

-- one step earlier
before_one : (c : Config) (es : List Event) (e : Event) → IsHistory c (es ++ e ∷ [])
    → CallsInFlightAreAdmitted c (es ++ e ∷ []) → CallsInFlightAreAdmitted c es
before_one c es e h ad k lt call still = by e.seat e.step h ad
  where
    own : (j : ℕ) (x : Step) → IsHistory c (es ++ record { seat = Caller j; step = x } ∷ [])
        → CallsInFlightAreAdmitted c (es ++ record { seat = Caller j; step = x } ∷ []) → j ≡ k
        → IsAdmitted c.globals (never_behind c es) k (flight_of (left c es).now (Caller k)).op
    own j x h ad is = before_own c es k x (rw is at h)
        (subst (λ i. CallsInFlightAreAdmitted c (es ++ record { seat = Caller i; step = x } ∷ [])) is ad) lt call still

    by : (seat : Seat) (x : Step) → IsHistory c (es ++ record { seat = seat; step = x } ∷ [])
        → CallsInFlightAreAdmitted c (es ++ record { seat = seat; step = x } ∷ [])
        → IsAdmitted c.globals (never_behind c es) k (flight_of (left c es).now (Caller k)).op
    by (Caller j) x h ad = elim (cases_eq j k) [
      | inl e ↦ own j x h ad e
      | inr ne ↦ before_others c es _ k h ad lt call still (ap (λ (b : Bool). b || false) (ne_eqb j k ne))
    ]
    by (Marker j) x h ad = before_others c es _ k h ad lt call still refl
    by Host x h ad = before_others c es _ k h ad lt call still refl

pub earlier_calls_are_admitted : (c : Config) (es more : List Event) → IsHistory c (es ++ more)
    → CallsInFlightAreAdmitted c (es ++ more) → CallsInFlightAreAdmitted c es
earlier_calls_are_admitted c es [] h ad = subst (CallsInFlightAreAdmitted c) (append-nil es) ad
earlier_calls_are_admitted c es (e ∷ more) h ad =
    let split : es ++ e ∷ more ≡ (es ++ e ∷ []) ++ more = sym (append_assoc es (e ∷ []) more) in
    let parts : IsHistory c ((es ++ e ∷ []) ++ more) = rw split at h in
    before_one c es e (earlier_part_is_history c (es ++ e ∷ []) more parts)
    (earlier_calls_are_admitted c (es ++ e ∷ []) more parts (subst (CallsInFlightAreAdmitted c) split ad))
