-- Who isn't under the turn steps aside: a caller leaves its call, and a marker quits.
use Rattle.mk_laws.proofs.Vocabulary.{Answer, AreAdmitted, AreOfOthers, Bool, Caller, Config, Event, Flight, Group}
use Rattle.mk_laws.proofs.Vocabulary.{IsAdmitted, IsEnabled, IsHistory, List, Marker, Moment, NeverState, None, Op}
use Rattle.mk_laws.proofs.Vocabulary.{Option, Seat, Some, Stage, Step, World, ℕ, ap, arith, asked, at_rest, cases_lt}
use Rattle.mk_laws.proofs.Vocabulary.{entry_of, false, flight_of, found, get_or-set_same, get_or_past, group_of}
use Rattle.mk_laws.proofs.Vocabulary.{has_gates, has_phase, holder_may, inl, inr, is_in, is_in_range, is_under_turn}
use Rattle.mk_laws.proofs.Vocabulary.{left, lt-ltb, marker_may, marker_of, never_behind, outside, phase_of, progress}
use Rattle.mk_laws.proofs.Vocabulary.{refl, subst, suc, sym, true, Progress, earlier_part_is_history, after_calls}
use Rattle.mk_laws.proofs.Vocabulary.{true≢false, zero, [], ◌++◌, ◌+◌, ◌<◌, ◌∙◌, ◌∷◌, ◌≡◌, ◌≤◌, ◌⊎◌}
use Rattle.mk_laws.proofs.CallsGoOn.{InCallAt, decided_once, further, leaves, next_at, next_comes, next_kind, some_left}
use Rattle.mk_laws.proofs.{CallsGoOn.steps_left, CallSorts.flag_is, AdmittedAlike.{ShowsAlike, admitted_alike}}
use Rattle.mk_laws.proofs.{AdmittedAlike.shows_alike, ProtocolFrames.others_leave, LastEvents.{comes_last, goes_on_by}}
use Rattle.mk_laws.proofs.{LastEvents.stands, OtherCalls.{never_continues, registers_are_left}}
use Rattle.mk_laws.proofs.{Protocols.lists_keep_the_protocol, WordsMet.{has_met, probe_meets_a_word, words_are_met}}
use Rattle.mk_core.{proofs.Conditions.{meets_enabled}, specs.Calls.{is_same_stage}}
use Rattle.mk_laws.specs.Waiting.{Rests, RestsWithin, is_undecided, with_step}

-- Callers' kinds have no conditions 5 to 7.
record IsFree (c : Config) (m : Moment) (seat : Seat) (f : Flight) (s : Step) : Type 0 where
  pub gates : has_gates c m.words seat f s ≡ true
  pub phase : has_phase (phase_of m.words) s ≡ true
  pub marker : marker_may c outside s ≡ true
  pub holder : holder_may c m f s ≡ true

is_free : (c : Config) (m : Moment) (seat : Seat) (f : Flight) (s : Step) → group_of s ≡ Group.Callers
    → IsFree c m seat f s
is_free c m seat f (Step.Enter o) h = record { gates = refl; phase = refl; marker = refl; holder = refl }
is_free c m seat f _ h = record { gates = cc; phase = cc; marker = cc; holder = cc }

entry_admitted : {globals : List ℕ} {n : NeverState} {k : ℕ} {o : Op} (a : Option Answer) → is_under_turn o ≡ false
    → IsAdmitted globals n k o → AreAdmitted globals n (asked (entry_of k o a))
entry_admitted None h ad = tt
entry_admitted (Some a) h ad = grind (arith, flag_is)

-- A caller in its call, with at most so many steps to go. What it will ask is admitted.
pub record IsUnderway (c : Config) (n : ℕ) (es : List Event) (k : ℕ) : Type 0 where
  pub history : IsHistory c es
  pub exists : k < c.callers
  pub at : InCallAt (flight_of (left c es).now (Caller k)).stage (flight_of (left c es).now (Caller k)).op
  pub few : steps_left (flight_of (left c es).now (Caller k)).stage (flight_of (left c es).now (Caller k)).op ≤ n
  pub admitted : is_undecided (flight_of (left c es).now (Caller k)).stage ≡ true
      → IsAdmitted c.globals (never_behind c es) k (flight_of (left c es).now (Caller k)).op

-- What others do shows the caller's heap alike.
pub others_show_alike : (c : Config) (es more : List Event) (k : ℕ) → IsHistory c (es ++ more)
    → AreOfOthers (Caller k ∷ []) more → ShowsAlike (never_behind c es) (never_behind c (es ++ more)) k
others_show_alike c es more k h others =
    shows_alike c.globals (never_behind c es) (never_behind c (es ++ more)) k (never_continues c es more)
    (registers_are_left c es more k h others)
    (stands c es (earlier_part_is_history c es more h)).all.mirrors.typed

-- a call after its own event
module _ (c : Config) (es : List Event) (k : ℕ) (x : Step)
    (h : IsHistory c (es ++ record { seat = Caller k; step = x } ∷ [])) (lt : k < c.callers) where
  abbrev event : Event
  event = record { seat = Caller k; step = x }

  abbrev here : Moment
  here = (left c es).now

  abbrev own : Flight
  own = flight_of here (Caller k)

  abbrev made : Progress
  made = progress c here own (found c here event) x

  pub flight_then : flight_of (left c (es ++ event ∷ [])).now (Caller k) ≡ made.flight
  flight_then =
      let last = comes_last c es event h in
      let count = (lists_keep_the_protocol c es last.before.within_limits last.before.enabled).callers in
      rw last.leaves (get_or-set_same here.seats.flights k _ at_rest (omega arith))

  pub never_then : made.answer ≡ None → never_behind c (es ++ event ∷ []) ≡ never_behind c es
  never_then none = (comes_last c es event h).never
      ∙ ap (λ (a : Option Answer). after_calls (never_behind c es) (asked (entry_of k own.op a))) none

-- whatever others do
on_with_others : {c : Config} {n : ℕ} {es : List Event} {k : ℕ} (more : List Event) → IsUnderway c n es k
    → IsHistory c (es ++ more) → AreOfOthers (Caller k ∷ []) more → IsUnderway c n (es ++ more) k
on_with_others {c} {n} {es} {k} more u h others =
    let same = (others_leave c es more (Caller k) h.within_limits h.enabled others).own.flight in
    record {
      history = h;
      exists = u.exists;
      at = rw same u.at;
      few = rw same u.few;
      admitted = rw same (λ still. admitted_alike c.globals (never_behind c es) (never_behind c (es ++ more)) k
          (others_show_alike c es more k h others) (u.admitted still));
    }

-- Its next step.
module _ {c : Config} {n : ℕ} {es : List Event} {k : ℕ} (u : IsUnderway c (suc n) es k) where
  abbrev w : World
  w = left c es

  abbrev f : Flight
  f = flight_of w.now (Caller k)

  abbrev x : Step
  x = next_at f.stage

  abbrev e : Event
  e = record { seat = Caller k; step = x }

  in_range : (s : Stage) → f.stage ≡ s → is_in_range c (Caller k) f (next_at s) ≡ true
  in_range Stage.Probe is = probe_meets_a_word c es k u.history u.exists is (u.admitted (ap is_undecided is))
  in_range Stage.Read is = words_are_met c es u.history.within_limits u.history.enabled k (ap has_met is)
  in_range Stage.Write is = words_are_met c es u.history.within_limits u.history.enabled k (ap has_met is)
  in_range Stage.Cas is = words_are_met c es u.history.within_limits u.history.enabled k (ap has_met is)
  in_range Stage.Dirty is = words_are_met c es u.history.within_limits u.history.enabled k (ap has_met is)
  in_range _ is = cc

  on : IsEnabled c w.now e
  on =
      let free = is_free c w.now (Caller k) f x (next_kind f.stage) in
      meets_enabled c w.now e (record {
        seat = lt-ltb k c.callers u.exists;
        kind = rw (next_kind f.stage);
        order = next_comes f.stage f.op u.at;
        range = in_range f.stage refl;
        gates = free.gates;
        phase = free.phase;
        marker = free.marker;
        holder = free.holder;
      })

  abbrev answer : Option Answer
  answer = (progress c w.now f (found c w.now e) x).answer

  asks : (b : Bool) → is_undecided f.stage ≡ b
      → AreAdmitted c.globals (never_behind c es) (asked (entry_of k f.op answer))
  asks true is = entry_admitted answer u.at.outside (u.admitted is)
  asks false is = rw (decided_once c w.now f (found c w.now e) u.at is) tt

  pub goes_on : IsHistory c (with_step (Caller k) x es)
  goes_on = goes_on_by c es e u.history on (asks (is_undecided f.stage) refl)

  fewer : {d : ℕ} → d + 1 ≤ steps_left f.stage f.op → d ≤ n
  fewer h = let few = u.few in omega arith

  pub ends_or_goes_on : (b : Bool) → is_same_stage f.stage Stage.Leave ≡ b
      → Rests (left c (es ++ e ∷ [])).now (Caller k) ⊎ IsUnderway c n (es ++ e ∷ []) k
  ends_or_goes_on true last = inl (record {
    call = flight_then c es k x goes_on u.exists ∙ leaves c w.now f (found c w.now e) last;
    out = refl;
  })
  ends_or_goes_on false last =
      let g = further c w.now f (found c w.now e) u.at last in
      let then = flight_then c es k x goes_on u.exists in
      inr (record {
        history = goes_on;
        exists = u.exists;
        at = rw then g.at;
        few = rw then (fewer g.fewer);
        admitted = rw then (λ later. rw g.same (rw (never_then c es k x goes_on u.exists (g.undecided.0 later).1)
            (u.admitted (g.undecided.0 later).0)));
      })

pub rests_within : (n : ℕ) (c : Config) (es : List Event) (t : Seat) → Rests (left c es).now t → RestsWithin n c es t
unfolding RestsWithin
rests_within zero c es t h = h
rests_within (suc n) c es t h = inl h

-- what is left of a call, after a step of it
then_within : {c : Config} {k : ℕ} (n : ℕ) (es : List Event) → ((fs : List Event) → IsUnderway c n fs k
    → RestsWithin n c fs (Caller k)) → Rests (left c es).now (Caller k) ⊎ IsUnderway c n es k
    → RestsWithin n c es (Caller k)
then_within {c} {k} n es later (inl rests) = rests_within n c es (Caller k) rests
then_within n es later (inr still) = later es still

pub leaves_its_call : {c : Config} {k : ℕ} (n : ℕ) (es : List Event) → IsUnderway c n es k
    → RestsWithin n c es (Caller k)
unfolding RestsWithin
leaves_its_call zero es u = absurd (let one = some_left _ _ u.at in let few = u.few in omega arith)
leaves_its_call {c} {k} (suc n) es u = inr (
  next_at (flight_of (left c es).now (Caller k)).stage,
  λ more h others.
      let v = on_with_others more u h others in
      let same : flight_of (left c (es ++ more)).now (Caller k) ≡ flight_of (left c es).now (Caller k) =
      (others_leave c es more (Caller k) h.within_limits h.enabled others).own.flight in
      let step : next_at (flight_of (left c (es ++ more)).now (Caller k)).stage
      ≡ next_at (flight_of (left c es).now (Caller k)).stage =
      ap (λ (f : Flight). next_at f.stage) same in
      subst (λ (x : Step). IsHistory c (with_step (Caller k) x (es ++ more))
      × RestsWithin n c (with_step (Caller k) x (es ++ more)) (Caller k)) step (
        goes_on v,
        then_within n _ (λ fs. leaves_its_call n fs) (ends_or_goes_on v
            (is_same_stage (flight_of (left c (es ++ more)).now (Caller k)).stage Stage.Leave) refl),
      ),
)

-- A marker that is in may quit, and is out then.
module _ (c : Config) (es : List Event) (k : ℕ) (h : IsHistory c es)
    (inside : is_in (marker_of (left c es).now k) ≡ true) where
  abbrev quits : Event
  quits = record { seat = Marker k; step = Step.Quit }

  exists : k < 8
  exists = let count = (lists_keep_the_protocol c es h.within_limits h.enabled).markers in
      elim (cases_lt k 8) [
        | inl lt ↦ lt
        | inr past ↦ absurd (true≢false (sym inside
            ∙ ap is_in (get_or_past (left c es).now.seats.markers k outside (omega arith))))
      ]

  quits_on : IsEnabled c (left c es).now quits
  quits_on = meets_enabled c (left c es).now quits (record {
    seat = lt-ltb k 8 exists;
    kind = refl;
    order = refl;
    range = refl;
    gates = refl;
    phase = refl;
    marker = inside;
    holder = refl;
  })

  pub quits_history : IsHistory c (with_step (Marker k) Step.Quit es)
  quits_history = goes_on_by c es quits h quits_on tt

  pub quits_rests : Rests (left c (with_step (Marker k) Step.Quit es)).now (Marker k)
  quits_rests = record {
    call = refl;
    out =
        let count = (lists_keep_the_protocol c es h.within_limits h.enabled).markers in
        let lt = exists in
        rw (comes_last c es quits quits_history).leaves
        (get_or-set_same (left c es).now.seats.markers k outside outside (omega arith));
  }

pub marker_quits : (c : Config) (es : List Event) (k n : ℕ) → is_in (marker_of (left c es).now k) ≡ true
    → RestsWithin (suc n) c es (Marker k)
unfolding RestsWithin
marker_quits c es k n inside = inr (
  Step.Quit,
  λ more h others.
      let same = (others_leave c es more (Marker k) h.within_limits h.enabled others).own.marker in
      let still : is_in (marker_of (left c (es ++ more)).now k) ≡ true = rw same inside in (
        quits_history c (es ++ more) k h still,
        rests_within n c _ (Marker k) (quits_rests c (es ++ more) k h still),
      ),
)
