-- What a script was given after a history, with one event more.
use Rattle.std.proofs.Common.{eq-eqb, get_or-set_other, get_or-set_same, length-set, length-take, ltb-true, set, ◌≢◌}
use Rattle.std.proofs.lemmas.{List.Sums.{count_by-le-length, sum_by-cons, sum_by_push}, Bool.cases_eq}
use Rattle.std.proofs.lemmas.{Bool.Decides.nat_tests, List.{take-append-le, Elements.filter-append}}
use Rattle.std.{proofs.lemmas.Option.{slice_get-get_or, slice_get_past}, specs.List.{cons_option, slice_get}}
use Rattle.mk_check.proofs.Vocabulary.{Answer, Bool, Config, List, None, Op, Option, Some, ℕ, ap, append-nil}
use Rattle.mk_check.proofs.Vocabulary.{append_assoc, arith, false, get_or, if◌then◌else◌, inl, inr, length}
use Rattle.mk_check.proofs.Vocabulary.{length-append, length-replicate, map-append, option_or, refl, replicate, subst}
use Rattle.mk_check.proofs.Vocabulary.{suc, sym, take, take_more, true, zero, [], ◌&&◌, ◌++◌, ◌+◌, ◌<◌, ◌==◌, ◌∙◌, ◌∷◌}
use Rattle.mk_check.proofs.{Vocabulary.{◌≡◌, ◌≤◌}, DecidedStages.{Goes, count, ends, goes, has_stage, pending}}
use Rattle.mk_core.proofs.{Histories.{calls_more, enabled_parts, last_enabled}, Conditions.enabled_meets}
use Rattle.mk_core.specs.{Calls.{Decided, entry_of}, Effects.{answer_decided, flights_behind, progress}}
use Rattle.mk_core.specs.History.{AreEnabled, AreEnabledFrom, World, call_decided, calls, calls_from, first_world, left}
use Rattle.mk_core.specs.{History.{left_from, world_behind}, declared.events.Seat.TheVariants.{Caller, Host, Marker}}
use Rattle.mk_core.specs.{Accesses.found, Calls.at_rest, Enabled.IsEnabled, History.is_same_seat}
use Rattle.mk_core.specs.{Moments.{Moment, flight_of}, declared.events.{Event.Event, Seat.Seat}}
use Rattle.mk_core.specs.declared.{events.Step.Step, seats.{Flight.Flight, Progress.Progress}}
use Rattle.mk_check.specs.Feed.{EndedCallsAreAnswered, answer_waiting, answers_among, answers_given, ended_calls}
use Rattle.mk_check.{proofs.Among.ends_call_of, specs.Feed.ends_call}

abbrev pub as_list : Option Answer → List Answer
as_list a = cons_option a []

-- a count that goes up by 1, or doesn't
abbrev pub counted : ℕ → Bool → ℕ
counted n b = if b then n + 1 else n

-- the calls of caller k so far: how many of them have ended, and the answers of those that are decided
pub record Serves (callers : ℕ) (flights : List Flight) (k n : ℕ) (answers : List Answer) : Type 0 where
  pub long : length flights ≡ callers
  pub stage : has_stage (get_or flights k at_rest).op (get_or flights k at_rest).stage ≡ true
  pub decided : length answers ≡ n + pending (get_or flights k at_rest).stage

-- the same after an event, which is caller k's or another's, and may be its call's last one
pub record ServesMore (callers : ℕ) (new : List Flight) (k n : ℕ) (answers : List Answer) (decided : Option Answer)
    (mine is_last : Bool) : Type 0 where
  pub serves : Serves callers new k (counted n (mine && is_last)) (answers ++ (if mine then as_list decided else []))
  -- at the last step an answer is decided, which no step decides anew
  pub last : (mine && is_last) ≡ true → (decided ≡ None) × (length answers ≡ n + 1)
  pub once : (a : Answer) → mine ≡ true → decided ≡ Some a → length answers ≡ n
  pub few : n ≤ length answers

-- the answers of a caller's among the calls

pub among_more : (k : ℕ) (xs ys : List Decided) → answers_among k (xs ++ ys) ≡ answers_among k xs ++ answers_among k ys
among_more k xs ys = grind (arith, filter-append, map-append)

pub same_number : (j : ℕ) → (j == j) ≡ true
same_number j = eq-eqb j j refl

pub other_number : (j k : ℕ) → j ≢ k → (j == k) ≡ false
other_number j k ne = grind (arith, nat_tests)

among_others : (k j : ℕ) (o : Op) (a : Option Answer) → j ≢ k → answers_among k (entry_of j o a) ≡ []
among_others k j o x3 ne = grind (arith, other_number)

pending_behind : (n p p' k : ℕ) (a : Option Answer) → k ≡ n + p → p' ≡ p + count a → k + length (as_list a) ≡ n + p'
pending_behind n p p' k x4 h i = grind arith

none_before : (a : Answer) (b : Option Answer) (p p' : ℕ) → b ≡ Some a → p' ≤ 1 → p' ≡ p + count b → p ≡ 0
none_before a b p p' is few h = let e : count b ≡ 1 = ap count is in omega arith

serves_at : (callers : ℕ) (flights : List Flight) (k n : ℕ) (answers : List Answer) (f : Flight)
    → get_or flights k at_rest ≡ f → length flights ≡ callers → has_stage f.op f.stage ≡ true
    → length answers ≡ n + pending f.stage → Serves callers flights k n answers
serves_at callers flights k n answers f is long stage answered = grind (arith, has_stage, pending)

-- a step of caller k's that isn't its call's last one
goes_more : {callers : ℕ} {flights : List Flight} {k n : ℕ} {answers : List Answer} {p : Progress} → k < callers
    → Serves callers flights k n answers → Goes (get_or flights k at_rest) p
    → ServesMore callers (set flights k p.flight) k n answers p.answer true false
goes_more {callers} {flights} {k} {n} {answers} {p} lt h g =
    let was = pending (get_or flights k at_rest).stage in
    let total = length-append answers (as_list p.answer) in
    let behind = pending_behind n was (pending p.flight.stage) (length answers) p.answer h.decided g.pending in
    let a = h.decided in
    let long = h.long in
    record {
      serves =
          serves_at callers (set flights k p.flight) k n (answers ++ as_list p.answer) p.flight (get_or-set_same flights
          k p.flight at_rest (omega arith)) (length-set flights k p.flight ∙ h.long) g.stage (omega arith);
      last = λ e. cc;
      once = λ b _ e. (let none = none_before b p.answer was (pending p.flight.stage) e (grind arith)
          g.pending in omega arith);
      few = omega arith;
    }

-- the last step of its call
ends_more : {callers : ℕ} {flights : List Flight} {k n : ℕ} {answers : List Answer} (p : Progress) → k < callers
    → Serves callers flights k n answers → pending (get_or flights k at_rest).stage ≡ 1
    → p ≡ record { flight = at_rest; answer = None }
    → ServesMore callers (set flights k p.flight) k n answers p.answer true true
ends_more {callers} {flights} {k} {n} {answers} p lt h one is =
    let a = h.decided in
    let long = h.long in
    let none : p.answer ≡ None = ap (λ (x : Progress). x.answer) is in
    let rests : get_or (set flights k p.flight) k at_rest ≡ at_rest =
    get_or-set_same flights k p.flight at_rest (omega arith) ∙ ap (λ (x : Progress). x.flight) is in
    let more : answers ++ as_list p.answer ≡ answers = grind (arith, as_list, append-nil) in
    record {
      serves =
          serves_at callers (set flights k p.flight) k (n + 1) (answers ++ as_list p.answer) at_rest rests
          (length-set flights k p.flight ∙ h.long) refl (ap length more ∙ omega arith);
      last = λ _. (none, omega arith);
      once = λ b _ e. (let never = sym none ∙ e in cc);
      few = omega arith;
    }

-- a step of another's
others_more : {callers : ℕ} {flights : List Flight} (new : List Flight) {k n : ℕ} {answers : List Answer}
    (decided : Option Answer)
    (last : Bool) → get_or new k at_rest ≡ get_or flights k at_rest → length new ≡ length flights
    → Serves callers flights k n answers → ServesMore callers new k n answers decided false last
others_more {callers} {flights} new {k = k} {n = n} {answers = answers} decided last same long h =
    let a = h.decided in record {
      serves =
          serves_at callers new k n (answers ++ []) (get_or flights k at_rest) same (long ∙ h.long) h.stage
          (ap length (append-nil answers) ∙ omega arith);
      last = λ e. cc;
      once = λ b e. cc;
      few = omega arith;
    }

-- what an event makes of them
abbrev Behind : Config → Moment → Seat → Step → ℕ → ℕ → List Answer → Type 0
Behind c m seat x k n answers =
    let e : Event = record { seat = seat; step = x } in
    ServesMore c.callers (flights_behind c m seat (found c m e) x) k n answers (answer_decided c m e)
    (is_same_seat (Caller k) seat) (ends_call x)

own_step : (c : Config) (m : Moment) {k n : ℕ} {answers : List Answer} (x : Step) (last : Bool) → ends_call x ≡ last
    → IsEnabled c m (record { seat = Caller k; step = x }) → Serves c.callers m.seats.flights k n answers
    → let p = progress c m (flight_of m (Caller k)) (found c m (record { seat = Caller k; step = x })) x in
    ServesMore c.callers (set m.seats.flights k p.flight) k n answers p.answer true last
own_step c m {k = k} {n = n} {answers = answers} x true is enabled h =
    let e : Event = record { seat = Caller k; step = x } in
    let f = flight_of m (Caller k) in
    let meets = enabled_meets c m e enabled in
    ends_more (progress c m f (found c m e) x) (ltb-true k c.callers meets.seat) h
    (ends c m f x meets.order meets.holder is) (grind arith)
own_step c m {k = k} {n = n} {answers = answers} x false is enabled h =
    let e : Event = record { seat = Caller k; step = x } in
    let f = flight_of m (Caller k) in
    let meets = enabled_meets c m e enabled in
    goes_more (ltb-true k c.callers meets.seat) h
    (goes c m f.stage f.op f.q f.p f.r f.loaded (found c m e) x h.stage meets.order is)

serves_more : (c : Config) (m : Moment) {k n : ℕ} {answers : List Answer} (seat : Seat) (x : Step) → IsEnabled c m
    (record { seat = seat; step = x }) → Serves c.callers m.seats.flights k n answers → Behind c m seat x k n answers
serves_more c m {k = k} {n = n} {answers = answers} (Caller j) x enabled h = elim (cases_eq k j) [
  | inl same ↦ subst (λ (i : ℕ). Behind c m (Caller i) x k n answers) same
      (rw (same_number k) (own_step c m x (ends_call x) refl
      (subst (λ (i : ℕ). IsEnabled c m (record { seat = Caller i; step = x })) (sym same) enabled) h))
  | inr ne ↦ rw (other_number k j ne) (others_more _ _ (ends_call x)
      (get_or-set_other m.seats.flights j k _ at_rest ne) (length-set m.seats.flights j _) h)
]
serves_more c m {k = k} {n = n} {answers = answers} (Marker j) x enabled h =
    others_more m.seats.flights None (ends_call x) refl refl h
serves_more c m {k = k} {n = n} {answers = answers} Host x enabled h = others_more _ None _ refl refl h

-- the answers that an event adds
event_among : (c : Config) (m : Moment) (k : ℕ) (seat : Seat) (x : Step)
    → answers_among k (call_decided c m (record { seat = seat; step = x }))
    ≡ (if is_same_seat (Caller k) seat then as_list (answer_decided c m (record { seat = seat; step = x })) else [])
event_among c m k x3 x = grind (arith, same_number, as_list, other_number, among_others)

counts_more : (n : ℕ) (b : Bool) → n + (if b then 1 else 0) ≡ counted n b
counts_more n x1 = grind arith

serves_from : (c : Config) (w : World) (k n : ℕ) (answers : List Answer) (es : List Event) → AreEnabledFrom c w es
    → Serves c.callers w.now.seats.flights k n answers → Serves c.callers (left_from c w es).now.seats.flights k
    (n + ended_calls k es) (answers ++ answers_among k (calls_from c w es))
unfolding left_from AreEnabledFrom calls_from
serves_from c w k n answers [] en h = grind (arith, append-nil)
serves_from c w k n answers (e ∷ es) en h =
    let next = world_behind c w e in
    let step = (serves_more c w.now e.seat e.step en.0 h).serves in
    let ih = serves_from c next k _ _ es en.1 step in
    let rest = answers_among k (calls_from c next es) in
    let more = if is_same_seat (Caller k) e.seat then as_list (answer_decided c w.now e) else [] in
    let ended : counted n (ends_call_of k e) + ended_calls k es ≡ n + ended_calls k (e ∷ es) =
    ap (λ (i : ℕ). i + ended_calls k es) (sym (counts_more n (ends_call_of k e)))
    ∙ (let cons = sum_by-cons (λ (x : Event). if ends_call_of k x then 1 else 0) e es in omega arith) in
    let all : (answers ++ more) ++ rest ≡ answers ++ answers_among k (call_decided c w.now e ++ calls_from c next es) =
    grind (arith, append_assoc, event_among, among_more) in
    subst (λ (xs : List Answer). Serves c.callers (left_from c next es).now.seats.flights k
    (n + ended_calls k (e ∷ es)) xs) all (subst
    (λ (i : ℕ). Serves c.callers (left_from c next es).now.seats.flights k i ((answers ++ more) ++ rest)) ended ih)

first_flight : (callers k : ℕ) → get_or (replicate callers at_rest) k at_rest ≡ at_rest
first_flight zero k = refl
first_flight (suc callers) zero = refl
first_flight (suc callers) (suc k) = first_flight callers k

pub serves : (c : Config) (es : List Event) (k : ℕ) → AreEnabled c es
    → Serves c.callers (left c es).now.seats.flights k (ended_calls k es) (answers_among k (calls c es))
serves c es k h =
    subst (λ (n : ℕ). Serves c.callers (left c es).now.seats.flights k n (answers_among k (calls c es))) (omega arith)
    (serves_from c (first_world c) k 0 [] es h (serves_at c.callers (replicate c.callers at_rest) k 0 [] at_rest
    (first_flight c.callers k) (length-replicate c.callers at_rest) refl refl))

-- one event more: what is given, and what waits for its call's last step

abbrev pub given_by : Bool → Bool → Option Answer → Option Answer → List Answer
given_by mine last decided waiting = if mine then (if last then as_list (option_or decided waiting) else []) else []

abbrev pub waiting_by : Bool → Bool → Option Answer → Option Answer → Option Answer
waiting_by mine last decided waiting = if mine then (if last then None else option_or decided waiting) else waiting

last_of : (answers : List Answer) (n : ℕ) (b : Answer) → length answers ≡ n → slice_get (answers ++ b ∷ []) n ≡ Some b
last_of [] n b h = rw (sym h) refl
last_of (a ∷ answers) n b h = rw (sym h) (last_of answers (length answers) b refl)

given_case : (answers : List Answer) (n : ℕ) (a : Option Answer) (mine last : Bool) → n ≤ length answers
    → ((mine && last) ≡ true → (a ≡ None) × (length answers ≡ n + 1)) → take (counted n (mine && last))
    (answers ++ (if mine then as_list a else [])) ≡ take n answers ++ given_by mine last a (slice_get answers n)
given_case answers n a true true few l =
    let lt : n < length answers = (let e = (l refl).1 in omega arith) in
    let waits = slice_get-get_or answers n Answer.Done lt in
    rw ((l refl).0, append-nil answers, waits) (take_more answers n Answer.Done lt)
given_case answers n a true false few l = take-append-le n answers (as_list a) few ∙ sym (append-nil (take n answers))
given_case answers n a false last few l = ap (take n) (append-nil answers) ∙ sym (append-nil (take n answers))

-- the answers and the count of the ended calls, with one event more
more_answers : (c : Config) (es : List Event) (e : Event) (k : ℕ) → answers_among k (calls c (es ++ e ∷ []))
    ≡ answers_among k (calls c es)
    ++ (if is_same_seat (Caller k) e.seat then as_list (answer_decided c (left c es).now e) else [])
more_answers c es e k = grind (arith, calls_more, among_more, event_among)

pub more_ended : (es : List Event) (e : Event) (k : ℕ)
    → ended_calls k (es ++ e ∷ []) ≡ counted (ended_calls k es) (ends_call_of k e)
more_ended es e k = grind (arith, sum_by_push, counts_more)

step_of : (c : Config) (es : List Event) (e : Event) (k : ℕ) → AreEnabled c (es ++ e ∷ [])
    → Behind c (left c es).now e.seat e.step k (ended_calls k es) (answers_among k (calls c es))
step_of c es e k h =
    let parts = enabled_parts c (first_world c) es (e ∷ []) h in
    serves_more c (left c es).now _ _ (last_enabled c _ es e h) (serves c es k parts.0)

pub given_more : (c : Config) (es : List Event) (e : Event) (k : ℕ) → AreEnabled c (es ++ e ∷ [])
    → answers_given c (es ++ e ∷ []) k ≡ answers_given c es k ++ given_by (is_same_seat (Caller k) e.seat)
    (ends_call e.step) (answer_decided c (left c es).now e) (answer_waiting c es k)
given_more c es e k h =
    let s = step_of c es e k h in
    rw (more_ended es e k, more_answers c es e k) (given_case (answers_among k (calls c es)) (ended_calls k es)
    (answer_decided c (left c es).now e) (is_same_seat (Caller k) e.seat) (ends_call e.step) s.few s.last)

pub waiting_more : (c : Config) (es : List Event) (e : Event) (k : ℕ) → AreEnabled c (es ++ e ∷ [])
    → answer_waiting c (es ++ e ∷ []) k ≡ waiting_by (is_same_seat (Caller k) e.seat) (ends_call e.step)
    (answer_decided c (left c es).now e) (answer_waiting c es k)
waiting_more c es e k h =
    let s = step_of c es e k h in
    rw (more_ended es e k, more_answers c es e k) (grind (arith, append-nil, slice_get_past, last_of))

-- There are no more answers than events.
pub few_answers : (c : Config) (es : List Event) (k : ℕ) → length (answers_given c es k) ≤ length es
few_answers c es k =
    let t = length-take (ended_calls k es) (answers_among k (calls c es)) in
    let n = count_by-le-length (ends_call_of k) es in
    omega arith

pub ended_calls_are_answered : EndedCallsAreAnswered
ended_calls_are_answered c es k h =
    let s = serves c es k h in
    let a = s.decided in
    let t = length-take (ended_calls k es) (answers_among k (calls c es)) in
    omega arith
