-- The history that a schedule makes of a checked program asks for nothing that isn't admitted, so it is a history of
-- the program's heap, and keeps all promises.
use Rattle.std.proofs.{lemmas.List.{Elements.{All-nil, All-push}, get_or-replicate}, Common.All}
use Rattle.mk_replay.proofs.Vocabulary.{Answer, AreEnabled, Caller, Config, Decided, Entry, Event, Flight, Item, Moment}
use Rattle.mk_replay.proofs.Vocabulary.{Op, Stage, Step, answer_decided, answers_given, asked, at_rest, calls}
use Rattle.mk_replay.proofs.Vocabulary.{comes_next, config_of, ends_call, entry_of, event_of_entry, first_world}
use Rattle.mk_replay.proofs.Vocabulary.{flight_of, history_of, is_same_seat, left, length-append, progress}
use Rattle.mk_replay.proofs.AskedCalls.{Asks, BeginsAsAsked, Waits, others_step, own_step, same_asks, waits}
use Rattle.mk_laws.proofs.Vocabulary.{Bool, Host, IsHistory, List, Marker, None, Option, Seat, Some, World, ℕ, ap}
use Rattle.mk_laws.proofs.Vocabulary.{append-nil, append_assoc, arith, call_decided, cases_eq, enabled_meets}
use Rattle.mk_laws.proofs.Vocabulary.{enabled_parts, false, found, get_or, get_or-set_other, get_or-set_same, inl, inr}
use Rattle.mk_laws.proofs.Vocabulary.{left_more, length, ltb-true, map-append, refl, subst, sym, true, [], ◌&&◌, ◌++◌}
use Rattle.mk_laws.proofs.{Vocabulary.{◌+◌, ◌<◌, ◌∙◌, ◌∷◌, ◌≡◌, ◌≢◌}, Promises.histories_keep_all_promises}
use Rattle.mk_core.proofs.Histories.{calls_more, last_enabled}
use Rattle.mk_core.specs.{Effects.flights_behind, History.{calls_from, left_from}}
use Rattle.mk_laws.specs.Promises.{KeepsAllPromises}
use Rattle.mk_check.proofs.{AdmittedScripts.{first_are_noted, scripts_are_admitted}, GivenAnswers.{among_more, as_list}}
use Rattle.mk_check.proofs.GivenAnswers.{counted, more_ended, other_number, same_number, serves}
use Rattle.mk_check.proofs.ConfigLemmas.{config_within}
use Rattle.mk_check.specs.{Feeding.next_op, Laws.{IsChecked, IsScript}, Feed.{answers_among, ended_calls}}
use Rattle.mk_replay.specs.Replays.{history_from, next_op_for, step_of}
use Rattle.mk_script.{proofs.PassedLines.{is_whole}, specs.Scopes.{script_names}}

-- What one event more makes of a caller's answers, and of the count of its calls that ended.

asked_more : (xs ys : List Decided) → asked (xs ++ ys) ≡ asked xs ++ asked ys
asked_more xs ys = map-append _ xs ys

-- A caller's event is its script's: where it begins a call, it carries what the script asks for next.

begins_so : (program : List Item) (k : ℕ) (given : List Answer) (x : Step) (o : Option Op) (s : Stage) (f : Op)
    → next_op program k given ≡ o → comes_next s f (step_of x o) ≡ true → BeginsAsAsked program k given (step_of x o)
begins_so program k given x o s f next order = grind arith

-- what caller k has called after a history, as its script asks for it
abbrev pub AsksBehind : List Item → List Event → ℕ → Type 0
AsksBehind program es k =
    Asks program k (flight_of (left (config_of program 8) es).now (Caller k)) (ended_calls k es)
    (answers_among k (calls (config_of program 8) es)) (asked (calls (config_of program 8) es))

-- The calls of a history are those that the scripts ask for.
pub record AreAsked (program : List Item) (es : List Event) : Type 0 where
  pub callers : All (λ call. IsScript program call.caller) (asked (calls (config_of program 8) es))
  pub each : (k : ℕ) → IsScript program k → AsksBehind program es k

-- Where a step decides that isn't its call's last one, no answer waited.
once_decided : (n i : ℕ) (before behind : List Answer) (a : Option Answer) (b : Answer) → Waits n before
    → Waits i behind → i ≡ n → behind ≡ before ++ as_list a → a ≡ Some b → length before ≡ n
once_decided n i before behind (Some a) b was is same more e =
    let size = ap length more ∙ length-append before (a ∷ []) in
    let least = was.0 in
    let most = is.1 in
    omega arith
once_decided n i before behind None b was is same more e = cc

module _ (program : List Item) (es : List Event) where
  abbrev c : Config
  c = config_of program 8

  abbrev m : Moment
  m = (left (config_of program 8) es).now

  asked_behind : (e : Event) → asked (calls c (es ++ e ∷ [])) ≡ asked (calls c es) ++ asked (call_decided c m e)
  asked_behind e = ap asked (calls_more c (first_world c) es e) ∙ asked_more (calls c es) (call_decided c m e)

  flight_behind : (e : Event) (k : ℕ) → flight_of (left c (es ++ e ∷ [])).now (Caller k)
      ≡ get_or (flights_behind c m e.seat (found c m e) e.step) k at_rest
  flight_behind e k = ap (λ (w : World). flight_of w.now (Caller k)) (left_more c (first_world c) es e)

  own_more : (j : ℕ) (s : Step) → AreEnabled c (es ++ record { seat = Caller j; step = s } ∷ [])
      → BeginsAsAsked program j (answers_given c es j) s
      → AsksBehind program es j → AsksBehind program (es ++ record { seat = Caller j; step = s } ∷ []) j
  own_more j s enabled begins h =
      let e : Event = record { seat = Caller j; step = s } in
      let f = flight_of m (Caller j) in
      let p = progress c m f (found c m e) s in
      let n = ended_calls j es in
      let all = answers_among j (calls c es) in
      let meets = enabled_meets c m e (last_enabled c (first_world c) es e enabled) in
      let before = (enabled_parts c (first_world c) es (e ∷ []) enabled).0 in
      let inside : j < length m.seats.flights =
      subst (λ (i : ℕ). j < i) (sym (serves c es j before).long) (ltb-true j c.callers meets.seat) in
      let ended : ended_calls j (es ++ e ∷ []) ≡ counted n (ends_call s) =
      more_ended es e j ∙ ap (λ (b : Bool). counted n (b && ends_call s)) (same_number j) in
      let answered : answers_among j (calls c (es ++ e ∷ [])) ≡ all ++ as_list p.answer =
      ap (answers_among j) (calls_more c (first_world c) es e) ∙ (grind (arith, among_more, as_list, same_number)) in
      let once = λ (goes : ends_call s ≡ false) (b : Answer) (is : p.answer ≡ Some b). once_decided n _ all _ p.answer b
      (waits c es j before) (waits c (es ++ e ∷ []) j enabled) (ended ∙ ap (counted n) goes) answered is in
      same_asks _ _ _ _ (flight_behind e j ∙ get_or-set_same m.seats.flights j p.flight at_rest inside) ended answered
      (asked_behind e) (own_step h c m (found c m e) s meets.order begins once)

  others_more : (j k : ℕ) (s : Step) → j ≢ k
      → AsksBehind program es k → AsksBehind program (es ++ record { seat = Caller j; step = s } ∷ []) k
  others_more j k s other h =
      let e : Event = record { seat = Caller j; step = s } in
      let f = flight_of m (Caller j) in
      let n = ended_calls k es in
      let all = answers_among k (calls c es) in
      let a = answer_decided c m e in
      same_asks _ _ _ _ (flight_behind e k ∙ get_or-set_other m.seats.flights j k _ at_rest (λ same. other (sym same)))
      (more_ended es e k ∙ ap (λ (b : Bool). counted n (b && ends_call s))
      (other_number k j (λ same. other (sym same)))) (ap (answers_among k) (calls_more c (first_world c) es e)
      ∙ (grind (arith, among_more, append-nil, other_number))) (asked_behind e) (others_step h j f.op a other)

  -- an event of a seat that has no call
  silent_more : (e : Event) (k : ℕ) → flights_behind c m e.seat (found c m e) e.step ≡ m.seats.flights
      → call_decided c m e ≡ [] → is_same_seat (Caller k) e.seat ≡ false
      → AsksBehind program es k → AsksBehind program (es ++ e ∷ []) k
  silent_more e k still none other h =
      let n = ended_calls k es in
      let all = answers_among k (calls c es) in
      let same : calls c (es ++ e ∷ []) ≡ calls c es = grind (arith, calls_more, append-nil) in
      same_asks _ _ _ _ (flight_behind e k ∙ ap (λ (fs : List Flight). get_or fs k at_rest) still) (more_ended es e k
      ∙ ap (λ (b : Bool). counted n (b && ends_call e.step)) other) (ap (answers_among k) same) (ap asked same) h

  push_caller : (j : ℕ) (o : Op) (a : Option Answer) → IsScript program j → All (λ call. IsScript program call.caller)
      (asked (calls c es)) → All (λ call. IsScript program call.caller) (asked (calls c es) ++ asked (entry_of j o a))
  push_caller j o (Some a) is h = All-push (λ call. IsScript program call.caller) (asked (calls c es)) _ h is
  push_caller j o None is h = subst (All (λ call. IsScript program call.caller)) (sym (append-nil (asked (calls c es))))
      h

  callers_more : (e : Event) → call_decided c m e ≡ [] → All (λ call. IsScript program call.caller) (asked (calls c es))
      → All (λ call. IsScript program call.caller) (asked (calls c (es ++ e ∷ [])))
  callers_more e none h = grind (arith, asked_behind, append-nil)

  one_more : (seat : Seat) (s : Step) → AreEnabled c (es ++ record { seat = seat; step = s } ∷ [])
      → ((k : ℕ) → seat ≡ Caller k → BeginsAsAsked program k (answers_given c es k) s)
      → AreAsked program es → AreAsked program (es ++ record { seat = seat; step = s } ∷ [])
  one_more (Caller j) s enabled begins h =
      let e : Event = record { seat = Caller j; step = s } in
      let meets = enabled_meets c m e (last_enabled c (first_world c) es e enabled) in
      record {
        callers = subst (All (λ call. IsScript program call.caller)) (sym (asked_behind e)) (push_caller j
            (flight_of m (Caller j)).op (answer_decided c m e) (ltb-true j c.callers meets.seat) h.callers);
        each = λ k is. elim (cases_eq j k) [
          | inl same ↦ subst (AsksBehind program (es ++ e ∷ [])) same
              (own_more j s enabled (begins j refl) (subst (AsksBehind program es) (sym same) (h.each k is)))
          | inr other ↦ others_more j k s other (h.each k is)
        ];
      }
  one_more (Marker j) s enabled begins h =
      let e : Event = record { seat = Marker j; step = s } in
      record { callers = callers_more e refl h.callers; each = λ k is. silent_more e k refl refl refl (h.each k is) }
  one_more Host s enabled begins h =
      let e : Event = record { seat = Host; step = s } in
      record { callers = callers_more e refl h.callers; each = λ k is. silent_more e k refl refl refl (h.each k is) }

  entry_more : (x : Entry) → AreEnabled c (es ++ event_of_entry program es x ∷ [])
      → AreAsked program es → AreAsked program (es ++ event_of_entry program es x ∷ [])
  entry_more x enabled h =
      let s = step_of x.form (next_op_for program es x.seat) in
      let e : Event = record { seat = x.seat; step = s } in
      let meets = enabled_meets c m e (last_enabled c (first_world c) es e enabled) in
      one_more x.seat s enabled (λ k is. grind (arith, begins_so)) h

-- Along a schedule.

record GoesOn (program : List Item) (es : List Event) (xs : List Entry) : Type 0 where
  more : List Event
  are : history_from program es xs ≡ es ++ more

goes_on : (program : List Item) (es : List Event) (xs : List Entry) → GoesOn program es xs
unfolding history_from
goes_on program es [] = record { more = []; are = sym (append-nil es) }
goes_on program es (x ∷ xs) =
    let e = event_of_entry program es x in
    let later = goes_on program (es ++ e ∷ []) xs in
    record { more = e ∷ later.more; are = later.are ∙ append_assoc es (e ∷ []) later.more }

asked_along : (program : List Item) (es : List Event) (xs : List Entry) → AreEnabled (config_of program 8)
    (history_from program es xs) → AreAsked program es → AreAsked program (history_from program es xs)
unfolding history_from
asked_along program es [] enabled h = h
asked_along program es (x ∷ xs) enabled h =
    let c = config_of program 8 in
    let next = es ++ event_of_entry program es x ∷ [] in
    let later = goes_on program next xs in
    let front = (enabled_parts c (first_world c) next later.more (subst (AreEnabled c) later.are enabled)).0 in
    asked_along program next xs enabled (entry_more program es x front h)

none_asked : (program : List Item) → AreAsked program []
unfolding left_from calls_from
none_asked program = record {
  callers = All-nil (λ call. IsScript program call.caller);
  each = λ k is. record {
    noted = first_are_noted program k;
    next = λ _ busy. absurd
        (busy (ap (λ (f : Flight). f.stage) (get_or-replicate (length (script_names program)) k at_rest at_rest is)));
  };
}

-- The history of a checked program's schedule, where its events are enabled, is one of the program's heap.
pub schedule_is_history : {program : List Item} (schedule : List Entry) → IsChecked program → AreEnabled
    (config_of program 8) (history_of program schedule) → IsHistory (config_of program 8) (history_of program schedule)
schedule_is_history {program} schedule checked enabled =
    let c = config_of program 8 in
    let es = history_of program schedule in
    let h = asked_along program [] schedule enabled (none_asked program) in
    record {
      within_limits = config_within program 8 (is_whole program checked.of_some_text) checked.well_typed (omega arith);
      enabled = enabled;
      admitted =
          scripts_are_admitted program (length (script_names program)) (asked (calls c es)) checked (omega arith)
          (record {
            callers = h.callers;
            ops = λ k is. record { answers = answers_among k (calls c es); are_noted = (h.each k is).noted };
          });
    }

pub schedule_keeps_all_promises : {program : List Item} (schedule : List Entry) → IsChecked program
    → AreEnabled (config_of program 8) (history_of program schedule)
    → KeepsAllPromises (config_of program 8) (history_of program schedule)
schedule_keeps_all_promises {program} schedule checked enabled =
    histories_keep_all_promises (config_of program 8) (history_of program schedule)
    (schedule_is_history schedule checked enabled)
