-- A call under the turn, from its parts: its caller has one entry more, which one event decides.
use Rattle.mk_alloc.proofs.Vocabulary.{Answer, AreOfOthers, Bool, CalledInTurn, Caller, Config, Decided, Event, Flight}
use Rattle.mk_alloc.proofs.Vocabulary.{Has, IsEnabledTo, IsFresh, IsHistory, IsOutOfStop, IsTurn, KeepsRegisters, List}
use Rattle.mk_alloc.proofs.Vocabulary.{Makes, Op, PassState, Seat, Some, Step, TakesTurn, TurnGoesOn, TurnOf, World, ℕ}
use Rattle.mk_alloc.proofs.Vocabulary.{and_parts, ap, append-nil, append_assoc, arith, at_rest, call_of, caller_of_pass}
use Rattle.mk_alloc.proofs.Vocabulary.{calls_by, entry_of, event_of, false, has_operands, is_one_of, is_same_seat}
use Rattle.mk_alloc.proofs.Vocabulary.{is_take, left, list_all, lt-ltb, made, meets_enabled, no_more_calls, not}
use Rattle.mk_alloc.proofs.Vocabulary.{not-true, not_both, now_of, only_one, only_seen, only_seen_by, or_cases}
use Rattle.mk_alloc.proofs.Vocabulary.{others_add_none, others_one, own_before, own_calls, own_seat, pass_before}
use Rattle.mk_alloc.proofs.Vocabulary.{phase_of, refl, subst, sym, true, turn_stays, waits_for, [], ⊎_elim, ◌&&◌, ◌++◌}
use Rattle.mk_alloc.proofs.{Vocabulary.{◌<◌, ◌∙◌, ◌∷◌, ◌≡◌, ◌⊎◌}, Decisions.{decided_in, own_more, registers_stay}}
use Rattle.mk_alloc.proofs.OwnGives.{GivesNone, doing_gives, gives_append, others_give}
use Rattle.mk_alloc.proofs.Parts.{IsHolders, in_turn_then, others_lack, seen_after, seen_by, seen_then}
use Rattle.mk_alloc.{proofs.{Going.IsCallers, ListParts.{Lacks, SomeKind}}, specs.TurnCycles.{CallIsExact}}
use Rattle.mk_caller.proofs.Below.Laws.{Vocabulary.{is_under_turn, ◌≤◌}, Actors.give_phase}
use Rattle.mk_caller.proofs.Below.Words.{OverPhases.end_is_behind_over, Seats.others_own}
use Rattle.mk_caller.{proofs.Below.Words.Undecided.{decides_nothing}, specs.States.{IsHomePass, IsIdleCaller, never_of}}
use Rattle.mk_caller.specs.Below.Words.{States.CallersAreBeforeOver, Steps.may_decide}
use Rattle.mk_caller.proofs.Below.Words.TurnSteps.{takes as takes_turn}

-- Waiting and taking the turn add no entry, nor does a `give`.

pub of_others_alone : (p : PassState) (others : List Event) → IsCallers p → Has p.seats p.seat
    → AreOfOthers p.seats others → AreOfOthers (Caller (caller_of_pass p) ∷ []) others
of_others_alone p others seat own of_others =
    subst (λ (s : Seat). AreOfOthers (s ∷ []) others) seat (others_own p.seats p.seat others own of_others)

idle_adds : (p : PassState) (es : List Event) (s : Step) → may_decide s ≡ false
    → own_calls p (es ++ event_of p s ∷ []) ≡ own_calls p es
idle_adds p es s idle =
    ap (λ (l : List Decided). calls_by (caller_of_pass p) l) (no_more_calls p.table.config es (event_of p s)
    (decides_nothing p.table.config (left p.table.config es).now p.seat s idle))

pub step_adds_none : {p q : PassState} {s : Step} (m : Makes p s q) → IsCallers p → Has p.seats p.seat
    → may_decide s ≡ false → own_calls p q.seen ≡ own_calls p p.seen
step_adds_none {p} {s} m seat own idle =
    ap (λ (x : PassState). own_calls p x.seen) m.is ∙ idle_adds p (p.seen ++ m.others) s idle ∙ others_add_none _ _ _
    m.others (of_others_alone p m.others seat own m.of_others)

waits_add : (p : PassState) (es more : List Event) → IsCallers p → Has p.seats p.seat
    → list_all (waits_for p) more ≡ true → own_calls p (es ++ more) ≡ own_calls p es
waits_add p es [] seat own all = ap (λ (l : List Event). own_calls p l) (append-nil es)
waits_add p es (e ∷ rest) seat own all =
    let parts = and_parts (waits_for p e) (list_all (waits_for p) rest) all in
    ap (λ (l : List Event). own_calls p l) (sym (append_assoc es (e ∷ []) rest)) ∙ waits_add p (es ++ e ∷ []) rest seat
    own parts.1 ∙ ⊎_elim (λ (out : not (is_one_of p.seats e.seat) ≡ true). others_add_none p.table.config
    (caller_of_pass p) es (e ∷ []) (others_one (Caller (caller_of_pass p) ∷ []) e
    (λ has. not_both p.seats e.seat (not-true (is_one_of p.seats e.seat) out) (rw (seat ∙ sym (only_one (Caller
    (caller_of_pass p)) e.seat has)) at own)))) (λ (take : (is_take e.step && is_same_seat
    e.seat p.seat) ≡ true). ap (λ (l : List Decided). calls_by (caller_of_pass p) l) (no_more_calls p.table.config es e
    (decides_nothing p.table.config (left p.table.config es).now e.seat e.step (grind arith))))
    (or_cases (not (is_one_of p.seats e.seat)) (is_take e.step && is_same_seat e.seat p.seat) parts.0)

-- A caller took the turn for its operation.
pub record Taken (o : Op) (p q : PassState) : Type 0 where
  pub seat : IsCallers p
  pub own : Has p.seats p.seat
  pub takes : TakesTurn p (Some o) q

module _ {o : Op} {p taken : PassState} (x : Taken o p taken) where
  abbrev pub waited : PassState
  waited = x.takes.waited

  abbrev pub taking : Makes waited (Step.Take (Some o)) taken
  taking = x.takes.takes.makes

  waited_same : waited ≡ record p { seen = waited.seen }
  waited_same = only_seen p waited x.takes.waits.more x.takes.waits.is

  pub taken_is : taken ≡ record p { seen = taken.seen }
  taken_is = cc (only_seen_by waited taken (Step.Take (Some o)) taking, waited_same)

  pub taken_callers : IsCallers taken
  taken_callers = subst (λ (y : PassState). IsCallers y) (sym taken_is) x.seat

  pub taken_adds : own_calls p taken.seen ≡ own_calls p p.seen
  taken_adds =
      sym (ap (λ (y : PassState). own_calls y taken.seen) waited_same)
      ∙ step_adds_none taking (subst (λ (y : PassState). IsCallers y) (sym waited_same) x.seat) (own_before taking) refl
      ∙ ap (λ (y : PassState). own_calls y waited.seen) waited_same ∙ ap (λ (y : PassState). own_calls p y.seen)
      x.takes.waits.is ∙ waits_add p p.seen x.takes.waits.more x.seat x.own x.takes.waits.only

  -- It has the turn then.
  pub taken_turn : IsTurn taken
  taken_turn = record {
    own = taking.pass.own;
    holds = (takes_turn waited (Some o) 0 taken (record { makes = taking; tells = x.takes.takes.finds }) refl).holds;
    history = taking.pass.history;
  }

  abbrev pub to_taken : List Event
  to_taken = x.takes.waits.more ++ (taking.others ++ event_of waited (Step.Take (Some o)) ∷ [])

  pub taken_seen : taken.seen ≡ p.seen ++ to_taken
  taken_seen =
      seen_then p.seen waited.seen taken.seen x.takes.waits.more _ (ap (λ (y : PassState). y.seen) x.takes.waits.is)
      (seen_after taking)

  -- So its registers are as they were.
  pub registers_taken : KeepsRegisters (caller_of_pass p) (never_of p) (never_of taken)
  registers_taken =
      let c : Config = p.table.config in
      let k : ℕ = caller_of_pass p in
      let whole : IsHistory c (p.seen ++ to_taken) = rw taken_seen at (rw taken_is at taking.pass.history) in
      let none = own_more c k p.seen to_taken [] (ap (λ (l : List Event). own_calls p l) (sym taken_seen) ∙ taken_adds
      ∙ sym (append-nil (own_calls p p.seen))) in
      grind (arith, taken_is, taken_seen, registers_stay, to_taken, whole, KeepsRegisters)

pub taken_same : {p taken : PassState} {o : Op} → IsCallers p → Has p.seats p.seat → TakesTurn p (Some o) taken
    → taken ≡ record p { seen = taken.seen }
taken_same seat own takes = taken_is (record { seat = seat; own = own; takes = takes })

-- It was answered in its turn, and gave it back.
pub record GivenBack (o : Op) (a : Answer) (p taken done q : PassState) : Type 0 where
  pub took : Taken o p taken
  pub fresh : IsFresh taken (Some o)
  pub on : TurnGoesOn (Some a) taken done
  pub gives : Makes done Step.Give q
  pub rests : call_of q ≡ at_rest

module _ {o : Op} {a : Answer} {p taken done q : PassState} (g : GivenBack o a p taken done q) where
  pub done_is : done ≡ record p { seen = done.seen }
  done_is = cc (only_seen taken done g.on.does.more g.on.does.is, taken_is g.took)

  abbrev pub took_at : List Event
  took_at = (waited g.took).seen ++ (taking g.took).others

  abbrev pub in_turn : List Event
  in_turn = g.on.does.more ++ g.gives.others

  abbrev more : List Event
  more = to_taken g.took ++ (g.on.does.more ++ (g.gives.others ++ event_of done Step.Give ∷ []))

  seen_is : q.seen ≡ p.seen ++ more
  seen_is =
      seen_then p.seen taken.seen q.seen (to_taken g.took) _ (taken_seen g.took)
      (seen_then taken.seen done.seen q.seen g.on.does.more _ (seen_by g.on.does) (seen_after g.gives))

  pub q_is : q ≡ record p { seen = p.seen ++ more }
  q_is = cc (only_seen_by done q Step.Give g.gives, done_is, seen_is)

  pub entry : own_calls p (p.seen ++ more) ≡ own_calls p p.seen ++ entry_of (caller_of_pass p) o (Some a)
  entry =
      ap (λ (l : List Event). own_calls p l) (sym seen_is) ∙ sym (ap (λ (y : PassState). own_calls y q.seen) done_is)
      ∙ step_adds_none g.gives
      (subst (λ (y : PassState). IsCallers y) (sym done_is) g.took.seat) (own_before g.gives) refl
      ∙ ap (λ (y : PassState). own_calls y done.seen)
      (done_is ∙ sym (ap (λ (y : PassState). record y { seen = done.seen }) (taken_is g.took))) ∙ g.on.entry
      ∙ ap (λ (l : List Decided). l ++ entry_of (caller_of_pass taken) (call_of taken).op (Some a))
      (ap (λ (y : PassState). own_calls y taken.seen) (taken_is g.took) ∙ taken_adds g.took)
      ∙ ap (λ (f : Flight). own_calls p p.seen ++ entry_of (caller_of_pass taken) f.op (Some a)) g.fresh.call
      ∙ ap (λ (y : PassState). own_calls p p.seen ++ entry_of (caller_of_pass y) o (Some a)) (taken_is g.took)

  pub whole : IsHistory p.table.config (p.seen ++ more)
  whole = subst (λ (y : PassState). IsHistory y.table.config y.seen) q_is g.gives.pass.history

  -- what the turn has seen after its `take`
  pub within_is : (part : List Event)
      → taken.seen ++ part ≡ took_at ++ record { seat = p.seat; step = Step.Take (Some o) } ∷ part
  within_is part =
      ap (λ (y : PassState). y.seen ++ part) (taking g.took).is
      ∙ ap (λ (y : PassState). (took_at ++ record { seat = y.seat; step = Step.Take (Some o) } ∷ []) ++ part)
      (waited_same g.took) ∙ append_assoc took_at (record { seat = p.seat; step = Step.Take (Some o) } ∷ []) part

  pub turn_is : done.seen ++ g.gives.others ≡ took_at ++ record { seat = p.seat; step = Step.Take (Some o) } ∷ in_turn
  turn_is = cc (seen_by g.on.does, append_assoc taken.seen g.on.does.more g.gives.others, within_is in_turn)

  pub given_turn : IsTurn done
  given_turn = in_turn_then turn_stays taken done (λ y h. h) (taken_turn g.took) g.on.does (pass_before g.gives).history

  pub lacks_given : (kind : SomeKind) → IsHolders kind → Lacks kind g.gives.others
  lacks_given kind holders = others_lack kind done q Step.Give holders given_turn g.gives g.gives.pass.history

  pub turn_took : (left p.table.config took_at).now.words.turn ≡ 0
  turn_took =
      sym (ap (λ (y : PassState). (left y.table.config took_at).now.words.turn) (waited_same g.took))
      ∙ sym g.took.takes.takes.finds

  pub turn_goes_on : GivesNone p.seat in_turn
  turn_goes_on =
      gives_append p.seat g.on.does.more g.gives.others (rw (taken_is g.took) at (doing_gives taken done g.on.does)) (rw
      done_is at (others_give done.seat done.seats g.gives.others (own_before g.gives) g.gives.of_others))

  -- Taking it leaves the phase.
  pub phase_taken : phase_of (left p.table.config took_at).now.words ≡ phase_of (now_of taken).words
  phase_taken =
      sym (ap (λ (w : World). phase_of w.now.words) (made (waited g.took) (Step.Take (Some o)) taken (taking
      g.took)).world ∙ ap (λ (y : PassState). phase_of (left y.table.config took_at).now.words) (waited_same g.took))

  -- the turn after its last event
  abbrev pub turn_of : TurnOf p.table.config p.seat (done.seen ++ g.gives.others)
  turn_of = record {
    before = took_at;
    op = Some o;
    behind = in_turn;
    is = turn_is;
    took = turn_took;
    goes_on = turn_goes_on;
  }

  abbrev pub called : (flag : Bool) → CallIsExact flag turn_of (Some o) → CalledInTurn flag p o a q
  called flag exact = record {
    taken = taken;
    done = done;
    takes = g.took.takes;
    acts = g.on.does;
    gives = g.gives;
    more = more;
    is = q_is;
    entry = entry;
    decided = decided_in p o a more whole entry;
    ends = record { turn = turn_of; exact = exact };
    turn_op = refl;
    turn_part = refl;
    rest = g.rests;
  }

-- A caller may take the turn for a New or a Free, and finds no stop, and not the end of all.

pub callers : {p : PassState} → IsIdleCaller p → IsCallers p
callers {p} idle = own_seat p (caller_of_pass p) idle.seat

-- the turn that an idle caller took, from the pass that it lent
pub took_by : {home p taken : PassState} {o : Op} → home ≡ p → IsHomePass p
    → TakesTurn home (Some o) taken → Taken o p taken
took_by {p = p} {taken = taken} {o = o} same of_home takes = grind (arith, callers)

pub take_allowed : {p : PassState} (o : Op) → IsIdleCaller p → caller_of_pass p < p.table.config.callers
    → is_under_turn o ≡ true → has_operands p.table.config o ≡ true → IsEnabledTo p (Step.Take (Some o))
take_allowed o idle lt under operands = grind (arith, callers, meets_enabled, lt-ltb)

at_most_one : (n : ℕ) → n ≤ 1 → (n ≡ 0) ⊎ (n ≡ 1)
at_most_one x0 le = grind arith

-- Whose only seat is a caller's has seen no `over`.
pub taken_phase : {p q : PassState} {o : Op} → IsCallers p → caller_of_pass p < p.table.config.callers
    → p.seats ≡ p.seat ∷ [] → Has p.seats p.seat → TakesTurn p (Some o) q → IsFresh q (Some o)
    → IsHistory q.table.config q.seen → CallersAreBeforeOver q.table.config q.seats q.seen → IsOutOfStop (now_of q)
taken_phase seat lt alone own takes fresh history before =
    grind (arith, give_phase, at_most_one, taken_same, end_is_behind_over, only_one)
