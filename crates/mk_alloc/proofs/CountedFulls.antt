-- The three steps of a Full: the tally is looked at, raised, and the New decided.
use Rattle.std.proofs.Common.{min}
use Rattle.mk_alloc.proofs.Vocabulary.{Acts, Answer, AnswersFull, Caller, Config, Decided, Does, Ended, Event, Flight}
use Rattle.mk_alloc.proofs.Vocabulary.{Holding, Holds, IsAtPhase, IsEnabledTo, IsQuiet, IsTurn, IsUnplaced, LeavesTurn}
use Rattle.mk_alloc.proofs.Vocabulary.{List, Moment, None, Op, Option, PassState, Placing, RunPages, Seat, SeesNone}
use Rattle.mk_alloc.proofs.Vocabulary.{Some, Stage, Steady, Step, World, ℕ, acting_caller, answer_decided, ap, arith}
use Rattle.mk_alloc.proofs.Vocabulary.{call_decided, call_of, caller_of_pass, calls_more, calm_keeps, comes_next, ends}
use Rattle.mk_alloc.proofs.Vocabulary.{entry_of, eq-eqb, event_of, false, flight_of, free_then, full_answers}
use Rattle.mk_alloc.proofs.Vocabulary.{fulls_append, fulls_of, gates_behind, has_operands, has_place, in_a_word}
use Rattle.mk_alloc.proofs.Vocabulary.{is_begin, is_close, is_pending_free_at, is_run_gone, is_undecided_new}
use Rattle.mk_alloc.proofs.Vocabulary.{known_left, left, lt-ltb, made, meets_enabled, new_is_acting, now_of, object_for}
use Rattle.mk_alloc.proofs.Vocabulary.{own_before, own_calls, place_now_for, refl, same_config, steady_of, subst}
use Rattle.mk_alloc.proofs.Vocabulary.{sum_by_push, sym, true, unchanged, world_of, [], ◌++◌, ◌+◌, ◌∙◌, ◌∷◌, ◌≡◌}
use Rattle.mk_alloc.proofs.{FullLeaves.{leaves_then, made_leaves}, Going.{IsCallers, but_full, exact_kept, same_phase}}
use Rattle.mk_alloc.proofs.{Going.tidy_kept, SeekingTurns.{new_callers, still_nowhere, unplaced_kept}}
use Rattle.mk_alloc.proofs.{Stretches.{SomeKinds, does_both, does_once, widened}, CalledTurns.step_adds_none}
use Rattle.mk_alloc.proofs.{FreedTurns.given_is_decided, GrantParts.{calm_last, room_lacks}}
use Rattle.mk_alloc.proofs.{OneCycles.{begins_none_by, closes_none_by}, Parts.Part, PlacedTurns.none_freed_yet}
use Rattle.mk_alloc.proofs.{Looks.acting_now, MayAct.new_step_admitted, Reaching.own_adds, Takes.unplaced_settled}
use Rattle.mk_caller.proofs.Below.Laws.Vocabulary.{Tally, Word, is_new_at, ◌-◌, ◌^◌}
use Rattle.mk_caller.proofs.Below.Laws.InvariantHistories.{first_fit_finds_the_place}
use Rattle.mk_caller.proofs.{Below.Laws.LayoutHolders.seat_operands, Below.Words.Seats.others_own}
use Rattle.mk_caller.specs.Below.Words.Steps.{Finds, IsAdmittedTo}
use Rattle.mk_core.specs.History.{IsAdmittedBehind}
use Rattle.mk_cycle.proofs.{Allowed.in_turn_before, BeginSteps.none_held_kept, KeptInParts.gates_then}
use Rattle.mk_cycle.specs.TurnKeeps.{done_of}

abbrev counts_full : SomeKinds
counts_full (Step.Look x) = true
counts_full (Step.Tally n v) = true
counts_full Step.Full = true
counts_full _ = false

answers : (c : Config) (m : Moment) (seat : Seat) (k : ℕ) → seat ≡ Caller k
    → answer_decided c m (record { seat = seat; step = Step.Full }) ≡ Some Answer.Full
answers c m seat k is =
    subst (λ (s : Seat). answer_decided c m (record { seat = s; step = Step.Full }) ≡ Some Answer.Full) (sym is) refl

raised_so : (n v f g : ℕ) → n ≡ in_a_word f → v ≡ min (n + 1) (2 ^ 64 - 1) → g ≡ f + 1 → v ≡ in_a_word g
raised_so n v f g is raised more = omega arith

-- the looks and the tally before
module _ {p p1 p2 : PassState} {n v : ℕ} (quiet : IsQuiet p) (u : IsUnplaced p) (look : Acts p (Step.Look Word.Full) p1)
    (finds : Finds p (Step.Look Word.Full) n p1) (tallies : Acts p1 (Step.Tally Tally.Full v) p2) where
  k1 : LeavesTurn unchanged p p1
  k1 = calm_keeps p _ p1 look (in_turn_before look) look.makes.pass.history refl quiet.free unchanged refl

  k2 : LeavesTurn but_full p1 p2
  k2 = calm_keeps p1 (Step.Tally Tally.Full v) p2 tallies (in_turn_before tallies) tallies.makes.pass.history refl
      (free_then p p1 k1.call quiet.free) but_full refl

  steady : but_full (steady_of (world_of p2)) ≡ but_full (steady_of (world_of p))
  steady = k2.steady ∙ ap but_full k1.steady

  pub same_pass : p2 ≡ record p { seen = p2.seen }
  same_pass = k2.call.pass ∙ ap (λ (x : PassState). record x { seen = p2.seen }) k1.call.pass

  found : n ≡ (now_of p).words.full
  found = finds.finds ∙ ap (λ (s : Steady). s.full) (((made p _ p1 finds.makes).frame.turn look.holds).0).steady

  call_same : call_of p2 ≡ call_of p
  call_same = k2.call.call ∙ k1.call.call

  done_same : done_of (now_of p2) ≡ done_of (now_of p)
  done_same = k2.call.done ∙ k1.call.done

  pub tallied_unplaced : IsUnplaced p2
  tallied_unplaced = grind (arith, unplaced_kept, call_same, done_same, steady, Holding)

  pub tallied_idle : IsAtPhase p 0 → IsAtPhase p2 0
  tallied_idle idle = ap (λ (s : Steady). s.phase) steady ∙ idle

  pub tallied_ended : (now_of p).seats.holding.cycle ≡ Ended → (now_of p2).seats.holding.cycle ≡ Ended
  tallied_ended ended = ap (λ (x : Holding). x.cycle) done_same ∙ ended

  pub tallied_nowhere : place_now_for p ≡ None → place_now_for p2 ≡ None
  tallied_nowhere none = grind (arith, still_nowhere, steady, same_pass, call_same)

  module _ {q : PassState} (full : Acts p2 Step.Full q) (raised : v ≡ min (n + 1) (2 ^ 64 - 1)) where
    seat : IsCallers p
    seat = new_callers u

    seat2 : IsCallers p2
    seat2 = new_callers tallied_unplaced

    steady_q : steady_of (world_of q) ≡ steady_of (world_of p2)
    steady_q = ap (λ (w : World). steady_of w) full.world ∙ full.turn.steady

    pass_q : q ≡ record p { seen = q.seen }
    pass_q = grind (arith, same_pass)

    call_q : call_of q ≡ record (call_of p) { stage = Stage.Give }
    call_q = full.call (caller_of_pass p2) seat2 ∙ ap (λ (f : Flight). record f { stage = Stage.Give }) call_same

    holding_q : (now_of q).seats.holding ≡ (now_of p2).seats.holding
    holding_q = ap (λ (w : World). w.now.seats.holding) full.world ∙ full.holding

    abbrev es : List Event
    es = p2.seen ++ full.makes.others

    abbrev e : Event
    e = event_of p2 Step.Full

    seen_q : q.seen ≡ es ++ e ∷ []
    seen_q = ap (λ (x : PassState). x.seen) full.makes.is

    decides : call_decided p2.table.config (left p2.table.config es).now e
        ≡ entry_of (caller_of_pass p2) (call_of p2).op (Some Answer.Full)
    decides = grind (arith, es, answers, seat2)

    ends_q : ends q.seen ≡ ends p.seen
    ends_q = grind (arith, es, sum_by_push, seen_q, k2, k1)

    fulls_q : full_answers p.table.config q.seen ≡ full_answers p.table.config p.seen + 1
    fulls_q = grind (arith, es, fulls_of, decides, calls_more, fulls_append, same_config, k2, k1, seen_q, same_pass)

    entry : own_calls p q.seen ≡ own_calls p p.seen ++ entry_of (caller_of_pass p) (call_of p).op (Some Answer.Full)
    entry =
        sym (ap (λ (x : PassState). own_calls x q.seen) same_pass) ∙ ap (λ (l : List Event). own_calls p2 l) seen_q
        ∙ own_adds p2 seat2 p2.seen full.makes.others Step.Full
        (others_own p2.seats p2.seat full.makes.others (own_before full.makes) full.makes.of_others)
        (answers p2.table.config (left p2.table.config es).now p2.seat (caller_of_pass p2) seat2)
        (ap (λ (f : Flight). entry_of (caller_of_pass p2) f.op (Some Answer.Full)) (full.own.flight ∙ call_same))
        ∙ ap (λ (x : PassState). own_calls x p2.seen ++ entry_of (caller_of_pass x) (call_of p).op (Some Answer.Full))
        same_pass ∙ ap (λ (l : List Decided). l ++ entry_of (caller_of_pass p) (call_of p).op (Some Answer.Full))
        (sym (ap (λ (x : PassState). own_calls x p2.seen) k1.call.pass) ∙ step_adds_none tallies.makes
        (subst (λ (x : PassState). IsCallers x) (sym k1.call.pass) seat) (own_before tallies.makes) refl
        ∙ ap (λ (x : PassState). own_calls x p1.seen) k1.call.pass
        ∙ step_adds_none look.makes seat (own_before look.makes) refl)

    all_steady : but_full (steady_of (world_of q)) ≡ but_full (steady_of (world_of p))
    all_steady = ap but_full steady_q ∙ steady

    allocations_q : (world_of q).allocations ≡ (world_of p).allocations
    allocations_q = ap (λ (s : Steady). s.allocations) all_steady

    quiet_q : IsQuiet q
    quiet_q = record {
      free = record {
        decided = ap (λ (f : Flight). is_pending_free_at f.op f.stage) call_q ∙ given_is_decided (call_of p).op;
        unplaced =
            ap (λ (h : Holding). has_place h.placing) holding_q
            ∙ ap (λ (x : Placing). has_place x) tallied_unplaced.placing;
        gone =
            ap (λ (x : Option RunPages). is_run_gone (now_of q).words x)
            (ap (λ (h : Holding). h.freed) holding_q ∙ none_freed_yet (in_turn_before full) tallied_unplaced.new);
      };
      phase = same_phase p q (ap (λ (s : Steady). s.phase) all_steady) quiet.phase;
      gates =
          none_held_kept p q pass_q (gates_then p p1 q k1.call.pass (gates_behind p (Step.Look Word.Full) p1 look refl)
          (gates_then p1 p2 q k2.call.pass (gates_behind p1 (Step.Tally Tally.Full v) p2 tallies refl)
          (gates_behind p2 Step.Full q full refl))) quiet.gates;
      exact = exact_kept p q pass_q all_steady quiet.exact;
      tidy = tidy_kept p q all_steady ends_q (ap (λ (s : Steady). s.full) steady_q
          ∙ (ap (λ (w : World). w.now.words.full) tallies.world) ∙ raised_so n v (full_answers p.table.config p.seen)
          (full_answers p.table.config q.seen) (found ∙ quiet.tidy.full) raised fulls_q ∙ ap
          (λ (c : Config). in_a_word (full_answers c q.seen)) (sym
          (ap (λ (x : PassState). x.table.config) pass_q))) quiet.tidy;
    }

    does : Does counts_full p q
    does = does_both (does_once look.makes refl) (does_both (does_once tallies.makes refl) (does_once full.makes refl))

    part : Part counts_full p q
    part =
        record
        { turn = in_turn_before look; stays = λ x h. grind arith; does = does; history = full.makes.pass.history }

    pub full_begins_none : SeesNone is_begin p q
    full_begins_none = begins_none_by part (λ x h. grind arith)

    pub full_closes_none : SeesNone is_close p q
    full_closes_none = closes_none_by part (λ x h. grind arith)

    pub answers_full : AnswersFull p q
    answers_full = record {
      seeks = record {
        on = record {
          does = widened (λ x h. grind arith) does;
          quiet = quiet_q;
          entry = entry;
          op = ap (λ (f : Flight). f.op) call_q;
          decided = λ some. ap (λ (f : Flight). f.stage) call_q;
          undecided = λ none. cc;
        };
        room = room_lacks (object_for p) part (λ x h. grind arith);
        none = λ none. cc;
        leaves = λ none. cc;
        last = calm_last part (λ x h. grind arith);
      };
      before = es;
      behind = [];
      is = seen_q ∙ ap (λ (x : PassState). es ++ event_of x Step.Full ∷ []) same_pass;
      allocations = allocations_q;
      leaves = leaves_then k1.call.pass (made_leaves look.makes refl refl)
          (leaves_then k2.call.pass (made_leaves tallies.makes refl refl) (made_leaves full.makes refl refl));
    }

-- A New is answered Full: the tally is raised, and the call decided.

-- It is enabled

full_next : (s : Stage) (o : Op) → is_new_at s o ≡ true → comes_next s o Step.Full ≡ true
full_next Stage.Turn (Op.New d ty full) h = refl
full_next _ _ h = cc

ruleset full_allowed_facts = (new_is_acting, first_fit_finds_the_place, unplaced_settled, acting_caller, meets_enabled)

pub full_allowed : {p : PassState} → IsTurn p → IsUnplaced p → IsAtPhase p 0
    → (now_of p).seats.holding.cycle ≡ Ended → place_now_for p ≡ None → IsEnabledTo p Step.Full
full_allowed {p} t u idle ended none =
    grind (arith, full_allowed_facts, acting_now, new_callers, Holds, lt-ltb, full_next, eq-eqb)

-- and admitted.

pub full_admitted : {p : PassState} → IsTurn p → IsUnplaced p → IsAdmittedTo p Step.Full
full_admitted {p} t u =
    let seat = new_callers u in
    let operands = seat_operands p.table.config (now_of p) p.seat
    (known_left p.table.config p.seen t.history.within_limits t.history.enabled) in
    subst (λ (s : Seat). is_undecided_new (flight_of (now_of p) s) ≡ true → has_operands p.table.config
    (flight_of (now_of p) s).op ≡ true → Holds p.table.config (now_of p) s → IsAdmittedBehind p.table.config p.seen
    (record { seat = s; step = Step.Full })) (sym seat) (λ new range holds. new_step_admitted
    (caller_of_pass p) Step.Full Answer.Full t.history holds.0 new range refl) u.new operands t.holds
