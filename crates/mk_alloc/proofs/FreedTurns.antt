-- What a Free is answered, and that its turn may go on and be given back.
use Rattle.mk_alloc.proofs.Vocabulary.{Answer, At, BeginsTurn, Bool, Config, Event, FreeIsExact, FreesFirst}
use Rattle.mk_alloc.proofs.Vocabulary.{FreesObject, Has, Holding, IsAnsweredDouble, IsDue, IsDueIn, IsDueSince, IsFresh}
use Rattle.mk_alloc.proofs.Vocabulary.{IsHistory, IsOutOfStop, IsTurn, List, Makes, Op, PassKeeps, PassState, Placing}
use Rattle.mk_alloc.proofs.Vocabulary.{RunsIfDue, Seat, Some, Stage, Step, TakesTurn, TalliesAreTidy, TurnGoesOn}
use Rattle.mk_alloc.proofs.Vocabulary.{TurnOf, ℕ, ap, append_assoc, append_cancel_left, arith, at_rest, call_of}
use Rattle.mk_alloc.proofs.Vocabulary.{caller_of_pass, cases_Bool, does_wider, false, finishes, has_place, has_step}
use Rattle.mk_alloc.proofs.Vocabulary.{inl, inr, is_begin, is_end, is_of_cycle, is_pending_free_at, none_is_held}
use Rattle.mk_alloc.proofs.Vocabulary.{now_of, or_from, or_parts, pass_before, phase_of, refl, same_config, subst, sym}
use Rattle.mk_alloc.proofs.Vocabulary.{true, turn_stays, [], ⊎_elim, ◌++◌, ◌<◌, ◌∙◌, ◌∷◌, ◌≡◌, left}
use Rattle.mk_alloc.proofs.CalledTurns.{GivenBack, Taken, called, lacks_given, phase_taken, registers_taken}
use Rattle.mk_alloc.proofs.CalledTurns.{taken_callers, taken_is, taken_turn, turn_of, within_is}
use Rattle.mk_alloc.proofs.DueParts.{RunIn, at_behind, end_at, ends_before, run_in, run_list}
use Rattle.mk_alloc.proofs.{Going.{IsCallers, callers_then, same_phase, then_on}, ListParts.{InFirst, InSecond, IsAt}}
use Rattle.mk_alloc.proofs.ListParts.{Lacks, SomeKind, cycle_in, lacks_append, lacks_at, lacks_first, none_at, only_at}
use Rattle.mk_alloc.proofs.{ListParts.stands, Parts.{Part, part_lacks, seen_by, seen_then}}
use Rattle.mk_alloc.proofs.UnsweptTurns.{kinds_keep, kinds_yet, turn_keeps, turn_keeps_yet}
use Rattle.mk_alloc.proofs.{CycleParts.{EndsIn, begins_held}, Stretches.{SomeKinds, Within}}
use Rattle.mk_alloc.specs.{Rooms.PassKeeps, Retiring.{DecidesFree, FindsFreed, Retires, IsUnloaded, is_freeing}}
use Rattle.mk_alloc.specs.Retiring.{is_loading}
use Rattle.mk_caller.proofs.Below.Laws.Vocabulary.{register_at}
use Rattle.mk_never.specs.Admitted.{IsBase}
use Rattle.mk_core.specs.Cycles.{BeginsAndEndsIn, BeginsIn}
use Rattle.mk_cycle.specs.EngineLaw.{Ways}
use Rattle.mk_caller.specs.States as caller

-- What the turn of a Free does with cycles, by the events after its `take`.

abbrev pub is_quar : SomeKind
is_quar (Step.Quar p v) = true
is_quar _ = false

pub not_due_without : {c : Config} {es : List Event} (more before : List Event) {e : Event} (behind : List Event)
    → Lacks is_quar more → more ≡ before ++ e ∷ behind → IsDue c es e → ⊥
not_due_without {c} {es} more before {e = e} behind none is due = grind (arith, lacks_at, is_quar)

begins_none : (es : List Event) → Lacks is_of_cycle es → Lacks is_begin es
begins_none [] h = refl
begins_none (e ∷ es) h =
    let parts = or_parts (is_of_cycle e.step) (has_step is_of_cycle es) h in
    or_from (is_begin e.step) (has_step is_begin es) (
    (or_parts (is_begin e.step) (finishes e.step) parts.0).0) (begins_none es parts.1)

module _ (on : Bool) {c : Config} {s : Seat} {es : List Event} (t : TurnOf c s es) where
  -- A Free that isn't due does nothing with cycles.
  pub undue_exact : Lacks is_of_cycle t.behind → (IsDueIn t → ⊥) → FreeIsExact on t
  undue_exact none not_due =
      let no_begin : BeginsIn t → ⊥ = λ b. none_at is_begin t.behind (begins_none t.behind none) b in
      record {
        begins = ((λ b. absurd (no_begin b)), (λ d. absurd (not_due d)));
        first = λ d. absurd (not_due d);
        undue = λ n. none;
        stopped = λ off b. absurd (no_begin b);
        one = λ off b. absurd (no_begin b);
        goes_on = λ keeps b. absurd (no_begin b);
        older = λ keeps one b. absurd (no_begin b);
      }

  -- One that is due begins one cycle.
  pub due_exact : (first : BeginsIn t) → Lacks is_begin first.before → Lacks is_begin first.behind
      → (on ≡ false → EndsIn first.behind) → (on ≡ true → Lacks finishes first.behind)
      → (phase_of (left c t.before).now.words ≡ 1 → At is_end first.before) → FreesFirst t → FreeIsExact on t
  due_exact first none_before none_behind stopped goes_on older frees = record {
    begins = ((λ b. frees.due), (λ d. first));
    first = λ d. frees;
    undue = λ n. absurd (n frees.due);
    stopped = λ off b. ended (stopped off);
    one = λ off b. (
      ap (λ (l : List Event). has_step is_begin l) (there b).behind_is ∙ none_behind,
      subst (λ (l : List Event). At is_end l) (sym (there b).behind_is) (end_at (stopped off)),
    );
    goes_on = λ keeps b.
        subst (λ (l : List Event). has_step finishes l ≡ false) (sym (there b).behind_is) (goes_on keeps);
    older = λ keeps one b. subst (λ (l : List Event). At is_end l) (sym (there b).before_is) (older one);
  }
    where
      there : (b : BeginsIn t) → IsAt first.before first.behind b.before b.behind
      there b =
          only_at is_begin first.before first.event first.behind none_before none_behind (record {
            before = b.before;
            event = b.event;
            behind = b.behind;
            is = sym first.is ∙ b.is;
            of_kind = b.of_kind;
          })

      ended : EndsIn first.behind → BeginsAndEndsIn t
      ended e =
          cycle_in _ first.before e.to_close e.to_release e.to_end _ first.event e.close e.release e.end
          (first.is ∙ ap (λ (l : List Event). first.before ++ first.event ∷ l) e.is) first.of_kind e.closes e.releases
          e.ends e.none_closed e.none_released e.none_ended

-- The turn of a Free, from its `take` to where it is given back.

pub given_is_decided : (o : Op) → is_pending_free_at o Stage.Give ≡ false
given_is_decided x0 = grind arith

-- A Free that is decided goes on, quietly.
module _ {taken : PassState} {r : ℕ} (fresh : IsFresh taken (Some (Op.Free r))) (phase : IsOutOfStop (now_of taken))
    (tidy : TalliesAreTidy taken.table.config taken.seen) where
  pub decided_on : {kinds : Step → Bool} {a : Answer} {q : PassState}
      → Within kinds is_freeing → DecidesFree kinds a taken q → TurnGoesOn (Some a) taken q
  decided_on {kinds} {q} within d = record {
    does = does_wider kinds turn_stays (λ x h. let k = within x h in grind arith) taken q d.does;
    quiet = record {
      free = record {
        decided = ap (λ (s : Stage). is_pending_free_at (call_of q).op s) d.decided ∙ given_is_decided (call_of q).op;
        unplaced =
            ap (λ (x : Placing). has_place x) d.placing ∙ ap (λ (h : Holding). has_place h.placing) fresh.holding;
        gone = d.gone;
      };
      phase = same_phase taken q d.phase phase;
      gates = subst (λ (c : Config). none_is_held c.callers (now_of q).words ≡ true)
          (sym (same_config taken q d.pass)) d.gates;
      exact = d.exact;
      tidy = d.tidy tidy;
    };
    entry = d.calls;
    op = d.op;
    decided = λ some. d.decided;
    undecided = λ none. cc;
  }

-- After a Free that is decided a cycle runs, if it is due.
pub run_or_rest : {flag due : Bool} {a : Answer} {taken p q : PassState} → TurnGoesOn (Some a) taken p → IsTurn p
    → IsCallers p → RunsIfDue flag due p q → IsHistory q.table.config q.seen → TurnGoesOn (Some a) taken q
run_or_rest {flag} {due} {a} {taken} {p} {q} x t seat run history = elim (cases_Bool due) [
  | inl runs ↦ then_on x (run_in t seat x.quiet (run.runs runs) history).goes
  | inr rests ↦ subst (λ (y : PassState). TurnGoesOn (Some a) taken y) (sym (run.rests rests)) x
]

module _ {p taken decided done q : PassState} {r : ℕ} {a : Answer} (g : GivenBack (Op.Free r) a p taken done q)
    {kinds : SomeKinds} (within : Within kinds is_freeing) (x : Part kinds taken decided) where
  abbrev c : Config
  c = p.table.config

  abbrev pub turn : TurnOf p.table.config p.seat (done.seen ++ g.gives.others)
  turn = turn_of g

  -- what the turn did, by what was done up to the decision and after it
  behind_is : (ys : List Event) → done.seen ≡ decided.seen ++ ys → turn.behind ≡ (x.does.more ++ ys) ++ g.gives.others
  behind_is ys second =
      ap (λ (l : List Event). l ++ g.gives.others) (append_cancel_left taken.seen g.on.does.more (x.does.more ++ ys)
      (sym (seen_by g.on.does) ∙ seen_then taken.seen decided.seen done.seen x.does.more ys (seen_by x.does) second))

  rest_is : done ≡ decided → turn.behind ≡ x.does.more ++ g.gives.others
  rest_is same =
      ap (λ (l : List Event). l ++ g.gives.others) (append_cancel_left taken.seen g.on.does.more x.does.more
      (sym (seen_by g.on.does) ∙ ap (λ (y : PassState). y.seen) same ∙ seen_by x.does))

  due_first : (due : IsDueSince taken decided) → x.does.more ≡ due.before ++ due.event ∷ due.behind
  due_first due =
      append_cancel_left taken.seen x.does.more (due.before ++ due.event ∷ due.behind)
      (sym (seen_by x.does) ∙ due.is ∙ append_assoc taken.seen due.before (due.event ∷ due.behind))

  lacks_cycle : Lacks is_of_cycle x.does.more
  lacks_cycle = part_lacks is_of_cycle x (λ x h. grind arith) (λ y h. let k = within y h in grind arith)

  -- It is due in the turn where it is since its `take`.

  pub due_in : (ys : List Event) → done.seen ≡ decided.seen ++ ys → IsDueSince taken decided → IsDueIn turn
  due_in ys second due = record {
    before = due.before;
    event = due.event;
    behind = (due.behind ++ ys) ++ g.gives.others;
    is =
        behind_is ys second ∙ ap (λ (l : List Event). (l ++ ys) ++ g.gives.others) (due_first due)
        ∙ ap (λ (l : List Event). l ++ g.gives.others) (append_assoc due.before (due.event ∷ due.behind) ys)
        ∙ append_assoc due.before (due.event ∷ (due.behind ++ ys)) g.gives.others;
    due = subst (λ (l : List Event). IsDue c l due.event) (within_is g due.before) (subst
        (λ (y : PassState). IsDue y.table.config (taken.seen ++ due.before) due.event) (taken_is g.took) due.due);
  }

  -- Before it is due nothing is done with cycles.
  frees_first : (ys : List Event) → done.seen ≡ decided.seen ++ ys → IsDueSince taken decided → FreesFirst turn
  unfolding due_in
  frees_first ys second due = record {
    due = due_in ys second due;
    no_cycle = lacks_first is_of_cycle due.before (due.event ∷ due.behind)
        (subst (λ (l : List Event). Lacks is_of_cycle l) (due_first due) lacks_cycle);
  }

  -- and only there, where nothing is done after the decision.
  pub due_since : done ≡ decided → IsDueIn turn → IsDueSince taken decided
  due_since same due =
      ⊎_elim (λ (y : InFirst x.does.more due.before due.event).
      record {
        before = due.before;
        event = due.event;
        behind = y.behind;
        is =
            seen_by x.does ∙ ap (λ (l : List Event). taken.seen ++ l) y.is
            ∙ sym (append_assoc taken.seen due.before (due.event ∷ y.behind));
        due = subst (λ (y : PassState). IsDue y.table.config (taken.seen ++ due.before) due.event) (sym
            (taken_is g.took)) (subst (λ (l : List Event). IsDue c l due.event) (sym (within_is g due.before)) due.due);
      }) (λ (y : InSecond x.does.more g.gives.others due.before due.event due.behind). absurd
      (not_due_without g.gives.others y.rest due.behind (lacks_given g is_quar (λ x h. grind arith)) y.is due.due))
      (stands x.does.more g.gives.others due.before due.event due.behind (sym (rest_is same) ∙ due.is))

  -- A Free that isn't due
  pub rests_exactly : (flag : Bool) → done ≡ decided → (IsDueSince taken decided → ⊥) → FreeIsExact flag turn
  rests_exactly flag same not_due =
      undue_exact flag turn (subst (λ (l : List Event). Lacks is_of_cycle l) (sym (rest_is same)) (lacks_append
      is_of_cycle x.does.more g.gives.others lacks_cycle (lacks_given g is_of_cycle (λ x h. grind arith))))
      (λ due. not_due (due_since same due))

  -- and one that is
  pub runs_exactly : {flag : Bool} → phase_of (now_of decided).words ≡ phase_of (now_of taken).words
      → RunIn flag decided done → IsDueSince taken decided → FreeIsExact flag turn
  runs_exactly {flag} phase run due =
      let b = run.begin in
      due_exact flag turn (record {
        before = x.does.more ++ b.before;
        event = b.event;
        behind = b.behind ++ g.gives.others;
        is =
            behind_is run.more run.is ∙ ap (λ (l : List Event). (x.does.more ++ l) ++ g.gives.others) b.is
            ∙ run_list x.does.more b.before b.behind g.gives.others b.event;
        of_kind = b.of_kind;
      }) (lacks_append is_begin x.does.more b.before
      (part_lacks is_begin x begins_held (λ y h. let k = within y h in grind arith)) run.none_before)
      (lacks_append is_begin b.behind g.gives.others run.none_behind (lacks_given g is_begin begins_held))
      (λ off. ends_before g.gives.others (run.stopped off)) (λ keeps. lacks_append finishes b.behind g.gives.others
      (run.goes_on keeps) (lacks_given g finishes (λ x h. grind arith))) (λ one. at_behind x.does.more
      (run.older (phase ∙ sym (phase_taken g) ∙ one))) (frees_first run.more run.is due)

-- The register that the turn's Free loads is null or points to a first word, as before.
pub unloaded : {p taken : PassState} {r : ℕ} → IsCallers p → Has p.seats p.seat
    → (takes : TakesTurn p (Some (Op.Free r)) taken) → IsFresh taken (Some (Op.Free r))
    → IsHistory taken.table.config taken.seen → r < 8 → IsBase (caller.value_of p r) → IsUnloaded taken r
unloaded {p} {taken} {r} seat own takes fresh history lt base =
    record {
      call = fresh.call;
      small = lt;
      base = rw (taken_is took) (rw (← (same r lt)) at base);
    }
  where
    took : Taken (Op.Free r) p taken
    took = record { seat = seat; own = own; takes = takes }

    same : (i : ℕ) → i < 8 → caller.value_of (record p { seen = taken.seen }) i ≡ caller.value_of p i
    same i less =
        ap (λ (x : PassState). caller.value_of (record x { seen = taken.seen }) i) (sym (taken_is took))
        ∙ ap (λ k. register_at (caller.never_of taken) k i) (ap (λ (x : PassState). caller_of_pass x) (taken_is took))
        ∙ registers_taken took i less

-- The turn of a Free that retired its object, up to the end of a cycle that is due.
pub record Frees (flag due : Bool) (r : ℕ) (p taken retired done : PassState) : Type 0 where
  pub took : Taken (Op.Free r) p taken
  pub begins : BeginsTurn (Op.Free r) taken
  pub retires : Retires taken r due retired
  pub decided : IsTurn retired
  pub run : RunsIfDue flag due retired done
  pub history : IsHistory done.table.config done.seen

module _ {flag due : Bool} {r : ℕ} {p taken retired done : PassState} (f : Frees flag due r p taken retired done) where
  seat_decided : IsCallers retired
  seat_decided = callers_then f.retires.decides.does (taken_callers f.took)

  decides : TurnGoesOn (Some Answer.Done) taken retired
  decides = decided_on f.begins.fresh f.begins.phase f.begins.tidy (λ x h. h) f.retires.decides

  pub freed : TurnGoesOn (Some Answer.Done) taken done
  freed = run_or_rest decides f.decided seat_decided f.run f.history

  freeing : Part is_freeing taken retired
  freeing = record {
    turn = taken_turn f.took;
    stays = λ x h. grind arith;
    does = f.retires.decides.does;
    history = f.decided.history;
  }

  runs : due ≡ true → RunIn flag retired done
  runs is = run_in f.decided seat_decided decides.quiet (f.run.runs is) f.history

  module _ {q : PassState} (gives : Makes done Step.Give q) (rests : call_of q ≡ at_rest) where
    abbrev given : GivenBack (Op.Free r) Answer.Done p taken done q
    given = record { took = f.took; fresh = f.begins.fresh; on = freed; gives = gives; rests = rests }

    pub freed_keeps : {V : Type 0} {ways : Ways V} → PassKeeps true ways retired done → PassKeeps false ways p q
    freed_keeps run = turn_keeps_yet given (kinds_yet (λ x h. grind arith) f.retires.decides.does run)

    told : IsDueIn (turn_of given) → due ≡ true
    told is_due = elim (cases_Bool due) [
      | inl is ↦ is
      | inr is ↦ absurd (f.retires.not_due is (due_since given (λ x h. h) freeing (f.run.rests is) is_due))
    ]

    tells : due ≡ true → IsDueIn (turn_of given)
    tells is =
        let x = runs is in
        due_in given (λ x h. h) freeing x.more x.is (f.retires.is_due is)

    pub freed_object : FreesObject flag p r due q
    freed_object = record {
      called = called given flag (elim (cases_Bool due) [
        | inl is ↦ runs_exactly given (λ x h. h) freeing f.retires.decides.phase (runs is) (f.retires.is_due is)
        | inr is ↦ rests_exactly given (λ x h. h) freeing flag (f.run.rests is) (f.retires.not_due is)
      ]);
      is_due = (tells, told);
      freed = retired;
      steps = f.retires.steps;
      runs = f.run;
    }

-- The turn of one whose object was freed already.
pub record Refuses (r : ℕ) (p taken done : PassState) : Type 0 where
  pub took : Taken (Op.Free r) p taken
  pub begins : BeginsTurn (Op.Free r) taken
  pub finds : FindsFreed taken r done

module _ {r : ℕ} {p taken done : PassState} (f : Refuses r p taken done) where
  pub refused : TurnGoesOn (Some Answer.Double) taken done
  refused = decided_on f.begins.fresh f.begins.phase f.begins.tidy (λ x h. grind arith) f.finds.decides

  module _ {q : PassState} (gives : Makes done Step.Give q) (rests : call_of q ≡ at_rest) where
    abbrev given_double : GivenBack (Op.Free r) Answer.Double p taken done q
    given_double = record { took = f.took; fresh = f.begins.fresh; on = refused; gives = gives; rests = rests }

    pub refused_keeps : {V : Type 0} {ways : Ways V} → PassKeeps false ways p q
    refused_keeps = turn_keeps given_double (kinds_keep (λ x h. grind arith) f.finds.decides.does)

    loading : Part is_loading taken done
    loading = record {
      turn = taken_turn f.took;
      stays = λ x h. grind arith;
      does = f.finds.decides.does;
      history = (pass_before gives).history;
    }

    not_due : IsDueSince taken done → ⊥
    not_due due =
        not_due_without loading.does.more due.before due.behind (part_lacks is_quar loading (λ x h. grind arith)
        (λ x h. grind arith)) (append_cancel_left taken.seen loading.does.more (due.before ++ due.event ∷ due.behind)
        (sym (seen_by loading.does) ∙ due.is ∙ append_assoc taken.seen due.before (due.event ∷ due.behind))) due.due

    double_told : (flag : Bool) → IsAnsweredDouble flag p r q
    double_told flag = record {
      called = called given_double flag (rests_exactly given_double (λ x h. grind arith) loading flag refl not_due);
      only_looks = f.finds.decides.does;
    }

pub double_answered : (flag : Bool) {r : ℕ} {p taken done q : PassState} → Refuses r p taken done
    → Makes done Step.Give q → call_of q ≡ at_rest → IsAnsweredDouble flag p r q
double_answered flag f gives rests = double_told f gives rests flag
