-- The register of a Free is loaded.
use Rattle.std.proofs.lemmas.List.{length-replicate}
use Rattle.mk_caller.proofs.Below.Laws.Vocabulary.{Answer, AreAdmitted, AreOfOthers, Bool, Call, Caller, Config, Event}
use Rattle.mk_caller.proofs.Below.Laws.Vocabulary.{Flight, Holds, IsAdmitted, IsHistory, List, Load, Moment, None, Null}
use Rattle.mk_caller.proofs.Below.Laws.Vocabulary.{Op, Option, Progress, Seat, Some, Stage, Step, Value, Words, World}
use Rattle.mk_caller.proofs.Below.Laws.Vocabulary.{ℕ, after_calls, answer_decided, ap, append-nil, arith, asked}
use Rattle.mk_caller.proofs.Below.Laws.Vocabulary.{bases_of, begun, caller_number, calls, earlier_part_is_history}
use Rattle.mk_caller.proofs.Below.Laws.Vocabulary.{entry_of, eqb-true, false, flight_of, found, if◌then◌else◌, image_of}
use Rattle.mk_caller.proofs.Below.Laws.Vocabulary.{is_held, is_undecided_free, left, lt-ltb, never_behind, progress_reg}
use Rattle.mk_caller.proofs.Below.Laws.Vocabulary.{refl, reg_access, register_at, register_met, register_word, shown}
use Rattle.mk_caller.proofs.Below.Laws.Vocabulary.{subst, sym, true, world_behind, [], ◌%◌, ◌*◌, ◌++◌, ◌+◌, ◌/◌, ◌<◌}
use Rattle.mk_caller.proofs.Below.Laws.{Vocabulary.{◌==◌, ◌∙◌, ◌∷◌, ◌≡◌}, SeatFrames.admitted_others_leave}
use Rattle.mk_alloc.proofs.ObjectVocabulary.{Acts, CallIsAt, IsAsLeft, IsBase, IsEnabledTo, IsFreeAt, IsTurn, Known}
use Rattle.mk_alloc.proofs.ObjectVocabulary.{PassState, answers_full, call_of, event_of, histories_keep_the_invariant}
use Rattle.mk_alloc.proofs.ObjectVocabulary.{loaded_free, now_of, steady_of, value_of, world_of}
use Rattle.mk_alloc.proofs.{Looks.caller_has_call, MayAct.asked_more, Reaching.{IsCallers, made_in, reaches_at_once}}
use Rattle.mk_alloc.{proofs.Unchanged.{HasCall, OfCaller, call_behind}, specs.Retiring.{HasLoaded, IsUnloaded}}
use Rattle.mk_caller.specs.Below.Words.Steps.{register_of, IsAdmittedTo}
use Rattle.mk_never.proofs.{Later.calls_stay, Parts.admitted_join}
use Rattle.mk_core.{proofs.Conditions.{meets_enabled}, specs.{Effects.moment_behind, History.never_first}}

-- A Free whose register is null or points to a first word is admitted, whatever its step.

free_admitted : (c : Config) (k r : ℕ) (xs : List Call) → k < c.callers → r < 8
    → IsBase (register_at (after_calls (never_first c) xs) k r)
    → IsAdmitted c.globals (after_calls (never_first c) xs) k (Op.Free r)
free_admitted c k r xs lt small base =
    let stays = calls_stay (never_first c) xs in
    record {
      of_a_caller = let many = length-replicate {A = Value} (8 * c.callers) Null in let same =
          stays.registers in omega arith;
      in_range = small;
      access = tt;
      store = base;
    }

free_call : (c : Config) (k r : ℕ) (xs : List Call) (a : Option Answer) → k < c.callers → r < 8
    → IsBase (register_at (after_calls (never_first c) xs) k r)
    → AreAdmitted c.globals (after_calls (never_first c) xs) (asked (entry_of k (Op.Free r) a))
free_call c k r xs x4 lt small base = grind (arith, free_admitted)

-- A caller keeps its registers in the heap that never reuses storage over events of others and a step of its own that
-- decides nothing.
pub registers_kept : {c : Config} (es others : List Event) (k : ℕ) (x : Step)
    → IsHistory c (es ++ others ++ record { seat = Caller k; step = x } ∷ []) → AreOfOthers (Caller k ∷ []) others
    → answer_decided c (left c (es ++ others)).now (record { seat = Caller k; step = x }) ≡ None → (r : ℕ) → r < 8
    → register_at (never_behind c (es ++ others ++ record { seat = Caller k; step = x } ∷ [])) k r
    ≡ register_at (never_behind c es) k r
registers_kept {c} es others k x whole of_others none r lt =
    let e : Event = record { seat = Caller k; step = x } in
    let before = earlier_part_is_history c (es ++ others) (e ∷ []) whole in
    let same : asked (calls c (es ++ others ++ e ∷ [])) ≡ asked (calls c (es ++ others)) =
    grind (arith, asked_more, append-nil) in
    cc (same, (admitted_others_leave c es others (Caller k) before of_others).registers k r refl lt)

-- Any step of a Free is admitted.
pub free_step_admits : {p : PassState} {r : ℕ} (x : Step) {f : Flight} → IsCallers p → IsTurn p → IsFreeAt p r f
    → f.op ≡ Op.Free r → IsAdmittedTo p x
free_step_admits x caller turn u is = grind (arith, asked_more, admitted_join, free_call)

-- Its register keeps its value over a step that decides nothing.
pub value_kept : {p q : PassState} (r : ℕ) {x : Step} → IsCallers p → r < 8 → Acts p x q
    → ((v : World) → IsAsLeft p.seat (world_of p) v → Known p.table.config v.now
    → answer_decided p.table.config v.now (event_of p x) ≡ None) → value_of q r ≡ value_of p r
value_kept {p} r {x} caller small a none =
    let m = made_in p p.seen a in
    ap (λ (y : PassState). value_of y r) m.same
    ∙ by m.others p.seat caller.is m.of_others (none (left p.table.config (p.seen ++ m.others)) m.kept m.known)
    (subst (λ (y : PassState). IsHistory y.table.config y.seen) m.same a.makes.pass.history)
  where
    by : (others : List Event) (s : Seat) → s ≡ Caller caller.number → AreOfOthers (s ∷ []) others
        → answer_decided p.table.config (left p.table.config (p.seen ++ others)).now (record { seat = s; step = x })
        ≡ None → IsHistory p.table.config (p.seen ++ others ++ record { seat = s; step = x } ∷ [])
        → register_at (never_behind p.table.config (p.seen ++ others ++ record { seat = s; step = x } ∷ []))
        (caller_number s) r ≡ register_at (never_behind p.table.config p.seen) (caller_number s) r
    by others s e of_others answer whole =
        subst (λ (y : Seat). AreOfOthers (y ∷ []) others → answer_decided p.table.config
        (left p.table.config (p.seen ++ others)).now (record { seat = y; step = x }) ≡ None
        → IsHistory p.table.config (p.seen ++ others ++ record { seat = y; step = x } ∷ [])
        → register_at (never_behind p.table.config (p.seen ++ others ++ record { seat = y; step = x } ∷ []))
        (caller_number y) r ≡ register_at (never_behind p.table.config p.seen) (caller_number y) r) (sym e)
        (λ o n w. registers_kept p.seen others caller.number x w o n r small) of_others answer whole

-- It is a caller's.
pub unloaded_caller : (p : PassState) (r : ℕ) → call_of p ≡ begun (Op.Free r) → IsCallers p
unloaded_caller p r call = grind arith

module _ {p : PassState} {r : ℕ} (u : IsUnloaded p r) where
  loader : IsCallers p
  loader = unloaded_caller p r u.call

  abbrev loading : ℕ
  loading = loader.number

  loads_within : {s : Seat} → s ≡ Caller loading → Holds p.table.config (now_of p) s → loading < p.table.config.callers
  loads_within is holds = (subst (λ (x : Seat). Holds p.table.config (now_of p) x) is holds).0

  pub load_may : IsTurn p → IsEnabledTo p Step.Reg
  load_may turn = grind (arith, loader, loading, loads_within, meets_enabled, lt-ltb)

  -- whether it decides the Free or not
  pub load_admits : IsTurn p → IsAdmittedTo p Step.Reg
  load_admits turn = free_step_admits Step.Reg loader turn u refl

  pub load_meets : r ≡ register_met (call_of p) (call_of p).stage
  load_meets = sym (ap (λ (f : Flight). register_met f f.stage) u.call)

  pub load_loads : reg_access (call_of p) (call_of p).stage ≡ Load
  load_loads = ap (λ (f : Flight). reg_access f f.stage) u.call

-- what the load makes of the call

abbrev load_progress : ℕ → ℕ → Bool → Progress
load_progress r n b =
    if b then record { flight = record (begun (Op.Free r)) { stage = Stage.Give; p = n }; answer = Some Answer.Done }
    else record { flight = record (begun (Op.Free r)) { stage = Stage.Turn; p = n }; answer = None }

loads_to : (r n : ℕ) → (progress_reg (begun (Op.Free r)) Stage.LoadP n).flight ≡ loaded_free r n
loads_to r n = grind (arith, load_progress)

loads_answer : (r n : ℕ)
    → (progress_reg (begun (Op.Free r)) Stage.LoadP n).answer ≡ (if n == 0 then Some Answer.Done else None)
loads_answer r n = grind (arith, load_progress)

loaded_entry : (k : ℕ) (o : Op) (b : Bool)
    → entry_of k o (if b then Some Answer.Done else None) ≡ (if b then entry_of k o (Some Answer.Done) else [])
loaded_entry k o x2 = grind arith

loaded_no_full : (b : Bool) → answers_full (if b then Some Answer.Done else None) ≡ false
loaded_no_full x0 = grind arith

-- A load changes no word.
loaded_words : (c : Config) (m : Moment) (k r : ℕ) → flight_of m (Caller k) ≡ begun (Op.Free r)
    → (moment_behind c m (record { seat = Caller k; step = Step.Reg })).words ≡ m.words
loaded_words c m k r call = grind arith

record LoadsTo (c : Config) (s : Seat) (r n : ℕ) (w v : World) : Type 0 where
  at : CallIsAt s (loaded_free r n) w (world_behind c v (record { seat = s; step = Step.Reg }))
  answer : answer_decided c v.now (record { seat = s; step = Step.Reg }) ≡ (if n == 0 then Some Answer.Done else None)

load_steps : (c : Config) {s : Seat} (r : ℕ) {n : ℕ} {w v : World} → HasCall c v.now s → IsAsLeft s w v
    → flight_of w.now s ≡ begun (Op.Free r) → r < 8 → n ≡ register_word w.now.words (caller_number s) r
    → LoadsTo c s r n w v
load_steps c r {n} {v} (OfCaller k lt) kept call small is =
    let e : Event = record { seat = Caller k; step = Step.Reg } in
    let here : flight_of v.now (Caller k) ≡ begun (Op.Free r) = kept.call ∙ call in
    let same : found c v.now e ≡ n = (ap (λ (f : Flight). register_word v.now.words k (register_met f f.stage)) here)
    ∙ kept.registers k r refl small ∙ sym is in
    let words = loaded_words c v.now k r here in
    record {
      at = record {
        call = cc (call_behind c v.now k Step.Reg lt, here, same, loads_to r n);
        holding = kept.holding;
        steady = ap (λ (ws : Words). steady_of (record v { now = record v.now { words = ws } })) words ∙ kept.steady;
        registers = λ j i is lt. ap (λ (ws : Words). register_word ws j i) words ∙ kept.registers j i is lt;
        gates = λ j. ap (λ (ws : Words). is_held ws j) words ∙ kept.gates j;
      };
      answer = cc (here, same, loads_answer r n);
    }

pub load_reaches : {p q : PassState} {r n : ℕ} → r < 8 → IsTurn p → IsUnloaded p r → Acts p Step.Reg q
    → n ≡ register_of p r → HasLoaded p r n q
load_reaches {p} {r} {n} small turn u a is =
    let caller = unloaded_caller p r u.call in
    reaches_at_once (CallIsAt p.seat (loaded_free r n) (world_of p)) a refl refl caller (λ v kept known pages.
    let to = load_steps p.table.config r (caller_has_call v caller turn known) kept u.call small is in
    record {
      world = to.at;
      answer = if n == 0 then Some Answer.Done else None;
      decides = to.answer;
      no_full = loaded_no_full (n == 0);
      entry = ap (λ (f : Flight). entry_of (caller_number p.seat) f.op (if n == 0 then Some Answer.Done else None))
          kept.call ∙ loaded_entry (caller_number p.seat) (call_of p).op (n == 0);
    })

-- A load that finds a pointer decides nothing.
pub load_keeps : {p q : PassState} {r n : ℕ} → r < 8 → IsTurn p → IsUnloaded p r → Acts p Step.Reg q
    → n ≡ register_of p r → (n == 0) ≡ false → value_of q r ≡ value_of p r
load_keeps {p} {r} small turn u a is some =
    let caller = unloaded_caller p r u.call in
    value_kept r caller small a (λ v kept known. (load_steps p.table.config r (caller_has_call v caller turn known) kept
    u.call small is).answer ∙ ap (λ (b : Bool). if b then Some Answer.Done else None) some)

-- A Free that has loaded a pointer isn't decided.
pub loaded_undecided : {p : PassState} {r : ℕ} (u : ℕ) → IsFreeAt p r (loaded_free r u) → (u == 0) ≡ false
    → is_undecided_free (call_of p) ≡ true
loaded_undecided u at some = grind arith

-- A register whose word is 0 is null.

null_by : (bases : List ℕ) (v : Value) → IsBase v → image_of bases v ≡ 0 → v ≡ Null
null_by bases x1 base is = grind arith

null_at : {c : Config} {es : List Event} (k r : ℕ) → IsHistory c es → r < 8 → flight_of (left c es).now (Caller k)
    ≡ begun (Op.Free r) → IsBase (register_at (never_behind c es) k r) → register_word (left c es).now.words k r ≡ 0
    → register_at (never_behind c es) k r ≡ Null
null_at {c} {es} k r h small call base zero =
    let images = (histories_keep_the_invariant c es h).mirrors.images in
    let place : (8 * k + r) / 8 ≡ k = omega arith in
    let here : shown (flight_of (left c es).now (Caller ((8 * k + r) / 8))) ((8 * k + r) % 8)
    (register_word (left c es).now.words k r) ≡ 0 = grind arith in
    null_by (bases_of (left c es).allocations) _ base (sym (images.registers (8 * k + r)) ∙ here)

pub load_null : {p : PassState} {r n : ℕ} → IsTurn p → IsUnloaded p r → n ≡ register_of p r → (n == 0) ≡ true
    → value_of p r ≡ Null
load_null turn u is none = grind (arith, unloaded_caller, eqb-true, null_at)
