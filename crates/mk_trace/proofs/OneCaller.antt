-- In a heap of one caller all calls are its own: what one call more makes of them.
use Rattle.mk_trace.proofs.Vocabulary.{Answer, AreAdmitted, Caller, CallerIsHome, CallerState, Calls, Config, Decided}
use Rattle.mk_trace.proofs.Vocabulary.{Event, Grows, Has, HasAll, HostState, IsAdmitted, IsHistory, NeverState, Op}
use Rattle.mk_trace.proofs.Vocabulary.{PassState, Seat, WordsState, after_calls, answered, asked, begins_full, calls}
use Rattle.mk_trace.proofs.Vocabulary.{calls_of_caller, first_host, flagged, has_first, is_refusal, never_behind}
use Rattle.mk_trace.proofs.{Vocabulary.{pass_for, without_seat}, OwnPieces.all_again}
use Rattle.mk_heap.proofs.Below.Laws.Vocabulary.{Bool, List, ℕ, ap, append_assoc, arith, eq-eqb, false, if◌then◌else◌}
use Rattle.mk_heap.proofs.Below.Laws.Vocabulary.{length}
use Rattle.mk_heap.proofs.Below.Laws.Vocabulary.{length-map, list_any, list_any-append, map-append, refl, subst, sym}
use Rattle.mk_heap.proofs.Below.Laws.Vocabulary.{true, []}
use Rattle.mk_heap.proofs.Below.Laws.Vocabulary.{◌++◌, ◌<◌}
use Rattle.mk_heap.proofs.Below.Laws.Vocabulary.{◌==◌, ◌||◌, ◌∙◌, ◌∷◌, ◌≡◌, ◌≤◌}
use Rattle.mk_never.proofs.{Later.op_stays, Parts.{admitted_split, after_append}}
use Rattle.mk_never.specs.{Admitted.IsCaller, NeverHeap.after_op}
use Rattle.mk_core.specs.Counts.{is_full_answer}
use Rattle.mk_heap.proofs.Below.{Callers.OwnSteps.{calls_by, others_add_none}, Words.Seats.{has_all, has_right}}
use Rattle.mk_heap.specs.Below.Callers.States.{Admits, IsAtHome, caller_of_pass}
use Rattle.mk_heap.specs.Hosts.{AllAreJoined, with_caller_made, with_caller_out, with_joined, with_seen}
use Rattle.mk_heap.specs.Below.Words.States.{has_over}
use Rattle.mk_heap.specs.Dispatching.{StaysAdmitted, as_told}
use Rattle.mk_trace.specs.Calls.{MayCome, SameCalls}

by_test : (x : Decided) (xs ys : List Decided) (b : Bool) → b ≡ true → ys ≡ xs → (if b then x ∷ ys else ys) ≡ x ∷ xs
by_test x xs ys x3 is same = grind arith

all_own : (globals : List ℕ) (n : NeverState) (xs : List Decided) → length n.registers ≡ 8
    → AreAdmitted globals n (asked xs) → calls_by 0 xs ≡ xs
all_own globals n [] count admitted = refl
all_own globals n (x ∷ xs) count admitted =
    let first : IsCaller n x.caller = admitted.0.of_a_caller in
    let stays = op_stays n x.caller x.op in
    by_test x xs (calls_by 0 xs) (x.caller == 0) (eq-eqb x.caller 0 (omega (arith, count, first)))
    (all_own globals (after_op n x.caller x.op) xs (stays.registers ∙ count) admitted.1)

pub calls_are_own : {c : Config} {es : List Event} → c.callers ≡ 1 → IsHistory c es
    → calls_by 0 (calls c es) ≡ calls c es
calls_are_own {c} {es} one history = grind (arith, all_own)

-- The caller makes no call where others alone do something.

pub none_called : (c : Config) {es fs : List Event} → Grows (Caller 0 ∷ []) es fs
    → calls_by 0 (calls c fs) ≡ calls_by 0 (calls c es)
none_called c {es} g = ap (λ (l : List Event). calls_by 0 (calls c l)) g.is ∙ others_add_none c 0 es g.more g.of_others

pub same_calls : {c : Config} {es fs : List Event} → c.callers ≡ 1 → IsHistory c es → IsHistory c fs
    → Grows (Caller 0 ∷ []) es fs → SameCalls c es fs
same_calls {c} one before later g = sym (calls_are_own one later) ∙ none_called c g ∙ calls_are_own one before

-- Calls one after the other.

pub never_then_calls : (c : Config) (es fs : List Event) (more : List Decided) → calls c fs ≡ calls c es ++ more
    → never_behind c fs ≡ after_calls (never_behind c es) (asked more)
never_then_calls c es fs more is = grind (arith, map-append, after_append)

-- The caller made calls of these operations, the first of which was full or not; and whether one was refused.
pub record CallsAll (c : Config) (es : List Event) (full : Bool) (ops : List Op) (refused : Bool) (fs : List Event)
    : Type 0 where
  pub more : List Decided
  pub begins : begins_full (answered more) ≡ full
  pub is : calls c fs ≡ calls c es ++ more
  pub asks : asked more ≡ calls_of_caller ops
  pub refuses : list_any is_refusal (answered more) ≡ refused

pub never_behind_all : {c : Config} {es : List Event} {full : Bool} {ops : List Op} {refused : Bool} {fs : List Event}
    → CallsAll c es full ops refused fs → never_behind c fs ≡ after_calls (never_behind c es) (calls_of_caller ops)
never_behind_all {c} {es} {fs} h = never_then_calls c es fs h.more h.is ∙ ap (after_calls (never_behind c es)) h.asks

refused_as_told : (a : Answer) → is_refusal (as_told a) ≡ is_refusal a
refused_as_told a = grind arith

or_none : (b : Bool) → (b || false) ≡ b
or_none b = grind arith

pub full_as_told : (a : Answer) → is_full_answer (as_told a) ≡ is_full_answer a
full_as_told a = grind arith

-- as many operations as answers
pub as_many : (xs : List Decided) (ops : List Op) → asked xs ≡ calls_of_caller ops → length ops ≡ length (answered xs)
as_many xs ops is =
    sym (length-map ops (λ (o : Op). record { caller = 0; op = o })) ∙ ap length (sym is) ∙ length-map xs
    (λ (x : Decided). record { caller = x.caller; op = x.op }) ∙ sym (length-map xs (λ (x : Decided). x.answer))

-- the first call of all
pub calls_first : {c : Config} {es : List Event} {o : Op} {told : Answer} {fs : List Event} → (g : Calls c es o told fs)
    → CallsAll c es (is_full_answer told) (flagged o g.answer ∷ []) (is_refusal told) fs
calls_first {o} g = grind (arith, full_as_told, or_none, refused_as_told)

pub begins_alike : (answers more : List Answer) → 1 ≤ length answers
    → begins_full (answers ++ more) ≡ begins_full answers
begins_alike x0 more some = grind arith

-- and one more
module _ {c : Config} {es : List Event} {full : Bool} {ops : List Op} {refused : Bool} {fs : List Event}
    (h : CallsAll c es full ops refused fs) {o : Op} {told : Answer} {gs : List Event} (g : Calls c fs o told gs) where
  ruleset calls_more_facts = (map-append, begins_alike, as_many, append_assoc, list_any-append, refused_as_told)

  pub calls_more : 1 ≤ length ops → CallsAll c es full (ops ++ flagged o g.answer ∷ []) (refused || is_refusal told) gs
  calls_more some = grind (arith, calls_more_facts, or_none)

-- What comes next of operations that may come.
pub next_may_come : {c : Config} {es : List Event} {full : Bool} {ops : List Op} {refused : Bool} {fs : List Event}
    (o : Op) (rest : List Op) → CallsAll c es full ops refused fs
    → AreAdmitted c.globals (never_behind c es) (calls_of_caller (ops ++ o ∷ rest)) → MayCome c fs o
next_may_come {c} {es} {ops} o rest h admitted =
    let parts = admitted_split c.globals (never_behind c es) (calls_of_caller ops) (calls_of_caller (o ∷ rest))
    (subst (AreAdmitted c.globals (never_behind c es))
    (map-append (λ (x : Op). record { caller = 0; op = x }) ops (o ∷ rest)) admitted) in
    subst (λ (n : NeverState). IsAdmitted c.globals n 0 o) (sym (never_behind_all h)) parts.1.0

-- The host between calls.

pub told_home : {w : WordsState} {h : HostState} (g : HostState) → CallerIsHome w h → g ≡ with_seen h g.pass.seen
    → has_over g.pass.seen ≡ has_over h.pass.seen → IsHistory g.pass.table.config g.pass.seen → CallerIsHome w g
told_home {w} g home is overs history = grind arith

pub joined_home : {w : WordsState} {h : HostState} (out g : HostState) (q : PassState) → CallerIsHome w h
    → out ≡ with_caller_out h 0 → g ≡ with_joined out q g.pass.seen → q.seats ≡ Caller 0 ∷ []
    → has_over g.pass.seen ≡ has_over out.pass.seen → IsHistory g.pass.table.config g.pass.seen → CallerIsHome w g
joined_home {w} {h} out g q home is joined seats overs history = record {
  table = ap (λ (x : HostState). x.pass.table) joined ∙ ap (λ (x : HostState). x.pass.table) is ∙ home.table;
  seat = ap (λ (x : HostState). x.pass.seat) joined ∙ ap (λ (x : HostState). x.pass.seat) is ∙ home.seat;
  history = subst (λ (x : WordsState). IsHistory x.config g.pass.seen)
      (ap (λ (x : HostState). x.pass.table) joined ∙ ap (λ (x : HostState). x.pass.table) is ∙ home.table) history;
  one = home.one;
  callers = ap (λ (x : HostState). x.callers) joined ∙ ap (λ (x : HostState). x.callers) is ∙ home.callers;
  markers = ap (λ (x : HostState). x.markers) joined ∙ ap (λ (x : HostState). x.markers) is ∙ home.markers;
  joined =
      subst (λ (x : HostState). Has x.pass.seats (Caller 0)) (sym joined) (has_right out.pass.seats q.seats (Caller 0)
      (subst (λ (l : List Seat). Has l (Caller 0)) (sym seats) (has_first (Caller 0) [])));
  all =
      subst (λ (x : HostState). HasAll w.config x.pass.seats) (sym joined) (subst
      (λ (x : HostState). HasAll w.config (x.pass.seats ++ q.seats)) (sym is) (subst (λ (l : List Seat). HasAll w.config
      (without_seat (Caller 0) h.pass.seats ++ l)) (sym seats) (all_again w.config (Caller 0) h.pass.seats home.all)));
  before_over = overs ∙ ap (λ (x : HostState). has_over x.pass.seen) is ∙ home.before_over;
}

-- The caller that the host makes again.

pub callers_at_home : {w : WordsState} {h : HostState} → CallerIsHome w h → h.pass.table.config.callers ≡ 1
callers_at_home home = ap (λ (x : WordsState). x.config.callers) home.table ∙ home.one

-- What may come now may come while the caller makes no call.
admits : {w : WordsState} {h : HostState} → CallerIsHome w h → (o : Op) → MayCome w.config h.pass.seen o
    → StaysAdmitted (pass_for h (Caller 0)) o
admits {h} home o comes = λ q later none.
    let c = h.pass.table.config in
    let history = subst (λ (x : WordsState). IsHistory x.config h.pass.seen) (sym home.table) home.history in
    let one = callers_at_home home in
    let now : IsHistory c q.seen = subst (λ (p : PassState). IsHistory p.table.config q.seen) none.is later in
    let all : calls c q.seen ≡ calls c h.pass.seen =
    sym (calls_are_own one now) ∙ none.entries ∙ calls_are_own one history in
    subst (λ (p : PassState). Admits p o) (sym none.is) (rw all (rw (← home.table) at comes))

module _ {w : WordsState} {h : HostState} (home : CallerIsHome w h) (s : CallerState)
    (made : IsAtHome s (pass_for h (Caller 0))) where
  pub made_seats : s.pass.seats ≡ Caller 0 ∷ []
  made_seats = ap (λ (p : PassState). p.seats) made.pass

  pub made_alone : s.pass.seats ≡ s.pass.seat ∷ []
  made_alone = subst (λ (p : PassState). p.seats ≡ p.seat ∷ []) (sym made.pass) refl

  pub made_exists : caller_of_pass s.pass < s.pass.table.config.callers
  made_exists = grind (arith, callers_at_home)

  pub made_admits : (o : Op) → MayCome w.config h.pass.seen o → StaysAdmitted s.pass o
  made_admits o comes = rw made.pass (admits home o comes)

-- The caller that the host makes first, and joins at once.
pub first_home : (w : WordsState) (h made joined : HostState) (q : PassState) → w.config.callers ≡ 1 → h ≡ first_host w
    → made ≡ with_caller_made h → joined ≡ with_joined made q joined.pass.seen → q.seats ≡ Caller 0 ∷ []
    → has_over joined.pass.seen ≡ has_over made.pass.seen → IsHistory joined.pass.table.config joined.pass.seen
    → CallerIsHome w joined
first_home w h made joined q one first is joins seats overs history =
    grind (arith, has_right, has_first, all_again, has_all)

-- All are joined then.
pub home_joined : {w : WordsState} {h : HostState} → CallerIsHome w h → AllAreJoined h
home_joined {h} home = grind arith
