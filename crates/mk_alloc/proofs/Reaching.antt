-- The turn's holder goes on by a step.
use Rattle.std.proofs.lemmas.List.Sums.{sum_by_push}
use Rattle.mk_caller.proofs.Below.Laws.Vocabulary.{Answer, AreOfOthers, AreOfPages, Bool, Caller, Config, Decided}
use Rattle.mk_caller.proofs.Below.Laws.Vocabulary.{Event, List, None, Option, Seat, Step, World, ℕ, answer_decided, ap}
use Rattle.mk_caller.proofs.Below.Laws.Vocabulary.{append-nil, append_assoc, arith, call_decided, caller_number, calls}
use Rattle.mk_caller.proofs.Below.Laws.Vocabulary.{entry_of, eq-eqb, false, first_world, flight_of}
use Rattle.mk_caller.proofs.Below.Laws.Vocabulary.{histories_keep_lengths, is_end, left, ne_eqb, refl, subst, sym, true}
use Rattle.mk_caller.proofs.Below.Laws.Vocabulary.{world_behind, [], ◌++◌, ◌==◌, ◌∙◌, ◌∷◌, ◌≡◌, ◌≢◌}
use Rattle.mk_caller.proofs.Below.Laws.FramesLongerLists.{by_append, calls_by, others_add_none, own_entry}
use Rattle.mk_caller.proofs.Below.Laws.OthersCounts.{entry_fulls, fulls_append, fulls_of}
use Rattle.mk_caller.proofs.{Below.Words.Doing.{does_nothing, does_step}, Below.Words.Made.made}
use Rattle.mk_alloc.proofs.ObjectVocabulary.{Acts, ComesTo, Does, IsAsLeft, Known, PassState, answers_full, calls_more}
use Rattle.mk_alloc.proofs.ObjectVocabulary.{decides_nothing, does_then, event_of, own_calls, world_of}
use Rattle.mk_caller.specs.{Below.Words.Steps.may_decide, Below.Words.TurnSteps.world_at}
use Rattle.mk_core.specs.Frames.{CountsAreLeft, HoldsAll, written_of}

-- What is counted of ended cycles and of Full answers, one event further and in parts.

pub counts_then : {c : Config} {es fs gs : List Event} → CountsAreLeft c es fs → CountsAreLeft c fs gs
    → CountsAreLeft c es gs
counts_then a b = record { ends = b.ends ∙ a.ends; fulls = b.fulls ∙ a.fulls }

pub counts_more : (c : Config) (es : List Event) (e : Event) → is_end e.step ≡ false
    → answers_full (answer_decided c (left c es).now e) ≡ false → CountsAreLeft c es (es ++ e ∷ [])
counts_more c es e no_end no_full = grind (arith, sum_by_push, fulls_of, entry_fulls, calls_more, fulls_append)

-- A caller's step after events of others adds the entry that it decides, if it decides one.
pub own_adds : (p : PassState) {k : ℕ} → p.seat ≡ Caller k → (es others : List Event) (x : Step) {a : Option Answer}
    {ds : List Decided} → AreOfOthers (p.seat ∷ []) others
    → answer_decided p.table.config (left p.table.config (es ++ others)).now (event_of p x) ≡ a
    → entry_of (caller_number p.seat) (flight_of (left p.table.config (es ++ others)).now p.seat).op a ≡ ds
    → own_calls p (es ++ others ++ event_of p x ∷ []) ≡ own_calls p es ++ ds
own_adds p is es others x {a} of_others answer entry =
    let c : Config = p.table.config in
    let k : ℕ = caller_number p.seat in
    let w : World = left c (es ++ others) in
    let own : p.seat ≡ Caller k = is ∙ ap (λ (s : Seat). Caller (caller_number s)) (sym is) in
    ap (λ (l : List Decided). calls_by k l) (calls_more c (first_world c) (es ++ others) (event_of p x))
    ∙ by_append k (calls c (es ++ others)) (call_decided c w.now (event_of p x))
    ∙ ap (λ (l : List Decided). l ++ calls_by k (call_decided c w.now (event_of p x)))
    (others_add_none c k es others (subst (λ (s : Seat). AreOfOthers (s ∷ []) others) own of_others))
    ∙ ap (λ (l : List Decided). own_calls p es ++ l) (ap (λ (y : Option Answer). calls_by k (entry_of k
    (flight_of w.now p.seat).op y)) answer ∙ own_entry k (flight_of w.now p.seat).op a ∙ entry)

-- the pass, where it has seen these
abbrev pub seeing : PassState → List Event → PassState
seeing p es = record p { seen = es }

held_so : {a : ℕ} (b : ℕ) → (a ≡ 2 → b ≡ 2) → (a ≢ 2 → b ≢ 2) → (b == 2) ≡ (a == 2)
held_so b held free = grind (arith, eq-eqb, ne_eqb)

-- The step was made in this world, which others had left the holder its own.
pub record MadeIn (p : PassState) (es : List Event) (s : Step) (r : PassState) : Type 0 where
  pub others : List Event
  pub of_others : AreOfOthers (p.seat ∷ []) others
  pub same : r ≡ seeing p (es ++ others ++ event_of p s ∷ [])
  pub kept : IsAsLeft p.seat (left p.table.config es) (left p.table.config (es ++ others))
  pub stop : HoldsAll p.table.config (left p.table.config es).now p.seat
      → written_of (left p.table.config (es ++ others)) ≡ written_of (left p.table.config es)
  pub counts : CountsAreLeft p.table.config es (es ++ others)
  pub behind : world_of r ≡ world_behind p.table.config (left p.table.config (es ++ others)) (event_of p s)
  pub known : Known p.table.config (left p.table.config (es ++ others)).now
  pub does : (kinds : Step → Bool) → kinds s ≡ true → Does kinds (seeing p es) r

-- what others had left it where it made its step
pub kept_by : {p q : PassState} {s : Step} (a : Acts p s q) → IsAsLeft p.seat (world_of p) (world_at a.makes)
kept_by a = record {
  call = a.own.flight;
  holding = a.holding;
  steady = a.turn.steady;
  marks = a.turn.marks_grow;
  registers = a.own.registers;
  gates = λ j. held_so _ (a.turn.held_gates j) (a.turn.other_gates j);
}

pub made_in : (p : PassState) (es : List Event) {s : Step} {r : PassState} → Acts (seeing p es) s r → MadeIn p es s r
made_in p es {s} {r} a =
    let d = made (seeing p es) s r a.makes in
    record {
      others = a.makes.others;
      of_others = d.others;
      same = a.makes.is;
      kept = kept_by a;
      stop = a.stop;
      counts = a.counts;
      behind = a.world;
      known = d.known;
      does = λ kinds ok. does_step kinds (seeing p es) r s a.makes ok;
    }

pub reaches_nothing : (kinds : Step → Bool) (p : PassState) (A : World → Type 0) → A (world_of p)
    → ComesTo kinds p A [] p
reaches_nothing kinds p x2 here = grind (arith, does_nothing, append-nil)

-- What a step that is made in a world comes to, and the entry that it adds to the calls of its own.
pub record StepsTo (p : PassState) (s : Step) (B : World → Type 0) (es : List Decided) (v : World) : Type 0 where
  pub world : B (world_behind p.table.config v (event_of p s))
  pub answer : Option Answer
  pub decides : answer_decided p.table.config v.now (event_of p s) ≡ answer
  pub no_full : answers_full answer ≡ false
  pub entry : entry_of (caller_number p.seat) (flight_of v.now p.seat).op answer ≡ es

pub record IsCallers (p : PassState) : Type 0 where
  pub number : ℕ
  pub is : p.seat ≡ Caller number

-- what is known of the world in which the holder makes a step, where it had come to such a one
abbrev pub GoesOn : (p : PassState) (A : World → Type 0) (C : World → Type 0) → Type 0
GoesOn p A C =
    (w v : World) → A w → IsAsLeft p.seat w v → Known p.table.config v.now → AreOfPages p.table.config.pages v.now.words
    → C v

-- and, while all others are stopped, that they have left all words as they were
abbrev pub GoesOnInStop : (p : PassState) (A : World → Type 0) (C : World → Type 0) → Type 0
GoesOnInStop p A C =
    (w v : World) → A w → IsAsLeft p.seat w v → (HoldsAll p.table.config w.now p.seat → written_of v ≡ written_of w)
    → Known p.table.config v.now → AreOfPages p.table.config.pages v.now.words → C v

-- One step further.
pub reaches_in_stop : {kinds : Step → Bool} {p q r : PassState} (A B : World → Type 0) {ds es : List Decided} {s : Step}
    → ComesTo kinds p A ds q → Acts q s r → kinds s ≡ true → is_end s ≡ false → IsCallers p
    → GoesOnInStop p A (StepsTo p s B es) → ComesTo kinds p B (ds ++ es) r
reaches_in_stop {kinds} {p} {q} {r} A B {ds} {es} {s} reached acts allowed no_end caller next =
    let c : Config = p.table.config in
    let m : MadeIn p q.seen s r = made_in p q.seen (subst (λ (x : PassState). Acts x s r) reached.same acts) in
    let v : World = left c (q.seen ++ m.others) in
    let on : StepsTo p s B es v =
    next (left c q.seen) v reached.world m.kept m.stop m.known (histories_keep_lengths c (q.seen ++ m.others)) in
    let seen : r.seen ≡ q.seen ++ m.others ++ event_of p s ∷ [] = ap (λ (x : PassState). x.seen) m.same in
    let one = counts_more c (q.seen ++ m.others) (event_of p s) no_end (ap answers_full on.decides ∙ on.no_full) in
    record {
      same = m.same ∙ ap (λ (l : List Event). seeing p l) (sym seen);
      does = does_then kinds p q r reached.does
          (subst (λ (x : PassState). Does kinds x r) (sym reached.same) (m.does kinds allowed));
      calls = ap (λ (l : List Event). own_calls p l) seen ∙ own_adds p caller.is q.seen m.others s
          m.of_others on.decides on.entry ∙ ap (λ (l : List Decided). l ++ es) reached.calls
          ∙ append_assoc (own_calls p p.seen) ds es;
      world = subst B (sym m.behind ∙ ap (λ (x : PassState). world_of x) m.same
          ∙ ap (λ (l : List Event). left c l) (sym seen)) on.world;
      counts = subst (λ (l : List Event). CountsAreLeft c p.seen l) (sym seen)
          (counts_then (counts_then reached.counts m.counts) one);
    }

pub reaches_on : {kinds : Step → Bool} {p q r : PassState} (A B : World → Type 0) {ds es : List Decided} {s : Step}
    → ComesTo kinds p A ds q → Acts q s r → kinds s ≡ true → is_end s ≡ false → IsCallers p
    → GoesOn p A (StepsTo p s B es) → ComesTo kinds p B (ds ++ es) r
reaches_on A B reached acts allowed no_end caller next =
    reaches_in_stop A B reached acts allowed no_end caller (λ w v a kept stop known pages. next w v a kept known pages)

-- a step that decides nothing

idle_steps : (p : PassState) (s : Step) (B : World → Type 0) (v : World) → may_decide s ≡ false
    → B (world_behind p.table.config v (event_of p s)) → StepsTo p s B [] v
idle_steps p s B v idle there = record {
  world = there;
  answer = None;
  decides = decides_nothing p.table.config v.now p.seat s idle;
  no_full = refl;
  entry = refl;
}

pub reaches_still_in_stop : {kinds : Step → Bool} {p q r : PassState} (A B : World → Type 0) {ds : List Decided}
    {s : Step} → ComesTo kinds p A ds q → Acts q s r → kinds s ≡ true → is_end s ≡ false → IsCallers p → may_decide
    s ≡ false → GoesOnInStop p A (λ v. B (world_behind p.table.config v (event_of p s))) → ComesTo kinds p B ds r
reaches_still_in_stop {kinds} {p} {r} A B {ds} {s} reached acts allowed no_end caller idle next =
    subst (λ (l : List Decided). ComesTo kinds p B l r) (append-nil ds) (reaches_in_stop A B reached acts allowed no_end
    caller (λ w v a kept stop known pages. idle_steps p s B v idle (next w v a kept stop known pages)))

pub reaches_still : {kinds : Step → Bool} {p q r : PassState} (A B : World → Type 0) {ds : List Decided} {s : Step}
    → ComesTo kinds p A ds q → Acts q s r → kinds s ≡ true → is_end s ≡ false → IsCallers p → may_decide s ≡ false
    → GoesOn p A (λ v. B (world_behind p.table.config v (event_of p s))) → ComesTo kinds p B ds r
reaches_still A B reached acts allowed no_end caller idle next =
    reaches_still_in_stop A B reached acts allowed no_end caller idle
    (λ w v a kept stop known pages. next w v a kept known pages)

-- the first step of a part

pub reaches_at_once : {kinds : Step → Bool} {p r : PassState} (B : World → Type 0) {es : List Decided} {s : Step}
    → Acts p s r → kinds s ≡ true → is_end s ≡ false → IsCallers p → ((v : World) → IsAsLeft p.seat (world_of p) v
    → Known p.table.config v.now → AreOfPages p.table.config.pages v.now.words → StepsTo p s B es v)
    → ComesTo kinds p B es r
reaches_at_once {kinds} {p} B acts allowed no_end caller next =
    reaches_on (λ w. w ≡ world_of p) B (reaches_nothing kinds p (λ w. w ≡ world_of p) refl) acts allowed no_end caller
    (λ w v first kept known pages. next v (subst (λ (x : World). IsAsLeft p.seat x v) first kept) known pages)

pub reaches_first : {kinds : Step → Bool} {p r : PassState} (B : World → Type 0) {s : Step} → Acts p s r
    → kinds s ≡ true → is_end s ≡ false → IsCallers p → may_decide s ≡ false → ((v : World)
    → IsAsLeft p.seat (world_of p) v → Known p.table.config v.now → AreOfPages p.table.config.pages v.now.words
    → B (world_behind p.table.config v (event_of p s))) → ComesTo kinds p B [] r
reaches_first {p = p} B {s = s} acts allowed no_end caller idle next =
    reaches_at_once B acts allowed no_end caller
    (λ v kept known pages. idle_steps p s B v idle (next v kept known pages))
