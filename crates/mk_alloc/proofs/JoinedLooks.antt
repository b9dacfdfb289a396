-- A part of a turn after another, and after looks.
use Rattle.mk_caller.proofs.Below.Laws.Vocabulary.{Answer, Bool, Config, Decided, Flight, Holding, List, Object, Op}
use Rattle.mk_caller.proofs.Below.Laws.Vocabulary.{Place, Seat, Some, Steady, Step, World, and_from, and_parts, ap}
use Rattle.mk_caller.proofs.Below.Laws.Vocabulary.{append-nil, append_assoc, arith, caller_number, entry_of, flight_of}
use Rattle.mk_caller.proofs.Below.Laws.Vocabulary.{is_undecided_new, left, phase_of, place_on_pages, refl, subst, sym}
use Rattle.mk_caller.{proofs.Below.Laws.Vocabulary.{true, [], ◌++◌, ◌∙◌, ◌∷◌, ◌≡◌}, specs.Below.Words.Steps.{are_of}}
use Rattle.mk_alloc.proofs.ObjectVocabulary.{ComesTo, Does, GoesTo, IsAsLeft, IsGrantedAt, IsOutOfStop, IsUnplaced}
use Rattle.mk_alloc.proofs.ObjectVocabulary.{OnlyLooks, PassState, call_of, does_then, entry_for, is_look, now_of}
use Rattle.mk_alloc.proofs.{ObjectVocabulary.{object_for, own_calls, world_of}, Reaching.{counts_then, reaches_nothing}}
use Rattle.mk_alloc.proofs.{Reaching.seeing, Unchanged.{left_joined, left_same}}
use Rattle.mk_alloc.specs.Placing.{HeldIsExact, IsGranted, serves_at}
use Rattle.mk_core.specs.History.{Finding}

are_wider : (narrow wide : Step → Bool) → ((s : Step) → narrow s ≡ true → wide s ≡ true) → (xs : List Finding)
    → are_of narrow xs ≡ true → are_of wide xs ≡ true
are_wider narrow wide widens [] all = refl
are_wider narrow wide widens (x ∷ xs) all =
    let both = and_parts (narrow x.event.step) (are_of narrow xs) all in
    and_from (wide x.event.step) (are_of wide xs) (widens x.event.step both.0) (are_wider narrow wide widens xs both.1)

pub does_wider : (narrow wide : Step → Bool) → ((s : Step) → narrow s ≡ true → wide s ≡ true) → (p q : PassState)
    → Does narrow p q → Does wide p q
does_wider narrow wide widens p q d = record {
  more = d.more;
  is = d.is;
  own_or_others = d.own_or_others;
  of_kinds = are_wider narrow wide widens _ d.of_kinds;
}

-- Each kind of the one is of the other.
abbrev pub AreAmong : (Step → Bool) → (Step → Bool) → Type 0
AreAmong narrow wide = (x : Step) → narrow x ≡ true → wide x ≡ true

-- what is reached is of this sort, too
pub reaches_so : {kinds : Step → Bool} {p q : PassState} {A B : World → Type 0} {ds : List Decided}
    → ComesTo kinds p A ds q
    → (A (left p.table.config q.seen) → B (left p.table.config q.seen)) → ComesTo kinds p B ds q
reaches_so a so = record { same = a.same; does = a.does; calls = a.calls; world = so a.world; counts = a.counts }

-- with other names of its entries
pub reaches_named : {kinds : Step → Bool} {p q : PassState} {A : World → Type 0} {ds es : List Decided} → ds ≡ es
    → ComesTo kinds p A ds q → ComesTo kinds p A es q
reaches_named {kinds} {p} {q} {A} same a = subst (λ (l : List Decided). ComesTo kinds p A l q) same a

module _ {one two kinds : Step → Bool} (ones : AreAmong one kinds) (twos : AreAmong two kinds) where
  pub reaches_then : {p q r : PassState} {A : World → Type 0} (B : PassState → World → Type 0) {C : World
      → Type 0} {ds : List Decided} (entries : PassState → List Decided) → ComesTo one p A ds q
      → ComesTo two q (B q) (entries q) r → ((v : World) → A (left p.table.config q.seen) → B (seeing p q.seen) v → C v)
      → ComesTo kinds p C (ds ++ entries (seeing p q.seen)) r
  reaches_then {p} {q} {r} B {C} {ds} entries a b joined =
      by (subst (λ (x : PassState). ComesTo two x (B x) (entries x) r) a.same b)
    where
      by : ComesTo two (seeing p q.seen) (B (seeing p q.seen)) (entries (seeing p q.seen)) r
          → ComesTo kinds p C (ds ++ entries (seeing p q.seen)) r
      by b = record {
        same = b.same;
        does = does_then kinds p q r (does_wider one kinds ones p q a.does)
            (does_wider two kinds twos q r (subst (λ (x : PassState). Does two x r) (sym a.same) b.does));
        calls = cc (b.calls, a.calls, append_assoc (own_calls p p.seen) ds (entries (seeing p q.seen)));
        world = joined _ a.world b.world;
        counts = counts_then a.counts b.counts;
      }

  -- where the later part adds no entry
  pub reaches_after : {p q r : PassState} {A : World → Type 0} (B : PassState → World → Type 0) {C : World
      → Type 0} {ds : List Decided} → ComesTo one p A ds q → ComesTo two q (B q) [] r
      → ((v : World) → A (left p.table.config q.seen) → B (seeing p q.seen) v → C v) → ComesTo kinds p C ds r
  reaches_after B {ds = ds} a b joined = reaches_named (append-nil ds) (reaches_then B (λ x. []) a b joined)

-- A part of some kinds is one of more kinds.
pub reaches_wider : {narrow wide : Step → Bool} → AreAmong narrow wide → {p q : PassState} {A : World → Type 0}
    {ds : List Decided} → ComesTo narrow p A ds q → ComesTo wide p A ds q
reaches_wider widens a = grind (arith, does_wider)

-- The later part answers the call, whose operation the earlier one has left.
pub reaches_answered : {one two kinds : Step → Bool} → AreAmong one kinds → AreAmong two kinds
    → {p q r : PassState} {A C : World → Type 0} (B : PassState → World → Type 0) (a : Answer) → ComesTo one p A [] q
    → (flight_of (left p.table.config q.seen).now p.seat).op ≡ (call_of p).op → ComesTo two q (B q) (entry_for q a) r
    → ((v : World) → A (left p.table.config q.seen) → B (seeing p q.seen) v → C v) → ComesTo kinds p C (entry_for p a) r
reaches_answered ones twos {p} B a first op then joined =
    reaches_named (ap (λ (o : Op). entry_of (caller_number p.seat) o (Some a)) op)
    (reaches_then ones twos B (λ x. entry_for x a) first then joined)

-- what is known of the pass after it
module _ {kinds : Step → Bool} {p q : PassState} {A : World → Type 0} {ds : List Decided} (a : ComesTo kinds p A ds q)
  where
    pub reached_there : (claim : PassState → Type 0) → claim (seeing p q.seen) → claim q
    reached_there claim there = subst claim (sym a.same) there

    pub reached_table : q.table ≡ p.table
    reached_table = ap (λ (x : PassState). x.table) a.same

    pub reached_world : A (world_of q)
    reached_world = subst (λ (x : PassState). A (world_of x)) (sym a.same) a.world

-- Looks, and what is granted after them.

pub looks_nothing : (p : PassState) → OnlyLooks p p
looks_nothing p = reaches_nothing is_look p (IsAsLeft p.seat (world_of p)) (left_same p.seat (world_of p))

-- after looks all is as it was
pub looks_left : {p q : PassState} → OnlyLooks p q → IsAsLeft p.seat (world_of p) (world_of q)
looks_left {p} a = subst (λ (x : PassState). IsAsLeft p.seat (world_of p) (world_of x)) (sym a.same) a.world

pub looks_call : {p q : PassState} → OnlyLooks p q → call_of q ≡ call_of p
looks_call a = ap (λ (x : PassState). call_of x) a.same ∙ a.world.call

pub looks_table : {p q : PassState} → OnlyLooks p q → q.table ≡ p.table
looks_table a = ap (λ (x : PassState). x.table) a.same

pub looks_joined : {p q r : PassState} → OnlyLooks p q → OnlyLooks q r → OnlyLooks p r
looks_joined a b =
    reaches_after (λ x h. h) (λ x h. h) (λ x. IsAsLeft x.seat (world_of x)) a b (λ v a b. left_joined a b)

-- The object that a New creates is the same after looks.
same_object : {p q : PassState} → OnlyLooks p q → object_for q ≡ object_for p
same_object {p} {q} a = cc (looks_table a, looks_call a)

-- What is granted after looks is granted.
granted_over : {c : Config} {s : Seat} {place : Place} {w u v : World} → IsAsLeft s w u → IsGrantedAt c s place u v
    → IsGrantedAt c s place w v
granted_over a b = grind arith

pub granted_behind_looks : {p q r : PassState} {place : Place} → OnlyLooks p q → IsGranted q place r
    → IsGranted p place r
granted_behind_looks {p} {place = place} a b =
    reaches_answered (λ x h. grind arith) (λ x h. subst (λ (o : Object). serves_at o place x ≡ true) (same_object a) h)
    (λ x. IsGrantedAt x.table.config x.seat place (world_of x))
    Answer.Done a (ap (λ (f : Flight). f.op) a.world.call) b (λ v a b. granted_over a b)

-- Looks leave a New unplaced, and the tally as it is.
pub looks_unplaced : {p q : PassState} → OnlyLooks p q → IsUnplaced p → IsUnplaced q
looks_unplaced {p} {q} a u =
    let kept = looks_left a in
    record {
      new = ap (λ (f : Flight). is_undecided_new f) (looks_call a) ∙ u.new;
      placing = ap (λ (h : Holding). h.placing) kept.holding ∙ u.placing;
      phase = phase_same (ap (λ (x : Steady). x.phase) kept.steady) u.phase;
    }
  where
    phase_same : phase_of (now_of q).words ≡ phase_of (now_of p).words → IsOutOfStop (now_of p) → IsOutOfStop (now_of q)
    phase_same e x1 = grind arith

pub looks_exact : {p q : PassState} → OnlyLooks p q → HeldIsExact p → HeldIsExact q
looks_exact a exact = grind (arith, looks_left, looks_table)

pub looks_object : {p q : PassState} → OnlyLooks p q → object_for q ≡ object_for p
looks_object a = cc (looks_table a, looks_call a)

pub looks_pages : {p q : PassState} → OnlyLooks p q → (now_of q).words.pages ≡ (now_of p).words.pages
looks_pages a = ap (λ (x : Steady). x.pages) (looks_left a).steady

-- the first fit on the pages is where an unplaced New goes
pub goes_to : {p : PassState} (place : Place) → IsUnplaced p → place_on_pages p.table.config.resident
    (now_of p).words.pages (object_for p) ≡ Some place → GoesTo p place
goes_to place u fit = grind arith
