-- A Free is decided, and parts of its turn come before that and after it.
use Rattle.mk_caller.proofs.Below.Laws.Vocabulary.{Answer, Bool, Cell, Flight, Holding, List, Page, PlacedAllocation}
use Rattle.mk_caller.proofs.Below.Laws.Vocabulary.{RunPages, Seat, Some, Steady, Step, Tally, Words, World, ℕ}
use Rattle.mk_caller.proofs.Below.Laws.Vocabulary.{all_below-at, ap, arith, cond, false, flight_of, free_page}
use Rattle.mk_caller.proofs.Below.Laws.Vocabulary.{freed_released, freed_where_it_stands, header_in, header_of}
use Rattle.mk_caller.proofs.Below.Laws.Vocabulary.{heads_run, is_held, map, not, refl, slice_index_or, sym, true, []}
use Rattle.mk_caller.proofs.Below.Laws.Vocabulary.{◌+◌, ◌↔◌, ◌∙◌, ◌∷◌, ◌≡◌}
use Rattle.mk_alloc.proofs.ObjectVocabulary.{Changes, ComesTo, FreesCell, HasFreed, IsOverQuarter, IsTrue, IsTurn}
use Rattle.mk_alloc.proofs.ObjectVocabulary.{OnlyLooks, PassState, SetsGates, SetsTally, StaysSo, Unmaps, Wipes}
use Rattle.mk_alloc.proofs.ObjectVocabulary.{WordsState, all_below_from, does_then, entry_for, is_following, is_freeing}
use Rattle.mk_alloc.proofs.ObjectVocabulary.{is_freeing_small, is_look, sets_tallies, none_is_held, now_of, steady_of}
use Rattle.mk_alloc.proofs.{ObjectVocabulary.{sum_by-cons, world_of}, JoinedLooks.{AreAmong, reached_world}}
use Rattle.mk_alloc.proofs.JoinedLooks.{reaches_after, reaches_answered, reaches_so, reaches_wider}
use Rattle.mk_alloc.proofs.FreedOnce.{FreesNot, once_behind}
use Rattle.mk_alloc.specs.FreeParts.{IsDecidedAt, counted, IsButGates}
use Rattle.mk_core.specs.Counts.{releases}

-- What stays over each part.

abbrev pub Stays : (Step → Bool) → PassState → PassState → Type 0
Stays kinds p q = ComesTo kinds p (StaysSo p.seat (world_of p)) [] q

-- what none but the holder changes was changed so, which leaves what is counted
pub stays_by : (s : Seat) (w v : World) (change : Steady → Steady) → flight_of v.now s ≡ flight_of w.now s
    → v.now.seats.holding ≡ w.now.seats.holding → steady_of v ≡ change (steady_of w) → counted (change (steady_of w))
    ≡ counted (steady_of w) → (change (steady_of w)).fresh_words ≡ (steady_of w).fresh_words
    → (change (steady_of w)).allocations ≡ (steady_of w).allocations → StaysSo s w v
stays_by s w v change call holding steady same fresh allocations = record {
  call = call;
  holding = holding;
  counted = ap counted steady ∙ same;
  fresh_words = ap (λ (x : Steady). x.fresh_words) steady ∙ fresh;
  allocations = ap (λ (x : Steady). x.allocations) steady ∙ allocations;
}

pub gates_stay : {kinds : Step → Bool} {p q : PassState} {gates : ℕ → Bool} → SetsGates kinds p gates q
    → Stays kinds p q
gates_stay a =
    reaches_so a (λ at.
    stays_by _ _ _ (λ x. x) at.but_gates.call at.but_gates.holding at.but_gates.steady refl refl refl)

changes_stay : {s : Seat} {w v : World} {change : Steady → Steady} → Changes s change w v
    → counted (change (steady_of w)) ≡ counted (steady_of w) → (change (steady_of w)).fresh_words
    ≡ (steady_of w).fresh_words → (change (steady_of w)).allocations ≡ (steady_of w).allocations → StaysSo s w v
changes_stay at same fresh allocations = grind (arith, stays_by)

pub wipes_stay : {p q : PassState} {run : RunPages} → Wipes p run q → Stays is_following p q
wipes_stay a = reaches_so a (λ at. changes_stay at.changes refl refl refl)

pub unmaps_stay : {p q : PassState} {run : RunPages} → Unmaps p run q → Stays is_following p q
unmaps_stay a = reaches_so a (λ at. changes_stay at.changes refl refl refl)

pub fresh_stays : {p q : PassState} {n : ℕ} → SetsTally p Tally.Fresh n q → Stays sets_tallies p q
fresh_stays a = reaches_so a (λ at. changes_stay at refl refl refl)

pub held_stays : {p q : PassState} {n : ℕ} → SetsTally p Tally.Held n q → Stays sets_tallies p q
held_stays a = reaches_so a (λ at. changes_stay at refl refl refl)

pub stays_then : {one two kinds : Step → Bool} → AreAmong one kinds → AreAmong two kinds → {p q r : PassState}
    → Stays one p q → Stays two q r → Stays kinds p r
stays_then ones twos a b = reaches_after ones twos (λ x. StaysSo x.seat (world_of x)) a b (λ v a b. record {
  call = b.call ∙ a.call;
  holding = b.holding ∙ a.holding;
  counted = b.counted ∙ a.counted;
  fresh_words = b.fresh_words ∙ a.fresh_words;
  allocations = b.allocations ∙ a.allocations;
})

pub stays_now : {kinds : Step → Bool} {p q : PassState} → Stays kinds p q → StaysSo p.seat (world_of p) (world_of q)
stays_now a = reached_world a

-- The `quar` decides,

freed_releases : (w : Words) (cell : Cell) (xs : List PlacedAllocation)
    → releases (map (freed_where_it_stands w (Some cell)) xs) ≡ releases xs
freed_releases w cell [] = refl
freed_releases w cell (a ∷ xs) =
    let one : (y : PlacedAllocation) (ys : List PlacedAllocation)
    → releases (y ∷ ys) ≡ cond {A = ℕ} y.released 1 0 + releases ys =
    λ y ys. sum_by-cons (λ (x : PlacedAllocation). cond {A = ℕ} x.released 1 0) y ys in
    one (freed_where_it_stands w (Some cell) a) (map (freed_where_it_stands w (Some cell)) xs)
    ∙ ap (λ n. cond {A = ℕ} (freed_where_it_stands w (Some cell) a).released 1 0 + n) (freed_releases w cell xs)
    ∙ ap (λ b. cond {A = ℕ} b 1 0 + releases xs) (freed_released w (Some cell) a) ∙ sym (one a xs)

abbrev pub Decides : (Step → Bool) → PassState → Answer → PassState → Type 0
Decides kinds p a q = ComesTo kinds p (IsDecidedAt p.seat (world_of p)) (entry_for p a) q

pub freed_decides : {p q : PassState} {cell : Cell} → HasFreed p cell q → Decides is_freeing p Answer.Done q
freed_decides a = reaches_wider (λ x h. grind arith) (reaches_so a (λ at. grind (arith, freed_releases)))

-- what follows leaves it decided,

pub decides_before : {p q r : PassState} {a : Answer} → Decides is_freeing p a q → Stays is_following q r
    → Decides is_freeing p a r
decides_before d s =
    reaches_after (λ x h. h) (λ x h. grind arith) (λ x. StaysSo x.seat (world_of x)) d s (λ v one two. record {
      stage = ap (λ (f : Flight). f.stage) two.call ∙ one.stage;
      op = ap (λ (f : Flight). f.op) two.call ∙ one.op;
      placing = ap (λ (h : Holding). h.placing) two.holding ∙ one.placing;
      cycle = ap (λ (h : Holding). h.cycle) two.holding ∙ one.cycle;
      counted = two.counted ∙ one.counted;
    })

-- and so it is after a part that leaves the call as it was, or one at this point of it.

pub decided_behind : {s : Seat} (w : World) {u v : World} → (flight_of u.now s).op ≡ (flight_of w.now s).op
    → u.now.seats.holding ≡ w.now.seats.holding
    → counted (steady_of u) ≡ counted (steady_of w) → IsDecidedAt s u v → IsDecidedAt s w v
decided_behind w op holding same b = record {
  stage = b.stage;
  op = b.op ∙ op;
  placing = b.placing ∙ ap (λ (h : Holding). h.placing) holding;
  cycle = b.cycle ∙ ap (λ (h : Holding). h.cycle) holding;
  counted = b.counted ∙ same;
}

pub decides_behind : {kinds : Step → Bool} → AreAmong kinds is_freeing → {p q r : PassState} {a : Answer}
    → Stays kinds p q → Decides is_freeing q a r → Decides is_freeing p a r
decides_behind among {p} {a} s d =
    reaches_answered among (λ x h. h) (λ x. IsDecidedAt x.seat (world_of x)) a s
    (ap (λ (f : Flight). f.op) s.world.call) d
    (λ v one two. decided_behind (world_of p) (ap (λ (f : Flight). f.op) one.call) one.holding one.counted two)

-- What comes before a Free's `quar` leaves its turn as it was, but for gates: what is asked stays so, and what is freed
-- after it is freed.

abbrev pub IsExactly : WordsState → Bool → List PlacedAllocation → Type 0
IsExactly t due xs = IsTrue due ↔ IsOverQuarter t.config xs

abbrev pub Prepares : (Step → Bool) → PassState → PassState → Type 0
Prepares kinds p q = ComesTo kinds p (IsButGates p.seat (world_of p)) [] q

pub gates_prepare : {kinds : Step → Bool} {p q : PassState} {gates : ℕ → Bool} → SetsGates kinds p gates q
    → Prepares kinds p q
gates_prepare a = reaches_so a (λ at. at.but_gates)

pub looks_prepare : {p q : PassState} → OnlyLooks p q → Prepares is_look p q
looks_prepare a = reaches_so a (λ at. record { call = at.call; holding = at.holding; steady = at.steady })

module _ {kinds : Step → Bool} {p q : PassState} (a : Prepares kinds p q) where
  now : IsButGates p.seat (world_of p) (world_of q)
  now = reached_world a

  pub prepared_table : p.table ≡ q.table
  prepared_table = sym (ap (λ (x : PassState). x.table) a.same)

  so : Stays kinds p q
  so = reaches_so a (λ at. stays_by _ _ _ (λ x. x) at.call at.holding at.steady refl refl refl)

  pub frees_behind : {r : PassState} {cell : Cell} {due : Bool} → AreAmong kinds is_freeing
      → (heads_run (header_in (now_of p).words cell.page) ≡ false → AreAmong kinds is_freeing_small) → FreesNot kinds
      → IsTurn p → IsTurn q → FreesCell q cell due r → FreesCell p cell due r
  frees_behind {r} {cell} {due} among among_small not turn behind f = record {
    reaches = decides_behind among so f.reaches;
    allocations = f.allocations ∙ ap (λ (ps : List Page). map (freed_where_it_stands
        (record (now_of q).words { pages = ps }) (Some cell)) (world_of q).allocations)
        (ap (λ (x : Steady). x.pages) now.steady) ∙ ap (λ (xs : List PlacedAllocation). map
        (freed_where_it_stands (now_of p).words (Some cell)) xs) (ap (λ (x : Steady). x.allocations) now.steady);
    small = λ no_run. does_then is_freeing_small p q r (reaches_wider (among_small no_run) a).does
        (f.small (ap (λ (x : Steady). heads_run (header_of (slice_index_or x.pages cell.page free_page).header))
        now.steady ∙ no_run));
    once = once_behind not a.does turn behind f.once;
    gone = f.gone;
    gates = rw prepared_table f.gates;
    exact = f.exact;
    exactly = rw prepared_table f.exactly;
  }

-- No gate is held after it where none was.
pub still_open : (p q : PassState) → p.table ≡ q.table
    → ((j : ℕ) → is_held (now_of q).words j ≡ is_held (now_of p).words j) → none_is_held p.table.config.callers
    (now_of p).words ≡ true → none_is_held q.table.config.callers (now_of q).words ≡ true
still_open p q table gates none =
    ap (λ (t : WordsState). none_is_held t.config.callers (now_of q).words) (sym table)
    ∙ all_below_from p.table.config.callers (λ j. not (is_held (now_of q).words j))
    (λ j lt. ap not (gates j) ∙ all_below-at p.table.config.callers j (λ i. not (is_held (now_of p).words i)) none lt)
