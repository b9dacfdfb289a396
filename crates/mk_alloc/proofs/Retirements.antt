-- A Free's whole turn: its register was null, or its object was freed, or found freed.
use Rattle.mk_caller.proofs.Below.Laws.Vocabulary.{Answer, Bool, Cell, Flight, List, Null, PlacedAllocation, Ptr, Seat}
use Rattle.mk_caller.proofs.Below.Laws.Vocabulary.{Some, Stage, Steady, Step, Value, World, ℕ, allocation_at, ap, arith}
use Rattle.mk_caller.proofs.Below.Laws.Vocabulary.{false, flight_of, freed_where_it_stands, has_bit, if◌then◌else◌}
use Rattle.mk_caller.proofs.Below.Laws.Vocabulary.{is_freed, is_held, is_large, is_run_gone, kinds_of, length, map}
use Rattle.mk_caller.proofs.Below.Laws.Vocabulary.{never_behind, nothing_done, placed_at, quarantine_word, refl}
use Rattle.mk_caller.proofs.Below.Laws.Vocabulary.{slice_index, subst, sym, target, true, true≢false, [], ◌%◌, ◌<◌}
use Rattle.mk_caller.proofs.Below.Laws.Vocabulary.{◌==◌, ◌^◌, ◌∙◌, ◌≡◌}
use Rattle.mk_alloc.proofs.ObjectVocabulary.{CallIsAt, ComesTo, Does, FreesCell, IsAsLeft, IsBase, IsFreeAt}
use Rattle.mk_alloc.proofs.ObjectVocabulary.{IsOutOfStop, IsTurn, MayFree, OnlyLooks, PassState, WordsState}
use Rattle.mk_alloc.proofs.ObjectVocabulary.{all_below_from, call_of, does_then, entry_for, is_acting}
use Rattle.mk_alloc.proofs.ObjectVocabulary.{histories_keep_the_invariant, is_freeing, is_freeing_small, is_loading}
use Rattle.mk_alloc.proofs.ObjectVocabulary.{loaded_free, none_is_held, now_of, value_of, world_of}
use Rattle.mk_alloc.proofs.DecidedFrees.{Decides, Prepares, decided_behind, prepared_table, still_open}
use Rattle.mk_alloc.proofs.{FreeSteps.{freed_same, low_half, target_same}, FreedObjects.{IsObjectAt, granted}}
use Rattle.mk_alloc.proofs.{FreedObjects.{it_is_freed, its_freed, its_size, object_at}, FreedOnce.{due_since, due_then}}
use Rattle.mk_alloc.proofs.{FreedOnce.{none_due, once_behind}, JoinedLooks.{looks_call, looks_left, looks_table}}
use Rattle.mk_alloc.proofs.JoinedLooks.{reached_table, reached_world, reaches_after, reaches_answered, reaches_named}
use Rattle.mk_alloc.proofs.{JoinedLooks.{reaches_so, reaches_wider}, Serves.out_of_stop}
use Rattle.mk_alloc.proofs.{LoadedFrees.loaded_undecided, MayAct.free_is_acting, SmallFrees.{exact_still, none_held}}
use Rattle.mk_alloc.specs.{FreeParts.{IsDecidedAt, MayFreeOn, counted}, Retiring.{HasLoaded, HasSeen, IsLoaded}}
use Rattle.mk_alloc.specs.Retiring.{IsUnloaded, KeepsValues, seen_free, DecidesFree, FindsFreed, IsFreed, Retires}
use Rattle.mk_alloc.specs.Retiring.{freeing_kinds, kinds_for, with_freed_object}
use Rattle.mk_core.specs.Counts.{TalliesAreExact}

-- A Free on its way: up to its `quar` it only loads, or comes to be decided.

abbrev pub Comes : PassState → Flight → PassState → Type 0
Comes p f q = ComesTo is_loading p (CallIsAt p.seat f (world_of p)) [] q

pub is_at_then : {s : Seat} {f g : Flight} {w u v : World} → CallIsAt s f w u → CallIsAt s g u v → CallIsAt s g w v
is_at_then a b = record {
  call = b.call;
  holding = b.holding ∙ a.holding;
  steady = b.steady ∙ a.steady;
  registers = λ k r is lt. b.registers k r is lt ∙ a.registers k r is lt;
  gates = λ j. b.gates j ∙ a.gates j;
}

at_left : {s : Seat} {f : Flight} {u v : World} → IsAsLeft s u v → flight_of u.now s ≡ f → CallIsAt s f u v
at_left b call = record {
  call = b.call ∙ call;
  holding = b.holding;
  steady = b.steady;
  registers = b.registers;
  gates = b.gates;
}

pub comes_loaded : {p q : PassState} {r u : ℕ} → HasLoaded p r u q → (u == 0) ≡ false → Comes p (loaded_free r u) q
comes_loaded {p} a some = reaches_named (ap (λ (b : Bool). if b then entry_for p Answer.Done else []) some) a

pub comes_looking : {p q r : PassState} {f : Flight} → Comes p f q → OnlyLooks q r → Comes p f r
comes_looking a b =
    reaches_after (λ x h. h) (λ x h. grind arith) (λ x. IsAsLeft x.seat (world_of x)) a b
    (λ v a b. is_at_then a (at_left b a.call))

-- what is asked of the pass that has come so far
module _ {p q : PassState} {f : Flight} (a : Comes p f q) where
  pub come_now : CallIsAt p.seat f (world_of p) (world_of q)
  come_now = reached_world a

  pub come_table : p.table ≡ q.table
  come_table = sym (reached_table a)

  pub come_call : call_of q ≡ f
  come_call = ap (λ (x : PassState). call_of x) a.same ∙ a.world.call

-- The Free has loaded its register, which isn't null.
pub loaded_then : {p q : PassState} {r u : ℕ} → IsUnloaded p r → HasLoaded p r u q → (u == 0) ≡ false
    → value_of q r ≡ value_of p r → IsLoaded q
loaded_then {r} {u} unloaded loaded some keeps = record {
  register = r;
  value = u;
  free = record {
    call = come_call (comes_loaded loaded some);
    small = unloaded.small;
    base = subst (λ (v : Value). IsBase v) (sym keeps) unloaded.base;
  };
  some = some;
}

-- The look at the quarantine word goes on or decides.

pub seen_at : {p q r : PassState} {f g : Flight} (cell : Cell) {double : Bool} → Comes p f q → HasSeen q cell r
    → is_freed (now_of q).words cell ≡ double → seen_free f double ≡ g
    → ComesTo is_loading q (CallIsAt q.seat g (world_of q)) (if double then entry_for q Answer.Double else []) r
seen_at cell a b freed to = grind (arith, reaches_named, reaches_so)

pub comes_seeing : {p q r : PassState} {f : Flight} (cell : Cell) → Comes p f q → HasSeen q cell r
    → is_freed (now_of q).words cell ≡ false → Comes p f r
comes_seeing {f} cell a b live =
    reaches_after (λ x h. h) (λ x h. h) (λ x. CallIsAt x.seat f (world_of x)) a
    (seen_at cell a b live refl) (λ v a b. is_at_then a b)

-- a decided call

-- What a turn that is decided leaves.

pub decides_free : {kinds : Step → Bool} {p q : PassState} {a : Answer} → Decides kinds p a q
    → is_run_gone (now_of q).words (now_of q).seats.holding.freed ≡ true → ((j : ℕ) → j < p.table.config.callers
    → is_held (now_of q).words j ≡ false) → TalliesAreExact q.table.config q.seen → DecidesFree kinds a p q
decides_free d gone gates exact = grind (arith, reached_world, all_below_from)

-- Where the turn had done nothing, and the call only came to be decided
module _ {kinds : Step → Bool} {p q : PassState} {f : Flight} (a : Answer)
    (at : ComesTo kinds p (CallIsAt p.seat f (world_of p)) (entry_for p a) q) (give : f.stage ≡ Stage.Give)
    (same : f.op ≡ (call_of p).op) (nothing : (now_of p).seats.holding ≡ nothing_done) (gates : none_is_held
    p.table.config.callers (now_of p).words ≡ true) (exact : TalliesAreExact p.table.config p.seen) where
  here : CallIsAt p.seat f (world_of p) (world_of q)
  here = reached_world at

  pub leaves_all : DecidesFree kinds a p q
  leaves_all = grind (arith, decides_free, reaches_so, here, none_held, exact_still, reached_table)

  pub same_allocations : (world_of q).allocations ≡ (world_of p).allocations
  same_allocations = ap (λ (x : Steady). x.allocations) here.steady

-- The register was null.
pub retires_null : {p q : PassState} {r u : ℕ} → IsUnloaded p r → HasLoaded p r u q → (u == 0) ≡ true → value_of p r
    ≡ Null → (now_of p).seats.holding ≡ nothing_done → none_is_held p.table.config.callers (now_of p).words ≡ true
    → TalliesAreExact p.table.config p.seen → IsTurn p → IsTurn q → Retires p r false q
retires_null {p} {q} {r} {u} unloaded loaded none null nothing gates exact turn behind =
    let f : Flight = loaded_free r u in
    let named : ComesTo is_freeing p (CallIsAt p.seat f (world_of p)) (entry_for p Answer.Done) q = reaches_wider
    (λ x h. grind arith) (reaches_named (ap (λ (b : Bool). if b then entry_for p Answer.Done else []) none) loaded) in
    let give : f.stage ≡ Stage.Give = ap (λ (b : Bool). if b then Stage.Give else Stage.Turn) none in
    let same : f.op ≡ (call_of p).op = sym (ap (λ (x : Flight). x.op) unloaded.call) in
    record {
      decides = leaves_all Answer.Done named give same nothing gates exact;
      steps = subst (λ (v : Value). Does (freeing_kinds p.table.config (world_of p).allocations v) p q) (sym null)
          loaded.does;
      unfreed = λ freed. subst (λ (v : Value). IsFreed (never_behind p.table.config p.seen) v) null freed;
      allocations = cc (same_allocations Answer.Done named give same nothing gates exact, null);
      is_due = λ yes_due. absurd (true≢false (sym yes_due));
      not_due = λ is due. none_due (λ x h. grind arith) loaded.does turn behind due;
    }

-- The freed bit of the word that was found is that of the cell.
pub freed_by_word : {p : PassState} (cell : Cell) {quar : ℕ} → IsTurn p → quar
    ≡ quarantine_word (slice_index (now_of p).words.freed cell.page) (slice_index (now_of p).words.snapshot cell.page)
    → has_bit (quar % 2 ^ 32) cell.index ≡ is_freed (now_of p).words cell
freed_by_word {p} cell turn is =
    let small = (histories_keep_the_invariant p.table.config p.seen turn.history).order.quarantined.small cell.page in
    ap (λ n. has_bit (n % 2 ^ 32) cell.index) is ∙ ap (λ n. has_bit n cell.index)
    (low_half (slice_index (now_of p).words.freed cell.page) (slice_index (now_of p).words.snapshot cell.page) small.0)

-- The object is freed in the heap that never reuses storage exactly where its bit is set.
module _ {p q : PassState} {r : ℕ} {f : Flight} {cell : Cell} (come : Comes p f q) (turn : IsTurn p) (behind : IsTurn q)
    (x : IsObjectAt q r cell) (keeps : value_of q r ≡ value_of p r) (low : IsOutOfStop (now_of p)) where
  same_list : (world_of q).allocations ≡ (world_of p).allocations
  same_list = ap (λ (y : Steady). y.allocations) (come_now come).steady

  low_there : IsOutOfStop (now_of q)
  low_there = out_of_stop (now_of p) (now_of q) (ap (λ (y : Steady). y.phase) (come_now come).steady) low

  pointed : value_of p r ≡ Ptr x.number x.ty x.offset
  pointed = sym keeps ∙ x.value

  within : x.number < length (world_of p).allocations
  within = subst (λ (xs : List PlacedAllocation). x.number < length xs) same_list (granted behind x)

  pub never_freed : is_freed (now_of q).words cell ≡ (allocation_at (never_behind p.table.config p.seen) x.number).freed
  never_freed = its_freed behind x low_there ∙
      (cc (same_list, (histories_keep_the_invariant _ _ turn.history).mirrors.twins.freed x.number within))

  pub is_never_freed : is_freed (now_of q).words cell ≡ true
      → IsFreed (never_behind p.table.config p.seen) (value_of p r)
  is_never_freed freed =
      subst (λ (v : Value). IsFreed (never_behind p.table.config p.seen) v) (sym pointed) (sym never_freed ∙ freed)

  pub not_never_freed : is_freed (now_of q).words cell ≡ false
      → IsFreed (never_behind p.table.config p.seen) (value_of p r) → ⊥
  not_never_freed live freed =
      true≢false (sym (subst (λ (v : Value). IsFreed (never_behind p.table.config p.seen) v) pointed freed)
      ∙ sym never_freed ∙ live)

  pub with_it_freed : map (freed_where_it_stands (now_of q).words (Some cell)) (world_of q).allocations
      ≡ with_freed_object (value_of p r) (world_of p).allocations
  with_it_freed = cc (it_is_freed behind x, same_list, pointed)

-- It was freed already.
pub finds_freed : {p q s : PassState} {r : ℕ} (u : ℕ) (cell : Cell) → IsUnloaded p r → Comes p (loaded_free r u) q
    → HasSeen q cell s → is_freed (now_of q).words cell ≡ true → (now_of p).seats.holding ≡ nothing_done
    → none_is_held p.table.config.callers (now_of p).words ≡ true → TalliesAreExact p.table.config p.seen
    → IsFreed (never_behind p.table.config p.seen) (value_of p r) → FindsFreed p r s
finds_freed {p} {s} {r} u cell unloaded come seen set nothing gates exact freed =
    let f : Flight = record (loaded_free r u) { stage = Stage.Give } in
    let same : (loaded_free r u).op ≡ (call_of p).op = sym (ap (λ (g : Flight). g.op) unloaded.call) in
    let joined : ComesTo is_loading p (CallIsAt p.seat f (world_of p)) (entry_for p Answer.Double) s =
    reaches_answered (λ x h. h) (λ x h. h) (λ x. CallIsAt x.seat f (world_of x)) Answer.Double come
    (ap (λ (g : Flight). g.op) come.world.call ∙ same) (seen_at cell come seen set refl) (λ v a b. is_at_then a b) in
    record { decides = leaves_all Answer.Double joined refl same nothing gates exact; freed = freed }

-- The cell of its target was found.
pub record IsFound (p q : PassState) (r u : ℕ) (cell : Cell) : Type 0 where
  pub come : Comes p (loaded_free r u) q
  pub keeps : value_of q r ≡ value_of p r
  pub some : (u == 0) ≡ false
  pub at : target q.table.config.pages (now_of q).words (call_of q) ≡ Some cell
  pub within : cell.page < q.table.config.pages
  pub index : cell.index < 32

target_stays : (p q : PassState) (cell : Cell) → p.table ≡ q.table → call_of q ≡ call_of p → (now_of q).words.pages
    ≡ (now_of p).words.pages → target p.table.config.pages (now_of p).words (call_of p) ≡ Some cell
    → target q.table.config.pages (now_of q).words (call_of q) ≡ Some cell
target_stays p q cell table call pages at =
    cc (target_same p.table.config.pages (now_of p).words (now_of q).words (call_of p) pages)

pub found_so : {p l q : PassState} {r u : ℕ} (cell : Cell) → HasLoaded p r u l → (u == 0) ≡ false → value_of l r
    ≡ value_of p r → OnlyLooks l q → value_of q r ≡ value_of l r → target l.table.config.pages (now_of l).words
    (call_of l) ≡ Some cell → cell.page < l.table.config.pages → cell.index < 32 → IsFound p q r u cell
found_so {l} {q} cell loaded some keeps looks still at within index =
    let table : l.table ≡ q.table = sym (looks_table looks) in
    record {
      come = comes_looking (comes_loaded loaded some) looks;
      keeps = still ∙ keeps;
      some = some;
      at = target_stays l q cell table (looks_call looks) (ap (λ (x : Steady). x.pages) (looks_left looks).steady) at;
      within = subst (λ (t : WordsState). cell.page < t.config.pages) table within;
      index = index;
    }

ruleset come_facts = (Comes, comes_seeing, come_now, come_table, come_call)

module _ {p q : PassState} {r u : ℕ} {cell : Cell} (unloaded : IsUnloaded p r) (x : IsFound p q r u cell) where
  pub free : IsFreeAt q r (loaded_free r u)
  free = record {
    call = come_call x.come;
    small = unloaded.small;
    base = subst (λ (v : Value). IsBase v) (sym x.keeps) unloaded.base;
  }

  abbrev pub object_found : IsTurn q → IsObjectAt q r cell
  object_found turn = object_at u cell turn free x.some x.at

  -- what is asked before the `quar`
  pub may_free : {s : PassState} → HasSeen q cell s → value_of s r ≡ value_of q r → is_freed (now_of q).words cell
      ≡ false → IsOutOfStop (now_of p) → (now_of p).seats.holding ≡ nothing_done → TalliesAreExact p.table.config p.seen
      → MayFree s r u cell
  may_free {s} seen still live low nothing exact =
      grind (arith, come_facts, free, target_stays, within, freed_same, out_of_stop, exact_still)

-- The call is acting.
pub free_acting : {w : WordsState} {p : PassState} {cell : Cell} {quar : ℕ} → MayFreeOn w p cell quar
    → is_acting (call_of p).stage ≡ true
free_acting {p = p} m = free_is_acting (call_of p) (loaded_undecided m.value m.may.free m.may.some)

-- It may free it still after steps that leave its turn as it was, but for gates.
pub still_may : {kinds : Step → Bool} {w : WordsState} {p q : PassState} {cell : Cell} {quar : ℕ} → Prepares kinds p q
    → KeepsValues p q → MayFreeOn w p cell quar → MayFreeOn w q cell quar
still_may a keeps m =
    let at = reached_world a in
    let call = ap (λ (x : PassState). call_of x) a.same ∙ a.world.call in
    record {
      one_table = reached_table a ∙ m.one_table;
      register = m.register;
      value = m.value;
      may = grind (arith, at, call, keeps, prepared_table, target_stays, freed_same, out_of_stop, exact_still);
      found = grind (arith, at);
    }

-- No gate is held there where none was.
pub none_held_there : {p q : PassState} {f : Flight} → Comes p f q → none_is_held p.table.config.callers
    (now_of p).words ≡ true → none_is_held q.table.config.callers (now_of q).words ≡ true
none_held_there {p} {q} come none = still_open p q (come_table come) (come_now come).gates none

steps_by : {p t : PassState} (heads large : Bool) → heads ≡ large → Does is_freeing p t
    → (heads ≡ false → Does is_freeing_small p t) → Does (if large then is_freeing else is_freeing_small) p t
steps_by {p} {t} true large is all small = subst (λ b. Does (if b then is_freeing else is_freeing_small) p t) is all
steps_by {p} {t} false large is all small =
    subst (λ b. Does (if b then is_freeing else is_freeing_small) p t) is (small refl)

-- the steps of its Free are of the kinds for its size
freed_steps : {p q t : PassState} {r : ℕ} {f : Flight} {cell : Cell} {due : Bool} → Comes p f q
    → (x : IsObjectAt q r cell) → value_of q r ≡ value_of p r → FreesCell q cell due t → IsTurn q
    → Does is_freeing p t → Does (kinds_for p r) p t
freed_steps {p} {q} {t} come x keeps freed behind all =
    let table = come_table come in
    let same : (world_of q).allocations ≡ (world_of p).allocations =
    ap (λ (s : Steady). s.allocations) (come_now come).steady in
    let is = its_size behind x
    ∙ ap (λ (w : WordsState). is_large (kinds_of w.config.types (placed_at (world_of q).allocations x.number).ty))
    (sym table) ∙ ap (λ (xs : List PlacedAllocation). is_large (kinds_of p.table.config.types
    (placed_at xs x.number).ty)) same in
    subst (λ (v : Value). Does (freeing_kinds p.table.config (world_of p).allocations v) p t)
    (sym (sym keeps ∙ x.value)) (steps_by _ _ is all (λ no_run. does_then is_freeing_small p q t
    (reaches_wider (λ y h. grind arith) come).does (freed.small no_run)))

-- Its object was freed.
pub retires : {p q t : PassState} {r u : ℕ} {cell : Cell} {due : Bool} → IsUnloaded p r → Comes p (loaded_free r u) q
    → MayFree q r u cell → value_of q r ≡ value_of p r → IsOutOfStop (now_of p) → FreesCell q cell due t
    → IsTurn p → IsTurn q → Retires p r due t
retires {p} {q} {t} {r} {u} {cell} {due} unloaded come may keeps low f turn behind =
    let g : Flight = loaded_free r u in
    let object : IsObjectAt q r cell = object_at u cell behind may.free may.some may.target in
    let same : g.op ≡ (call_of p).op = sym (ap (λ (x : Flight). x.op) unloaded.call) in
    let table = come_table come in
    let d : Decides is_freeing p Answer.Done t = reaches_answered (λ x h. grind arith) (λ x h. h) (λ x. IsDecidedAt
    x.seat (world_of x)) Answer.Done come (ap (λ (x : Flight). x.op) come.world.call ∙ same) f.reaches (λ v a
    b. decided_behind (world_of p) (ap (λ (x : Flight). x.op) a.call ∙ same) a.holding (ap counted a.steady) b) in
    let once = once_behind (λ x h. grind arith) come.does turn behind f.once in
    let exactly = rw (← table) at f.exactly in
    record {
      decides = decides_free d f.gone (rw (← table) at f.gates) f.exact;
      steps = freed_steps come object keeps f behind d.does;
      unfreed = not_never_freed come turn behind object keeps low may.live;
      allocations = f.allocations ∙ with_it_freed come turn behind object keeps low;
      is_due = λ is. due_since once (exactly.0 is);
      not_due = λ is since. true≢false (sym (exactly.1 (due_then once since)) ∙ is);
    }
