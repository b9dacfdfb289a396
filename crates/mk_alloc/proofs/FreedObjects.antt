-- The object of a Free: the allocation that its register points into, by what the layout and the images say of it.
use Rattle.std.proofs.Math.Nat.{div-le_of_le-mul}
use Rattle.mk_caller.proofs.Below.Laws.Vocabulary.{Caller, CarriesOwn, Cell, Config, Event, Flight, ImagePremises}
use Rattle.mk_caller.proofs.Below.Laws.Vocabulary.{IsHistory, IsSafe, IsSized, IsSound, IsWithinLimits, List, Mirrors}
use Rattle.mk_caller.proofs.Below.Laws.Vocabulary.{NeverState, Null, Num, Object, Op, Option, PlacedAllocation, Ptr}
use Rattle.mk_caller.proofs.Below.Laws.Vocabulary.{Seat, ShowsPart, Some, Stage, StandsInOrder, Value, Words, World, ℕ}
use Rattle.mk_caller.proofs.Below.Laws.Vocabulary.{address_of, and_parts, ap, arith, bases_of, caller_number}
use Rattle.mk_caller.proofs.Below.Laws.Vocabulary.{cases_Bool, cases_lt, subst, cell_at, cell_of_allocation}
use Rattle.mk_caller.proofs.Below.Laws.Vocabulary.{cells_begin, cells_made, cells_of, class_known, class_made}
use Rattle.mk_caller.proofs.Below.Laws.Vocabulary.{class_words_of, cond-false, eqb-true, false, false_from_ne_true}
use Rattle.mk_caller.proofs.Below.Laws.Vocabulary.{false≢true, first_page_shows, first_word, flight_of}
use Rattle.mk_caller.proofs.Below.Laws.Vocabulary.{freed_where_it_stands, get_or_past, header_at, header_in}
use Rattle.mk_caller.proofs.Below.Laws.Vocabulary.{header_made, header_of, heads_run, image_of, image_scene_of, inl}
use Rattle.mk_caller.proofs.Below.Laws.Vocabulary.{inr, is_freed, is_large, is_phase, is_released_in, is_small_object}
use Rattle.mk_caller.proofs.Below.Laws.Vocabulary.{is_undecided_free, kinds_of, large_cells, large_count}
use Rattle.mk_caller.proofs.Below.Laws.Vocabulary.{large_is_not_small, leb-true, left, length, ltb-true, map}
use Rattle.mk_caller.proofs.Below.Laws.Vocabulary.{never_behind, not, not-true, object_placed, p_of, page_at_address}
use Rattle.mk_caller.proofs.Below.Laws.Vocabulary.{pages_made, placed_at, pointed_cell, refl, register_at, run_begins}
use Rattle.mk_caller.proofs.Below.Laws.Vocabulary.{slice_set, small_cells, small_heads_none, stands_in}
use Rattle.mk_caller.proofs.Below.Laws.Vocabulary.{stands_in_its_cell, storage_words, sym, target, true, true≢false}
use Rattle.mk_caller.proofs.Below.Laws.Vocabulary.{typed_size, use_under, words_under, words_within, ◌*◌, ◌+◌, ◌/◌, ◌<◌}
use Rattle.mk_caller.proofs.Below.Laws.Vocabulary.{◌==◌, ◌∙◌, ◌≡◌, ◌≢◌, ◌≤◌}
use Rattle.mk_caller.proofs.Below.Laws.ImagesBefore.{Stands, ready_of, stands_of}
use Rattle.mk_caller.proofs.Below.Laws.InvariantHistories.{allocations_stand, told_to_images}
use Rattle.mk_caller.proofs.Below.Laws.{KnownWorlds.{KnownWorld, known_world}, GrantMoves.pointer_cell}
use Rattle.mk_caller.proofs.Below.Laws.{ImagesKept.base_at, Ready.Ready, RegMoves.flight}
use Rattle.mk_caller.proofs.Below.Laws.{Settled.unreleased_are_apart, ImagePremises.IsLaidOut}
use Rattle.mk_caller.specs.Below.Laws.Theorems.{StandsUsed}
use Rattle.mk_alloc.proofs.ObjectVocabulary.{IsBase, IsFreeAt, IsOutOfStop, IsTurn, PassState, call_of, freed_and_fresh}
use Rattle.mk_alloc.proofs.ObjectVocabulary.{held_by_allocations, histories_keep_the_invariant, loaded_free, now_of}
use Rattle.mk_alloc.proofs.{ObjectVocabulary.{value_of, world_of}, HeldFreed.{freed_one, held_part, held_set}}
use Rattle.mk_alloc.proofs.{HeldFreed.{large_part, live_part, small_part}, LoadedFrees.loaded_undecided}
use Rattle.mk_alloc.proofs.{Looks.acting_caller, MayAct.{free_is_acting, off_four}, RunHeaders.made_use}
use Rattle.mk_core.specs.Below.Books.KnownPages.{page_at, StandsOn}
use Rattle.mk_geom.{proofs.ClassTable.{class_words_within}, specs.PageUses.{PartOfRun}}
use Rattle.mk_core.proofs.{ObjectHeaders.part_heads_run, StandingAllocations.placed_cell}

-- What the register of an undecided Free points into: the cell of an unreleased allocation.

-- The register has a pointer to an unreleased allocation, and the value that the call has loaded points into its cell.
pub record PointsAt (c : Config) (w : World) (n : NeverState) (k : ℕ) (f : Flight) : Type 0 where
  pub number : ℕ
  pub ty : ℕ
  pub offset : ℕ
  pub value : register_at n k (p_of f.op) ≡ Ptr number ty offset
  pub unreleased : (placed_at w.allocations number).released ≡ false
  pub cell : pointed_cell c.pages w.now.words.pages f.p ≡ Some (cell_of_allocation c (placed_at w.allocations number))
  pub at : f.p ≡ address_of ((placed_at w.allocations number).base + offset)

module _ {c : Config} {w : World} {n : NeverState} (known : KnownWorld c w) (others : ImagePremises c w)
    (mirrors : Mirrors c w n) where
  st : Stands c w.now.words w.allocations
  st = stands_of c w known.limits others

  ready : Ready c.globals mirrors.safe.0 (image_scene_of w) n
  ready = ready_of c w n known mirrors st mirrors.safe.0 mirrors.safe.1

  by_value : (k : ℕ) (f : Flight) (v : Value) → register_at n k (p_of f.op) ≡ v → IsSound n v → IsSafe mirrors.safe.0 v
      → f.p ≡ image_of (bases_of w.allocations) v → f.p ≢ 0 → PointsAt c w n k f
  by_value k f Null is sound safe e ne = absurd (ne e)
  by_value k f (Num m) is sound safe e ne = absurd sound
  by_value k f (Ptr a t o) is sound safe e ne = record {
    number = a;
    ty = t;
    offset = o;
    value = is;
    unreleased = mirrors.safe.1.unreleased a safe;
    cell = pointer_cell c w n known mirrors mirrors.safe.0 ready st a t o f.p sound safe e;
    at = e ∙ ap (λ b. address_of (b + o)) (base_at w.allocations a);
  }

  points_by : {k : ℕ} (s : Stage) (o : Op) (q p r l : ℕ) → is_undecided_free (flight s o q p r l) ≡ true
      → CarriesOwn (bases_of w.allocations) n k (flight s o q p r l) → PointsAt c w n k (flight s o q p r l)
  points_by {k} Stage.Turn (Op.Free p') q p r l undecided car =
      by_value k (flight Stage.Turn (Op.Free p') q p r l) (register_at n k p') refl
      (mirrors.typed.registers (8 * k + p')) (mirrors.safe.1.registers (8 * k + p')) (car.p refl) (car.some_p refl)
  points_by _ _ q p r l undecided car = absurd (false≢true undecided)

  pub points_at : (k : ℕ) → is_undecided_free (flight_of w.now (Caller k)) ≡ true
      → PointsAt c w n k (flight_of w.now (Caller k))
  points_at k undecided =
      let f = flight_of w.now (Caller k) in
      points_by f.stage f.op f.q f.p f.r f.loaded undecided (ready.images.carried k)

pub free_points_at : {c : Config} {es : List Event} (k : ℕ) → IsHistory c es
    → is_undecided_free (flight_of (left c es).now (Caller k)) ≡ true
    → PointsAt c (left c es) (never_behind c es) k (flight_of (left c es).now (Caller k))
free_points_at {c} {es} k h undecided =
    let known = known_world c es h.within_limits h.enabled in
    let inv = histories_keep_the_invariant c es h in
    points_at known (told_to_images c (left c es) (never_behind c es) known inv) inv.mirrors k undecided

-- The cell that the register of a Free points into, by a look at its page's header.

-- what points into a cell is an address of the heap
pub record InHeap (pages u : ℕ) : Type 0 where
  pub from : 65536 ≤ u
  pub page : page_at_address u < pages

pub pointed_in_heap : (pages header u : ℕ) (cell : Cell) → cell_at pages header u ≡ Some cell → InHeap pages u
pointed_in_heap pages header u cell is = grind (arith, and_parts, leb-true, ltb-true, cond-false)

pub points_now : {p : PassState} (k : ℕ) → p.seat ≡ Caller k → IsTurn p → is_undecided_free (call_of p) ≡ true
    → PointsAt p.table.config (world_of p) (never_behind p.table.config p.seen) k (call_of p)
points_now k is turn undecided = grind (arith, free_points_at)

-- what points into a cell by the words does so by its page's header
pub pointed_by_header : (p : PassState) (u : ℕ) {x : Option Cell} → pointed_cell p.table.config.pages
    (now_of p).words.pages u ≡ x → cell_at p.table.config.pages (header_at (now_of p).words (page_at_address u)) u ≡ x
unfolding pointed_cell
pointed_by_header p u is = is

-- The value that a Free has loaded points into this cell, by its page's header.
pub record IsPointed (p : PassState) (u : ℕ) : Type 0 where
  pub cell : Cell
  pub from : 65536 ≤ u
  pub page : page_at_address u < p.table.config.pages
  pub by_header : cell_at p.table.config.pages (header_at (now_of p).words (page_at_address u)) u ≡ Some cell
  pub target : target p.table.config.pages (now_of p).words (call_of p) ≡ Some cell
  pub within : cell.page < p.table.config.pages
  pub index : cell.index < 32

pub target_of : (pages : ℕ) (w : Words) (f : Flight) (cell : Cell) → is_undecided_free f ≡ true
    → pointed_cell pages w.pages f.p ≡ Some cell → target pages w f ≡ Some cell
target_of pages w f cell free is = rw free is

cell_within : {c : Config} {w : World} {a : PlacedAllocation} → IsWithinLimits c → StandsUsed c w a
    → (cell_of_allocation c a).page < c.pages
cell_within limits s = grind (arith, words_within, typed_size)

cells_few : (o : Object) → IsSized o → cells_made o ≤ 32
cells_few o sized = elim (cases_Bool (is_small_object o)) [
  | inl small ↦
      let range = class_words_within (class_made o) (class_known o sized small).0 in
      let is = small_cells o small in
      let few : cells_of (class_made o) ≤ 32 = div-le_of_le-mul (class_words_of (class_made o)) (omega arith) in
      omega arith
  | inr large ↦ let is = large_cells o large in omega arith
]

cell_index : {c : Config} {w : World} {a : PlacedAllocation} → IsWithinLimits c → StandsUsed c w a
    → (cell_of_allocation c a).index < 32
cell_index {c} {a} limits s =
    let sized = typed_size c a limits s.stands.typed in
    let is : (cell_of_allocation c a).index ≡ s.stands.begins.index =
    ap (λ (k : Cell). k.index) (placed_cell c a sized s.stands.begins) in
    let known = s.stands.begins.known in
    let few = cells_few (object_placed c a) sized in
    omega arith

pub pointed_now : {p : PassState} {u : ℕ} → IsTurn p → is_undecided_free (call_of p) ≡ true → (call_of p).p ≡ u
    → IsPointed p u
pointed_now {p} {u} turn free is =
    let h = turn.history in
    let caller = acting_caller p (free_is_acting (call_of p) free) in
    let t = points_now caller.number caller.is turn free in
    let cell : Cell = cell_of_allocation p.table.config (placed_at (world_of p).allocations t.number) in
    let pointed : pointed_cell p.table.config.pages (now_of p).words.pages u ≡ Some cell = grind arith in
    let by_header = pointed_by_header p u pointed in
    let heap = pointed_in_heap p.table.config.pages (header_at (now_of p).words (page_at_address u)) u cell by_header in
    record {
      cell = cell;
      from = heap.from;
      page = heap.page;
      by_header = by_header;
      target = target_of p.table.config.pages (now_of p).words (call_of p) cell free t.cell;
      within = cell_within h.within_limits (allocations_stand p.table.config p.seen h t.number t.unreleased);
      index = cell_index h.within_limits (allocations_stand p.table.config p.seen h t.number t.unreleased);
    }

-- The freed bit of an unreleased allocation's cell says whether it is freed.

pub freed_told : {c : Config} {es : List Event} (i : ℕ) → IsHistory c es → is_phase (left c es).now.words 4 ≡ false
    → (placed_at (left c es).allocations i).released ≡ false → is_freed (left c es).now.words
    (cell_of_allocation c (placed_at (left c es).allocations i)) ≡ (placed_at (left c es).allocations i).freed
freed_told {c} {es} i h off u = elim (cases_Bool (placed_at (left c es).allocations i).freed) [
  | inl freed ↦ order.quarantined.shown i u freed ∙ sym freed
  | inr live ↦ false_from_ne_true (is_freed w.now.words k) (λ set. true≢false
      (sym (elim (order.quarantined.owned k.page k.index set) [
        | inl f ↦ let one = unreleased_are_apart c es order.laid f.number i f.unreleased u f.cell in
            ap (λ j. (placed_at (left c es).allocations j).freed) (sym one) ∙ f.freed
        | inr gone ↦ let none : false ≡ true =
            sym (ap (λ b. is_released_in b (left c es).now.words.snapshot (left c es).now.words.marks
            (cell_of_allocation c (placed_at (left c es).allocations i)).page
            (cell_of_allocation c (placed_at (left c es).allocations i)).index) off) ∙ gone in cc
      ]) ∙ live)) ∙ sym live
]
  where
    w : World
    w = left c es

    k : Cell
    k = cell_of_allocation c (placed_at (left c es).allocations i)

    order : StandsInOrder c (left c es)
    order = (histories_keep_the_invariant c es h).order

-- The register of the Free has a pointer to this unreleased allocation, whose cell it is.
pub record IsObjectAt (p : PassState) (r : ℕ) (cell : Cell) : Type 0 where
  pub number : ℕ
  pub ty : ℕ
  pub offset : ℕ
  pub value : value_of p r ≡ Ptr number ty offset
  pub unreleased : (placed_at (world_of p).allocations number).released ≡ false
  pub is : cell_of_allocation p.table.config (placed_at (world_of p).allocations number) ≡ cell

pub object_at : {p : PassState} {r : ℕ} (u : ℕ) (cell : Cell) → IsTurn p → IsFreeAt p r (loaded_free r u)
    → (u == 0) ≡ false → target p.table.config.pages (now_of p).words (call_of p) ≡ Some cell → IsObjectAt p r cell
object_at {p} {r} u cell turn at some is =
    let free = loaded_undecided u at some in
    let caller = acting_caller p (free_is_acting (call_of p) free) in
    let t = points_now caller.number caller.is turn free in
    let own : Cell = cell_of_allocation p.table.config (placed_at (world_of p).allocations t.number) in
    let there : Some own ≡ Some cell = grind (arith, target_of) in
    record {
      number = t.number;
      ty = t.ty;
      offset = t.offset;
      value = ap (λ (s : Seat). register_at (never_behind p.table.config p.seen) (caller_number s) r) caller.is
          ∙ ap (λ (f : Flight). register_at (never_behind p.table.config p.seen) caller.number (p_of f.op))
          (sym at.call) ∙ t.value;
      unreleased = t.unreleased;
      is = cc there;
    }

-- The register points to the first word of its allocation, so the page that the value points into is the cell's.
page_of_first : (base offset u : ℕ) → offset ≡ 0 → u ≡ address_of (base + offset) → page_at_address u ≡ base / 64
page_of_first base offset u none is = omega arith

pub page_pointed : {p : PassState} {r : ℕ} (u : ℕ) {cell : Cell} → IsTurn p → IsFreeAt p r (loaded_free r u)
    → (u == 0) ≡ false → target p.table.config.pages (now_of p).words (call_of p) ≡ Some cell
    → page_at_address u ≡ cell.page
page_pointed {p} {r} u {cell} turn at some is =
    let free = loaded_undecided u at some in
    let caller = acting_caller p (free_is_acting (call_of p) free) in
    let t = points_now caller.number caller.is turn free in
    let own : PlacedAllocation = placed_at (world_of p).allocations t.number in
    let there : Some (cell_of_allocation p.table.config own) ≡ Some cell = grind (arith, target_of) in
    let value : value_of p r ≡ Ptr t.number t.ty t.offset =
    ap (λ (s : Seat). register_at (never_behind p.table.config p.seen) (caller_number s) r) caller.is
    ∙ ap (λ (f : Flight). register_at (never_behind p.table.config p.seen) caller.number (p_of f.op)) (sym at.call)
    ∙ t.value in
    let first : t.offset ≡ 0 = subst (λ (v : Value). IsBase v) value at.base in
    let here : u ≡ address_of (own.base + t.offset) = sym (ap (λ (f : Flight). f.p) at.call) ∙ t.at in
    let same : cell_of_allocation p.table.config own ≡ cell = cc there in
    page_of_first own.base t.offset u first here ∙ ap (λ (k : Cell). k.page) same

module _ {p : PassState} {r : ℕ} {cell : Cell} (turn : IsTurn p) (x : IsObjectAt p r cell) where
  abbrev pub own : PlacedAllocation
  own = placed_at (world_of p).allocations x.number

  abbrev pub object : Object
  object = object_placed p.table.config own

  others : ImagePremises p.table.config (world_of p)
  others = told_to_images _ _ _ (known_world _ _ turn.history.within_limits turn.history.enabled)
      (histories_keep_the_invariant _ _ turn.history)

  laid : IsLaidOut p.table.config (now_of p).words (now_of p).seats.holding.freed own
  laid = others.laid_out x.number x.unreleased

  sized : IsSized object
  sized = typed_size p.table.config own turn.history.within_limits laid.stands.typed

  pub its_freed : IsOutOfStop (now_of p) → is_freed (now_of p).words cell ≡ own.freed
  its_freed low = grind (arith, freed_told, off_four)

  pub its_words : words_under (header_in (now_of p).words cell.page) ≡ storage_words p.table.config own
  its_words =
      cc (x.is, (cells_begin p.table.config (now_of p).words own turn.history.within_limits laid.stands laid.headers).1)

  part : ShowsPart object 0 (header_in (now_of p).words cell.page)
  part = grind (arith, object, first_page_shows, own, sized, laid)

  pub its_size : heads_run (header_in (now_of p).words cell.page) ≡ is_large (kinds_of p.table.config.types own.ty)
  its_size = grind (arith, object, small_heads_none, part, large_is_not_small, own, part_heads_run)

  stands : stands_in (now_of p).words cell own ≡ true
  stands = grind (arith, own, stands_in_its_cell, laid)

  pub granted : x.number < length (world_of p).allocations
  granted = grind (arith, cases_lt, get_or_past)

  pub it_is_freed : map (freed_where_it_stands (now_of p).words (Some cell)) (world_of p).allocations
      ≡ slice_set (world_of p).allocations x.number (freed_and_fresh own)
  it_is_freed = freed_one (now_of p).words cell (world_of p).allocations x.number granted stands (λ i ne.
      false_from_ne_true _ (λ there.
      let a : PlacedAllocation = placed_at (world_of p).allocations i in
      let one = and_parts (not a.released) (a.base == first_word (now_of p).words cell) there in
      let two = and_parts (not own.released) (own.base == first_word (now_of p).words cell) stands in
      others.apart i x.number (not-true a.released one.0) x.unreleased ne (eqb-true a.base
      (first_word (now_of p).words cell) one.1 ∙ sym (eqb-true own.base (first_word (now_of p).words cell) two.1))))

  -- what is held after it

  held_behind : held_by_allocations p.table.config (map (freed_where_it_stands (now_of p).words (Some cell))
      (world_of p).allocations) + held_part p.table.config own
      ≡ held_by_allocations p.table.config (world_of p).allocations + held_part p.table.config (freed_and_fresh own)
  held_behind = grind (arith, held_part, own, it_is_freed, held_set, granted)

  pub small_held : heads_run (header_in (now_of p).words cell.page) ≡ false
      → held_by_allocations p.table.config (map (freed_where_it_stands (now_of p).words (Some cell))
      (world_of p).allocations) ≡ held_by_allocations p.table.config (world_of p).allocations
  small_held small = grind (arith, small_part, own, its_size, held_behind)

  pub large_held : heads_run (header_in (now_of p).words cell.page) ≡ true → own.freed ≡ false → held_by_allocations
      p.table.config (map (freed_where_it_stands (now_of p).words (Some cell)) (world_of p).allocations) + words_under
      (header_in (now_of p).words cell.page) ≡ held_by_allocations p.table.config (world_of p).allocations
  large_held large live = grind (arith, large_part, own, its_size, live_part, its_words, held_behind)

  -- the pages of a large one

  not_small : heads_run (header_in (now_of p).words cell.page) ≡ true → is_small_object object ≡ false
  not_small large = grind (arith, false_from_ne_true, object, small_heads_none, part)

  pub record HasRun (count : ℕ) : Type 0 where
    pub some : 1 ≤ count
    pub few : count ≤ 64
    pub within : cell.page + count ≤ p.table.config.pages
    pub mapped : StandsOn (PartOfRun true) (now_of p).words.pages cell.page count

  pub its_run : (count : ℕ) → heads_run (header_in (now_of p).words cell.page) ≡ true → own.freed ≡ false
      → 64 * count ≡ words_under (header_in (now_of p).words cell.page) → HasRun count
  its_run count large live words =
      let small = not_small large in
      let size : storage_words p.table.config own ≡ 64 * pages_made object = grind (arith, cond-false, object) in
      let all : count ≡ pages_made object = omega (arith, words, its_words, size) in
      let range = large_count object sized small in
      let begins = run_begins object own.base small laid.stands.begins in
      let first = begins.1 in
      let ends = laid.stands.within in
      let page : own.base / 64 ≡ cell.page = ap (λ (y : Cell). y.page) x.is in
      let low = range.0 in
      let high = range.1 in
      record {
        some = omega arith;
        few = omega arith;
        within = omega arith;
        mapped = λ d lt.
            let near : d < pages_made object = omega arith in
            let made : header_at (now_of p).words (cell.page + d) ≡ header_made object d = grind (arith, laid, own) in
            let used = (page_at (now_of p).words.pages (cell.page + d)).used in
            ap (λ (n : ℕ). use_under (header_of n) used) made ∙ made_use object d used sized small near;
      }
