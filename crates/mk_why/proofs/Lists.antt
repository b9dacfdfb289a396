-- The kept allocations are those of the cells that are in the snapshot and marked.
use Rattle.mk_why.proofs.Vocabulary.{AreOfKept, Cell, Config, IsHistory, IsListed, IsStill, ListsOn, PassState}
use Rattle.mk_why.proofs.Vocabulary.{PlacedAllocation, Storage, Tables, TurnState, View, WordsState, base_at}
use Rattle.mk_why.proofs.Vocabulary.{cell_of_allocation, entry_at, first_word, has_bit, header_at, header_in, header_of}
use Rattle.mk_why.proofs.Vocabulary.{is_kept, never_behind, now_of, placed_at, storage_words, view_by, words_under}
use Rattle.mk_why.{proofs.Vocabulary.{world_in, world_of}, specs.Searching.{IsKeptAt}}
use Rattle.mk_sweep.proofs.Below.Laws.Vocabulary.{Bool, Invariant, List, None, Option, Some, ℕ, and_from, and_parts, ap}
use Rattle.mk_sweep.proofs.Below.Laws.Vocabulary.{arith, cases_eq, cases_lt, cell_words, cells_begin, cells_under}
use Rattle.mk_sweep.proofs.Below.Laws.Vocabulary.{false, get_or-set_other, get_or-set_same, inl, inr, is_cycling}
use Rattle.mk_sweep.proofs.Below.Laws.Vocabulary.{is_marked, length, length-set, not, not-true, refl, slice_index}
use Rattle.mk_sweep.proofs.Below.Laws.Vocabulary.{slice_set, subst, sym, true, typed_size, words_within, ◌&&◌, ◌*◌, ◌+◌}
use Rattle.mk_sweep.proofs.Below.Laws.Vocabulary.{◌/◌, ◌<◌, ◌^◌, ◌∙◌, ◌≡◌, ◌≢◌}
use Rattle.mk_sweep.proofs.Below.Laws.InvariantHistories.{allocations_stand, histories_keep_the_invariant}
use Rattle.mk_sweep.proofs.Below.Laws.{KnownWorlds.known_world, ReadingsStands.freed_cell}
use Rattle.mk_sweep.specs.Below.{Laws.Theorems.StandsUsed, Cycles.FinishCycle.is_in_snapshot_of_cycle}
use Rattle.mk_core.proofs.{PointedAllocations.marked_where_its_cell_is, StandingAllocations.cell_is_known}
use Rattle.mk_core.specs.Cycles.{is_marked_allocation}

-- The cell, of this many words, is that of a kept allocation.
pub record IsKeptCell (c : Config) (v : View) (cell : Cell) (size : ℕ) : Type 0 where
  pub number : ℕ
  pub kept : is_kept c (world_in v) number ≡ true
  pub is : base_at v number ≡ 64 * cell.page + cell.index * size
  pub words : size ≡ storage_words c (placed_at v.allocations number)
  pub within : 64 * cell.page + cell.index * size < 64 * c.pages

-- The kept allocation has this cell, of this many words, whose bits are set.
pub record HasKeptCell (c : Config) (v : View) (b page size count snapshot marks : ℕ) : Type 0 where
  pub known : (cell_of_allocation c (placed_at v.allocations b)).index < count
  pub in_snapshot : has_bit snapshot (cell_of_allocation c (placed_at v.allocations b)).index ≡ true
  pub marked : has_bit marks (cell_of_allocation c (placed_at v.allocations b)).index ≡ true
  pub is : base_at v b ≡ 64 * page + (cell_of_allocation c (placed_at v.allocations b)).index * size

module _ (t : TurnState) (still : IsStill t.pass) where
  abbrev p : PassState
  p = t.pass

  abbrev history : IsHistory t.pass.table.config t.pass.seen
  history = t.in_order.history

  abbrev c : Config
  c = p.table.config

  abbrev a : ℕ → PlacedAllocation
  a b = placed_at (world_of p).allocations b

  all : Invariant c (world_of p) (never_behind c p.seen)
  all = histories_keep_the_invariant c p.seen history

  stands : (b : ℕ) → (a b).released ≡ false → StandsUsed c (world_of p) (a b)
  stands b u = allocations_stand c p.seen history b u

  -- an unreleased allocation's cell is in the snapshot where it is of the cycle's
  snapshot_of : (b : ℕ) → (a b).released ≡ false → has_bit (slice_index (now_of p).words.snapshot
      (cell_of_allocation c (a b)).page) (cell_of_allocation c (a b)).index ≡ ((a b).freed && not (a b).fresh)
  snapshot_of b u = all.order.snapshot.quarantined (ap is_cycling still.wanted) b u

  marked_of : (b : ℕ) → (a b).released ≡ false
      → is_marked_allocation c (now_of p).words (a b) ≡ is_marked (now_of p).words (cell_of_allocation c (a b))
  marked_of b u = grind (arith, stands, marked_where_its_cell_is)

  pub kept_cell : (cell : Cell) → has_bit (slice_index (now_of p).words.snapshot cell.page) cell.index ≡ true
      → has_bit (slice_index (now_of p).words.marks cell.page) cell.index ≡ true
      → IsKeptCell c (view_by p) cell (words_under (header_in (now_of p).words cell.page))
  kept_cell cell in_snapshot marked =
      let f = freed_cell c (world_of p) (never_behind c p.seen)
      (known_world c p.seen history.within_limits history.enabled) all (λ e. let two = still.wanted in absurd
      (omega arith)) cell (all.order.quarantined.within cell.page cell.index in_snapshot) in
      let b = f.number in
      let x : PlacedAllocation = a b in
      let st = stands b f.unreleased in
      let begins = cells_begin c (now_of p).words x history.within_limits st.stands st.headers in
      let bit : (x.freed && not x.fresh) ≡ true = grind (arith, snapshot_of) in
      let parts = and_parts x.freed (not x.fresh) bit in
      let of_cycle : is_in_snapshot_of_cycle x ≡ true = grind (arith, and_from) in
      let has_mark : is_marked_allocation c (now_of p).words x ≡ true = grind (arith, marked_of) in
      let is : x.base ≡ first_word (now_of p).words cell = sym begins.0 ∙ ap (first_word (now_of p).words) f.cell in
      let words : cell_words (now_of p).words cell ≡ storage_words c x = grind arith in
      record {
        number = b;
        kept = and_from (is_in_snapshot_of_cycle x) (is_marked_allocation c (now_of p).words x) of_cycle has_mark;
        is = is;
        words = words;
        within = subst (λ n. n < 64 * c.pages) is (grind (arith, stands, words_within, typed_size));
      }

  pub has_kept_cell : (b : ℕ) → is_kept c (world_in (view_by p)) b ≡ true → HasKeptCell c (view_by p) b
      (cell_of_allocation c (a b)).page (words_under (header_in (now_of p).words (cell_of_allocation c (a b)).page))
      (cells_under (header_in (now_of p).words (cell_of_allocation c (a b)).page))
      (slice_index (now_of p).words.snapshot (cell_of_allocation c (a b)).page)
      (slice_index (now_of p).words.marks (cell_of_allocation c (a b)).page)
  has_kept_cell b kept =
      let x : PlacedAllocation = a b in
      let parts = and_parts (is_in_snapshot_of_cycle x) (is_marked_allocation c (now_of p).words x) kept in
      let cycle = and_parts (x.freed && not x.released) (not x.fresh) parts.0 in
      let freed = and_parts x.freed (not x.released) cycle.0 in
      let u : x.released ≡ false = not-true x.released freed.1 in
      let st = stands b u in
      record {
        known = cell_is_known c (now_of p).words x (typed_size c x history.within_limits st.stands.typed)
            st.stands.begins st.headers;
        in_snapshot = snapshot_of b u ∙ and_from x.freed (not x.fresh) freed.0 cycle.1;
        marked = sym (marked_of b u) ∙ parts.1;
        is = sym (cells_begin c (now_of p).words x history.within_limits st.stands st.headers).0;
      }

-- By the configuration of the words, and what looks found of the view.
module _ (t : TurnState) (still : IsStill t.pass) {k : WordsState} (same : t.pass.table ≡ k) (page : ℕ)
    {header snapshot marks size : ℕ} (shown : header ≡ header_at (view_by t.pass).words page)
    (snapshots : snapshot ≡ slice_index (view_by t.pass).words.snapshot page)
    (bits : marks ≡ slice_index (view_by t.pass).words.marks page) (under : size ≡ words_under (header_of header)) where
  size_is : size ≡ words_under (header_in (now_of t.pass).words page)
  size_is = under ∙ ap (λ h. words_under (header_of h)) shown

  pub kept_at : (index : ℕ) → has_bit snapshot index ≡ true → has_bit marks index ≡ true
      → IsKeptCell k.config (view_by t.pass) (record { page = page; index = index }) size
  kept_at index in_snapshot marked =
      let cell : Cell = record { page = page; index = index } in
      subst (λ (x : WordsState). IsKeptCell x.config (view_by t.pass) cell size) same
      (subst (λ n. IsKeptCell t.pass.table.config (view_by t.pass) cell n) (sym size_is) (kept_cell t still cell
      (ap (λ n. has_bit n index) (sym snapshots) ∙ in_snapshot) (ap (λ n. has_bit n index) (sym bits) ∙ marked)))

  pub has_kept_at : (b : ℕ) → is_kept k.config (world_in (view_by t.pass)) b ≡ true
      → (cell_of_allocation k.config (placed_at (view_by t.pass).allocations b)).page ≡ page
      → HasKeptCell k.config (view_by t.pass) b page size (cells_under (header_of header)) snapshot marks
  has_kept_at b = grind (arith, has_kept_cell, size_is)

-- One cell more.

pub lists_nothing : (c : Config) (v : View) (r : Tables) → AreOfKept c v r.kept.items → ListsOn c v r r
lists_nothing c v r of_kept = record { size = refl; of_kept = of_kept; stays = λ base x. x; found = refl }

pub lists_then : {c : Config} {v : View} {r s x : Tables} → ListsOn c v r s → ListsOn c v s x → ListsOn c v r x
lists_then one two = grind arith

-- what is listed of a cell after it
pub record ListsCell (c : Config) (v : View) (r s : Tables) (base : ℕ) (in_snapshot marked : Bool) : Type 0 where
  pub on : ListsOn c v r s
  pub listed : in_snapshot ≡ true → marked ≡ true → IsListed s.kept.items base

module _ (c : Config) (v : View) (r s : Tables) (cell : Cell) (size : ℕ) (of_kept : AreOfKept c v r.kept.items)
    (within : 64 * cell.page + cell.index * size < length r.kept.items) (kept : IsKeptCell c v cell size)
    (found : s.found ≡ r.found) (set : s.kept.items ≡ slice_set r.kept.items (64 * cell.page + cell.index * size)
    (Some (record { address = 65536 + 8 * (64 * cell.page + cell.index * size); words = size }))) where
  abbrev base : ℕ
  base = 64 * cell.page + cell.index * size

  abbrev storage : Storage
  storage = record { address = 65536 + 8 * base; words = size }

  there : entry_at s.kept.items base ≡ Some storage
  there = ap (λ (xs : List (Option Storage)). entry_at xs base) set
      ∙ get_or-set_same r.kept.items base (Some storage) None within

  elsewhere : (k : ℕ) → k ≢ base → entry_at s.kept.items k ≡ entry_at r.kept.items k
  elsewhere k ne = ap (λ (xs : List _). entry_at xs k) set ∙ get_or-set_other r.kept.items base k (Some storage) None ne

  sets_cell : ListsCell c v r s base true true
  sets_cell = record {
    on = record {
      size = ap length set ∙ length-set r.kept.items base (Some storage);
      of_kept = λ k x is. elim (cases_eq k base) [
        | inl e ↦
            let both : Some x ≡ Some storage = sym is ∙ ap (λ n. entry_at s.kept.items n) e ∙ there in
            subst (IsKeptAt c v k) (sym cc) (record {
              number = kept.number;
              is = kept.is ∙ sym e;
              kept = kept.kept;
              address = ap (λ n. 65536 + 8 * n) (sym kept.is);
              words = kept.words;
            })
        | inr ne ↦ of_kept k x (sym (elsewhere k ne) ∙ is)
      ];
      stays = stays;
      found = found;
    };
    listed = λ one two. record { storage = storage; there = there };
  }
    where
      stays : (k : ℕ) → IsListed r.kept.items k → IsListed s.kept.items k
      stays k x = elim (cases_eq k base) [
        | inl e ↦ record { storage = storage; there = ap (λ n. entry_at s.kept.items n) e ∙ there }
        | inr ne ↦ record { storage = x.storage; there = elsewhere k ne ∙ x.there }
      ]

pub lists_cell : (c : Config) (v : View) (r s : Tables) (cell : Cell) (size : ℕ) (in_snapshot marked : Bool)
    → AreOfKept c v r.kept.items → length r.kept.items ≡ 64 * c.pages
    → (in_snapshot ≡ true → marked ≡ true → IsKeptCell c v cell size) → s.found ≡ r.found
    → (in_snapshot ≡ true → marked ≡ true → s.kept.items ≡ slice_set r.kept.items (64 * cell.page + cell.index * size)
    (Some (record { address = 65536 + 8 * (64 * cell.page + cell.index * size); words = size }))) → (in_snapshot ≡ false
    → s ≡ r) → (marked ≡ false → s ≡ r) → ListsCell c v r s (64 * cell.page + cell.index * size) in_snapshot marked
lists_cell c v r s cell size true true of_kept all kept found set outside unmarked =
    let x = kept refl refl in
    sets_cell c v r s cell size of_kept (let low = x.within in omega arith) x found (set refl refl)
lists_cell c v r s cell size false marked of_kept all kept found set outside unmarked = grind (arith, lists_nothing)
lists_cell c v r s cell size true false of_kept all kept found set outside unmarked = grind (arith, lists_nothing)

pub cells_more : {c : Config} {v : View} {r s : Tables} (page size count snapshot marks index : ℕ)
    {in_snapshot marked : Bool} → in_snapshot ≡ has_bit snapshot index → marked ≡ has_bit marks index
    → ((b : ℕ) → is_kept c (world_in v) b ≡ true → (cell_of_allocation c (placed_at v.allocations b)).page ≡ page
    → HasKeptCell c v b page size count snapshot marks)
    → ((b : ℕ) → is_kept c (world_in v) b ≡ true → (cell_of_allocation c (placed_at v.allocations b)).page ≡ page
    → (cell_of_allocation c (placed_at v.allocations b)).index < index → IsListed r.kept.items (base_at v b))
    → ListsCell c v r s (64 * page + index * size) in_snapshot marked
    → (b : ℕ) → is_kept c (world_in v) b ≡ true → (cell_of_allocation c (placed_at v.allocations b)).page ≡ page
    → (cell_of_allocation c (placed_at v.allocations b)).index < index + 1 → IsListed s.kept.items (base_at v b)
cells_more {c} {v} {s} page size count snapshot marks index is_in is_marked has before one b kept at_page lt =
    elim (cases_lt (cell_of_allocation c (placed_at v.allocations b)).index index) [
      | inl low ↦ one.on.stays (base_at v b) (before b kept at_page low)
      | inr high ↦
          let x = has b kept at_page in
          let e : (cell_of_allocation c (placed_at v.allocations b)).index ≡ index = omega arith in
          subst (λ n. IsListed s.kept.items n) (sym (x.is ∙ ap (λ i. 64 * page + i * size) e)) (one.listed (is_in ∙ ap
          (λ i. has_bit snapshot i) (sym e) ∙ x.in_snapshot) (is_marked ∙ ap (λ i. has_bit marks i) (sym e) ∙ x.marked))
    ]

-- the snapshot's half of a quarantine word
pub snapshot_read : (t : TurnState) (page n : ℕ)
    → n ≡ slice_index (view_by t.pass).words.freed page + 2 ^ 32 * slice_index (view_by t.pass).words.snapshot page
    → n / 4294967296 ≡ slice_index (view_by t.pass).words.snapshot page
snapshot_read t page n is =
    let small = ((histories_keep_the_invariant _ _ t.in_order.history).order.quarantined.small page).0 in
    omega arith

-- A kept allocation begins on a page that there is.
pub kept_page : (t : TurnState) (k : WordsState) → t.pass.table ≡ k → (b : ℕ)
    → is_kept k.config (world_in (view_by t.pass)) b ≡ true
    → (cell_of_allocation k.config (placed_at (view_by t.pass).allocations b)).page < k.config.pages
kept_page t k same b =
    grind (arith, and_parts, not-true, allocations_stand, words_within, typed_size, t.in_order)

pub none_listed : (c : Config) (v : View) (kept : List (Option Storage)) → ((base : ℕ) → entry_at kept base ≡ None)
    → AreOfKept c v kept
none_listed c v kept none base s is = let e = none base in absurd cc

pub pages_more : {c : Config} {v : View} {r s : Tables} (page : ℕ) → ListsOn c v r s → ((b : ℕ) → is_kept c (world_in v)
    b ≡ true → (cell_of_allocation c (placed_at v.allocations b)).page < page → IsListed r.kept.items (base_at v b))
    → ((b : ℕ) → is_kept c (world_in v) b ≡ true → (cell_of_allocation c (placed_at v.allocations b)).page ≡ page
    → IsListed s.kept.items (base_at v b)) → (b : ℕ) → is_kept c (world_in v) b ≡ true
    → (cell_of_allocation c (placed_at v.allocations b)).page < page + 1 → IsListed s.kept.items (base_at v b)
pages_more {c} {v} page on before here b kept lt = grind (arith, cases_lt)
