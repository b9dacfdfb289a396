-- What stands while a cycle without a sweeping mark marks: all that is marked, and all that a hand holds, is touched.
use Rattle.mk_laws.proofs.Vocabulary.{Page, PlacedAllocation, PointsInto, Scan, Seat, SeenHeader, Some, Step, World, ℕ}
use Rattle.mk_laws.proofs.Vocabulary.{arith, bases_of, cell_of_allocation, cells_under, false, flight_of}
use Rattle.mk_laws.proofs.Vocabulary.{has_no_pointers, header_of, image_of, is_leaf_header, is_marked, is_unmarked}
use Rattle.mk_laws.proofs.Vocabulary.{marker_of, placed_at, shows_on, slice_index, slice_index_or, storage_of}
use Rattle.mk_laws.proofs.{Vocabulary.{storage_words, true, ◌/◌, ◌<◌, ◌≡◌, ◌≢◌}, Basics.{Came, Meets, WorldBehind}}
use Rattle.mk_laws.proofs.{Ground.{AreOfOne, allocation_step, came}, Worlds.Told}
use Rattle.mk_core.specs.Cycles.{sweeps, IsWordOfAllocation}
use Rattle.mk_laws.proofs.Vocabulary.{Config, Hand, IsMarking, IsWordOf, List, MarkerState as Marker, NeverState, Null}

-- The value points into no unreleased allocation but the set's.
abbrev pub PointsOnlyInto : Config → List PlacedAllocation → (ℕ → Type 0) → ℕ → Type 0
PointsOnlyInto c xs T v =
    (b : ℕ) → ((placed_at xs b).released ≡ false) × PointsInto v (storage_of c (placed_at xs b)) → T b

-- In one world the set has what roots point into, and what a word of a member does.
pub record IsClosedIn (c : Config) (w : World) (n : NeverState) (T : ℕ → Type 0) : Type 0 where
  pub registers : (i : ℕ)
      → PointsOnlyInto c w.allocations T (image_of (bases_of w.allocations) (slice_index_or n.registers i Null))
  pub globals : (g : ℕ) → PointsOnlyInto c w.allocations T (slice_index w.now.words.globals g)
  pub words : (a x : ℕ) → T a → IsWordOfAllocation c w x a
      → PointsOnlyInto c w.allocations T (slice_index w.now.words.heap x)

-- what is read of a world
pub record PrecisionScene : Type 0 where
  pub pages : List Page
  pub allocations : List PlacedAllocation

abbrev pub precision_scene_of : World → PrecisionScene
precision_scene_of w = record { pages = w.now.words.pages; allocations = w.allocations }

-- The page shows no leaf header, and no unreleased leaf begins there: an unmapped run doesn't say whether it was one.
pub record HasNoLeaf (c : Config) (s : PrecisionScene) (p : ℕ) : Type 0 where
  pub header : is_leaf_header (shows_on s.pages p) ≡ false
  pub allocations : (a : ℕ) → (placed_at s.allocations a).released ≡ false → (placed_at s.allocations a).base / 64 ≡ p
      → (storage_of c (placed_at s.allocations a)).leaf ≡ false

-- what a marker holds and has seen
pub record MarkerIsPrecise (c : Config) (s : PrecisionScene) (T : ℕ → Type 0) (x : Marker) : Type 0 where
  pub hand : (v : ℕ) → x.hand ≡ Some v → PointsOnlyInto c s.allocations T v
  pub scan : (z : Scan) → x.scan ≡ Some z → z.next < z.end → HasNoLeaf c s z.page
  pub seen : (z : SeenHeader) → x.seen ≡ Some z → cells_under (header_of z.header) ≢ 0
      → has_no_pointers (header_of z.header) ≡ false → HasNoLeaf c s z.page

pub record IsPrecise (c : Config) (w : World) (T : ℕ → Type 0) : Type 0 where
  pub marked : (b : ℕ) → (placed_at w.allocations b).released ≡ false
      → is_marked w.now.words (cell_of_allocation c (placed_at w.allocations b)) ≡ true → T b
  pub hand : (h : Hand) → w.now.seats.holding.hand ≡ Some h → is_unmarked h.source ≡ false
      → PointsOnlyInto c w.allocations T h.value
  pub markers : (j : ℕ) → MarkerIsPrecise c (precision_scene_of w) T (marker_of w.now j)

-- one step while the cycle marks, which isn't a sweeping mark, between two worlds in which the set is closed
pub record Steps (c : Config) (w : World) (n : NeverState) (seat : Seat) (x : Step) (after : NeverState)
    (T : ℕ → Type 0) : Type 0 where
  pub before : Told c w n
  pub behind : Told c (WorldBehind c w seat x) after
  pub meets : Meets c w.now seat x
  pub early : IsMarking w.now.words
  pub unswept : sweeps c w.now (flight_of w.now seat) x ≡ false
  pub here : IsClosedIn c w n T
  pub there : IsClosedIn c (WorldBehind c w seat x) after T

-- An allocation keeps its words.
pub same_words : (c : Config) {a b : PlacedAllocation} → AreOfOne a b → storage_words c b ≡ storage_words c a
same_words c e = rw e.ty

pub same_leaf : (c : Config) {a b : PlacedAllocation} → AreOfOne a b → (storage_of c b).leaf ≡ (storage_of c a).leaf
same_leaf c e = rw e.ty

pub same_word : (c : Config) {a b : PlacedAllocation} (x : ℕ) → AreOfOne a b → IsWordOf (storage_of c b) x
    → IsWordOf (storage_of c a) x
same_word c x e word = grind (arith, same_words)

pub points_before : (c : Config) {a b : PlacedAllocation} (v : ℕ) → AreOfOne a b → PointsInto v (storage_of c b)
    → PointsInto v (storage_of c a)
points_before c {a = a} {b = b} v e into = (into.0, same_word c _ e into.1)

-- An unreleased allocation after a step came with it, or was there before.
pub came_behind : (c : Config) (w : World) (seat : Seat) (x : Step) (i : ℕ)
    → (placed_at (WorldBehind c w seat x).allocations i).released ≡ false
    → Came w.allocations (WorldBehind c w seat x).allocations x i
came_behind c w seat x i u = came i (allocation_step c w.now (flight_of w.now seat) x w.allocations) u
