-- The allocations of a history, in the order of their grants (an allocation's number is its place), and what the
-- headers of their pages show.
use Rattle.std.specs.Prelude.{◌≡◌, ℕ, ◌+◌, ◌*◌, ◌<◌, ◌≤◌, Bool, true, false, ◌&&◌, ◌||◌, Option, Some, ◌⊎◌}
use Rattle.std.specs.Prelude.{if◌then◌else◌, not, ◌==◌, List, [], ◌∷◌, ◌++◌, map, filter, sum_by, slice_index_or, ◌↔◌}
use Rattle.std.specs.Prelude.{◌/◌, ◌%◌, length, Contains}
use Rattle.mk_never.specs.{declared.operations.Op.Op, Types.{kinds_of, is_large}}
use Rattle.mk_geom.specs.declared.headers.Header.{Header, TheVariants.{Block, Run, Later}}
use Rattle.mk_geom.specs.declared.headers.Header.TheVariants.{LeafBlock, LeafRun}
use Rattle.mk_geom.specs.Addresses.{class_words_of, cells_of, header_of, head_page_under, address_of}
use Rattle.mk_geom.specs.declared.{addresses.Cell.Cell, pages.{Place.Place, Census.Census}}
use Rattle.mk_geom.specs.Storages.{held_by_storages, cell_of_storage, Storage, place_among_storages, census_of, Fits}
use Rattle.mk_geom.specs.Storages.{stands_on, IsStorage, PointsInto, ShowsStorage}
use Rattle.mk_core.specs.{declared.seats.Object.Object, Moments.{IsBetween, Moment, flight_of, IsWithinLimits}}
use Rattle.mk_core.specs.Cells.{cells_under, words_under, is_unmapped_header, has_no_pointers, pointed_cell, first_word}
use Rattle.mk_core.specs.{Cells.{is_left_unmarked, cell_words}, NewPlaces.{is_small_object, class_made, pages_made}}
use Rattle.mk_core.specs.{NewPlaces.{header_made, unmapped_header, object_of}, declared.config.Config.Config}
use Rattle.mk_core.specs.declared.{events.{Step.Step, Event.Event}, seats.Flight.Flight}
use Rattle.mk_core.specs.{Words.{Words, is_some_and, header_at}, TurnConditions.cell_freed, Accesses.granted_base}

-- The object has as many words as a type may have.
abbrev pub IsSized : Object → Type 0
IsSized o = IsBetween 1 4096 o.words

-- the cells of the page that an object begins on; a run is one
abbrev pub cells_made : Object → ℕ
cells_made o = if is_small_object o then cells_of (class_made o) else 1

-- the words of its cell, or of its run
abbrev pub words_made : Object → ℕ
words_made o = if is_small_object o then class_words_of (class_made o) else 64 * pages_made o

-- The header is one that the page so far after an object's first may show: the kind of a block or of a run's head at
-- the first page, and how far it is at a later one. An unmapped run doesn't say whether it is leaf.
pub data ShowsPart (o : Object) (distance : ℕ) : Option Header → Type 0 where
  OfBlock : distance ≡ 0 → is_small_object o ≡ true → o.leaf ≡ false
      → ShowsPart o distance (Some (Block (class_made o)))
  OfLeafBlock : distance ≡ 0 → is_small_object o ≡ true → o.leaf ≡ true
      → ShowsPart o distance (Some (LeafBlock (class_made o)))
  OfRun : (mapped : Bool) → distance ≡ 0 → is_small_object o ≡ false → (mapped && o.leaf) ≡ false
      → ShowsPart o distance (Some (Run (pages_made o) mapped))
  OfLeafRun : distance ≡ 0 → is_small_object o ≡ false → o.leaf ≡ true
      → ShowsPart o distance (Some (LeafRun (pages_made o)))
  OfLater : (mapped : Bool) → 1 ≤ distance → is_small_object o ≡ false
      → ShowsPart o distance (Some (Later distance mapped))

-- The header word is the one that this page gets with the object, or, if the object has a run, the one that it gets as
-- the run is unmapped.
abbrev pub IsHeaderOf : Object → ℕ → ℕ → Type 0
IsHeaderOf o distance header =
    (header ≡ header_made o distance)
    ⊎ ((is_small_object o ≡ false) × (header ≡ unmapped_header (pages_made o) distance))

-- Such a word shows the page.
abbrev pub HeadersShowParts : Type 0
HeadersShowParts =
    (o : Object) (distance header : ℕ) → IsSized o → distance < pages_made o → IsHeaderOf o distance header
    → ShowsPart o distance (header_of header)

-- What shows a page of an object names its first page,
abbrev pub PartsNameTheirHeads : Type 0
PartsNameTheirHeads = (o : Object) (distance page : ℕ) (x : Option Header) → ShowsPart o distance x
    → head_page_under x (page + distance) ≡ page

-- where the object has its cells, their words, and whether they are scanned;
abbrev pub FirstPartsHaveCells : Type 0
FirstPartsHaveCells =
    (o : Object) (x : Option Header) → ShowsPart o 0 x
    → (cells_under x ≡ cells_made o) × (words_under x ≡ words_made o)
    × (has_no_pointers x ≡ (o.leaf || is_unmapped_header x))

-- a later page has none.
abbrev pub LaterPartsHaveNone : Type 0
LaterPartsHaveNone = (o : Object) (distance : ℕ) (x : Option Header) → ShowsPart o distance x → 1 ≤ distance
    → cells_under x ≡ 0

-- The heap word whose address its grant stored, its type, whether it was freed, whether that was after the last
-- `begin`, and whether a `release` released it.
pub record PlacedAllocation : Type 0 where
  pub base : ℕ
  pub ty : ℕ
  pub freed : Bool
  pub fresh : Bool
  pub released : Bool

-- no allocation: it counts as a released one
abbrev pub never_granted : PlacedAllocation
never_granted = record { base = 0; ty = 0; freed = false; fresh = false; released = true }

-- allocation number i
abbrev pub placed_at : List PlacedAllocation → ℕ → PlacedAllocation
placed_at xs i = slice_index_or xs i never_granted

-- the type of the object that a New makes
abbrev pub type_made : Op → ℕ
type_made (Op.New d ty full) = ty
type_made _ = 0

-- the allocation that a grant adds
abbrev pub granted : Config → Moment → Flight → PlacedAllocation
granted c m f =
    record {
      base = granted_base c f m.seats.holding.placing;
      ty = type_made f.op;
      freed = false;
      fresh = false;
      released = false;
    }

-- the unreleased allocation of a cell
abbrev pub stands_in : Words → Cell → PlacedAllocation → Bool
stands_in w cell a = not a.released && (a.base == first_word w cell)

-- the allocation, freed and fresh if it is in this cell
abbrev pub freed_where_it_stands : Words → Option Cell → PlacedAllocation → PlacedAllocation
freed_where_it_stands w cell a =
    if is_some_and (λ (x : Cell). stands_in w x a) cell then record a { freed = true; fresh = true } else a

-- A `release` releases the allocations whose cells are left unmarked.
abbrev pub with_released : Config → Words → PlacedAllocation → PlacedAllocation
with_released c w a =
    record a {
      released = a.released
          || is_some_and (is_left_unmarked w) (pointed_cell c.pages w.pages (address_of a.base));
    }

-- the allocation after a `begin`
abbrev pub no_longer_fresh : PlacedAllocation → PlacedAllocation
no_longer_fresh a = record a { fresh = false }

-- the allocations after a step of a seat whose call is f
abbrev pub allocations_by : Config → Moment → Flight → Step → List PlacedAllocation → List PlacedAllocation
allocations_by c m f Step.Grant xs = xs ++ granted c m f ∷ []
allocations_by c m f (Step.Quar p v) xs = map (freed_where_it_stands m.words (cell_freed c.pages m.words f p v)) xs
allocations_by c m f Step.Begin xs = map no_longer_fresh xs
allocations_by c m f Step.Release xs = map (with_released c m.words) xs
allocations_by c m f _ xs = xs

-- the allocations after an event
abbrev pub allocations_behind : Config → Moment → Event → List PlacedAllocation → List PlacedAllocation
allocations_behind c m e xs = allocations_by c m (flight_of m e.seat) e.step xs

-- A freed large allocation isn't mapped.
abbrev pub is_mapped : Config → PlacedAllocation → Bool
is_mapped c a = not a.released && not (a.freed && is_large (kinds_of c.types a.ty))

-- its cell, or all its pages
abbrev pub storage_words : Config → PlacedAllocation → ℕ
storage_words c a = words_made (object_of (kinds_of c.types a.ty))

-- the storage of an allocation
abbrev pub storage_of : Config → PlacedAllocation → Storage
storage_of c a =
    record {
      first = a.base;
      words = storage_words c a;
      mapped = is_mapped c a;
      leaf = (object_of (kinds_of c.types a.ty)).leaf;
    }

-- the cell at its first word; a large one's is cell 0 of its head page
abbrev pub cell_of_allocation : Config → PlacedAllocation → Cell
cell_of_allocation c a = cell_of_storage (storage_of c a)

-- the storage of those that aren't released, in their order
unfoldable pub unreleased_storage : Config → List PlacedAllocation → List Storage
unreleased_storage c [] = []
unreleased_storage c (a ∷ xs) =
    if a.released then unreleased_storage c xs else storage_of c a ∷ unreleased_storage c xs

-- The counts: the storage words of the mapped allocations, and of those among them that are fresh.
abbrev pub held_by_allocations : Config → List PlacedAllocation → ℕ
held_by_allocations c xs = held_by_storages (unreleased_storage c xs)

-- the words of mapped storage that was freed since the last `begin`
abbrev pub fresh_words_of : Config → List PlacedAllocation → ℕ
fresh_words_of c xs = sum_by (storage_words c) (filter (λ a. is_mapped c a && a.fresh) xs)

-- Place, fits and census over the unreleased storage
abbrev pub place_among_allocations : Config → ℕ → Bool → List PlacedAllocation → Option Place
place_among_allocations c words leaf xs = place_among_storages c.pages c.resident words leaf (unreleased_storage c xs)

-- An object of so many words, leaf or not, has a place beside these allocations.
abbrev pub FitsAmongAllocations : Config → ℕ → Bool → List PlacedAllocation → Type 0
FitsAmongAllocations c words leaf xs = Fits c.pages c.resident words leaf (unreleased_storage c xs)

-- the counts of pages by what is allocated on them
abbrev pub census_of_allocations : Config → List PlacedAllocation → Census
census_of_allocations c xs = census_of c.pages (unreleased_storage c xs)

-- the object of an allocation
abbrev pub object_placed : Config → PlacedAllocation → Object
object_placed c a = object_of (kinds_of c.types a.ty)

-- An object begins at a cell of its page; a run is cell 0 there.
pub record BeginsAtCell (o : Object) (base : ℕ) : Type 0 where
  pub index : ℕ
  pub known : index < cells_made o
  pub first : base % 64 ≡ index * words_made o

-- An unreleased allocation of a type that there is begins at a cell, and ends within the heap.
pub record StandsOnHeap (c : Config) (a : PlacedAllocation) : Type 0 where
  pub typed : a.ty < length c.types
  pub unreleased : a.released ≡ false
  pub begins : BeginsAtCell (object_placed c a) a.base
  pub within : a.base + storage_words c a ≤ 64 * c.pages

-- Each page of an allocation has a header of its object, mapped or not.
abbrev pub HasItsHeaders : Config → Words → PlacedAllocation → Type 0
HasItsHeaders c w a =
    (distance : ℕ) → distance < pages_made (object_placed c a)
    → IsHeaderOf (object_placed c a) distance (header_at w (a.base / 64 + distance))

-- An allocation's storage holds its object, and has 1 to 4,096 words.
abbrev pub StorageHoldsObjects : Type 0
StorageHoldsObjects =
    (c : Config) (a : PlacedAllocation) → IsWithinLimits c → a.ty < length c.types
    → (length (kinds_of c.types a.ty) ≤ storage_words c a) × IsBetween 1 4096 (storage_words c a)

-- What stands on the heap has a storage there,
abbrev pub StandingHasStorage : Type 0
StandingHasStorage = (c : Config) (a : PlacedAllocation) → IsWithinLimits c → StandsOnHeap c a
    → IsStorage c.pages (storage_of c a)

-- which the headers of its pages show.
abbrev pub HeadersShowStorage : Type 0
HeadersShowStorage =
    (c : Config) (w : Words) (a : PlacedAllocation)
    → IsWithinLimits c → StandsOnHeap c a → HasItsHeaders c w a
    → (page : ℕ) → stands_on page (storage_of c a) ≡ true → ShowsStorage (storage_of c a) page (header_at w page)

-- An address in its storage points into its cell, by lookup,
abbrev pub PointersHitAllocations : Type 0
PointersHitAllocations =
    (c : Config) (w : Words) (a : PlacedAllocation)
    → IsWithinLimits c → StandsOnHeap c a → HasItsHeaders c w a
    → (u : ℕ) → PointsInto u (storage_of c a)
    → pointed_cell c.pages w.pages u ≡ Some (cell_of_storage (storage_of c a))

-- which has its words, from its base on.
abbrev pub CellsBeginAtBases : Type 0
CellsBeginAtBases =
    (c : Config) (w : Words) (a : PlacedAllocation)
    → IsWithinLimits c → StandsOnHeap c a → HasItsHeaders c w a
    → (first_word w (cell_of_storage (storage_of c a)) ≡ a.base)
    × (cell_words w (cell_of_storage (storage_of c a)) ≡ storage_words c a)

-- the number of an unreleased allocation that has this storage
pub record HasStorage (c : Config) (xs : List PlacedAllocation) (s : Storage) : Type 0 where
  pub number : ℕ
  pub unreleased : (placed_at xs number).released ≡ false
  pub storage : s ≡ storage_of c (placed_at xs number)

-- The unreleased storage is that of the unreleased allocations, each in its place.
abbrev pub UnreleasedStorageIsOfAllocations : Type 0
UnreleasedStorageIsOfAllocations =
    (c : Config) (xs : List PlacedAllocation) (s : Storage) → Contains (unreleased_storage c xs) s ↔ HasStorage c xs s

-- The unreleased storage of two lists is that of the one and then that of the other.
abbrev pub UnreleasedStorageInParts : Type 0
UnreleasedStorageInParts =
    (c : Config) (xs ys : List PlacedAllocation)
    → unreleased_storage c (xs ++ ys) ≡ unreleased_storage c xs ++ unreleased_storage c ys
