-- The search for chains, breadth first, and the entries that are made of them. `Why` cites `IsTold`, and what its state
-- says; only private functions cite the other words.
use Rattle.std.specs.Prelude.{ℕ, ◌-◌, List, ◌++◌, length, ◌≡◌, ◌+◌, ◌*◌, ◌/◌, ◌%◌, ◌<◌, ◌≤◌, nat_lt, if◌then◌else◌}
use Rattle.std.specs.Prelude.{true, false, slice_index, slice_index_or, Option, Some, None, [], ◌∷◌, map, ⊤}
use Rattle.std.specs.{List.Contains, List.Sorted.IsStrictlyIncreasing}
use Rattle.mk_geom.specs.{Storages.IsWordOf, Addresses.address_of}
use Rattle.mk_core.specs.{declared.{config.Config.Config, events.Word.Word}, Allocations.{placed_at, storage_of}}
use Rattle.mk_core.specs.{Allocations.storage_words, Cycles.{is_scanned_allocation, PointsIntoAllocation}}
use Rattle.mk_sweep.specs.Below.Words.States.{TurnState}
use Rattle.mk_why.specs.{declared.found.{Found.Found, Way.Way}, Stops.{world_in, LooksWhileStill, View}}
use Rattle.mk_why.specs.{Stops.{base_at, view_by}, declared.found.Way.TheVariants.{Start, Link}}
use Rattle.mk_why.specs.declared.kept.Root.{Root, TheVariants.{Global, Register}}
use Rattle.mk_why.specs.{declared.tables.Tables.Tables, Chains.{IsChain, IsLink, IsRoot, word_of_root, IsEntryOf}}
use Rattle.mk_why.specs.{Chains.is_kept, declared.{found.Storage.Storage, kept.Kept.Kept}}

-- what a table has for a heap word
abbrev pub entry_at : {A : Type 0} → List (Option A) → ℕ → Option A
entry_at table base = slice_index_or table base None

-- how many words the chain to it has
abbrev pub links_in : Option Found → ℕ
links_in (Some found) = found.links
links_in None = 0

-- the name of a root's word
abbrev pub root_word : Root → Word
root_word (Register caller register) = Word.Reg caller register
root_word (Global global) = Word.Global global

-- the roots, by the numbers in whose order they are looked at: the registers, caller by caller, and then the globals
abbrev pub root_numbered : ℕ → ℕ → Root
root_numbered callers number =
    if nat_lt number (8 * callers) then Register (number / 8) (number % 8) else Global (number - 8 * callers)

-- An unreleased allocation begins at the heap word.
pub record IsFirstWord (v : View) (base : ℕ) : Type 0 where
  pub number : ℕ
  pub unreleased : (placed_at v.allocations number).released ≡ false
  pub is : base_at v number ≡ base

-- The value points into the one allocation that begins there.
pub record PointsAtBase (c : Config) (v : View) (value base : ℕ) : Type 0 where
  pub number : ℕ
  pub points : PointsIntoAllocation c (world_in v) value number
  pub is : base_at v number ≡ base
  pub only : (b : ℕ) → PointsIntoAllocation c (world_in v) value b → b ≡ number

-- It is the first word of the object that the value points into.
abbrev pub IsBasePointed : Config → View → ℕ → Option ℕ → Type 0
IsBasePointed c v value (Some base) = PointsAtBase c v value base
IsBasePointed c v value None = (b : ℕ) → PointsIntoAllocation c (world_in v) value b → ⊥

-- Each of this many words from the first one on is one of a scanned allocation that begins there.
abbrev pub AreScannedFrom : Config → View → ℕ → ℕ → Type 0
AreScannedFrom c v base size =
    (i : ℕ) → i < size
    → (a : ℕ) × (base_at v a ≡ base) × (is_scanned_allocation c (placed_at v.allocations a) ≡ true)
    × IsWordOf (storage_of c (placed_at v.allocations a)) (base + i)

-- The allocation was found through a link in another that was found through one link less.
pub record IsOnward (c : Config) (v : View) (found : List (Option Found)) (link from links b : ℕ) : Type 0 where
  pub number : ℕ
  pub begins : base_at v number ≡ from
  pub onward : IsLink c (world_in v) number link b
  pub before : Found
  pub there : entry_at found from ≡ Some before
  pub one_more : links ≡ before.links + 1

-- A way from a root, or from a word of an allocation that was found.
abbrev pub IsWay : Config → View → List (Option Found) → Way → ℕ → ℕ → Type 0
IsWay c v found (Start root) links b =
    (links ≡ 0) × IsRoot c root × PointsIntoAllocation c (world_in v) (word_of_root v.words root) b
IsWay c v found (Link link from) links b = IsOnward c v found link from links b

-- What was found at the heap word is an allocation that begins there, by its way.
pub record IsFoundAt (c : Config) (v : View) (found : List (Option Found)) (base : ℕ) (f : Found) : Type 0 where
  pub number : ℕ
  pub unreleased : (placed_at v.allocations number).released ≡ false
  pub is : base_at v number ≡ base
  pub way : IsWay c v found f.way f.links number

-- Whatever was found was found by such a way.
abbrev pub AreWays : Config → View → List (Option Found) → Type 0
AreWays c v found = (base : ℕ) (f : Found) → entry_at found base ≡ Some f → IsFoundAt c v found base f

-- It was found.
pub record IsFound (found : List (Option Found)) (base : ℕ) : Type 0 where
  pub entry : Found
  pub there : entry_at found base ≡ Some entry

-- It was found through exactly this many links.
pub record IsFoundThrough (found : List (Option Found)) (base links : ℕ) : Type 0 where
  pub entry : Found
  pub there : entry_at found base ≡ Some entry
  pub through : entry.links ≡ links

-- The allocation is one from which the search goes on.
pub record IsQueued (r : Tables) (base : ℕ) : Type 0 where
  pub place : ℕ
  pub known : place < r.count
  pub is : slice_index r.queue.items place ≡ base

-- the links of the allocation that is in this place of the queue
abbrev pub links_of : Tables → ℕ → ℕ
links_of r i = links_in (entry_at r.found.items (slice_index r.queue.items i))

-- The queue has what was found, in the order of links. None has more than this many, or more than its place.
pub record IsSearch (c : Config) (v : View) (r : Tables) (limit : ℕ) : Type 0 where
  pub size : length r.found.items ≡ 64 * c.pages
  pub ways : AreWays c v r.found.items
  pub entries : (i : ℕ) → i < r.count → IsFound r.found.items (slice_index r.queue.items i)
  pub queued : (base : ℕ) → IsFound r.found.items base → IsQueued r base
  pub rising : (i j : ℕ) → i ≤ j → j < r.count → links_of r i ≤ links_of r j
  pub below : (i : ℕ) → i < r.count → links_of r i ≤ limit
  pub shallow : (i : ℕ) → i < r.count → links_of r i ≤ i

-- It was found through this many links, or fewer.
pub record IsFoundWithin (found : List (Option Found)) (base limit : ℕ) : Type 0 where
  pub entry : Found
  pub there : entry_at found base ≡ Some entry
  pub near : entry.links ≤ limit

-- So was whatever the value points into.
abbrev pub IsNoted : Config → View → List (Option Found) → ℕ → ℕ → Type 0
IsNoted c v found value limit =
    (b : ℕ) → PointsIntoAllocation c (world_in v) value b → IsFoundWithin found (base_at v b) limit

-- So was whatever the words of an allocation point into that begins there and is scanned, through one link more.
abbrev pub IsSearched : Config → View → List (Option Found) → ℕ → Type 0
IsSearched c v found base =
    (a n : ℕ) → base_at v a ≡ base → is_scanned_allocation c (placed_at v.allocations a) ≡ true
    → IsWordOf (storage_of c (placed_at v.allocations a)) n
    → IsNoted c v found (slice_index v.words.heap n) (links_in (entry_at found base) + 1)

-- More was found, and what was found before stays.
pub record FindsMore (r s : Tables) : Type 0 where
  pub stays : (base : ℕ) (f : Found) → entry_at r.found.items base ≡ Some f → entry_at s.found.items base ≡ Some f
  pub same : (i : ℕ) → i < r.count → slice_index s.queue.items i ≡ slice_index r.queue.items i
  pub further : r.count ≤ s.count

-- Looks went on with the search, from one set of tables to another.
pub record SearchesOn (c : Config) (t u : TurnState) (r s : Tables) (limit : ℕ) : Type 0 where
  pub on : LooksWhileStill t u
  pub search : IsSearch c (view_by t.pass) s limit
  pub grows : FindsMore r s

-- No two unreleased allocations begin at one heap word.
abbrev pub BeginApart : View → Type 0
BeginApart v =
    (a b : ℕ) → (placed_at v.allocations a).released ≡ false → (placed_at v.allocations b).released ≡ false
    → base_at v a ≡ base_at v b → a ≡ b

-- All that chains lead to was found, through no more links than theirs.
pub record IsExplored (c : Config) (v : View) (found : List (Option Found)) : Type 0 where
  pub ways : AreWays c v found
  pub near : (root : Root) (links : List ℕ) (b : ℕ) → IsChain c (world_in v) root links b
      → IsFoundWithin found (base_at v b) (length links)

-- The engine inside, and by heap words how allocations were found, and the storage of those that are kept.
pub record WhyState (E : Type 0) : Type 0 where
  pub inner : E
  pub found : List (Option Found)
  pub kept : List (Option Storage)

-- No allocation is in the table of those that are kept.
abbrev pub HasKeptNothing : {E : Type 0} → WhyState E → Type 0
HasKeptNothing why = (base : ℕ) → entry_at why.kept base ≡ None

-- one link back, and how the allocation was found that has it
abbrev pub back_to : ℕ → ℕ → Option Found → Option (ℕ × Found)
back_to link links None = None
back_to link links (Some before) = if nat_lt before.links links then Some (link, before) else None

-- the same, by the way that it was found
abbrev pub back_by : List (Option Found) → Way → ℕ → Option (ℕ × Found)
back_by found (Start root) links = None
back_by found (Link link from) links = back_to link links (entry_at found from)

-- the same, with the allocation from which it was found
abbrev pub step_back : List (Option Found) → Found → Option (ℕ × Found)
step_back found f = back_by found f.way f.links

-- the root, if it was found from one
abbrev pub root_of : Way → Option Root
root_of (Start root) = Some root
root_of (Link link from) = None

-- a chain of this many links
pub record IsLed (c : Config) (v : View) (b count : ℕ) (root : Option Root) (links : List ℕ) : Type 0 where
  pub start : Root
  pub is : root ≡ Some start
  pub chain : IsChain c (world_in v) start links b
  pub as_many : length links ≡ count

-- It was found this way, if it was found.
abbrev pub IsWayOf : Config → View → List (Option Found) → ℕ → Option Found → Type 0
IsWayOf c v found b None = ⊤
IsWayOf c v found b (Some f) = IsWay c v found f.way f.links b

-- The root and the words are a shortest chain to it, or there is none.
abbrev pub IsToldWhy : Config → View → ℕ → Option Found → Option Root → List ℕ → Type 0
IsToldWhy c v b None root links = (root ≡ None) × (links ≡ [])
IsToldWhy c v b (Some f) root links = IsLed c v b f.links root links

-- The entry is made of the storage, and of how it was found.
pub record IsMadeOf (found : List (Option Found)) (s : Storage) (f : Option Found) (entry : Kept) : Type 0 where
  pub address : entry.address ≡ s.address
  pub words : entry.words ≡ s.words
  pub why : (c : Config) (v : View) (b : ℕ) → AreWays c v found → BeginApart v → IsWayOf c v found b f
      → IsToldWhy c v b f entry.root entry.links.items

-- one entry more
pub record IsOneMore (found : List (Option Found)) (s : Storage) (f : Option Found) (before behind : List Kept)
    : Type 0 where
  pub entry : Kept
  pub is : behind ≡ before ++ entry ∷ []
  pub made : IsMadeOf found s f entry

-- The entries of the kept allocations that begin below this heap word.
pub record AreEntriesBelow (c : Config) (v : View) (base : ℕ) (entries : List Kept) : Type 0 where
  pub ascending : IsStrictlyIncreasing (map (λ (entry : Kept). entry.address) entries)
  pub below : (i : ℕ) → i < length entries
      → slice_index (map (λ (entry : Kept). entry.address) entries) i < 65536 + 8 * base
  pub of_one : (entry : Kept) → Contains entries entry → (b : ℕ) × IsEntryOf c (world_in v) entry b
  pub each : (b : ℕ) → is_kept c (world_in v) b ≡ true → base_at v b < base
      → (entry : Kept) × Contains entries entry × IsEntryOf c (world_in v) entry b

-- The object with this first word is kept, and has this storage.
pub record IsKeptAt (c : Config) (v : View) (base : ℕ) (s : Storage) : Type 0 where
  pub number : ℕ
  pub is : base_at v number ≡ base
  pub kept : is_kept c (world_in v) number ≡ true
  pub address : s.address ≡ address_of (base_at v number)
  pub words : s.words ≡ storage_words c (placed_at v.allocations number)

-- The table has nothing but kept allocations.
abbrev pub AreOfKept : Config → View → List (Option Storage) → Type 0
AreOfKept c v kept = (base : ℕ) (s : Storage) → entry_at kept base ≡ Some s → IsKeptAt c v base s

-- It has this one.
pub record IsListed (kept : List (Option Storage)) (base : ℕ) : Type 0 where
  pub storage : Storage
  pub there : entry_at kept base ≡ Some storage

-- More was listed, and only kept allocations.
pub record ListsOn (c : Config) (v : View) (r s : Tables) : Type 0 where
  pub size : length s.kept.items ≡ length r.kept.items
  pub of_kept : AreOfKept c v s.kept.items
  pub stays : (base : ℕ) → IsListed r.kept.items base → IsListed s.kept.items base
  pub found : s.found ≡ r.found

-- What the two tables say of a view: each chain's end was found, and each kept allocation is listed.
pub record IsTold (c : Config) (found : List (Option Found)) (kept : List (Option Storage)) (v : View) : Type 0 where
  pub explored : IsExplored c v found
  pub apart : BeginApart v
  pub of_kept : AreOfKept c v kept
  pub each : (b : ℕ) → is_kept c (world_in v) b ≡ true → IsListed kept (base_at v b)
