-- What is promised of every history of a heap, in whatever order callers, markers and the turn's holder step. Each
-- field is one promise.
use Rattle.std.specs.Prelude.{◌≡◌, List, ◌++◌}
use Rattle.mk_core.specs.declared.{config.Config.Config, events.Event.Event}
use Rattle.mk_core.specs.HistoryLaws.{ExchangesCompareValues}
use Rattle.mk_core.specs.{History.RefinesNever, Placement.{FullsFitNowhere, GrantsStandAtTheirPlaces}}
use Rattle.mk_core.specs.Readings.{SnapshotsTell}
use Rattle.mk_laws.specs.Theorems.{AllocationsAreDisjoint, AllocationsStand, ClosesFindMarksClosed, FewPagesAreResident}
use Rattle.mk_laws.specs.Theorems.{FirstFitFindsThePlace, GuardsBlackCells, KeepsTheReach, PagesShowTheStorage}
use Rattle.mk_laws.specs.{WordLaws.TalliesAreExactAtGives, Releases.{FreesTheUntouched, ReleasesTheUntouched}}
use Rattle.mk_laws.specs.WordLaws.{DirtyPagesHaveAllocations, FreePagesHaveNothing}
use Rattle.mk_laws.specs.WordLaws.{FreeCellsAreZero, Leaves, WordsBehindCellsAreZero}
use Rattle.mk_laws.specs.{WordLaws.HeadersAndQuarantineTell, Releases.{NoOthersRelease, ReleasesAreExact}}
use Rattle.mk_laws.specs.{Releases.{ReleasesAreOfCycles, ReleasesNoneReached}, WordLaws.UnmappedRunsTakeNoMemory}
use Rattle.mk_laws.specs.{WordLaws.{RegistersOfNoCallerAreZero, UnsetGlobalsAreZero}, Waiting.NobodyEverWaitsInARing}

-- It holds after each front of the list.
abbrev pub AtEachMoment : (Config → List Event → Type 0) → Config → List Event → Type 0
AtEachMoment claim c es = (front more : List Event) → es ≡ front ++ more → claim c front

-- All that is promised of each history.
pub record KeepsAllPromises (c : Config) (es : List Event) : Type 0 where
  -- Refined: the answers are those of the heap that never reuses storage.
  pub refined : RefinesNever c es
  -- Reach is kept: what pointers lead to from registers and globals isn't released.
  pub reach : AtEachMoment KeepsTheReach c es
  -- Disjoint and zero: unreleased allocations stand on the heap, no two have a word in common, and while the phase
  -- isn't releasing the words of cells without an allocation, and those after a page's cells, are 0.
  pub stand : AtEachMoment AllocationsStand c es
  pub disjoint : AtEachMoment AllocationsAreDisjoint c es
  pub zero_cells : AtEachMoment (Leaves FreeCellsAreZero) c es
  pub zero_tails : AtEachMoment (Leaves WordsBehindCellsAreZero) c es
  -- Free pages: the used, quarantine and dirty word of a page without a header are 0, since on each dirty page an
  -- unreleased allocation stands.
  pub free_pages : AtEachMoment (Leaves FreePagesHaveNothing) c es
  pub dirty_pages : AtEachMoment (Leaves DirtyPagesHaveAllocations) c es
  -- Nobody's words: registers of callers that the configuration doesn't have hold 0, and globals that no `setg` stored
  -- to.
  pub spare_registers : AtEachMoment (Leaves RegistersOfNoCallerAreZero) c es
  pub unset_globals : AtEachMoment UnsetGlobalsAreZero c es
  -- Headers stand: while nothing is on its way they are those of the unreleased storage, and first fit over them finds
  -- the place; each page has a header word, and no more pages are resident than may be.
  pub headers : AtEachMoment PagesShowTheStorage c es
  pub first_fit : AtEachMoment FirstFitFindsThePlace c es
  pub told : AtEachMoment HeadersAndQuarantineTell c es
  pub resident : AtEachMoment FewPagesAreResident c es
  -- Reserved only: the pages of a freed large allocation aren't resident from its last `head` on, until they are made a
  -- block or a run again.
  pub reserved : AtEachMoment UnmappedRunsTakeNoMemory c es
  -- Exact placement: each object is granted at its place, and a Full comes only if nothing fits, after a cycle that was
  -- begun and ended in its call.
  pub placed : GrantsStandAtTheirPlaces c es
  pub full : FullsFitNowhere c es
  -- Exact tallies: before each `give` the tallies of held and fresh words are those of the allocations.
  pub tallies : TalliesAreExactAtGives c es
  -- Closed marks: each `close` finds them closed. A `release` releases the allocations of its cycle's snapshot whose
  -- cells have no mark, and none that a program can get to; each is that of a cycle, and no other event releases any.
  pub closed : ClosesFindMarksClosed c es
  pub snapshots : AtEachMoment SnapshotsTell c es
  pub released : ReleasesAreExact c es
  pub none_reached : ReleasesNoneReached c es
  pub of_cycles : ReleasesAreOfCycles c es
  pub no_others : NoOthersRelease c es
  -- Guarded: while a cycle marks, each word of a black cell points into nothing or into a marked cell, or its page is
  -- dirty, or its dirty mark is owed.
  pub guarded : AtEachMoment GuardsBlackCells c es
  -- Precision: a cycle without a sweeping mark releases what it doesn't touch, and after its `end` that storage counts
  -- as free.
  pub precise : ReleasesTheUntouched c es
  pub freed : FreesTheUntouched c es
  -- No deadlock: nobody waits in a ring, if the calls that are in flight at the end are admitted.
  pub waits : NobodyEverWaitsInARing c es
  -- No ABA: a compare and exchange compares values, though storage is used again.
  pub compared : ExchangesCompareValues c es
