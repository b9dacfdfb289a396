-- What stands on the pages, at every moment: the claims of the allocations and of a New's place, and what is left over.
use Rattle.std.specs.Prelude.{◌≡◌, ◌≢◌, ◌⊎◌, ℕ, ◌+◌, ◌-◌, ◌<◌, ◌≤◌, Bool, true, false, ◌&&◌, not, List, [], ◌∷◌}
use Rattle.std.specs.Prelude.{length, slice_index, slice_index_or, Option, Some}
use Rattle.mk_geom.specs.declared.{pages.Page.Page, headers.Header.{Header, TheVariants.Later}}
use Rattle.mk_geom.specs.{Addresses.{head_page_under, header_of}, Storages.free_page}
use Rattle.mk_core.specs.{declared.seats.Object.Object, Words.has_bit, Cells.cells_under, NewPlaces.is_small_object}
use Rattle.mk_core.specs.{NewPlaces.{pages_made, header_made, unmapped_header}, Allocations.{IsSized, cells_made}}
use Rattle.mk_core.specs.Allocations.{IsHeaderOf}
use Rattle.mk_laws.specs.Theorems.{run_count}

-- how far a large object's pages are unmapped
pub data Mode : Type 0 where
  Mapped Unmapping Unmapped : Mode

-- an object's cell, or its run, which is cell 0 of its head page
pub record Claim : Type 0 where
  pub page : ℕ
  pub index : ℕ
  pub object : Object
  pub mode : Mode

-- the header word of an unmapped run's page, so far after the first
abbrev pub IsUnmappedHeaderOf : Object → ℕ → ℕ → Type 0
IsUnmappedHeaderOf o distance header = (is_small_object o ≡ false) × (header ≡ unmapped_header (pages_made o) distance)

-- the header word of the page so far after the claim's first. While a run is unmapped, each page may have either.
abbrev pub HasHeader : Mode → Object → ℕ → ℕ → Type 0
HasHeader Mapped o distance header = header ≡ header_made o distance
HasHeader Unmapping o distance header = IsHeaderOf o distance header
HasHeader Unmapped o distance header = IsUnmappedHeaderOf o distance header

-- The claim is one of these.
abbrev pub Among : Claim → List Claim → Type 0
Among x [] = ⊥
Among x (y ∷ ys) = (x ≡ y) ⊎ Among x ys

-- Two claims are of one cell.
abbrev pub IsOfOneCell : Claim → Claim → Type 0
IsOfOneCell x y = (x.page ≡ y.page) × (x.index ≡ y.index)

-- no two are of one cell
abbrev pub AreApart : List Claim → Type 0
AreApart [] = Unit {0}
AreApart (x ∷ xs) = ((y : Claim) → Among y xs → IsOfOneCell x y → ⊥) × AreApart xs

-- the pages that a New has chosen, before its used bit is set
pub data Plot : Type 0 where
  NoPlot : Plot
  Plotted : (first : ℕ) (object : Object) → Plot

-- The page is one of those that a New makes a block or a run of.
abbrev pub InPlot : Plot → ℕ → Type 0
InPlot NoPlot p = ⊥
InPlot (Plotted first o) p = (first ≤ p) × (p < first + pages_made o)

-- The pages, what claims them, whether the phase is releasing, and what then tells the released cells.
pub record LayoutScene : Type 0 where
  pub pages : List Page
  pub claims : List Claim
  pub plot : Plot
  pub releasing : Bool
  pub snapshot : List ℕ
  pub marks : List ℕ

-- the header word of page p
abbrev pub header_on : List Page → ℕ → ℕ
header_on pages p = (slice_index_or pages p free_page).header

-- its used bits
abbrev pub used_on : List Page → ℕ → ℕ
used_on pages p = (slice_index_or pages p free_page).used

-- what its header word says
abbrev pub shows_on : List Page → ℕ → Option Header
shows_on pages p = header_of (header_on pages p)

-- the head page of a page's run; another page is its own
abbrev pub head_on : List Page → ℕ → ℕ
head_on pages p = head_page_under (shows_on pages p) p

-- the cell is in the snapshot and has no mark, while the phase is releasing
abbrev pub is_released_in : Bool → List ℕ → List ℕ → ℕ → ℕ → Bool
is_released_in releasing snapshot marks p k =
    releasing && has_bit (slice_index snapshot p) k && not (has_bit (slice_index marks p) k)

-- the cell is released
abbrev pub is_released_on : LayoutScene → ℕ → ℕ → Bool
is_released_on s p k = is_released_in s.releasing s.snapshot s.marks p k

-- The claim's pages have its headers, and its cell has its used bit.
pub record IsShown (pages : List Page) (x : Claim) : Type 0 where
  pub sized : IsSized x.object
  pub known : x.index < cells_made x.object
  pub within : x.page + pages_made x.object ≤ length pages
  pub headers : (distance : ℕ) → distance < pages_made x.object
      → HasHeader x.mode x.object distance (header_on pages (x.page + distance))
  pub used : has_bit (used_on pages x.page) x.index ≡ true

-- The cell is a claim's.
pub record IsClaimed (claims : List Claim) (p k : ℕ) : Type 0 where
  pub claim : Claim
  pub among : Among claim claims
  pub page : claim.page ≡ p
  pub index : claim.index ≡ k

-- The pages of a plot are free or have their headers, and no cell there is used.
pub record IsPlotShown (pages : List Page) (first : ℕ) (o : Object) : Type 0 where
  pub sized : IsSized o
  pub within : first + pages_made o ≤ length pages
  pub headers : (distance : ℕ) → distance < pages_made o
      → (header_on pages (first + distance) ≡ 0) ⊎ (header_on pages (first + distance) ≡ header_made o distance)
  pub used : (distance : ℕ) → distance < pages_made o → used_on pages (first + distance) ≡ 0

-- The plot's pages are free, or headers that the New stored already.
abbrev pub PlotStands : List Page → Plot → Type 0
PlotStands pages NoPlot = Unit {0}
PlotStands pages (Plotted first o) = IsPlotShown pages first o

-- one of the page's cells, and that of a claim or a released one
abbrev pub IsTakenCell : LayoutScene → ℕ → ℕ → Type 0
IsTakenCell s p k = (k < cells_under (shows_on s.pages p)) × (IsClaimed s.claims p k ⊎ (is_released_on s p k ≡ true))

-- The page lies after the head of its run, which may go before it while the phase is releasing.
abbrev pub HasItsHead : List Page → Bool → ℕ → ℕ → Type 0
HasItsHead pages releasing p distance =
    (distance ≤ p)
    × ((distance < run_count (shows_on pages (p - distance)))
    ⊎ ((releasing ≡ true) × (header_on pages (p - distance) ≡ 0)))

-- What stands on the pages: each claim is shown, all apart, each used bit is a claim's.
pub record IsLaidOn (s : LayoutScene) : Type 0 where
  -- Each claim is shown, and no two are of one cell.
  pub shown : (x : Claim) → Among x s.claims → IsShown s.pages x
  pub apart : AreApart s.claims
  -- A used bit is that of a claim or of a released cell.
  pub used : (p k : ℕ) → has_bit (used_on s.pages p) k ≡ true → IsTakenCell s p k
  pub plot : PlotStands s.pages s.plot
  -- A page with a header has a used cell, a run's at its head, but while the phase is releasing and in a plot.
  pub occupied : (p : ℕ) → header_on s.pages p ≢ 0 → used_on s.pages (head_on s.pages p) ≡ 0
      → (s.releasing ≡ true) ⊎ InPlot s.plot p
  -- A later page of a run has its head.
  pub later : (p distance : ℕ) (mapped : Bool) → shows_on s.pages p ≡ Some (Later distance mapped)
      → HasItsHead s.pages s.releasing p distance
