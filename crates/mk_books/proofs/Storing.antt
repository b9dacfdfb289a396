-- A store of a page's header or used word keeps a map in step.
use Rattle.std.{proofs.{Common.slice_index_or, lemmas.List.get_or_read}, specs.Int.{from_bool}}
use Rattle.mk_books.proofs.Vocabulary.{Bool, FitPages, KnownPages, List, Page, PageKind, Shows, SortsPage, ℕ, arith}
use Rattle.mk_books.proofs.Vocabulary.{free_page, is_resident_page, length, page_at, resident_pages, set, subst, sym}
use Rattle.mk_books.proofs.Vocabulary.{use_of_kind, use_of_page, uses_of_pages, ◌+◌, ◌<◌, ◌≡◌, ◌≤◌}
use Rattle.mk_books.proofs.{FitStays.{fit_changed, resident_changed, resident_one}, Showing.{changed_shows, known_by}}
use Rattle.mk_geom.specs.{Addresses.header_of, PageUses.use_under}

-- a store: the pages and the sets before it, the sets as they were passed on and left, and the page then
pub record Stores (held : List Page) (sets slice after : List ℕ) (resident page : ℕ) (now : Page) : Type 0 where
  pub fit : FitPages held sets resident
  pub within : page < length held
  pub is_slice : slice ≡ sets
  pub sorts : SortsPage slice after page (use_of_page now)

sorts_them : {held : List Page} {sets slice after : List ℕ} {resident page : ℕ} {now : Page}
    → Stores held sets slice after resident page now → SortsPage sets after page (use_of_page now)
sorts_them {after} {page} {now} stores =
    subst (λ (xs : List ℕ). SortsPage xs after page (use_of_page now)) stores.is_slice stores.sorts

pub store_fits : {held : List Page} {sets slice after : List ℕ} (vec : List ℕ) {resident : ℕ}
    (count : ℕ) {page : ℕ} {now : Page} → Stores held sets slice after resident page now → vec ≡ after
    → count + resident_one (page_at held page) ≡ resident + resident_one now → FitPages (set held page now) vec count
store_fits {held} vec count {page} {now} stores written counted =
    subst (λ (xs : List ℕ). FitPages (set held page now) xs count) (sym written)
    (fit_changed now count stores.fit stores.within (sorts_them stores) counted)

pub store_shows : {known : KnownPages} {held pages : List Page} {sets slice after : List ℕ} (vec : List ℕ)
    {freed : List ℕ} {resident page : ℕ} {now : Page} (stored : Page) → Stores held sets slice after resident page now
    → vec ≡ after → known_by held sets ≡ known → (held ≡ pages → now ≡ stored) → Shows known pages freed
    → Shows (known_by (set held page now) vec) (set pages page stored) freed
store_shows {held} {pages} {sets} {after} vec {freed} {page} {now} stored stores written view same shows =
    let shows_before = subst (λ (k : KnownPages). Shows k pages freed) (sym view) shows in
    subst (λ (p : Page). Shows (known_by (set held page now) vec) (set pages page p) freed) (same
    shows_before.page_by_page) (subst (λ (xs : List ℕ). Shows (known_by (set held page now) xs) (set pages page now)
    freed) (sym written) (changed_shows held sets after now stores.fit.few (sorts_them stores) shows_before))

-- a page of the map, and its words as they were read
pub page_within : (known : KnownPages) (held : List Page) (sets : List ℕ) (page : ℕ) → known_by held sets ≡ known
    → page < length known.pages → page < length held
page_within known held sets page view within = grind arith

pub page_read : (held : List Page) (page : ℕ) (found : Page) → page < length held
    → found ≡ slice_index_or held page found → found ≡ page_at held page
page_read held page found within is = get_or_read held page found within is free_page

-- the byte that the code counts a page by
pub resident_byte : (page : Page) (is_resident : Bool) (byte : ℕ)
    → ((used : ℕ) → is_resident_page (use_under (header_of page.header) used) ≡ is_resident)
    → byte ≡ from_bool is_resident → byte ≡ resident_one page
resident_byte page is_resident byte resident is = grind arith

-- one page more or less
pub counted_anew : (held : List Page) (page resident was is : ℕ) (now : Page) → page < length held → was ≡ resident_one
    (page_at held page) → is ≡ resident_one now → resident ≡ resident_pages (uses_of_pages held) → was ≤ resident + is
counted_anew held page resident was is now within old new counted = omega (arith, resident_changed held page now within)

pub same_count : (held : List Page) (resident page : ℕ) (found : Page) (used : ℕ) (kind : PageKind)
    → found ≡ page_at held page → ((n : ℕ) → use_under (header_of found.header) n ≡ use_of_kind kind n) → resident
    + resident_one (page_at held page) ≡ resident + resident_one (record { header = found.header; used = used })
same_count held resident page found used kind is is_kind = grind (arith, resident_one)
