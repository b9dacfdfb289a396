-- Header words, and how many pages are resident.
use Rattle.std.specs.Prelude.{ℕ, zero, suc, ◌+◌, ◌≤◌, Bool, false, ◌&&◌, ◌||◌, nat_le, nat_lt, List, if◌then◌else◌}
use Rattle.mk_geom.specs.{declared.pages.Page.Page, Addresses.IsHeaderWord, PageUses.is_resident_page}
use Rattle.mk_geom.specs.{PageUses.use_of_page, Storages.page_in}
use Rattle.mk_core.specs.{declared.config.Config.Config, Words.header_at, NewPlaces.pages_made, History.World}
use Rattle.mk_laws.proofs.{LayoutScene.{Plot, NoPlot, Plotted}, Terrain.{plot_of, object_now}}

-- how many numbers below n pass
unfoldable pub count_below : ℕ → (ℕ → Bool) → ℕ
count_below zero test = 0
count_below (suc n) test = count_below n test + (if test n then 1 else 0)

-- the page is one of the plot
abbrev pub in_plot : Plot → ℕ → Bool
in_plot NoPlot p = false
in_plot (Plotted first o) p = nat_le first p && nat_lt p (first + pages_made o)

-- The page is resident, or a New has chosen it.
abbrev pub is_taken_page : List Page → Plot → ℕ → Bool
is_taken_page pages plot p = is_resident_page (use_of_page (page_in pages p)) || in_plot plot p

-- With the pages that a New has chosen, no more are resident than may be.
abbrev pub HasRoom : Config → World → Type 0
HasRoom c w = count_below c.pages
    (is_taken_page w.now.words.pages (plot_of (object_now c w.now) w.now.seats.holding.placing)) ≤ c.resident

-- Each page has a header word.
abbrev pub HasHeaderWords : World → Type 0
HasHeaderWords w = (p : ℕ) → IsHeaderWord (header_at w.now.words p)
