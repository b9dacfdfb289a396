-- The cells of a page: which are free, and which are in quarantine. A block's cells are numbered 0 to 31, by bits.
use Rattle.std.specs.{Prelude.{◌≡◌, ℕ, ◌+◌, Bool, true, false, List, [], map, ◌++◌, if◌then◌else◌}, List.range_with_len}
use Rattle.std.specs.Int.{bit_at}
use Rattle.mk_geom.specs.PageUses.{PageUse, cells_taken, free_cells_among}

-- the free cells of each class in pages of one sort
abbrev pub free_cells_of_sort : Bool → List PageUse → List ℕ
free_cells_of_sort leaf pages = map (free_cells_among leaf pages) (range_with_len 0 8)

-- those of blocks, and then those of leaf blocks
abbrev pub free_cells_by_class : List PageUse → List ℕ
free_cells_by_class pages = free_cells_of_sort false pages ++ free_cells_of_sort true pages

-- the place of a class and sort there
abbrev pub class_place : ℕ → Bool → ℕ
class_place class leaf = if leaf then 8 + class else class

-- the page is no block
abbrev pub HasNoCells : PageUse → Type 0
HasNoCells page = (class : ℕ) (leaf : Bool) → cells_taken class leaf page ≡ []

-- The quarantine of a block, whose cells are numbered 0 to 31: bit k of its quarantine word says that cell k is freed,
-- and bit 32 + k that it is in the snapshot.

-- the cell is used and in the snapshot, and no mark was found on it
abbrev pub IsFreeable : ℕ → ℕ → ℕ → ℕ → Type 0
IsFreeable used quar mark cell = (bit_at used cell ≡ 1) × (bit_at quar (32 + cell) ≡ 1) × (bit_at mark cell ≡ 0)
