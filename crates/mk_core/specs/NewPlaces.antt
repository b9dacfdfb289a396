-- The place of a New and what its pages become, and the object of a Free, over the words as they are.
use Rattle.std.specs.Prelude.{ℕ, ◌+◌, ◌-◌, ◌*◌, ◌^◌, Bool, true, false, ◌&&◌, ◌==◌, nat_le, nat_lt, not, List, []}
use Rattle.std.specs.Prelude.{length, Option, Some, None, unwrap_or, if◌then◌else◌}
use Rattle.mk_never.specs.{declared.{types.Kind.Kind, operations.Op.Op}, Types.{kinds_of, is_leaf}}
use Rattle.mk_geom.specs.declared.{addresses.Cell.Cell, pages.{Page.Page, Place.Place}}
use Rattle.mk_geom.specs.Addresses.{class_for, class_words_of, cells_of, is_small_size, run_pages_of, word_of}
use Rattle.mk_geom.specs.{PageUses.{place_on_uses, uses_of_pages}, Storages.{block_header, run_header}}
use Rattle.mk_core.specs.declared.{config.Config.Config, seats.{Flight.Flight, Stage.Stage}}
use Rattle.mk_core.specs.declared.seats.{Stage.TheVariants.Turn, Placing.Placing}
use Rattle.mk_core.specs.declared.seats.Placing.TheVariants.{Unplaced, Chosen, Used, Granted}
use Rattle.mk_core.specs.{declared.seats.{RunPages.RunPages, Object.Object}, Words.{Words, header_at}}
use Rattle.mk_core.specs.{Words.{all_below, is_none_or}, Cells.{pointed_cell, words_are_zero}}
use Rattle.mk_core.specs.declared.placing.PageHeaders.{PageHeaders}
use Rattle.mk_core.specs.declared.placing.PageHeaders.TheVariants.{Made, Unmapped}

-- an object of these words
abbrev pub object_of : List Kind → Object
object_of kinds = record { words = length kinds; leaf = is_leaf kinds }

-- the object that a New creates
abbrev pub object_made : Config → Op → Object
object_made c (Op.New d ty full) = object_of (kinds_of c.types ty)
object_made c _ = object_of []

-- where an object goes on pages by first fit, with this many of them resident at most
abbrev pub place_on_pages : ℕ → List Page → Object → Option Place
place_on_pages resident pages o = place_on_uses resident o.words o.leaf (uses_of_pages pages)

-- A New has one place: the first fit, up to the first step that serves its object.
abbrev pub place_by_placing : ℕ → List Page → Object → Placing → Option Place
place_by_placing resident pages o Unplaced = place_on_pages resident pages o
place_by_placing resident pages o (Chosen place) = Some place
place_by_placing resident pages o (Used place) = Some place
place_by_placing resident pages o Granted = None

-- the class of a small object's cells
abbrev pub class_made : Object → ℕ
class_made o = unwrap_or (class_for o.words) 0

-- the object has a cell
abbrev pub is_small_object : Object → Bool
is_small_object o = is_small_size o.words

-- how many pages an object's cell or run has from its place's page on
abbrev pub pages_made : Object → ℕ
pages_made o = if is_small_object o then 1 else run_pages_of o.words

-- the header word that the page so far after the first of them gets
abbrev pub header_made : Object → ℕ → ℕ
header_made o distance =
    if is_small_object o
    then word_of (block_header (class_made o) o.leaf)
    else word_of (run_header (run_pages_of o.words) true o.leaf distance)

-- the bits of the cells that these headers make
abbrev pub bits_made : Object → ℕ
bits_made o = if is_small_object o then 2 ^ cells_of (class_made o) - 1 else 1

-- the first heap word of the object
abbrev pub base_made : Object → Place → ℕ
base_made o place =
    64 * place.page + (if is_small_object o then place.index * class_words_of (class_made o) else 0)

-- the page so far after a first one has the header word that is wanted there
abbrev pub stands : Words → ℕ → (ℕ → ℕ) → ℕ → Bool
stands w first wanted distance = header_at w (first + distance) == wanted distance

-- The page is the first of this many that hasn't the header word that is wanted there, and the value is that word.
abbrev pub is_next_header : Words → ℕ → ℕ → (ℕ → ℕ) → ℕ → ℕ → Bool
is_next_header w first count wanted page value =
    nat_le first page && nat_lt (page - first) count && not (header_at w page == wanted (page - first))
    && all_below (page - first) (stands w first wanted) && (value == wanted (page - first))

-- The pages of the place have the header words of the object.
abbrev pub place_stands : Words → Object → Place → Bool
place_stands w o place = all_below (pages_made o) (stands w place.page (header_made o))

-- the header word of an unmapped run's page
abbrev pub unmapped_header : ℕ → ℕ → ℕ
unmapped_header count distance = word_of (run_header count false false distance)

-- all pages of the run have their unmapped headers
abbrev pub is_run_unmapped : Words → RunPages → Bool
is_run_unmapped w run = all_below run.count (stands w run.page (unmapped_header run.count))

-- The run that a call freed, if it freed one, is unmapped and wiped.
abbrev pub is_run_gone : Words → Option RunPages → Bool
is_run_gone w freed =
    is_none_or (λ (run : RunPages). is_run_unmapped w run && words_are_zero w (64 * run.page) (64 * run.count)) freed

-- a New that has the turn, and isn't decided
abbrev pub is_new_at : Stage → Op → Bool
is_new_at Turn (Op.New d ty full) = true
is_new_at _ _ = false

-- a Free that has the turn, whose register is loaded, and that isn't decided
abbrev pub is_free_at : Stage → Op → Bool
is_free_at Turn (Op.Free p) = true
is_free_at _ _ = false

-- the call is a New that isn't decided
abbrev pub is_undecided_new : Flight → Bool
is_undecided_new f = is_new_at f.stage f.op

-- the call is a Free that isn't decided
abbrev pub is_undecided_free : Flight → Bool
is_undecided_free f = is_free_at f.stage f.op

-- the cell that a Free frees: what its register points into
abbrev pub target : ℕ → Words → Flight → Option Cell
target pages w f = if is_undecided_free f then pointed_cell pages w.pages f.p else None

-- that of the page so far after the first
abbrev pub header_wanted : PageHeaders → ℕ → ℕ
header_wanted (Made object) distance = header_made object distance
header_wanted (Unmapped count) distance = unmapped_header count distance
