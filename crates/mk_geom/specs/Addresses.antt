-- Sizes, header words and addresses. A page has 64 words; the heap's word w has address 65536 + 8 * w.
use Rattle.std.specs.Prelude.{ℕ, ◌+◌, ◌/◌, Bool, Option, None, List, [], ◌∷◌, nat_le, ◌==◌, slice_index, position}
use Rattle.std.specs.Prelude.{if◌then◌else◌, ◌-◌, ◌*◌, ◌%◌, ◌<◌, ◌≤◌, true, false, ◌&&◌, Some, IsSome, not, nat_lt}
use Rattle.std.specs.Prelude.{option_and_then}
use Rattle.mk_geom.specs.declared.headers.Header.{Header, TheVariants.{Free, Block, Run, Later}}
use Rattle.mk_geom.specs.declared.{headers.Header.TheVariants.{LeafBlock, LeafRun}, addresses.Cell.Cell}

-- the words of a cell, by class
abbrev pub class_sizes : List ℕ
class_sizes = 2 ∷ 4 ∷ 6 ∷ 8 ∷ 12 ∷ 16 ∷ 24 ∷ 32 ∷ []

-- the words of a cell of this class
abbrev pub class_words_of : ℕ → ℕ
class_words_of class = slice_index class_sizes class

-- the cells of a block, which is one page: no cell is cut off by its end
abbrev pub cells_of : ℕ → ℕ
cells_of class = 64 / class_words_of class

-- An object of this many words is small: it takes a cell, and a large one whole pages.
abbrev pub is_small_size : ℕ → Bool
is_small_size words = nat_le words 32

-- the least class whose cells hold this many words
abbrev pub class_for : ℕ → Option ℕ
class_for words = if words == 0 then None else position (λ size. nat_le words size) class_sizes

-- the least number of pages that hold this many words
abbrev pub run_pages_of : ℕ → ℕ
run_pages_of words = (words + 63) / 64

-- The class is one of the 8, and a run has at most 64 pages.
abbrev pub IsInRange : Header → Type 0
IsInRange Free = Unit {0}
IsInRange (Block class) = class < 8
IsInRange (Run pages mapped) = (1 ≤ pages) × (pages ≤ 64)
IsInRange (Later distance mapped) = (1 ≤ distance) × (distance ≤ 63)
IsInRange (LeafBlock class) = class < 8
IsInRange (LeafRun pages) = (1 ≤ pages) × (pages ≤ 64)

-- the header word
abbrev pub word_of : Header → ℕ
word_of Free = 0
word_of (Block class) = 1 + class
word_of (Run pages true) = 9 + 16 * pages
word_of (Later distance true) = 10 + 16 * distance
word_of (Run pages false) = 11 + 16 * pages
word_of (Later distance false) = 12 + 16 * distance
word_of (LeafBlock class) = 13 + 16 * class
word_of (LeafRun pages) = 14 + 16 * pages

-- the header, if its parameter is within the limits
abbrev pub header_within : ℕ → ℕ → ℕ → Header → Option Header
header_within least parameter greatest header =
    if nat_le least parameter && nat_le parameter greatest then Some header else None

-- the header of this kind and parameter, if there is one
abbrev pub header_with : ℕ → ℕ → Option Header
header_with kind parameter =
    if kind == 0 then header_within 0 parameter 0 Free
    else if nat_le kind 8 then header_within 0 parameter 0 (Block (kind - 1))
    else if kind == 9 then header_within 1 parameter 64 (Run parameter true)
    else if kind == 10 then header_within 1 parameter 63 (Later parameter true)
    else if kind == 11 then header_within 1 parameter 64 (Run parameter false)
    else if kind == 12 then header_within 1 parameter 63 (Later parameter false)
    else if kind == 13 then header_within 0 parameter 7 (LeafBlock parameter)
    else if kind == 14 then header_within 1 parameter 64 (LeafRun parameter)
    else None

-- what the word says; None if it is no header word
abbrev pub header_of : ℕ → Option Header
header_of word = header_with (word % 16) (word / 16)

-- It is the word of some header.
abbrev pub IsHeaderWord : ℕ → Type 0
IsHeaderWord word = IsSome (header_of word)

-- the page is one of an unmapped run
abbrev pub is_unmapped_header : Option Header → Bool
is_unmapped_header (Some (Run count mapped)) = not mapped
is_unmapped_header (Some (Later distance mapped)) = not mapped
is_unmapped_header _ = false

-- the address of a heap word
abbrev pub address_of : ℕ → ℕ
address_of word = 65536 + 8 * word

-- the heap word that an address is in, in whole numbers
abbrev pub heap_word_at : ℕ → ℕ
heap_word_at address = (address - 65536) / 8

-- inside a heap of this many pages
abbrev pub is_heap_address : ℕ → ℕ → Bool
is_heap_address pages address = nat_le 65536 address && nat_lt address (65536 + 512 * pages)

-- the page of an address
abbrev pub page_at_address : ℕ → ℕ
page_at_address address = (address - 65536) / 512

-- the word of its page that an address is in
abbrev pub word_at_address : ℕ → ℕ
word_at_address address = (address - 65536) / 8 % 64

-- the cell of a block that has the word; none if the word comes after the last cell
abbrev pub cell_of_block : ℕ → ℕ → ℕ → Option Cell
cell_of_block class page word =
    if nat_lt word (cells_of class * class_words_of class)
    then Some (record { page = page; index = word / class_words_of class })
    else None

-- the head page of a page's run, which a later page lies after; another page is its own
abbrev pub head_page_under : Option Header → ℕ → ℕ
head_page_under (Some (Later distance mapped)) page = page - distance
head_page_under _ page = page

-- a run, which is cell 0 of its head page
abbrev pub run_of_page : Header → ℕ → Cell
run_of_page header page = record { page = head_page_under (Some header) page; index = 0 }

-- the cell or run that has a word of a page of this header
abbrev pub cell_under : Header → ℕ → ℕ → Option Cell
cell_under Free page word = None
cell_under (Block class) page word = cell_of_block class page word
cell_under (Run pages mapped) page word = Some (run_of_page (Run pages mapped) page)
cell_under (Later distance mapped) page word =
    if nat_le distance page then Some (run_of_page (Later distance mapped) page) else None
cell_under (LeafBlock class) page word = cell_of_block class page word
cell_under (LeafRun pages) page word = Some (run_of_page (LeafRun pages) page)

-- what the address points into, in a heap of this many pages, if its page has this header word
abbrev pub cell_at : ℕ → ℕ → ℕ → Option Cell
cell_at pages header address =
    if is_heap_address pages address
    then option_and_then (λ h. cell_under h (page_at_address address) (word_at_address address)) (header_of header)
    else None
