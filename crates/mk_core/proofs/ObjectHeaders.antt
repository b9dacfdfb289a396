-- What the header of each page of an object shows.
use Rattle.mk_core.proofs.Vocabulary.{Bool, Free, Header, IsHeaderOf, IsSized, Later, Object, Option, Some, ℕ, ap}
use Rattle.mk_core.proofs.Vocabulary.{arith, cases_Bool, cells_made, cells_under, class_made, cond-false, cond-true}
use Rattle.mk_core.proofs.Vocabulary.{false, header_made, inl, inr, is_small_object, pages_made, refl, subst, suc, sym}
use Rattle.mk_core.proofs.Vocabulary.{true, unmapped_header, words_made, words_under, zero, ◌&&◌, ◌+◌, ◌<◌, ◌||◌, ◌∙◌}
use Rattle.mk_core.proofs.{Vocabulary.{◌≡◌, ◌≢◌, ◌≤◌}, Sizes.{class_known, large_cells, large_count, large_pages}}
use Rattle.mk_core.proofs.Sizes.{large_words, small_cells, small_pages, small_words}
use Rattle.mk_geom.proofs.HeaderLemmas.{header_of-word_of}
use Rattle.mk_geom.specs.Addresses.{head_page_under, header_of, word_of}
use Rattle.mk_geom.specs.Storages.{block_header, run_header}
use Rattle.mk_core.specs.Allocations.{FirstPartsHaveCells, OfBlock, OfLater, OfLeafBlock, OfLeafRun, OfRun, ShowsPart}
use Rattle.mk_core.specs.Cells.{has_no_pointers, heads_run, is_unmapped_header}

pub small_header : (o : Object) (distance : ℕ) → is_small_object o ≡ true
    → header_made o distance ≡ word_of (block_header (class_made o) o.leaf)
small_header o distance small = grind (arith, cond-true)

pub large_header : (o : Object) (distance : ℕ) → is_small_object o ≡ false
    → header_made o distance ≡ word_of (run_header (pages_made o) true o.leaf distance)
large_header o distance large = grind (arith, cond-false, large_pages)

block_part : (o : Object) (distance : ℕ) (leaf : Bool) → o.leaf ≡ leaf → class_made o < 8 → distance ≡ 0
    → is_small_object o ≡ true → ShowsPart o distance (header_of (word_of (block_header (class_made o) leaf)))
block_part o distance x2 is known first small = grind (arith, header_of-word_of, OfLeafBlock, OfBlock)

run_part : (o : Object) (distance : ℕ) (mapped leaf : Bool) → (mapped && o.leaf) ≡ (mapped && leaf)
    → (1 ≤ pages_made o) × (pages_made o ≤ 64) → distance < pages_made o → is_small_object o ≡ false
    → ShowsPart o distance (header_of (word_of (run_header (pages_made o) mapped leaf distance)))
run_part o x1 mapped leaf is range lt large = grind (arith, header_of-word_of, OfLeafRun, OfRun, OfLater)

-- The header that is made shows its part,
pub made_shows : (o : Object) (distance : ℕ) → IsSized o → distance < pages_made o
    → ShowsPart o distance (header_of (header_made o distance))
made_shows o distance sized lt = elim (cases_Bool (is_small_object o)) [
  | inl small ↦
      let one = small_pages o small in
      subst (λ h. ShowsPart o distance (header_of h)) (sym (small_header o distance small))
      (block_part o distance o.leaf refl (class_known o sized small).0 (omega arith) small)
  | inr large ↦ subst (λ h. ShowsPart o distance (header_of h)) (sym (large_header o distance large))
      (run_part o distance true o.leaf refl (large_count o sized large) lt large)
]

-- and so does that of an unmapped run.
pub unmapped_shows : (o : Object) (distance : ℕ) → IsSized o → distance < pages_made o → is_small_object o ≡ false
    → ShowsPart o distance (header_of (unmapped_header (pages_made o) distance))
unmapped_shows o distance sized lt large = run_part o distance false false refl (large_count o sized large) lt large

pub header_shows : (o : Object) (distance header : ℕ) → IsSized o → distance < pages_made o
    → IsHeaderOf o distance header → ShowsPart o distance (header_of header)
header_shows o distance header sized lt (inl made) = grind (arith, made_shows)
header_shows o distance header sized lt (inr unmapped) = grind (arith, unmapped_shows)

-- What shows a part names its head,
pub part_head : (o : Object) (distance page : ℕ) (x : Option Header) → ShowsPart o distance x
    → head_page_under x (page + distance) ≡ page
part_head o distance page x x4 = grind arith

-- isn't free,
abbrev shows_free : Option Header → Bool
shows_free (Some Free) = true
shows_free _ = false

not_free : {o : Object} {distance : ℕ} {x : Option Header} → ShowsPart o distance x → shows_free x ≡ false
not_free (OfBlock first small leaf) = refl
not_free _ = refl

pub part_not_free : (o : Object) (distance header : ℕ) → ShowsPart o distance (header_of header) → header ≢ 0
part_not_free o distance header part is = grind (arith, shows_free, not_free)

-- has the object's cells at its first page, of the object's words,
part_sizes : {o : Object} {x : Option Header} → ShowsPart o 0 x
    → (cells_under x ≡ cells_made o) × (words_under x ≡ words_made o)
part_sizes {o} (OfBlock first small leaf) = (sym (small_cells o small), sym (small_words o small))
part_sizes {o} (OfLeafBlock first small leaf) = (sym (small_cells o small), sym (small_words o small))
part_sizes {o} (OfRun mapped first large leaf) = (sym (large_cells o large), sym (large_words o large))
part_sizes {o} (OfLeafRun first large leaf) = (sym (large_cells o large), sym (large_words o large))
part_sizes (OfLater mapped some large) = absurd (omega arith)

pub part_cells : (o : Object) (x : Option Header) → ShowsPart o 0 x → cells_under x ≡ cells_made o
part_cells o x part = (part_sizes part).0

pub part_words : (o : Object) (x : Option Header) → ShowsPart o 0 x → words_under x ≡ words_made o
part_words o x part = (part_sizes part).1

-- what two headers of one page of an object have alike, if it is so of first pages and of later ones
same_under : (f : Option Header → ℕ) (n : ℕ) (o : Object) → ((x : Option Header) → ShowsPart o 0 x → f x ≡ n)
    → ((distance : ℕ) (x : Option Header) → ShowsPart o distance x → 1 ≤ distance → f x ≡ 0)
    → (distance : ℕ) (x y : Option Header) → ShowsPart o distance x → ShowsPart o distance y → f x ≡ f y
same_under f n o first later zero x y px py = first x px ∙ sym (first y py)
same_under f n o first later (suc d) x y px py = grind arith

-- and none at a later one.
pub later_part : (o : Object) (distance : ℕ) (x : Option Header) → ShowsPart o distance x → 1 ≤ distance
    → (mapped : Bool) × (x ≡ Some (Later distance mapped)) × (is_small_object o ≡ false)
later_part o distance x x3 some = grind arith

pub later_cells : (o : Object) (distance : ℕ) (x : Option Header) → ShowsPart o distance x → 1 ≤ distance
    → cells_under x ≡ 0
later_cells o distance x part some = let is = later_part o distance x part some in ap (λ y. cells_under y) is.1

-- A later page's header is one of a large object's.
pub shown_later : (o : Object) (distance d : ℕ) (mapped : Bool) (x : Option Header) → ShowsPart o distance x
    → x ≡ Some (Later d mapped) → (d ≡ distance) × (1 ≤ distance) × (is_small_object o ≡ false)
shown_later o distance d mapped x x5 is = grind arith

-- A run has its head at the first page of a large object, and no page of a small one is unmapped.
pub part_heads_run : (o : Object) (x : Option Header) → ShowsPart o 0 x → is_small_object o ≡ false → heads_run x ≡ true
part_heads_run o x x2 large = grind arith

pub small_heads_none : (o : Object) (distance : ℕ) (x : Option Header) → ShowsPart o distance x
    → is_small_object o ≡ true → (heads_run x ≡ false) × (is_unmapped_header x ≡ false)
small_heads_none o distance x x3 is = grind arith

-- The object's cell is scanned if the object has a pointer and is mapped.
pub part_has_no_pointers : (o : Object) (x : Option Header) → ShowsPart o 0 x
    → has_no_pointers x ≡ (o.leaf || is_unmapped_header x)
part_has_no_pointers o x x2 = grind arith

pub first_part : FirstPartsHaveCells
first_part o x part = (part_cells o x part, part_words o x part, part_has_no_pointers o x part)

-- Two headers of one page of an object have the same cells and words.
pub same_cells : (o : Object) (distance : ℕ) (x y : Option Header) → ShowsPart o distance x → ShowsPart o distance y
    → cells_under x ≡ cells_under y
same_cells o = same_under cells_under (cells_made o) o (part_cells o) (later_cells o)

pub same_words : (o : Object) (distance : ℕ) (x y : Option Header) → ShowsPart o distance x → ShowsPart o distance y
    → words_under x ≡ words_under y
same_words o = grind (arith, same_under, part_words, later_part)

-- Which headers are unmapped.
block_mapped : (class : ℕ) (leaf : Bool) → class < 8
    → is_unmapped_header (header_of (word_of (block_header class leaf))) ≡ false
block_mapped class x1 known = grind (arith, header_of-word_of)

run_mapped : (count distance : ℕ) (leaf : Bool) → (1 ≤ count) × (count ≤ 64) → distance < count
    → is_unmapped_header (header_of (word_of (run_header count true leaf distance))) ≡ false
run_mapped count x1 leaf range lt = grind (arith, header_of-word_of)

pub made_is_mapped : (o : Object) (distance : ℕ) → IsSized o → distance < pages_made o
    → is_unmapped_header (header_of (header_made o distance)) ≡ false
made_is_mapped o distance sized lt = elim (cases_Bool (is_small_object o)) [
  | inl small ↦ cc (small_header o distance small, block_mapped (class_made o) o.leaf (class_known o sized small).0)
  | inr large ↦
      cc (large_header o distance large, run_mapped (pages_made o) distance o.leaf (large_count o sized large) lt)
]

pub unmapped_is_unmapped : (count distance : ℕ) → (1 ≤ count) × (count ≤ 64) → distance < count
    → is_unmapped_header (header_of (unmapped_header count distance)) ≡ true
unmapped_is_unmapped count x1 range lt = grind (arith, header_of-word_of)

pub ruleset headers_show_their_objects_facts = (header_shows, part_head, later_cells)
