-- What the place that first fit finds says of the pages, in words.
use Rattle.std.proofs.{Common.leb-false, lemmas.Option.{get_or_from_slice_get, slice_get_within}}
use Rattle.mk_laws.proofs.Vocabulary.{Block, Bool, Free, Header, IsSized, LeafBlock, List, Object, Option, Page, Place}
use Rattle.mk_laws.proofs.Vocabulary.{Some, ℕ, ap, arith, block_header, cases_Bool, cells_made, cells_of, class_made}
use Rattle.mk_laws.proofs.Vocabulary.{false, free_page, header_made, header_of, header_on, inl, inr, is_small_object}
use Rattle.mk_laws.proofs.Vocabulary.{leb-true, length, pages_made, place_on_pages, refl, resident_pages, small_cells}
use Rattle.mk_laws.proofs.Vocabulary.{small_pages, sym, true, use_under, uses_of_pages, word_of, ◌+◌, ◌<◌, ◌∙◌, ◌≡◌}
use Rattle.mk_laws.proofs.Vocabulary.{◌≤◌, ◌⊎◌}
use Rattle.mk_geom.proofs.{FirstFit.{cell_place_is, run_place_is}, HeaderLemmas.word_of-header_of}
use Rattle.mk_geom.specs.PageUses.{is_free_page, MayTakeCell}
use Rattle.mk_core.proofs.Below.Books.UsedBitLemmas.{length-bits_of}
use Rattle.mk_core.proofs.{ObjectHeaders.small_header, Sizes.class_for_small}

-- the pages of the place are free, and this many more may be resident
pub record FitsOnFreePages (limit : ℕ) (pages : List Page) (o : Object) (place : Place) : Type 0 where
  pub room : resident_pages (uses_of_pages pages) + pages_made o ≤ limit
  pub index : place.index ≡ 0
  pub within : place.page + pages_made o ≤ length pages
  pub free : (d : ℕ) → d < pages_made o → header_on pages (place.page + d) ≡ 0

-- its page is a block for the object
pub record FitsInBlock (pages : List Page) (o : Object) (place : Place) : Type 0 where
  pub small : is_small_object o ≡ true
  pub within : place.page < length pages
  pub header : header_on pages place.page ≡ header_made o 0
  pub index : place.index < cells_made o

zero_word : (h : ℕ) → header_of h ≡ Some Free → h ≡ 0
zero_word h is = sym (word_of-header_of h Free is).1

free_header : (h : ℕ) (x : Option Header) (u : ℕ) → header_of h ≡ x → is_free_page (use_under x u) ≡ true → h ≡ 0
free_header h (Some Free) u is free = zero_word h is
free_header h _ u is free = cc

-- a cell that may be taken is on a free page, or on one with the block's header
taken_from : (h u class index : ℕ) (leaf : Bool) (x : Option Header) → header_of h ≡ x
    → MayTakeCell class leaf index (use_under x u)
    → (h ≡ 0) ⊎ ((h ≡ word_of (block_header class leaf)) × (index < cells_of class))
taken_from h u class index leaf (Some (Block k)) is may = inr (
  sym (word_of-header_of h (Block k) is).1 ∙ rw may.0 (ap (λ b. word_of (block_header class b)) may.1),
  rw (length-bits_of (cells_of k) u ∙ ap cells_of may.0) at (slice_get_within _ index false may.2),
)
taken_from h u class index leaf (Some (LeafBlock k)) is may = inr (
  sym (word_of-header_of h (LeafBlock k) is).1 ∙ rw may.0 (ap (λ b. word_of (block_header class b)) may.1),
  rw (length-bits_of (cells_of k) u ∙ ap cells_of may.0) at (slice_get_within _ index false may.2),
)
taken_from h u class index leaf x6 is may = grind (arith, zero_word)

free_use : (h u : ℕ) → h ≡ 0 → is_free_page (use_under (header_of h) u) ≡ true
free_use h u z = rw z

pub fits : (limit : ℕ) (pages : List Page) (o : Object) (place : Place) → IsSized o
    → place_on_pages limit pages o ≡ Some place → FitsOnFreePages limit pages o place ⊎ FitsInBlock pages o place
fits limit pages o place sized at = elim (cases_Bool (is_small_object o)) [ inl s ↦ small s | inr l ↦ inl (large l) ]
  where
    large : is_small_object o ≡ false → FitsOnFreePages limit pages o place
    large l =
        let is = run_place_is limit o.words o.leaf pages place (leb-false o.words 32 l) at in
        grind (arith, free_header)

    small : is_small_object o ≡ true → FitsOnFreePages limit pages o place ⊎ FitsInBlock pages o place
    small s =
        let class_is = class_for_small o.words sized.0 (leb-true o.words 32 s) in
        let is = cell_place_is limit o.words (class_made o) o.leaf pages place class_is at in
        let page = get_or_from_slice_get pages place.page is.page free_page is.at in
        let one = small_pages o s in
        let inside = slice_get_within pages place.page is.page is.at in
        elim (taken_from is.page.header is.page.used (class_made o) place.index o.leaf _ refl is.may_take) [
          | inl z ↦ grind (arith, free_use)
          | inr block ↦ inr (record {
            small = s;
            within = inside;
            header = ap (λ (x : Page). x.header) page ∙ block.0 ∙ sym (small_header o 0 s);
            index = let cells = small_cells o s in let b = block.1 in omega arith;
          })
        ]
