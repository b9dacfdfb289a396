-- Free pages are passed over: none has a gray cell, and none is dirty.
use Rattle.mk_words.proofs.Below.Laws.Vocabulary.{Free, Header, Option, Some, Words, ℕ, arith, cases_lt, false}
use Rattle.mk_words.proofs.Below.Laws.Vocabulary.{header_at, header_of, not, refl, slice_index, sym, use_under, used_at}
use Rattle.mk_words.proofs.Below.Laws.{Vocabulary.{◌<◌, ◌≡◌, ◌≤◌}, FreePages.free_pages_have_nothing}
use Rattle.mk_core.specs.Below.Books.KnownPages.{is_in_use}
use Rattle.mk_cycle.proofs.NoGrays.{no_gray}
use Rattle.mk_cycle.specs.{Grays.{HasNoGray, IsUnmarked}, Stops.still_words}
use Rattle.mk_geom.{proofs.HeaderLemmas.word_of-header_of, specs.PageUses.is_free_page}
use Rattle.mk_words.specs.States.{TurnState}

no_header : (h : ℕ) (x : Option Header) (u : ℕ) → header_of h ≡ x → not (is_free_page (use_under x u)) ≡ false → h ≡ 0
no_header h (Some Free) u is free = sym (word_of-header_of h Free is).1
no_header h x2 u is free = grind arith

free_header : (w : Words) (p : ℕ) → is_in_use w.pages p ≡ false → header_at w p ≡ 0
free_header w p free = no_header (header_at w p) (header_of (header_at w p)) (used_at w p) refl free

free_has_no_gray : (w : Words) (p : ℕ) → is_in_use w.pages p ≡ false → HasNoGray w p
free_has_no_gray w p free = grind (arith, free_header, no_gray)

free_is_clean : (t : TurnState) (n : ℕ) → is_in_use (still_words t.pass).pages n ≡ false
    → slice_index (still_words t.pass).dirty n ≡ 0
free_is_clean t n free = grind (arith, free_pages_have_nothing, free_header, t.in_order)

free_is_unmarked : (w : Words) (p : ℕ) → is_in_use w.pages p ≡ false → IsUnmarked w p
free_is_unmarked w p free k lt = grind (arith, free_header)

-- What is known up to one page is known up to the next page in use: of pages without gray cells,
pub none_past : (w v : Words) (from next page : ℕ) → v ≡ w → ((p : ℕ) → from ≤ p → p < next → HasNoGray w p)
    → ((p : ℕ) → next ≤ p → p < page → is_in_use v.pages p ≡ false)
    → (p : ℕ) → from ≤ p → p < page → HasNoGray w p
none_past w v from next page same before free p low high = grind (arith, cases_lt, free_has_no_gray)

-- of pages that have no marks,
pub unmarked_past : (t : TurnState) (from page : ℕ) → ((n : ℕ) → n < from → IsUnmarked (still_words t.pass) n)
    → ((n : ℕ) → from ≤ n → n < page → is_in_use (still_words t.pass).pages n ≡ false)
    → (n : ℕ) → n < page → IsUnmarked (still_words t.pass) n
unmarked_past t from page before free n high k lt = grind (arith, cases_lt, free_is_unmarked)

-- and of pages that aren't dirty.
pub clean_past : (t : TurnState) (from page : ℕ)
    → ((n : ℕ) → n < from → slice_index (still_words t.pass).dirty n ≡ 0)
    → ((n : ℕ) → from ≤ n → n < page → is_in_use (still_words t.pass).pages n ≡ false)
    → (n : ℕ) → n < page → slice_index (still_words t.pass).dirty n ≡ 0
clean_past t from page before free n high = grind (arith, cases_lt, free_is_clean)
