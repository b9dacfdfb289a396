-- What looks between calls say of cells and of the objects in them.
use Rattle.mk_trace.proofs.Vocabulary.{Cell, Config, Event, FreedObject, HostOnlyLooks, IsBetweenCycles, IsHistory}
use Rattle.mk_trace.proofs.Vocabulary.{PlacedAllocation, Word, Words, cell_at, cell_words, freed_object_of, global_at}
use Rattle.mk_trace.proofs.Vocabulary.{header_at, histories_keep_the_invariant, is_freed, is_heap_address, left}
use Rattle.mk_trace.{proofs.Vocabulary.{never_behind, option_map, placed_at, unfreed}, specs.Calls.{word_behind}}
use Rattle.mk_trace.proofs.{FoundObjects.{PointsToCell, frees_nothing, points_to_cell}, EndsInLists.leaves_twice}
use Rattle.mk_heap.proofs.Below.Laws.Vocabulary.{Bool, List, None, Option, Some, ℕ, ap, arith, false, get_or_past}
use Rattle.mk_heap.proofs.Below.Laws.Vocabulary.{has_bit}
use Rattle.mk_heap.proofs.Below.Laws.Vocabulary.{if◌then◌else◌, nat_le, no_bit, not, page_at_address, slice_index, sym}
use Rattle.mk_heap.proofs.Below.Laws.Vocabulary.{true, ◌%◌}
use Rattle.mk_heap.proofs.Below.Laws.{Vocabulary.{◌*◌, ◌+◌, ◌<◌, ◌∙◌, ◌≡◌, ◌≤◌}, KnownWorlds.known_world}
use Rattle.mk_core.specs.Cells.{pointed_cell}

-- looks, one after the other

pub looks_twice : {c : Config} {es fs gs : List Event} → HostOnlyLooks c es fs → HostOnlyLooks c fs gs
    → HostOnlyLooks c es gs
looks_twice {c} {es} {fs} {gs} one two = record {
  calls = two.calls ∙ one.calls;
  leaves = leaves_twice one.leaves two.leaves;
  words = two.words ∙ ap (λ (w : Words). record w { turn = (left c gs).now.words.turn }) one.words;
  most = λ measure. two.most measure ∙ one.most measure;
  exact = λ before. two.exact (one.exact before);
}

pub freed_looked : {c : Config} {es fs : List Event} → HostOnlyLooks c es fs → (cell : Cell)
    → is_freed (left c fs).now.words cell ≡ is_freed (left c es).now.words cell
freed_looked looks cell = ap (λ (w : Words). is_freed w cell) looks.words

pub pointed_looked : {c : Config} {es fs : List Event} → HostOnlyLooks c es fs → (u : ℕ)
    → pointed_cell c.pages (left c fs).now.words.pages u ≡ pointed_cell c.pages (left c es).now.words.pages u
pointed_looked {c} looks u = ap (λ (w : Words). pointed_cell c.pages w.pages u) looks.words

pub header_looked : {c : Config} {es fs : List Event} → HostOnlyLooks c es fs → (p : ℕ)
    → header_at (left c fs).now.words p ≡ header_at (left c es).now.words p
header_looked looks p = ap (λ (w : Words). header_at w p) looks.words

-- what an address points into

pub cell_found : (pages : ℕ) (w : Words) (u header : ℕ) (found : Option Cell) → header ≡ header_at w (page_at_address u)
    → found ≡ cell_at pages header u → found ≡ pointed_cell pages w.pages u
unfolding pointed_cell
cell_found pages w u header found is same = same ∙ ap (λ (h : ℕ). cell_at pages h u) is

pub nothing_found : (pages : ℕ) (w : Words) (u : ℕ) → is_heap_address pages u ≡ false
    → None ≡ pointed_cell pages w.pages u
unfolding pointed_cell
nothing_found pages w u outside = grind arith

-- whether a cell is freed

low_half : (f s q : ℕ) → f < 4294967296 → q ≡ f + 4294967296 * s → q % 4294967296 ≡ f
low_half f s q few is = omega (arith, few, is)

module _ (c : Config) (es : List Event) (history : IsHistory c es) where
  abbrev w : Words
  w = (left c es).now.words

  pub quarantine_tells : (cell : Cell) (q : ℕ) → q ≡ word_behind c es (Word.Quar cell.page)
      → has_bit (q % 4294967296) cell.index ≡ is_freed w cell
  quarantine_tells cell q is =
      ap (λ (n : ℕ). has_bit n cell.index) (low_half (slice_index w.freed cell.page) (slice_index w.snapshot cell.page)
      q ((histories_keep_the_invariant c es history).order.quarantined.small cell.page).0 is)

  pub none_freed_there : (cell : Cell) → c.pages ≤ cell.page → is_freed w cell ≡ false
  none_freed_there cell past = grind (arith, known_world, no_bit, get_or_past)

  -- The object of a slot

  module _ (slot : ℕ) (idle : IsBetweenCycles c es) where
    abbrev address : ℕ
    address = slice_index w.globals slot

    abbrev xs : List PlacedAllocation
    xs = (left c es).allocations

    abbrev found : Option FreedObject
    found = option_map (freed_object_of c xs) (unfreed (never_behind c es) (global_at (never_behind c es) slot))

    pub no_object : None ≡ pointed_cell c.pages w.pages address → None ≡ found
    no_object none = ap (option_map (freed_object_of c xs)) (sym (frees_nothing c es history slot (sym none)))

    module _ (cell : Cell) (points : Some cell ≡ pointed_cell c.pages w.pages address) where
      it : PointsToCell c es history slot cell
      it = points_to_cell c es history slot cell (sym points)

      pub cell_within : cell.page < c.pages
      cell_within = it.within

      by_bit : (freed : Bool) → freed ≡ is_freed w cell
          → unfreed (never_behind c es) (global_at (never_behind c es) slot) ≡ (if freed then None else Some it.number)
      by_bit freed is = it.frees
          (λ four. omega (arith, four, idle)) ∙ ap (λ (b : Bool). if b then None else Some it.number) (sym is)

      pub freed_object : true ≡ is_freed w cell → None ≡ found
      freed_object is = ap (option_map (freed_object_of c xs)) (sym (by_bit true is))

      abbrev a : PlacedAllocation
      a = placed_at xs it.number

      pub unfreed_object : (object : FreedObject) → false ≡ is_freed w cell → object.cell ≡ cell → object.storage
          ≡ cell_words w cell → object.reserved ≡ (if not (nat_le object.storage 32) then object.storage else 0)
          → object.age ≡ 0 → Some object ≡ found
      unfreed_object object is at words large young = grind (arith, by_bit, it, xs)
