-- What is where, as lookups show it, and what a step of a caller needs of that.
use Rattle.mk_laws.proofs.Vocabulary.{BeginsAtCell, Bool, Caller, Cell, Config, ImagePremises, IsSafeSet, IsSized}
use Rattle.mk_laws.proofs.Vocabulary.{IsTypedAllocation, IsWithinLimits, List, Mirrors, NeverState, None, Option}
use Rattle.mk_laws.proofs.Vocabulary.{PlacedAllocation, RunPages, Some, Words, World, ℕ, address_of, all_below-at}
use Rattle.mk_laws.proofs.Vocabulary.{allocation_at, and_from, and_parts, ap, arith, cases_Bool, cell_of_allocation}
use Rattle.mk_laws.proofs.Vocabulary.{cells_begin, eq-eqb, eqb-true, false, first_page_shows, first_word, flight_among}
use Rattle.mk_laws.proofs.Vocabulary.{flight_of, header_at, header_in, header_of, heads_run, image_scene_of, inl, inr}
use Rattle.mk_laws.proofs.Vocabulary.{is_large, is_mapped, is_run_gone, is_small_object, is_unmapped}
use Rattle.mk_laws.proofs.Vocabulary.{is_unmapped_header, kinds_of, large_count, large_is_not_small, large_words}
use Rattle.mk_laws.proofs.Vocabulary.{length, made_is_mapped, not, not-true, object_placed, pages_made, placed_at}
use Rattle.mk_laws.proofs.Vocabulary.{pointed_cell, run_begins, run_of_allocation, small_pages, storage_holds}
use Rattle.mk_laws.proofs.Vocabulary.{storage_words, subst, sym, true, true≢false, typed_size, unmapped_header}
use Rattle.mk_laws.proofs.Vocabulary.{unmapped_is_unmapped, word_points, words_of, [], ◌&&◌, ◌*◌, ◌+◌, ◌/◌, ◌<◌, ◌==◌}
use Rattle.mk_laws.proofs.{Vocabulary.{◌∙◌, ◌≡◌, ◌≢◌, ◌≤◌}, ImagesKept.exists_placed, Known.operands_of}
use Rattle.mk_laws.proofs.{KnownWorlds.KnownWorld, Reached.PagesShow, Ready.Ready, Standings.{InCall, standing}}
use Rattle.mk_core.proofs.{ObjectHeaders.part_heads_run, StandingAllocations.cell_ends_within}
use Rattle.mk_laws.proofs.ImagePremises.{IsLaidOut}

-- A large allocation that was freed is unmapped.
abbrev pub is_gone : Config → PlacedAllocation → Bool
is_gone c a = a.freed && is_large (kinds_of c.types a.ty)

-- of the unreleased allocations
pub record Stands (c : Config) (w : Words) (xs : List PlacedAllocation) : Type 0 where
  pub cell : (a i : ℕ) → (placed_at xs a).released ≡ false → i < storage_words c (placed_at xs a)
      → pointed_cell c.pages w.pages (address_of ((placed_at xs a).base + i))
      ≡ Some (cell_of_allocation c (placed_at xs a))
  pub first : (a : ℕ) → (placed_at xs a).released ≡ false
      → first_word w (cell_of_allocation c (placed_at xs a)) ≡ (placed_at xs a).base
  pub inside : (a : ℕ) → (placed_at xs a).released ≡ false
      → (placed_at xs a).base + storage_words c (placed_at xs a) ≤ 64 * c.pages
  pub apart : (a b : ℕ) → (placed_at xs a).released ≡ false → (placed_at xs b).released ≡ false → a ≢ b
      → (placed_at xs a).base ≢ (placed_at xs b).base
  pub mapped : (a i : ℕ) → (placed_at xs a).released ≡ false → is_gone c (placed_at xs a) ≡ false
      → i < storage_words c (placed_at xs a)
      → is_unmapped_header (header_in w (((placed_at xs a).base + i) / 64)) ≡ false
  pub run : (a : ℕ) → (placed_at xs a).released ≡ false → is_large (kinds_of c.types (placed_at xs a).ty) ≡ true
      → heads_run (header_in w ((placed_at xs a).base / 64)) ≡ true

-- how far after its first page a word of an allocation lies
pub record PageOfWord (c : Config) (a : PlacedAllocation) (i : ℕ) : Type 0 where
  pub distance : ℕ
  pub page : (a.base + i) / 64 ≡ a.base / 64 + distance
  pub near : distance < pages_made (object_placed c a)

pub page_of_word : (c : Config) (a : PlacedAllocation) (i : ℕ) → IsSized (object_placed c a)
    → BeginsAtCell (object_placed c a) a.base → i < storage_words c a → PageOfWord c a i
page_of_word c a i sized b lt = elim (cases_Bool (is_small_object (object_placed c a))) [
  | inl small ↦
      let one = small_pages (object_placed c a) small in
      let ends = cell_ends_within (object_placed c a) a.base sized small b in
      record { distance = 0; page = omega arith; near = omega arith }
  | inr large ↦
      let words = large_words (object_placed c a) large in
      let first = (run_begins (object_placed c a) a.base large b).1 in
      record { distance = i / 64; page = omega arith; near = omega arith }
]

mapped_is : (c : Config) (a : PlacedAllocation) → a.released ≡ false → is_mapped c a ≡ not (is_gone c a)
mapped_is c a unreleased = rw unreleased

pub large_object : (c : Config) (a : PlacedAllocation) → is_large (kinds_of c.types a.ty) ≡ true
    → is_small_object (object_placed c a) ≡ false
large_object c a large = not-true _ (sym (large_is_not_small _) ∙ large)

pub stands_of : (c : Config) (w : World) → IsWithinLimits c → ImagePremises c w → Stands c w.now.words w.allocations
stands_of c w limits others = record {
  cell = λ a i u lt.
      let h = others.laid_out a u in word_points c w.now.words (placed_at w.allocations a) limits h.stands h.headers
      ((placed_at w.allocations a).base + i) (omega arith, omega arith);
  first = λ a u. let h =
      others.laid_out a u in (cells_begin c w.now.words (placed_at w.allocations a) limits h.stands h.headers).0;
  inside = λ a u. (others.laid_out a u).stands.within;
  apart = others.apart;
  mapped = λ a i u un lt.
      let h = others.laid_out a u in
      let sized = typed_size c (placed_at w.allocations a) limits h.stands.typed in
      let at = page_of_word c (placed_at w.allocations a) i sized h.stands.begins lt in
      ap (λ p. is_unmapped_header (header_in w.now.words p)) at.page ∙ ap (λ x. is_unmapped_header (header_of x))
      (h.mapped (mapped_is c (placed_at w.allocations a) u ∙ ap not un) at.distance at.near)
      ∙ made_is_mapped (object_placed c (placed_at w.allocations a)) at.distance sized at.near;
  run = λ a u large. grind (arith, part_heads_run, first_page_shows, typed_size, large_object);
}

-- A run that is gone shows on its pages that it is unmapped.

abbrev pub page_in : Option RunPages → ℕ
page_in (Some run) = run.page
page_in None = 0

abbrev count_in : Option RunPages → ℕ
count_in (Some run) = run.count
count_in None = 0

gone_headers : (c : Config) (w : Words) (freed : Option RunPages) (a : PlacedAllocation) → IsLaidOut c w freed a
    → is_mapped c a ≡ false → is_run_gone w freed ≡ true → (distance : ℕ) → distance < pages_made (object_placed c a)
    → header_at w (a.base / 64 + distance) ≡ unmapped_header (pages_made (object_placed c a)) distance
gone_headers c w None a h un gone distance near = h.unmapped un (λ e. cc) distance near
gone_headers c w (Some run) a h un gone distance near =
    elim (cases_Bool ((run.page == a.base / 64) && (run.count == pages_made (object_placed c a)))) [
      | inr e ↦ h.unmapped un (λ is.
          true≢false (sym (and_from _ _ (eq-eqb run.page (run_of_allocation c a).page (ap page_in is))
          (eq-eqb run.count (run_of_allocation c a).count (ap count_in is))) ∙ e)) distance near
      | inl e ↦
          let same = and_parts _ _ e in
          let page = eqb-true run.page (a.base / 64) same.0 in
          let count = eqb-true run.count (pages_made (object_placed c a)) same.1 in
          let all = (and_parts _ _ gone).0 in
          rw page at (rw count at (eqb-true _ _ (all_below-at run.count distance _ all (omega arith))))
    ]

pub gone_shows : {c : Config} {w : World} → IsWithinLimits c → ImagePremises c w
    → is_run_gone w.now.words w.now.seats.holding.freed ≡ true → (a i : ℕ) → (placed_at w.allocations a).released
    ≡ false → is_gone c (placed_at w.allocations a) ≡ true → i < storage_words c (placed_at w.allocations a)
    → is_unmapped_header (header_in w.now.words (((placed_at w.allocations a).base + i) / 64)) ≡ true
gone_shows {c} {w} limits others gone a i u un lt =
    let x = placed_at w.allocations a in
    let h = others.laid_out a u in
    let sized = typed_size c x limits h.stands.typed in
    let at = page_of_word c x i sized h.stands.begins lt in
    grind (arith, large_object, and_parts, gone_headers, mapped_is, unmapped_is_unmapped, large_count)

abbrev pub first_in : Words → Option Cell → ℕ
first_in w (Some cell) = first_word w cell
first_in w None = 0

module _ (c : Config) (w : World) (n : NeverState) (known : KnownWorld c w) (mirrors : Mirrors c w n) where
  abbrev placed : ℕ → PlacedAllocation
  placed i = placed_at w.allocations i

  -- an allocation of the heap that never reuses storage has the words of its type
  pub words_are : (a : ℕ) → a < length w.allocations → length (words_of n a) ≡ length (kinds_of c.types (placed a).ty)
  words_are a lt =
      let typed : IsTypedAllocation n (allocation_at n a) = mirrors.typed.allocations a (omega arith) in
      typed.size ∙ rw mirrors.types (rw (← (mirrors.twins.ty a lt)))

  pub type_is : (a : ℕ) → a < length w.allocations → (placed a).ty < length c.types
  type_is a lt =
      let typed : IsTypedAllocation n (allocation_at n a) = mirrors.typed.allocations a (omega arith) in
      rw mirrors.types at (subst (λ ty. ty < length n.types) (sym (mirrors.twins.ty a lt)) typed.ty)

  pub words_fit : (a : ℕ) → a < length w.allocations → length (words_of n a) ≤ storage_words c (placed a)
  words_fit a lt = omega (arith, words_are a lt, (storage_holds c (placed a) known.limits (type_is a lt)).0)

  pub unmapped_is : (a : ℕ) → a < length w.allocations → is_unmapped (allocation_at n a) ≡ is_gone c (placed a)
  unmapped_is a lt = rw (← (mirrors.twins.freed a lt)) (rw (words_are a lt))

  pub ready_of : Stands c w.now.words w.allocations → (safe : ℕ → Bool) → IsSafeSet safe w.allocations n
      → Ready c.globals safe (image_scene_of w) n
  ready_of st safe s = record {
    images = mirrors.images;
    typed = mirrors.typed;
    set = s;
    count = mirrors.twins.count;
    apart = λ a b i j ua ub li lj ne e.
        let fa = words_fit a (exists_placed w.allocations a ua) in
        let fb = words_fit b (exists_placed w.allocations b ub) in
        let cells : Some (cell_of_allocation c (placed a)) ≡ Some (cell_of_allocation c (placed b)) =
        sym (st.cell a i ua (omega arith)) ∙ ap (λ x. pointed_cell c.pages w.now.words.pages (address_of x)) e
        ∙ st.cell b j ub (omega arith) in
        st.apart a b ua ub ne (sym (st.first a ua) ∙ ap (first_in w.now.words) cells ∙ st.first b ub);
    small = λ j. let o =
        operands_of c (flight_among w.now.seats.flights j).op (known.now.operands j) in (o.q, o.p, o.r, o.d);
    bound = λ a i u li. let f = words_fit a (exists_placed w.allocations a u) in omega (arith, known.lengths.heap);
    room = let p = known.limits.pages.1 in omega (arith, known.lengths.heap);
    full = λ ty lt. rw mirrors.types (known.limits.types ty [] (rw mirrors.types at lt)).0.0;
  }

  -- Headers say to who is in a call what is unmapped, since freed runs are gone then.
  pub shown_in_call : ImagePremises c w → Stands c w.now.words w.allocations → (k : ℕ) → k < c.callers
      → standing (flight_of w.now (Caller k)) ≡ InCall → PagesShow (header_at w.now.words) (image_scene_of w) n
  shown_in_call others st k lt in_call a i u li =
      let is_there = exists_placed w.allocations a u in
      let f = words_fit a is_there in
      elim (cases_Bool (is_gone c (placed a))) [
        | inl e ↦
            gone_shows known.limits others gone a i u e (omega arith) ∙ sym e ∙ sym (unmapped_is a is_there)
        | inr e ↦ st.mapped a i u e (omega arith) ∙ sym e ∙ sym (unmapped_is a is_there)
      ]
    where
      gone : is_run_gone w.now.words w.now.seats.holding.freed ≡ true
      gone = elim (cases_Bool (is_run_gone w.now.words w.now.seats.holding.freed)) [
        | inl yes_gone ↦ yes_gone
        | inr there ↦ grind arith
      ]
