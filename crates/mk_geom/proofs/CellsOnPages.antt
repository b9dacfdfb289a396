-- What values point into on pages that stand for storages: their cells, and nothing else that is taken.
use Rattle.std.proofs.Common.{Contains, List, Some, ℕ, ap, arith, false, inl, inr, leb-true, length, ltb-true, nat_lt}
use Rattle.std.proofs.Common.{refl, subst, sym, true, ◌%◌, ◌*◌, ◌+◌, ◌/◌, ◌<◌, ◌==◌, ◌↔◌, ◌∙◌, ◌≡◌, ◌≤◌, ◌⊎◌}
use Rattle.std.proofs.lemmas.{Bool.{and_parts, cases_Bool, cond-false, cond-true}, Option.{cond_some, none-some}}
use Rattle.std.{proofs.{lemmas.Option.same_Some, lemmas.Nat.{div_below, mod_below}}, specs.Int.{bit_at}}
use Rattle.mk_geom.proofs.{ClassTable.{cell_ends, class_words_within}, PointedCells.{cell_first, cell_from_first}}
use Rattle.mk_geom.proofs.PointedCells.{cell_index, class_has_words, large_cell_of, large_lookup, looked_up}
use Rattle.mk_geom.proofs.PointedCells.{points_into_cell, small_cell_of, small_lookup, stands_at_address}
use Rattle.mk_geom.proofs.Standing.{AreAlike, class_of_cell, has_words, large_is_run, same_or_alike, same_or_apart}
use Rattle.mk_geom.proofs.Standing.{small_is_cell, stands_at_first, stands_parts, storage_in}
use Rattle.mk_geom.proofs.{StoredWords.{words_at, words_by_large, words_by_small}, UsedWords.bit_at-used_word}
use Rattle.mk_geom.proofs.{TakenCells.{cell_taken_by, get_or-taken_cells, length-taken_cells}, ListSearch.find_cases}
use Rattle.mk_geom.specs.Storages.{PointsInto, ShowsStorage, cell_of_storage, cell_on, page_in}
use Rattle.mk_geom.specs.Storages.{AreLaidOut, IsStorage, PagesStandFor, Storage, class_of_storage, first_page}
use Rattle.mk_geom.specs.Storages.{free_page, is_cell_taken, is_small, stands_on, taken_cells, used_word, words_by}
use Rattle.mk_geom.specs.Addresses.{cell_at, page_at_address, word_at_address, cells_of, class_words_of}
use Rattle.mk_geom.specs.declared.{addresses.Cell.Cell, pages.Page.Page}

-- a value that points into a cell is an address of a page of the heap
pub is_address : (pages header u : ℕ) (k : Cell) → cell_at pages header u ≡ Some k
    → (65536 ≤ u) × (page_at_address u < pages)
is_address pages header u k is = grind (arith, and_parts, leb-true, ltb-true, none-some, cond-false)

-- The storage of the page that a value is in, if the value points into a cell: a cell of its block, or the run.
pub record IsCellOn (xs : List Storage) (u : ℕ) (k : Cell) (t : Storage) : Type 0 where
  pub inside : Contains xs t
  pub low : 65536 ≤ u
  pub stands : stands_on (page_at_address u) t ≡ true
  pub at : (is_small t ≡ true)
      × (word_at_address u < cells_of (class_of_storage t) * class_words_of (class_of_storage t))
      × (k ≡ record { page = page_at_address u; index = word_at_address u / class_words_of (class_of_storage t) })
      ⊎ (is_small t ≡ false) × (k ≡ cell_of_storage t)

pub cell_is_shown : (n header u : ℕ) (k : Cell) (xs : List Storage) (t : Storage) → AreLaidOut n xs → Contains xs t
    → stands_on (page_at_address u) t ≡ true → ShowsStorage t (page_at_address u) header → cell_at n header u ≡ Some k
    → IsCellOn xs u k t
cell_is_shown n header u k xs t laid inside stands shows is =
    let low = (is_address n header u k is).0 in
    let t_is = storage_in n xs t laid inside in
    let words = class_words_of (class_of_storage t) in
    let end = cells_of (class_of_storage t) * words in
    elim (cases_Bool (is_small t)) [
      | inl small ↦
          let lookup = small_lookup n header u t t_is low stands shows small in
          let (below, same) = cond_some (nat_lt (word_at_address u) end)
          (record { page = page_at_address u; index = word_at_address u / words }) k (sym lookup ∙ is) in
          record {
            inside = inside;
            low = low;
            stands = stands;
            at = inl (small, ltb-true (word_at_address u) end below, sym same);
          }
      | inr large ↦
          let lookup = large_lookup n header u t t_is low stands shows large in
          let same = same_Some k (cell_of_storage t) (sym is ∙ lookup
          ∙ ap (λ (k : Cell). Some k) (sym (large_cell_of t large))) in
          record { inside = inside; low = low; stands = stands; at = inr (large, same) }
    ]

module _ (pages : List Page) (storages : List Storage) (stand : PagesStandFor pages storages) where
  -- a page shows each storage that stands on it
  pub page_shows_storage : (page : ℕ) (s : Storage) → Contains storages s → stands_on page s ≡ true
      → page < length pages → ShowsStorage s page (page_in pages page).header
  page_shows_storage page s inside stands within =
      let words = stand.words page free_page within
      ∙ words_at (length pages) page storages s stand.laid_out inside stands in (
        s.mapped,
        ap (λ (p : Page). p.header) words ∙
            (grind (arith, words_by_small, cond-true, words_by_large, cond-false)),
      )

  pub points_into_on_pages : (u : ℕ) (s : Storage) → Contains storages s → PointsInto u s
      → cell_on pages u ≡ Some (cell_of_storage s)
  points_into_on_pages u s inside into =
      let is = storage_in (length pages) storages s stand.laid_out inside in
      let stands = stands_at_address u s into in
      let ends = (stands_parts (page_at_address u) s stands).1 in
      let within : page_at_address u < length pages = omega (arith, is.1, has_words (length pages) s is) in
      points_into_cell (length pages) (page_in pages (page_at_address u)).header u s is
      (page_shows_storage (page_at_address u) s inside stands within) into

  address_within : (u : ℕ) (k : Cell) → cell_on pages u ≡ Some k → (65536 ≤ u) × (page_at_address u < length pages)
  address_within u k is = is_address (length pages) (page_in pages (page_at_address u)).header u k is

  pub cell_is_on : (u : ℕ) (k : Cell) → cell_on pages u ≡ Some k → (t : Storage) × IsCellOn storages u k t
  cell_is_on u k is =
      let page = page_at_address u in
      let (low, within) = address_within u k is in
      elim (find_cases (stands_on page) storages) [
        | inl (t, found, inside, stands) ↦
            let shows = page_shows_storage page t inside stands within in (
              t,
              cell_is_shown (length pages) (page_in pages page).header u k storages t stand.laid_out inside stands
                  shows is,
            )
        | inr (none, others) ↦ absurd (grind (arith, address_within, none-some, looked_up))
      ]

-- a storage that shares a page with a small one is small, and has as many words
like_small : {s t : Storage} → (s ≡ t) ⊎ AreAlike s t → is_small t ≡ true → (is_small s ≡ true) × (s.words ≡ t.words)
like_small x0 small = grind arith

-- two storages that begin on one page stand on it
both_stand : (n : ℕ) (xs : List Storage) (s t : Storage) → AreLaidOut n xs → Contains xs s → Contains xs t
    → first_page s ≡ first_page t → (stands_on (first_page t) s ≡ true) × (stands_on (first_page t) t ≡ true)
both_stand n xs s t laid s_in t_in at = (
  stands_at_first n s (first_page t) (storage_in n xs s laid s_in) at,
  stands_at_first n t (first_page t) (storage_in n xs t laid t_in) refl,
)

-- two storages that have one cell are one
pub same_from_cells : (n : ℕ) (xs : List Storage) (s t : Storage) → AreLaidOut n xs → Contains xs s → Contains xs t
    → cell_of_storage s ≡ cell_of_storage t → s ≡ t
same_from_cells n xs s t laid s_in t_in same = elim (same_or_apart n xs s t laid s_in t_in) [
  | inl one ↦ one
  | inr apart ↦
      let s_is = storage_in n xs s laid s_in in
      let t_is = storage_in n xs t laid t_in in
      let at : first_page s ≡ first_page t = ap (λ (k : Cell). k.page) same in
      let stand = both_stand n xs s t laid s_in t_in at in
      let words : s.words ≡ t.words = (apart.alike (first_page t) stand.0 stand.1).2 in
      let index : (cell_of_storage s).index * s.words ≡ (cell_of_storage t).index * t.words = grind arith in
      let first : s.first ≡ t.first = sym (cell_first n s s_is) ∙ omega (arith, at, index) ∙ cell_first n t t_is in
      let s_some = has_words n s s_is in
      let t_some = has_words n t t_is in
      elim apart.apart [ inl before ↦ absurd (omega arith) | inr behind ↦ absurd (omega arith) ]
]

small_back : (n u : ℕ) (s t : Storage) → IsStorage n s → is_small s ≡ true → 65536 ≤ u
    → first_page s ≡ page_at_address u → class_words_of (class_of_storage t) ≡ s.words
    → s.first % 64 / s.words ≡ word_at_address u / class_words_of (class_of_storage t) → PointsInto u s
small_back n u s t is small low at words index = grind (arith, small_is_cell, has_words, cell_index, mod_below)

-- a value that points into a storage's cell is in the storage
pub cell_has_value : (n u : ℕ) (xs : List Storage) (s t : Storage) → AreLaidOut n xs → Contains xs s
    → IsCellOn xs u (cell_of_storage s) t → PointsInto u s
cell_has_value n u xs s t laid inside on =
    let page = page_at_address u in
    let s_is = storage_in n xs s laid inside in
    let t_is = storage_in n xs t laid on.inside in
    elim on.at [
      | inl (small, below, same) ↦
          let at : first_page s ≡ page_at_address u = ap (λ (k : Cell). k.page) same in
          let (s_small, words) = like_small
          (same_or_alike n xs page s t laid inside on.inside (stands_at_first n s page s_is at) on.stands) small in
          let t_words = class_has_words t (small_is_cell n t t_is small) in
          let index = sym (ap (λ (k : Cell). k.index) (small_cell_of s s_small)) ∙ ap (λ (k : Cell). k.index) same in
          small_back n u s t s_is s_small on.low at (t_words ∙ sym words) index
      | inr (large, same) ↦
          let one = same_from_cells n xs s t laid inside on.inside same in
          subst (λ (x : Storage). PointsInto u x) (sym one) (grind (arith, large_is_run, stands_parts))
    ]

pub shown_cell_has_value : (n header u : ℕ) (xs : List Storage) (s t : Storage) → AreLaidOut n xs → Contains xs s
    → Contains xs t → stands_on (page_at_address u) t ≡ true → ShowsStorage t (page_at_address u) header
    → cell_at n header u ≡ Some (cell_of_storage s) → PointsInto u s
shown_cell_has_value n header u xs s t laid s_in t_in stands shows is =
    cell_has_value n u xs s t laid s_in (cell_is_shown n header u (cell_of_storage s) xs t laid t_in stands shows is)

module _ (pages : List Page) (storages : List Storage) (stand : PagesStandFor pages storages) where
  storage_of : (s : Storage) → Contains storages s → IsStorage (length pages) s
  storage_of s inside = storage_in (length pages) storages s stand.laid_out inside

  pub points_into_iff : (u : ℕ) (s : Storage) → Contains storages s
      → PointsInto u s ↔ (cell_on pages u ≡ Some (cell_of_storage s))
  points_into_iff u s inside = (
    points_into_on_pages pages storages stand u s inside,
    λ is.
        let (t, on) = cell_is_on pages storages stand u (cell_of_storage s) is in
        cell_has_value (length pages) u storages s t stand.laid_out inside on,
  )

  -- a cell whose used bit is set, of a block of which t is a cell
  used_cell_of_block : (u : ℕ) (k : Cell) (t : Storage) → IsCellOn storages u k t → page_at_address u < length pages
      → is_small t ≡ true → k.index < cells_of (class_of_storage t) → k.page ≡ page_at_address u
      → (bit_at (page_in pages k.page).used k.index == 1) ≡ true
      → (s : Storage) × Contains storages s × (cell_of_storage s ≡ k)
  used_cell_of_block u k t on within small index_within at bit =
      let n = length pages in
      let page = page_at_address u in
      let c = class_of_storage t in
      let cell = small_is_cell n t (storage_of t on.inside) small in
      let known : class_of_storage t < 8 = omega (arith, class_of_cell t cell, cell.known) in
      let words : page_in pages page ≡ words_by storages page (Some t) =
      stand.words page free_page within ∙ words_at n page storages t stand.laid_out on.inside on.stands in
      let used : (page_in pages k.page).used ≡ used_word (taken_cells storages page c) = ap (λ (p : ℕ). (page_in pages
      p).used) at ∙ ap (λ (p : Page). p.used) (words ∙ words_by_small page storages t small) in
      let long : k.index < length (taken_cells storages page c) = omega (arith, length-taken_cells storages page c) in
      let taken : is_cell_taken storages page (class_words_of c) k.index ≡ true = sym (get_or-taken_cells storages page
      c k.index false index_within) ∙ sym (bit_at-used_word (taken_cells storages page c) k.index false long)
      ∙ ap (λ (w : ℕ). bit_at w k.index == 1) (sym used) ∙ bit in
      let (s, inside, first, stands) =
      cell_taken_by n page c k.index storages known index_within stand.laid_out.each taken in
      let (s_small, alike) =
      like_small (same_or_alike n storages page s t stand.laid_out inside on.inside stands on.stands) small in
      let s_words : class_words_of c ≡ s.words = class_has_words t cell ∙ sym alike in
      let ends : k.index * s.words + s.words ≤ 64 =
      subst (λ (w : ℕ). k.index * w + w ≤ 64) s_words (cell_ends k.index (class_words_of c) index_within) in
      let s_first : s.first ≡ 64 * k.page + k.index * s.words =
      first ∙ ap (λ (w : ℕ). 64 * page + k.index * w) s_words ∙ ap (λ (p : ℕ). 64 * p + k.index * s.words) (sym at) in
      (s, inside, cell_from_first s k.page k.index s_small (has_words n s (storage_of s inside)) ends s_first)

  pub used_cell_has_storage : (u : ℕ) (k : Cell) → cell_on pages u ≡ Some k
      → (bit_at (page_in pages k.page).used k.index == 1) ≡ true
      → (s : Storage) × Contains storages s × (cell_of_storage s ≡ k)
  used_cell_has_storage u k is bit =
      let (t, on) = cell_is_on pages storages stand u k is in
      elim on.at [
        | inl (small, below, same) ↦
            let c = class_of_storage t in
            let cell = small_is_cell (length pages) t (storage_of t on.inside) small in
            let some = class_words_within c (omega (arith, class_of_cell t cell, cell.known)) in
            let near = div_below (word_at_address u) (class_words_of c) (cells_of c) (omega arith) below in
            let index_within : k.index < cells_of c = subst (λ (j : Cell). j.index < cells_of c) (sym same) near in
            used_cell_of_block u k t on (address_within pages storages stand u k is).1 small index_within
            (ap (λ (k : Cell). k.page) same) bit
        | inr (large, same) ↦ (t, on.inside, sym same)
      ]
