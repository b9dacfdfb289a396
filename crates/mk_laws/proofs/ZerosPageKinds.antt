-- Steps on the pages: `head`, `used` and `quar`.
use Rattle.mk_laws.proofs.Vocabulary.{Bool, Cell, Config, Drops, Empties, Flight, GivesBack, HasZeros, Header, HeadStep}
use Rattle.mk_laws.proofs.Vocabulary.{IsFreedWord, IsReleasedWord, IsWithinLimits, IsWordOfMapped, ItCarves, ItDrops}
use Rattle.mk_laws.proofs.Vocabulary.{ItEmpties, ItFrees, ItGivesBack, ItTakes, ItTakesSnapshot, ItUnmaps, List}
use Rattle.mk_laws.proofs.Vocabulary.{MayHold, None, OfFreedRun, OfMapped, OfReleased, Option, OthersAreZero, Page}
use Rattle.mk_laws.proofs.Vocabulary.{PlacedAllocation, QuarantineStep, RunPages, Seat, ShowsPart, Some, Step, Storage}
use Rattle.mk_laws.proofs.Vocabulary.{UsedStep, Words, World, ZeroScene, ℕ, address_of, all_below-at, and_from}
use Rattle.mk_laws.proofs.Vocabulary.{and_parts, ap, arith, cases_Bool, cell_freed, cell_of_allocation, cell_words}
use Rattle.mk_laws.proofs.Vocabulary.{eqb-true, false, first_page_shows, first_word, flight_of, free_page, freed_cell}
use Rattle.mk_laws.proofs.Vocabulary.{freed_leaves, freed_where_it_stands, frees, ground_of, has_bit, has_bit_without}
use Rattle.mk_laws.proofs.Vocabulary.{head_page, head_page_under, header_at, header_in, header_on, if◌then◌else◌, inl}
use Rattle.mk_laws.proofs.Vocabulary.{inr, is_mapped, is_phase, is_released_there, is_run_gone, is_run_unmapped}
use Rattle.mk_laws.proofs.Vocabulary.{is_small_object, large_words, le-leb, leb-true, lt-ltb, ltb-true, map, nat_le}
use Rattle.mk_laws.proofs.Vocabulary.{nat_lt, not, object_now, object_placed, or_else, page_at_address, pages_made}
use Rattle.mk_laws.proofs.Vocabulary.{placed_at, pointed_cell, refl, run_begins, run_of_cell, set_by, shows_on}
use Rattle.mk_laws.proofs.Vocabulary.{slice_index, slice_set, stands_in, storage_words, subst, sym, target, true}
use Rattle.mk_laws.proofs.Vocabulary.{typed_size, undecided_free, used_at, used_on, without, words_are_zero}
use Rattle.mk_laws.proofs.Vocabulary.{words_under, zero_scene_with, ◌&&◌, ◌*◌, ◌+◌, ◌-◌, ◌/◌, ◌<◌, ◌==◌, ◌^◌, ◌∙◌, ◌≡◌}
use Rattle.mk_laws.proofs.{Vocabulary.{◌≢◌, ◌≤◌, ◌⊎◌}, Basics.{IsStanding, Laid, Meets, changed_words, free_has_turn}}
use Rattle.mk_laws.proofs.{Basics.{mapped_stays, none_on_its_way, none_set}, ChangedScenes.{Before, early_words, here}}
use Rattle.mk_laws.proofs.{ChangedScenes.standing, Freed.{run_large, standing_cell}, LayoutByKind.off_at}
use Rattle.mk_laws.proofs.{MappedWords.word_of_changed, Zeros.first_word_on}
use Rattle.mk_core.proofs.{ChangedAllocations.freed_storage, PageSteps.wiped_cell, PointedPages.pointed_head}
use Rattle.mk_core.proofs.WordBits.{rest_bits}

-- Words of released cells, after the steps of releasing.

-- If the pages keep the header of the word's page and that of the cell's, and the cell its used bit, it stays one.
kept_word : {c : Config} {old : List Page} (new : List Page) {is_gone : Cell → Bool} {n : ℕ}
    (r : IsReleasedWord c old is_gone n)
    → header_on new (page_at_address (address_of n)) ≡ header_on old (page_at_address (address_of n))
    → header_on new r.cell.page ≡ header_on old r.cell.page → has_bit (used_on new r.cell.page) r.cell.index ≡ true
    → IsReleasedWord c new is_gone n
unfolding pointed_cell
kept_word new r here there used = grind (arith, here)

-- a page with a cell is its own head
own_head : (x : Option Header) (p k i : ℕ) → i < k + words_under x → k ≤ i → head_page_under x p ≡ p
own_head x p k i lt le = grind arith

-- `head` (d): a page whose head page has no used cell is free
pub emptied_word : {c : Config} (w : World) {is_gone : Cell → Bool} {p v n : ℕ} → Empties w.now.words p v
    → IsReleasedWord c w.now.words.pages is_gone n
    → IsReleasedWord c (slice_set w.now.words.pages p (record { header = v; used = used_at w.now.words p })) is_gone n
emptied_word {c} w {is_gone = is_gone} {p = p} {v = v} {n = n} h r =
    kept_word (slice_set w.now.words.pages p (record { header = v; used = used_at w.now.words p })) r
    (same _ (λ e. unused
    (ap (head_page w.now.words) (sym e) ∙ sym (pointed_head c.pages w.now.words (address_of n) r.cell r.pointed))))
    (same r.cell.page not_there) (set_by (λ (x : Page). has_bit x.used r.cell.index ≡ true) w.now.words.pages p
    r.cell.page _ free_page (λ e. ap (λ q. has_bit (used_at w.now.words q) r.cell.index) (sym e) ∙ r.used) r.used)
  where
    same : (q : ℕ) → q ≢ p → header_on (slice_set w.now.words.pages p
        (record { header = v; used = used_at w.now.words p })) q ≡ header_on w.now.words.pages q
    same q ne = set_by (λ (x : Page). x.header ≡ header_on w.now.words.pages q) w.now.words.pages p q _ free_page
        (λ e. absurd (ne e)) refl

    unused : head_page w.now.words p ≡ r.cell.page → ⊥
    unused e = none_set _ r.cell.index (ap (used_at w.now.words) (sym e) ∙ h.unused) r.used

    not_there : r.cell.page ≢ p
    not_there e = unused (ap (head_page w.now.words) (sym e) ∙ own_head _ r.cell.page _ n r.to r.from)

-- A used word's step leaves all headers.
pub same_headers : (pages : List Page) (p v q : ℕ)
    → header_on (slice_set pages p (record { header = header_on pages p; used = v })) q ≡ header_on pages q
same_headers pages p v q =
    set_by (λ (x : Page). x.header ≡ header_on pages q) pages p q _ free_page (λ e. ap (header_on pages) (sym e)) refl

-- `used` (b): the words of a cell that is given back are 0
pub unwiped_word : {c : Config} (w : World) {is_gone : Cell → Bool} {p v n : ℕ} → GivesBack w.now.words p v
    → slice_index w.now.words.heap n ≢ 0 → IsReleasedWord c w.now.words.pages is_gone n
    → IsReleasedWord c (slice_set w.now.words.pages p (record { header = header_at w.now.words p; used = v })) is_gone n
unwiped_word {c} w {is_gone = is_gone} {p = p} {v = v} {n = n} h some r = kept_word
    (slice_set w.now.words.pages p (record { header = header_at w.now.words p; used = v })) r
    (same_headers w.now.words.pages p v _) (same_headers w.now.words.pages p v r.cell.page)
    (set_by (λ (x : Page). has_bit x.used r.cell.index ≡ true) w.now.words.pages p r.cell.page _ free_page still r.used)
  where
    still : r.cell.page ≡ p → has_bit v r.cell.index ≡ true
    still e = elim (cases_Bool (has_bit v r.cell.index)) [
      | inl in_it ↦ in_it
      | inr out ↦ absurd (
          let bit : has_bit (used_at w.now.words p) r.cell.index ≡ true =
          ap (λ q. has_bit (used_at w.now.words q) r.cell.index) (sym e) ∙ r.used in
          let gone = rest_bits v _ r.cell.index h.fewer bit out in
          let zero = wiped_cell w.now.words p _ r.cell.index h.wiped r.small gone in
          let cell : Cell = record { page = p; index = r.cell.index } in
          let first : first_word w.now.words cell ≡ first_word_on w.now.words.pages r.cell =
          ap (λ q. first_word w.now.words (record { page = q; index = r.cell.index })) (sym e) in
          let words : cell_words w.now.words cell ≡ words_under (shows_on w.now.words.pages r.cell.page) =
          ap (λ q. words_under (header_in w.now.words q)) (sym e) in
          let from = r.from in
          let to = r.to in
          let at : first_word w.now.words cell + (n - first_word w.now.words cell) ≡ n = omega arith in
          some (ap (slice_index w.now.words.heap) (sym at) ∙ eqb-true _ 0 (all_below-at _ _
          (λ i. slice_index w.now.words.heap (first_word w.now.words cell + i) == 0) zero (omega arith))))
    ]

-- `quar` (c): only cells that aren't used leave the snapshot
pub dropped_word : {c : Config} (w : World) {p f v n : ℕ} → Drops w.now.words p f v
    → IsReleasedWord c w.now.words.pages (is_released_there (zero_scene_with true w.now.words.marks w)) n
    → IsReleasedWord c w.now.words.pages (is_released_there
    (record (zero_scene_with true w.now.words.marks w) { snapshot = slice_set w.now.words.snapshot p v })) n
dropped_word w {p = p} {v = v} h r = record {
  cell = r.cell;
  small = r.small;
  released = set_by (λ x. has_bit (without x (slice_index w.now.words.marks r.cell.page)) r.cell.index ≡ true)
      _ p r.cell.page v 0 still r.released;
  used = r.used;
  pointed = r.pointed;
  from = r.from;
  to = r.to;
}
  where
    bits : (has_bit (slice_index w.now.words.snapshot r.cell.page) r.cell.index ≡ true)
        × (not (has_bit (slice_index w.now.words.marks r.cell.page) r.cell.index) ≡ true)
    bits = and_parts _ _ (sym (has_bit_without _ _ _) ∙ r.released)

    still : r.cell.page ≡ p → has_bit (without v (slice_index w.now.words.marks r.cell.page)) r.cell.index ≡ true
    still e = grind (arith, has_bit_without, and_from, bits)

-- Words of what a call frees: a run's become those of the run that it unmaps, and they are 0 once that is gone.

-- `give`: the run's words are 0
pub gone_word : (w : Words) {freed : Option RunPages} {n : ℕ} → is_run_gone w freed ≡ true → IsFreedWord freed n
    → slice_index w.heap n ≡ 0
gone_word w {n = n} gone f =
    let run : RunPages = f.run in
    let there : is_run_gone w (Some run) ≡ true = ap (is_run_gone w) (sym f.there) ∙ gone in
    let zero = (and_parts (is_run_unmapped w run) (words_are_zero w (64 * run.page) (64 * run.count)) there).1 in
    let parts = and_parts (nat_le run.page (n / 64)) (nat_lt (n / 64 - run.page) run.count) f.word in
    let from = leb-true run.page (n / 64) parts.0 in
    let to = ltb-true (n / 64 - run.page) run.count parts.1 in
    let at : 64 * run.page + (n - 64 * run.page) ≡ n = omega arith in
    ap (slice_index w.heap) (sym at) ∙ eqb-true (slice_index w.heap (64 * run.page + (n - 64 * run.page))) 0
    (all_below-at (64 * run.count) (n - 64 * run.page) (λ i. slice_index w.heap (64 * run.page + i) == 0) zero
    (omega arith))

-- `quar` (a), if no cell is freed
pub word_where_none_is_freed : {c : Config} (w : World) {n : ℕ} → IsWordOfMapped c w.allocations n
    → IsWordOfMapped c (map (freed_where_it_stands w.now.words None) w.allocations) n
word_where_none_is_freed {c} w {n = n} m = word_of_changed (freed_leaves w.now.words None) m m.mapped

-- and if one is
pub word_of_freed : {c : Config} (w : World) (cell : Cell) {n : ℕ} → IsWithinLimits c
    → (m : IsWordOfMapped c w.allocations n) → IsStanding c w.now.words (placed_at w.allocations m.number)
    → (stands_in w.now.words cell (placed_at w.allocations m.number) ≡ true
    → cell_of_allocation c (placed_at w.allocations m.number) ≡ cell)
    → IsWordOfMapped c (map (freed_where_it_stands w.now.words (Some cell)) w.allocations) n
    ⊎ IsFreedWord (run_of_cell w.now.words (Some cell)) n
word_of_freed {c} w cell {n = n} limits m st in_cell = by (stands_in w.now.words cell a) refl
  where
    a : PlacedAllocation
    a = placed_at w.allocations m.number

    changed : is_mapped c (freed_where_it_stands w.now.words (Some cell) a) ≡ true
        → IsWordOfMapped c (map (freed_where_it_stands w.now.words (Some cell)) w.allocations) n
    changed stays = word_of_changed (freed_leaves w.now.words (Some cell)) m stays

    by : (b : Bool) → stands_in w.now.words cell a ≡ b
        → IsWordOfMapped c (map (freed_where_it_stands w.now.words (Some cell)) w.allocations) n
        ⊎ IsFreedWord (run_of_cell w.now.words (Some cell)) n
    by false is = inl (grind (arith, changed))
    by true is = elim (cases_Bool (is_small_object (object_placed c a))) [
      | inl small ↦ inl (changed (ap (λ (s : Storage). s.mapped) (freed_storage c w.now.words (Some cell) a small)
          ∙ m.mapped))
      | inr large ↦ inr (let page : a.base / 64 ≡ cell.page = ap (λ (x : Cell). x.page) (in_cell is) in
          let part : ShowsPart (object_placed c a) 0 (header_in w.now.words cell.page) =
          subst (λ p. ShowsPart (object_placed c a) 0 (header_in w.now.words p)) page
          (first_page_shows c w.now.words a (typed_size c a limits st.stands.typed) st.headers) in
          let first = (run_begins (object_placed c a) a.base large st.stands.begins).1 in
          let words : storage_words c a ≡ 64 * pages_made (object_placed c a) = large_words (object_placed c a) large in
          let from : a.base ≤ n = m.word.0 in
          let to : n < a.base + storage_words c a = m.word.1 in
          record {
            run = record { page = cell.page; count = pages_made (object_placed c a) };
            there = run_large cell.page part large;
            word = and_from _ _ (le-leb cell.page (n / 64) (omega arith)) (lt-ltb (n / 64 - cell.page) _ (omega arith));
          })
    ]

-- `head` and `used`
abbrev with_pages : World → List Page → ZeroScene
with_pages w pages = record (here w) { pages = pages }

other_pages : (c : Config) (w : World) (pages : List Page) → is_phase w.now.words 4 ≡ false → HasZeros c w
    → OthersAreZero c (with_pages w pages)
other_pages c w pages off z = early_words c w (with_pages w pages) off z (λ n ne. ne) (λ n m. OfMapped m)
    (λ n f. OfFreedRun f)

late_pages : (c : Config) (w : World) (pages : List Page) → HasZeros c w
    → ((n : ℕ) → slice_index w.now.words.heap n ≢ 0 → IsReleasedWord c w.now.words.pages (is_released_there (here w)) n
    → IsReleasedWord c pages (is_released_there (here w)) n) → OthersAreZero c (with_pages w pages)
late_pages c w pages z keeps = changed_words c (here w) _ z (λ n ne. ne) (λ n m. OfMapped m)
    (λ n some r. OfReleased (keeps n some r)) (λ n some f. OfFreedRun f)

pub head_kind : {c : Config} (w : World) {f : Flight} {p v : ℕ} → HasZeros c w → HeadStep c w.now f p v → OthersAreZero
    c (with_pages w (slice_set w.now.words.pages p (record { header = v; used = used_at w.now.words p })))
head_kind {c} w z (ItCarves off x) = other_pages c w _ off z
head_kind {c} w z (ItUnmaps off x) = other_pages c w _ off z
head_kind {c} w {p = p} {v = v} z (ItEmpties on x) = late_pages c w _ z (λ n some r. emptied_word w x r)

pub used_kind : (c : Config) (w : World) (f : Flight) (p v : ℕ) → HasZeros c w → UsedStep c w.now f p v → OthersAreZero
    c (with_pages w (slice_set w.now.words.pages p (record { header = header_at w.now.words p; used = v })))
used_kind c w f p v z (ItTakes off once x) = other_pages c w _ off z
used_kind c w f p v z (ItGivesBack on x) = late_pages c w _ z (λ n some r. unwiped_word w x some r)

-- `quar`
abbrev quarantined : Bool → World → ℕ → ℕ → Option Cell → ZeroScene
quarantined releasing w p v cell =
    record (zero_scene_with releasing w.now.words.marks w) {
      snapshot = slice_set w.now.words.snapshot p (v / 2 ^ 32);
      run = or_else (run_of_cell w.now.words cell) w.now.seats.holding.freed;
      allocations = map (freed_where_it_stands w.now.words cell) w.allocations;
    }

first_there : {x : Option RunPages} (y : Option RunPages) {n : ℕ} → IsFreedWord x n → IsFreedWord (or_else x y) n
first_there y f = grind arith

quar_early : {c : Config} {w : World} {seat : Seat} {p v : ℕ} → Before c w seat (Step.Quar p v)
    → Meets c w.now seat (Step.Quar p v) → is_phase w.now.words 4 ≡ false → HasZeros c w
    → (cell : Option Cell) → cell_freed c.pages w.now.words (flight_of w.now seat) p v ≡ cell
    → OthersAreZero c (quarantined (is_phase w.now.words 4) w p v cell)
quar_early {c} {w} {p} {v} b h off z None is =
    early_words c w (quarantined (is_phase w.now.words 4) w p v None) off z (λ n ne. ne)
    (λ n m. OfMapped (word_where_none_is_freed w m)) (λ n f. OfFreedRun f)
quar_early {c} {w} {seat} {p} {v} b h off z (Some cell) is =
    early_words c w (quarantined (is_phase w.now.words 4) w p v (Some cell)) off z (λ n ne. ne) mapped
    (λ n f. absurd (not_freed n f))
  where
    none : w.now.seats.holding.freed ≡ None
    none =
        let frees = freed_cell c.pages w.now.words (flight_of w.now seat) p v cell is in
        let turn = free_has_turn c w.now seat h.seat frees.free in
        none_on_its_way c w.now seat b.known turn (undecided_free (flight_of w.now seat) frees.free).stage

    not_freed : (n : ℕ) → IsFreedWord w.now.seats.holding.freed n → ⊥
    not_freed n f = let e : None ≡ Some f.run = sym none ∙ f.there in cc

    mapped : (n : ℕ) → IsWordOfMapped c w.allocations n
        → MayHold c (quarantined (is_phase w.now.words 4) w p v (Some cell)) n
    mapped n m =
        let frees = freed_cell c.pages w.now.words (flight_of w.now seat) p v cell is in
        let laid : Laid c (object_now c w.now) false w (ground_of w) =
        subst (λ four. Laid c (object_now c w.now) four w (ground_of w)) off b.others.laid_out in
        let u = mapped_stays c (placed_at w.allocations m.number) m.mapped in
        elim (word_of_freed w cell b.limits m (standing c w seat (Step.Quar p v) m.number b u)
        (standing_cell (object_now c w.now) w b.lengths.pages (b.others.target cell frees.at) laid m.number u)) [
          | inl stays ↦ OfMapped stays
          | inr freed ↦ OfFreedRun (first_there w.now.seats.holding.freed freed)
        ]

quar_late : (c : Config) (w : World) (p v : ℕ)
    → ((n : ℕ) → IsReleasedWord c w.now.words.pages (is_released_there (zero_scene_with true w.now.words.marks w)) n
    → IsReleasedWord c w.now.words.pages (is_released_there (quarantined true w p v None)) n)
    → OthersAreZero c (zero_scene_with true w.now.words.marks w) → OthersAreZero c (quarantined true w p v None)
quar_late c w p v keeps z = changed_words c _ _ z (λ n ne. ne)
    (λ n m. OfMapped (word_where_none_is_freed w m)) (λ n some r. OfReleased (keeps n r)) (λ n some f. OfFreedRun f)

pub quar_kind : {c : Config} {w : World} {seat : Seat} {p v : ℕ} → Before c w seat (Step.Quar p v) → Meets c w.now seat
    (Step.Quar p v) → HasZeros c w → QuarantineStep c w.now (flight_of w.now seat) p v → OthersAreZero c
    (quarantined (is_phase w.now.words 4) w p v (cell_freed c.pages w.now.words (flight_of w.now seat) p v))
quar_kind {c} {w} {seat} {p} {v} b h z (ItFrees off x) = quar_early b h off z _ refl
quar_kind {c} {w} {seat} {p} {v} b h z (ItTakesSnapshot x) =
    quar_early b h (off_at w 0 x.phase (λ e. absurd (omega arith))) z _ refl
quar_kind {c} {w} {seat} {p} {v} b h z (ItDrops on x) =
    let f : Flight = flight_of w.now seat in
    let none : cell_freed c.pages w.now.words f p v ≡ None = ap (λ four. if not four && frees w.now.words
    (target c.pages w.now.words f) p v then target c.pages w.now.words f else None) on in
    subst (λ (cell : Option Cell). OthersAreZero c (quarantined (is_phase w.now.words 4) w p v cell)) (sym none)
    (subst (λ four. OthersAreZero c (quarantined four w p v None)) (sym on) (quar_late c w p v
    (λ n r. dropped_word w x r) (subst (λ four. OthersAreZero c (zero_scene_with four w.now.words.marks w)) on z)))
