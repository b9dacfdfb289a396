-- While the phase isn't releasing, a word that isn't 0 is one of an unreleased allocation: the words of free cells, and
-- those after a page's cells, are 0.
use Rattle.std.proofs.Common.{le_refl}
use Rattle.mk_laws.proofs.Vocabulary.{BeginsAtCell, Cell, Config, Header, Invariant, IsTaken, IsWordOf, IsWordOfMapped}
use Rattle.mk_laws.proofs.Vocabulary.{Leaves, MayHold, NeverState, Object, OfBlock, OfFreedRun, OfHistories}
use Rattle.mk_laws.proofs.Vocabulary.{OfLeafBlock, OfMapped, OfReleased, OfRun, Option, PlacedAllocation, RunPages}
use Rattle.mk_laws.proofs.Vocabulary.{ShowsPart, Some, Words, World, ℕ, all_below-at, all_below_more_is}
use Rattle.mk_laws.proofs.Vocabulary.{all_below_zero_is, and_from, and_parts, ap, arith, cell_words, cells_begin}
use Rattle.mk_laws.proofs.Vocabulary.{cells_of, cells_under, class_made, class_words_of, eq-eqb, eqb-true, false}
use Rattle.mk_laws.proofs.Vocabulary.{first_word, header_in, header_shows, is_run_gone, is_run_unmapped}
use Rattle.mk_laws.proofs.Vocabulary.{is_small_object, large_words, leb-true, left, ltb-true, mul-le, object_placed}
use Rattle.mk_laws.proofs.Vocabulary.{pages_made, phase_of, placed_at, run_begins, run_of_allocation, slice_index}
use Rattle.mk_laws.proofs.Vocabulary.{small_cells, small_words, storage_of, subst, suc, sym, true, typed_size}
use Rattle.mk_laws.proofs.Vocabulary.{words_are_zero, words_made, zero, zero_scene_of, ◌%◌, ◌*◌, ◌+◌, ◌-◌, ◌/◌, ◌<◌}
use Rattle.mk_laws.proofs.{Vocabulary.{◌==◌, ◌∙◌, ◌≡◌, ◌≢◌, ◌≤◌}, Basics.{KnownWorld, ends_on_pages, known_world}}
use Rattle.mk_laws.{proofs.Basics.{mapped_stays, none_released, zero_unless}, specs.WordLaws.{words_in_cells}}
use Rattle.mk_laws.proofs.{InvariantHistories.{histories_keep_the_invariant, told_to_images}, CoveredWords.has_cell}
use Rattle.mk_laws.proofs.{ForImages.standing, ReadingsStands.not_releasing}
use Rattle.mk_core.specs.Cells.{is_in_run}
use Rattle.mk_laws.specs.WordLaws.{FreeCellsAreZero, UnmappedWordsAreZero, WordsBehindCellsAreZero, WordsOfNoneAreZero}

-- the unreleased allocation that has the word
pub record IsOfOne (c : Config) (w : World) (x : ℕ) : Type 0 where
  pub number : ℕ
  pub unreleased : (placed_at w.allocations number).released ≡ false
  pub word : IsWordOf (storage_of c (placed_at w.allocations number)) x

-- The words of a run are those of the large object whose pages it has.
run_word : (base words pages x : ℕ) → base % 64 ≡ 0 → words ≡ 64 * pages → base / 64 ≤ x / 64
    → x / 64 - base / 64 < pages → (base ≤ x) × (x < base + words)
run_word base words pages x aligned is from to = (omega arith, omega arith)

in_run : (run : RunPages) (x : ℕ) → is_in_run run x ≡ true → (run.page ≤ x / 64) × (x / 64 - run.page < run.count)
in_run run x h = (leb-true run.page (x / 64) (and_parts _ _ h).0, ltb-true _ run.count (and_parts _ _ h).1)

-- in a run that is gone
gone_word : (w : Words) (run : RunPages) (x : ℕ) → is_in_run run x ≡ true → is_run_gone w (Some run) ≡ true
    → slice_index w.heap x ≡ 0
gone_word w run x word gone =
    let parts = and_parts (is_run_unmapped w run) (words_are_zero w (64 * run.page) (64 * run.count)) gone in
    let at = in_run run x word in
    let from = at.0 in
    let to = at.1 in
    let there : 64 * run.page + (x - 64 * run.page) ≡ x = omega arith in
    ap (slice_index w.heap) (sym there) ∙ eqb-true (slice_index w.heap (64 * run.page + (x - 64 * run.page))) 0
    (all_below-at (64 * run.count) (x - 64 * run.page) (λ i. slice_index w.heap (64 * run.page + i) == 0) parts.1
    (omega arith))

module _ {c : Config} {w : World} {n : NeverState} (known : KnownWorld c w) (all : Invariant c w n) where
  -- A word that isn't 0 is one of an unreleased allocation,
  pub of_one : phase_of w.now.words ≢ 4 → (x : ℕ) → slice_index w.now.words.heap x ≢ 0 → IsOfOne c w x
  of_one quiet x some = by (all.zeros x some)
    where
      by : MayHold c (zero_scene_of w) x → IsOfOne c w x
      by (OfMapped m) = grind (arith, mapped_stays)
      by (OfReleased r) = absurd (none_released c (zero_scene_of w) x (not_releasing w quiet) r)
      by (OfFreedRun f) =
          let run = (told_to_images c w n known all).freed_run f.run f.there in
          let a : PlacedAllocation = placed_at w.allocations run.number in
          let o : Object = object_placed c a in
          let stands = (standing c w known all.order.laid run.number run.unreleased).stands in
          let aligned = (run_begins o a.base run.large stands.begins).1 in
          let word : is_in_run (run_of_allocation c a) x ≡ true = cc (run.is, f.word) in
          let at = in_run _ x word in
          record {
            number = run.number;
            unreleased = run.unreleased;
            word = run_word a.base _ (pages_made o) x aligned (large_words o run.large) at.0 at.1;
          }

  -- and of a mapped one, if the freed run is gone.
  pub of_one_mapped : phase_of w.now.words ≢ 4 → is_run_gone w.now.words w.now.seats.holding.freed ≡ true
      → (x : ℕ) → slice_index w.now.words.heap x ≢ 0 → IsWordOfMapped c w.allocations x
  of_one_mapped quiet gone x some = by (all.zeros x some)
    where
      by : MayHold c (zero_scene_of w) x → IsWordOfMapped c w.allocations x
      by (OfMapped m) = m
      by (OfReleased r) = absurd (none_released c (zero_scene_of w) x (not_releasing w quiet) r)
      by (OfFreedRun f) = grind (arith, gone_word)

  words_of_none : WordsOfNoneAreZero c w
  words_of_none quiet x none = zero_unless _ (λ some.
      let one = of_one quiet x some in none one.number one.unreleased one.word)

  unmapped_words : UnmappedWordsAreZero c w
  unmapped_words quiet gone x none = zero_unless _ (λ some.
      let one = of_one_mapped quiet gone x some in none one.number one.mapped one.word)

-- Both of all histories; this is how the invariant is after each.
pub of_worlds : {claim : Config → World → Type 0} → ((c : Config) (w : World) (n : NeverState) → KnownWorld c w
    → Invariant c w n → claim c w) → OfHistories (Leaves claim)
of_worlds {claim} known c es h = known c (left c es) _ (known_world c es h.within_limits h.enabled)
    (histories_keep_the_invariant c es h)

pub words_of_none_are_zero : OfHistories (Leaves WordsOfNoneAreZero)
words_of_none_are_zero = of_worlds (λ c w n known all. words_of_none known all)

pub unmapped_words_are_zero : OfHistories (Leaves UnmappedWordsAreZero)
unmapped_words_are_zero = of_worlds (λ c w n known all. unmapped_words known all)

-- A small object's words end with its page's cells.
small_within : {o : Object} {base : ℕ} (n : ℕ) (b : BeginsAtCell o base) → is_small_object o ≡ true → n / 64 ≡ base / 64
    → n < base + words_made o → n % 64 < cells_of (class_made o) * class_words_of (class_made o)
small_within n b small at to = grind (arith, small_cells, small_words, mul-le)

-- What shows a page of an object has the object's words there within its cells.
within_cells : {o : Object} {distance base : ℕ} (n : ℕ) {x : Option Header} → ShowsPart o distance x
    → (b : BeginsAtCell o base) → n / 64 ≡ base / 64 + distance → n < base + words_made o → n % 64 < words_in_cells x
within_cells {o} {base} n (OfBlock first small leaf) b at to = small_within n b small (omega arith) to
within_cells {o} {base} n (OfLeafBlock first small leaf) b at to = small_within n b small (omega arith) to
within_cells n (OfRun mapped first large leaf) b at to = omega arith
within_cells n _ b at to = omega arith

module _ {c : Config} {w : World} {n : NeverState} (known : KnownWorld c w) (all : Invariant c w n) where
  taken_by : (cell : Cell) {x : ℕ} (one : IsOfOne c w x) → cell.index < cells_under (header_in w.now.words cell.page)
      → (placed_at w.allocations one.number).base ≡ first_word w.now.words cell → IsTaken w cell
  taken_by cell one lt first = grind (arith, and_from, eq-eqb)

  -- So a word of a cell that isn't 0 says that the cell is taken.
  pub cell_of_word : phase_of w.now.words ≢ 4 → (cell : Cell)
      → cell.index < cells_under (header_in w.now.words cell.page) → (i : ℕ) → i < cell_words w.now.words cell
      → slice_index w.now.words.heap (first_word w.now.words cell + i) ≢ 0 → IsTaken w cell
  cell_of_word quiet cell lt i near some =
      let x : ℕ = first_word w.now.words cell + i in
      let one = of_one known all quiet x some in
      let a : PlacedAllocation = placed_at w.allocations one.number in
      let s = standing c w known all.order.laid one.number one.unreleased in
      let is = has_cell c w all.order.runs cell.page cell.index x lt (omega arith) (omega arith) known.limits s.stands
      s.headers one.word in
      taken_by cell one lt (sym (cells_begin c w.now.words a known.limits s.stands s.headers).0
      ∙ ap (first_word w.now.words) is)

  cell_is_zero : phase_of w.now.words ≢ 4 → (cell : Cell) → cell.index < cells_under (header_in w.now.words cell.page)
      → (IsTaken w cell → ⊥) → (count : ℕ) → count ≤ cell_words w.now.words cell
      → words_are_zero w.now.words (first_word w.now.words cell) count ≡ true
  cell_is_zero quiet cell lt free zero le =
      all_below_zero_is (λ i. slice_index w.now.words.heap (first_word w.now.words cell + i) == 0)
  cell_is_zero quiet cell lt free (suc count) le =
      let word : ℕ = slice_index w.now.words.heap (first_word w.now.words cell + count) in
      let is = zero_unless word (λ some. free (cell_of_word quiet cell lt count (omega arith) some)) in
      subst (λ k. words_are_zero w.now.words (first_word w.now.words cell) k ≡ true) (omega arith)
      (all_below_more_is count (λ i. slice_index w.now.words.heap (first_word w.now.words cell + i) == 0)
      (cell_is_zero quiet cell lt free count (omega arith)) (eq-eqb word 0 is))

  behind_is_zero : phase_of w.now.words ≢ 4 → (x : ℕ) → words_in_cells (header_in w.now.words (x / 64)) ≤ x % 64
      → slice_index w.now.words.heap x ≡ 0
  behind_is_zero quiet x past = zero_unless _ (λ some.
      let one = of_one known all quiet x some in
      let a : PlacedAllocation = placed_at w.allocations one.number in
      let o : Object = object_placed c a in
      let s = standing c w known all.order.laid one.number one.unreleased in
      let sized = typed_size c a known.limits s.stands.typed in
      let ends = ends_on_pages o a.base sized s.stands.begins in
      let from : a.base ≤ x = one.word.0 in
      let to : x < a.base + words_made o = one.word.1 in
      let d : ℕ = x / 64 - a.base / 64 in
      let there : a.base / 64 + d ≡ x / 64 = omega arith in
      let near : d < pages_made o = omega arith in
      let part = subst (λ p. ShowsPart o d (header_in w.now.words p)) there
      (header_shows o d _ sized near (s.headers d near)) in
      omega (arith, within_cells x part s.stands.begins (sym there) to))

  free_cells : FreeCellsAreZero c w
  free_cells quiet cell lt free = cell_is_zero quiet cell lt free _ (le_refl _)

pub free_cells_are_zero : OfHistories (Leaves FreeCellsAreZero)
free_cells_are_zero = of_worlds (λ c w n known all. free_cells known all)

pub words_behind_cells_are_zero : OfHistories (Leaves WordsBehindCellsAreZero)
words_behind_cells_are_zero = of_worlds (λ c w n known all. behind_is_zero known all)

pub ruleset free_cells_are_zero_facts
    = (words_of_none_are_zero, unmapped_words_are_zero, free_cells_are_zero, words_behind_cells_are_zero)
