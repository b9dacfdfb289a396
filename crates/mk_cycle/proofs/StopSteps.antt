-- Each step in the stop goes on with the marking.
use Rattle.mk_words.proofs.Below.Laws.Vocabulary.{Cell, Config, Moment, Step, Word, Words, World, ℕ, address_of, ap}
use Rattle.mk_words.proofs.Below.Laws.Vocabulary.{arith, cell_words, first_word, header_at, lt-ltb, pointed_cell, refl}
use Rattle.mk_words.proofs.Below.Laws.Vocabulary.{slice_index, subst, sym, true, ◌*◌, ◌+◌, ◌<◌, ◌^◌, ◌∙◌, ◌≡◌, ◌≢◌}
use Rattle.mk_cycle.proofs.{CellWords.{cell_of_word, words_in_heap}, Stilled.{but_phase, look_finds, look_words}}
use Rattle.mk_cycle.proofs.{Stilled.{marked_hand, marks_on}, MaySteps.marks_by, Parts.{traces_nothing, traces_then}}
use Rattle.mk_cycle.proofs.Steps.{is_quiet}
use Rattle.mk_cycle.specs.Grays.{MarksReached, ReachedMarksSweepNothing, TracesReached, HandPointsInto, HasDirtyPart}
use Rattle.mk_cycle.specs.{Grays.{IsGray, IsGrayWord, IsInHand, LooksOn, MarksOn}, Stops.{IsWanted, is_page_word}}
use Rattle.mk_cycle.specs.{Stops.{is_root, still_words}, Grays.IsDue, declared.noted.Noted.Noted}
use Rattle.mk_core.{proofs.PointedPages.{pointed_within}, specs.Conditions.{is_word}}
use Rattle.mk_words.proofs.Unmarked.{pointed_has_header}
use Rattle.mk_words.specs.{States.{PassState, TurnState, now_of}, Steps.Finds, TurnSteps.Acts}

-- The marking goes on, and on, and so do looks.

pub on_from : {t : TurnState} → IsWanted t.pass → MarksOn t t
on_from wanted = grind (arith, traces_nothing)

pub on_then : {t u v : TurnState} → MarksOn t u → MarksOn u v → MarksOn t v
on_then one two = record {
  table = two.table ∙ one.table;
  wanted = two.wanted;
  traces = traces_then _ _ _ _ _ one.traces two.traces;
}

pub looks_from : {t : TurnState} → IsWanted t.pass → LooksOn t t
looks_from wanted = record { on = on_from wanted; words = refl }

pub looks_then : {t u v : TurnState} → LooksOn t u → LooksOn u v → LooksOn t v
looks_then one two = record { on = on_then one.on two.on; words = two.words ∙ one.words }

-- what each step keeps to

looks_freely : (c : Config) (m : Moment) (x : Word) → is_page_word x ≡ true → TracesReached c m (Step.Look x)
looks_freely c m (Word.Heap n) h = cc
looks_freely c m _ h = tt

looks_at_root : (c : Config) (m : Moment) (x : Word) → is_root x ≡ true → TracesReached c m (Step.Look x)
looks_at_root c m (Word.Heap n) h = cc
looks_at_root c m _ h = tt

plain_quiet : (x : Word) → is_page_word x ≡ true → is_quiet (Step.Look x) ≡ true
plain_quiet (Word.Quar p) h = cc
plain_quiet _ h = refl

root_quiet : (x : Word) → is_root x ≡ true → is_quiet (Step.Look x) ≡ true
root_quiet (Word.Quar p) h = cc
root_quiet _ h = refl

gray_there : {pages n : ℕ} (w : Words) {v : Words} → but_phase w ≡ v → IsGrayWord pages v n → IsGrayWord pages w n
gray_there w same h = grind arith

reached_there : {p : PassState} (w : World) {cell : Cell} → but_phase w.now.words ≡ still_words p → w.now.seats.holding
    ≡ (now_of p).seats.holding → HandPointsInto p cell → MarksReached p.table.config w.now cell.page (2 ^ cell.index)
reached_there w same holding r = grind (arith, marks_by)

module _ {t u : TurnState} (wanted : IsWanted t.pass) where
  looks_on : {x : Word} → Acts t.pass (Step.Look x) u.pass → is_quiet (Step.Look x) ≡ true → ((w : World) → but_phase
      w.now.words ≡ still_words t.pass → TracesReached t.pass.table.config w.now (Step.Look x)) → LooksOn t u
  looks_on {x} a quiet ruled = record {
    on = marks_on wanted a quiet (λ w e h. ruled w e);
    words = look_words wanted a;
  }

  pub looks_plain : {x : Word} → Acts t.pass (Step.Look x) u.pass → is_page_word x ≡ true → LooksOn t u
  looks_plain {x} a plain = looks_on a (plain_quiet x plain) (λ w e. looks_freely t.pass.table.config w.now x plain)

  pub looks_root : {x : Word} → Acts t.pass (Step.Look x) u.pass → is_root x ≡ true → LooksOn t u
  looks_root {x} a root = looks_on a (root_quiet x root) (λ w e. looks_at_root t.pass.table.config w.now x root)

  pub looks_word : {n : ℕ} → Acts t.pass (Step.Look (Word.Heap n)) u.pass
      → IsGrayWord t.pass.table.config.pages (still_words t.pass) n → LooksOn t u
  looks_word {n} a gray = looks_on a refl (λ w e. gray_there w.now.words e gray)

  pub on_mark : {cell : Cell} → Acts t.pass (Step.Mark cell.page (2 ^ cell.index)) u.pass → HandPointsInto t.pass cell
      → MarksOn t u
  on_mark {cell} a reached = marks_on wanted a refl (λ w e h. reached_there w e h reached)

  pub on_black : {page value : ℕ} → Acts t.pass (Step.Black page value) u.pass → MarksOn t u
  on_black {page} {value} a = marks_on wanted a refl (λ w e h. tt)

  pub on_unblack : {page : ℕ} → Acts t.pass (Step.Unblack page) u.pass → HasDirtyPart (still_words t.pass) page
      → MarksOn t u
  on_unblack {page} a part = marks_on wanted a refl (λ w e h. grind arith)

  pub on_undirty : {page : ℕ} → Acts t.pass (Step.Undirty page) u.pass → MarksOn t u
  on_undirty {page} a = marks_on wanted a refl (λ w e h. tt)

-- A word of a gray cell.
module _ (t : TurnState) (pages : ℕ) (sized : pages ≡ t.pass.table.config.pages) {noted : Noted} (i : ℕ)
    (due : IsDue pages (still_words t.pass) noted) (lt : i < noted.words) where
  abbrev p : PassState
  p = t.pass

  abbrev cell : Cell
  cell = noted.cell

  abbrev n : ℕ
  n = 64 * cell.page + cell.index * noted.words + i

  gray : IsGray p.table.config.pages (still_words p) cell
  gray = subst (λ k. IsGray k (still_words p) cell) sized due.gray

  within : i < cell_words (still_words p) cell
  within = subst (λ k. i < k) due.words lt

  pub same_word : 64 * cell.page + cell.index * noted.words + i ≡ first_word (still_words p) cell + i
  same_word = ap (λ k. 64 * cell.page + cell.index * k + i) due.words

  pub gray_word : IsGrayWord p.table.config.pages (still_words p) (64 * cell.page + cell.index * noted.words + i)
  gray_word = grind (arith, within, same_word, gray)

  in_heap : n < 64 * p.table.config.pages
  in_heap =
      subst (λ k. k < 64 * p.table.config.pages) (sym same_word)
      (words_in_heap cell i t.in_order.history gray.page gray.index due.scanned within)

  pub word_named : is_word p.table.config (Word.Heap (64 * cell.page + cell.index * noted.words + i)) ≡ true
  word_named = lt-ltb n (64 * p.table.config.pages) in_heap

  pub word_near : 64 * cell.page + cell.index * noted.words + i < 262144
  word_near = let near = in_heap in let few = t.in_order.history.within_limits.pages.1 in omega arith

  module _ {q : PassState} {v : ℕ} (wanted : IsWanted p)
      (a : Acts p (Step.Look (Word.Heap (64 * cell.page + cell.index * noted.words + i))) q)
      (finds : Finds p (Step.Look (Word.Heap (64 * cell.page + cell.index * noted.words + i))) v q) where
    pub word_found : v ≡ slice_index (still_words p).heap (first_word (still_words p) cell + i)
    word_found = cc (look_finds wanted a finds refl, same_word)

    pub word_hand : v ≢ 0 → IsInHand q v
    word_hand some =
        marked_hand wanted a finds cell (ap (λ k. pointed_cell p.table.config.pages (still_words p).pages
        (address_of k)) same_word ∙ cell_of_word cell i t.in_order.history wanted.phase gray.page gray.index due.scanned
        within (λ z. some (word_found ∙ z))) gray.marked due.scanned

-- The cell into which the hand points lies in the heap.
pub reached_within : {p : PassState} {cell : Cell} → HandPointsInto p cell
    → (cell.page < p.table.config.pages) × (cell.index < 64)
reached_within {p} {cell} r = pointed_within p.table.config.pages (still_words p) r.value cell r.points

-- Its page has a header.
pub reached_in_use : (t : TurnState) {cell : Cell} → IsWanted t.pass → HandPointsInto t.pass cell
    → header_at (now_of t.pass).words cell.page ≢ 0
reached_in_use t wanted r = grind (arith, pointed_has_header, t.in_order)

-- A mark by what stood in a root or a marked cell isn't sweeping.
pub reached_marks_sweep_nothing : ReachedMarksSweepNothing
reached_marks_sweep_nothing c m f (Step.Mark p v) r = grind arith
reached_marks_sweep_nothing c m f _ r = refl
