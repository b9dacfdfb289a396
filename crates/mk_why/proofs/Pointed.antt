-- What values point into, by lookup and used bits, and what is scanned of an allocation, by the header of its page.
use Rattle.mk_why.proofs.Vocabulary.{BeginApart, Cell, Config, IsFirstWord, IsHistory, IsStill, PassState}
use Rattle.mk_why.proofs.Vocabulary.{PlacedAllocation, PointsIntoAllocation, TurnState, WordsState, World, base_at}
use Rattle.mk_why.proofs.Vocabulary.{cell_of_allocation, first_word, has_bit, header_at, header_in, header_of}
use Rattle.mk_why.proofs.Vocabulary.{is_mapped, is_scanned_allocation, never_behind, now_of, object_placed, placed_at}
use Rattle.mk_why.proofs.Vocabulary.{storage_of, storage_words, used_at, view_by, words_under, world_of}
use Rattle.mk_sweep.proofs.Below.Laws.Vocabulary.{IsSettled, None, Option, Some, ℕ, and_parts, ap, arith, cells_begin}
use Rattle.mk_sweep.proofs.Below.Laws.Vocabulary.{false, has_no_pointers, inr, ne_eqb, not, pointed_cell, subst, sym}
use Rattle.mk_sweep.proofs.Below.Laws.Vocabulary.{true, true≢false, typed_size, words_within, ◌*◌, ◌+◌, ◌/◌, ◌<◌, ◌∙◌}
use Rattle.mk_sweep.proofs.{Below.Laws.Vocabulary.{◌≡◌, ◌≤◌}, ScannedCells.used_is_taken}
use Rattle.mk_sweep.proofs.Below.Laws.InvariantHistories.{allocations_are_disjoint, allocations_stand}
use Rattle.mk_sweep.proofs.Below.Laws.InvariantHistories.{histories_keep_the_invariant}
use Rattle.mk_sweep.proofs.Below.Laws.{KnownWorlds.known_world, MappedWords.mapped_stays}
use Rattle.mk_sweep.proofs.Below.Laws.Settled.{gone_is_unmapped, unreleased_are_apart}
use Rattle.mk_sweep.proofs.{Below.Laws.Worlds.{Told, comes_back, hits}, ScannedCells.{scanned_stands, used_cell}}
use Rattle.mk_sweep.specs.Below.Laws.Theorems.{StandsUsed}
use Rattle.mk_core.specs.Cells.{is_used}
use Rattle.mk_why.specs.Searching.{AreScannedFrom, IsBasePointed, PointsAtBase}

module _ (t : TurnState) (still : IsStill t.pass) where
  abbrev p : PassState
  p = t.pass

  abbrev history : IsHistory t.pass.table.config t.pass.seen
  history = t.in_order.history

  abbrev c : Config
  c = p.table.config

  abbrev w : World
  w = world_of p

  abbrev a : ℕ → PlacedAllocation
  a b = placed_at (world_of p).allocations b

  pub settled : IsSettled w
  settled = grind (arith, ne_eqb, gone_is_unmapped)

  told : Told c w (never_behind c p.seen)
  told = record {
    known = known_world c p.seen history.within_limits history.enabled;
    all = histories_keep_the_invariant c p.seen history;
  }

  stands : (b : ℕ) → (a b).released ≡ false → StandsUsed c w (a b)
  stands b u = allocations_stand c p.seen history b u

  -- what points into an allocation points into its cell
  into_cell : (value b : ℕ) → PointsIntoAllocation c w value b
      → pointed_cell c.pages (now_of p).words.pages value ≡ Some (cell_of_allocation c (a b))
  into_cell value b points = hits c w (never_behind c p.seen) told b value points.0 points.1

  pub none_pointed : (value : ℕ) → pointed_cell c.pages (now_of p).words.pages value ≡ None
      → (b : ℕ) → PointsIntoAllocation c w value b → ⊥
  none_pointed value none b points = let some = into_cell value b points in cc

  same_cell : (value b : ℕ) (cell : Cell) → pointed_cell c.pages (now_of p).words.pages value ≡ Some cell
      → PointsIntoAllocation c w value b → cell_of_allocation c (a b) ≡ cell
  same_cell value b cell is points = let some = into_cell value b points in cc

  pub unused_pointed : (value : ℕ) (cell : Cell) → pointed_cell c.pages (now_of p).words.pages value ≡ Some cell
      → is_used (now_of p).words cell ≡ false → (b : ℕ) → PointsIntoAllocation c w value b → ⊥
  unused_pointed value cell is unused b points =
      true≢false (sym (stands b points.0).used ∙ ap (is_used (now_of p).words) (same_cell value b cell is points)
      ∙ unused)

  pub used_pointed : (value : ℕ) (cell : Cell) → pointed_cell c.pages (now_of p).words.pages value ≡ Some cell
      → is_used (now_of p).words cell ≡ true → PointsAtBase c (view_by p) value (first_word (now_of p).words cell)
  used_pointed value cell is used =
      let x = used_is_taken c p.seen history settled cell.page cell.index used in
      let st = stands x.number x.unreleased in
      let begins = cells_begin c (now_of p).words (a x.number) history.within_limits st.stands st.headers in
      record {
        number = x.number;
        points = (
          x.unreleased,
          comes_back c w (never_behind c p.seen) told (inr still.wanted) x.number value x.unreleased
              (is ∙ ap Some (sym x.is)),
        );
        is = sym begins.0 ∙ ap (first_word (now_of p).words) x.is;
        only = λ b points. unreleased_are_apart c p.seen (histories_keep_the_invariant c p.seen history).order.laid b
            x.number points.0 x.unreleased (same_cell value b cell is points ∙ sym x.is);
      }

  words_there : (b : ℕ) → (a b).released ≡ false
      → words_under (header_in (now_of p).words ((a b).base / 64)) ≡ storage_words c (a b)
  words_there b u =
      let st = stands b u in
      (cells_begin c (now_of p).words (a b) history.within_limits st.stands st.headers).1

  unreleased_of : (b : ℕ) → is_scanned_allocation c (a b) ≡ true → (a b).released ≡ false
  unreleased_of b is = mapped_stays c (a b) (and_parts (is_mapped c (a b)) (not (storage_of c (a b)).leaf) is).0

  module _ {base : ℕ} (is : IsFirstWord (view_by p) base) where
    pub scanned_whole : (b : ℕ) → base_at (view_by p) b ≡ base → is_scanned_allocation c (a b) ≡ true
        → words_under (header_in (now_of p).words (base / 64)) ≡ storage_words c (a b)
    scanned_whole b at scanned = grind (arith, words_there, unreleased_of)

    pub scanned_from : has_no_pointers (header_in (now_of p).words (base / 64)) ≡ false
        → AreScannedFrom c (view_by p) base (words_under (header_in (now_of p).words (base / 64)))
    scanned_from bare i lt =
        let b = is.number in
        let cell : Cell = cell_of_allocation c (a b) in
        let x = used_cell c p.seen history settled cell.page cell.index (stands b is.unreleased).used
        (ap (λ n. has_no_pointers (header_in (now_of p).words (n / 64))) is.is ∙ bare) in
        let same : x.number ≡ b = unreleased_are_apart c p.seen (histories_keep_the_invariant c p.seen
        history).order.laid x.number b (unreleased_of x.number x.scanned) is.unreleased x.is in
        let scanned : is_scanned_allocation c (a b) ≡ true = grind arith in
        let whole : words_under (header_in (now_of p).words (base / 64)) ≡ storage_words c (a b) =
        scanned_whole b is.is scanned in
        let begins : (a b).base ≡ base = is.is in
        (b, is.is, scanned, (omega arith, omega arith))

  pub apart : BeginApart (view_by p)
  apart i j u v same =
      let si = stands i u in
      let sj = stands j v in
      let some = (words_within (object_placed c (a i)) (typed_size c (a i) history.within_limits si.stands.typed)).0 in
      let more = (words_within (object_placed c (a j)) (typed_size c (a j) history.within_limits sj.stands.typed)).0 in
      allocations_are_disjoint c p.seen history i j (a i).base u v (omega arith, omega arith) (omega arith, omega arith)

-- By the configuration of the words, and what looks found of the view.
module _ (t : TurnState) (still : IsStill t.pass) {k : WordsState} (same : t.pass.table ≡ k) (value : ℕ) where
  pointed_here : (cell : Option Cell) → cell ≡ pointed_cell k.config.pages (view_by t.pass).words.pages value
      → pointed_cell t.pass.table.config.pages (now_of t.pass).words.pages value ≡ cell
  pointed_here cell is = grind arith

  pub none_at : None ≡ pointed_cell k.config.pages (view_by t.pass).words.pages value
      → IsBasePointed k.config (view_by t.pass) value None
  none_at is = grind (arith, none_pointed, pointed_here)

  module _ (cell : Cell) (is : Some cell ≡ pointed_cell k.config.pages (view_by t.pass).words.pages value) (used : ℕ)
      (found : used ≡ used_at (view_by t.pass).words cell.page) where
    pub none_at_unused : has_bit used cell.index ≡ false → IsBasePointed k.config (view_by t.pass) value None
    none_at_unused unused = grind (arith, unused_pointed, pointed_here)

    pub some_at_used : has_bit used cell.index ≡ true → (header size : ℕ)
        → header ≡ header_at (view_by t.pass).words cell.page → size ≡ words_under (header_of header)
        → PointsAtBase k.config (view_by t.pass) value (64 * cell.page + cell.index * size)
    some_at_used has header size shown under = grind (arith, used_pointed, pointed_here)

module _ (t : TurnState) (still : IsStill t.pass) {k : WordsState} (same : t.pass.table ≡ k) {base : ℕ}
    (is : IsFirstWord (view_by t.pass) base) where
  pub begins_at : base < 64 * k.config.pages
  begins_at = grind (arith, stands, words_within, typed_size)

  module _ {header : ℕ} (shown : header ≡ header_at (view_by t.pass).words (base / 64)) where
    pub bare_at : has_no_pointers (header_of header) ≡ true → (b : ℕ) → base_at (view_by t.pass) b ≡ base
        → is_scanned_allocation k.config (placed_at (view_by t.pass).allocations b) ≡ true
        → 0 ≡ storage_words k.config (placed_at (view_by t.pass).allocations b)
    bare_at bare = grind (arith, scanned_stands, settled)

    size_is : {size : ℕ} → size ≡ words_under (header_of header)
        → size ≡ words_under (header_in (now_of t.pass).words (base / 64))
    size_is under = under ∙ ap (λ h. words_under (header_of h)) shown

    pub scanned_at : has_no_pointers (header_of header) ≡ false → {size : ℕ} → size ≡ words_under (header_of header)
        → AreScannedFrom k.config (view_by t.pass) base size
    scanned_at bare {size} under =
        subst (λ (x : WordsState). AreScannedFrom x.config (view_by t.pass) base size) same
        (subst (λ n. AreScannedFrom t.pass.table.config (view_by t.pass) base n) (sym (size_is under))
        (scanned_from t still is (ap (λ h. has_no_pointers (header_of h)) (sym shown) ∙ bare)))

    pub whole_at : {size : ℕ} → size ≡ words_under (header_of header) → (b : ℕ) → base_at (view_by t.pass) b ≡ base
        → is_scanned_allocation k.config (placed_at (view_by t.pass).allocations b) ≡ true
        → size ≡ storage_words k.config (placed_at (view_by t.pass).allocations b)
    whole_at {size} under = grind (arith, scanned_whole t still, size_is)

    pub within_at : {size : ℕ} → size ≡ words_under (header_of header) → base + size ≤ 64 * k.config.pages
    within_at under = grind (arith, size_is, words_there, stands)
