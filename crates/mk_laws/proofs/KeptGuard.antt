-- What a change must leave for words to stay guarded, and for scans to stand.
use Rattle.mk_laws.proofs.Vocabulary.{BlackIsGuarded, Config, DirtyIsOwed, HeaderGoesOn, IsGuarded, MarkerStands}
use Rattle.mk_laws.proofs.Vocabulary.{MarkerState as Marker, Moment, OnlyGrow, Option, OwesDirty, PageIsDirty}
use Rattle.mk_laws.proofs.Vocabulary.{PointsWell, Scan, ScanStands, Some, ℕ, arith, cases_eq, cells_under, false}
use Rattle.mk_laws.proofs.Vocabulary.{false_from_ne_true, first_word, has_bit, has_no_pointers, header_at, header_in}
use Rattle.mk_laws.proofs.Vocabulary.{header_of, inl, inr, refl, slice_index, sym, true, true≢false, words_under, ◌*◌}
use Rattle.mk_laws.proofs.Vocabulary.{◌+◌, ◌/◌, ◌<◌, ◌∙◌, ◌≡◌, ◌≢◌, ◌⊎◌}
use Rattle.mk_laws.proofs.{Wells.{IsWell, is_well, well_guarded}, Guard.cell_scanned}

pub goes_same : (pages a : ℕ) → HeaderGoesOn pages a a
goes_same pages a = record { cell = λ v y h. h; count = λ h. refl; words = λ h. refl; unscanned = λ h t. t }

pub goes_equal : (pages a b : ℕ) → b ≡ a → HeaderGoesOn pages a b
goes_equal pages a b e = rw e (goes_same pages a)

pub goes_joined : {pages a b d : ℕ} → HeaderGoesOn pages a b → HeaderGoesOn pages b d → HeaderGoesOn pages a d
goes_joined {a} {b} g h = record {
  cell = λ v y is. h.cell v y (g.cell v y is);
  count = λ some. h.count (some_on some) ∙ g.count some;
  words = λ some. h.words (some_on some) ∙ g.words some;
  unscanned = λ some t. h.unscanned (some_on some) (g.unscanned some t);
}
  where
    some_on : cells_under (header_of a) ≢ 0 → cells_under (header_of b) ≢ 0
    some_on some z = some (sym (g.count some) ∙ z)

-- what an event leaves of the guarded words
pub record Keeps (c : Config) (m n : Moment) : Type 0 where
  pub wells : (value : ℕ) → IsWell c m.words value → IsWell c n.words value
  pub heap : (x : ℕ) → (slice_index n.words.heap x ≡ slice_index m.words.heap x) ⊎ IsGuarded c n x
  pub dirty : (p : ℕ) → slice_index m.words.dirty p ≡ 1 → slice_index n.words.dirty p ≡ 1
  pub owed : (k p : ℕ) → OwesDirty m k p → OwesDirty n k p ⊎ (slice_index n.words.dirty p ≡ 1)
  pub headers : (p : ℕ) → HeaderGoesOn c.pages (header_at m.words p) (header_at n.words p)
  pub marks : OnlyGrow m.words.marks n.words.marks

-- The words of cells that a header makes are guarded.
abbrev pub NewCellsAreGuarded : Config → Moment → Moment → Type 0
NewCellsAreGuarded c m n = (p k i : ℕ) → cells_under (header_in m.words p) ≡ 0 → k < cells_under (header_in n.words p)
    → i < words_under (header_in n.words p) → IsGuarded c n (64 * p + k * words_under (header_in n.words p) + i)

pub guards : {c : Config} {m n : Moment} → Keeps c m n → {x : ℕ} → IsGuarded c m x → IsGuarded c n x
guards {c} {m} {n} k {x = x} (PointsWell h) = elim (k.heap x) [
  | inl e ↦ well_guarded c n x (rw e (k.wells _ (is_well c m.words _ h)))
  | inr g ↦ g
]
guards k {x = x} (PageIsDirty h) = PageIsDirty (k.dirty (x / 64) h)
guards k {x = x} (DirtyIsOwed j owes) =
    elim (k.owed j (x / 64) owes) [ inl o ↦ DirtyIsOwed j o | inr d ↦ PageIsDirty d ]

-- a word that equals the hand, or is guarded
pub passes : {c : Config} {m n : Moment} (hand : Option ℕ) → Keeps c m n → (x : ℕ) → IsGuarded c m x
    ⊎ (hand ≡ Some (slice_index m.words.heap x)) → IsGuarded c n x ⊎ (hand ≡ Some (slice_index n.words.heap x))
passes {c} {m} {n} hand k x (inl g) = inl (guards k g)
passes hand k x (inr e) = elim (k.heap x) [ inl same ↦ inr (e ∙ rw (← same)) | inr g ↦ inl g ]

-- what is scanned after was scanned before
pub scanned_before : {pages a b : ℕ} → HeaderGoesOn pages a b → cells_under (header_of a) ≢ 0
    → has_no_pointers (header_of b) ≡ false → has_no_pointers (header_of a) ≡ false
scanned_before g some f = false_from_ne_true _ (λ t. true≢false (sym (g.unscanned some t) ∙ f))

pub scan_kept : {c : Config} {m n : Moment} {hand : Option ℕ} {x : Scan} → Keeps c m n → ScanStands c m hand x
    → ScanStands c n hand x
scan_kept {c} {m} {n} {hand} {x} k h =
    let g = k.headers x.page in
    let some : cells_under (header_in m.words x.page) ≢ 0 = λ z. let lt = h.index in omega arith in
    let first : first_word n.words (cell_scanned x) ≡ first_word m.words (cell_scanned x) = rw (g.words some) in
    record {
      index = rw (g.count some) h.index;
      marked = k.marks x.page x.index h.marked;
      start = rw first h.start;
      next = h.next;
      end = grind arith;
      passed = λ f i le lt. passes hand k i (h.passed (scanned_before g some f) i (rw first at le) lt);
    }

pub marker_kept : {c : Config} {m n : Moment} {x : Marker} → Keeps c m n → MarkerStands c m x → MarkerStands c n x
marker_kept {c} {m} {n} {x} k h = record {
  scan = λ s is. scan_kept k (h.scan s is);
  seen = λ s is. goes_joined (h.seen s is) (k.headers s.page);
}

-- The guarded words of a cell stay so, if it is there and scanned before.
pub cell_kept : {c : Config} {m n : Moment} (p k i : ℕ) → Keeps c m n → cells_under (header_in m.words p) ≢ 0
    → (k < cells_under (header_in m.words p) → has_no_pointers (header_in m.words p) ≡ false
    → i < words_under (header_in m.words p) → IsGuarded c m (64 * p + k * words_under (header_in m.words p) + i))
    → k < cells_under (header_in n.words p) → has_no_pointers (header_in n.words p) ≡ false
    → i < words_under (header_in n.words p) → IsGuarded c n (64 * p + k * words_under (header_in n.words p) + i)
cell_kept {c} {m} {n} p k i keeps some before cell scanned lt =
    let g = keeps.headers p in
    rw (g.words some) (guards keeps (before (rw (g.count some) at cell)
    (scanned_before g some scanned) (rw (g.words some) at lt)))

-- Cells that are black after were so before, or their words were guarded before.
pub black_kept : {c : Config} {m n : Moment} → Keeps c m n → NewCellsAreGuarded c m n
    → ((p k : ℕ) → has_bit (slice_index n.words.blacks p) k ≡ true → (has_bit (slice_index m.words.blacks p) k ≡ true)
    ⊎ ((i : ℕ) → k < cells_under (header_in m.words p) → has_no_pointers (header_in m.words p) ≡ false
    → i < words_under (header_in m.words p) → IsGuarded c m (64 * p + k * words_under (header_in m.words p) + i)))
    → BlackIsGuarded c m → BlackIsGuarded c n
black_kept {c} {m} {n} keeps new more h p k i cell is scanned lt = elim (cases_eq _ 0) [
  | inl none ↦ new p k i none cell lt
  | inr some ↦ elim (more p k is) [
    | inl old ↦ cell_kept p k i keeps some (λ a b d. h p k i a old b d) cell scanned lt
    | inr guarded ↦ cell_kept p k i keeps some (guarded i) cell scanned lt
  ]
]
