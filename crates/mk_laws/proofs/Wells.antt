-- Values that point well: each cell that one points into is marked.
use Rattle.mk_laws.proofs.Vocabulary.{Cell, Config, IsGuarded, Moment, None, OnlyGrow, Option, PointsWell, Some, Words}
use Rattle.mk_laws.proofs.Vocabulary.{ℕ, cell_at, header_at, is_marked, is_none_or, page_at_address, pointed_cell}
use Rattle.mk_laws.proofs.Vocabulary.{points_well, refl, slice_index, true, ◌≡◌}

abbrev pub IsWell : Config → Words → ℕ → Type 0
IsWell c w value = (x : Cell) → cell_at c.pages (header_at w (page_at_address value)) value ≡ Some x
    → is_marked w x ≡ true

pub well_is : (c : Config) (w : Words) (value : ℕ) → IsWell c w value → points_well c.pages w value ≡ true
unfolding pointed_cell
well_is c w value h = by (cell_at c.pages (header_at w (page_at_address value)) value) (λ x e. h x e)
  where
    by : (o : Option Cell) → ((x : Cell) → o ≡ Some x → is_marked w x ≡ true) → is_none_or (is_marked w) o ≡ true
    by None h = refl
    by (Some x) h = h x refl

pub is_well : (c : Config) (w : Words) (value : ℕ) → points_well c.pages w value ≡ true → IsWell c w value
unfolding pointed_cell
is_well c w value h x e = rw e at h

-- 0 points into nothing
pub zero_well : (c : Config) (w : Words) → IsWell c w 0
zero_well c w x is = cc

pub bare_word_well : (c : Config) (w : Words) (value : ℕ) → value ≡ 0 → IsWell c w value
bare_word_well c w value z = rw z (zero_well c w)

-- What points well goes on doing so if headers stay and no mark is cleared.
pub wells_from : (c : Config) (w v : Words) → ((p : ℕ) → header_at v p ≡ header_at w p) → OnlyGrow w.marks v.marks
    → (value : ℕ) → IsWell c w value → IsWell c v value
wells_from c w v same grow value h x is = grow x.page x.index (h x (rw (same _) at is))

-- Words that point well are guarded, and so are words that are 0.
pub well_guarded : (c : Config) (m : Moment) (n : ℕ) → IsWell c m.words (slice_index m.words.heap n) → IsGuarded c m n
well_guarded c m n h = PointsWell (well_is c m.words _ h)

pub bare_guarded : (c : Config) (m : Moment) (n : ℕ) → slice_index m.words.heap n ≡ 0 → IsGuarded c m n
bare_guarded c m n z = well_guarded c m n (bare_word_well c m.words _ z)
