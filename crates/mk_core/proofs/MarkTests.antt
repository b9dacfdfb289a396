-- Closed marks as a test that computes.
use Rattle.std.proofs.{Common.lt-ltb, Math.Bool.or-true}
use Rattle.mk_core.proofs.Vocabulary.{Bool, Config, IsWordOf, PlacedAllocation, Storage, Words, World, ℕ, and_from}
use Rattle.mk_core.proofs.Vocabulary.{and_parts, ap, le-leb, list_all, nat_le, nat_lt, never_granted, not, placed_at}
use Rattle.mk_core.proofs.Vocabulary.{pointed_cell, points_well, refl, storage_of, true, ◌&&◌, ◌+◌, ◌||◌, ◌∙◌, ◌≡◌}
use Rattle.mk_core.proofs.ListTests.{implied, list_all-at, numbered_all, numbered_all-at}
use Rattle.mk_core.specs.Cycles.{MarksAreClosed, is_marked_allocation, is_scanned_allocation}

abbrev pub is_word_of : Storage → ℕ → Bool
is_word_of s n = nat_le s.first n && nat_lt n (s.first + s.words)

pub is_word_of_by : (s : Storage) (n : ℕ) → IsWordOf s n → is_word_of s n ≡ true
is_word_of_by s n h = and_from _ _ (le-leb _ _ h.0) (lt-ltb _ _ h.1)

-- a word of this value at heap word n points well, or isn't the storage's
abbrev pub points_well_in : Config → Words → Storage → ℕ → ℕ → Bool
points_well_in c w s n value = not (is_word_of s n) || points_well c.pages w value

-- So does each word of the allocation, if it is marked and scanned.
abbrev pub allocation_points_well : Config → Words → PlacedAllocation → Bool
allocation_points_well c w a = not (is_scanned_allocation c a && is_marked_allocation c w a)
    || numbered_all (points_well_in c w (storage_of c a)) w.heap

abbrev pub marks_are_closed : Config → World → Bool
marks_are_closed c w = list_all (points_well c.pages w.now.words) w.now.words.registers && list_all (points_well c.pages
    w.now.words) w.now.words.globals && list_all (allocation_points_well c w.now.words) w.allocations

-- 0 points into nothing
pub null_points_well : (c : Config) (w : Words) → points_well c.pages w 0 ≡ true
unfolding pointed_cell
null_points_well c w = refl

pub marks_closed_by_test : (c : Config) (w : World) → marks_are_closed c w ≡ true → MarksAreClosed c w
marks_closed_by_test c w h =
    let well = points_well c.pages w.now.words in
    let outer = and_parts _ _ h in
    let roots = and_parts _ _ outer.0 in
    record {
      registers = λ i. list_all-at well w.now.words.registers 0 roots.0 (null_points_well c w.now.words) i;
      globals = λ g. list_all-at well w.now.words.globals 0 roots.1 (null_points_well c w.now.words) g;
      words = λ i n scanned marked inside.
          let a = placed_at w.allocations i in
          let each = list_all-at (allocation_points_well c w.now.words) w.allocations never_granted outer.1 refl i in
          let all = implied _ _ each (and_from _ _ scanned marked) in
          implied _ _ (numbered_all-at (points_well_in c w.now.words (storage_of c a)) w.now.words.heap 0 all
          (λ j. ap (λ b. not (is_word_of (storage_of c a) j) || b) (null_points_well c w.now.words) ∙ or-true _) n)
          (is_word_of_by (storage_of c a) n inside);
    }
