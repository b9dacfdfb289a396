-- What guards the words of black objects while a caller writes beside a marker: a marked target, a dirty page, and a
-- call that owes the dirty mark. And a moment that no history leaves, where nothing does.
use Rattle.mk_core.proofs.Vocabulary.{Moment, ℕ, all_below, arith, false, first_moment, inl, left, left_from, ltb-true}
use Rattle.mk_core.proofs.Vocabulary.{pointed_cell, points_well, refl, replicate, slice_index, suc, true}
use Rattle.mk_core.proofs.Vocabulary.{word_points_well, zero, zero_words_of, [], ◌*◌, ◌++◌, ◌+◌, ◌/◌, ◌∷◌, ◌≡◌}
use Rattle.mk_geom.specs.Addresses.{address_of}
use Rattle.mk_core.proofs.SmallCycles.{marked_beside, page_dirtied, small, three_objects, written_beside}
use Rattle.mk_core.proofs.ListTests.{list_all-at}
use Rattle.mk_core.specs.Cycles.{DirtyIsOwed, IsGuarded, MarkingIsGuarded, OwesDirty, PageIsDirty, PointsWell}

-- After the `write` heap word 0, of a black object, points to an unmarked one, and its page isn't dirty yet.

pub written_points_badly : word_points_well small.pages (left small written_beside).now.words 0 ≡ false
unfolding left_from all_below pointed_cell written_beside three_objects
written_points_badly = refl

pub page_is_clean : slice_index (left small written_beside).now.words.dirty 0 ≡ 0
unfolding left_from all_below pointed_cell written_beside three_objects
page_is_clean = refl

pub guarded_by_call : IsGuarded small (left small written_beside).now 0
unfolding left_from all_below pointed_cell written_beside three_objects
guarded_by_call = DirtyIsOwed 0 (refl, refl)

-- So each word of a black object is guarded there, all on that page.
pub writing_is_guarded : MarkingIsGuarded small (left small written_beside).now
unfolding left_from all_below pointed_cell written_beside three_objects
writing_is_guarded marks zero k i cell black scanned word =
    let page : 0 ≡ (64 * 0 + k * 2 + i) / 64 = omega arith in
    DirtyIsOwed 0 (refl, page)
writing_is_guarded marks (suc p) k i cell black scanned word = absurd (omega arith)

-- after the `dirty`

pub guarded_by_page : (word_points_well small.pages (left small (written_beside ++ page_dirtied)).now.words 0
    ≡ false) × (IsGuarded small (left small (written_beside ++ page_dirtied)).now 0)
unfolding left_from all_below pointed_cell written_beside three_objects
guarded_by_page = (refl, PageIsDirty refl)

-- before the `close`

pub guarded_by_mark : IsGuarded small (left small marked_beside).now 0
unfolding left_from all_below pointed_cell marked_beside written_beside three_objects
guarded_by_mark = PointsWell refl

-- there each word points well, whatever is black
every_word_points_well : (n : ℕ) → word_points_well small.pages (left small marked_beside).now.words n ≡ true
unfolding left_from all_below pointed_cell marked_beside written_beside three_objects
every_word_points_well n =
    list_all-at (points_well small.pages (left small marked_beside).now.words) (left small marked_beside).now.words.heap
    0 refl refl n

pub marking_is_guarded : MarkingIsGuarded small (left small marked_beside).now
marking_is_guarded wanted p k i cell black scanned word = PointsWell (every_word_points_well _)

-- a moment of marking, all at rest: the first object is black, and points to the unmarked second one
abbrev pub unguarded : Moment
unguarded = record (first_moment small) {
  words = record (zero_words_of 1) {
    phase = 1;
    pages = record { header = 1; used = 3 } ∷ [];
    marks = 1 ∷ [];
    blacks = 1 ∷ [];
    heap = address_of 2 ∷ replicate 63 0;
  };
}

none_owes : (k page : ℕ) → OwesDirty unguarded k page → ⊥
none_owes zero page owes = absurd cc
none_owes (suc k) page owes = absurd cc

pub word_is_unguarded : IsGuarded small unguarded 0 → ⊥
unfolding pointed_cell
word_is_unguarded x0 = grind (arith, none_owes)

pub marking_is_unguarded : MarkingIsGuarded small unguarded → ⊥
marking_is_unguarded guarded =
    word_is_unguarded (guarded (inl refl) 0 0 0 (ltb-true 0 32 refl) refl refl (ltb-true 0 2 refl))
