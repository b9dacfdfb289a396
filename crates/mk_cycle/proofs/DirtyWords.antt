-- A dirty word is 0 or 1, after every list of events.
use Rattle.std.proofs.{Common.replicate, lemmas.List.get_or-replicate, lemmas.List.length-replicate}
use Rattle.mk_words.proofs.Below.Laws.Vocabulary.{Access, Config, Event, List, Load, Moment, Named, Seat, Step, Store}
use Rattle.mk_words.proofs.Below.Laws.Vocabulary.{Tally, Word, Words, World, ℕ, accessed, ap, arith, cases_eq, cases_lt}
use Rattle.mk_words.proofs.Below.Laws.Vocabulary.{first_world, flight_of, get_or-set_other, get_or-set_same}
use Rattle.mk_words.proofs.Below.Laws.Vocabulary.{get_or_past, inl, inr, left, length, page_met, refl, set_past}
use Rattle.mk_words.proofs.Below.Laws.Vocabulary.{slice_index, slice_set, subst, sym, tally_word, world_behind, [], ◌∙◌}
use Rattle.mk_words.proofs.Below.Laws.Vocabulary.{◌∷◌, ◌≡◌, ◌≢◌, ◌≤◌}
use Rattle.mk_core.specs.{Effects.moment_behind, History.left_from}

reg_leaves : (w : Words) (k r : ℕ) (a : Access) → (accessed w (Named (Word.Reg k r)) a).dirty ≡ w.dirty
reg_leaves w k r Load = refl
reg_leaves w k r _ = refl

tally_leaves : (w : Words) (n : Tally) (v : ℕ) → (accessed w (Named (tally_word n)) (Store v)).dirty ≡ w.dirty
tally_leaves w Tally.Held v = refl
tally_leaves w _ v = refl

-- the words are the same, or one of them is 0 or 1 now
pub data IsMarked01 (xs ys : List ℕ) : Type 0 where
  Same : ys ≡ xs → IsMarked01 xs ys
  OneIs : (p v : ℕ) → v ≤ 1 → ys ≡ slice_set xs p v → IsMarked01 xs ys

dirty_behind : (c : Config) (m : Moment) (seat : Seat) (s : Step)
    → IsMarked01 m.words.dirty (moment_behind c m (record { seat = seat; step = s })).words.dirty
dirty_behind c m seat Step.Dirty = OneIs (page_met (flight_of m seat)) 1 (omega arith) refl
dirty_behind c m seat (Step.Undirty p) = OneIs p 0 (omega arith) refl
dirty_behind c m seat Step.Reg = grind (arith, reg_leaves)
dirty_behind c m seat (Step.Tally n v) = Same (tally_leaves m.words n v)
dirty_behind c m seat _ = Same refl

abbrev AreSmall : List ℕ → Type 0
AreSmall xs = (p : ℕ) → slice_index xs p ≤ 1

small_set : (xs : List ℕ) (q v : ℕ) → v ≤ 1 → AreSmall xs → AreSmall (slice_set xs q v)
small_set xs q v le small p = elim (cases_eq p q) [
  | inr ne ↦ subst (λ n. n ≤ 1) (sym (get_or-set_other xs q p v 0 ne)) (small p)
  | inl e ↦ elim (cases_lt q (length xs)) [
    | inl lt ↦ subst (λ n. n ≤ 1) (sym (ap (λ i. slice_index (slice_set xs q v) i) e ∙ get_or-set_same xs q v 0 lt)) le
    | inr past ↦ subst (λ (ys : List ℕ). slice_index ys p ≤ 1) (sym (set_past xs q v past)) (small p)
  ]
]

small_on : {xs ys : List ℕ} → IsMarked01 xs ys → AreSmall xs → AreSmall ys
small_on (Same e) small = subst AreSmall (sym e) small
small_on {xs} (OneIs p v le e) small = subst AreSmall (sym e) (small_set xs p v le small)

small_from : (c : Config) (w : World) (es : List Event) → AreSmall w.now.words.dirty
    → AreSmall (left_from c w es).now.words.dirty
unfolding left_from
small_from c w [] small = small
small_from c w (e ∷ es) small =
    small_from c (world_behind c w e) es (small_on (dirty_behind c w.now e.seat e.step) small)

zeros_small : (n : ℕ) → AreSmall (replicate n 0)
zeros_small n p = elim (cases_lt p n) [
  | inl lt ↦ let zero : slice_index (replicate n 0) p ≡ 0 = get_or-replicate n p 0 0 lt in omega arith
  | inr past ↦
      let long : length (replicate {A = ℕ} n 0) ≡ n = length-replicate n 0 in
      let zero : slice_index (replicate n 0) p ≡ 0 = get_or_past (replicate n 0) p 0 (omega arith) in omega arith
]

-- So one that isn't 0 is 1.
pub dirty_is_one : (c : Config) (es : List Event) (p : ℕ) → slice_index (left c es).now.words.dirty p ≢ 0
    → slice_index (left c es).now.words.dirty p ≡ 1
dirty_is_one c es p some = let small = small_from c (first_world c) es (zeros_small c.pages) p in omega arith
