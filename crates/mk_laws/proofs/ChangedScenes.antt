-- What a change of the scene leaves to show, and steps that store to the heap.
use Rattle.mk_laws.proofs.Vocabulary.{AreOfPages, Config, HasZeros, IsFreedWord, IsReleasedWord, IsWithinLimits}
use Rattle.mk_laws.proofs.Vocabulary.{IsWordOfMapped, MayHold, OfFreedRun, OfMapped, OfReleased, OthersAreZero, Seat}
use Rattle.mk_laws.proofs.Vocabulary.{Step, Words, World, ZeroScene, ℕ, and_parts, arith, false, has_bit, is_phase}
use Rattle.mk_laws.proofs.Vocabulary.{is_released_there, placed_at, refl, set_by, slice_index, slice_set, subst, sym}
use Rattle.mk_laws.proofs.{Vocabulary.{true≢false, without, zero_scene_with, ◌∙◌, ◌≡◌, ◌≢◌}, Known.Known}
use Rattle.mk_laws.proofs.{Released.{IsStanding, all_stand}, ZeroLaws.ZeroPremises}
use Rattle.mk_core.proofs.RegisterAccesses.{LeavesTable}

-- all that is known of the world before
pub record Before (c : Config) (w : World) (seat : Seat) (x : Step) : Type 0 where
  pub limits : IsWithinLimits c
  pub lengths : AreOfPages c.pages w.now.words
  pub known : Known c w.now
  pub others : ZeroPremises c w (record { seat = seat; step = x })

-- the scene before
abbrev pub here : World → ZeroScene
here w = zero_scene_with (is_phase w.now.words 4) w.now.words.marks w

pub standing : (c : Config) (w : World) (seat : Seat) (x : Step) (i : ℕ) → Before c w seat x
    → (placed_at w.allocations i).released ≡ false → IsStanding c w.now.words (placed_at w.allocations i)
standing c w seat x i b u = all_stand c _ _ w b.lengths.pages b.others.laid_out i u

-- While the phase isn't releasing no cell is released.
pub none_released : (c : Config) (s : ZeroScene) (n : ℕ) → s.releasing ≡ false
    → IsReleasedWord c s.pages (is_released_there s) n → ⊥
none_released c s n off r = true≢false (sym (and_parts s.releasing (has_bit
    (without (slice_index s.snapshot r.cell.page) (slice_index s.marks r.cell.page)) r.cell.index) r.released).0 ∙ off)

-- From one scene to another, each of the three by itself
pub changed_words : (c : Config) (s t : ZeroScene) → OthersAreZero c s → ((n : ℕ) → slice_index t.heap n ≢ 0
    → slice_index s.heap n ≢ 0) → ((n : ℕ) → IsWordOfMapped c s.allocations n → MayHold c t n)
    → ((n : ℕ) → slice_index s.heap n ≢ 0 → IsReleasedWord c s.pages (is_released_there s) n → MayHold c t n)
    → ((n : ℕ) → slice_index s.heap n ≢ 0 → IsFreedWord s.run n → MayHold c t n) → OthersAreZero c t
changed_words c s t z heap mapped released freed n some = by (heap n some) (z n (heap n some))
  where
    by : slice_index s.heap n ≢ 0 → MayHold c s n → MayHold c t n
    by was (OfMapped m) = mapped n m
    by was (OfReleased r) = released n was r
    by was (OfFreedRun f) = freed n was f

-- A step while the phase isn't releasing
pub early_words : (c : Config) (w : World) (t : ZeroScene) → is_phase w.now.words 4 ≡ false → HasZeros c w
    → ((n : ℕ) → slice_index t.heap n ≢ 0 → slice_index w.now.words.heap n ≢ 0)
    → ((n : ℕ) → IsWordOfMapped c w.allocations n → MayHold c t n)
    → ((n : ℕ) → IsFreedWord w.now.seats.holding.freed n → MayHold c t n) → OthersAreZero c t
early_words c w t off z heap mapped freed =
    changed_words c (here w) t z heap mapped (λ n some r. absurd (none_released c (here w) n off r))
    (λ n some f. freed n f)

-- `write` and `cas`
pub stored_words : {c : Config} (s : ZeroScene) {j : ℕ} (v : ℕ) → IsWordOfMapped c s.allocations j → OthersAreZero c s
    → OthersAreZero c (record s { heap = slice_set s.heap j v })
stored_words {c} s {j = j} v m z n some =
    set_by (λ x. x ≢ 0 → MayHold c (record s { heap = slice_set s.heap j v }) n) s.heap j n v 0
    (λ e ne. OfMapped (subst (IsWordOfMapped c s.allocations) (sym e) m)) (λ ne. moved (z n ne)) some
  where
    moved : MayHold c s n → MayHold c (record s { heap = slice_set s.heap j v }) n
    moved x0 = grind arith

-- `wipe`
pub wiped_words : (c : Config) (s : ZeroScene) (j : ℕ) → OthersAreZero c s
    → OthersAreZero c (record s { heap = slice_set s.heap j 0 })
wiped_words c s j z = changed_words c s (record s { heap = slice_set s.heap j 0 }) z
    (λ n. set_by (λ x. x ≢ 0 → slice_index s.heap n ≢ 0) s.heap j n 0 0 (λ e ne. absurd (ne refl)) (λ ne. ne))
    (λ n m. OfMapped m) (λ n some r. OfReleased r) (λ n some f. OfFreedRun f)

-- Registers and counts
pub kept_heap : (c : Config) (w : World) {x : Words} → LeavesTable w.now.words x → HasZeros c w
    → OthersAreZero c (record (here w) { heap = x.heap; pages = x.pages; snapshot = x.snapshot })
kept_heap c w k z = rw (k.heap, k.pages, k.snapshot) z
