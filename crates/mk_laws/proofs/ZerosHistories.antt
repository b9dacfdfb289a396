-- Only words that may hold values aren't 0, after every list of enabled events.
use Rattle.mk_laws.proofs.Vocabulary.{AreEnabledFrom, AreOfPages, Bool, Config, Event, HasZeros, Holding, IsEnabled}
use Rattle.mk_laws.proofs.Vocabulary.{IsReleasedWord, IsWithinLimits, IsWordOfMapped, List, MayHold, None, OfFreedRun}
use Rattle.mk_laws.proofs.Vocabulary.{OfMapped, OfReleased, OthersAreZero, PlacedAllocation, Seat, Step, World}
use Rattle.mk_laws.proofs.Vocabulary.{ZeroScene, ℕ, address_of, and_parts, arith, cases_Bool}
use Rattle.mk_laws.proofs.Vocabulary.{cell_of_allocation, cells_begin, enabled_meets, eqb-true, false, first_world}
use Rattle.mk_laws.proofs.Vocabulary.{flight_of, granted, has_bit_without, head_step, held_by_pages}
use Rattle.mk_laws.proofs.Vocabulary.{if◌then◌else◌, inl, inr, is_decided, is_heap_store}
use Rattle.mk_laws.proofs.Vocabulary.{is_left_unmarked, is_phase, is_released_there, is_run_gone, left, left_from, map}
use Rattle.mk_laws.proofs.Vocabulary.{may_end, nothing_done, object_placed, placed_at, quarantine_step, refl}
use Rattle.mk_laws.proofs.Vocabulary.{reg_access, register_met, subst, sym, true, true≢false, used_step, with_released}
use Rattle.mk_laws.proofs.Vocabulary.{word_points, world_behind, zero_scene_with, [], ◌*◌}
use Rattle.mk_laws.proofs.{Vocabulary.{◌++◌, ◌==◌, ◌∙◌, ◌∷◌, ◌≡◌}, Basics.{Known, Meets, WorldBehind, at_first}}
use Rattle.mk_laws.proofs.Basics.{changed_words, is_releasing_behind}
use Rattle.mk_laws.proofs.{Basics.{mapped_stays, none_released}, Behind.{phase_kind, releasing_marks}}
use Rattle.mk_laws.proofs.ChangedScenes.{Before, early_words, here, kept_heap, standing, stored_words, wiped_words}
use Rattle.mk_laws.proofs.MappedWords.{word_of_fresh, word_of_longer, word_of_unreleased}
use Rattle.mk_laws.proofs.{ZerosPageKinds.{gone_word, head_kind, quar_kind, used_kind}, Freed.settled_page}
use Rattle.mk_laws.proofs.{LayoutByKind.off_at, LayoutHistories.histories_are_laid_out, QuarantineByKind.shown_at}
use Rattle.mk_laws.proofs.QuarantineChanges.{index_small}
use Rattle.mk_core.proofs.{PointedPages.pointed_within, RegisterAccesses.{register_leaves, tally_leaves}}
use Rattle.mk_laws.proofs.ZeroLaws.{ZeroPremises}
use Rattle.mk_laws.proofs.LayoutLaws as layout

-- What each kind of event makes of the words that may hold values.

-- `take` and `give`
take_kind : {c : Config} {w : World} {seat : Seat} {x : Step} → Before c w seat x → HasZeros c w → (t : Bool)
    → (w.now.words.turn == 0) ≡ t
    → OthersAreZero c (record (here w) { run = (if t then nothing_done else w.now.seats.holding).freed })
take_kind b z false is = z
take_kind {c} {w} b z true is = subst (λ (y : Holding). OthersAreZero c (record (here w) { run = y.freed }))
    (b.known.orderly.free (eqb-true w.now.words.turn 0 is)) z

give_kind : (c : Config) (w : World) (seat : Seat) → Meets c w.now seat Step.Give → HasZeros c w
    → OthersAreZero c (record (here w) { run = None })
give_kind c w seat h z = changed_words c (here w) (record (here w) { run = None }) z (λ n ne. ne) (λ n m. OfMapped m)
    (λ n some r. OfReleased r) (λ n some f. absurd (some (gone_word w.now.words gone f)))
  where
    gone : is_run_gone w.now.words w.now.seats.holding.freed ≡ true
    gone =
        let gone : Bool = is_run_gone w.now.words w.now.seats.holding.freed in
        let counts : Bool = w.now.words.held == held_by_pages w.now.words in
        (and_parts (is_decided (flight_of w.now seat).stage) gone (and_parts _ counts (and_parts _ _ h.holder).0).0).1

-- `grant` and `begin`
abbrev with_allocations : World → List PlacedAllocation → ZeroScene
with_allocations w xs = record (here w) { allocations = xs }

other_allocations : (c : Config) (w : World) (xs : List PlacedAllocation) → HasZeros c w
    → ((n : ℕ) → IsWordOfMapped c w.allocations n → IsWordOfMapped c xs n) → OthersAreZero c (with_allocations w xs)
other_allocations c w xs z keeps = changed_words c (here w) _ z (λ n ne. ne) (λ n m. OfMapped (keeps n m))
    (λ n some r. OfReleased r) (λ n some f. OfFreedRun f)

-- `release`
abbrev released_scene : Config → World → ZeroScene
released_scene c w =
    record (zero_scene_with true w.now.words.marks w) { allocations = map (with_released c w.now.words) w.allocations }

release_kind : {c : Config} {w : World} {seat : Seat} → Before c w seat Step.Release → is_phase w.now.words 3 ≡ true
    → HasZeros c w → OthersAreZero c (released_scene c w)
release_kind {c} {w} {seat} b three z =
    early_words c w (released_scene c w) (off_at w 3 three (λ e. absurd (omega arith))) z (λ n ne. ne) mapped
    (λ n f. OfFreedRun f)
  where
    mapped : (n : ℕ) → IsWordOfMapped c w.allocations n → MayHold c (released_scene c w) n
    mapped n m =
        let a : PlacedAllocation = placed_at w.allocations m.number in
        let u = mapped_stays c a m.mapped in
        let st = standing c w seat Step.Release m.number b u in
        let shown = shown_at c w m.number b.others.laid_out u in
        let begins = cells_begin c w.now.words a b.limits st.stands st.headers in
        let first = begins.0 in
        let words = begins.1 in
        let from = m.word.0 in
        let to = m.word.1 in
        elim (cases_Bool (is_left_unmarked w.now.words (cell_of_allocation c a))) [
          | inl left ↦ OfReleased (record {
            cell = cell_of_allocation c a;
            small = index_small (object_placed c a) (cell_of_allocation c a).index shown.sized shown.known;
            released = left;
            used = shown.used;
            pointed = word_points c w.now.words a b.limits st.stands st.headers n m.word;
            from = omega arith;
            to = omega arith;
          })
          | inr kept ↦ OfMapped (word_of_unreleased w.now.words b.limits m st.stands st.headers kept)
        ]

-- `end`
end_kind : (c : Config) (w : World) → may_end c.pages w.now.words ≡ true → HasZeros c w
    → OthersAreZero c (zero_scene_with false w.now.words.marks w)
end_kind c w own z = changed_words c (here w) _ z (λ n ne. ne) (λ n m. OfMapped m)
    (λ n some r. absurd (left n r)) (λ n some f. OfFreedRun f)
  where
    left : (n : ℕ) → IsReleasedWord c w.now.words.pages (is_released_there (here w)) n → ⊥
    left n r =
        let lt = (pointed_within c.pages w.now.words (address_of n) r.cell r.pointed).0 in
        let none = (settled_page w.now.words c.pages r.cell.page own lt).none r.cell.index in
        true≢false (sym (and_parts (is_phase w.now.words 4) _ r.released).1 ∙ has_bit_without _ _ r.cell.index ∙ none)

-- each kind of event, whatever the seat
pub by_kind : (c : Config) (w : World) (seat : Seat) (x : Step) → Before c w seat x → Meets c w.now seat x
    → HasZeros c w → OthersAreZero c (zero_scene_with (is_releasing_behind x (is_phase w.now.words 4)) w.now.words.marks
    (WorldBehind c w seat x))
by_kind c w seat (Step.Take o) b h z = take_kind b z (w.now.words.turn == 0) refl
by_kind c w seat Step.Give b h z = give_kind c w seat h z
by_kind c w seat Step.Reg b h z = kept_heap c w (register_leaves _ _ (register_met (flight_of w.now seat) (flight_of
    w.now seat).stage) (reg_access (flight_of w.now seat) (flight_of w.now seat).stage)) z
by_kind c w seat (Step.Tally n v) b h z = kept_heap c w (tally_leaves w.now.words n v) z
by_kind c w seat Step.Write b h z = stored_words (here w) _ (b.others.stored refl) z
by_kind c w seat Step.Cas b h z = stored_words (here w) _ (b.others.stored refl) z
by_kind c w seat (Step.Wipe n) b h z = wiped_words c (here w) n z
by_kind c w seat (Step.Head p v) b h z = head_kind w z (head_step c w.now (flight_of w.now seat) p v h.holder)
by_kind c w seat (Step.Used p v) b h z =
    used_kind c w (flight_of w.now seat) p v z (used_step c w.now (flight_of w.now seat) p v h.holder)
by_kind c w seat (Step.Quar p v) b h z = quar_kind b h z (quarantine_step c w.now (flight_of w.now seat) p v h.holder)
by_kind c w seat Step.Grant b h z =
    other_allocations c w (w.allocations ++ granted c w.now (flight_of w.now seat) ∷ []) z
    (word_of_longer c w.allocations (granted c w.now (flight_of w.now seat)))
by_kind c w seat Step.Begin b h z = other_allocations c w _ z (word_of_fresh c w.allocations)
by_kind c w seat Step.Release b h z = release_kind b h.phase z
by_kind c w seat Step.End b h z = end_kind c w h.holder z
by_kind c w seat _ b h z = z

-- While no cell is released, marks say nothing.
with_marks : (c : Config) (v : World) (old new : List ℕ) → OthersAreZero c (zero_scene_with false old v)
    → OthersAreZero c (zero_scene_with false new v)
with_marks c v old new z = grind (arith, changed_words, none_released)

-- One event, from the world before it.
pub zeros_behind : {c : Config} {w : World} {e : Event} → IsWithinLimits c → AreOfPages c.pages w.now.words
    → Known c w.now → IsEnabled c w.now e → ZeroPremises c w e → HasZeros c w → HasZeros c (world_behind c w e)
zeros_behind {c} {w} {e} limits lengths known on others z =
    let h = enabled_meets c w.now e on in
    let v : World = world_behind c w e in
    let kind = by_kind c w e.seat e.step (record { limits = limits; lengths = lengths; known = known; others = others })
    h z in
    subst (λ r. OthersAreZero c (zero_scene_with r v.now.words.marks v)) (sym (phase_kind c w e.seat e.step h))
    (marked (is_releasing_behind e.step (is_phase w.now.words 4)) refl kind)
  where
    marked : (r : Bool) → is_releasing_behind e.step (is_phase w.now.words 4) ≡ r
        → OthersAreZero c (zero_scene_with r w.now.words.marks (world_behind c w e))
        → OthersAreZero c (zero_scene_with r (world_behind c w e).now.words.marks (world_behind c w e))
    marked true is z = subst (λ (ms : List ℕ). OthersAreZero c (zero_scene_with true ms (world_behind c w e)))
        (sym (releasing_marks w e.seat e.step known (enabled_meets c w.now e on) is)) z
    marked false is z = with_marks c (world_behind c w e) w.now.words.marks (world_behind c w e).now.words.marks z

pub zeros_at_first : (c : Config) → HasZeros c (first_world c)
zeros_at_first c n some = absurd (some (at_first (64 * c.pages) n 0))

-- The premises aren't empty.
pub others_at_first : {c : Config} (e : Event) → IsWithinLimits c → is_heap_store e.step ≡ false
    → ZeroPremises c (first_world c) e
unfolding left_from AreEnabledFrom layout.LayoutPremisesFrom
others_at_first e limits still = grind (arith, histories_are_laid_out, at_first)
