-- What is asked of a New, and where it goes, by what its turn says.
use Rattle.mk_caller.proofs.Below.Laws.Vocabulary.{List, Op, Option, Page, Place, Some, Steady, Step, ℕ, and_parts}
use Rattle.mk_caller.proofs.Below.Laws.Vocabulary.{false, header_made, header_of, is_small_object, pages_made, subst}
use Rattle.mk_caller.proofs.Below.Laws.Vocabulary.{use_under, ◌≤◌, and_right, ap, arith, eqb-true, free_page, header_at}
use Rattle.mk_caller.proofs.Below.Laws.Vocabulary.{length, not, object_made, phase_of, place_on_pages, refl}
use Rattle.mk_caller.proofs.Below.Laws.Vocabulary.{slice_index_or, true, uses_of_pages, ◌<◌, ◌==◌, ◌∙◌, ◌≡◌}
use Rattle.mk_caller.proofs.Below.Laws.InvariantHistories.{first_fit_finds_the_place}
use Rattle.mk_caller.proofs.Below.Laws.LayoutHolders.{seat_operands}
use Rattle.mk_caller.proofs.Below.Words.Sweeping.{does_sweep, other_step_sweeps, step_sweeps, step_then_sweeps}
use Rattle.mk_caller.proofs.Below.Words.{Sweeping.sweeps_then, StoredHeads.heads_leave}
use Rattle.mk_alloc.proofs.ObjectVocabulary.{Acts, GoesTo, HasCarved, IsTurn, IsUnplaced, MayTake, OnlyLooks, PassState}
use Rattle.mk_alloc.proofs.ObjectVocabulary.{WordsState, bits_made, call_of, is_look, known_left, now_of, object_for}
use Rattle.mk_alloc.proofs.JoinedLooks.{goes_to, looks_call, looks_left, looks_table, looks_unplaced}
use Rattle.mk_alloc.proofs.{Serving.{place_same, serving_left, serving_marks}, Looks.{acting_caller, acting_now}}
use Rattle.mk_alloc.proofs.{MayAct.new_is_acting, Reaching.kept_by, RunHeaders.{made_use, made_word}}
use Rattle.mk_alloc.proofs.{Serves.{KnowsPlace, head_may, heads_on, knows_place}, Takes.unplaced_settled}
use Rattle.mk_caller.specs.Below.Words.TurnSteps.{MayStoreHeads, StoresHeads}
use Rattle.mk_caller.specs.Below.Words.Sweeping.{SweepsNothing, is_mark}
use Rattle.mk_core.specs.Below.Books.KnownPages.{HeadersSay, run_word}
use Rattle.mk_alloc.specs.{declared.objects.Shape.Shape, Placing.{IsPlaced, IsServed, place_now_for, object_shaped}}
use Rattle.mk_geom.specs.PageUses.{PartOfRun, place_on_uses}
use Rattle.mk_core.specs.Calls.{has_type}

-- Serving a New sweeps nothing: it marks no cells but those of its place.

pub look_is_no_mark : (x : Step) → is_look x ≡ true → is_mark x ≡ false
look_is_no_mark x h = grind arith

looks_sweep : {p q : PassState} → OnlyLooks p q → SweepsNothing p q
looks_sweep {p} {q} looks = does_sweep is_look p q look_is_no_mark looks.does

pub looks_then_sweep : {p q r : PassState} → OnlyLooks p q → SweepsNothing q r → SweepsNothing p r
looks_then_sweep {p} {q} {r} looks rest = sweeps_then p q r looks.same (looks_sweep looks) rest

-- the mark of the place's first page
pub first_mark_sweeps : {p : PassState} {place : Place} (k : KnowsPlace p place) → header_at (now_of p).words place.page
    ≡ 0 → {bits : ℕ} → bits ≡ bits_made (object_for p) → (phase_of (now_of p).words == 1) ≡ true
    → {q : PassState} → Acts p (Step.Mark place.page bits) q → SweepsNothing p q
first_mark_sweeps {p} {place} k free {bits} are marking {q} a =
    let kept = kept_by a in
    let one = eqb-true (phase_of (now_of p).words) 1 marking in
    let marks = serving_marks (serving_left k.serving kept) (ap (λ (x : Steady). x.phase) kept.steady ∙ one)
    (ap (λ (x : Steady). (slice_index_or x.pages place.page free_page).header) kept.steady ∙ free) in
    step_sweeps p q (Step.Mark place.page bits) a.makes (and_right _ _ (ap not (rw (← are) at marks)))

-- a header more
pub head_sweeps : {p q r : PassState} {place : Place} {n page value : ℕ} → HasCarved p place n q → SweepsNothing p q
    → Acts q (Step.Head page value) r → SweepsNothing p r
head_sweeps {p} {q} {r} {page} {value} reached before a =
    sweeps_then p q r reached.same before (other_step_sweeps q r (Step.Head page value) a.makes refl)

-- all header words of a run: of its first page, of its second, and each 16 more
module _ {p : PassState} {place : Place} (k : KnowsPlace p place) (free : header_at (now_of p).words place.page ≡ 0)
    (large : is_small_object (object_for p) ≡ false) {head next : ℕ} (first : head ≡ header_made (object_for p) 0)
    (second : next ≡ header_made (object_for p) 1) {q : PassState} (none : HasCarved p place 0 q)
    (sweeps : SweepsNothing p q) where
  abbrev count : ℕ
  count = pages_made (object_for p)

  word_is : (d : ℕ) → run_word head next d ≡ header_made (object_for p) d
  word_is d =
      ap (λ h. run_word h next d) first ∙ ap (λ n. run_word (header_made (object_for p) 0) n d) second
      ∙ made_word (object_for p) d large

  pub carves_to : (n : ℕ) (r : PassState) → n ≤ count → StoresHeads q place.page n (run_word head next) r
      → HasCarved p place n r × SweepsNothing p r
  carves_to =
      heads_leave place.page count (run_word head next) (λ n r. HasCarved p place n r × SweepsNothing p r)
      (none, sweeps) (λ n r s near stores at acts. (
        subst (λ i. HasCarved p place i s) (omega arith)
            (heads_on k free refl (word_is n) near at.0 acts),
        head_sweeps at.0 at.1 acts,
      ))

  pub may_carve_all : MayStoreHeads q place.page count (run_word head next)
  may_carve_all n r near stores =
      head_may k free refl (word_is n) near (carves_to n r (omega (arith, near)) stores).0

  pub say_mapped : HeadersSay (PartOfRun true) count (run_word head next)
  say_mapped d used near =
      ap (λ (n : ℕ). use_under (header_of n) used) (word_is d) ∙ made_use (object_for p) d used k.sized large near

-- the cell taken, the object granted, and the tally of held words set
pub serving_sweeps : {p q r s t : PassState} {place : Place} {x y z : Step} → MayTake p place q → SweepsNothing p q
    → Acts q x r → Acts r y s → Acts s z t
    → is_mark x ≡ false → is_mark y ≡ false → is_mark z ≡ false → SweepsNothing p t
serving_sweeps {p} {q} {r} {s} {t} {x} {y} {z} ready before a b d first second third =
    sweeps_then p q t ready.same before (step_then_sweeps q r t x a.makes first
    (step_then_sweeps r s t y b.makes second (other_step_sweeps s t z d.makes third)))

-- The type that is asked for exists,
pub type_asked : {p : PassState} {w : WordsState} {o : Op} → p.table ≡ w → IsTurn p → (call_of p).op ≡ o
    → has_type w.config o ≡ true
type_asked table turn is = grind (arith, seat_operands, known_left, and_parts)

-- and its shape is that of the object.
pub shape_asked : (p : PassState) {w : WordsState} {o : Op} (shape : Shape) → p.table ≡ w → (call_of p).op ≡ o
    → object_shaped shape ≡ object_made w.config o → object_shaped shape ≡ object_for p
shape_asked p shape table is made = grind arith

-- The first fit on pages that are filled is that on the words.
pub fit_found : (p : PassState) {w : WordsState} {pages : List Page} {resident : ℕ} (shape : Shape) {x : Option Place}
    → p.table ≡ w → resident ≡ w.config.resident → pages ≡ (now_of p).words.pages → object_shaped shape ≡ object_for p
    → x ≡ place_on_uses resident shape.words shape.leaf (uses_of_pages pages)
    → place_on_pages p.table.config.resident (now_of p).words.pages (object_for p) ≡ x
fit_found p shape table limit filled is found = grind arith

-- It is where the New goes, after looks too,
pub goes_on : {p q : PassState} {place : Place} → OnlyLooks p q → GoesTo p place → GoesTo q place
goes_on a goes = grind (arith, looks_unplaced, looks_table, looks_call, looks_left, place_same)

-- and the place among the allocations.
pub place_found : {p : PassState} {found : Option Place} → IsTurn p → IsUnplaced p
    → place_on_pages p.table.config.resident (now_of p).words.pages (object_for p) ≡ found → place_now_for p ≡ found
place_found turn u fit =
    grind (arith, new_is_acting, first_fit_finds_the_place, unplaced_settled, acting_now, acting_caller)

-- The object is placed where it was served.
pub placed_there : {p q : PassState} {place : Place} → IsTurn p → IsUnplaced p
    → place_on_pages p.table.config.resident (now_of p).words.pages (object_for p) ≡ Some place → IsServed p place q
    → IsPlaced p q
placed_there turn u fit serves = grind (arith, place_found)

pub fit_within : {p : PassState} (place : Place) → IsTurn p → IsUnplaced p
    → place_on_pages p.table.config.resident (now_of p).words.pages (object_for p) ≡ Some place
    → place.page < length (now_of p).words.pages
fit_within place turn u fit =
    let k = knows_place turn (goes_to place u fit) in
    omega arith
