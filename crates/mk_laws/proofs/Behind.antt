-- One event: what stands on the pages after it.
use Rattle.mk_laws.proofs.Vocabulary.{Bool, Chosen, Config, HasLayout, LayoutStands, None, Placing, Seat, Some, Step}
use Rattle.mk_laws.proofs.Vocabulary.{World, arith, cases_Bool, eqb-true, false, ground_of, has_place, inl, inr}
use Rattle.mk_laws.proofs.{Vocabulary.{is_phase, object_now, refl, true, ◌-◌, ◌≡◌}, Basics.{Before, Known, Meets}}
use Rattle.mk_laws.proofs.Basics.{WorldBehind, actor_of, held_place, is_releasing_behind, not_astray, reg_leaves}
use Rattle.mk_laws.proofs.{Basics.tally_keeps, CyclePhases.{phase_asked, phase_moves}, Changes.colour_step}
use Rattle.mk_laws.proofs.{Freed.unreleasing, LayoutByKind.{by_kind, placeless}, NewPlace.new_was}
use Rattle.mk_laws.proofs.{OrderlyLists.orderly_behind, Sorts.moves}

-- whether the phase is releasing

pub phase_kind : (c : Config) (w : World) (seat : Seat) (x : Step) → Meets c w.now seat x
    → is_phase (WorldBehind c w seat x).now.words 4 ≡ is_releasing_behind x (is_phase w.now.words 4)
phase_kind c w seat x h = grind (arith, phase_moves, phase_asked)

pub releasing_marks : {c : Config} (w : World) (seat : Seat) (x : Step) → Known c w.now → Meets c w.now seat x
    → is_releasing_behind x (is_phase w.now.words 4) ≡ true
    → (WorldBehind c w seat x).now.words.marks ≡ w.now.words.marks
releasing_marks w seat Step.Release known h on = refl
releasing_marks w seat Step.End known h on = refl
releasing_marks w seat x known h on = grind (arith, eqb-true, colour_step)

-- If there is a place after, the turn is as before,
turn_kind : (c : Config) (w : World) (seat : Seat) (x : Step) → Meets c w.now seat x
    → has_place (WorldBehind c w seat x).now.seats.holding.placing ≡ true
    → (WorldBehind c w seat x).now.words.turn ≡ w.now.words.turn
turn_kind c w seat x3 h has = grind (arith, reg_leaves, tally_keeps)

-- and so is the object whose place it is.
held_none : (p : Placing) → has_place p ≡ true → held_place p ≡ None → ⊥
held_none (Chosen place) has none = let e : Some place ≡ None = none in cc
held_none _ has none = cc

pub object_kind : (c : Config) (w : World) (seat : Seat) (x : Step) → Known c w.now → Meets c w.now seat x
    → has_place (WorldBehind c w seat x).now.seats.holding.placing ≡ true
    → object_now c (WorldBehind c w seat x).now ≡ object_now c w.now
object_kind c w seat x known h has =
    let v : World = WorldBehind c w seat x in
    let new = (orderly_behind w.now seat x known.small known.orderly h).served.placed has in
    let move = moves (not_astray c w.now known.orderly) (actor_of c w.now seat x known.orderly h) h in
    elim (new_was (v.now.words.turn - 1) move new) [
      | inl same ↦ rw same (rw (turn_kind c w seat x h has))
      | inr none ↦ absurd (held_none v.now.seats.holding.placing has none)
    ]

-- An enabled event: laid out before it, laid out after it.
pub layout_behind : {c : Config} {w : World} (seat : Seat) (x : Step) → Before c w → Meets c w.now seat x
    → LayoutStands c w → LayoutStands c (WorldBehind c w seat x)
layout_behind {c} {w} seat x b h laid =
    let v : World = WorldBehind c w seat x in
    let phase = phase_kind c w seat x h in
    let marked : HasLayout c (object_now c w.now) (is_phase v.now.words 4) v.now.words.marks (ground_of v) =
    rw phase (marks (is_releasing_behind x (is_phase w.now.words 4)) refl (by_kind c w seat b laid x h)) in
    elim (cases_Bool (has_place v.now.seats.holding.placing)) [
      | inl has ↦ rw (object_kind c w seat x b.known h has) marked
      | inr none ↦ (placeless (object_now c v.now) v.now.seats.holding.placing refl none marked).0
    ]
  where
    marks : (r : Bool) → is_releasing_behind x (is_phase w.now.words 4) ≡ r
        → HasLayout c (object_now c w.now) r w.now.words.marks (ground_of (WorldBehind c w seat x)) → HasLayout c
        (object_now c w.now) r (WorldBehind c w seat x).now.words.marks (ground_of (WorldBehind c w seat x))
    marks true is st = rw (releasing_marks w seat x b.known h is) st
    marks false is st = unreleasing c _ _ (WorldBehind c w seat x).now.words.marks (ground_of (WorldBehind c w seat x))
        (WorldBehind c w seat x).now.words.freed (WorldBehind c w seat x).now.words.snapshot st
