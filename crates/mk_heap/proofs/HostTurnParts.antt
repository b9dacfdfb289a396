-- What the turn of the host closes, and its steps up to where no cycle is on.
use Rattle.mk_alloc.proofs.Below.Laws.Vocabulary.{AreEnabledFrom, Config, Event, IsHistory, List, None, Step, Word}
use Rattle.mk_alloc.proofs.Below.Laws.Vocabulary.{World, ℕ, ap, arith, enabled_in_parts, false, inl, inr, is_begin}
use Rattle.mk_alloc.proofs.Below.Laws.Vocabulary.{is_close, left, or_from, or_parts, phase_of, refl, subst, sym, true}
use Rattle.mk_alloc.proofs.Below.Laws.Vocabulary.{world_behind, [], ◌++◌, ◌∙◌, ◌∷◌, ◌≡◌, ◌≤◌}
use Rattle.mk_alloc.proofs.{Below.Laws.CyclePhases.{close_is, moves_phase, phase_behind}, ListParts.{Lacks, SomeKind}}
use Rattle.mk_alloc.proofs.{CycleParts.finish_does, Parts.{has_then, in_turn_then, made_as}}
use Rattle.mk_alloc.proofs.{CalmStretches.{is_of_cycles, cycles_in_turn}, JoinedLooks.does_wider}
use Rattle.mk_alloc.proofs.Below.Words.{Doing.does_then, TurnSteps.takes}
use Rattle.mk_alloc.specs.Below.Words.States.{Has, PassState, IsTurn}
use Rattle.mk_alloc.specs.{TurnCycles.{has_step, finishes}, Below.Words.{TurnSteps.turn_stays, Steps.Does}}
use Rattle.mk_alloc.specs.Below.Words.TurnSteps.{TakesTurn}
use Rattle.mk_heap.specs.Ending.{EndsCycle}

-- Outside of phases 1 and 2 no cycle is closed before another is begun.

abbrev pub IsBeside : ℕ → Type 0
IsBeside n = 1 ≤ n → n ≤ 2 → ⊥

closes_none : (c : Config) (w : World) (es : List Event) → AreEnabledFrom c w es → IsBeside (phase_of w.now.words)
    → Lacks is_begin es → Lacks is_close es
closes_none c w [] on out none = refl
closes_none c w (e ∷ es) on out none =
    let parts = or_parts (is_begin e.step) (has_step is_begin es) none in
    let moves = moves_phase c w e es on in
    let one : IsBeside (phase_behind e.step (phase_of w.now.words)) × (is_close e.step ≡ false) = grind arith in
    or_from _ _ one.1 (closes_none c (world_behind c w e) es moves.2 (subst IsBeside (sym moves.1) one.0) parts.1)

-- Directly after a `close` it is so.
pub closes_no_more : (c : Config) (es : List Event) (close : Event) (more : List Event)
    → IsHistory c (es ++ close ∷ more) → is_close close.step ≡ true → Lacks is_begin more → Lacks is_close more
closes_no_more c es close more history closes none =
    let on = ((enabled_in_parts c es (close ∷ more)).0 history.enabled).1 in
    let moves = moves_phase c (left c es) close more on in
    let three : phase_of (world_behind c (left c es) close).now.words ≡ 3 =
    moves.1 ∙ ap (λ (x : Step). phase_behind x (phase_of (left c es).now.words)) (close_is close.step closes) in
    closes_none c (world_behind c (left c es) close) more moves.2 (λ least most. omega arith) none

-- What finishes no cycle closes none.
pub unfinished_unclosed : (es : List Event) → Lacks finishes es → Lacks is_close es
unfinished_unclosed [] h = refl
unfinished_unclosed (e ∷ es) h =
    let parts = or_parts (finishes e.step) (has_step finishes es) h in
    or_from (is_close e.step) (has_step is_close es) (grind arith) (unfinished_unclosed es parts.1)

-- what is after the first event
pub behind_first : (kind : SomeKind) (e : Event) (es : List Event) → Lacks kind (e ∷ es) → Lacks kind es
behind_first kind e es h = (or_parts (kind e.step) (has_step kind es) h).1

-- The host's turn, up to where no cycle is on.

pub turn_taken : {p taken : PassState} → TakesTurn p None taken → IsTurn taken
turn_taken {taken = taken} t =
    takes t.waited None 0 taken (record { makes = t.takes.makes; tells = t.takes.finds }) refl

pub stays : (x : Step) → turn_stays x ≡ true → turn_stays x ≡ true
stays x h = h

pub finish_stays : {p q : PassState} → Does is_of_cycles p q → Does turn_stays p q
finish_stays {p} {q} d = does_wider is_of_cycles turn_stays cycles_in_turn p q d

pub ends_does : {taken idle : PassState} → Has taken.seats taken.seat → EndsCycle taken idle
    → Does turn_stays taken idle
ends_does {taken} {idle} own ends =
    let look : Does turn_stays taken ends.looked =
    made_as turn_stays taken ends.looked (Step.Look Word.Phase) own ends.looks refl in
    elim ends.phase [
      | inl none ↦ subst (λ (r : PassState). Does turn_stays taken r) (sym (ends.none none)) look
      | inr on ↦ does_then turn_stays taken ends.looked idle look
          (finish_stays (finish_does ends.looked idle (has_then turn_stays taken ends.looked look own) (ends.on on)))
    ]

module _ {p taken idle : PassState} (takes : TakesTurn p None taken) (ends : EndsCycle taken idle) where
  pub to_idle : Does turn_stays taken idle
  to_idle = ends_does (turn_taken takes).own ends

  pub idle_own : Has idle.seats idle.seat
  idle_own = has_then turn_stays taken idle to_idle (turn_taken takes).own

  pub idle_turn : IsHistory idle.table.config idle.seen → IsTurn idle
  idle_turn history = in_turn_then turn_stays taken idle stays (turn_taken takes) to_idle history
