-- Each of the schedules is a history.
use Rattle.std.proofs.{lemmas.List.Elements.{All-cons, All-nil, All-replicate}, Common.{All, le_refl}}
use Rattle.mk_core.proofs.Vocabulary.{AreEnabledFrom, Bool, Config, Event, IsHistory, IsWithinLimits, List, NeverState}
use Rattle.mk_core.proofs.Vocabulary.{None, Op, Option, Some, To, World, ℕ, all_below, arith, calls_from, drop}
use Rattle.mk_core.proofs.Vocabulary.{eqb-true, failing, false, first_world, if◌then◌else◌, left_from, length}
use Rattle.mk_core.proofs.Vocabulary.{length-replicate, may_turn_black, pointed_cell, refl, replicate, true}
use Rattle.mk_core.proofs.Vocabulary.{world_behind, [], ◌++◌, ◌+◌, ◌<◌, ◌==◌, ◌∷◌, ◌≡◌, ◌≤◌}
use Rattle.mk_core.proofs.MoreSchedules.{a_quarter_and_all, before_the_sweep, exchanged, full_then_reused}
use Rattle.mk_core.proofs.MoreSchedules.{granted_while_marking, no_fault_full, no_fault_marking, no_fault_quarter}
use Rattle.mk_core.proofs.MoreSchedules.{no_fault_swept, sweeping_mark, two_pages}
use Rattle.mk_core.proofs.Schedules.{blackened_before_the_move, by, c0, fault, first_fault, freed_after_begin, heap_of}
use Rattle.mk_core.proofs.Schedules.{host, m0, no_fault_blackened, no_fault_freed, one_page, pointer_page}
use Rattle.mk_core.proofs.{EventsAt.◌and◌, HistoryParts.earlier_part_is_history}
use Rattle.mk_never.specs.Admitted.{AccessIsAdmitted, IsAdmitted, IsCaller, OperandsAreInRange, StoreIsAdmitted}
use Rattle.mk_never.specs.declared.types.Kind.{Kind, TheVariants.Num}
use Rattle.mk_core.specs.{Moments.{IsAmong, IsBetween, IsTypeAmong}, History.{AreEnabled, CallsAreAdmitted}}

-- If no fault is found, each event is enabled.

none_of_both : (b : Bool) (at : ℕ × ℕ) (rest : Option (ℕ × ℕ)) → (if b then rest else Some at) ≡ None
    → (b ≡ true) × (rest ≡ None)
none_of_both true at rest h = (refl, h)
none_of_both false at rest h = let no : ⊥ = cc in absurd no

enabled_from : (c : Config) (n : ℕ) (w : World) (es : List Event) → fault c n w es ≡ None → AreEnabledFrom c w es
unfolding fault AreEnabledFrom
enabled_from c n w [] h = tt
enabled_from c n w (e ∷ es) h =
    let both = none_of_both (failing c w.now e == 0) (n, failing c w.now e) (fault c (n + 1) (world_behind c w e) es) h
    in (eqb-true (failing c w.now e) 0 both.0, enabled_from c (n + 1) (world_behind c w e) es both.1)

pub enabled : (c : Config) (es : List Event) → first_fault c es ≡ None → AreEnabled c es
unfolding first_fault
enabled c es h = enabled_from c 0 (first_world c) es h

-- Heaps of a few pages, all of them resident, are within limits if their types are.

pub small_limits : (pages callers : ℕ) (types : List (List Kind)) → IsBetween 1 3 pages → IsBetween 1 2 callers
    → length types ≤ 2 → All (IsTypeAmong types) types → IsWithinLimits (heap_of pages callers types)
small_limits pages callers types few_pages few_callers few_types among = record {
  pages = (few_pages.0, omega (arith, few_pages.1));
  resident = (few_pages.0, le_refl pages);
  callers = (few_callers.0, omega (arith, few_callers.1));
  markers = omega arith;
  type_count = omega (arith, few_types);
  global_count = omega arith;
  types = among;
  globals = All-nil (λ (ty : ℕ). ty < length types);
}

pub numbers : (types : List (List Kind)) (words : ℕ) → IsBetween 1 4096 words → IsTypeAmong types (replicate words Num)
numbers types words within = (rw (length-replicate words Num) within, All-replicate (IsAmong types) words Num tt)

pub one_type : (types : List (List Kind)) (kinds : List Kind) → IsTypeAmong types kinds
    → All (IsTypeAmong types) (kinds ∷ [])
one_type types kinds h = All-cons (IsTypeAmong types) kinds [] h (All-nil (IsTypeAmong types))

one_page_limits : IsWithinLimits one_page
unfolding one_page
one_page_limits = small_limits 1 1 one_page.types (omega arith, omega arith) (omega arith, omega arith) (omega arith)
    (one_type one_page.types (replicate 32 Num) (numbers one_page.types 32 (omega arith, omega arith)))

two_pages_limits : IsWithinLimits two_pages
unfolding two_pages
two_pages_limits = small_limits 2 1 two_pages.types (omega arith, omega arith) (omega arith, omega arith) (omega arith)
    (All-cons (IsTypeAmong two_pages.types) (replicate 2 Num) (replicate 6 Num ∷ [])
    (numbers two_pages.types 2 (omega arith, omega arith))
    (one_type two_pages.types (replicate 6 Num) (numbers two_pages.types 6 (omega arith, omega arith))))

pointer_and_number : All (IsAmong pointer_page.types) (To 0 0 ∷ Num ∷ [])
unfolding pointer_page
pointer_and_number = All-cons (IsAmong pointer_page.types) (To 0 0) (Num ∷ []) (omega arith, omega arith)
    (All-cons (IsAmong pointer_page.types) Num [] tt (All-nil (IsAmong pointer_page.types)))

pointer_page_limits : IsWithinLimits pointer_page
unfolding pointer_page
pointer_page_limits =
    small_limits 1 1 pointer_page.types (omega arith, omega arith) (omega arith, omega arith) (omega arith)
    (one_type pointer_page.types (To 0 0 ∷ Num ∷ []) ((omega arith, omega arith), pointer_and_number))

pub admitted : {globals : List ℕ} {n : NeverState} {caller : ℕ} {op : Op} → IsCaller n caller → OperandsAreInRange n op
    → AccessIsAdmitted n caller op → StoreIsAdmitted globals n caller op → IsAdmitted globals n caller op
admitted caller range access store = record { of_a_caller = caller; in_range = range; access = access; store = store }

pub history : {c : Config} (es : List Event) → IsWithinLimits c → first_fault c es ≡ None → CallsAreAdmitted c es
    → IsHistory c es
history {c} es limits no_fault calls =
    record { within_limits = limits; enabled = enabled c es no_fault; admitted = calls }

pub freed_is_history : IsHistory one_page freed_after_begin
unfolding by c0 host all_below pointed_cell one_page freed_after_begin left_from calls_from
freed_is_history = history freed_after_begin one_page_limits no_fault_freed (admitted (omega arith) (omega arith) tt tt
    and admitted (omega arith) (omega arith) tt tt and admitted (omega arith) (omega arith) tt refl and admitted
    (omega arith) (omega arith) tt refl and admitted (omega arith) (omega arith) tt tt and admitted (omega arith) (omega
    arith) tt tt and admitted (omega arith) (omega arith) tt tt and admitted (omega arith) (omega arith) tt tt and tt)

pub blackened_is_history : IsHistory pointer_page blackened_before_the_move
unfolding by c0 m0 host all_below pointed_cell may_turn_black pointer_page blackened_before_the_move left_from
    calls_from
blackened_is_history = history blackened_before_the_move pointer_page_limits no_fault_blackened (admitted (omega arith)
    (omega arith) tt tt and admitted (omega arith) (omega arith) tt tt and admitted (omega arith) (omega arith) tt tt
    and admitted (omega arith) (omega arith) (omega arith, refl) (omega arith, (refl, refl)) and admitted (omega arith)
    (omega arith) (omega arith, refl) tt and admitted (omega arith) (omega arith) tt refl and admitted (omega arith)
    (omega arith) tt tt and admitted (omega arith) (omega arith) (omega arith, refl) tt and admitted (omega arith)
    (omega arith) (omega arith, refl) (omega arith, (refl, refl)) and admitted (omega arith) (omega arith)
    (omega arith, refl) (omega arith, tt) and admitted (omega arith) (omega arith) tt tt and admitted (omega arith)
    (omega arith) (omega arith, refl) tt and admitted (omega arith) (omega arith) (omega arith, refl) tt and tt)

pub full_is_history : IsHistory one_page full_then_reused
unfolding by c0 all_below pointed_cell may_turn_black one_page full_then_reused left_from calls_from
full_is_history = history full_then_reused one_page_limits no_fault_full
    (admitted (omega arith) (omega arith) tt tt and admitted (omega arith) (omega arith) tt tt
    and admitted (omega arith) (omega arith) tt refl and admitted (omega arith) (omega arith) tt tt
    and admitted (omega arith) (omega arith) tt tt and admitted (omega arith) (omega arith) tt tt and tt)

pub quarter_is_history : IsHistory two_pages a_quarter_and_all
unfolding by c0 all_below pointed_cell two_pages a_quarter_and_all left_from calls_from
quarter_is_history = history a_quarter_and_all two_pages_limits no_fault_quarter
    (admitted (omega arith) (omega arith) tt tt and admitted (omega arith) (omega arith) tt tt
    and admitted (omega arith) (omega arith) tt refl and admitted (omega arith) (omega arith) tt refl and tt)

pub marking_is_history : IsHistory two_pages granted_while_marking
unfolding by c0 all_below pointed_cell two_pages granted_while_marking left_from calls_from
marking_is_history = history granted_while_marking two_pages_limits no_fault_marking (admitted (omega arith) (omega
    arith) tt tt and admitted (omega arith) (omega arith) tt refl and admitted (omega arith) (omega arith) tt tt and tt)

pub swept_is_history : IsHistory pointer_page (before_the_sweep ++ sweeping_mark ∷ [])
unfolding by c0 host all_below pointed_cell pointer_page exchanged before_the_sweep sweeping_mark left_from calls_from
swept_is_history = history (before_the_sweep ++ sweeping_mark ∷ []) pointer_page_limits no_fault_swept
    (admitted (omega arith) (omega arith) tt tt and admitted (omega arith) (omega arith) tt tt
    and admitted (omega arith) (omega arith) (omega arith, refl) (omega arith, (tt, (refl, refl)))
    and admitted (omega arith) (omega arith) (omega arith, refl) (omega arith, (tt, (refl, refl))) and tt)

-- so is its earlier part
pub exchanged_is_history : IsHistory pointer_page exchanged
unfolding before_the_sweep exchanged by c0
exchanged_is_history = earlier_part_is_history pointer_page exchanged (drop 27 (before_the_sweep ++ sweeping_mark ∷ []))
    swept_is_history
