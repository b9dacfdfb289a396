-- The register of a trace's Free points to what the event's slot points to.
use Rattle.std.proofs.Common.{get_or-drop}
use Rattle.mk_trace.proofs.Vocabulary.{A, C, Config, Event, F, IsHistory, K, NeverState, Null, Op, TraceEvent, W}
use Rattle.mk_trace.proofs.Vocabulary.{after_calls, calls_of_caller, drop_more, global_at, histories_keep_the_invariant}
use Rattle.mk_trace.proofs.Vocabulary.{length-drop, never_behind, ops_of, register_at}
use Rattle.mk_heap.proofs.Below.Laws.Vocabulary.{Bool, List, ℕ, ap, arith, drop, false, get_or, get_or-set_same, length}
use Rattle.mk_heap.proofs.Below.Laws.Vocabulary.{list_any}
use Rattle.mk_heap.proofs.Below.Laws.Vocabulary.{list_any-append, or_parts, refl, sym, take, [], ◌*◌, ◌++◌, ◌+◌, ◌<◌}
use Rattle.mk_heap.proofs.Below.Laws.Vocabulary.{◌∙◌, ◌∷◌}
use Rattle.mk_heap.proofs.Below.Laws.Vocabulary.{◌≡◌}
use Rattle.mk_trace.proofs.{FreeCalls.is_free, LaterOps.{AreCalled, either_way}, OneCaller.never_behind_all}
use Rattle.mk_trace.specs.{Ledgers.{FreesItsSlot, FreesSlot}, Grammar.slot_of}

no_free : (ops before : List Op) (o : Op) (rest : List Op) (p : ℕ) → list_any is_free ops ≡ false
    → ops ≡ before ++ o ∷ rest → o ≡ Op.Free p → ⊥
no_free ops before o rest p none split is = grind (arith, or_parts, is_free, list_any-append)

abbrev FreesNone : TraceEvent → Bool → Type 0
FreesNone event full = list_any is_free (ops_of full event) ≡ false

module _ (n : NeverState) (count : length n.registers ≡ 8) (slot : ℕ) where
  loaded : (b : Op) (p : ℕ) → b ≡ Op.GetGlobal 0 slot → p ≡ 0 → register_at
      (after_calls n (calls_of_caller (b ∷ []))) 0 p ≡ global_at (after_calls n (calls_of_caller (b ∷ []))) slot
  loaded b p is at = cc (is, at, get_or-set_same n.registers (8 * 0 + 0) (global_at n slot) Null (omega (arith, count)))

  by_place : (before : List Op) (o : Op) (rest : List Op) (p : ℕ)
      → Op.GetGlobal 0 slot ∷ Op.Free 0 ∷ Op.Clear 0 ∷ [] ≡ before ++ o ∷ rest → o ≡ Op.Free p → register_at
      (after_calls n (calls_of_caller before)) 0 p ≡ global_at (after_calls n (calls_of_caller before)) slot
  by_place [] o rest p split is = absurd cc
  by_place (b ∷ []) o rest p split is = grind (arith, loaded)
  by_place (b ∷ d ∷ []) o rest p split is = absurd cc
  by_place (b ∷ d ∷ e ∷ []) o rest p split is = absurd cc
  by_place (b ∷ d ∷ e ∷ f ∷ before) o rest p split is = absurd cc

  frees_event : (event : TraceEvent) → slot_of event ≡ slot → FreesItsSlot n event
  frees_event (A s) same full before o rest split p is =
      absurd (no_free (ops_of full (A s)) before o rest p (either_way (FreesNone (A s)) refl refl full) split is)
  frees_event (K s) same full before o rest split p is =
      absurd (no_free (ops_of full (K s)) before o rest p (either_way (FreesNone (K s)) refl refl full) split is)
  frees_event (C s) same full before o rest split p is =
      absurd (no_free (ops_of full (C s)) before o rest p (either_way (FreesNone (C s)) refl refl full) split is)
  frees_event (W s index value) same full before o rest split p is =
      absurd (no_free (ops_of full (W s index value)) before o rest p
      (either_way (FreesNone (W s index value)) refl refl full) split is)
  frees_event (F s) same full before o rest split p is = grind (arith, by_place, either_way)

pub frees_its_slot : {c : Config} {es : List Event} → c.callers ≡ 1 → IsHistory c es → (event : TraceEvent)
    → FreesItsSlot (never_behind c es) event
frees_its_slot {c} {es} one history event =
    let count = (histories_keep_the_invariant c es history).mirrors.register_count in
    frees_event (never_behind c es) (omega (arith, count, one)) (slot_of event) event refl

-- The first operation, and a later one

pub frees_first : (n : NeverState) (event : TraceEvent) (o : Op) → FreesItsSlot n event
    → ops_of false event ≡ o ∷ drop 1 (ops_of false event) → FreesSlot n (slot_of event) o
frees_first n event o frees is = frees false [] o (drop 1 (ops_of false event)) is

pub frees_now : {c : Config} {es : List Event} {event : TraceEvent} {items : List Op} {i : ℕ} {refused : Bool}
    {fs : List Event} → AreCalled c es event items i refused fs → (o : Op) → i < length items → o ≡ get_or items i o
    → FreesItsSlot (never_behind c es) event → FreesSlot (never_behind c fs) (slot_of event) o
frees_now {event} {items} {i} h o within here frees =
    let ops : List Op = ops_of h.full event in
    let count : length items ≡ length (drop 1 ops) = ap length h.items_are in
    let inside : i + 1 < length ops = omega (arith, within, count, length-drop 1 ops) in
    let at : get_or ops (i + 1) o ≡ o = ap (λ (k : ℕ). get_or ops k o) (omega arith) ∙ sym (get_or-drop 1 ops i o)
    ∙ sym (ap (λ (l : List Op). get_or l i o) h.items_are) ∙ sym here in
    let split : ops ≡ take (i + 1) ops ++ o ∷ drop (i + 1 + 1) ops = grind (arith, drop_more) in
    rw (never_behind_all h.calls) (frees h.full (take (i + 1) ops) o (drop (i + 1 + 1) ops) split)
