-- The operations of an event are admitted where all registers are null, and leave them so.
use Rattle.std.proofs.{Common.{set, slice_get}, lemmas.List.FromFn.{get_or-range_with_len, length-range_with_len}}
use Rattle.std.proofs.{lemmas.List.Elements.All-get_or, lemmas.Option.slice_get-get_or}
use Rattle.mk_trace.proofs.Vocabulary.{A, AreAdmitted, AreNull, C, Config, Contents, Event, F, IsAdmitted}
use Rattle.mk_trace.proofs.Vocabulary.{IsBetween, IsEventOf, IsHistory, IsPlayable, IsSound, K, Kind, NeverState, Null}
use Rattle.mk_trace.proofs.Vocabulary.{Num, Op}
use Rattle.mk_trace.proofs.Vocabulary.{Ptr, To, TraceEvent, Value, W, after_calls, allocation_at, asked, calls}
use Rattle.mk_trace.proofs.Vocabulary.{calls_of_caller, config_of}
use Rattle.mk_trace.proofs.Vocabulary.{global_at, kinds_of, length-replicate, never_behind, never_first, ops_of}
use Rattle.mk_trace.proofs.Vocabulary.{range_with_len, register_at, replicate, types_from}
use Rattle.mk_trace.{proofs.SlotTypes.{length-types_from}, specs.Playing.slot_type}
use Rattle.mk_heap.proofs.Below.Laws.Vocabulary.{AccessIsAdmitted, Bool, IsTyped, IsTypedAllocation, List, Meets}
use Rattle.mk_heap.proofs.Below.Laws.Vocabulary.{get_or-set_same}
use Rattle.mk_heap.proofs.Below.Laws.Vocabulary.{length, refl, subst, suc, sym, true, words_of, zero, [], ◌*◌, ◌+◌, ◌-◌}
use Rattle.mk_heap.proofs.Below.Laws.Vocabulary.{◌<◌, ◌∙◌}
use Rattle.mk_heap.proofs.Below.Laws.Vocabulary.{◌∷◌, ◌≡◌, ◌≢◌, ◌≤◌}
use Rattle.mk_never.proofs.{Later.{calls_stay, op_stays}, Edits.left_at_by, Fresh.new_adds}
use Rattle.mk_never.{proofs.TypedCalls.{op_keeps, stays_typed}, specs.NeverHeap.{after_op}}
use Rattle.mk_never.specs.Admitted.{IsBase, IsCaller, IsOfKind, OperandsAreInRange, StoreIsAdmitted}
use Rattle.mk_never.specs.declared.operations.Op.TheVariants.{Clear, Free, GetGlobal, New, SetGlobal, SetNum, SetPtr}
use Rattle.mk_heap.proofs.Below.Laws.Vocabulary.{Number as NumKind, Some, ℕ, ap, arith, false, get_or, get_or-set_other}

-- The kinds of a slot's objects.

kinds_from : (first slot : ℕ) (slots : List ℕ) → slot < length slots
    → kinds_of (types_from first slots) slot ≡ slot_type (first + slot) (get_or slots slot 0)
kinds_from first slot [] within = absurd (omega arith)
kinds_from first zero (words ∷ slots) within = ap (λ (n : ℕ). slot_type n words) (omega arith)
kinds_from first (suc slot) (words ∷ slots) within =
    let below : slot < length slots = omega arith in
    kinds_from (first + 1) slot slots below ∙ ap (λ (n : ℕ). slot_type n (get_or slots slot 0)) (omega arith)

numbers_behind : (count place : ℕ) → get_or (replicate count NumKind) place NumKind ≡ NumKind
numbers_behind zero place = refl
numbers_behind (suc count) zero = refl
numbers_behind (suc count) (suc place) = numbers_behind count place

number_at : (slot words index : ℕ) → 1 ≤ index → get_or (slot_type slot words) index NumKind ≡ NumKind
number_at slot words x2 h = grind (arith, numbers_behind)

-- A null that is stored leaves all null but what wasn't elsewhere.
set_null : (xs : List Value) (i k : ℕ) → (k ≢ i → get_or xs k Null ≡ Null) → get_or (set xs i Null) k Null ≡ Null
set_null [] i k h = refl
set_null (x ∷ xs) zero zero h = refl
set_null (x ∷ xs) zero (suc k) h = h (λ e. omega arith)
set_null (x ∷ xs) (suc i) zero h = h (λ e. omega arith)
set_null (x ∷ xs) (suc i) (suc k) h = set_null xs i k (λ other. h (λ e. other (omega arith)))

-- All registers from this one on are null.
abbrev pub ClearFrom : NeverState → ℕ → Type 0
ClearFrom n k = (r : ℕ) → k ≤ r → register_at n 0 r ≡ Null

module _ (slots : List ℕ) where
  abbrev listed : List ℕ
  listed = range_with_len 0 (length slots)

  -- the heap that never reuses storage, of the slots' types
  pub record Stands (n : NeverState) : Type 0 where
    pub types : n.types ≡ types_from 0 slots
    pub registers : length n.registers ≡ 8
    pub globals : length n.globals ≡ 64
    pub typed : IsTyped listed n

  pub stands_on : {n : NeverState} {o : Op} → Stands n → IsAdmitted listed n 0 o → Stands (after_op n 0 o)
  stands_on s h = grind (arith, op_stays, op_keeps, listed)

  -- The operations are admitted, and leave all registers null.
  pub record AreFine (n : NeverState) (ops : List Op) : Type 0 where
    pub admitted : AreAdmitted listed n (calls_of_caller ops)
    pub clear : ClearFrom (after_calls n (calls_of_caller ops)) 0

  none_left : {n : NeverState} → ClearFrom n 0 → AreFine n []
  none_left clear = record { admitted = tt; clear = clear }

  then_all : {n : NeverState} {o : Op} {ops : List Op} → Stands n → IsAdmitted listed n 0 o
      → (Stands (after_op n 0 o) → AreFine (after_op n 0 o) ops) → AreFine n (o ∷ ops)
  then_all {n} {o} s first rest = grind (arith, stands_on)

  module _ (slot : ℕ) (within : slot < length slots) (few : length slots ≤ 64) where
    -- the register is null or points to an object of the slot
    abbrev Points : NeverState → ℕ → Type 0
    Points n r = IsOfKind (register_at n 0 r) (To slot 0)

    is_caller : (n : NeverState) → Stands n → IsCaller n 0
    is_caller n s = let count = s.registers in omega arith

    listed_at : slice_get listed slot ≡ Some slot
    listed_at =
        slice_get-get_or listed slot 0 (omega (arith, length-range_with_len 0 (length slots), within))
        ∙ ap Some (get_or-range_with_len 0 (length slots) slot 0 within ∙ (omega arith))

    -- a word of an object of the slot
    meets : (n : NeverState) → Stands n → (v : Value) → IsSound n v → IsOfKind v (To slot 0) → (i : ℕ)
        → i < get_or slots slot 0
        → (P : Kind → Type 0) → P (get_or (slot_type slot (get_or slots slot 0)) i NumKind) → Meets n v i P
    meets n s Null sound of_kind i inside P p = tt
    meets n s (Num m) sound of_kind i inside P p = absurd of_kind
    meets n s (Ptr number ty offset) sound of_kind i inside P p =
        let a : IsTypedAllocation n (allocation_at n number) = s.typed.allocations number sound.0 in
        let is_slot : (allocation_at n number).ty ≡ slot = sym sound.1 ∙ of_kind.0 in
        let kinds : kinds_of n.types (allocation_at n number).ty ≡ slot_type slot (get_or slots slot 0) =
        ap (kinds_of n.types) is_slot ∙ (grind (arith, kinds_from)) in
        let at : offset + i ≡ i = (let z = of_kind.1 in omega arith) in
        let size : length (words_of n number) ≡ get_or slots slot 0 =
        a.size ∙ ap length kinds ∙ (omega (arith, length-replicate (get_or slots slot 0 - 1) NumKind, inside)) in (
          omega (arith, at, size, inside),
          subst P (sym (ap (λ (ks : List Kind). get_or ks (offset + i) NumKind) kinds
              ∙ ap (λ (k : ℕ). get_or (slot_type slot (get_or slots slot 0)) k NumKind) at)) p,
        )

    base_of_kind : (v : Value) → IsOfKind v (To slot 0) → IsBase v
    base_of_kind x0 h = grind arith

    -- each operation is admitted

    admitted_by : (n : NeverState) (o : Op) → Stands n → OperandsAreInRange n o → AccessIsAdmitted n 0 o
        → StoreIsAdmitted listed n 0 o → IsAdmitted listed n 0 o
    admitted_by n o s range access store = grind (arith, is_caller)

    new_admitted : (n : NeverState) (full : Bool) → Stands n → IsAdmitted listed n 0 (New 0 slot full)
    new_admitted n full s = grind (arith, length-types_from, admitted_by)

    clear_admitted : (n : NeverState) (d : ℕ) → d < 8 → Stands n → IsAdmitted listed n 0 (Clear d)
    clear_admitted n d below s = admitted_by n (Clear d) s below tt tt

    get_admitted : (n : NeverState) (d : ℕ) → d < 8 → Stands n → IsAdmitted listed n 0 (GetGlobal d slot)
    get_admitted n d below s = grind (arith, admitted_by)

    set_admitted : (n : NeverState) → Stands n → Points n 0 → IsAdmitted listed n 0 (SetGlobal slot 0)
    set_admitted n s points = grind (arith, admitted_by, listed_at)

    at_register : (n : NeverState) → Stands n → Points n 0 → (i : ℕ) → i < get_or slots slot 0 → (P : Kind → Type 0)
        → P (get_or (slot_type slot (get_or slots slot 0)) i NumKind) → Meets n (register_at n 0 0) i P
    at_register n s points i inside P p = grind (arith, meets)

    number_admitted : (n : NeverState) (index value : ℕ) → 1 ≤ index → index < get_or slots slot 0 → Stands n
        → Points n 0 → IsAdmitted listed n 0 (SetNum 0 index value)
    number_admitted n index value least inside s points = grind (arith, admitted_by, at_register, number_at)

    link_admitted : (n : NeverState) → 1 ≤ get_or slots slot 0 → Stands n → Points n 0 → Points n 1
        → IsAdmitted listed n 0 (SetPtr 0 0 1)
    link_admitted n some s points linked = grind (arith, admitted_by, at_register)

    -- what they leave in registers

    by_value : {v w : Value} → v ≡ w → IsOfKind w (To slot 0) → IsOfKind v (To slot 0)
    by_value same of_kind = subst (λ (v : Value). IsOfKind v (To slot 0)) (sym same) of_kind

    new_points : (n : NeverState) → Stands n → Points (after_op n 0 (New 0 slot false)) 0
    new_points n s = by_value (new_adds n 0 0 slot (is_caller n s) (omega arith)).register (refl, refl)

    got_points : (n : NeverState) (d : ℕ) → d < 8 → Stands n → Points (after_op n 0 (GetGlobal d slot)) d
    got_points n d below s =
        let count = s.registers in
        by_value (get_or-set_same n.registers (8 * 0 + d) (global_at n slot) Null (omega arith)) (
        grind (arith, listed_at))

    linked_same : (n : NeverState) (r : ℕ) → register_at (after_op n 0 (SetPtr 0 0 1)) 0 r ≡ register_at n 0 r
    linked_same n r = left_at_by (λ m. register_at m 0 r ≡ register_at n 0 r) _ n _ refl (λ number place e. refl)

    -- and which registers they leave null

    new_clear : (n : NeverState) → ClearFrom n 0 → ClearFrom (after_op n 0 (New 0 slot false)) 1
    new_clear n clear r above =
        get_or-set_other n.registers (8 * 0 + 0) (8 * 0 + r) (Ptr (length n.allocations) slot 0) Null (λ e. omega arith)
        ∙ clear r (omega arith)

    got_clear : (n : NeverState) (d : ℕ) → ClearFrom n d → ClearFrom (after_op n 0 (GetGlobal d slot)) (d + 1)
    got_clear n d clear r above =
        get_or-set_other n.registers (8 * 0 + d) (8 * 0 + r) (global_at n slot) Null (λ e. omega arith)
        ∙ clear r (omega arith)

    -- the last operations of an event clear what it has set

    -- so an event's operations

    one_clear : (n : NeverState) → Stands n → ClearFrom n 1 → AreFine n (Clear 0 ∷ [])
    one_clear n s clear = then_all s (clear_admitted n 0 (omega arith) s) (λ t. none_left (
        λ r above. set_null n.registers (8 * 0 + 0) (8 * 0 + r) (λ other. clear r (omega (arith, other)))))

    two_clear : (n : NeverState) → Stands n → ClearFrom n 2 → AreFine n (Clear 0 ∷ Clear 1 ∷ [])
    two_clear n s clear =
        then_all s (clear_admitted n 0 (omega arith) s) (λ t.
        then_all t (clear_admitted (after_op n 0 (Clear 0)) 1 (omega arith) t) (λ u. none_left (
        λ r above. grind (arith, set_null))))

    made_fine : (n : NeverState) → Stands n → ClearFrom n 0
        → AreFine n (New 0 slot false ∷ SetGlobal slot 0 ∷ Clear 0 ∷ [])
    made_fine n s clear =
        let m = after_op n 0 (New 0 slot false) in
        then_all s (new_admitted n false s) (λ t. then_all t (set_admitted m t (new_points n s)) (λ u.
        one_clear (after_op m 0 (SetGlobal slot 0)) u (new_clear n clear)))

    linked_fine : (n : NeverState) → 1 ≤ get_or slots slot 0 → Stands n → ClearFrom n 0
        → AreFine n (New 0 slot false ∷ GetGlobal 1 slot ∷ SetPtr 0 0 1 ∷ SetGlobal slot 0 ∷ Clear 0 ∷ Clear 1 ∷ [])
    linked_fine n some s clear =
        let n1 = after_op n 0 (New 0 slot false) in
        let n2 = after_op n1 0 (GetGlobal 1 slot) in
        let n3 = after_op n2 0 (SetPtr 0 0 1) in
        let points = by_value (get_or-set_other n1.registers (8 * 0 + 1) (8 * 0 + 0) (global_at n1 slot) Null
        (λ e. omega arith)) (new_points n s) in
        then_all s (new_admitted n false s) (λ s1. then_all s1 (get_admitted n1 1 (omega arith) s1)
        (λ s2. then_all s2 (link_admitted n2 some s2 points (got_points n1 1 (omega arith) s1)) (λ s3. then_all s3
        (set_admitted n3 s3 (by_value (linked_same n2 0) points)) (λ s4. two_clear (after_op n3 0 (SetGlobal slot 0)) s4
        (λ r above. linked_same n2 r ∙ got_clear n1 1 (new_clear n clear) r above)))))

    full_fine : (n : NeverState) → Stands n → ClearFrom n 0 → AreFine n (New 0 slot true ∷ Clear 0 ∷ [])
    full_fine n s clear = then_all s (new_admitted n true s) (λ t. one_clear n s (λ r above. clear r (omega arith)))

    full_link_fine : (n : NeverState) → Stands n → ClearFrom n 0 → AreFine n (New 0 slot true ∷ Clear 0 ∷ Clear 1 ∷ [])
    full_link_fine n s clear =
        then_all s (new_admitted n true s) (λ t. two_clear n s (λ r above. clear r (omega arith)))

    freed_fine : (n : NeverState) → Stands n → ClearFrom n 0 → AreFine n (GetGlobal 0 slot ∷ Free 0 ∷ Clear 0 ∷ [])
    freed_fine n s clear =
        let m = after_op n 0 (GetGlobal 0 slot) in
        then_all s (get_admitted n 0 (omega arith) s) (λ t. then_all t (admitted_by m (Free 0) t (omega arith) tt
        (base_of_kind (register_at m 0 0) (got_points n 0 (omega arith) s))) (λ u. one_clear (after_op m 0 (Free 0)) u
        (λ r above. (grind arith) ∙ got_clear n 0 clear r above)))

    cleared_fine : (n : NeverState) → Stands n → ClearFrom n 0 → AreFine n (SetGlobal slot 0 ∷ [])
    cleared_fine n s clear = then_all s (set_admitted n s (by_value (clear 0 (omega arith)) tt)) (λ t. none_left clear)

    written_fine : (n : NeverState) (index value : ℕ) → 1 ≤ index → index < get_or slots slot 0 → Stands n
        → ClearFrom n 0 → AreFine n (GetGlobal 0 slot ∷ SetNum 0 index value ∷ Clear 0 ∷ [])
    written_fine n index value least inside s clear =
        let m = after_op n 0 (GetGlobal 0 slot) in
        then_all s (get_admitted n 0 (omega arith) s)
        (λ t. then_all t (number_admitted m index value least inside t (got_points n 0 (omega arith) s)) (λ u. one_clear
        (after_op m 0 (SetNum 0 index value)) u (λ r above. (grind (arith, left_at_by)) ∙ got_clear n 0 clear r above)))

  pub events_fine : (few : length slots ≤ 64) → ((slot : ℕ) → slot < length slots → 1 ≤ get_or slots slot 0)
      → (n : NeverState) → Stands n → ClearFrom n 0 → (event : TraceEvent) → IsEventOf slots event → (full : Bool)
      → AreFine n (ops_of full event)
  events_fine few some n s clear (A slot) within false = made_fine slot within few n s clear
  events_fine few some n s clear (A slot) within true = full_fine slot within few n s clear
  events_fine few some n s clear (K slot) within false = linked_fine slot within few n (some slot within) s clear
  events_fine few some n s clear (K slot) within true = full_link_fine slot within few n s clear
  events_fine few some n s clear (F slot) within false = freed_fine slot within few n s clear
  events_fine few some n s clear (F slot) within true = freed_fine slot within few n s clear
  events_fine few some n s clear (C slot) within false = cleared_fine slot within few n s clear
  events_fine few some n s clear (C slot) within true = cleared_fine slot within few n s clear
  events_fine few some n s clear (W slot index value) within false =
      written_fine slot within.0 few n index value within.1 within.2 s clear
  events_fine few some n s clear (W slot index value) within true =
      written_fine slot within.0 few n index value within.1 within.2 s clear

-- An event's operations are admitted where all registers are null, full or not, and leave them so.
abbrev pub EventsAreAdmitted : Contents → Type 0
EventsAreAdmitted trace =
    (es : List Event) → IsHistory (config_of trace) es → AreNull (never_behind (config_of trace) es)
    → (event : TraceEvent) → IsEventOf trace.slots event → (full : Bool)
    → AreAdmitted (config_of trace).globals (never_behind (config_of trace) es) (calls_of_caller (ops_of full event))
    × AreNull (after_calls (never_behind (config_of trace) es) (calls_of_caller (ops_of full event)))

module _ {trace : Contents} (playable : IsPlayable trace) where
  abbrev c : Config
  c = config_of trace

  pub events_are_admitted : EventsAreAdmitted trace
  events_are_admitted es history clear event of_slots full =
      let fine = events_fine trace.slots playable.slot_count.1
      (λ slot within. (All-get_or (IsBetween 1 4096) trace.slots slot 0 within playable.slots).0)
      (never_behind c es) (let stays = calls_stay (never_first c) (asked (calls c es)) in
      record {
        types = stays.types;
        registers = stays.registers ∙ length-replicate 8 Null;
        globals = stays.globals ∙ length-replicate 64 Null;
        typed = stays_typed c.globals c.types 1 (asked (calls c es)) history.admitted;
      }) (λ r above. clear r) event of_slots full in
      (fine.admitted, λ r. fine.clear r (omega arith))
