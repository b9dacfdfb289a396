-- The types of slots, and the globals that hold pointers to them.
use Rattle.std.proofs.lemmas.List.Elements.{All-cons, All-head, All-nil, All-replicate, All-tail}
use Rattle.std.proofs.Math.Seq.{get_or-append_seam}
use Rattle.mk_trace.proofs.Vocabulary.{All, Contents, IsBetween, Kind, To, config_of, kinds_of, length-append}
use Rattle.mk_trace.proofs.Vocabulary.{length-replicate, range_with_len, replicate, types_from}
use Rattle.mk_heap.proofs.Below.Laws.Vocabulary.{List, Number as Num, ℕ, ap, append_assoc, arith, length, refl, subst}
use Rattle.mk_heap.proofs.Below.Laws.Vocabulary.{suc, sym}
use Rattle.mk_heap.proofs.Below.Laws.Vocabulary.{zero, [], ◌++◌, ◌+◌, ◌-◌, ◌<◌, ◌∙◌, ◌∷◌, ◌≡◌, ◌≤◌}
use Rattle.mk_core.specs.Moments.{IsAmong, IsTypeAmong}
use Rattle.mk_trace.specs.Playing.{slot_type}

pub length-types_from : (slot : ℕ) (slots : List ℕ) → length (types_from slot slots) ≡ length slots
length-types_from slot [] = refl
length-types_from slot (words ∷ slots) = ap (λ n. suc n) (length-types_from (slot + 1) slots)

pub types_among : (types before : List (List Kind)) (slot : ℕ) (slots : List ℕ) → slot ≡ length before → types
    ≡ before ++ types_from slot slots → All (IsBetween 1 4096) slots → All (IsTypeAmong types) (types_from slot slots)
types_among types before slot [] at is within = All-nil (IsTypeAmong types)
types_among types before slot (words ∷ slots) at is within =
    let first : IsBetween 1 4096 words = All-head (IsBetween 1 4096) words slots within in
    let others = All-tail (IsBetween 1 4096) words slots within in
    let behind = types_from (slot + 1) slots in
    All-cons (IsTypeAmong types) (slot_type slot words) behind (subst (λ n. IsTypeAmong types (slot_type n words))
    (sym at) (let slot = length before in
    let size : length (slot_type slot words) ≡ words = omega (arith, first.0, length-replicate (words - 1) Num) in
    let here : kinds_of types slot ≡ slot_type slot words = grind (arith, get_or-append_seam) in
    let points : 0 < length (kinds_of types slot) = omega (arith, ap length here) in (
      (omega (arith, size, first.0), omega (arith, size, first.1)),
      All-cons (IsAmong types) (To slot 0) (replicate (words - 1) Num) (
        (omega (
          arith,
          ap length (is ∙ ap (λ n. before ++ slot_type n words ∷ behind) at),
          length-append
              before (slot_type slot words ∷ behind),
        )),
        points,
      ) (All-replicate (IsAmong types) (words - 1) Num tt),
    )))
    (types_among types (before ++ slot_type slot words ∷ []) (slot + 1) slots (omega (
      arith,
      at,
      length-append before
          (slot_type slot words ∷ []),
    )) (is ∙ sym (append_assoc before (slot_type slot words ∷ []) behind)) others)

pub range_below : (first count limit : ℕ) → first + count ≤ limit → All (λ n. n < limit) (range_with_len first count)
range_below first zero limit h = All-nil (λ n. n < limit)
range_below first (suc count) limit h =
    All-cons (λ n. n < limit) first (range_with_len (first + 1) count) (omega (arith, h))
    (range_below (first + 1) count limit (omega (arith, h)))

-- The first of numbers that are left, and the others.
pub range_more : (first count : ℕ) → first < count
    → range_with_len first (count - first) ≡ first ∷ range_with_len (first + 1) (count - (first + 1))
range_more first count below = grind arith

-- The heap that a trace is played on, from its parts.
pub config_is : (trace : Contents) (pages resident count : ℕ) (slots : List ℕ) (types : List (List Kind))
    (globals : List ℕ) → pages ≡ trace.pages → resident ≡ trace.resident → slots ≡ trace.slots
    → types ≡ types_from 0 slots → count ≡ length slots → globals ≡ range_with_len 0 count → config_of trace
    ≡ record { pages = pages; resident = resident; callers = 1; markers = 0; types = types; globals = globals }
config_is trace pages resident count slots types globals a b d e f g = cc
