-- The numbers of slots by their names, put into a map from the last slot to the first.
use Rattle.std.proofs.{Common.Bor, lemmas.{Iterator.Adapters.position_from-zero, List.at_drop_all}}
use Rattle.std.{proofs.lemmas.List.Quantifiers.position-Some, specs.Cmp.Lexicographic.nat_list_eq_equiv}
use Rattle.std.specs.{HashMap.{HashMap, get_by}, List.position_from, Map.lookup, Str.bytes_eq}
use Rattle.mk_heap.proofs.Below.Laws.Vocabulary.{List, Option, Some, ℕ, ap, arith, cond, drop, get_or, length, subst}
use Rattle.mk_heap.proofs.Below.Laws.Vocabulary.{sym, [], ◌+◌}
use Rattle.mk_heap.proofs.Below.Laws.Vocabulary.{◌<◌}
use Rattle.mk_heap.proofs.Below.Laws.Vocabulary.{◌∙◌, ◌≡◌}
use Rattle.mk_trace.proofs.Vocabulary.{at_drop_more, slot_number}
use Rattle.mk_trace.specs.{Grammar.AreSlotNumbers, declared.lines.Slot.Slot}

-- what a map has for a name
abbrev pub value_for_name : {X S : Type 0} → HashMap (Bor (List ℕ)) X S → List ℕ → Option X
value_for_name names name = get_by (λ key. bytes_eq name key.now) names

-- the map has the numbers of these slots, of which the first has the number `from`
abbrev pub AreNumbersFrom : {S : Type 0} → HashMap (Bor (List ℕ)) ℕ S → ℕ → List Slot → Type 0
AreNumbersFrom numbers from slots =
    (name : List ℕ) → value_for_name numbers name ≡ position_from (λ (slot : Slot). bytes_eq name slot.name) from slots

pub none_put : {S : Type 0} (numbers : HashMap (Bor (List ℕ)) ℕ S) (slots : List Slot) → numbers.entries ≡ []
    → AreNumbersFrom numbers (length slots) (drop (length slots) slots)
none_put numbers slots empty name =
    ap (lookup (λ key. bytes_eq name key.now)) empty ∙ sym (at_drop_all
    (position_from (λ (slot : Slot). bytes_eq name slot.name) (length slots)) slots (length slots) (omega arith))

pub one_more : {S : Type 0} (old new : HashMap (Bor (List ℕ)) ℕ S) (slots : List Slot) (i from : ℕ) (d : Slot)
    (this : List ℕ) → i < length slots → from ≡ i + 1 → this ≡ (get_or slots i d).name
    → ((name : List ℕ) → value_for_name new name ≡ cond (bytes_eq this name) (Some i) (value_for_name old name))
    → AreNumbersFrom old from (drop from slots) → AreNumbersFrom new i (drop i slots)
one_more old new slots i from d this inside next is put known name =
    let known' = subst (λ n. AreNumbersFrom old n (drop n slots)) next known in
    put name ∙ ap (λ same. cond same (Some i) (value_for_name old name)) (nat_list_eq_equiv.symm this name)
    ∙ ap (cond (bytes_eq name this) (Some i)) (known' name) ∙ ap (λ named. cond (bytes_eq name named) (Some i)
    (position_from (λ (slot : Slot). bytes_eq name slot.name) (i + 1) (drop (i + 1) slots))) is
    ∙ sym (at_drop_more (position_from (λ (slot : Slot). bytes_eq name slot.name) i) slots i d inside)

pub all_put : {S : Type 0} (numbers : HashMap (Bor (List ℕ)) ℕ S) (slots : List Slot) (i : ℕ) → i ≡ 0
    → AreNumbersFrom numbers i (drop i slots) → AreSlotNumbers numbers slots
all_put numbers slots i none known name = grind (arith, position_from-zero)

pub number_within : (slots : List Slot) (name : List ℕ) {i : ℕ} → slot_number slots name ≡ Some i → i < length slots
number_within slots name {i} is = grind (arith, position-Some)
