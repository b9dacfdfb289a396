-- Only stores change words, and a load gives what was last stored.
use Rattle.std.proofs.Common.{List, ℕ, ap, arith, get_or, get_or-set_other, get_or-set_same, length, refl, sym, [], ◌*◌}
use Rattle.std.proofs.{Common.{◌+◌, ◌<◌, ◌∙◌, ◌∷◌, ◌≡◌, ◌≢◌}, lemmas.List.get_or_append_left}
use Rattle.mk_never.proofs.{Edits.{exists, if_by, left_at_by, set_by}, Later.op_stays}
use Rattle.mk_never.proofs.Sameness.{equal_from_same, same_from_equal}
use Rattle.mk_never.specs.Laws.{Continues, LoadGivesStored, LoadsGive, Reaches, StoreIsInside, StoreLeaves, StoresTo}
use Rattle.mk_never.specs.{Laws.UnstoredStays, NeverHeap.{Call, NeverState, after_free, after_op, left_at}}
use Rattle.mk_never.specs.NeverHeap.{no_allocation, number_of, register_at, reply_at, with_register, with_word, word_at}
use Rattle.mk_never.specs.{NeverHeap.words_of, declared.values.Value.TheVariants.{Null, Num, Ptr}, Admitted.Meets}
use Rattle.mk_never.specs.{declared.operations.Op.Op, declared.operations.Op.TheVariants.New}
use Rattle.mk_never.specs.{declared.operations.Reply.Reply, declared.types.Kind.Kind, declared.values.Target.Target}
use Rattle.mk_never.specs.{declared.values.Target.TheVariants.WordOf, declared.values.Value.Value}
use Rattle.mk_never.specs.declared.operations.Reply.TheVariants.{Num as Number, Val}

-- The word is as it was.
abbrev WordStays : ℕ → ℕ → NeverState → NeverState → Type 0
WordStays number place n m = word_at m number place ≡ word_at n number place

-- a write of a word leaves the others
other_word : (n : NeverState) (a w number place : ℕ) (v : Value) → (WordOf a w ≡ WordOf number place → ⊥)
    → WordStays number place n (with_word n a w v)
other_word n a w number place v apart =
    set_by (λ b. get_or b.words place Null ≡ word_at n number place) n.allocations a number _ no_allocation
    (λ e. let other : place ≢ w = λ e'. apart (cc) in get_or-set_other (words_of n a) w place v Null other ∙ ap
    (λ k. word_at n k place) (sym e)) refl

-- a write leaves its value
pub this_word : (n : NeverState) (number place : ℕ) (v : Value) → place < length (words_of n number)
    → word_at (with_word n number place v) number place ≡ v
this_word n number place v h =
    let here : number < length n.allocations = exists n number place h in
    ap (λ b. get_or b.words place Null) (get_or-set_same n.allocations number _ no_allocation here)
    ∙ get_or-set_same (words_of n number) place v Null h

free_keeps : (n : NeverState) (v : Value) (number place : ℕ) → WordStays number place n (after_free n v)
free_keeps n Null number place = refl
free_keeps n (Num m) number place = refl
free_keeps n (Ptr a ty offset) number place =
    set_by (λ b. get_or b.words place Null ≡ word_at n number place) n.allocations a number _ no_allocation
    (λ e. ap (λ k. word_at n k place) (sym e)) refl

-- an operation that doesn't store to a word leaves it
pub op_keeps : (n : NeverState) (c : ℕ) (op : Op) (number place : ℕ) → number < length n.allocations
    → (StoresTo n c op number place → ⊥) → WordStays number place n (after_op n c op)
op_keeps n c (New d ty full) number place there none = if_by (λ m. WordStays number place n m) full _ _ (λ e. refl)
    (λ e. ap (λ a. get_or a.words place Null) (get_or_append_left n.allocations _ no_allocation number there))
op_keeps n c x3 number place there none = grind (arith, free_keeps, left_at_by, other_word, if_by, equal_from_same)

pub calls_keep : (n : NeverState) (calls : List Call) (number place : ℕ) → UnstoredStays n calls number place
calls_keep n [] number place there none = refl
calls_keep n (x ∷ xs) number place there none =
    let stays : Continues n (after_op n x.caller x.op) = op_stays n x.caller x.op in
    let there' : number < length (after_op n x.caller x.op).allocations = omega (arith, stays.count) in
    calls_keep (after_op n x.caller x.op) xs number place there' none.1
    ∙ op_keeps n x.caller x.op number place there none.0

-- what an access leaves and replies if it reaches a word
left_reached : (t : Target) (refused : NeverState) (at : ℕ → ℕ → NeverState) (number place : ℕ)
    → t ≡ WordOf number place → left_at t refused at ≡ at number place
left_reached t refused at number place e = ap (λ t. left_at t refused at) e

reply_reached : (t : Target) (at : ℕ → ℕ → Reply) (number place : ℕ) → t ≡ WordOf number place
    → reply_at t at ≡ at number place
reply_reached t at number place e = ap (λ t. reply_at t at) e

stored_in : (n m : NeverState) (number place : ℕ) (v : Value) → place < length (words_of n number)
    → m ≡ with_word n number place v → word_at m number place ≡ v
stored_in n m number place v h e = ap (λ m. word_at m number place) e ∙ this_word n number place v h

-- an operation that stores to a word leaves its value there
pub store_leaves : (n : NeverState) (c : ℕ) (op : Op) (number place : ℕ) → StoreLeaves n c op number place
store_leaves n c x2 number place h stores = grind (arith, stored_in, left_reached, same_from_equal)

-- a load from a word gives its value
pub loads_give : (n : NeverState) (number place : ℕ) (v : Value) → word_at n number place ≡ v
    → LoadsGive n number place v
loads_give n number place v is = record {
  a_number = λ c q i reaches. reply_reached _ _ number place reaches ∙ ap (λ v. Number (number_of v)) is;
  a_pointer = λ c d q i reaches. reply_reached _ _ number place reaches ∙ ap Val is;
  a_register = λ c d q i is_caller in_range reaches.
      let here : 8 * c + d < length n.registers = omega arith in
      ap (λ m. register_at m c d) (left_reached _ (with_register n c d Null) (λ a w. with_register n c d
      (word_at n a w)) number place reaches) ∙ get_or-set_same n.registers (8 * c + d) _ Null here ∙ is;
}

pub load_gives_stored : (n : NeverState) (c : ℕ) (op : Op) (calls : List Call) (number place : ℕ)
    → LoadGivesStored n c op calls number place
load_gives_stored n c op calls number place h stores none =
    grind (arith, op_stays, exists, loads_give, calls_keep, store_leaves)

-- an admitted access reaches a word that exists
reached_is_inside : (n : NeverState) (v : Value) (i : ℕ) (P : Kind → Type 0) (number place : ℕ) → Meets n v i P
    → Reaches n v i number place → place < length (words_of n number)
reached_is_inside n x1 i x3 number place meets reaches = grind (arith, if_by)

pub store_is_inside : (n : NeverState) (c : ℕ) (op : Op) (number place : ℕ) → StoreIsInside n c op number place
store_is_inside n c x2 number place access stores = grind (arith, reached_is_inside)

pub ruleset a_load_gives_what_was_last_stored_facts = (calls_keep, store_is_inside, store_leaves, load_gives_stored)
