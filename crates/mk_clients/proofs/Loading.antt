-- What is loaded after a store.
use Rattle.std.proofs.Common.{Err, IfOk, Ok, Result}
use Rattle.mk_heap.proofs.Below.Laws.Vocabulary.{Answer, AreAdmitted, Bool, Config, Decided, Event, IsHistory, IsNumber}
use Rattle.mk_heap.proofs.Below.Laws.Vocabulary.{KeepsRegisters, List, Meets, NeverState, Null, Num, Op, Ptr, Unmapped}
use Rattle.mk_heap.proofs.Below.Laws.Vocabulary.{Value}
use Rattle.mk_heap.proofs.Below.Laws.Vocabulary.{WordOf, ℕ, after_calls, answer_of, ap, append-nil, append_assoc, arith}
use Rattle.mk_heap.proofs.Below.Laws.Vocabulary.{asked}
use Rattle.mk_heap.proofs.Below.Laws.Vocabulary.{bases_of, cond, earlier_part_is_history, false, left, never_behind}
use Rattle.mk_heap.proofs.Below.Laws.Vocabulary.{refl}
use Rattle.mk_heap.proofs.Below.Laws.Vocabulary.{register_at, subst, sym, target_of, true, [], ◌++◌, ◌+◌, ◌<◌, ◌∙◌, ◌∷◌}
use Rattle.mk_heap.proofs.Below.Laws.Vocabulary.{◌≡◌}
use Rattle.mk_heap.proofs.Below.Laws.{LastEvents.{comes_last, stands}, FramesLongerLists.meets_register}
use Rattle.mk_heap.proofs.Below.Laws.OtherCalls.{never_continues}
use Rattle.mk_never.proofs.Stores.{load_gives_stored, store_is_inside}
use Rattle.mk_never.specs.{NeverHeap.{after_op, reply_at, reply_of}, Laws.{NoneStoresTo, StoresTo}}
use Rattle.mk_never.specs.declared.{operations.Reply.Reply, values.Target.Target}
use Rattle.mk_never.specs.declared.values.Target.TheVariants.{Nothing}
use Rattle.mk_heap.proofs.Below.Callers.After.{calls_leave_other_registers, still_caller}
use Rattle.mk_heap.specs.Below.Callers.States.{Admits, caller_of_pass, never_of, value_of}
use Rattle.mk_heap.specs.Below.Callers.{Called.Called, declared.refusals.Refusal.Refusal}
use Rattle.mk_heap.specs.Below.Words.States.{PassState}
use Rattle.mk_clients.proofs.Between.{at_once, before, between, never_later, never_there, none_between, picked, place}
use Rattle.mk_clients.{proofs.Between.{same_config, same_number}, specs.Clients.{IsOnlyCall, is_store}}

-- Calls that don't store store to no word.
stores_nothing : (n : NeverState) (k : ℕ) (o : Op) (number at : ℕ) → is_store o ≡ false → StoresTo n k o number at → ⊥
stores_nothing n k x2 number at h s = grind arith

unpicked : (test : Op → Bool) (x : Decided) (xs : List Decided) → picked test (x ∷ xs) ≡ []
    → (test x.op ≡ false) × (picked test xs ≡ [])
unpicked test x xs h = by (test x.op) refl h
  where
    by : (b : Bool) → test x.op ≡ b → cond b (x ∷ picked test xs) (picked test xs) ≡ []
        → (test x.op ≡ false) × (picked test xs ≡ [])
    by true e h = cc
    by false e h = (e, h)

none_store : (n : NeverState) (xs : List Decided) (number at : ℕ) → picked is_store xs ≡ []
    → NoneStoresTo n (asked xs) number at
none_store n [] number at h = tt
none_store n (x ∷ xs) number at h =
    let u = unpicked is_store x xs h in
    (λ s. stores_nothing n x.caller x.op number at u.0 s, none_store (after_op n x.caller x.op) xs number at u.1)

-- the word that an access gets to, from its answer
record Word (n : NeverState) (v : Value) (i : ℕ) : Type 0 where
  pub number : ℕ
  pub at : ℕ
  pub is : target_of n v i ≡ WordOf number at

done_gets : (bases : List ℕ) (n : NeverState) (v : Value) (i : ℕ) (t : Target) → target_of n v i ≡ t
    → Answer.Done ≡ answer_of bases (reply_at t (λ a w. Reply.Done)) → Word n v i
done_gets bases n v i (WordOf a w) is e = record { number = a; at = w; is = is }
done_gets bases n v i Nothing is e = cc
done_gets bases n v i Unmapped is e = cc

pointer_word : (n : NeverState) (a t o i : ℕ) → Word n (Ptr a t o) i → target_of n (Ptr a t o) i ≡ WordOf a (o + i)
pointer_word n a t o i x = grind (arith, Unmapped)

-- It is the same word after other calls.
same_word : (n m : NeverState) (v : Value) (i : ℕ) (x : Word n v i) → Word m v i
    → target_of m v i ≡ WordOf x.number x.at
same_word n m Null i x y = let e = x.is in cc
same_word n m (Num u) i x y = let e = x.is in cc
same_word n m (Ptr a t o) i x y = pointer_word m a t o i y ∙ sym (pointer_word n a t o i x) ∙ x.is

-- The deciding call of a history is admitted at its place.
admitted_there : {p q : PassState} {o : Op} {a : Answer} → (c : Called p o a q)
    → AreAdmitted p.table.config.globals (never_behind p.table.config (p.seen ++ c.decided.before))
    (asked (Rattle.mk_core.specs.Calls.entry_of (caller_of_pass p) o (Rattle.std.specs.Prelude.Some a)))
admitted_there {p} {q} {o} {a} c =
    let es : List Event = p.seen ++ c.decided.before in
    let whole : q.seen ≡ (es ++ c.decided.event ∷ []) ++ c.decided.behind = ap (λ (x : PassState). x.seen) c.is
    ∙ ap (λ (l : List Event). p.seen ++ l) c.decided.is ∙ sym (append_assoc p.seen c.decided.before
    (c.decided.event ∷ c.decided.behind)) ∙ sym (append_assoc es (c.decided.event ∷ []) c.decided.behind) in
    let all : IsHistory p.table.config q.seen = rw (ap (λ (x : PassState). x.table.config) c.is) at c.pass.history in
    let last = comes_last p.table.config es c.decided.event (earlier_part_is_history p.table.config
    (es ++ c.decided.event ∷ []) c.decided.behind (subst (λ (l : List Event). IsHistory p.table.config l) whole all)) in
    rw c.decided.decides at last.admitted

module _ {p0 p1 p2 : PassState} (x i n loaded : ℕ) (lt : x < 8)
    (set : Called p0 (Op.SetNum x i n) Answer.Done p1) (get : Called p1 (Op.GetNum x i) (Answer.Num loaded) p2) where
  abbrev c : Config
  c = p0.table.config

  abbrev k : ℕ
  k = caller_of_pass p0

  abbrev n1 : NeverState
  n1 = never_behind c (before set (at_once p1) get)

  abbrev n2 : NeverState
  n2 = after_calls (after_op n1 k (Op.SetNum x i n)) (asked (between set (at_once p1) get))

  there : never_behind p1.table.config (p1.seen ++ get.decided.before) ≡ n2
  there =
      ap (λ (k : Config). never_behind k (p1.seen ++ get.decided.before)) (same_config set (at_once p1) get)
      ∙ ap (λ (l : List Event). never_behind c l) (place set (at_once p1) get) ∙ never_later set (at_once p1) get
      ∙ ap (λ (m : NeverState). after_calls m (asked (between set (at_once p1) get))) (never_there set (at_once p1) get)

  -- the register, at both places
  register : register_at n2 k x ≡ register_at n1 k x
  register =
      ap (λ (m : NeverState). register_at m k x) (sym there) ∙ ap (λ j. register_at (never_behind p1.table.config
      (p1.seen ++ get.decided.before)) j x) (sym (same_number set (at_once p1) get)) ∙ get.decided.known x lt
      ∙ calls_leave_other_registers p0 _ Answer.Done p1 x set lt (λ e. cc) ∙ sym (set.decided.known x lt)

  stored_to : Word n1 (register_at n1 k x) i
  stored_to = done_gets _ n1 (register_at n1 k x) i (target_of n1 (register_at n1 k x) i) refl set.decided.reply

  answered : Answer.Num loaded ≡ answer_of (bases_of (left p1.table.config
      (p1.seen ++ get.decided.before ++ get.decided.event ∷ [])).allocations) (reply_of n2 k (Op.GetNum x i))
  answered = cc (get.decided.reply, there, same_number set (at_once p1) get)

  loaded_from : Word n2 (register_at n2 k x) i
  loaded_from = grind (arith, n2, answered)

  reaches : target_of n2 (register_at n2 k x) i ≡ WordOf stored_to.number stored_to.at
  reaches =
      subst (λ (v : Value). target_of n2 v i ≡ WordOf stored_to.number stored_to.at) (sym register)
      (same_word n1 n2 (register_at n1 k x) i stored_to (subst (λ (v : Value). Word n2 v i) register loaded_from))

  pub load_gives : IsOnlyCall is_store p0 (Op.SetNum x i n) p2 → loaded ≡ n
  load_gives only =
      let none = none_between set (at_once p1) get is_store p2.seen [] (sym (append-nil p2.seen)) refl only in
      let ad = (admitted_there set).0 in
      let inside = store_is_inside n1 k (Op.SetNum x i n) stored_to.number stored_to.at ad.access stored_to.is in
      let gives = load_gives_stored n1 k (Op.SetNum x i n)
      (asked (between set (at_once p1) get)) stored_to.number stored_to.at inside stored_to.is (none_store
      (after_op n1 k (Op.SetNum x i n)) (between set (at_once p1) get) stored_to.number stored_to.at none) in
      let is : reply_of n2 k (Op.GetNum x i) ≡ Reply.Num n = gives.a_number k x i reaches in
      numbers (answered ∙ ap (λ (r : Reply). answer_of
      (bases_of (left p1.table.config (p1.seen ++ get.decided.before ++ get.decided.event ∷ [])).allocations) r) is)
    where
      numbers : Answer.Num loaded ≡ Answer.Num n → loaded ≡ n
      numbers e = cc

-- So a load that comes to a number gives the one that was stored.
pub loads_stored : {p q : PassState} (r : PassState) (x i n : ℕ) → x < 8 → Called p (Op.SetNum x i n) Answer.Done q
    → (loaded : Result ℕ Refusal) → IfOk loaded (λ m. Called q (Op.GetNum x i) (Answer.Num m) r)
    → IfOk loaded (λ m. IsOnlyCall is_store p (Op.SetNum x i n) r → m ≡ n)
loads_stored r x i n lt set (Ok m) get = load_gives x i n m lt set get
loads_stored r x i n lt set (Err e) get = tt

-- What was admitted for the store is for the load.
pub may_load : {p q : PassState} (x i n : ℕ) → Admits p (Op.SetNum x i n)
    → Called p (Op.SetNum x i n) Answer.Done q → Admits q (Op.GetNum x i)
may_load {p} {q} x i n ad c =
    let whole : IsHistory p.table.config (p.seen ++ c.more) = subst
    (λ (r : PassState). IsHistory r.table.config r.seen) c.is c.pass.history in
    let keeps : KeepsRegisters (caller_of_pass p) (never_of p) (never_behind p.table.config (p.seen ++ c.more)) =
    λ r lt. sym (ap (λ (y : PassState). value_of y r) c.is)
    ∙ calls_leave_other_registers p (Op.SetNum x i n) Answer.Done q r c lt (λ e. cc) in
    let typed = (stands p.table.config p.seen (earlier_part_is_history p.table.config p.seen c.more
    whole)).all.mirrors.typed in
    let meets : Meets (never_behind p.table.config (p.seen ++ c.more))
    (register_at (never_behind p.table.config (p.seen ++ c.more)) (caller_of_pass p) x) i IsNumber =
    meets_register _ _ _ _ (never_continues _ _ c.more) keeps typed x i IsNumber ad.in_range ad.access in
    record {
      of_a_caller = still_caller c ad.of_a_caller;
      in_range = ad.in_range;
      access = subst (λ (y : PassState). Meets (never_of y) (value_of y x) i IsNumber) (sym c.is) meets;
      store = tt;
    }
