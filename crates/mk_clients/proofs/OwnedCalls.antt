-- A number that is owned, along a history: other callers' calls keep it, and the caller's own are answered by it.
use Rattle.std.proofs.Common.{IfOk, OnOk, Result}
use Rattle.mk_heap.proofs.Below.Laws.Vocabulary.{Answer, AreAdmitted, AreOfOthers, Caller, Config, Decided, Event}
use Rattle.mk_heap.proofs.Below.Laws.Vocabulary.{IsHistory, Kind}
use Rattle.mk_heap.proofs.Below.Laws.Vocabulary.{List, NeverState}
use Rattle.mk_heap.proofs.Below.Laws.Vocabulary.{Number, Op, Some, Step, ℕ, admitted_in_parts, answer_of, ap}
use Rattle.mk_heap.proofs.Below.Laws.Vocabulary.{append-nil}
use Rattle.mk_heap.proofs.Below.Laws.Vocabulary.{append_assoc, arith, asked, bases_of, calls_from, entry_of, false}
use Rattle.mk_heap.proofs.Below.Laws.Vocabulary.{kinds_of, left}
use Rattle.mk_heap.proofs.Below.Laws.Vocabulary.{never_behind, never_in_parts, refl, subst, sym, [], ◌++◌, ◌∙◌, ◌∷◌}
use Rattle.mk_heap.proofs.Below.Laws.Vocabulary.{◌≡◌}
use Rattle.mk_heap.proofs.Below.Objects.Vocabulary.{PassState, after_calls, caller_of_pass, calls_by, comes_last}
use Rattle.mk_heap.proofs.Below.Objects.Vocabulary.{event_of, others_add_none, own_calls, stands}
use Rattle.mk_heap.proofs.Below.Objects.OneCalls.{OneCall, before_call, one_call, through_call}
use Rattle.mk_heap.proofs.Below.Objects.Decisions.{none_by, own_more}
use Rattle.mk_clients.proofs.Owned.{HasStored, KeepsNumber, access_admitted, keeps_by_others, load_replies, new_owns}
use Rattle.mk_clients.proofs.Owned.{store_leaves, store_replies}
use Rattle.mk_clients.specs.Owned.{store_then_load, HasNumber, OwnsNumber, OwnsNumberIn, number_owned}
use Rattle.mk_heap.specs.Below.Callers.Called.{Called, IsDecidedIn, FindsGateHeld}
use Rattle.mk_heap.specs.Below.{Callers.States.{Admits, never_of}, Words.declared.call_steps.Held.Held}
use Rattle.mk_never.specs.{NeverHeap.after_op, declared.operations.Reply.Reply}

-- Events among whose calls the caller has none keep its number.
pub kept : {c : Config} (es more : List Event) {k d : ℕ} → IsHistory c (es ++ more)
    → calls_by k (calls_from c (left c es) more) ≡ [] → OwnsNumberIn (never_behind c es) k d
    → KeepsNumber (never_behind c es) k d (never_behind c (es ++ more))
kept {c} es more {k = k} {d = d} h none owns =
    subst (λ (m : NeverState). KeepsNumber (never_behind c es) k d m) (sym (never_in_parts c es more)) (keeps_by_others
    _ _ owns ((admitted_in_parts c es more).0 h.admitted).1 (none_by k _ none))

-- over a call of the pass's caller
module _ {p : PassState} {o : Op} {a : Answer} {more : List Event} {decided : IsDecidedIn p o a more}
    (one : OneCall p o a more decided) (history : IsHistory p.table.config (p.seen ++ more)) where
  abbrev c : Config
  c = p.table.config

  abbrev k : ℕ
  k = caller_of_pass p

  never_through : never_behind c (through_call decided) ≡ after_op (never_behind c (before_call decided)) k o
  never_through =
      (comes_last c (before_call decided) decided.event one.through).never
      ∙ ap (λ (l : List Decided). after_calls (never_behind c (before_call decided)) (asked l)) one.decides

  pub admitted_before : AreAdmitted c.globals (never_behind c (before_call decided))
      (asked (record { caller = caller_of_pass p; op = o; answer = a } ∷ []))
  admitted_before = rw one.decides at (comes_last c (before_call decided) decided.event one.through).admitted

  module _ {d : ℕ} where
    -- The caller's number is kept up to the event,
    pub kept_before : OwnsNumber p d → KeepsNumber (never_of p) k d (never_behind c (before_call decided))
    kept_before owns = kept p.seen decided.before one.before one.none_before owns

    -- and after it.
    kept_later : OwnsNumberIn (never_behind c (through_call decided)) k d → KeepsNumber
        (never_behind c (through_call decided)) k d (never_behind c (through_call decided ++ decided.behind))
    kept_later owns =
        kept _ decided.behind (subst (λ (l : List Event). IsHistory c l) one.cut history) one.none_behind owns

    -- So it has the number that the operation leaves.
    pub number_left : (n : ℕ) → HasStored k d n (after_op (never_behind c (before_call decided)) k o)
        → HasNumber (record p { seen = p.seen ++ more }) d n
    number_left n stored = grind (arith, through_call, never_through, kept_later, one.cut)

-- A store is done, and the number is that one;
pub record IsStored (a : Answer) (q : PassState) (d n : ℕ) : Type 0 where
  pub done : a ≡ Answer.Done
  pub has : HasNumber q d n

-- a load is answered by the number, which stays.
pub record IsLoaded (a : Answer) (q : PassState) (d n : ℕ) : Type 0 where
  pub tells : a ≡ Answer.Num n
  pub has : HasNumber q d n

module _ {p q : PassState} {a : Answer} (d : ℕ) (owns : OwnsNumber p d) where
  seen_history : {o : Op} → (c : Called p o a q) → IsHistory p.table.config (p.seen ++ c.more)
  seen_history c = subst (λ (r : PassState). IsHistory r.table.config r.seen) c.is c.pass.history

  bases : {o : Op} → Called p o a q → List ℕ
  bases c = bases_of (left p.table.config (p.seen ++ c.decided.before ++ c.decided.event ∷ [])).allocations

  pub stored : {n : ℕ} → Called p (Op.SetNum d 0 n) a q → IsStored a q d n
  unfolding bases
  stored {n} c =
      let one = one_call {p = p} refl (seen_history c) c.entry c.decided in
      let there = kept_before one (seen_history c) owns in
      record {
        done = c.decided.reply ∙ ap (λ (r : Reply). answer_of (bases c) r) (store_replies n there.owns);
        has = subst (λ (r : PassState). HasNumber r d n) (sym c.is) (number_left one (seen_history c) n
            (store_leaves _ _ d n there.owns));
      }

  pub loaded : Called p (Op.GetNum d 0) a q → IsLoaded a q d (number_owned p d)
  unfolding bases
  loaded c =
      let one = one_call {p = p} refl (seen_history c) c.entry c.decided in
      let there = kept_before one (seen_history c) owns in
      record {
        tells =
            c.decided.reply ∙ ap (λ (r : Reply). answer_of (bases c) r) (load_replies there.owns)
            ∙ ap Answer.Num there.same;
        has = rw c.is (number_left one (seen_history c) _ (record { owns = there.owns; stored = there.same }));
      }

-- So neither is refused, but where the gate is held: then there is no call.
pub held_keeps : {p q : PassState} {o : Op} (d : ℕ) → OwnsNumber p d
    → FindsGateHeld p o q → HasNumber q d (number_owned p d)
held_keeps {p} {q} {o} d owns f =
    let more : List Event = f.finds.makes.others ++ event_of p (Step.Enter o) ∷ [] in
    let c : Config = p.table.config in
    let is : q ≡ record p { seen = p.seen ++ more } = grind (arith, append_assoc) in
    let none = own_more c (caller_of_pass p) p.seen more [] (ap (λ (r : PassState). own_calls p r.seen) (sym is)
    ∙ f.entries ∙ sym (append-nil (own_calls p p.seen))) in
    let keeps = kept p.seen more
    (subst (λ (r : PassState). IsHistory r.table.config r.seen) is f.pass.history) none owns in
    subst (λ (r : PassState). HasNumber r d (number_owned p d)) (sym is) (record { owns = keeps.owns; is = keeps.same })

-- A New of one number that was granted gives its caller that number, which is 0.
pub granted : (p : PassState) (d ty : ℕ) (more : List Event) → IsHistory p.table.config (p.seen ++ more) → own_calls p
    (p.seen ++ more) ≡ own_calls p p.seen ++ entry_of (caller_of_pass p) (Op.New d ty false) (Some Answer.Done)
    → IsDecidedIn p (Op.New d ty false) Answer.Done more → kinds_of p.table.config.types ty ≡ Number ∷ []
    → HasNumber (record p { seen = p.seen ++ more }) d 0
granted p d ty more history entry decided kinds =
    let c : Config = p.table.config in
    let one = one_call {p = p} refl history entry decided in
    let all = (stands c (before_call decided) one.before).all.mirrors in
    let asks = (admitted_before one history).0 in
    number_left one history 0 (new_owns _ d ty all.typed asks.of_a_caller asks.in_range.0
    (ap (λ (types : List (List Kind)). kinds_of types ty) all.types ∙ kinds))

-- Its caller may store and load.

pub may_store : (p : PassState) (d n : ℕ) → OwnsNumber p d → Admits p (Op.SetNum d 0 n)
may_store p d n owns = grind (arith, access_admitted)

pub may_load : (p : PassState) (d : ℕ) → OwnsNumber p d → Admits p (Op.GetNum d 0)
may_load p d owns = grind (arith, access_admitted)

-- Events of others keep it.
pub owned_numbers_stay : (p : PassState) (more : List Event) (d : ℕ) → IsHistory p.table.config (p.seen ++ more)
    → AreOfOthers (Caller (caller_of_pass p) ∷ []) more → OwnsNumber p d
    → HasNumber (record p { seen = p.seen ++ more }) d (number_owned p d)
owned_numbers_stay p more d h others owns =
    let c : Config = p.table.config in
    let keeps = kept p.seen more h (own_more c (caller_of_pass p) p.seen more []
    (others_add_none c (caller_of_pass p) p.seen more others ∙ sym (append-nil (own_calls p p.seen)))) owns in
    record { owns = keeps.owns; is = keeps.same }

-- One entry more, said of the pass as it is now
pub entry_now : (p q : PassState) (more : List Event) (x : Decided) → q ≡ record p { seen = p.seen ++ more }
    → own_calls p (p.seen ++ more) ≡ own_calls p p.seen ++ x ∷ [] → own_calls q q.seen ≡ own_calls p p.seen ++ x ∷ []
entry_now p q more x is entry = ap (λ (r : PassState). own_calls r r.seen) is ∙ entry

-- A store, and a load after it

pub loads_stored : {b : PassState} {d n : ℕ} (r : Result ℕ Held) → HasNumber b d n → IfOk r (λ x. x ≡ number_owned b d)
    → IfOk r (λ x. x ≡ n)
loads_stored x0 has is = grind arith

pub both_done : {p b : PassState} (q : PassState) {d n : ℕ} (r : Result ℕ Held) → Called p
    (Op.SetNum d 0 n) Answer.Done b → IfOk r (λ x. x ≡ n) → IfOk r (λ x. Called b (Op.GetNum d 0) (Answer.Num x) q)
    → OnOk r (own_calls q q.seen ≡ own_calls p p.seen ++ store_then_load (caller_of_pass p) d n)
both_done q x1 set is get = grind (arith, entry_now, append_assoc)

-- after what was done before
pub done_behind : (l l1 l2 : List Decided) (x : Decided) (xs : List Decided) → l1 ≡ l ++ x ∷ [] → l2 ≡ l1 ++ xs
    → l2 ≡ l ++ x ∷ xs
done_behind l l1 l2 x xs first more = more ∙ ap (λ (ys : List Decided). ys ++ xs) first ∙ append_assoc l (x ∷ []) xs
