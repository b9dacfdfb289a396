-- One entry more among a caller's calls is that of one event, which decides it. What the other events decide is of
-- other callers, and leaves the caller its registers.
use Rattle.mk_caller.proofs.Below.Laws.Vocabulary.{admitted_in_parts, admitted_keep, answered, answers_of, bases_of}
use Rattle.mk_caller.{proofs.Below.Laws.Vocabulary.{flagged, never_in_parts, replies_of}, specs.Called.{IsDecidedIn}}
use Rattle.mk_caller.proofs.Below.Laws.ImagesHistories.{one_event}
use Rattle.mk_alloc.proofs.Vocabulary.{Answer, Bool, Config, Decided, Event, IsHistory, KeepsRegisters, List, Op}
use Rattle.mk_alloc.proofs.Vocabulary.{PassState, Some, World, ℕ, after_calls, ap, append-nil, append_assoc, arith}
use Rattle.mk_alloc.proofs.Vocabulary.{asked, by_append, call_decided, caller_of_pass, calls, calls_by, calls_in_parts}
use Rattle.mk_alloc.proofs.Vocabulary.{comes_last, earlier_part_is_history, entry_of, eq-eqb, false, if◌then◌else◌}
use Rattle.mk_alloc.proofs.Vocabulary.{left, left_in_parts, never_behind, own_calls, refl, stands, subst, sym}
use Rattle.mk_alloc.proofs.Vocabulary.{told_to_images, true, true≢false, world_behind, [], ◌++◌, ◌==◌, ◌∙◌, ◌∷◌, ◌≡◌}
use Rattle.mk_never.specs.{Laws.AreNotBy, NeverHeap.after_op}
use Rattle.mk_core.specs.History.{calls_from, left_from}

pub same_last : (xs ys zs : List Decided) → xs ++ ys ≡ xs ++ zs → ys ≡ zs
same_last [] ys zs h = h
same_last (x ∷ xs) ys zs h = let tail : xs ++ ys ≡ xs ++ zs = cc in same_last xs ys zs tail

-- What a caller's calls are more by is what it has of those since.
pub own_more : (c : Config) (k : ℕ) (es more : List Event) (xs : List Decided) → calls_by k (calls c (es ++ more))
    ≡ calls_by k (calls c es) ++ xs → calls_by k (calls_from c (left c es) more) ≡ xs
own_more c k es more xs h =
    same_last (calls_by k (calls c es)) _ xs (sym (by_append k (calls c es) (calls_from c (left c es) more))
    ∙ ap (λ (l : List Decided). calls_by k l) (sym (calls_in_parts c es more)) ∙ h)

none_left : (xs ys : List Decided) → xs ++ ys ≡ [] → (xs ≡ []) × (ys ≡ [])
none_left [] ys h = (refl, h)
none_left (x ∷ xs) ys h = cc

-- The event among these whose entry is the caller's only one.
record Decision (c : Config) (k : ℕ) (w : World) (more : List Event) (x : Decided) : Type 0 where
  before : List Event
  event : Event
  behind : List Event
  is : more ≡ before ++ event ∷ behind
  own : calls_by k (call_decided c (left_from c w before).now event) ≡ x ∷ []
  none_before : calls_by k (calls_from c w before) ≡ []
  none_behind : calls_by k (calls_from c (world_behind c (left_from c w before) event) behind) ≡ []

decision : (c : Config) (k : ℕ) (w : World) (more : List Event) (x : Decided)
    → calls_by k (calls_from c w more) ≡ x ∷ [] → Decision c k w more x
unfolding calls_from left_from
decision c k w [] x h = cc
decision c k w (e ∷ rest) x h =
    by (calls_by k (call_decided c w.now e)) refl (sym (by_append k (call_decided c w.now e)
    (calls_from c (world_behind c w e) rest)) ∙ h) (λ y. decision c k (world_behind c w e) rest x y)
  where
    by : (ds : List Decided) → calls_by k (call_decided c w.now e) ≡ ds
        → calls_by k (call_decided c w.now e) ++ calls_by k (calls_from c (world_behind c w e) rest) ≡ x ∷ []
        → (calls_by k (calls_from c (world_behind c w e) rest) ≡ x ∷ [] → Decision c k (world_behind c w e) rest x)
        → Decision c k w (e ∷ rest) x
    by [] is both next =
        let d = next
        (ap (λ (l : List Decided). l ++ calls_by k (calls_from c (world_behind c w e) rest)) (sym is) ∙ both) in
        record {
          before = e ∷ d.before;
          event = d.event;
          behind = d.behind;
          is = ap (λ (l : List Event). e ∷ l) d.is;
          own = d.own;
          none_before = by_append k (call_decided c w.now e) (calls_from c (world_behind c w e) d.before) ∙ ap
              (λ (l : List Decided). l ++ calls_by k (calls_from c (world_behind c w e) d.before)) is ∙ d.none_before;
          none_behind = d.none_behind;
        }
    by (y ∷ ys) is both next =
        let last : List Decided = calls_by k (calls_from c (world_behind c w e) rest) in
        let whole : y ∷ (ys ++ last) ≡ x ∷ [] = ap (λ (l : List Decided). l ++ last) (sym is) ∙ both in
        let tail : ys ++ last ≡ [] = cc in
        let head : y ≡ x = cc in
        let none = none_left ys last tail in
        record {
          before = [];
          event = e;
          behind = rest;
          is = refl;
          own = is ∙ ap (λ (z : Decided). z ∷ ys) head ∙ ap (λ (l : List Decided). x ∷ l) none.0;
          none_before = refl;
          none_behind = none.1;
        }

-- Calls among which the caller has none are of others.
pub none_by : (k : ℕ) (xs : List Decided) → calls_by k xs ≡ [] → AreNotBy k (asked xs)
none_by k [] h = tt
none_by k (x ∷ xs) h = by (x.caller == k) refl h (none_by k xs)
  where
    by : (b : Bool) → (x.caller == k) ≡ b → (if b then x ∷ calls_by k xs else calls_by k xs) ≡ []
        → (calls_by k xs ≡ [] → AreNotBy k (asked xs)) → AreNotBy k (asked (x ∷ xs))
    by true is none next = cc
    by false is none next = ((λ same. true≢false (sym (eq-eqb x.caller k same) ∙ is)), next none)

-- They leave the caller its registers.
pub registers_stay : {c : Config} (es more : List Event) (k : ℕ) → IsHistory c (es ++ more) → calls_by k
    (calls_from c (left c es) more) ≡ [] → KeepsRegisters k (never_behind c es) (never_behind c (es ++ more))
registers_stay {c} es more k h none =
    rw (never_in_parts c es more) (admitted_keep c.globals (never_behind c es) k (asked (calls_from c (left c es) more))
    ((admitted_in_parts c es more).0 h.admitted).1 (none_by k (calls_from c (left c es) more) none))

flagged_once : (o : Op) (a : Answer) → flagged (flagged o a) a ≡ flagged o a
flagged_once x0 a = grind arith

module _ (p : PassState) (o : Op) (a : Answer) (more : List Event) (history : IsHistory p.table.config (p.seen ++ more))
    (entry : own_calls p (p.seen ++ more) ≡ own_calls p p.seen ++ entry_of (caller_of_pass p) o (Some a)) where
  abbrev c : Config
  c = p.table.config

  abbrev k : ℕ
  k = caller_of_pass p

  abbrev x : Decided
  x = record { caller = caller_of_pass p; op = flagged o a; answer = a }

  found : Decision c k (left c p.seen) more x
  found = decision c k (left c p.seen) more x (own_more c k p.seen more (x ∷ []) entry)

  abbrev es : List Event
  es = p.seen ++ found.before

  there : left c es ≡ left_from c (left c p.seen) found.before
  there = left_in_parts c p.seen found.before

  cut : p.seen ++ more ≡ (es ++ found.event ∷ []) ++ found.behind
  cut =
      ap (λ (l : List Event). p.seen ++ l) found.is ∙ sym (append_assoc p.seen found.before
      (found.event ∷ found.behind)) ∙ sym (append_assoc es (found.event ∷ []) found.behind)

  whole : IsHistory c ((es ++ found.event ∷ []) ++ found.behind)
  whole = subst (λ (l : List Event). IsHistory c l) cut history

  through : IsHistory c (es ++ found.event ∷ [])
  through = earlier_part_is_history c (es ++ found.event ∷ []) found.behind whole

  decides : call_decided c (left c es).now found.event ≡ x ∷ []
  decides = grind (arith, found, es, calls_by, there)

  never : never_behind c (es ++ found.event ∷ []) ≡ after_op (never_behind c es) k (flagged o a)
  never =
      (comes_last c es found.event through).never
      ∙ ap (λ (l : List Decided). after_calls (never_behind c es) (asked l)) decides

  behind_none : calls_by k (calls_from c (left c (es ++ found.event ∷ [])) found.behind) ≡ []
  behind_none =
      ap (λ (w : World). calls_by k (calls_from c w found.behind)) ((comes_last c es found.event through).leaves ∙ ap
      (λ (w : World). world_behind c w found.event) there) ∙ found.none_behind

  pub decided_in : IsDecidedIn p (flagged o a) a more
  decided_in = record {
    before = found.before;
    event = found.event;
    behind = found.behind;
    is = found.is;
    decides = decides ∙ ap (λ (y : Op). record { caller = k; op = y; answer = a } ∷ []) (sym (flagged_once o a));
    reply = let one = let last = comes_last c es found.event through in
        let st = stands c es last.before in
        let f = one_event c (left c es) (never_behind c es) found.event st.known
        (told_to_images c (left c es) (never_behind c es) st.known st.all) st.all.mirrors last.on last.admitted in
        sym (ap (λ (l : List Decided). answered l) decides) ∙ f.right [] ∙ ap (λ (bs : List ℕ). answers_of bs
        (replies_of (never_behind c es) (asked (call_decided c (left c es).now found.event)))) (append-nil (bases_of
        (world_behind c (left c es) found.event).allocations)) ∙ ap (λ (w : World). answers_of (bases_of w.allocations)
        (replies_of (never_behind c es) (asked (call_decided c (left c es).now found.event)))) (sym last.leaves)
        ∙ ap (λ (l : List Decided). answers_of (bases_of (left c (es ++ found.event ∷ [])).allocations)
        (replies_of (never_behind c es) (asked l))) decides in cc one;
    known = registers_stay p.seen found.before k (comes_last c es found.event through).before found.none_before;
    left_so =
        rw never at (rw (← cut) at (registers_stay (es ++ found.event ∷ []) found.behind k whole behind_none));
  }
