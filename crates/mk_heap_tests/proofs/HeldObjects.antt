-- Callers that make and free objects keep to pointers to first words.
use Rattle.std.proofs.Common.{IfErr, IfOk, OnErr}
use Rattle.mk_run.proofs.Below.Laws.Vocabulary.{Answer, Bool, Event, List, NeverState, Null, Op, Seat, Value, ℕ}
use Rattle.mk_run.proofs.Below.Laws.Vocabulary.{after_free, ap}
use Rattle.mk_run.proofs.Below.Laws.Vocabulary.{arith, cases_eq, false, flagged, get_or-set_other, inl, inr, length}
use Rattle.mk_run.proofs.Below.Laws.Vocabulary.{refl}
use Rattle.mk_run.proofs.Below.Laws.Vocabulary.{register_at, subst, sym, true, [], ◌*◌, ◌+◌, ◌<◌, ◌∙◌, ◌∷◌, ◌≡◌, ◌≢◌}
use Rattle.mk_run.proofs.Below.Laws.OtherCalls.{never_continues}
use Rattle.mk_heap_tests.proofs.Vocabulary.{BothMayAllocate, CallerState, Err, IsAtHome, IsIdleCaller, IsPassOfObjects}
use Rattle.mk_heap_tests.proofs.Vocabulary.{MayAllocate, Ok, OnOk, PassState, Result, WordsState, caller_of_pass}
use Rattle.mk_heap_tests.proofs.{Vocabulary.value_of, JoinedHosts.{has_registers, null_at_first, pass_after}}
use Rattle.mk_never.specs.{Admitted.IsBase, NeverHeap.after_op}
use Rattle.mk_run.specs.Below.Objects.TurnCalls.{CalledInTurn, FreesObject, IsAnsweredDouble, IsAnsweredFull}
use Rattle.mk_run.specs.Below.{Objects.declared.making.Full.Full, Callers.States.never_then}
use Rattle.mk_run.specs.Below.Objects.declared.retirement.{Double.Double, Freed.Freed}
use Rattle.mk_run.proofs.Below.Callers.After.{set_same}
use Rattle.mk_heap_tests.specs.HeldObjects.{BothGoOn, GoesOn, HoldsObjects, MayMakeObjects}
use Rattle.mk_run.specs.Below.Heaps.Hosts.{IsFirstPass}

-- what calls ask of such a caller

pub number_is : {m : ℕ} {s : CallerState} → MayAllocate m s → caller_of_pass s.pass < s.pass.table.config.callers
number_is may = grind arith

pub is_alone : {m : ℕ} {s : CallerState} → MayAllocate m s → s.pass.seats ≡ s.pass.seat ∷ []
is_alone may = may.ready.alone ∙ ap (λ (x : Seat). x ∷ []) (sym may.ready.seat)

-- What a call under the turn leaves in a register.

left_there : {on : Bool} {p q : PassState} {o : Op} {a : Answer} → (c : CalledInTurn on p o a q) → (r : ℕ) → r < 8
    → value_of q r ≡ register_at (after_op (never_then p c.decided.before) (caller_of_pass p) (flagged o a))
    (caller_of_pass p) r
left_there {on} {p} c r lt = ap (λ (x : PassState). value_of x r) c.is ∙ c.decided.left_so r lt

new_sets : {on : Bool} {p q : PassState} {d ty : ℕ} → CalledInTurn on p (Op.New d ty false) Answer.Done q
    → caller_of_pass p < p.table.config.callers → d < 8 → IsBase (value_of q d)
new_sets {on} {p} {q} {d} {ty} c exists lt = grind (arith, left_there, set_same, never_continues, has_registers)

new_leaves : {on : Bool} {p q : PassState} {d ty : ℕ} → (c : CalledInTurn on p (Op.New d ty false) Answer.Done q)
    → (r : ℕ) → r < 8 → r ≢ d → value_of q r ≡ value_of p r
new_leaves {on} {p} {q} {d} {ty} c r lt other =
    let n : NeverState = never_then p c.decided.before in
    left_there c r lt ∙ get_or-set_other n.registers (8 * caller_of_pass p + d) (8 * caller_of_pass p + r) _ Null
    (λ e. other (omega arith)) ∙ c.decided.known r lt

new_keeps : {on : Bool} {p q : PassState} {d ty : ℕ} → CalledInTurn on p (Op.New d ty false) Answer.Done q
    → caller_of_pass p < p.table.config.callers → d < 8 → HoldsObjects p → HoldsObjects q
new_keeps {on} {p} {q} {d} c exists small h r lt = elim (cases_eq r d) [
  | inl same ↦ subst (λ (i : ℕ). IsBase (value_of q i)) (sym same) (new_sets c exists small)
  | inr other ↦ subst (λ (v : Value). IsBase v) (sym (new_leaves c r lt other)) (h r lt)
]

free_leaves : (n : NeverState) (k r : ℕ) (v : Value) → register_at (after_free n v) k r ≡ register_at n k r
free_leaves n k r x3 = grind arith

pub free_keeps : {on : Bool} {a : Answer} {p q : PassState} {x : ℕ} → CalledInTurn on p (Op.Free x) a q
    → HoldsObjects p → HoldsObjects q
free_keeps {p = p} c h r lt =
    let n : NeverState = never_then p c.decided.before in
    subst (λ (v : Value). IsBase v) (sym (left_there c r lt ∙ free_leaves n _ r _ ∙ c.decided.known r lt)) (h r lt)

-- So a caller goes on after each, with an engine of the same size.

seen_only : {on : Bool} {p q : PassState} {o : Op} {a : Answer} → CalledInTurn on p o a q
    → q ≡ record p { seen = q.seen }
seen_only {on} {p} {q} c =
    c.is ∙ ap (λ (es : List Event). record p { seen = es }) (sym (ap (λ (r : PassState). r.seen) c.is))

module _ {m n : ℕ} {s : CallerState} (t : CallerState) (may : MayAllocate m s) (engine : n ≡ m)
    (home : t.home ≡ true) where
  goes_on : t.pass ≡ record s.pass { seen = t.pass.seen } → HoldsObjects t.pass → GoesOn n s t
  goes_on is objects =
      let r = may.ready in
      record {
        may = record {
          ready = record {
            number = r.number;
            home = home;
            seat = ap (λ (p : PassState). p.seat) is ∙ r.seat;
            exists = subst (λ (p : PassState). r.number < p.table.config.callers) (sym is) r.exists;
            alone = ap (λ (p : PassState). p.seats) is ∙ r.alone;
            objects = objects;
          };
          ty = subst (λ (p : PassState). 0 < length p.table.config.types) (sym is) may.ty;
          engine = engine ∙ may.engine ∙ sym (ap (λ (p : PassState). p.table.config.pages) is);
        };
        same = is;
      }

  pub made_on : {T : Type 0} (on : Bool) (d : ℕ) (x : Result T Full) → d < 8
      → OnOk x (CalledInTurn on s.pass (Op.New d 0 false) Answer.Done t.pass)
      → IfErr x (λ full. IsAnsweredFull on s.pass (Op.New d 0 false) full.census t.pass) → GoesOn n s t
  made_on on d (Ok u) small made full =
      goes_on (seen_only made) (new_keeps made (number_is may) small may.ready.objects)
  made_on on d (Err e) small made full = goes_on (seen_only full.called)
      (λ r lt. subst (λ (v : Value). IsBase v) (sym (left_there full.called r lt ∙ full.called.decided.known r lt))
      (may.ready.objects r lt))

  pub freed_on : (on : Bool) (x : ℕ) (y : Result Freed Double) → IfOk y
      (λ freed. FreesObject on s.pass x freed.due t.pass) → OnErr y (IsAnsweredDouble on s.pass x t.pass) → GoesOn n s t
  freed_on on x (Ok f) freed double = goes_on (seen_only freed.called) (free_keeps freed.called may.ready.objects)
  freed_on on x (Err e) freed double = goes_on (seen_only double.called) (free_keeps double.called may.ready.objects)

pub goes_on_there : {m : ℕ} {s : CallerState} → MayAllocate m s → GoesOn m s s
goes_on_there may = record { may = may; same = refl }

pub goes_on_then : {m n : ℕ} {s t u : CallerState} → GoesOn m s t → GoesOn n t u → GoesOn n s u
goes_on_then {u = u} one two =
    record { may = two.may; same = two.same ∙ ap (λ (p : PassState). record p { seen = u.pass.seen }) one.same }

-- Where one of two callers goes on, the other may still allocate.

may_at : {m : ℕ} {s t : CallerState} → MayAllocate m s → t.pass.table ≡ s.pass.table → MayMakeObjects t
    → MayAllocate m t
may_at may same ready = record {
  ready = ready;
  ty = subst (λ (w : WordsState). 0 < length w.config.types) (sym same) may.ty;
  engine = may.engine ∙ sym (ap (λ (w : WordsState). w.config.pages) same);
}

module _ {m n : ℕ} {s t : CallerState} (both : BothMayAllocate m s t) where
  pub first_on : {u : CallerState} → GoesOn n s u → BothGoOn n s t u t
  first_on one =
      let table = both.one_table ∙ sym (ap (λ (p : PassState). p.table) one.same) in
      record {
        may = record { first = one.may; second = may_at one.may table both.second.ready; one_table = table };
        first = one.same;
        second = refl;
      }

  pub second_on : {v : CallerState} → GoesOn n t v → BothGoOn n s t s v
  second_on one =
      let table = ap (λ (p : PassState). p.table) one.same ∙ both.one_table in
      record {
        may = record { first = may_at one.may (sym table) both.first.ready; second = one.may; one_table = table };
        first = refl;
        second = one.same;
      }

pub both_then : {m n : ℕ} {s t u v x y : CallerState} → BothGoOn m s t u v → BothGoOn n u v x y → BothGoOn n s t x y
both_then one two = grind arith

-- Callers before their first call may make objects.

pub may_at_first : {w : WordsState} {k m : ℕ} {p : PassState} {s : CallerState} → IsFirstPass w k p → IsAtHome s p
    → k < w.config.callers → 0 < length w.config.types → m ≡ w.config.pages → MayAllocate m s
may_at_first {w} {k} {m} {p} {s} first is exists ty engine =
    let table : s.pass.table ≡ w = ap (λ (q : PassState). q.table) is.pass ∙ first.table in
    record {
      ready = record {
        number = k;
        home = is.home;
        seat = ap (λ (q : PassState). q.seat) is.pass ∙ first.seat;
        exists = subst (λ (v : WordsState). k < v.config.callers) (sym table) exists;
        alone = rw is.pass first.alone;
        objects = λ r lt. subst (λ (v : Value). IsBase v) (sym (null_at_first s.pass r (rw is.pass first.seen))) tt;
      };
      ty = subst (λ (v : WordsState). 0 < length v.config.types) (sym table) ty;
      engine = engine ∙ sym (ap (λ (v : WordsState). v.config.pages) table);
    }

pub both_may : {w : WordsState} {m : ℕ} {p q : PassState} {s t : CallerState} → IsFirstPass w 0 p → IsFirstPass w 1 q
    → IsAtHome s p → IsAtHome t q → w.config.callers ≡ 2 → 0 < length w.config.types → m ≡ w.config.pages
    → BothMayAllocate m s t
both_may first second is_s is_t two ty engine = record {
  first = may_at_first first is_s (omega arith) ty engine;
  second = may_at_first second is_t (omega arith) ty engine;
  one_table = cc (is_s.pass, is_t.pass, first.table, second.table);
}

-- The pass of one that has made objects.
pub pass_of_objects : {w : WordsState} {k : ℕ} {p q : PassState} {s t : CallerState} → IsFirstPass w k p
    → IsAtHome s p → t.pass ≡ record s.pass { seen = t.pass.seen } → MayMakeObjects t → q ≡ t.pass
    → IsIdleCaller t.pass → IsPassOfObjects w k q
pass_of_objects first is_s is_t ready is_q idle = grind (arith, pass_after)
