-- Operations one after the other, from the point of a job where its caller was.
use Rattle.std.proofs.Common.{IfSome}
use Rattle.mk_jobs.proofs.RunVocabulary.{Answer, Answers, Asks, CallerState, GoesToPoint, HoldsAt, IsHistory, IsMadeFor}
use Rattle.mk_jobs.proofs.RunVocabulary.{IsReady, Leads, Op, PassState, Plan, Replied, StaysAdmitted, Step, as_told}
use Rattle.mk_jobs.proofs.RunVocabulary.{after_op, answer_of, caller_of_pass, flagged, never_of, next_by, op_of}
use Rattle.mk_jobs.proofs.{RunVocabulary.{register_at, replied_to, reply_of, value_of}, Holds.{HoldsIn, same_so}}
use Rattle.mk_jobs.proofs.{Leading.steps_on, Meeting.IsStateOf, Replies.{Happens, from_turn, once_open, stays}}
use Rattle.mk_jobs.proofs.{Stepping.admits, Unused.{SetsBelow, from_stays, used_only}}
use Rattle.mk_jobs.specs.{Jobs.IsEnd, Typing.IsTyped}
use Rattle.mk_heap.proofs.Below.Laws.Vocabulary.{Bool, List, Option, Some, ℕ, ap, append-nil, append_assoc, arith}
use Rattle.mk_heap.proofs.Below.Laws.Vocabulary.{false, inl, inr}
use Rattle.mk_heap.proofs.Below.Laws.Vocabulary.{is_under_turn, refl, subst, sym, true, [], ◌++◌, ◌<◌, ◌∙◌, ◌∷◌, ◌≡◌}
use Rattle.mk_heap.proofs.Below.Laws.{CallSorts.flag_is, LastEvents.stands}
use Rattle.mk_heap.specs.{Below.{Callers.States.Admits, Objects.TurnCalls.MayTakeTurns}, Dispatching.unflagged}
use Rattle.mk_never.specs.Admitted.{IsAdmitted, IsTyped as IsTypedState}
use Rattle.mk_jobs.specs.declared.steps.Step.TheVariants as step

-- what holds of the operation that is asked
of_asked : (P : Op → Type 0) {x : Option Op} {o : Op} → x ≡ Some o → IfSome x P → P o
of_asked P is h = subst (λ (y : Option Op). IfSome y P) is h

-- Where a call was decided, and what its caller is told
record Told (p : PassState) (o : Op) (told : Answer) (q : PassState) : Type 0 where
  pub answer : Answer
  pub is_told : told ≡ as_told answer
  pub happens : Happens p (flagged o answer) answer q

flagged_alike : (o : Op) (a : Answer) → flagged (unflagged o) a ≡ flagged o a
flagged_alike x0 a = grind arith

told_so : {on : Bool} {p q : PassState} {o : Op} {told : Answer} → IsHistory q.table.config q.seen
    → Answers on p o told q → Told p o told q
told_so {p} {q} {o} {told} history answers = by (is_under_turn o) refl
  where
    by : (b : Bool) → is_under_turn o ≡ b → Told p o told q
    by true e = record {
      answer = answers.answer;
      is_told = answers.is_told;
      happens = rw (flagged_alike o answers.answer) at (from_turn (answers.in_turn e) history);
    }
    by false e =
        let c = once_open e answers in
        record { answer = c.answer; is_told = c.is_told; happens = rw (flag_is o c.answer e) c.happens }

pub seen_then : (p q r : PassState) → q ≡ record p { seen = q.seen } → r ≡ record q { seen = r.seen }
    → r ≡ record p { seen = r.seen }
seen_then p q r is next = next ∙ ap (λ (s : PassState). record s { seen = r.seen }) is

module _ {Job Done Point : Type 0} (p : Plan Job Done Point) where
  leads_through : (s : Point) (xs : List Replied) (t : Point) (ys : List Replied) (u : Point) → Leads p s xs t
      → Leads p t ys u → Leads p s (xs ++ ys) u
  leads_through s [] t ys u leads on = subst (λ (x : Point). Leads p x ys u) (sym leads) on
  leads_through s (x ∷ xs) t ys u (inl step) on = inl (step.0, step.1, leads_through step.0 xs t ys u step.2 on)
  leads_through s (x ∷ xs) t ys u (inr clear) on = inr (clear.0, clear.1, leads_through s xs t ys u clear.2 on)

  pub goes_nowhere : (q : PassState) (s : Point) → GoesToPoint p q s q s
  goes_nowhere q s = record {
    is = refl;
    all = [];
    leads = refl;
    did = sym (append-nil (replied_to q));
    others = λ y ge lt. refl;
  }

  pub goes_through : {q r u : PassState} {s t w : Point} → GoesToPoint p q s r t → GoesToPoint p r t u w
      → GoesToPoint p q s u w
  goes_through {q} {r} {u} {s} {t} {w} goes on = record {
    is = seen_then q r u goes.is on.is;
    all = goes.all ++ on.all;
    leads = leads_through s goes.all t on.all w goes.leads on.leads;
    did = on.did ∙ ap (λ (l : List Replied). l ++ on.all) goes.did ∙ append_assoc (replied_to q) goes.all on.all;
    others = λ y ge lt. on.others y ge lt ∙ goes.others y ge lt;
  }

  -- A caller that has seen more is ready still.

  pub made_on : (q : PassState) {r : PassState} → r ≡ record q { seen = r.seen } → IsMadeFor p q.table.config
      → IsMadeFor p r.table.config
  made_on q is made = subst (λ (x : PassState). IsMadeFor p x.table.config) (sym is) made

  pub ready_on : {E : Type 0} {made_for : E → ℕ} {c d : CallerState} {b : E} (e : E) → IsReady p made_for c b
      → d.home ≡ true → d.pass ≡ record c.pass { seen = d.pass.seen } → made_for e ≡ made_for b
      → IsReady p made_for d e
  ready_on {c = c} e ready home is made = record {
    may = grind arith;
    made = made_on c.pass is ready.made;
  }

  -- The state after what the pass of a caller has seen
  seen_state : (q : PassState) → caller_of_pass q < q.table.config.callers → IsMadeFor p q.table.config
      → IsHistory q.table.config q.seen → IsStateOf p.types p.globals (never_of q) (caller_of_pass q)
  seen_state q exists made history =
      let mirrors = (stands q.table.config q.seen history).all.mirrors in
      record {
        typed = subst (λ (gs : List ℕ). IsTypedState gs (never_of q)) made.globals mirrors.typed;
        types_are = mirrors.types ∙ made.types;
        count = mirrors.global_count;
        caller = omega (arith, exists, mirrors.register_count);
      }

  -- What is admitted wherever the registers are as they are now stays admitted as long as the caller makes no call.
  pub admitted_by_registers : {c : CallerState} {pages : ℕ} {o : Op} → MayTakeTurns pages c
      → IsMadeFor p c.pass.table.config
      → ((q : PassState) → IsMadeFor p q.table.config → IsStateOf p.types p.globals (never_of q) (caller_of_pass q)
      → ((r : ℕ) → r < 8 → value_of q r ≡ value_of c.pass r) → Admits q o) → StaysAdmitted c.pass o
  admitted_by_registers {c} may made admits q history none =
      let exists = subst (λ (x : PassState). caller_of_pass x < x.table.config.callers) (sym none.is) may.exists in
      let here = made_on c.pass none.is made in
      admits q here (seen_state q exists here history) (stays none).registers

  module _ (typed : IsTyped p) where
    pub may_ask : {c : CallerState} {pages : ℕ} (s : Point) {o : Op} → MayTakeTurns pages c
        → IsMadeFor p c.pass.table.config → op_of (p.step s) ≡ Some o → HoldsAt p (value_of c.pass) s
        → StaysAdmitted c.pass o
    may_ask {c} s {o} may made is holds =
        admitted_by_registers may made (λ q here state same.
        subst (λ (gs : List ℕ). IsAdmitted gs (never_of q) (caller_of_pass q) o) (sym here.globals)
        (of_asked (IsAdmitted p.globals (never_of q) (caller_of_pass q)) is
        (admits p state (p.holds s) (p.step s) (typed.steps s)
        (same_so (value_of c.pass) (value_of q) (p.holds s) same holds))))

    -- One operation of a caller, which leads to t
    pub record Advances (q : PassState) (s : Point) (r : PassState) (t : Point) : Type 0 where
      pub goes : GoesToPoint p q s r t
      pub holds : HoldsAt p (value_of r) t

    place_state : {q r : PassState} {o : Op} {a : Answer} → IsMadeFor p q.table.config → (h : Happens q o a r)
        → IsStateOf p.types p.globals h.n (caller_of_pass q)
    place_state made h = record {
      typed = subst (λ (gs : List ℕ). IsTypedState gs h.n) made.globals h.typed;
      types_are = h.types ∙ made.types;
      count = h.count;
      caller = h.caller;
    }

    pub advances : {on : Bool} {q r : PassState} (s : Point) {t : Point} {o : Op} {told : Answer}
        → t ≡ next_by p.with_number s (p.step s) told → IsMadeFor p q.table.config
        → IsHistory r.table.config r.seen → op_of (p.step s) ≡ Some o → HoldsAt p (value_of q) s
        → Answers on q o told r → Advances q s r t
    advances {q = q} {r = r} s {t} {o} {told} leads made history is holds answers =
        let x = told_so history answers in
        let h = x.happens in
        let k = caller_of_pass q in
        let at_answer = λ (a : Answer). next_by p.with_number s (p.step s) (as_told a) in
        let on = of_asked (λ (y : Op). (a : Answer) (bases : List ℕ) → a
        ≡ answer_of bases (reply_of h.n k (flagged y a))
        → Asks p.with_number (p.step s) (flagged y a) (reply_of h.n k (flagged y a)) (at_answer a)
        × HoldsIn (register_at (after_op h.n k (flagged y a)) k) (p.holds (at_answer a))) is
        (steps_on p (place_state made h) s (p.holds s) (p.step s) (typed.steps s)
        (same_so (value_of q) (register_at h.n k) (p.holds s)
        (λ y lt. h.before y lt) holds)) x.answer h.bases h.image in
        let sets = of_asked (λ (y : Op). (a : Answer) → SetsBelow p.registers (flagged y a)) is
        (used_only p (p.holds s) (p.step s) (typed.steps s)) x.answer in
        let there : t ≡ at_answer x.answer = leads ∙ ap (next_by p.with_number s (p.step s)) x.is_told in
        subst (Advances q s r) (sym there) (record {
          goes = record {
            is = h.is;
            all = record { op = flagged o x.answer; reply = reply_of h.n k (flagged o x.answer) } ∷ [];
            leads = inl (at_answer x.answer, on.0, refl);
            did = h.did;
            others = λ y ge lt. h.after y lt
                ∙ from_stays h.n k p.registers (flagged o x.answer) sets y ge
                ∙ h.before y lt;
          };
          holds = same_so (register_at (after_op h.n k (flagged o x.answer)) k) (value_of r)
              (p.holds (at_answer x.answer)) (λ y lt. h.after y lt) on.1;
        })

-- Where nothing is asked any more
pub is_end : {Point Done : Type 0} (st : Step Point Done) → ((o : Op) → op_of st ≡ Some o → ⊥) → IsEnd st
is_end (step.End done) none = tt
is_end _ none = absurd (none _ refl)

pub ended_with : {Point Done : Type 0} (st : Step Point Done) → IsEnd st → (d : Done) × (st ≡ step.End d)
ended_with (step.End done) is = (done, refl)
ended_with _ is = absurd is
