-- A caller sets its registers to null, one after the other.
use Rattle.mk_jobs.proofs.RunVocabulary.{Answer, Answers, CallerState, Clears, IsMadeFor, NeverState, Null, Leads, Op}
use Rattle.mk_jobs.proofs.RunVocabulary.{PassState, Plan, Replied, StaysAdmitted, caller_of_pass, register_at, never_of}
use Rattle.mk_jobs.proofs.{RunVocabulary.{replied_to, reply_of, value_of}, Replies.once_open, Stepping.may_clear}
use Rattle.mk_jobs.proofs.Walking.{admitted_by_registers, goes_through, seen_then}
use Rattle.mk_heap.proofs.Below.Laws.Vocabulary.{Bool, List, ℕ, ap, append-nil, append_assoc, arith, cases_eq}
use Rattle.mk_heap.proofs.Below.Laws.Vocabulary.{get_or-set_other}
use Rattle.mk_heap.proofs.Below.Laws.Vocabulary.{get_or-set_same, inl, inr, length, refl, subst, sym, with_register, []}
use Rattle.mk_heap.proofs.Below.Laws.Vocabulary.{◌*◌, ◌++◌}
use Rattle.mk_heap.proofs.Below.Laws.Vocabulary.{◌+◌, ◌<◌, ◌∙◌, ◌∷◌, ◌≡◌, ◌≢◌, ◌⊎◌}
use Rattle.mk_never.specs.Admitted.{IsAdmitted}
use Rattle.mk_heap.specs.Below.Objects.TurnCalls.{MayTakeTurns}
use Rattle.mk_jobs.{proofs.Vocabulary.AreClears, specs.{Passes.GoesToEnd, Jobs.IsEnd}}

cleared : (n : NeverState) (k d : ℕ) → 8 * k + d < length n.registers → register_at (with_register n k d Null) k d
    ≡ Null
cleared n k d there = get_or-set_same n.registers (8 * k + d) Null Null there

others_stay : (n : NeverState) (k d r : ℕ) → r ≢ d → register_at (with_register n k d Null) k r ≡ register_at n k r
others_stay n k d r other = get_or-set_other n.registers (8 * k + d) (8 * k + r) Null Null (λ e. other (omega arith))

pub none_cleared : (p : PassState) → Clears p 0 p
none_cleared p = record {
  is = refl;
  all = [];
  are = tt;
  did = sym (append-nil (replied_to p));
  null = λ r lt. absurd (omega (arith, lt));
  others = λ r ge lt. refl;
}

clears_append : (xs ys : List Replied) → AreClears xs → AreClears ys → AreClears (xs ++ ys)
clears_append [] ys a b = b
clears_append (x ∷ xs) ys a b = (a.0, clears_append xs ys a.1 b)

-- one register more
pub one_cleared : {on : Bool} {p q r : PassState} {told : Answer} (d : ℕ) → d < 8 → Clears p d q
    → Answers on q (Op.Clear d) told r → Clears p (d + 1) r
one_cleared {p = p} {q = q} {r = r} d lt before answers =
    let h = (once_open refl answers).happens in
    let k : ℕ = caller_of_pass q in
    let all : 8 * k + 7 < length h.n.registers = h.caller in
    let here : Replied = record { op = Op.Clear d; reply = reply_of h.n k (Op.Clear d) } in
    let null : (x : ℕ) → x < d + 1 → ((x ≡ d) ⊎ (x ≢ d)) → value_of r x ≡ Null =
    λ x less which. null_at h.n k all x less which (λ low. h.after x low) (λ low. h.before x low) in
    record {
      is = seen_then p q r before.is answers.is;
      all = before.all ++ here ∷ [];
      are = clears_append before.all (here ∷ []) before.are (lt, tt);
      did =
          h.did ∙ ap (λ (l : List Replied). l ++ here ∷ []) before.did
          ∙ append_assoc (replied_to p) before.all (here ∷ []);
      null = λ x less. null x less (cases_eq x d);
      others = λ x ge low. h.after x low ∙ others_stay h.n k d x (λ e. omega (arith, e, ge)) ∙ h.before x low
          ∙ before.others x (omega (arith, ge)) low;
    }
  where
    null_at : (n : NeverState) (k : ℕ) → 8 * k + 7 < length n.registers → (x : ℕ) → x < d + 1
        → ((x ≡ d) ⊎ (x ≢ d)) → (x < 8 → value_of r x ≡ register_at (with_register n k d Null) k x)
        → (x < 8 → register_at n k x ≡ value_of q x) → value_of r x ≡ Null
    null_at n k all x less (inl same) after known =
        after (omega (arith, lt, same)) ∙ rw same (cleared n k d (omega (arith, lt, all)))
    null_at n k all x less (inr other) after known =
        after (omega (arith, lt, less)) ∙ others_stay n k d x other ∙ known (omega (arith, lt, less))
        ∙ before.null x (omega (arith, less, other))

module _ {Job Done Point : Type 0} (p : Plan Job Done Point) where
  pub clear_stays_admitted : {c : CallerState} {pages : ℕ} (d : ℕ) → d < 8 → MayTakeTurns pages c
      → IsMadeFor p c.pass.table.config → StaysAdmitted c.pass (Op.Clear d)
  clear_stays_admitted d lt may made =
      admitted_by_registers p may made (λ q here state same.
      subst (λ (gs : List ℕ). IsAdmitted gs (never_of q) (caller_of_pass q) (Op.Clear d)) (sym here.globals)
      (may_clear p state d lt))

  clears_stay : (t : Point) → IsEnd (p.step t) → (xs : List Replied) → AreClears xs → Leads p t xs t
  clears_stay t end [] are = refl
  clears_stay t end (x ∷ xs) are = inr (end, are.0, clears_stay t end xs are.1)

  -- What is cleared at the end of a job belongs to it.
  pub goes_cleared : {q r u : PassState} {s : Point} {done : Done} → GoesToEnd p q s r done → Clears r p.registers u
      → GoesToEnd p q s u done
  goes_cleared ends clears = record {
    last = ends.last;
    goes = goes_through p ends.goes (record {
      is = clears.is;
      all = clears.all;
      leads = clears_stay ends.last (subst IsEnd (sym ends.ended) tt) clears.all clears.are;
      did = clears.did;
      others = clears.others;
    });
    ended = ends.ended;
  }
