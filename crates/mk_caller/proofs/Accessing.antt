-- The parts that several calls have in common.
use Rattle.mk_words.proofs.Below.Laws.Vocabulary.{ap}
use Rattle.mk_words.proofs.Below.Laws.Vocabulary.{at_rest}
use Rattle.mk_words.proofs.Below.Laws.Vocabulary.{begun}
use Rattle.mk_words.proofs.Below.Laws.Vocabulary.{onward}
use Rattle.mk_words.proofs.Below.Laws.Vocabulary.{progress_reg}
use Rattle.mk_words.proofs.Below.Laws.Vocabulary.{q_of}
use Rattle.mk_words.proofs.Below.Laws.Vocabulary.{refl}
use Rattle.mk_words.proofs.Below.Laws.Vocabulary.{refused}
use Rattle.mk_words.proofs.Below.Laws.Vocabulary.{stage_refused}
use Rattle.mk_words.proofs.Below.Laws.Vocabulary.{true}
use Rattle.mk_words.proofs.Below.Laws.Vocabulary.{[]}
use Rattle.mk_words.proofs.Below.Laws.Vocabulary.{◌∙◌}
use Rattle.mk_words.proofs.Below.Laws.Vocabulary.{◌∷◌}
use Rattle.mk_words.proofs.Below.Laws.Vocabulary.{◌≡◌}
use Rattle.mk_words.proofs.Below.Laws.Vocabulary.{◌≢◌}
use Rattle.mk_words.proofs.Below.Laws.Vocabulary.{Answer}
use Rattle.mk_words.proofs.Below.Laws.Vocabulary.{Flight}
use Rattle.mk_words.proofs.Below.Laws.Vocabulary.{List}
use Rattle.mk_words.proofs.Below.Laws.Vocabulary.{None}
use Rattle.mk_words.proofs.Below.Laws.Vocabulary.{Null as NullValue}
use Rattle.mk_words.proofs.Below.Laws.Vocabulary.{Op}
use Rattle.mk_words.proofs.Below.Laws.Vocabulary.{Progress}
use Rattle.mk_words.proofs.Below.Laws.Vocabulary.{Some}
use Rattle.mk_words.proofs.Below.Laws.Vocabulary.{Stage}
use Rattle.mk_words.proofs.Below.Laws.Vocabulary.{Step}
use Rattle.mk_words.proofs.Below.Laws.Vocabulary.{ℕ}
use Rattle.mk_caller.proofs.Chains.{access_finds_null, access_finds_some, access_is_small, called, either_to, go}
use Rattle.mk_caller.proofs.{Chains.{null_steps, of_same, on_to, refused_puts, to, value_kept}, Onward.store_goes_on}
use Rattle.mk_caller.specs.Moves.{IsAtFlight, MayBeginCall, behind_q, is_access, refused_steps}
use Rattle.mk_caller.specs.{Moves.stores_register, Called.{Called, destination}, States.{never_of, value_of}}
use Rattle.mk_words.specs.States.{PassState, call_of}

pub marks_and_leaves : {p q r : PassState} → IsAtFlight p (call_of p).op (Step.Dirty ∷ []) None
    (onward (call_of p) None).flight q → IsAtFlight q (call_of q).op (Step.Leave ∷ []) None at_rest r
    → IsAtFlight p (call_of p).op (Step.Dirty ∷ Step.Leave ∷ []) None at_rest r
marks_and_leaves a b = to a (of_same (ap (λ (f : Flight). f.op) a.call) b)

pub stores_and_leaves : {p q r : PassState} (v : ℕ) → stores_register (call_of p).stage ≡ true
    → IsAtFlight p (call_of p).op (Step.Reg ∷ []) (progress_reg (call_of p) (call_of p).stage v).answer
    (progress_reg (call_of p) (call_of p).stage v).flight q
    → IsAtFlight q (call_of q).op (Step.Leave ∷ []) None at_rest r
    → IsAtFlight p (call_of p).op (Step.Reg ∷ Step.Leave ∷ []) (progress_reg (call_of p) (call_of p).stage v).answer
    at_rest r
stores_and_leaves {p} v is a b =
    either_to (progress_reg (call_of p) (call_of p).stage v).answer a
    (of_same (ap (λ (f : Flight). f.op) a.call ∙ (store_goes_on p.table.config (call_of p) v is).op) b)

-- a refusal that makes a register null
pub refuses : {p q r : PassState} (d : ℕ) → (call_of p).stage ≡ stage_refused (call_of p).op
    → is_access (call_of p).op ≡ true → Some d ≡ destination (call_of p).op
    → IsAtFlight p (call_of p).op (Step.Reg ∷ []) (progress_reg (call_of p) (call_of p).stage 0).answer
    (progress_reg (call_of p) (call_of p).stage 0).flight q
    → IsAtFlight q (call_of q).op (Step.Leave ∷ []) None at_rest r
    → IsAtFlight p (call_of p).op (refused_steps (call_of p).op) None at_rest r
refuses {p} {r} d at access is a b =
    let put : stage_refused (call_of p).op ≡ Stage.Put = (refused_puts (call_of p).op d access is).0 in
    let here : (call_of p).stage ≡ Stage.Put = at ∙ put in
    rw put (rw here at (stores_and_leaves 0 (rw here refl) a b))

loaded : {p q r : PassState} {o : Op} (u : ℕ) (x : Progress) → progress_reg (begun o) (begun o).stage u ≡ x
    → IsAtFlight p o (Step.Enter o ∷ []) None (begun o) q → IsAtFlight q (call_of q).op (Step.Reg ∷ [])
    (progress_reg (call_of q) (call_of q).stage u).answer (progress_reg (call_of q) (call_of q).stage u).flight r
    → IsAtFlight p o (Step.Enter o ∷ Step.Reg ∷ []) x.answer x.flight r
loaded {p} {r} {o} u x is a b = rw is at (go a (λ (f : Flight). progress_reg f f.stage u) refl b)

pub begins : {p q r : PassState} {o : Op} (u : ℕ) → is_access o ≡ true → u ≢ 0
    → IsAtFlight p o (Step.Enter o ∷ []) None (begun o) q → IsAtFlight q (call_of q).op (Step.Reg ∷ [])
    (progress_reg (call_of q) (call_of q).stage u).answer (progress_reg (call_of q) (call_of q).stage u).flight r
    → IsAtFlight p o (Step.Enter o ∷ Step.Reg ∷ []) None (behind_q o u) r
begins {q} {o} u access ne a b = loaded u (onward (record (begun o) { q = u }) None)
    (access_finds_some o u access ne) a b

pub null_ends : {p q r s : PassState} {o : Op} (u : ℕ) → is_access o ≡ true → u ≡ 0
    → IsAtFlight p o (Step.Enter o ∷ []) None (begun o) q → IsAtFlight q (call_of q).op (Step.Reg ∷ [])
    (progress_reg (call_of q) (call_of q).stage u).answer (progress_reg (call_of q) (call_of q).stage u).flight r
    → IsAtFlight r (call_of r).op (refused_steps (call_of r).op) None at_rest s → Called p o Answer.Null s
null_ends {q} {r} {s} {o} u access zero a b e =
    let x = loaded u (refused (record (begun o) { q = 0 }) Answer.Null)
    (ap (λ n. progress_reg (begun o) (begun o).stage n) zero ∙ access_finds_null o access) a b in
    called (on_to x (rw (ap (λ (f : Flight). f.op) x.call) at e)) (null_steps o access)

pub null_value : {p q : PassState} {o : Op} {ss : List Step} {f : Flight} (r : ℕ) → MayBeginCall p o → is_access o
    ≡ true → r ≡ q_of o → IsAtFlight p o ss None f q → value_of q r ≡ NullValue → value_of p (q_of o) ≡ NullValue
null_value {p} {q} {o} r ready access is a null =
    cc (value_kept a.makes (q_of o) (access_is_small (never_of p) o access ready.admits.in_range))

pub fault_ends : {p q r : PassState} → IsAtFlight p (call_of p).op (Step.Probe ∷ []) (Some Answer.Fault) (refused
    (call_of p) Answer.Fault).flight q → IsAtFlight q (call_of q).op (refused_steps (call_of q).op) None at_rest r
    → IsAtFlight p (call_of p).op (Step.Probe ∷ refused_steps (call_of p).op) (Some Answer.Fault) at_rest r
fault_ends a e = on_to a (rw (ap (λ (f : Flight). f.op) a.call) at e)
