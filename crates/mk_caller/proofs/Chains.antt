-- A call step by step, from its beginning to its end.
use Rattle.mk_words.proofs.Below.Laws.Vocabulary.{Answer, Bool, Event, Flight, KeepsRegisters, List, NeverState, None}
use Rattle.mk_words.proofs.Below.Laws.Vocabulary.{Op, Option, Progress, Some, Stage, Step, Unmapped, ℕ, ap}
use Rattle.mk_words.proofs.Below.Laws.Vocabulary.{append_assoc, arith, at_rest, begun, d_of, if◌then◌else◌, ne_eqb}
use Rattle.mk_words.proofs.Below.Laws.Vocabulary.{onward, progress_reg, q_of, refl, refused, stage_refused, subst}
use Rattle.mk_words.proofs.Below.Laws.Vocabulary.{true, [], ◌++◌, ◌<◌, ◌==◌, ◌∙◌, ◌∷◌, ◌≡◌, ◌≢◌}
use Rattle.mk_never.specs.{Admitted.OperandsAreInRange, declared.values.Target.Target}
use Rattle.mk_caller.proofs.Joined.{joined, joined_on}
use Rattle.mk_caller.specs.Moves.{CallGoesOn, IsAtFlight, MakesSteps, MayBeginCall, is_access, refused_steps}
use Rattle.mk_caller.specs.{States.{caller_of_pass, never_of, value_of}, Called.{Called, destination, steps_made}}
use Rattle.mk_caller.specs.Called.{Probes, ProbesAWord}
use Rattle.mk_core.specs.Calls.{one_if, progress_getg, progress_read}
use Rattle.mk_words.specs.States.{PassState, call_of}

-- How a call goes on: after it loaded a register, a global or a word, or passed on, wrote, exchanged, or ended.

abbrev pub loads : ℕ → Flight → Progress
loads value f = progress_reg f f.stage value

abbrev pub loads_global : ℕ → Flight → Progress
loads_global value f = progress_getg f value

abbrev pub reads : ℕ → Flight → Progress
reads value f = progress_read f f.op value

abbrev pub passes : Flight → Progress
passes f = onward f None

abbrev pub writes : Flight → Progress
writes f = onward f (Some Answer.Done)

abbrev pub exchanges : Bool → Flight → Progress
exchanges did f = onward f (Some (Answer.Num (one_if did)))

abbrev pub call_ends : Flight → Progress
call_ends f = record { flight = at_rest; answer = None }

-- Further steps of a call that isn't decided; how they go on is said by the call before them.
pub go : {p q r : PassState} {o : Op} {ss ts : List Step} {f : Flight} → IsAtFlight p o ss None f q → (X : Flight
    → Progress) → f.op ≡ o → IsAtFlight q (call_of q).op ts (X (call_of q)).answer (X (call_of q)).flight r
    → IsAtFlight p o (ss ++ ts) (X f).answer (X f).flight r
go a x1 same b = grind (arith, joined)

-- and of one that is a probe that finds the page mapped
pub go_probed : {p q r : PassState} {o : Op} {ss : List Step} {f : Flight} → IsAtFlight p o ss None f q → f.op ≡ o
    → CallGoesOn q Step.Probe passes r → IsAtFlight p o (ss ++ Step.Probe ∷ []) (passes f).answer (passes f).flight r
go_probed at same probes = go at passes same probes

pub go_on : {p q r : PassState} {o : Op} {ss ts : List Step} {a : Answer} {f : Flight} → IsAtFlight p o ss (Some a) f q
    → (X : Flight → Progress) → f.op ≡ o → (X f).answer ≡ None → IsAtFlight q (call_of q).op ts (X (call_of q)).answer
    (X (call_of q)).flight r → IsAtFlight p o (ss ++ ts) (Some a) (X f).flight r
go_on before x1 same none b = grind (arith, joined_on)

-- parts of one call
pub to : {p q r : PassState} {o : Op} {ss ts : List Step} {a : Option Answer} {f g : Flight}
    → IsAtFlight p o ss None f q → IsAtFlight q o ts a g r → IsAtFlight p o (ss ++ ts) a g r
to x y = record { makes = joined x.makes y.makes; call = y.call; underway = y.underway }

pub on_to : {p q r : PassState} {o : Op} {ss ts : List Step} {a : Answer} {f g : Flight}
    → IsAtFlight p o ss (Some a) f q → IsAtFlight q o ts None g r → IsAtFlight p o (ss ++ ts) (Some a) g r
on_to x y = record { makes = joined_on x.makes y.makes; call = y.call; underway = y.underway }

-- whether it is decided or not
pub either_to : {p q r : PassState} {o : Op} {ss ts : List Step} {f g : Flight} → (a : Option Answer)
    → IsAtFlight p o ss a f q → IsAtFlight q o ts None g r → IsAtFlight p o (ss ++ ts) a g r
either_to None x y = to x y
either_to (Some a) x y = on_to x y

-- the operation of the later part is that of the call in flight there
pub of_same : {q r : PassState} {o : Op} {ts : List Step} {a : Option Answer} {g : Flight} → (call_of q).op ≡ o
    → IsAtFlight q (call_of q).op ts a g r → IsAtFlight q o ts a g r
of_same {q} {r} {ts} {a} {g} is x = subst (λ (y : Op). IsAtFlight q y ts a g r) is x

-- by a store and the last step
abbrev pub stores : ℕ → Flight → Progress
stores v f = record { flight = at_rest; answer = (loads v f).answer }

pub called : {p r : PassState} {o : Op} {ss : List Step} {a : Answer} → IsAtFlight p o ss (Some a) at_rest r
    → ss ≡ steps_made o a → Called p o a r
called at steps = record {
  more = at.makes.more;
  is = at.makes.is;
  steps = at.makes.steps ∙ steps;
  entry = at.makes.entry;
  decided = at.makes.decided;
  rest = at.call;
  pass = at.underway.pass;
}

-- While nothing is decided the caller's registers keep their values.
pub keeps : {p q : PassState} {o : Op} {ss : List Step} → MakesSteps p o ss None q
    → KeepsRegisters (caller_of_pass p) (never_of p) (never_of q)
keeps m = rw m.is m.decided

pub value_kept : {p q : PassState} {o : Op} {ss : List Step} → MakesSteps p o ss None q → (r : ℕ) → r < 8
    → value_of q r ≡ value_of p r
value_kept {q} m r lt = cc (m.is, keeps m r lt)

-- a probe of the later steps
pub probes_from : {p q r : PassState} {o : Op} {ss : List Step} {t : Target} → MakesSteps p o ss None q → q_of o < 8
    → Probes q o r t → Probes p o r t
probes_from {p} {r} {o} {t} m lt probes = grind (arith, keeps, append_assoc, KeepsRegisters)

-- facts of operations

pub access_finds_null : (o : Op) → is_access o ≡ true → progress_reg (begun o) (begun o).stage 0 ≡ refused
    (record (begun o) { q = 0 }) Answer.Null
access_finds_null (Op.GetNum q i) h = cc
access_finds_null _ h = cc

pub null_steps : (o : Op) → is_access o ≡ true → Step.Enter o ∷ Step.Reg ∷ refused_steps o ≡ steps_made o Answer.Null
null_steps (Op.GetNum q i) h = cc
null_steps _ h = cc

pub access_is_small : (n : NeverState) (o : Op) → is_access o ≡ true → OperandsAreInRange n o → q_of o < 8
access_is_small n (Op.GetNum q i) h r = r
access_is_small n _ h r = grind arith

pub refused_puts : (o : Op) (d : ℕ) → is_access o ≡ true → Some d ≡ destination o
    → (stage_refused o ≡ Stage.Put) × (d_of o ≡ d)
refused_puts (Op.GetPtr d q i) e a h = (refl, cc)
refused_puts (Op.Lea d q i) e a h = (refl, cc)
refused_puts _ e a h = cc

some_for : (o : Op) (u : ℕ) → u ≢ 0 → (if u == 0 then refused (record (begun o) { q = u }) Answer.Null else onward
    (record (begun o) { q = u }) None) ≡ onward (record (begun o) { q = u }) None
some_for o u ne = rw (ne_eqb u 0 ne) refl

pub access_finds_some : (o : Op) (u : ℕ) → is_access o ≡ true → u ≢ 0
    → progress_reg (begun o) (begun o).stage u ≡ onward (record (begun o) { q = u }) None
access_finds_some (Op.GetNum q i) u h ne = some_for (Op.GetNum q i) u ne
access_finds_some o u h ne = cc (some_for o u ne)

-- What a pass has seen goes on.
pub record SeesMore (q r : PassState) : Type 0 where
  pub more : List Event
  pub is : r.seen ≡ q.seen ++ more

pub sees_more : {q r : PassState} {o : Op} {ts : List Step} {a : Option Answer} {f : Flight} → IsAtFlight q o ts a f r
    → SeesMore q r
sees_more x = record { more = x.makes.more; is = ap (λ (s : PassState). s.seen) x.makes.is }

pub sees_further : {q r s : PassState} {o : Op} {ts : List Step} {a : Option Answer} {f : Flight} → SeesMore q r
    → IsAtFlight r o ts a f s → SeesMore q s
sees_further g x = grind (arith, append_assoc)

-- a probe of earlier steps
pub probes_on : {p q r : PassState} {o : Op} {t : Target} → Probes p o q t → SeesMore q r → Probes p o r t
probes_on x g = grind (arith, append_assoc)

-- The call's access got to a word at its probe.
pub reached : {p q s r : PassState} {o : Op} {ss : List Step} {f : Flight} → MayBeginCall p o → is_access o ≡ true
    → IsAtFlight p o ss None f q → f.op ≡ o → ProbesAWord q (call_of q).op s → SeesMore s r → ProbesAWord p o r
reached {p} {q} {s} {o} ready access a same x g =
    let y : ProbesAWord q o s = rw (ap (λ (f : Flight). f.op) a.call ∙ same) at x in
    record {
      number = y.number;
      place = y.place;
      probes = probes_on (probes_from a.makes (access_is_small (never_of p) o access ready.admits.in_range) y.probes) g;
    }

-- It found the allocation's pages unmapped.
pub faults : {p q r : PassState} {o : Op} {ss : List Step} {f : Flight} → MayBeginCall p o → is_access o ≡ true
    → IsAtFlight p o ss None f q → f.op ≡ o → ss ++ (Step.Probe ∷ refused_steps o) ≡ steps_made o Answer.Fault
    → IsAtFlight q (call_of q).op (Step.Probe ∷ refused_steps (call_of q).op) (Some Answer.Fault) at_rest r
    → Probes q (call_of q).op r Unmapped → Called p o Answer.Fault r × Probes p o r Unmapped
faults {p} {q} {r} {o} ready access a same steps b x =
    let is : (call_of q).op ≡ o = ap (λ (f : Flight). f.op) a.call ∙ same in (
      called (to a (rw is at b)) steps,
      probes_from a.makes (access_is_small (never_of p) o access ready.admits.in_range) (rw is at x),
    )
