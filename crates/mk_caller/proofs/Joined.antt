-- Steps of a call, one after the other.
use Rattle.mk_words.proofs.Below.Laws.Vocabulary.{Answer, Config, Decided, Event, KeepsRegisters, List, None, Op}
use Rattle.mk_words.proofs.Below.Laws.Vocabulary.{Option, Some, Step, ap, append-nil, append_assoc, arith, entry_of}
use Rattle.mk_words.proofs.Below.Laws.Vocabulary.{left_in_parts, never_behind, subst, sym, ◌++◌, ◌∙◌, ◌∷◌, ◌≡◌}
use Rattle.mk_caller.proofs.{OneStep.keeps_both, OwnSteps.steps_append, OwnSteps.steps_from}
use Rattle.mk_caller.specs.Called.{IsDecidedIn, own_calls, own_steps}
use Rattle.mk_caller.specs.{Moves.IsDecidedAs, Moves.MakesSteps, States.caller_of_pass, States.never_of}
use Rattle.mk_words.specs.States.{PassState}

-- the pass that has seen more
abbrev seen_more : PassState → List Event → PassState
seen_more p m = record p { seen = p.seen ++ m }

-- a decision of the later steps
decided_later : (p : PassState) {o : Op} {a : Answer} (m1 : List Event) {m2 : List Event}
    → KeepsRegisters (caller_of_pass p) (never_of p) (never_behind p.table.config (p.seen ++ m1))
    → IsDecidedIn (seen_more p m1) o a m2 → IsDecidedIn p o a (m1 ++ m2)
decided_later p {o} {a} m1 {m2} keeps d =
    let c : Config = p.table.config in
    let join : (p.seen ++ m1) ++ d.before ≡ p.seen ++ (m1 ++ d.before) = append_assoc p.seen m1 d.before in
    record {
      before = m1 ++ d.before;
      event = d.event;
      behind = d.behind;
      is = ap (λ (l : List Event). m1 ++ l) d.is ∙ sym (append_assoc m1 d.before (d.event ∷ d.behind));
      decides = cc (join, d.decides);
      reply = cc (join, d.reply);
      known = keeps_both (caller_of_pass p) (never_of p) (never_behind c (p.seen ++ m1))
          (never_behind c (p.seen ++ (m1 ++ d.before))) keeps (rw join at d.known);
      left_so = rw (append_assoc p.seen m1 m2) at (rw join at d.left_so);
    }

-- or of the earlier ones
decided_before : {p : PassState} {o : Op} {a : Answer} {m1 : List Event} (m2 : List Event) → IsDecidedIn p o a m1
    → KeepsRegisters (caller_of_pass p) (never_behind p.table.config (p.seen ++ m1))
    (never_behind p.table.config ((p.seen ++ m1) ++ m2)) → IsDecidedIn p o a (m1 ++ m2)
decided_before m2 d keeps = grind (arith, append_assoc, keeps_both)

decided_as_later : (p : PassState) (o : Op) (a : Option Answer) (m1 m2 : List Event)
    → KeepsRegisters (caller_of_pass p) (never_of p) (never_behind p.table.config (p.seen ++ m1))
    → IsDecidedAs (seen_more p m1) o a m2 → IsDecidedAs p o a (m1 ++ m2)
decided_as_later p o None m1 m2 keeps d =
    rw (append_assoc p.seen m1 m2) at (keeps_both (caller_of_pass p) (never_of p)
    (never_behind p.table.config (p.seen ++ m1)) (never_behind p.table.config ((p.seen ++ m1) ++ m2)) keeps d)
decided_as_later p o (Some a) m1 m2 keeps d = decided_later p m1 keeps d

is_joined : (p r : PassState) (m1 m2 : List Event) → r ≡ record p { seen = (p.seen ++ m1) ++ m2 }
    → r ≡ record p { seen = p.seen ++ (m1 ++ m2) }
is_joined p r m1 m2 is = is ∙ ap (λ (l : List Event). record p { seen = l }) (append_assoc p.seen m1 m2)

-- steps, and then others, by what they come to of the caller's calls, and of what is decided
steps_then : {p : PassState} {o : Op} {ss ts : List Step} {a b : Option Answer} {r : PassState} (m1 : List Event)
    → own_steps p m1 ≡ ss → (second : MakesSteps (seen_more p m1) o ts b r) → own_calls p (p.seen ++ m1) ++ entry_of
    (caller_of_pass p) o b ≡ own_calls p p.seen ++ entry_of (caller_of_pass p) o a
    → IsDecidedAs p o a (m1 ++ second.more) → MakesSteps p o (ss ++ ts) a r
steps_then {p} {ss = ss} {ts = ts} {r = r} m1 steps second entry decided =
    grind (arith, is_joined, append_assoc, steps_append, steps_from, left_in_parts)

-- steps that decide nothing, and then others
pub joined : {p : PassState} {o : Op} {ss ts : List Step} {a : Option Answer} {q r : PassState}
    → MakesSteps p o ss None q → MakesSteps q o ts a r → MakesSteps p o (ss ++ ts) a r
joined {p} {o} {ts = ts} {a = a} {r = r} first second =
    let later : MakesSteps (seen_more p first.more) o ts a r =
    subst (λ (x : PassState). MakesSteps x o ts a r) first.is second in
    steps_then first.more first.steps later (ap (λ (l : List Decided). l ++ entry_of (caller_of_pass p) o a)
    (first.entry ∙ append-nil (own_calls p p.seen)))
    (decided_as_later p o a first.more later.more first.decided later.decided)

-- steps that decide the call, and then others
pub joined_on : {p : PassState} {o : Op} {ss ts : List Step} {a : Answer} {q r : PassState}
    → MakesSteps p o ss (Some a) q → MakesSteps q o ts None r → MakesSteps p o (ss ++ ts) (Some a) r
joined_on {p} {o} {ts = ts} {r = r} first second =
    let later : MakesSteps (seen_more p first.more) o ts None r =
    subst (λ (x : PassState). MakesSteps x o ts None r) first.is second in
    steps_then first.more first.steps later (append-nil (own_calls p (p.seen ++ first.more)) ∙ first.entry)
    (decided_before later.more first.decided later.decided)
