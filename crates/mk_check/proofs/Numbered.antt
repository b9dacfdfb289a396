-- A script with numbers for its names does what the script does.
use Rattle.mk_check.proofs.Vocabulary.{Answer, Blocks, Bool, Choice, Done, Fed, Item, KeptState, Line, List, Op, Option}
use Rattle.mk_check.proofs.Vocabulary.{Rounds, Scope, Stopped, ℕ, after_answer, after_line, ap, arith, if◌then◌else◌}
use Rattle.mk_check.proofs.Vocabulary.{instruction_of, is_some, number_of_name, numbered, op_asked, op_of, refl, run}
use Rattle.mk_check.proofs.Vocabulary.{stop_behind, stop_of, stop_of_rounds, suc, then_steps, with_answer, zero, ◌==◌}
use Rattle.mk_check.proofs.Vocabulary.{◌∙◌, ◌≡◌}
use Rattle.mk_check.specs.{Blocks.followed_by, Feed.number_in, Feed.run_line, Feed.run_rounds, Feed.then_run}
use Rattle.mk_check.specs.Steps as steps

abbrev pub kept_of : Fed → KeptState
kept_of fed = record { numbers = fed.numbers; text = fed.text }

abbrev pub stopped_of : Scope → Fed → Stopped
stopped_of scope fed = record { left = numbered scope fed.left; kept = kept_of fed }

steps_of-followed_by : (scope : Scope) (a b : Blocks)
    → numbered scope (followed_by a b) ≡ then_steps (numbered scope a) (numbered scope b)
steps_of-followed_by scope Done b = refl
steps_of-followed_by scope (Line line item rest) b =
    ap (steps.Line line (instruction_of scope item)) (steps_of-followed_by scope rest b)
steps_of-followed_by scope (Rounds rounds body rest) b =
    ap (steps.Rounds rounds (numbered scope body)) (steps_of-followed_by scope rest b)
steps_of-followed_by scope (Choice number first second rest) b =
    ap (steps.Choice (number_of_name number scope.numbers) (numbered scope first) (numbered scope second))
    (steps_of-followed_by scope rest b)

pub op_of-asked : (scope : Scope) (fed : Fed) (item : Item)
    → op_of scope fed item ≡ op_asked fed.numbers (instruction_of scope item)
op_of-asked scope fed item = grind arith

pub kept_of-with_answer : (scope : Scope) (fed : Fed) (item : Item) (a : Answer)
    → kept_of (with_answer scope fed item a) ≡ after_answer (instruction_of scope item) a (kept_of fed)
kept_of-with_answer scope fed item a = grind arith

pub ops-with_answer : (scope : Scope) (fed : Fed) (item : Item) (a : Answer)
    → (with_answer scope fed item a).ops ≡ fed.ops
ops-with_answer scope fed item a = grind arith

-- What is kept of a run, and the operations that were answered before it.
pub record Agrees (scope : Scope) (fed : Fed) (stopped : Stopped) (ops : List Op) : Type 0 where
  pub stop : stopped_of scope fed ≡ stopped
  pub answers : fed.ops ≡ ops

-- a part that agrees, and then the rest
then_agrees : {scope : Scope} {fed : Fed} (go : Fed → Fed) (rest : Blocks) {stopped : Stopped} (go' : KeptState
    → Stopped) {ops : List Op} → Agrees scope fed stopped ops
    → ((f : Fed) → Agrees scope (go f) (go' (kept_of f)) f.ops)
    → Agrees scope (then_run fed go rest) (stop_behind stopped go' (numbered scope rest)) ops
then_agrees {scope} {fed} go rest go' a h =
    grind (arith, stopped_of, kept_of, steps_of-followed_by, Done, Line, Rounds, Choice)

run_rounds_agrees : (scope : Scope) (rounds : ℕ) (body : Blocks) (go : Fed → Fed) (go' : KeptState → Stopped)
    → ((f : Fed) → Agrees scope (go f) (go' (kept_of f)) f.ops) → (fed : Fed) → Agrees scope
    (run_rounds rounds body go fed) (stop_of_rounds rounds (numbered scope body) go' (kept_of fed)) fed.ops
run_rounds_agrees scope zero body go go' h fed = record { stop = refl; answers = refl }
run_rounds_agrees scope (suc more) body go go' h fed =
    then_agrees (run_rounds more body go) (Rounds more body Done)
    (stop_of_rounds more (numbered scope body) go') (h fed) (run_rounds_agrees scope more body go go' h)

-- The steps stop where the blocks do.
pub run_agrees : (scope : Scope) (b : Blocks) (fed : Fed)
    → Agrees scope (run scope b fed) (stop_of (numbered scope b) (kept_of fed)) fed.ops
run_agrees scope Done fed = record { stop = refl; answers = refl }
run_agrees scope (Line line item rest) fed =
    by_test (is_some (op_of scope fed item)) (is_some (op_asked fed.numbers (instruction_of scope item)))
    (ap (λ (o : Option Op). is_some o) (op_of-asked scope fed item))
    (let a = run_agrees scope rest (run_line scope fed item) in
    record {
      stop = a.stop ∙ ap (stop_of (numbered scope rest)) (grind arith);
      answers = a.answers ∙ (grind arith);
    })
  where
    by_test : (s t : Bool) → s ≡ t → Agrees scope (run scope rest (run_line scope fed item))
        (stop_of (numbered scope rest) (after_line (instruction_of scope item) (kept_of fed))) fed.ops → Agrees scope
        (if s then record fed { left = Line line item rest } else run scope rest (run_line scope fed item))
        (if t then record {
          left = steps.Line line (instruction_of scope item) (numbered scope rest);
          kept = kept_of
              fed;
        } else stop_of (numbered scope rest) (after_line (instruction_of scope item) (kept_of fed))) fed.ops
    by_test x0 x1 e h = grind arith
run_agrees scope (Rounds rounds body rest) fed =
    then_agrees (run scope rest) rest
    (stop_of (numbered scope rest)) (run_rounds_agrees scope rounds body (run scope body)
    (stop_of (numbered scope body)) (run_agrees scope body) fed) (run_agrees scope rest)
run_agrees scope (Choice number first second rest) fed =
    then_agrees (run scope rest) rest (stop_of (numbered scope rest)) (by_test (number_in scope fed number == 0)
    (run_agrees scope first fed) (run_agrees scope second fed)) (run_agrees scope rest)
  where
    by_test : (t : Bool) → Agrees scope (run scope first fed) (stop_of (numbered scope first) (kept_of fed)) fed.ops
        → Agrees scope (run scope second fed) (stop_of (numbered scope second) (kept_of fed)) fed.ops
        → Agrees scope (if t then run scope second fed else run scope first fed) (if t then stop_of
        (numbered scope second) (kept_of fed) else stop_of (numbered scope first) (kept_of fed)) fed.ops
    by_test x0 f g = grind arith
