-- A script asks for no more operations than it executes instructions: at most a million.
use Rattle.mk_check.proofs.Vocabulary.{Answer, Blocks, Bool, Choice, Done, Fed, Item, Line, List, None, Op, Option}
use Rattle.mk_check.proofs.Vocabulary.{Rounds, Scope, Some, ScriptText, ap, arith, before_next_script, blocks_from}
use Rattle.mk_check.proofs.Vocabulary.{fault_from, fed_before_answers, fed_before_lines, if◌then◌else◌, is_some}
use Rattle.mk_check.proofs.Vocabulary.{length, length-append, max, note, op_of, refl, run, script_from, script_of}
use Rattle.mk_check.proofs.Vocabulary.{script_scope, suc, take_answer, take_answers, true}
use Rattle.mk_check.proofs.Vocabulary.{with_answer, zero, ℕ, [], ◌++◌, ◌*◌, ◌+◌, ◌==◌, ◌∙◌, ◌∷◌, ◌≡◌, ◌≤◌}
use Rattle.mk_check.proofs.{Numbered.{ops-with_answer, run_agrees}, TypedScripts.next_none}
use Rattle.mk_check.specs.{Blocks.{followed_by, is_end_of_block}, Feed.{number_in, run_line, run_rounds}}
use Rattle.mk_check.specs.{Feed.then_run, Laws.ScriptsAskForFew, Blocks.{length_of, script_length}}
use Rattle.mk_check.specs.Typing.{length_fault}
use Rattle.mk_script.specs.{Scopes.is_instruction, declared.items.Item.TheVariants.Script}

-- A run leaves no more instructions than there were.

length_of-followed_by : (a b : Blocks) → length_of (followed_by a b) ≡ length_of a + length_of b
length_of-followed_by Done b = omega arith
length_of-followed_by (Line line item rest) b = omega (arith, length_of-followed_by rest b)
length_of-followed_by (Rounds rounds body rest) b = omega (arith, length_of-followed_by rest b)
length_of-followed_by (Choice number first second rest) b = omega (arith, length_of-followed_by rest b)

length_of-then_run : (fed : Fed) (go : Fed → Fed) (rest : Blocks)
    → ((f : Fed) → length_of (go f).left ≤ length_of rest)
    → length_of (then_run fed go rest).left ≤ length_of fed.left + length_of rest
length_of-then_run fed go rest goes = by_test (is_end_of_block fed.left)
  where
    by_test : (t : Bool) → length_of (if t then go fed else record fed { left = followed_by fed.left rest }).left
        ≤ length_of fed.left + length_of rest
    by_test x0 = grind (arith, length_of-followed_by)

length_of-run_rounds : (rounds : ℕ) (body : Blocks) (go : Fed → Fed)
    → ((f : Fed) → length_of (go f).left ≤ length_of body)
    → (fed : Fed) → length_of (run_rounds rounds body go fed).left ≤ rounds * (1 + length_of body)
length_of-run_rounds zero body go goes fed = omega arith
length_of-run_rounds (suc more) body go goes fed =
    let others : (f : Fed) → length_of (run_rounds more body go f).left ≤ length_of (Rounds more body Done) =
    λ f. omega (arith, length_of-run_rounds more body go goes f) in
    omega (arith, length_of-then_run (go fed) (run_rounds more body go) (Rounds more body Done) others, goes fed)

length_of-run : (scope : Scope) (blocks : Blocks) (fed : Fed) → length_of (run scope blocks fed).left ≤ length_of blocks
length_of-run scope Done fed = omega arith
length_of-run scope (Line line item rest) fed =
    by_test (is_some (op_of scope fed item)) (length_of-run scope rest (run_line scope fed item))
  where
    by_test : (t : Bool) → length_of (run scope rest (run_line scope fed item)).left ≤ length_of rest
        → length_of (if t then record fed { left = Line line item rest }
        else run scope rest (run_line scope fed item)).left ≤ length_of (Line line item rest)
    by_test x0 h = grind arith
length_of-run scope (Rounds rounds body rest) fed =
    omega (
      arith,
      length_of-then_run (run_rounds rounds body (run scope body) fed) (run scope rest) rest (length_of-run scope rest),
      length_of-run_rounds rounds body (run scope body) (length_of-run scope body) fed,
    )
length_of-run scope (Choice number first second rest) fed =
    let chosen : Fed = if number_in scope fed number == 0 then run scope second fed else run scope first fed in
    omega (
      arith,
      length_of-then_run chosen (run scope rest) rest (length_of-run scope rest),
      by_test (number_in scope fed number == 0) (length_of-run scope first fed) (length_of-run scope second fed),
    )
  where
    by_test : (t : Bool) → length_of (run scope first fed).left ≤ length_of first
        → length_of (run scope second fed).left ≤ length_of second
        → length_of (if t then run scope second fed else run scope first fed).left
        ≤ max (length_of first) (length_of second)
    by_test x0 f g = grind arith

-- An operation is asked for by an instruction.
asked_by_instruction : (scope : Scope) (fed : Fed) (item : Item) → is_some (op_of scope fed item) ≡ true
    → is_instruction item ≡ true
asked_by_instruction scope fed item some = grind arith

-- What was asked for, and what can still be
abbrev most : Fed → ℕ
most fed = length fed.ops + length_of fed.left

noted_most : (fed : Fed) (asked : Option Op) (is : Bool) (line : ℕ) (a : Answer) → (is_some asked ≡ true → is ≡ true)
    → length (note fed asked line a).ops ≤ length fed.ops + (if is then 1 else 0)
noted_most fed None is line a by = omega arith
noted_most fed (Some o) is line a by = grind (arith, length-append)

answered_most : (scope : Scope) (fed : Fed) (left : Blocks) (a : Answer) → fed.left ≡ left
    → most (take_answer scope fed left a) ≤ most fed
answered_most scope fed (Line line item rest) a is =
    let noted = with_answer scope (note fed (op_of scope fed item) line a) item a in
    omega (
      arith,
      ap length_of is,
      ap (λ (ops : List Op). length ops) ((run_agrees scope rest noted).answers
          ∙ ops-with_answer scope (note fed (op_of scope fed item) line a) item a),
      noted_most fed (op_of scope fed item) (is_instruction item) line a (asked_by_instruction scope fed item),
      length_of-run scope rest noted,
    )
answered_most scope fed Done a is = omega arith
answered_most scope fed (Rounds rounds body rest) a is = omega arith
answered_most scope fed (Choice number first second rest) a is = omega arith

all_most : (scope : Scope) (fed : Fed) (answers : List Answer) → most (take_answers scope fed answers) ≤ most fed
all_most scope fed [] = omega arith
all_most scope fed (a ∷ more) =
    let next = take_answer scope fed fed.left a in
    omega (arith, all_most scope next more, answered_most scope fed fed.left a refl)

first_most : (scope : Scope) (script : ScriptText) → most (fed_before_answers scope script) ≤ script_length script
first_most scope script =
    let blocks = blocks_from script.line script.items in
    let fed = fed_before_lines scope script in
    omega (
      arith,
      ap (λ (ops : List Op). length ops) (run_agrees scope blocks fed).answers,
      length_of-run scope blocks fed,
    )

-- A script of a well-typed program is short.

short : (count : ℕ) → length_fault count ≡ None → count ≤ 1000000
short count none = grind arith

script_is_short : (program before more : List Item) (line k : ℕ) → fault_from program line before more ≡ None
    → script_length (script_from line k more) ≤ 1000000
script_is_short program before [] line k e = omega arith
script_is_short program before (Script name ∷ more) line zero e =
    short (script_length (record { name = name; line = line + 1; items = before_next_script more }))
    (next_none program before more line (Script name) e).0
script_is_short program before (item ∷ more) line zero e =
    script_is_short program (before ++ item ∷ []) more (line + 1) zero (next_none program before more line item e).1
script_is_short program before (Script name ∷ more) line (suc k) e =
    script_is_short program (before ++ Script name ∷ []) more (line + 1) k
    (next_none program before more line (Script name) e).1
script_is_short program before (item ∷ more) line (suc k) e =
    script_is_short program (before ++ item ∷ []) more (line + 1) (suc k) (next_none program before more line item e).1

pub scripts_ask_for_few : ScriptsAskForFew
scripts_ask_for_few program k answers typed =
    let scope = script_scope program k in
    let script = script_of program k in
    omega (
      arith,
      all_most scope (fed_before_answers scope script) answers,
      first_most scope script,
      script_is_short program [] program 1 k typed,
    )
