-- The operations of a well-typed program's scripts are admitted.
use Rattle.std.proofs.{lemmas.List.Elements.{All-head, All-nil, All-push, All-tail}, Common.{eq-eqb, eqb-true, ◌≢◌}}
use Rattle.std.proofs.lemmas.List.{get_or-replicate}
use Rattle.mk_check.proofs.Vocabulary.{All, Answer, Blocks, Bool, Fed, HasFew, IfSome, IsOfKind, Item, Line, List}
use Rattle.mk_check.proofs.Vocabulary.{NeverState, None, Op, Option, Scope, Some, Value, ℕ, append-nil, arith}
use Rattle.mk_check.proofs.Vocabulary.{blocks_from, false, false≢true, fed_before_answers, fed_before_lines, feed}
use Rattle.mk_check.proofs.Vocabulary.{flagged, globals_of, if◌then◌else◌, length, length-replicate, next_op, note}
use Rattle.mk_check.proofs.Vocabulary.{number_of_name, op_of, option_map, pointer_names, refl, run, scope_of}
use Rattle.mk_check.proofs.Vocabulary.{script_names, script_of, script_scope, subst, sym, take_answer, take_answers}
use Rattle.mk_check.proofs.Vocabulary.{true, types_of, with_answer, [], ◌*◌, ◌++◌, ◌+◌, ◌<◌, ◌==◌, ◌∙◌, ◌∷◌, ◌≡◌, ◌≤◌}
use Rattle.mk_check.proofs.{AdmittedLines.{admitted, line_keeps}, DeclaredRegisters.{AreAsDeclared, FitsScript}}
use Rattle.mk_check.proofs.{DeclaredRegisters.kind_at, LinesLeft.{AllPlaced, AllPlaced-run, AllPlaced-take_answers}}
use Rattle.mk_check.proofs.{LinesLeft.{next_placed, next_stands, placed_of_script}, DeclaredPlaces.pointer_within}
use Rattle.mk_check.proofs.{FeedLaws.ops-feed_push, FewNames.text_has_few, Numbered.{ops-with_answer, run_agrees}}
use Rattle.mk_check.proofs.{TypedLines.Says, TypedScripts.script_says}
use Rattle.mk_never.proofs.Later.{op_stays}
use Rattle.mk_never.specs.{Admitted.{AreAdmitted, IsAdmitted}, Laws.{Continues, KeepsRegisters}}
use Rattle.mk_never.specs.{NeverHeap.{Call, after_calls, after_op}, declared.values.Value.TheVariants.Null}
use Rattle.mk_check.specs.Laws.{AnswersAreNoted, AreAdmittedFor, AreNotedBy, AreOfScripts, IsChecked, IsScript}
use Rattle.mk_check.specs.Laws.{NextIsAdmitted, OthersAreIgnored, heap_of, ops_of_caller}
use Rattle.mk_never.proofs.Registers as registers
use Rattle.mk_never.proofs.TypedCalls as typed_calls

-- an operation as a well-typed line of the script asks for it, noted with an answer
record IsAsked (program script : List Item) (op : Op) : Type 0 where
  item : Item
  says : Says program script item
  fed : Fed
  asked : Op
  is : op_of (scope_of program script) fed item ≡ Some asked
  answer : Answer
  noted_so : op ≡ flagged asked answer

-- No line asks for a New that is full, so an operation is asked for as it is noted with this answer.
flagged_asked : (scope : Scope) (fed : Fed) (item : Item)
    → option_map (λ o. flagged o Answer.Done) (op_of scope fed item) ≡ op_of scope fed item
flagged_asked scope fed item = grind arith

by_caller : {P : Type 0} (c caller : ℕ) → (c ≡ caller → P) → (c ≢ caller → P) → P
by_caller c caller own other = grind (arith, eqb-true, eq-eqb)

-- what holds of a caller's operations holds of the first call's, where it is the caller's, and of those after it
split_ops : (P : Op → Type 0) (caller : ℕ) (x : Call) (xs : List Call) → All P (ops_of_caller caller (x ∷ xs))
    → (x.caller ≡ caller → P x.op) × All P (ops_of_caller caller xs)
split_ops P caller x xs h = by_test (x.caller == caller) refl h
  where
    by_test : (same : Bool) → (x.caller == caller) ≡ same
        → All P (if same then x.op ∷ ops_of_caller caller xs else ops_of_caller caller xs)
        → (x.caller ≡ caller → P x.op) × All P (ops_of_caller caller xs)
    by_test true e h = (
      λ same. All-head P x.op (ops_of_caller caller xs) h,
      All-tail P x.op (ops_of_caller caller xs) h,
    )
    by_test false e h = (λ same. absurd (false≢true (sym e ∙ eq-eqb x.caller caller same)), h)

of_some : {X : Type 0} (o : Option X) (P : X → Type 0) (x : X) → o ≡ Some x → IfSome o P → P x
of_some o P x e h = subst (λ p. IfSome p P) e h

module _ (program script : List Item) (few : HasFew (scope_of program script)) where
  abbrev Asked : Op → Type 0
  Asked o = IsAsked program script o

  -- What a script notes.

  note_asked : (fed : Fed) (line : ℕ) (item : Item) (a : Answer) → Says program script item → All Asked fed.ops
      → (o : Option Op) → op_of (scope_of program script) fed item ≡ o → All Asked (note fed o line a).ops
  note_asked fed line item a says before None is = before
  note_asked fed line item a says before (Some o) is =
      All-push Asked fed.ops (flagged o a) before
      (record { item = item; says = says; fed = fed; asked = o; is = is; answer = a; noted_so = refl })

  take_asked : (fed : Fed) (left : Blocks) (a : Answer) → AllPlaced (λ l. Says program script) left → All Asked fed.ops
      → All Asked (take_answer (scope_of program script) fed left a).ops
  take_asked fed (Line line item rest) a placed before =
      let scope = scope_of program script in
      let with_note = note fed (op_of scope fed item) line a in
      let same : (run scope rest (with_answer scope with_note item a)).ops ≡ with_note.ops =
      (run_agrees scope rest (with_answer scope with_note item a)).answers ∙ ops-with_answer scope with_note item a in
      subst (All Asked) (sym same) (note_asked fed line item a placed.0 before (op_of scope fed item) refl)
  take_asked fed _ a placed before = before

  takes_asked : (answers : List Answer) (fed : Fed) → AllPlaced (λ l. Says program script) fed.left → All Asked fed.ops
      → All Asked (take_answers (scope_of program script) fed answers).ops
  takes_asked [] fed placed before = before
  takes_asked (a ∷ answers) fed placed before =
      let scope = scope_of program script in
      takes_asked answers (take_answer scope fed fed.left a) (AllPlaced-take_answers (λ l. Says program script) scope
      (a ∷ []) fed placed) (take_asked fed fed.left a placed before)

  -- An operation that is asked for is admitted, and leaves the registers as declared.

  asked_admitted : {n : NeverState} {caller : ℕ} → FitsScript program script n caller → (o : Op) → Asked o
      → IsAdmitted (globals_of program) n caller o
  asked_admitted {n} {caller} fits o asked =
      subst (λ (x : Op). IsAdmitted (globals_of program) n caller x) (sym asked.noted_so) (of_some
      (op_of (scope_of program script) asked.fed asked.item) (λ x. (a : Answer) → IsAdmitted (globals_of program) n
      caller (flagged x a)) asked.asked asked.is (admitted few fits asked.fed asked.item asked.says) asked.answer)

  own_keeps : {n : NeverState} {caller : ℕ} → FitsScript program script n caller → (o : Op) → Asked o
      → AreAsDeclared program script (after_op n caller o) caller
  own_keeps {n} {caller} fits o asked =
      subst (λ (x : Op). AreAsDeclared program script (after_op n caller x) caller) (sym asked.noted_so)
      (of_some (op_of (scope_of program script) asked.fed asked.item) (λ x. (a : Answer)
      → AreAsDeclared program script (after_op n caller (flagged x a)) caller) asked.asked asked.is
      (line_keeps few fits asked.fed asked.item asked.says) asked.answer)

  others_keep : (n : NeverState) (caller : ℕ) → AreAsDeclared program script n caller → (m : NeverState)
      → KeepsRegisters caller n m → AreAsDeclared program script m caller
  others_keep n caller before m same = grind (arith, pointer_within, kind_at)

  -- a call that is admitted, and is asked for by the script where it is the caller's
  call_fits : {n : NeverState} {caller : ℕ} → FitsScript program script n caller → (x : Call)
      → IsAdmitted (globals_of program) n x.caller x.op
      → (x.caller ≡ caller → Asked x.op) → FitsScript program script (after_op n x.caller x.op) caller
  call_fits {n} {caller} fits x admits asked =
      let goes_on : Continues n (after_op n x.caller x.op) = op_stays n x.caller x.op in
      let own : x.caller ≡ caller → AreAsDeclared program script (after_op n x.caller x.op) caller =
      grind (arith, own_keeps) in
      let other : x.caller ≢ caller → AreAsDeclared program script (after_op n x.caller x.op) caller =
      λ differs. others_keep n caller fits.declared (after_op n x.caller x.op)
      (registers.op_keeps n caller x.caller x.op differs (registers.destination n x.op admits.in_range)) in
      let fits_caller = fits.of_a_caller in
      record {
        types = goes_on.types ∙ fits.types;
        globals = goes_on.globals ∙ fits.globals;
        of_a_caller = omega (arith, goes_on.registers);
        typed = typed_calls.op_keeps (globals_of program) n x.caller fits.typed x.op admits.in_range admits.access
            admits.store;
        declared = by_caller x.caller caller own other;
      }

  calls_fit : {n : NeverState} {caller : ℕ} (calls : List Call) → FitsScript program script n caller
      → AreAdmitted (globals_of program) n calls
      → All Asked (ops_of_caller caller calls) → FitsScript program script (after_calls n calls) caller
  calls_fit [] fits admits asked = fits
  calls_fit {n} {caller} (x ∷ xs) fits admits asked =
      let parts = split_ops Asked caller x xs asked in
      calls_fit {n = after_op n x.caller x.op} xs (call_fits fits x admits.0 parts.0) admits.1 parts.1

  -- all registers are null at the start
  start_fits : (callers k : ℕ) → k < callers → FitsScript program script (heap_of program callers) k
  start_fits callers k is = record {
    types = refl;
    globals = length-replicate 64 Null;
    of_a_caller = omega (arith, length-replicate (8 * callers) Null);
    typed = typed_calls.start_is_typed (globals_of program) (types_of program) callers;
    declared = λ name at is'.
        let within = pointer_within name script at is' in
        let most = few.pointers in
        let below : 8 * k + number_of_name name (pointer_names script) < 8 * callers = omega arith in
        subst (λ (v : Value). IsOfKind v (kind_at program at))
        (sym (get_or-replicate (8 * callers) (8 * k + number_of_name name (pointer_names script)) Null Null below)) tt;
  }

-- Scripts of a program.

abbrev lines_of : List Item → ℕ → List Item
lines_of program k = (script_of program k).items

started_ops : (program : List Item) (k : ℕ)
    → (fed_before_answers (script_scope program k) (script_of program k)).ops ≡ []
started_ops program k =
    (run_agrees (script_scope program k) (blocks_from (script_of program k).line (lines_of program k))
    (fed_before_lines (script_scope program k) (script_of program k))).answers

pub first_are_noted : (program : List Item) (k : ℕ) → AreNotedBy program k [] []
first_are_noted program k = sym (started_ops program k)

-- One call more.

ops_push : (caller : ℕ) (calls : List Call) (x : Call)
    → ops_of_caller caller (calls ++ x ∷ []) ≡ ops_of_caller caller calls ++ ops_of_caller caller (x ∷ [])
ops_push caller [] x = refl
ops_push caller (y ∷ calls) x = by_test (y.caller == caller) (ops_push caller calls x)
  where
    by_test : (same : Bool)
        → ops_of_caller caller (calls ++ x ∷ []) ≡ ops_of_caller caller calls ++ ops_of_caller caller (x ∷ [])
        → (if same then y.op ∷ ops_of_caller caller (calls ++ x ∷ []) else ops_of_caller caller (calls ++ x ∷ [])) ≡ (if
        same then y.op ∷ ops_of_caller caller calls else ops_of_caller caller calls) ++ ops_of_caller caller (x ∷ [])
    by_test x0 e = grind arith

pub answers_are_noted : (program : List Item) (k : ℕ) (answers : List Answer) (calls : List Call)
    → AreNotedBy program k answers calls → AnswersAreNoted program k answers calls
answers_are_noted program k answers calls are o a e = grind (arith, ops_push, ops-feed_push, eq-eqb)

pub others_are_ignored : (program : List Item) (k : ℕ) (answers : List Answer) (calls : List Call)
    → AreNotedBy program k answers calls → OthersAreIgnored program k answers calls
others_are_ignored program k answers calls are call differs = grind (arith, ops_push, append-nil, eqb-true)

feed_asked : {program : List Item} (k : ℕ) (answers : List Answer) → IsChecked program
    → All (IsAsked program (lines_of program k)) (feed program k answers).ops
feed_asked {program} k answers checked =
    let script = script_of program k in
    let scope = script_scope program k in
    let P = λ (line : ℕ) (item : Item). Says program script.items item in
    takes_asked program script.items (text_has_few program k checked.of_some_text) answers
    (fed_before_answers scope script) (AllPlaced-run P scope (blocks_from script.line script.items) (placed_of_script P
    script.line script.items (script_says program k checked.well_typed)) (fed_before_lines scope script))
    (subst (All (IsAsked program script.items)) (sym (started_ops program k)) (All-nil (IsAsked program script.items)))

-- the caller's operations are asked for, where its script notes them
noted_asked : {program : List Item} (k : ℕ) (answers : List Answer) (calls : List Call) → IsChecked program
    → AreNotedBy program k answers calls → All (IsAsked program (lines_of program k)) (ops_of_caller k calls)
noted_asked k answers calls checked are = grind (arith, lines_of, feed_asked)

pub next_is_admitted : (program : List Item) (callers : ℕ) (calls : List Call) (k : ℕ) (answers : List Answer)
    → IsChecked program
    → length (script_names program) ≤ callers → IsScript program k → AreAdmittedFor program callers calls
    → AreNotedBy program k answers calls → NextIsAdmitted program callers calls k answers
next_is_admitted program callers calls k answers checked enough is_script admits are =
    let script = lines_of program k in
    let few = text_has_few program k checked.of_some_text in
    let is_caller : k < callers = omega arith in
    let fits = calls_fit program script few calls
    (start_fits program script few callers k is_caller) admits (noted_asked k answers calls checked are) in
    let noted_too = λ (o : Op) (a : Answer) (e : next_op program k answers ≡ Some o). asked_admitted program script few
    fits (flagged o a) (let at = next_placed
    (λ line. Says program (lines_of program k)) program k answers o (script_says program k checked.well_typed) e in
    record {
      item = at.item;
      says = at.holds;
      fed = feed program k answers;
      asked = o;
      is = at.op;
      answer = a;
      noted_so = refl;
    }) in
    record {
      asked = λ o e. subst (λ (x : Op). IsAdmitted (globals_of program) (after_calls (heap_of program callers) calls) k
          x) (grind (arith, next_stands, flagged_asked)) (noted_too o Answer.Done e);
      noted = noted_too;
    }

-- All scripts at once.

all_admitted : {program : List Item} → IsChecked program → (n : NeverState) (calls : List Call)
    → ((k : ℕ) → IsScript program k → FitsScript program (lines_of program k) n k) → All
    (λ call. IsScript program call.caller) calls → ((k : ℕ) → IsScript program k → All
    (IsAsked program (lines_of program k)) (ops_of_caller k calls)) → AreAdmitted (globals_of program) n calls
all_admitted checked n [] fits callers asked = tt
all_admitted {program} checked n (x ∷ xs) fits callers asked =
    let few = λ (k : ℕ). text_has_few program k checked.of_some_text in
    let parts = λ (k : ℕ) (is : IsScript program k). split_ops (IsAsked program (lines_of program k)) k x xs
    (asked k is) in
    let is_script = All-head (λ call. IsScript program call.caller) x xs callers in
    let admits = asked_admitted program (lines_of program x.caller) (few x.caller) (fits x.caller is_script)
    x.op ((parts x.caller is_script).0 refl) in (
      admits,
      all_admitted checked (after_op n x.caller x.op) xs
          (λ k is. call_fits program (lines_of program k) (few k) (fits k is) x admits (parts k is).0)
          (All-tail (λ call. IsScript program call.caller) x xs callers) (λ k is. (parts k is).1),
    )

pub scripts_are_admitted : (program : List Item) (callers : ℕ) (calls : List Call) → IsChecked program
    → length (script_names program) ≤ callers → AreOfScripts program calls → AreAdmittedFor program callers calls
scripts_are_admitted program callers calls checked enough are =
    all_admitted checked (heap_of program callers) calls (λ k is. start_fits program (lines_of program k)
    (text_has_few program k checked.of_some_text) callers k (omega arith)) are.callers
    (λ k is. noted_asked k (are.ops k is).answers calls checked (are.ops k is).are_noted)

pub ruleset what_scripts_ask_is_noted_facts = (first_are_noted, answers_are_noted, others_are_ignored)
