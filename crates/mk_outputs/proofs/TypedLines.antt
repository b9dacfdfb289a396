-- Lines of a script that are well typed after others.
use Rattle.mk_outputs.proofs.Vocabulary.{Item, List, None, Option, Script, ℕ, ap, append-nil, append_assoc, false≢true}
use Rattle.mk_outputs.proofs.Vocabulary.{refl, subst, sym, this_script, this_script-push, true, [], ◌++◌, ◌+◌, ◌∙◌, ◌∷◌}
use Rattle.mk_outputs.proofs.{Vocabulary.◌≡◌, InScript.is_inside}
use Rattle.mk_check.specs.Typing.{Around, TypingFault, at_line, fault_from, typing_fault, lines_behind}
use Rattle.mk_check.specs.declared.typing_faults.TypeKind.{TypeKind}

-- a line of a script that is well typed, after these lines of it
pub record IsTyped (program script : List Item) (item : Item) : Type 0 where
  pub inside : is_inside item ≡ true
  pub no_fault : typing_fault (record { program = program; script = script }) 0 [] item ≡ None

abbrev pub AreTyped : List Item → List Item → List Item → Type 0
AreTyped program script [] = Unit {0}
AreTyped program script (item ∷ items) = IsTyped program script item × AreTyped program (script ++ item ∷ []) items

pub typed : {program script : List Item} {item : Item} → is_inside item ≡ true
    → typing_fault (record { program = program; script = script }) 0 [] item ≡ None → IsTyped program script item
typed inside no_fault = record { inside = inside; no_fault = no_fault }

-- a line of a script is typed by what stands before it alone
fault_inside : (a : Around) (line : ℕ) (behind : List Item) (item : Item) → is_inside item ≡ true
    → typing_fault a line behind item ≡ typing_fault a 0 [] item
fault_inside a line behind (Script name) inside = absurd (false≢true inside)
fault_inside a line behind item inside = refl

script_inside : (script : List Item) (item : Item) → is_inside item ≡ true
    → lines_behind script item ≡ script ++ item ∷ []
script_inside script (Script name) inside = absurd (false≢true inside)
script_inside script item inside = refl

pub go_on : (line : ℕ) (fault : Option TypeKind) (other : Option TypingFault) → fault ≡ None → other ≡ None
    → at_line line fault other ≡ None
go_on line fault other none none' = rw (none, none') refl

-- Lines that are well typed have no fault before those after them.
pub typed_then : (program script before items more : List Item) (line : ℕ) → this_script before ≡ script
    → AreTyped program script items → ((later : ℕ) → fault_from program later (before ++ items) more ≡ None)
    → fault_from program line before (items ++ more) ≡ None
typed_then program script before [] more line is are rest =
    subst (λ b. fault_from program line b more ≡ None) (append-nil before) (rest line)
typed_then program script before (item ∷ items) more line is are rest =
    let no_fault : typing_fault (record { program = program; script = this_script before }) line (items ++ more) item
    ≡ None =
    fault_inside (record { program = program; script = this_script before }) line (items ++ more) item are.0.inside
    ∙ ap (λ lines. typing_fault (record { program = program; script = lines }) 0 [] item) is ∙ are.0.no_fault in
    let script_is : this_script (before ++ item ∷ []) ≡ script ++ item ∷ [] =
    this_script-push before item ∙ ap (λ lines. lines_behind lines item) is ∙ script_inside script item are.0.inside in
    let behind : (later : ℕ) → fault_from program later ((before ++ item ∷ []) ++ items) more ≡ None = λ later. subst
    (λ b. fault_from program later b more ≡ None) (sym (append_assoc before (item ∷ []) items)) (rest later) in
    go_on line _ _ no_fault
    (typed_then program (script ++ item ∷ []) (before ++ item ∷ []) items more (line + 1) script_is are.1 behind)
