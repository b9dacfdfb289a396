-- Each line of a script of a well-typed program says what a well-typed line says.
use Rattle.mk_check.proofs.Vocabulary.{At, Item, List, None, Some, ℕ, ap, append_assoc, before_next_script, fault_from}
use Rattle.mk_check.proofs.Vocabulary.{pointer_at, script_from, script_of, suc, sym, this_script, typing_fault, zero}
use Rattle.mk_check.proofs.Vocabulary.{[], ◌++◌, ◌+◌, ◌∷◌, ◌≡◌}
use Rattle.mk_check.proofs.{DeclaredPlaces.said_of-append, FaultLemmas.at_line-None, TypedLines.Says, TypedLines.says}
use Rattle.mk_check.proofs.LinesLeft.{AllFrom}
use Rattle.mk_check.specs.Typing.{IsWellTyped, declared_place}
use Rattle.mk_script.{proofs.Pushed.this_script-push, specs.declared.items.Item.TheVariants.Script}

-- what is declared before stays declared with more lines
stays : (script before behind : List Item) → script ≡ before ++ behind → (name : List ℕ) (at : At)
    → pointer_at name before ≡ Some at → pointer_at name script ≡ Some at
stays script before behind all name at is = cc (said_of-append declared_place name before behind)

module _ (program : List Item) where
  pub next_none : (before more : List Item) (line : ℕ) (item : Item)
      → fault_from program line before (item ∷ more) ≡ None
      → (typing_fault (record { program = program; script = this_script before }) line more item ≡ None)
      × (fault_from program (line + 1) (before ++ item ∷ []) more ≡ None)
  next_none before more line item e = at_line-None line _ _ e

  -- the lines that are left of a script
  rest_says : (script before more : List Item) (line place : ℕ) → script ≡ this_script before ++ before_next_script more
      → fault_from program line before more ≡ None → AllFrom (λ l. Says program script) place (before_next_script more)
  rest_says script before [] line place all e = tt
  rest_says script before (Script name ∷ more) line place all e = tt
  rest_says script before (item ∷ more) line place all e =
      let none = next_none before more line item e in (
        says (record { program = program; script = this_script before }) script
            (stays script (this_script before) (before_next_script (item ∷ more)) all) line more item none.0,
        rest_says script (before ++ item ∷ []) more (line + 1) (place + 1) (cc (
          append_assoc (this_script before) (item ∷ []) (before_next_script more),
          this_script-push before item,
        )) none.1,
      )

  from_says : (before more : List Item) (line place k : ℕ) → fault_from program line before more ≡ None
      → AllFrom (λ l. Says program (script_from place k more).items) (script_from place k more).line
      (script_from place k more).items
  from_says before [] line place k e = tt
  from_says before (Script name ∷ more) line place zero e =
      rest_says (before_next_script more) (before ++ Script name ∷ []) more (line + 1) (place + 1)
      (ap (λ (lines : List Item). lines ++ before_next_script more) (sym (this_script-push before (Script name))))
      (next_none before more line (Script name) e).1
  from_says before (item ∷ more) line place zero e =
      from_says (before ++ item ∷ []) more (line + 1) (place + 1) zero (next_none before more line item e).1
  from_says before (Script name ∷ more) line place (suc k) e =
      from_says (before ++ Script name ∷ []) more (line + 1) (place + 1) k
      (next_none before more line (Script name) e).1
  from_says before (item ∷ more) line place (suc k) e =
      from_says (before ++ item ∷ []) more (line + 1) (place + 1) (suc k) (next_none before more line item e).1

  pub script_says : (k : ℕ) → IsWellTyped program
      → AllFrom (λ l. Says program (script_of program k).items) (script_of program k).line (script_of program k).items
  script_says k typed = from_says [] program 1 1 k typed
