-- A program of a text declares few registers in a script, and few globals.
use Rattle.mk_check.proofs.Vocabulary.{ArePassed, HasFew, Item, List, None, ℕ, ap, arith, before_next_script, false}
use Rattle.mk_check.proofs.Vocabulary.{is_script, is_whole, length, length-append, limit_fault, refl, script_of}
use Rattle.mk_check.proofs.Vocabulary.{script_scope, this_script, [], ◌++◌, ◌+◌, ◌∙◌, ◌∷◌, ◌≡◌, ◌≤◌}
use Rattle.mk_check.proofs.GrammarLemmas.{at_most-None, length-global_names, of_script}
use Rattle.mk_script.{proofs.Pushed.{names_of-append, this_script-push}, specs.declared.sorts.Sort.{Sort}}
use Rattle.mk_script.specs.{Grammar.IsOfSomeText, Scopes.names_of, declared.items.Item.TheVariants.Script}

-- Names of a sort that a script declares, where each line keeps to as many.
module _ (s : Sort) (greatest : ℕ) (fits : (before : List Item) (item : Item) → limit_fault before item ≡ None
    → length (names_of s (this_script before)) ≤ greatest
    → length (names_of s (this_script before)) + length (names_of s (item ∷ [])) ≤ greatest) where
  abbrev declared : List Item → ℕ
  declared items = length (names_of s items)

  declared-append : (items behind : List Item) → declared (items ++ behind) ≡ declared items + declared behind
  declared-append items behind =
      ap length (names_of-append s items behind) ∙ length-append (names_of s items) (names_of s behind)

  -- after a line, the script declares no more than may be
  still_few : (before : List Item) (item : Item) → limit_fault before item ≡ None
      → declared (this_script before) ≤ greatest → declared (this_script (before ++ item ∷ [])) ≤ greatest
  still_few before item limit h = grind (arith, this_script-push, declared-append, fits)

  -- after a line that is no script, it declares what it did and what that does
  declares_more : (before : List Item) (item : Item) → is_script item ≡ false
      → declared (this_script (before ++ item ∷ [])) ≡ declared (this_script before) + declared (item ∷ [])
  declares_more before item e = grind (arith, this_script-push, declared-append)

  rest_is_few : (before more : List Item) → ArePassed before more → declared (this_script before) ≤ greatest
      → declared (this_script before) + declared (before_next_script more) ≤ greatest
  rest_is_few before [] passed h = omega arith
  rest_is_few before (Script name ∷ more) passed h = omega arith
  rest_is_few before (item ∷ more) passed h =
      omega (
        arith,
        declares_more before item refl,
        declared-append (item ∷ []) (before_next_script more),
        rest_is_few (before ++ item ∷ []) more passed.1 (still_few before item passed.0.within h),
      )

  script_is_few : (program : List Item) (k : ℕ) → ArePassed [] program → declared (script_of program k).items ≤ greatest
  script_is_few program k passed =
      of_script (λ before. declared (this_script before) ≤ greatest) (λ line items. declared items ≤ greatest) still_few
      (λ line. omega arith) (λ before more line passed h. omega (arith, rest_is_few before more passed h)) [] program
      1 k passed (omega arith)

pub text_has_few : (program : List Item) (k : ℕ) → IsOfSomeText program → HasFew (script_scope program k)
text_has_few program k text =
    let whole = is_whole program text in
    record {
      pointers =
          script_is_few Sort.Pointer 8 (λ before item limit h. grind (arith, at_most-None)) program k whole.lines;
      globals = length-global_names whole;
      numbers = script_is_few Sort.Number 8 (λ before item limit h. grind (arith, at_most-None)) program k whole.lines;
    }
