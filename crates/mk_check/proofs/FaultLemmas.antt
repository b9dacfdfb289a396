-- The first fault, as lines are read one by one.
use Rattle.std.proofs.{Common.{IfOk, cond, count_by}, lemmas.List.Recursion.is_count_by}
use Rattle.mk_check.proofs.Vocabulary.{Bool, Item, List, None, Option, Result, Some, TypeKind, ℕ, arith, around}
use Rattle.mk_check.proofs.Vocabulary.{at_line, drop, drop_more, fault_from, get_or, is_script, is_some, length}
use Rattle.mk_check.proofs.Vocabulary.{option_or, refl, script_names, take, take_more, true, typing_fault, ◌+◌, ◌<◌}
use Rattle.mk_check.{proofs.Vocabulary.{◌∙◌, ◌∷◌, ◌≡◌}, specs.{Typing.Reading, Typing.{TypingFault, unless}}}

pub IfOk-map : {T E : Type 0} {P Q : T → Type 0} (r : Result T E) → ((x : T) → P x → Q x) → IfOk r P → IfOk r Q
IfOk-map x0 f p = grind arith

-- Tests that report nothing.

pub or-None : {T : Type 0} (fault other : Option T) → option_or fault other ≡ None → (fault ≡ None) × (other ≡ None)
or-None x0 other h = grind arith

pub unless-None : (b : Bool) (fault : TypeKind) → unless b fault ≡ None → b ≡ true
unless-None x0 fault h = grind arith

pub at_line-None : (line : ℕ) (fault : Option TypeKind) (other : Option TypingFault) → at_line line fault other ≡ None
    → (fault ≡ None) × (other ≡ None)
at_line-None line x1 other h = grind arith

-- a value, by its test
pub record HasValue {X : Type 0} (o : Option X) : Type 0 where
  pub value : X
  pub is : o ≡ Some value

pub has_value : {X : Type 0} (o : Option X) → is_some o ≡ true → HasValue o
has_value x0 h = grind arith

module _ (program : List Item) (i : ℕ) (item : Item) (within : i < length program) (read : item ≡ get_or program i item)
    (reading : Reading) (at : reading ≡ record { program = program; count = i }) (behind : List Item)
    (rest : behind ≡ drop (i + 1) program) where
  fault_from-next : (fault : Option TypeKind) → fault ≡ typing_fault (around reading) (i + 1) behind item
      → fault_from program (i + 1) (take i program) (drop i program)
      ≡ at_line (i + 1) fault (fault_from program (i + 1 + 1) (take (i + 1) program) (drop (i + 1) program))
  fault_from-next fault is = grind (arith, drop_more, take_more)

  -- the line is ill typed
  pub fault_from-some : (fault : Option TypeKind) (what : TypeKind)
      → fault ≡ typing_fault (around reading) (i + 1) behind item → fault ≡ Some what
      → fault_from program (i + 1) (take i program) (drop i program) ≡ Some (record { line = i + 1; kind = what })
  fault_from-some fault what is some = fault_from-next fault is ∙ rw some refl

  -- it isn't
  pub fault_from-none : (fault : Option TypeKind) → fault ≡ typing_fault (around reading) (i + 1) behind item
      → fault ≡ None → fault_from program (i + 1) (take i program) (drop i program)
      ≡ fault_from program (i + 1 + 1) (take (i + 1) program) (drop (i + 1) program)
  fault_from-none fault is none = fault_from-next fault is ∙ rw none refl

script_names-cons : (item : Item) (items : List Item) → length (script_names (item ∷ items))
    ≡ cond (is_script item) (1 + length (script_names items)) (length (script_names items))
script_names-cons item items = grind arith

pub length-script_names : (items : List Item) → length (script_names items) ≡ count_by is_script items
length-script_names items = is_count_by (λ xs. length (script_names xs)) is_script refl script_names-cons items
