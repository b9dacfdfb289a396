-- Limits that the lines of a program of some text keep.
use Rattle.std.proofs.Common.{leb-true}
use Rattle.mk_check.proofs.Vocabulary.{ArePassed, Bool, Err, Item, List, None, Ok, Result, Some, Which, ℕ, and_parts}
use Rattle.mk_check.proofs.Vocabulary.{ap, append-nil, append_assoc, arith, before_next_script, false≢true}
use Rattle.mk_check.proofs.Vocabulary.{global_names, if◌then◌else◌, length, length-append, limit_fault, pages_of}
use Rattle.mk_check.proofs.Vocabulary.{resident_of, script_from, script_names, subst, suc, sym, true, type_names, zero}
use Rattle.mk_check.proofs.{Vocabulary.{[], ◌++◌, ◌+◌, ◌∷◌, ◌≡◌, ◌≤◌}, FaultLemmas.or-None}
use Rattle.mk_core.specs.Moments.{IsBetween}
use Rattle.mk_script.{proofs.{PassedLines.IsWhole, Pushed.names_of-append}, specs.declared.sorts.Sort.{Sort}}
use Rattle.mk_script.specs.{declared.items.Item.TheVariants.{Heap, Script}, Lines.{at_most, has_script, heap_line}}
use Rattle.mk_script.specs.{Lines.within, Operands.{item_from, number, ◌>>=◌}, Scopes.names_of}
use Rattle.mk_script.specs.declared.{faults.LineFault.LineFault, keywords.Keyword.Keyword}

-- a test that an Ok has passed
pub passed_then : {X Fault : Type 0} (test : Bool) (fault : Fault) (found : Result X Fault) (x : X)
    → (if test then found else Err fault) ≡ Ok x → (test ≡ true) × (found ≡ Ok x)
passed_then x0 fault found x h = grind arith

if-None : {T : Type 0} (b : Bool) (x : T) → (if b then None else Some x) ≡ None → b ≡ true
if-None x0 x h = grind arith

-- Counts of declarations.

-- a count that each line keeps within its limit
bound : (count : List Item → ℕ) (most : ℕ) → ((before : List Item) (item : Item) → limit_fault before item ≡ None
    → count before ≤ most → count (before ++ item ∷ []) ≤ most) → (before rest : List Item) → ArePassed before rest
    → count before ≤ most → count (before ++ rest) ≤ most
bound count most keeps before [] lines h = subst (λ items. count items ≤ most) (sym (append-nil before)) h
bound count most keeps before (item ∷ rest) lines h =
    subst (λ items. count items ≤ most) (append_assoc before (item ∷ []) rest)
    (bound count most keeps (before ++ item ∷ []) rest lines.1 (keeps before item lines.0.within h))

pub at_most-None : (found greatest : ℕ) (which' : Which) → at_most found greatest which' ≡ None → found ≤ greatest
at_most-None found greatest which' h = grind (arith, leb-true, if-None)

-- What holds of the lines of each script. Where it begins, the lines before it are as each line keeps them.
module _ (IsKept : List Item → Type 0) (Holds : ℕ → List Item → Type 0) (keeps : (before : List Item) (item : Item)
    → limit_fault before item ≡ None → IsKept before → IsKept (before ++ item ∷ [])) (none : (line : ℕ)
    → Holds line []) (begins : (before more : List Item) (line : ℕ) → ArePassed before more → IsKept before
    → Holds line (before_next_script more)) where
  pub of_script : (before more : List Item) (line k : ℕ) → ArePassed before more → IsKept before
      → Holds (script_from line k more).line (script_from line k more).items
  of_script before [] line k passed h = none line
  of_script before (Script name ∷ more) line zero passed h =
      begins (before ++ Script name ∷ []) more (line + 1) passed.1 (keeps before (Script name) passed.0.within h)
  of_script before (Script name ∷ more) line (suc k) passed h =
      of_script (before ++ Script name ∷ []) more (line + 1) k passed.1 (keeps before (Script name) passed.0.within h)
  of_script before (item ∷ more) line zero passed h =
      of_script (before ++ item ∷ []) more (line + 1) zero passed.1 (keeps before item passed.0.within h)
  of_script before (item ∷ more) line (suc k) passed h =
      of_script (before ++ item ∷ []) more (line + 1) (suc k) passed.1 (keeps before item passed.0.within h)

-- the names of a sort are no more than may be, where each line keeps to that
few_names : (s : Sort) (most : ℕ) → ((before : List Item) (item : Item) → limit_fault before item ≡ None
    → length (names_of s before) ≤ most → length (names_of s before) + length (names_of s (item ∷ [])) ≤ most)
    → {items : List Item} → IsWhole items → length (names_of s items) ≤ most
few_names s most fits {items = items} program =
    bound (λ xs. length (names_of s xs)) most (λ before item within h. omega (
      arith,
      ap length (names_of-append s before (item ∷ [])),
      length-append (names_of s before) (names_of s (item ∷ [])),
      fits before item within h,
    )) [] items program.lines (omega arith)

pub length-global_names : {items : List Item} → IsWhole items → length (global_names items) ≤ 64
length-global_names program = grind (arith, few_names, at_most-None)

pub length-type_names : {items : List Item} → IsWhole items → length (type_names items) ≤ 64
length-type_names program = grind (arith, few_names, at_most-None, or-None)

some_script : (items : List Item) → has_script items ≡ true → 1 ≤ length (script_names items)
some_script [] has = absurd (false≢true has)
some_script (Script name ∷ items) has = omega arith
some_script (item ∷ items) has = some_script items has

pub length-script_names : {items : List Item} → IsWhole items → IsBetween 1 16 (length (script_names items))
length-script_names program = grind (arith, some_script, few_names, at_most-None)

-- The pages of the heap.

pub within-None : (least found greatest : ℕ) (which' : Which) → within least found greatest which' ≡ None
    → IsBetween least greatest found
within-None least found greatest which' h = grind (arith, and_parts, if-None, leb-true)

pub record IsHeapLine (item : Item) : Type 0 where
  pub pages : ℕ
  pub resident : ℕ
  pub is : item ≡ Heap pages resident

two_numbers : (pages resident : Result ℕ LineFault) (item : Item)
    → (pages >>= (λ p. resident >>= (λ r. Ok (Heap p r)))) ≡ Ok item → IsHeapLine item
two_numbers x0 resident item h = grind arith

item_from-heap : (a b : List ℕ) (item : Item) → item_from Keyword.Heap (a ∷ b ∷ []) ≡ Ok item → IsHeapLine item
unfolding item_from
item_from-heap a b item h = two_numbers (number a) (number b) item h

pub heap_line-item : (words : List (List ℕ)) (item : Item) → heap_line words ≡ Ok item → IsHeapLine item
heap_line-item words item h = grind (arith, item_from-heap, passed_then)

pub record IsHeapWithin (items : List Item) : Type 0 where
  pub pages : IsBetween 1 4096 (pages_of items)
  pub resident : IsBetween 1 (pages_of items) (resident_of items)

heap_first : {item : Item} (items : List Item) → limit_fault [] item ≡ None → IsHeapLine item
    → IsHeapWithin (item ∷ items)
heap_first items h heap = grind (arith, or-None, within-None)

pub heap_within : (items : List Item) → IsWhole items → IsHeapWithin items
heap_within [] program = absurd (false≢true program.script)
heap_within (item ∷ items) program =
    let line = program.lines.0 in heap_first items line.within (heap_line-item line.words item line.says)
