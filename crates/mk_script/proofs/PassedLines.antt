-- What each line of a program of some text keeps, after the lines before it.
use Rattle.mk_script.proofs.Vocabulary.{Bool, Err, IsOfSomeText, Item, LineFault, List, None, Ok, Option, Result, ℕ, ap}
use Rattle.mk_script.proofs.Vocabulary.{append-nil, append_assoc, arith, ends_rightly, false, go_on, has_none}
use Rattle.mk_script.proofs.Vocabulary.{has_script, if◌then◌else◌, is_twice, items_behind, items_of_lines, length}
use Rattle.mk_script.proofs.Vocabulary.{line_of, lines_of, nat_le, open_blocks, refl, subst, sym, true, words_of_line}
use Rattle.mk_script.proofs.Vocabulary.{[], ◌++◌, ◌+◌, ◌>>=◌, ◌∙◌, ◌∷◌, ◌≡◌}
use Rattle.mk_script.specs.{Lines.{checked_item, limit_fault, line_item, or_item}, declared.faults.TextStop.TextStop}

-- A line after these: what its words say; it declares no name twice, passes no limit, and ends no block that isn't
-- open.
pub record IsPassed (before : List Item) (item : Item) : Type 0 where
  pub words : List (List ℕ)
  pub reads : line_of before words ≡ Ok item
  pub says : line_item before words ≡ Ok item
  pub fresh : is_twice before item ≡ false
  pub within : limit_fault before item ≡ None
  pub ends : ends_rightly (open_blocks before) item ≡ true

abbrev pub ArePassed : List Item → List Item → Type 0
ArePassed before [] = Unit {0}
ArePassed before (item ∷ items) = IsPassed before item × ArePassed (before ++ item ∷ []) items

-- the lines of a program, which close all blocks, and of which one begins a script
pub record IsWhole (items : List Item) : Type 0 where
  pub lines : ArePassed [] items
  pub script : has_script items ≡ true
  pub closed : has_none (open_blocks items) ≡ true

-- what lines after these give
record Behind (before items : List Item) : Type 0 where
  rest : List Item
  all : before ++ rest ≡ items
  lines : ArePassed before rest
  script : has_script items ≡ true
  closed : has_none (open_blocks items) ≡ true

record Checks (twice right : Bool) (fault : Option LineFault) (found item : Item) : Type 0 where
  same : found ≡ item
  fresh : twice ≡ false
  within : fault ≡ None
  ends : right ≡ true

checks : (twice ends : Bool) (first last : LineFault) (fault : Option LineFault) (found item : Item)
    → (if twice then Err first else (or_item fault found >>= (λ item'. if ends then Ok item' else Err last))) ≡ Ok item
    → Checks twice ends fault found item
checks x0 ends first last fault found item h = grind arith

-- an item that may stand next declares no name twice
pub fresh_if : (before : List Item) (item found : Item) → checked_item before item ≡ Ok found
    → is_twice before item ≡ false
fresh_if before item found h = (checks (is_twice before item) (ends_rightly (open_blocks before) item) _ _
    (limit_fault before item) item found h).fresh

pub passed : (before : List Item) (words : List (List ℕ)) (item : Item) → line_of before words ≡ Ok item
    → IsPassed before item
passed before words item h = by_found (line_item before words) refl h
  where
    by_found : (r : Result Item LineFault) → line_item before words ≡ r → (r >>= checked_item before) ≡ Ok item
        → IsPassed before item
    by_found (Ok found) says e =
        let c = checks (is_twice before found) (ends_rightly (open_blocks before) found) _ _ (limit_fault before found)
        found item e in
        record {
          words = words;
          reads = h;
          says = says ∙ ap (λ (x : Item). Ok x) c.same;
          fresh = ap (is_twice before) (sym c.same) ∙ c.fresh;
          within = ap (limit_fault before) (sym c.same) ∙ c.within;
          ends = ap (ends_rightly (open_blocks before)) (sym c.same) ∙ c.ends;
        }
    by_found (Err fault) says e = absurd cc

ended : (closed script : Bool) (first last : TextStop) (before items : List Item) → script ≡ has_script before
    → closed ≡ has_none (open_blocks before)
    → (if closed then (if script then Ok before else Err first) else Err last) ≡ Ok items → Behind before items
ended x0 script first last before items has close h = grind (arith, append-nil)

one_more : (line : ℕ) (before items : List Item) (next : Item → Result (List Item) TextStop) (r : Result Item LineFault)
    → ((item : Item) → r ≡ Ok item → IsPassed before item) → ((item : Item) → next item ≡ Ok items
    → Behind (before ++ item ∷ []) items) → go_on line r next ≡ Ok items → Behind before items
one_more line before items next x4 is behind h = grind (arith, append_assoc)

lines_behind : (lines : List (List ℕ)) (before items : List Item) → items_behind lines before ≡ Ok items
    → Behind before items
lines_behind [] before items h = ended (has_none (open_blocks before)) (has_script before) _ _ before items refl refl h
lines_behind (line ∷ lines) before items h =
    one_more (length before + 1) before items (λ item. items_behind lines (before ++ item ∷ []))
    (line_of before (words_of_line line))
    (passed before (words_of_line line)) (λ item. lines_behind lines (before ++ item ∷ []) items) h

pub whole_lines : (lines : List (List ℕ)) (items : List Item) → items_of_lines lines ≡ Ok items → IsWhole items
whole_lines [] items h = absurd cc
whole_lines (line ∷ lines) items h =
    let b = lines_behind (line ∷ lines) [] items h in
    record { lines = subst (ArePassed []) b.all b.lines; script = b.script; closed = b.closed }

pub is_whole : (items : List Item) → IsOfSomeText items → IsWhole items
is_whole items (text, h) = by_size (nat_le (length text) 1048576) _ h
  where
    by_size : (small : Bool) (stop : TextStop) → (if small then items_of_lines (lines_of text) else Err stop) ≡ Ok items
        → IsWhole items
    by_size true stop e = whole_lines (lines_of text) items e
    by_size false stop e = absurd cc
