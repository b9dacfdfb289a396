-- Each line that a script has left to run is a line of the script.
use Rattle.std.{proofs.lemmas.List.Elements.{All-head, All-tail}, specs.Prelude.⊤}
use Rattle.mk_check.proofs.Vocabulary.{All, Answer, Blocks, Bool, Choice, Done, Fed, Item, Line, List, Op, Part, Rounds}
use Rattle.mk_check.proofs.Vocabulary.{Scope, ScriptText, Some, ℕ, append_assoc, arith, blocks_from, branch, false}
use Rattle.mk_check.proofs.Vocabulary.{fed_before_answers, fed_before_lines, feed, first_op, if◌then◌else◌}
use Rattle.mk_check.proofs.Vocabulary.{is_end_of_block, is_some, length, length_push, next_op, note, op_of}
use Rattle.mk_check.proofs.Vocabulary.{outermost_blocks, parts_from, refl, run, script_of, script_scope, suc, sym}
use Rattle.mk_check.proofs.Vocabulary.{take_answer, take_answers, true, with_answer, with_item, zero, [], ◌++◌, ◌+◌}
use Rattle.mk_check.{proofs.Vocabulary.{◌==◌, ◌∙◌, ◌∷◌, ◌≡◌}, specs.Feed.{then_run}}
use Rattle.mk_check.specs.{Blocks.followed_by, Feed.{number_in, run_line, run_rounds}}

-- P holds of each line's number and item
abbrev pub AllPlaced : (ℕ → Item → Type 0) → Blocks → Type 0
AllPlaced P Done = ⊤
AllPlaced P (Line line item rest) = P line item × AllPlaced P rest
AllPlaced P (Rounds rounds body rest) = AllPlaced P body × AllPlaced P rest
AllPlaced P (Choice number first second rest) = AllPlaced P first × AllPlaced P second × AllPlaced P rest

-- P holds of each line's item
abbrev pub AllLines : (Item → Type 0) → Blocks → Type 0
AllLines P blocks = AllPlaced (λ line. P) blocks

-- P holds of each item and its line's number; the first item stands at this line
abbrev pub AllFrom : (ℕ → Item → Type 0) → ℕ → List Item → Type 0
AllFrom P line [] = ⊤
AllFrom P line (item ∷ items) = P line item × AllFrom P (line + 1) items

module _ (P : ℕ → Item → Type 0) where
  -- The blocks of a script.

  AllPlacedParts : List Part → Type 0
  AllPlacedParts [] = Unit {0}
  AllPlacedParts (part ∷ parts) = AllPlaced P part.blocks × AllPlaced P (branch part.second) × AllPlacedParts parts

  AllPlacedParts-with_item : (line : ℕ) (item : Item) (parts : List Part) → P line item → AllPlacedParts parts
      → AllPlacedParts (with_item line item parts)
  unfolding AllPlacedParts
  AllPlacedParts-with_item line item parts here h = grind arith

  AllPlacedParts-parts_from : (line : ℕ) (items : List Item) → AllFrom P line items
      → AllPlacedParts (parts_from line items)
  unfolding AllPlacedParts
  AllPlacedParts-parts_from line [] h = (tt, tt, tt)
  AllPlacedParts-parts_from line (item ∷ items) h =
      AllPlacedParts-with_item line item (parts_from (line + 1) items) h.0
      (AllPlacedParts-parts_from (line + 1) items h.1)

  AllPlaced-outermost_blocks : (parts : List Part) → AllPlacedParts parts → AllPlaced P (outermost_blocks parts)
  unfolding AllPlacedParts
  AllPlaced-outermost_blocks x0 h = grind arith

  pub placed_of_script : (line : ℕ) (items : List Item) → AllFrom P line items → AllPlaced P (blocks_from line items)
  placed_of_script line items h =
      AllPlaced-outermost_blocks (parts_from line items) (AllPlacedParts-parts_from line items h)

  -- What a run leaves.

  pub AllPlaced-followed_by : (a b : Blocks) → AllPlaced P a → AllPlaced P b → AllPlaced P (followed_by a b)
  AllPlaced-followed_by Done b h more = more
  AllPlaced-followed_by (Line line item rest) b h more = (h.0, AllPlaced-followed_by rest b h.1 more)
  AllPlaced-followed_by (Rounds rounds body rest) b h more = (h.0, AllPlaced-followed_by rest b h.1 more)
  AllPlaced-followed_by (Choice number first second rest) b h more = (h.0, h.1, AllPlaced-followed_by rest b h.2 more)

  AllPlaced-then_run : (fed : Fed) (go : Fed → Fed) (rest : Blocks) → AllPlaced P fed.left
      → ((f : Fed) → AllPlaced P (go f).left) → AllPlaced P rest → AllPlaced P (then_run fed go rest).left
  AllPlaced-then_run fed go rest h goes behind = by_test (is_end_of_block fed.left)
    where
      by_test : (t : Bool) → AllPlaced P (if t then go fed else record fed { left = followed_by fed.left rest }).left
      by_test true = goes fed
      by_test false = AllPlaced-followed_by fed.left rest h behind

  AllPlaced-run_rounds : (rounds : ℕ) (body : Blocks) (go : Fed → Fed) → AllPlaced P body
      → ((f : Fed) → AllPlaced P (go f).left) → (fed : Fed) → AllPlaced P (run_rounds rounds body go fed).left
  AllPlaced-run_rounds zero body go inside goes fed = tt
  AllPlaced-run_rounds (suc more) body go inside goes fed =
      AllPlaced-then_run (go fed) (run_rounds more body go) (Rounds more body Done) (goes fed)
      (AllPlaced-run_rounds more body go inside goes) (inside, tt)

  pub AllPlaced-run : (scope : Scope) (b : Blocks) → AllPlaced P b → (fed : Fed) → AllPlaced P (run scope b fed).left
  AllPlaced-run scope Done h fed = tt
  AllPlaced-run scope (Line line item rest) h fed =
      by_test (is_some (op_of scope fed item)) (AllPlaced-run scope rest h.1 (run_line scope fed item))
    where
      by_test : (t : Bool) → AllPlaced P (run scope rest (run_line scope fed item)).left → AllPlaced P
          (if t then record fed { left = Line line item rest } else run scope rest (run_line scope fed item)).left
      by_test x0 ran = grind arith
  AllPlaced-run scope (Rounds rounds body rest) h fed =
      AllPlaced-then_run (run_rounds rounds body (run scope body) fed) (run scope rest) rest (AllPlaced-run_rounds
      rounds body (run scope body) h.0 (AllPlaced-run scope body h.0) fed) (AllPlaced-run scope rest h.1) h.1
  AllPlaced-run scope (Choice number first second rest) h fed =
      AllPlaced-then_run (if number_in scope fed number == 0 then run scope second fed else run scope first fed)
      (run scope rest) rest (by_test (number_in scope fed number == 0) (AllPlaced-run scope first h.0 fed)
      (AllPlaced-run scope second h.1 fed)) (AllPlaced-run scope rest h.2) h.2
    where
      by_test : (t : Bool) → AllPlaced P (run scope first fed).left → AllPlaced P (run scope second fed).left
          → AllPlaced P (if t then run scope second fed else run scope first fed).left
      by_test x0 f g = grind arith

  -- What answers leave.

  AllPlaced-take_answer : (scope : Scope) (fed : Fed) (left : Blocks) (a : Answer) → AllPlaced P left
      → AllPlaced P fed.left → AllPlaced P (take_answer scope fed left a).left
  AllPlaced-take_answer scope fed (Line line item rest) a h now =
      AllPlaced-run scope rest h.1 (with_answer scope (note fed (op_of scope fed item) line a) item a)
  AllPlaced-take_answer scope fed _ a h now = now

  pub AllPlaced-take_answers : (scope : Scope) (answers : List Answer) (fed : Fed) → AllPlaced P fed.left
      → AllPlaced P (take_answers scope fed answers).left
  AllPlaced-take_answers scope [] fed h = h
  AllPlaced-take_answers scope (a ∷ answers) fed h =
      AllPlaced-take_answers scope answers (take_answer scope fed fed.left a)
      (AllPlaced-take_answer scope fed fed.left a h h)

  -- Whatever holds of each line of a script holds of each that is left.
  pub placed_left : (program : List Item) (k : ℕ) (answers : List Answer)
      → AllFrom P (script_of program k).line (script_of program k).items → AllPlaced P (feed program k answers).left
  placed_left program k answers h =
      let script = script_of program k in
      let scope = script_scope program k in
      AllPlaced-take_answers scope answers (fed_before_answers scope script) (AllPlaced-run scope (blocks_from
      script.line script.items) (placed_of_script script.line script.items h) (fed_before_lines scope script))

-- a script stands at a line, which P holds of, and waits for its operation's answer
pub record IsAtLine (P : ℕ → Item → Type 0) (scope : Scope) (fed : Fed) (o : Op) : Type 0 where
  pub line : ℕ
  pub item : Item
  pub rest : Blocks
  pub left : fed.left ≡ Line line item rest
  pub holds : P line item
  pub op : op_of scope fed item ≡ Some o

line_of_op : (P : ℕ → Item → Type 0) (scope : Scope) (fed : Fed) (left : Blocks) (o : Op) → fed.left ≡ left
    → AllPlaced P left → first_op scope fed left ≡ Some o → IsAtLine P scope fed o
line_of_op x0 scope fed x3 o is h e = grind arith

-- An operation that is asked for is that of a line of the script.
pub next_placed : (P : ℕ → Item → Type 0) (program : List Item) (k : ℕ) (answers : List Answer) (o : Op)
    → AllFrom P (script_of program k).line (script_of program k).items → next_op program k answers ≡ Some o
    → IsAtLine P (script_scope program k) (feed program k answers) o
next_placed P program k answers o h e =
    let fed = feed program k answers in
    line_of_op P (script_scope program k) fed fed.left o refl (placed_left P program k answers h) e

-- The same of items, whichever line they stand at.

pub AllFrom-All : (P : Item → Type 0) (line : ℕ) (items : List Item) → All P items → AllFrom (λ l. P) line items
AllFrom-All P line [] h = tt
AllFrom-All P line (item ∷ items) h =
    (All-head P item items h, AllFrom-All P (line + 1) items (All-tail P item items h))

pub lines_of_script : (P : Item → Type 0) (line : ℕ) (items : List Item) → All P items
    → AllLines P (blocks_from line items)
lines_of_script P line items h = placed_of_script (λ l. P) line items (AllFrom-All P line items h)

-- The lines around a line.

-- the item stands in the script, at this line
pub record StandsIn (script : ScriptText) (line : ℕ) (item : Item) : Type 0 where
  pub before : List Item
  pub behind : List Item
  pub items : script.items ≡ before ++ item ∷ behind
  pub at : line ≡ script.line + length before

stand_from : (script : ScriptText) (before items : List Item) (line : ℕ) → script.items ≡ before ++ items
    → line ≡ script.line + length before → AllFrom (StandsIn script) line items
stand_from script before [] line is at = tt
stand_from script before (item ∷ items) line is at = (
  record { before = before; behind = items; items = is; at = at },
  stand_from script (before ++ item ∷ []) items (line + 1) (is
      ∙ sym (append_assoc before (item ∷ []) items)) (omega (arith, length_push before item)),
)

pub all_stand : (script : ScriptText) → AllFrom (StandsIn script) script.line script.items
all_stand script = stand_from script [] script.items script.line refl (omega arith)

-- So does the line whose operation is asked for.
pub next_stands : (program : List Item) (k : ℕ) (answers : List Answer) (o : Op) → next_op program k answers ≡ Some o
    → IsAtLine (StandsIn (script_of program k)) (script_scope program k) (feed program k answers) o
next_stands program k answers o e = grind (arith, next_placed, all_stand)
